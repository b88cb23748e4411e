-- The laws of a flip for a list of elements of w bits each, from those of an element.
use Rattle.std.proofs.Common.{◌≡◌, ◌≢◌, ℕ, ◌+◌, ◌-◌, ◌*◌, ◌/◌, ◌%◌, ◌^◌, ◌<◌, List, length, get_or, refl, sym, ◌∙◌, ap, subst, inl, inr}
use Rattle.std.specs.List.{All}
use Rattle.std.specs.Prelude.{bit_xor}
use Rattle.std.specs.Int.{bit_at}
use Rattle.std.proofs.Math.ListN.{set}
use Rattle.std.proofs.Math.Nat.{mul_comm}
use Rattle.std.proofs.lemmas.Bool.{cases_eq}
use Rattle.std.proofs.lemmas.Nat.{div-mul-add, mod-mul-add, div_below, mod_below, div-add-mod', mul-add-lt}
use Rattle.std.proofs.lemmas.Nat.Bits.{bit_at-lt, same_from_bits_below}
use Rattle.std.proofs.lemmas.List.{length-set, get_or-set_same, get_or-set_other, set-set, set-get_or, ext_get_or}
use Rattle.std.proofs.lemmas.List.Elements.{All-set}
use Rattle.bit_field.specs.Arrays.{bit_of_array, flip_array, IsArray}
use Rattle.bit_field.specs.Laws.{FlipLaws}
use Rattle.bit_field.proofs.Bits.{bit_at-flip_same, bit_at-flip_other, flip_below, flip_twice}

-- a number of w bits
pub laws_of_number : (w : ℕ) → FlipLaws (λ v. v < 2 ^ w) (λ _. w) bit_at (λ v k. bit_xor v (2 ^ k))
laws_of_number w = record {
  fit_stays = λ v k h l. flip_below v k w h l;
  count_stays = λ v k h l. refl;
  is_bit = λ v k. bit_at-lt v k;
  flips_it = λ v k h l. bit_at-flip_same v k;
  flips_no_other = λ v k j h l m ne. bit_at-flip_other v k j ne;
  restores = λ v k h l. flip_twice v k;
  same = λ v u h i e bits. same_from_bits_below w v u h i bits;
}

-- two places in one element differ within it
apart_within : (w k j : ℕ) → j ≢ k → j / w ≡ k / w → j % w ≢ k % w
apart_within w k j ne e f = ne (sym (div-add-mod' j w) ∙ ap (λ (q : ℕ). q * w + j % w) e ∙ ap (λ (r : ℕ). k / w * w + r) f ∙ div-add-mod' k w)

-- ---- lists of elements of w bits

list_fits : {A : Type 0} (w : ℕ) (d : A) (IsFit : A → Type 0) (bit_of : A → ℕ → ℕ) (flipped : A → ℕ → A) → 0 < w
    → FlipLaws IsFit (λ _. w) bit_of flipped → (xs : List A) (k : ℕ) → All IsFit xs → k < length xs * w → All IsFit (flip_array w d flipped xs k)
list_fits w d IsFit bit_of flipped pos laws xs k h l =
    All-set IsFit xs (k / w) _ (laws.fit_stays _ (k % w) (h (k / w) d (div_below k w (length xs) pos l)) (mod_below k w pos)) h

list_flips_it : {A : Type 0} (w : ℕ) (d : A) (IsFit : A → Type 0) (bit_of : A → ℕ → ℕ) (flipped : A → ℕ → A) → 0 < w
    → FlipLaws IsFit (λ _. w) bit_of flipped → (xs : List A) (k : ℕ) → All IsFit xs → k < length xs * w
    → bit_of_array w d bit_of (flip_array w d flipped xs k) k ≡ 1 - bit_of_array w d bit_of xs k
list_flips_it w d IsFit bit_of flipped pos laws xs k h l =
    let within : k / w < length xs = div_below k w (length xs) pos l in
    ap (λ x. bit_of x (k % w)) (get_or-set_same xs (k / w) _ d within) ∙ laws.flips_it _ (k % w) (h (k / w) d within) (mod_below k w pos)

list_flips_no_other : {A : Type 0} (w : ℕ) (d : A) (IsFit : A → Type 0) (bit_of : A → ℕ → ℕ) (flipped : A → ℕ → A) → 0 < w
    → FlipLaws IsFit (λ _. w) bit_of flipped → (xs : List A) (k j : ℕ) → All IsFit xs → k < length xs * w → j ≢ k
    → bit_of_array w d bit_of (flip_array w d flipped xs k) j ≡ bit_of_array w d bit_of xs j
list_flips_no_other w d IsFit bit_of flipped pos laws xs k j h l ne =
    let within : k / w < length xs = div_below k w (length xs) pos l in
    elim (cases_eq (j / w) (k / w)) [
      | inl e ↦
          let there : get_or (flip_array w d flipped xs k) (j / w) d ≡ flipped (get_or xs (k / w) d) (k % w) = rw e (get_or-set_same xs (k / w) _ d within) in
          ap (λ x. bit_of x (j % w)) there
          ∙ laws.flips_no_other _ (k % w) (j % w) (h (k / w) d within) (mod_below k w pos) (mod_below j w pos) (apart_within w k j ne e)
          ∙ ap (λ (i : ℕ). bit_of (get_or xs i d) (j % w)) (sym e)
      | inr other ↦ ap (λ x. bit_of x (j % w)) (get_or-set_other xs (k / w) (j / w) _ d other)
    ]

list_restores : {A : Type 0} (w : ℕ) (d : A) (IsFit : A → Type 0) (bit_of : A → ℕ → ℕ) (flipped : A → ℕ → A) → 0 < w
    → FlipLaws IsFit (λ _. w) bit_of flipped → (xs : List A) (k : ℕ) → All IsFit xs → k < length xs * w
    → flip_array w d flipped (flip_array w d flipped xs k) k ≡ xs
list_restores w d IsFit bit_of flipped pos laws xs k h l =
    let within : k / w < length xs = div_below k w (length xs) pos l in
    let once = get_or xs (k / w) d in
    ap (λ x. set (flip_array w d flipped xs k) (k / w) (flipped x (k % w))) (get_or-set_same xs (k / w) _ d within)
    ∙ ap (λ x. set (flip_array w d flipped xs k) (k / w) x) (laws.restores once (k % w) (h (k / w) d within) (mod_below k w pos))
    ∙ set-set xs (k / w) _ once
    ∙ set-get_or xs (k / w) d

-- bit i of element n
element_bit : {A : Type 0} (w : ℕ) (d : A) (bit_of : A → ℕ → ℕ) (xs : List A) (n i : ℕ) → i < w
    → bit_of_array w d bit_of xs (n * w + i) ≡ bit_of (get_or xs n d) i
element_bit w d bit_of xs n i l =
    ap (λ (m : ℕ). bit_of (get_or xs m d) ((n * w + i) % w)) (div-mul-add n w i l) ∙ ap (λ (r : ℕ). bit_of (get_or xs n d) r) (mod-mul-add n w i l)

list_same : {A : Type 0} (w : ℕ) (d : A) (IsFit : A → Type 0) (bit_of : A → ℕ → ℕ) (flipped : A → ℕ → A) → FlipLaws IsFit (λ _. w) bit_of flipped
    → (xs ys : List A) → All IsFit xs → All IsFit ys → length xs ≡ length ys
    → ((k : ℕ) → k < length xs * w → bit_of_array w d bit_of xs k ≡ bit_of_array w d bit_of ys k) → xs ≡ ys
list_same w d IsFit bit_of flipped laws xs ys h i e bits =
    ext_get_or d xs ys e (λ n l. laws.same _ _ (h n d l) (i n d (rw (sym e) l)) refl (λ j m.
    sym (element_bit w d bit_of xs n j m) ∙ bits (n * w + j) (rw (mul_comm (length xs) w) (mul-add-lt n w j (length xs) l m))
    ∙ element_bit w d bit_of ys n j m))

-- ---- the laws

-- lists of elements of the same width with equally many bits are equally long
same_length : (w n m : ℕ) → 0 < w → n * w ≡ m * w → n ≡ m
same_length w n m pos e = sym (div-mul-add n w 0 pos) ∙ ap (λ (q : ℕ). (q + 0) / w) e ∙ div-mul-add m w 0 pos

-- a list of any length
pub laws_of_list : {A : Type 0} (w : ℕ) (d : A) (IsFit : A → Type 0) (bit_of : A → ℕ → ℕ) (flipped : A → ℕ → A) → 0 < w
    → FlipLaws IsFit (λ _. w) bit_of flipped → FlipLaws (All IsFit) (λ xs. length xs * w) (bit_of_array w d bit_of) (flip_array w d flipped)
laws_of_list w d IsFit bit_of flipped pos laws = record {
  fit_stays = list_fits w d IsFit bit_of flipped pos laws;
  count_stays = λ xs k h l. ap (λ (n : ℕ). n * w) (length-set xs (k / w) _);
  is_bit = λ xs k. laws.is_bit _ (k % w);
  flips_it = list_flips_it w d IsFit bit_of flipped pos laws;
  flips_no_other = λ xs k j h l m ne. list_flips_no_other w d IsFit bit_of flipped pos laws xs k j h l ne;
  restores = list_restores w d IsFit bit_of flipped pos laws;
  same = λ xs ys h i e bits. list_same w d IsFit bit_of flipped laws xs ys h i (same_length w _ _ pos e) bits;
}

-- n elements
pub laws_of_array : {A : Type 0} (n w : ℕ) (d : A) (IsFit : A → Type 0) (bit_of : A → ℕ → ℕ) (flipped : A → ℕ → A) → 0 < w
    → FlipLaws IsFit (λ _. w) bit_of flipped → FlipLaws (IsArray n IsFit) (λ _. n * w) (bit_of_array w d bit_of) (flip_array w d flipped)
laws_of_array n w d IsFit bit_of flipped pos laws = record {
  fit_stays = λ xs k h l. (length-set xs (k / w) _ ∙ h.0, list_fits w d IsFit bit_of flipped pos laws xs k h.1 (rw h.0 l));
  count_stays = λ xs k h l. refl;
  is_bit = λ xs k. laws.is_bit _ (k % w);
  flips_it = λ xs k h l. list_flips_it w d IsFit bit_of flipped pos laws xs k h.1 (rw h.0 l);
  flips_no_other = λ xs k j h l m ne. list_flips_no_other w d IsFit bit_of flipped pos laws xs k j h.1 (rw h.0 l) ne;
  restores = λ xs k h l. list_restores w d IsFit bit_of flipped pos laws xs k h.1 (rw h.0 l);
  same = λ xs ys h i e bits. list_same w d IsFit bit_of flipped laws xs ys h.1 i.1 (h.0 ∙ sym i.0) (λ k l. bits k (rw (sym h.0) l));
}

-- Values that show numbers of a width that goes with the value: they have that width and list in common
-- where they have equally many bits, and nothing else to tell them apart.
pub record ShowsNumbers {S : Type 0} (IsFit : S → Type 0) (width : S → ℕ) (numbers : S → List ℕ) (flipped : S → ℕ → S) : Type 0 where
  pub positive : (x : S) → IsFit x → 0 < width x
  pub numbers_fit : (x : S) → IsFit x → All (λ v. v < 2 ^ width x) (numbers x)
  pub flips : (x : S) (k : ℕ) → numbers (flipped x k) ≡ flip_array (width x) 0 (λ v i. bit_xor v (2 ^ i)) (numbers x) k
  pub width_stays : (x : S) (k : ℕ) → width (flipped x k) ≡ width x
  pub fit_stays : (x : S) (k : ℕ) → IsFit x → All (λ v. v < 2 ^ width x) (numbers (flipped x k)) → IsFit (flipped x k)
  pub same_width : (x y : S) → IsFit x → IsFit y → length (numbers x) * width x ≡ length (numbers y) * width y → width x ≡ width y
  pub same : (x y : S) → IsFit x → IsFit y → width x ≡ width y → numbers x ≡ numbers y → x ≡ y

-- the bits of such a value
abbrev pub bit_of_numbers : {S : Type 0} → (S → ℕ) → (S → List ℕ) → S → ℕ → ℕ
bit_of_numbers width numbers x k = bit_of_array (width x) 0 bit_at (numbers x) k

numbers_same : (v w : ℕ) (xs ys : List ℕ) → 0 < v → v ≡ w → All (λ x. x < 2 ^ v) xs → All (λ x. x < 2 ^ w) ys → length xs * v ≡ length ys * w
    → ((k : ℕ) → k < length xs * v → bit_of_array v 0 bit_at xs k ≡ bit_of_array w 0 bit_at ys k) → xs ≡ ys
numbers_same v w xs ys pos e h i c bits =
    let P : ℕ → Type 0 =
    λ u. All (λ x. x < 2 ^ u) ys → length xs * v ≡ length ys * u →
    ((k : ℕ) → k < length xs * v → bit_of_array v 0 bit_at xs k ≡ bit_of_array u 0 bit_at ys k) → xs ≡ ys in
    subst P e
    (λ j f same. list_same v 0 (λ x. x < 2 ^ v) bit_at (λ x k. bit_xor x (2 ^ k)) (laws_of_number v) xs ys h j (same_length v _ _ pos f) same) i c
    bits

numbers_fit_stays : {S : Type 0} (IsFit : S → Type 0) (width : S → ℕ) (numbers : S → List ℕ) (flipped : S → ℕ → S)
    → ShowsNumbers IsFit width numbers flipped → (x : S) (k : ℕ) → IsFit x → k < length (numbers x) * width x → IsFit (flipped x k)
numbers_fit_stays IsFit width numbers flipped shows x k h l =
    shows.fit_stays x k h
    (rw (shows.flips x k) (list_fits (width x) 0 _ bit_at _ (shows.positive x h) (laws_of_number (width x)) (numbers x) k (shows.numbers_fit x h) l))

numbers_count_stays : {S : Type 0} (IsFit : S → Type 0) (width : S → ℕ) (numbers : S → List ℕ) (flipped : S → ℕ → S)
    → ShowsNumbers IsFit width numbers flipped → (x : S) (k : ℕ) → length (numbers (flipped x k)) * width (flipped x k) ≡ length (numbers x) * width x
numbers_count_stays IsFit width numbers flipped shows x k =
    rw (shows.width_stays x k, shows.flips x k) (ap (λ (n : ℕ). n * width x) (length-set (numbers x) (k / width x) _))

numbers_restores : {S : Type 0} (IsFit : S → Type 0) (width : S → ℕ) (numbers : S → List ℕ) (flipped : S → ℕ → S)
    → ShowsNumbers IsFit width numbers flipped → (x : S) (k : ℕ) → IsFit x → k < length (numbers x) * width x → flipped (flipped x k) k ≡ x
numbers_restores IsFit width numbers flipped shows x k h l =
    let once : IsFit (flipped x k) = numbers_fit_stays IsFit width numbers flipped shows x k h l in
    let twice : IsFit (flipped (flipped x k) k) =
    numbers_fit_stays IsFit width numbers flipped shows (flipped x k) k once (rw (numbers_count_stays IsFit width numbers flipped shows x k) l) in
    shows.same _ x twice h
    (shows.width_stays (flipped x k) k ∙ shows.width_stays x k)
    (rw (shows.flips (flipped x k) k, shows.width_stays x k, shows.flips x k)
    (list_restores (width x) 0 _ bit_at _ (shows.positive x h) (laws_of_number (width x)) (numbers x) k (shows.numbers_fit x h) l))

pub laws_of_numbers : {S : Type 0} (IsFit : S → Type 0) (width : S → ℕ) (numbers : S → List ℕ) (flipped : S → ℕ → S)
    → ShowsNumbers IsFit width numbers flipped → FlipLaws IsFit (λ x. length (numbers x) * width x) (bit_of_numbers width numbers) flipped
laws_of_numbers IsFit width numbers flipped shows = record {
  fit_stays = numbers_fit_stays IsFit width numbers flipped shows;
  count_stays = λ x k h l. numbers_count_stays IsFit width numbers flipped shows x k;
  is_bit = λ x k. bit_at-lt _ (k % width x);
  flips_it = λ x k h l.
      rw (shows.width_stays x k, shows.flips x k)
      (list_flips_it (width x) 0 _ bit_at _ (shows.positive x h) (laws_of_number (width x)) (numbers x) k (shows.numbers_fit x h) l);
  flips_no_other = λ x k j h l m ne.
      rw (shows.width_stays x k, shows.flips x k)
      (list_flips_no_other (width x) 0 _ bit_at _ (shows.positive x h) (laws_of_number (width x)) (numbers x) k j (shows.numbers_fit x h) l ne);
  restores = numbers_restores IsFit width numbers flipped shows;
  same = λ x y h i c bits.
      let e : width x ≡ width y = shows.same_width x y h i c in shows.same x y h i e
      (numbers_same _ _ _ _ (shows.positive x h) e (shows.numbers_fit x h) (shows.numbers_fit y i) c bits);
}
