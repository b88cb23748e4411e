-- Pieces that are put together.
use Rattle.std.proofs.Common.{◌≡◌, ℕ, ◌+◌, ◌<◌, ◌≤◌, List, [], ◌++◌, length, take, drop, Option, None, Some, sym, ap, ◌∙◌, subst, append_assoc, append-nil}
use Rattle.std.proofs.Math.Seq.{take-add, take-append_seam}
use Rattle.std.proofs.lemmas.List.{take-append-drop, drop-drop, length-take-le}
use Rattle.avf_base.specs.Moves.{Grows, IsPiece}

pub Grows-nothing : (a : Option (List ℕ)) → Grows a a []
Grows-nothing None = tt
Grows-nothing (Some x) = sym (append-nil x)

pub Grows-more : (a b c : Option (List ℕ)) (xs ys : List ℕ) → Grows a b xs → Grows b c ys → Grows a c (xs ++ ys)
Grows-more a b None xs ys p q = tt
Grows-more a None (Some z) xs ys p q = absurd q
Grows-more None (Some y) (Some z) xs ys p q = absurd p
Grows-more (Some x) (Some y) (Some z) xs ys p q = q ∙ ap (λ l. l ++ ys) p ∙ append_assoc x xs ys

-- a write takes a front of what isn't taken yet
pub Grows-on : (a b c : Option (List ℕ)) (text piece : List ℕ) (at n : ℕ) → Grows a b (take at text) → Grows b c (take n piece) → piece ≡ drop at text
    → Grows a c (take (at + n) text)
Grows-on a b c text piece at n p q e =
    subst (Grows a c) (sym (take-add at n text ∙ ap (λ l. take at text ++ take n l) (sym e))) (Grows-more a b c (take at text) (take n piece) p q)

-- what is copied into the front of a buffer
pub copied : (contents more : List ℕ) (at n : ℕ) → n ≤ length (drop at contents)
    → drop at contents ≡ take n (take n (drop at contents) ++ more) ++ drop (at + n) contents
copied contents more at n h =
    let e : length (take n (drop at contents)) ≡ n = length-take-le n (drop at contents) h in
    let f : take n (take n (drop at contents) ++ more) ≡ take n (drop at contents) =
    subst (λ k. take k (take n (drop at contents) ++ more) ≡ take n (drop at contents)) e (take-append_seam (take n (drop at contents)) more) in
    sym (take-append-drop n (drop at contents)) ∙ ap (λ l. l ++ drop n (drop at contents)) (sym f)
    ∙ ap (λ l. take n (take n (drop at contents) ++ more) ++ l) (drop-drop n at contents)

pub is_piece : (contents front more : List ℕ) (at n : ℕ) → front ≡ take n (drop at contents) → n ≤ length (drop at contents)
    → (n ≡ 0 → 0 < length (front ++ more) → length contents ≤ at) → IsPiece contents at n (front ++ more)
is_piece contents front more at n e h z = record { bytes = rw e (copied contents more at n h); ended = z }

pub ruleset lemmas = (Grows-nothing, Grows-on)
