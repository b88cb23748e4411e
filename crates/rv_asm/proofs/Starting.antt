-- Where `_start` stands in a source without a fault: at an address of the text part, which is an instruction's or its end.
use Rattle.std.proofs.Common.{◌≡◌, ℕ, ◌+◌, ◌%◌, ◌≤◌, ◌||◌, ◌&&◌, not, Bool, true, false, cond, eqb, List, []}
use Rattle.std.proofs.Common.{◌∷◌, Option, Some, None, Result, Ok, Err, refl, ap, sym, ◌∙◌, arith, subst, inl, inr}
use Rattle.std.specs.Prelude.{bytes_eq, codes, option_and_then}
use Rattle.std.specs.Option.{option_or}
use Rattle.std.proofs.lemmas.Bool.{cases_Bool, eqb-true, eq-eqb, not-false, or_parts}
use Rattle.std.proofs.lemmas.Slice.Eq.{bytes_eq-Decides}
use Rattle.elf_write.specs.declared.layout.TheConstants.{TEXT_BASE}
use Rattle.rv_asm.specs.Faults.{fault_of, first_fault, is_bad_place, is_out_of_range, is_start, later_fault, misses, target_of}
use Rattle.rv_asm.specs.Layout.{address, behind_line, defined, definitions, end_of, first_of, grown, named, passed, place_at, size}
use Rattle.rv_asm.specs.Lines.{Line, line_of}
use Rattle.rv_asm.specs.Statements.{Statement}
use Rattle.rv_asm.specs.declared.fault.Fault.{Fault}
use Rattle.rv_asm.specs.declared.fault.Fault.TheVariants.{OutOfRange}
use Rattle.rv_asm.specs.declared.layout.Cursor.{Cursor}
use Rattle.rv_asm.specs.declared.layout.Place.{Place}
use Rattle.rv_asm.proofs.LayingOut.{bytes_eq-sym, first_of-append}
use Rattle.rv_asm.proofs.Putting.{faultless}
use Rattle.rv_asm.proofs.Searching.{go_on}

abbrev pub start_name : List ℕ
start_name = codes "_start"

-- an address of the text part, or its end
pub record StartsWell (own : Place) (end : Cursor) : Type 0 where
  pub in_text : own.in_data ≡ false
  pub aligned : own.address % 4 ≡ 0
  pub within : own.address ≤ TEXT_BASE + end.text_size
  pub above : TEXT_BASE ≤ own.address

grown-le : (c : Cursor) (n : ℕ) → c.text_size ≤ (grown c n).text_size
unfolding grown
grown-le c n = elim (cases_Bool c.in_data) [ inl h ↦ rw h (omega arith) | inr h ↦ rw h (omega arith) ]

passed-le : (c : Cursor) (line : Result Line Fault) → c.text_size ≤ (passed c line).text_size
unfolding passed
passed-le c (Ok line) = grown-le c (size line.statement)
passed-le c (Err fault) = grown-le c 4

end_of-le : (c : Cursor) (parts : List (List ℕ)) → c.text_size ≤ (end_of c parts).text_size
unfolding end_of
end_of-le c [] = omega arith
end_of-le c (bytes ∷ rest) =
    let one = passed-le c (line_of c.in_data bytes) in
    let more = end_of-le (behind_line c bytes) rest in
    omega (arith, one, more)

not_bad : (own target : Option Place) (c : Cursor) (k : ℕ) (line : Line) → later_fault own target c k line ≡ None
    → (is_start line.name && is_bad_place k own) ≡ false
unfolding later_fault
not_bad own target c k line h =
    by_tests (is_out_of_range line.statement) (misses (address c) target line.statement) (is_start line.name && is_bad_place k own) _ h
  where
    by_tests : (a b s : Bool) (o : Option Fault) → cond (a || b || s) (Some OutOfRange) o ≡ None → s ≡ false
    by_tests a b false o h = refl
    by_tests true true true o h = absurd cc
    by_tests true false true o h = absurd cc
    by_tests false true true o h = absurd cc
    by_tests false false true o h = absurd cc

no_name : (own : Place) → first_of start_name [] ≡ Some own → ⊥
unfolding first_of
no_name own h = cc

well_placed : (c : Cursor) (k : ℕ) (end : Cursor) → c.text_size ≤ end.text_size → is_bad_place k (Some (place_at c k)) ≡ false → StartsWell (place_at c k) end
unfolding address
well_placed c k end within h =
    let same : eqb k k ≡ true = eq-eqb k k refl in
    let bad : (c.in_data || not (eqb (address c % 4) 0)) ≡ false = rw same at h in
    let parts : (c.in_data ≡ false) × (not (eqb (address c % 4) 0) ≡ false) = or_parts _ _ bad in
    let where_it_is : address c ≡ TEXT_BASE + c.text_size = rw parts.0 refl in
    record {
      in_text = parts.0;
      aligned = eqb-true _ _ (not-false _ parts.1);
      within = omega (arith, where_it_is, within);
      above = omega (arith, where_it_is);
    }

-- the line that defines it first
here : (places : List ℕ → Option Place) (c : Cursor) (k : ℕ) (name : Option (List ℕ)) (s : Statement) (own : Place) (end : Cursor)
    → later_fault (option_and_then places name) (option_and_then places (target_of s)) c k (record { name = name; statement = s }) ≡ None
    → places start_name ≡ Some own → first_of start_name (named name (place_at c k)) ≡ Some own → c.text_size ≤ end.text_size → StartsWell own end
unfolding first_of
here places c k None s own end none known found within = absurd cc
here places c k (Some m) s own end none known found within = elim (cases_Bool (bytes_eq start_name m)) [
  | inl e ↦
      let same : Some (place_at c k) ≡ Some own = sym (ap (λ t. cond {A = Option Place} t (Some (place_at c k)) None) e) ∙ found in
      let is : place_at c k ≡ own = cc (same) in
      let named_so : start_name ≡ m = (bytes_eq-Decides start_name m).0 e in
      let there : places m ≡ Some own = sym (ap places named_so) ∙ known in
      let bad = not_bad (places m) (option_and_then places (target_of s)) c k (record { name = Some m; statement = s }) none in
      let good : is_bad_place k (Some own) ≡ false = rw (bytes_eq-sym m start_name, e, there) at bad in
      let P : Place → Type 0 = λ p. StartsWell p end in
      subst P is (well_placed c k end within (ap (λ (p : Place). is_bad_place k (Some p)) is ∙ good))
  | inr e ↦
      let none_there : ◌≡◌ {A = Option Place} None (Some own) = sym (ap (λ t. cond {A = Option Place} t (Some (place_at c k)) None) e) ∙ found in
      absurd cc
]

-- the line's own definition of it, or that of a line behind
here_or_later : (places : List ℕ → Option Place) (c : Cursor) (k : ℕ) (line : Result Line Fault) (rest : List (List ℕ)) (own : Place) (end : Cursor)
    → fault_of places c k line ≡ None → places start_name ≡ Some own
    → option_or (first_of start_name (defined c k line)) (first_of start_name (definitions (passed c line) (k + 1) rest)) ≡ Some own
    → c.text_size ≤ end.text_size → (first_of start_name (definitions (passed c line) (k + 1) rest) ≡ Some own → StartsWell own end) → StartsWell own end
unfolding fault_of
here_or_later places c k (Err fault) rest own end none known found within later = absurd cc
here_or_later places c k (Ok line) rest own end none known found within later =
    by_found (first_of start_name (named line.name (place_at c k))) refl found
  where
    by_found : (o : Option Place) → first_of start_name (named line.name (place_at c k)) ≡ o
        → option_or o (first_of start_name (definitions (passed c (Ok line)) (k + 1) rest)) ≡ Some own → StartsWell own end
    by_found None e h = later h
    by_found (Some p) e h = here places c k line.name line.statement own end none known (e ∙ h) within

pub starts_well : (places : List ℕ → Option Place) (c : Cursor) (k : ℕ) (parts : List (List ℕ)) (own : Place) → first_fault places c k parts ≡ None
    → places start_name ≡ Some own → first_of start_name (definitions c k parts) ≡ Some own → StartsWell own (end_of c parts)
unfolding definitions end_of
starts_well places c k [] own none known found = absurd (no_name own found)
starts_well places c k (bytes ∷ rest) own none known found =
    let line : Result Line Fault = line_of c.in_data bytes in
    let here_none : fault_of places c k line ≡ None = faultless places c k bytes (bytes ∷ rest) rest line refl refl none in
    let rest_none : first_fault places (passed c line) (k + 1) rest ≡ None = go_on places c (passed c line) k bytes (bytes ∷ rest) rest line None refl refl
    refl (sym here_none) none in
    here_or_later places c k line rest own (end_of (behind_line c bytes) rest) here_none known
    (sym (first_of-append start_name (defined c k line) (definitions (passed c line) (k + 1) rest)) ∙ found)
    (end_of-le c (bytes ∷ rest))
    (λ h. starts_well places (passed c line) (k + 1) rest own rest_none known h)
