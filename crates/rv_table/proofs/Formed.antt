-- Each operation that a word has is well-formed.
use Rattle.std.proofs.Common.{◌≡◌, ℕ, ◌+◌, ◌*◌, ◌/◌, ◌%◌, ◌^◌, ◌<◌, ◌==◌, ◌&&◌, ◌||◌, ◌⊎◌, inl, inr, Bool, true, IsTrue, arith, ap, sym, ◌∙◌, refl, subst}
use Rattle.std.proofs.lemmas.Bool.{eq-eqb, and_from}
use Rattle.std.proofs.lemmas.Bool.Decides.{nat_tests}
use Rattle.rv_table.proofs.RowLookups.{row_of-word, worded}
use Rattle.rv_table.proofs.WordTable.{decoded, decode-code, decode-rd, decode-rs1, decode-rs2, form_code}
use Rattle.rv_table.specs.Codes.{code_of}
use Rattle.rv_table.specs.Operations.{form_of, has_row}
use Rattle.rv_table.specs.Rows.{has_word, row_of}
use Rattle.rv_table.specs.WellFormed.{fits, is_register, is_signed, well_formed}
use Rattle.rv_table.specs.Words.{decode, op_of_form, row_of_word, sign_extended}
use Rattle.rv_table.specs.declared.form.Form.{Form}
use Rattle.rv_table.specs.declared.form.Form.TheVariants.{U, J, I, B, S, Shift, R, Call, Counter, NoFields}

signed_12 : (v : ℕ) → v < 2 ^ 12 → is_signed 12 (sign_extended 12 v) ≡ true
signed_12 v h = grind (arith, nat_tests)

signed_13 : (v : ℕ) → v < 2 ^ 13 → is_signed 13 (sign_extended 13 v) ≡ true
signed_13 v h = grind (arith, nat_tests)

signed_21 : (v : ℕ) → v < 2 ^ 21 → is_signed 21 (sign_extended 21 v) ≡ true
signed_21 v h = grind (arith, nat_tests)

even_13 : (v : ℕ) → v % 2 ≡ 0 → sign_extended 13 v % 2 ≡ 0
even_13 v h = grind (arith, nat_tests)

even_21 : (v : ℕ) → v % 2 ≡ 0 → sign_extended 21 v % 2 ≡ 0
even_21 v h = grind (arith, nat_tests)

all_five : {a b c d e : Bool} → a ≡ true → b ≡ true → c ≡ true → d ≡ true → e ≡ true → (a && b && c && d && e) ≡ true
all_five ha hb hc hd he = grind (arith, nat_tests)

register_fits : (n : ℕ) → is_register (n % 2 ^ 5) ≡ true
register_fits n = grind (arith, nat_tests)

form_fits : (form : Form) (code w : ℕ) → w < 2 ^ 32 → fits form (op_of_form form code w) ≡ true
unfolding fits
form_fits U code w h = grind (arith, nat_tests)
form_fits J code w h =
    let v : ℕ = w / 2 ^ 31 * 2 ^ 20 + w / 2 ^ 12 % 2 ^ 8 * 2 ^ 12 + w / 2 ^ 20 % 2 * 2 ^ 11 + w / 2 ^ 21 % 2 ^ 10 * 2 in
    let k = signed_21 v (omega arith) in
    let even = eq-eqb _ _ (even_21 v (omega arith)) in
    all_five (register_fits (w / 2 ^ 7)) refl refl even k
form_fits I code w h = let k = signed_12 (w / 2 ^ 20) (omega arith) in grind (arith, nat_tests)
form_fits B code w h =
    let v : ℕ = w / 2 ^ 31 * 2 ^ 12 + w / 2 ^ 7 % 2 * 2 ^ 11 + w / 2 ^ 25 % 2 ^ 6 * 2 ^ 5 + w / 2 ^ 8 % 2 ^ 4 * 2 in
    let k = signed_13 v (omega arith) in
    let even = eq-eqb _ _ (even_13 v (omega arith)) in
    all_five refl (register_fits (w / 2 ^ 15)) (register_fits (w / 2 ^ 20)) even k
form_fits S code w h = let k = signed_12 (w / 2 ^ 25 * 2 ^ 5 + w / 2 ^ 7 % 2 ^ 5) (omega arith) in grind (arith, nat_tests)
form_fits Shift code w h = grind (arith, nat_tests)
form_fits R code w h = grind (arith, nat_tests)
form_fits Call code w h = refl
form_fits Counter code w h = grind (arith, nat_tests)
form_fits NoFields code w h = refl

-- a code that comes from a word has words
code_of-coded : (w : ℕ) → (code_of w ≡ 0) ⊎ (has_row (code_of w) ≡ true)
unfolding code_of has_row
code_of-coded w = go (worded w)
  where
    go : ((row_of_word w).code ≡ 0) ⊎ (has_word (row_of_word w).fixed ≡ true) → ((row_of_word w).code ≡ 0) ⊎ (has_word (row_of (row_of_word w).code).fixed ≡ true)
    go (inl e) = inl e
    go (inr h) = inr (ap (λ r. has_word r.fixed) (row_of-word w) ∙ h)

worded_test : (code : ℕ) → (code ≡ 0) ⊎ (has_row code ≡ true) → (code == 0 || has_row code) ≡ true
worded_test code (inl e) = rw e refl
worded_test code (inr h) = rw h (grind (arith, nat_tests))

formed : (form : Form) (code w : ℕ) → form_of code ≡ form → (code ≡ 0) ⊎ (has_row code ≡ true) → w < 2 ^ 32 → well_formed (op_of_form form code w) ≡ true
unfolding well_formed
formed form code w e h k =
    let same : (op_of_form form code w).code ≡ code = form_code form code w in
    let coded = subst (λ (c : ℕ). (c ≡ 0) ⊎ (has_row c ≡ true)) (sym same) h in
    let formed : form_of (op_of_form form code w).code ≡ form = ap form_of same ∙ e in
    and_from _ _ (worded_test (op_of_form form code w).code coded) (ap (λ f. fits f (op_of_form form code w)) formed ∙ form_fits form code w k)

pub decode-well_formed : (w : ℕ) → w < 2 ^ 32 → IsTrue (well_formed (decode w))
decode-well_formed w h =
    let e : well_formed (decode w) ≡ true = ap well_formed (sym (decoded w)) ∙ formed (form_of (code_of w)) (code_of w) w refl (code_of-coded w) h in
    e

pub ruleset decoding = (decoded, decode-code, decode-rd, decode-rs1, decode-rs2, decode-well_formed)
