-- The instructions that are read have a word, form by form.
use Rattle.std.proofs.Common.{◌≡◌, ℕ, ◌<◌, true, refl, arith, inl, inr, lit<}
use Rattle.std.specs.Prelude.{IsTrue}
use Rattle.std.proofs.lemmas.Bool.{eqb-true, false≢true, or_cases}
use Rattle.std.proofs.lemmas.Bool.Decides.{nat_tests}
use Rattle.rv_table.proofs.Encoded.{fit, fits_r}
use Rattle.rv_table.specs.Operations.{form_of, has_row, of_registers}
use Rattle.rv_table.specs.Rows.{row_of}
use Rattle.rv_table.specs.WellFormed.{fits, well_formed}
use Rattle.rv_table.specs.declared.codes.TheConstants.{ADDI, BEQ, BNE, JAL, JALR}
use Rattle.rv_table.specs.declared.form.Form.{Form}
use Rattle.rv_table.specs.declared.form.Form.TheVariants.{U, J, I, B, S, Shift, R, Call as SystemCall, NoFields}
use Rattle.rv_asm.specs.declared.statement.TheConstants.{A0, A7, RA}
use Rattle.rv_asm.specs.Sound.{IsReadyFor, takes_number, branches, takes_offset, takes_two}

fits_u : (code rd : ℕ) → rd < 32 → fits U (of_registers code rd 0 0) ≡ true
unfolding fits
fits_u code rd h = grind (arith, nat_tests)

pub sound_u : (code rd : ℕ) → has_row code ≡ true → form_of code ≡ U → rd < 32 → IsReadyFor takes_number (of_registers code rd 0 0)
sound_u code rd row is h = record { formed = fit U (of_registers code rd 0 0) row is (fits_u code rd h); zero_immediate = refl; taking = rw is refl }

fits_j : (code rd : ℕ) → rd < 32 → fits J (of_registers code rd 0 0) ≡ true
unfolding fits
fits_j code rd h = grind (arith, nat_tests)

pub sound_j : (code rd : ℕ) → has_row code ≡ true → form_of code ≡ J → rd < 32 → IsReadyFor takes_offset (of_registers code rd 0 0)
sound_j code rd row is h = record { formed = fit J (of_registers code rd 0 0) row is (fits_j code rd h); zero_immediate = refl; taking = rw is refl }

fits_i : (code rd rs1 : ℕ) → rd < 32 → rs1 < 32 → fits I (of_registers code rd rs1 0) ≡ true
unfolding fits
fits_i code rd rs1 p q = grind (arith, nat_tests)

fits_shift : (code rd rs1 : ℕ) → rd < 32 → rs1 < 32 → fits Shift (of_registers code rd rs1 0) ≡ true
unfolding fits
fits_shift code rd rs1 p q = grind (arith, nat_tests)

pub sound_i : (code rd rs1 : ℕ) → has_row code ≡ true → takes_two (form_of code) ≡ true → rd < 32 → rs1 < 32 → IsReadyFor takes_number (of_registers code rd rs1 0)
sound_i code rd rs1 row is p q = by_form (form_of code) refl is
  where
    by_form : (form : Form) → form_of code ≡ form → takes_two form ≡ true → IsReadyFor takes_number (of_registers code rd rs1 0)
    by_form I e h = record { formed = fit I (of_registers code rd rs1 0) row e (fits_i code rd rs1 p q); zero_immediate = refl; taking = rw e refl }
    by_form Shift e h = record { formed = fit Shift (of_registers code rd rs1 0) row e (fits_shift code rd rs1 p q); zero_immediate = refl; taking = rw e refl }
    by_form _ e h = absurd (false≢true h)

fits_s : (code rs1 rs2 : ℕ) → rs1 < 32 → rs2 < 32 → fits S (of_registers code 0 rs1 rs2) ≡ true
unfolding fits
fits_s code rs1 rs2 p q = grind (arith, nat_tests)

pub sound_s : (code rs1 rs2 : ℕ) → has_row code ≡ true → form_of code ≡ S → rs1 < 32 → rs2 < 32 → IsReadyFor takes_number (of_registers code 0 rs1 rs2)
sound_s code rs1 rs2 row is p q = record { formed = fit S (of_registers code 0 rs1 rs2) row is (fits_s code rs1 rs2 p q); zero_immediate = refl; taking = rw is refl }

fits_b : (code rs1 rs2 : ℕ) → rs1 < 32 → rs2 < 32 → fits B (of_registers code 0 rs1 rs2) ≡ true
unfolding fits
fits_b code rs1 rs2 p q = grind (arith, nat_tests)

pub sound_b : (code rs1 rs2 : ℕ) → has_row code ≡ true → form_of code ≡ B → rs1 < 32 → rs2 < 32 → IsReadyFor takes_offset (of_registers code 0 rs1 rs2)
sound_b code rs1 rs2 row is p q = record { formed = fit B (of_registers code 0 rs1 rs2) row is (fits_b code rs1 rs2 p q); zero_immediate = refl; taking = rw is refl }

pub sound_r : (code rd rs1 rs2 : ℕ) → has_row code ≡ true → form_of code ≡ R → rd < 32 → rs1 < 32 → rs2 < 32 → IsTrue (well_formed (of_registers code rd rs1 rs2))
sound_r code rd rs1 rs2 row is p q r = fit R (of_registers code rd rs1 rs2) row is (fits_r code rd rs1 rs2 p q r)

-- ECALL, and the instructions with no fields

fits_call : (code : ℕ) → fits SystemCall (of_registers code 0 A7 A0) ≡ true
unfolding fits
fits_call code = refl

fits_bare : (code : ℕ) → fits NoFields (of_registers code 0 0 0) ≡ true
unfolding fits
fits_bare code = refl

pub sound_call : (code : ℕ) → has_row code ≡ true → form_of code ≡ SystemCall → IsTrue (well_formed (of_registers code 0 A7 A0))
sound_call code row is = fit SystemCall (of_registers code 0 A7 A0) row is (fits_call code)

pub sound_no_fields : (code : ℕ) → has_row code ≡ true → form_of code ≡ NoFields → IsTrue (well_formed (of_registers code 0 0 0))
sound_no_fields code row is = fit NoFields (of_registers code 0 0 0) row is (fits_bare code)

pub ruleset bare_forms = (sound_call, sound_no_fields)

-- The instructions of the further forms

pub sound_addi : (rd rs : ℕ) → rd < 32 → rs < 32 → IsTrue (well_formed (of_registers ADDI rd rs 0))
unfolding has_row form_of row_of
sound_addi rd rs p q = fit I (of_registers ADDI rd rs 0) refl refl (fits_i ADDI rd rs p q)

pub sound_jalr : (rs : ℕ) → rs < 32 → IsTrue (well_formed (of_registers JALR 0 rs 0))
unfolding has_row form_of row_of
sound_jalr rs q = fit I (of_registers JALR 0 rs 0) refl refl (fits_i JALR 0 rs (lit< tt) q)

pub sound_jal : (rd : ℕ) → rd < 32 → IsReadyFor takes_offset (of_registers JAL rd 0 0)
unfolding has_row form_of row_of
sound_jal rd h = sound_j JAL rd refl refl h

pub sound_branch : (code rs : ℕ) → IsTrue (branches code) → rs < 32 → IsReadyFor takes_offset (of_registers code 0 rs 0)
unfolding has_row form_of row_of
sound_branch code rs b h = elim (or_cases _ _ b) [
  | inl e ↦ let same : code ≡ BEQ = eqb-true _ _ e in rw same (sound_b BEQ rs 0 refl refl h (lit< tt))
  | inr e ↦ let same : code ≡ BNE = eqb-true _ _ e in rw same (sound_b BNE rs 0 refl refl h (lit< tt))
]

pub sound_nop : IsTrue (well_formed (of_registers ADDI 0 0 0))
sound_nop = sound_addi 0 0 (lit< tt) (lit< tt)

pub sound_return : IsTrue (well_formed (of_registers JALR 0 RA 0))
sound_return = sound_jalr RA (lit< tt)

pub ruleset fixed_ops = (sound_nop, sound_return)
