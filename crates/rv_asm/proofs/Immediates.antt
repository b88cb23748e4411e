-- With its immediate, each instruction that is put has a word.
use Rattle.std.proofs.Common.{◌≡◌, ℕ, ◌+◌, ◌*◌, ◌/◌, ◌%◌, ◌^◌, ◌<◌, ◌≤◌}
use Rattle.std.proofs.Common.{true, eqb, ltb, refl, ap, sym, ◌∙◌, arith, lit<, lit≤, ℤ, pos}
use Rattle.std.specs.Prelude.{IsTrue, negsuc}
use Rattle.std.proofs.lemmas.Bool.{and_from, and_parts, false≢true}
use Rattle.std.proofs.lemmas.Bool.Decides.{nat_tests}
use Rattle.rv_table.proofs.Encoded.{fit}
use Rattle.rv_table.specs.Operations.{form_of, has_row, of_registers}
use Rattle.rv_table.specs.Rows.{row_of}
use Rattle.rv_table.specs.WellFormed.{fits, is_signed, well_formed}
use Rattle.rv_table.specs.Words.{sign_extended}
use Rattle.rv_table.specs.declared.codes.TheConstants.{ADDI, LUI}
use Rattle.rv_table.specs.declared.form.Form.{Form}
use Rattle.rv_table.specs.declared.form.Form.TheVariants.{U, J, I, B, S, Shift}
use Rattle.rv_table.specs.declared.op.Op.{Op}
use Rattle.rv_asm.specs.Faults.{in_range, reach_of, reaches}
use Rattle.rv_asm.specs.declared.search.TheConstants.{BRANCH_REACH, JUMP_REACH}
use Rattle.rv_asm.specs.Layout.{is_short, is_within}
use Rattle.rv_asm.specs.Program.{immediate_of, lower_of, offset, unsigned, upper_of, with_immediate}
use Rattle.rv_asm.specs.Sound.{IsReadyFor, takes_number, takes_offset}

-- a short number is a signed one of 12 bits
short_signed : (n : ℤ) → is_short n ≡ true → is_signed 12 (unsigned n) ≡ true
short_signed (pos n) h = grind (arith, nat_tests)
short_signed (negsuc n) h = grind (arith, nat_tests)

amount_small : (n : ℤ) → is_within (pos 0) (pos 31) n ≡ true → ltb (unsigned n) 32 ≡ true
amount_small (pos n) h = grind (arith, nat_tests)
amount_small (negsuc n) h = absurd (false≢true h)

-- an operation fits its form with another immediate, where that fits
fits_i : (op : Op) (v : ℕ) → fits I op ≡ true → is_signed 12 v ≡ true → fits I (with_immediate op v) ≡ true
unfolding fits
fits_i op v h g = and_from _ _ (and_parts _ _ h).0 g

fits_s : (op : Op) (v : ℕ) → fits S op ≡ true → is_signed 12 v ≡ true → fits S (with_immediate op v) ≡ true
unfolding fits
fits_s op v h g = and_from _ _ (and_parts _ _ h).0 g

fits_shift : (op : Op) (v : ℕ) → fits Shift op ≡ true → ltb v 32 ≡ true → fits Shift (with_immediate op v) ≡ true
unfolding fits
fits_shift op v h g = and_from _ _ (and_parts _ _ h).0 g

fits_u : (op : Op) (v : ℕ) → fits U op ≡ true → eqb (v % 2 ^ 12) 0 ≡ true → fits U (with_immediate op v) ≡ true
unfolding fits
fits_u op v h g = and_from _ _ (and_parts _ _ h).0 g

whole_pages : (u : ℕ) → eqb (u * 2 ^ 12 % 2 ^ 32 % 2 ^ 12) 0 ≡ true
whole_pages u = let none : u * 2 ^ 12 % 2 ^ 32 % 2 ^ 12 ≡ 0 = omega arith in rw none refl

-- the well-formed operation of a form, with another immediate
formed : (form : Form) (op : Op) (v : ℕ) → IsTrue (well_formed op) → form_of op.code ≡ form → (fits form op ≡ true → fits form (with_immediate op v) ≡ true)
    → IsTrue (well_formed (with_immediate op v))
unfolding well_formed
formed form op v h is g =
    let parts = and_parts _ _ h in
    and_from _ _ parts.0 (ap (λ f. fits f (with_immediate op v)) is ∙ g (sym (ap (λ f. fits f op) is) ∙ parts.1))

pub number_fits : (op : Op) (n : ℤ) → IsReadyFor takes_number op → in_range (form_of op.code) n ≡ true
    → IsTrue (well_formed (with_immediate op (immediate_of (form_of op.code) n)))
number_fits op n r h = by_form (form_of op.code) refl r.taking h
  where
    by_form : (form : Form) → form_of op.code ≡ form → takes_number form ≡ true → in_range form n ≡ true
        → IsTrue (well_formed (with_immediate op (immediate_of form n)))
    by_form U e t g = formed U op (immediate_of U n) r.formed e (λ f. fits_u op (immediate_of U n) f (whole_pages (unsigned n)))
    by_form I e t g = formed I op (unsigned n) r.formed e (λ f. fits_i op (unsigned n) f (short_signed n g))
    by_form S e t g = formed S op (unsigned n) r.formed e (λ f. fits_s op (unsigned n) f (short_signed n g))
    by_form Shift e t g = formed Shift op (unsigned n) r.formed e (λ f. fits_shift op (unsigned n) f (amount_small n g))
    by_form _ e t g = absurd (false≢true t)

-- an offset that reaches is even and of few bits

far : (form : Form) → reach_of form ≤ 2 ^ 20
far B = lit≤ tt
far _ = lit≤ tt

pub reaches-on : (form : Form) (origin goal : ℕ) → reaches (reach_of form) origin goal ≡ true → goal < origin + 2 ^ 32
reaches-on form origin goal h = let most = far form in on (reach_of form) origin goal most h
  where
    on : (reach origin goal : ℕ) → reach ≤ 2 ^ 20 → reaches reach origin goal ≡ true → goal < origin + 2 ^ 32
    on reach origin goal most h = grind (arith, nat_tests)

pub reaches-back : (form : Form) (origin goal : ℕ) → reaches (reach_of form) origin goal ≡ true → origin ≤ goal + 2 ^ 31
reaches-back form origin goal h = let most = far form in back (reach_of form) origin goal most h
  where
    back : (reach origin goal : ℕ) → reach ≤ 2 ^ 20 → reaches reach origin goal ≡ true → origin ≤ goal + 2 ^ 31
    back reach origin goal most h = grind (arith, nat_tests)

even : (reach origin goal : ℕ) → reach ≤ 2 ^ 20 → reaches reach origin goal ≡ true → eqb (offset origin goal % 2) 0 ≡ true
even reach origin goal most h = grind (arith, nat_tests)

signed_b : (origin goal : ℕ) → reaches BRANCH_REACH origin goal ≡ true → is_signed 13 (offset origin goal) ≡ true
signed_b origin goal h = grind (arith, nat_tests)

signed_j : (origin goal : ℕ) → reaches JUMP_REACH origin goal ≡ true → is_signed 21 (offset origin goal) ≡ true
signed_j origin goal h = grind (arith, nat_tests)

fits_j : (op : Op) (v : ℕ) → fits J op ≡ true → eqb (v % 2) 0 ≡ true → is_signed 21 v ≡ true → fits J (with_immediate op v) ≡ true
unfolding fits
fits_j op v h e g = and_from _ _ (and_from _ _ (and_parts _ _ (and_parts _ _ h).0).0 e) g

fits_b : (op : Op) (v : ℕ) → fits B op ≡ true → eqb (v % 2) 0 ≡ true → is_signed 13 v ≡ true → fits B (with_immediate op v) ≡ true
unfolding fits
fits_b op v h e g = and_from _ _ (and_from _ _ (and_parts _ _ (and_parts _ _ h).0).0 e) g

pub label_fits : (op : Op) (origin goal : ℕ) → IsReadyFor takes_offset op → reaches (reach_of (form_of op.code)) origin goal ≡ true
    → IsTrue (well_formed (with_immediate op (offset origin goal)))
label_fits op origin goal r h = by_form (form_of op.code) refl r.taking h
  where
    by_form : (form : Form) → form_of op.code ≡ form → takes_offset form ≡ true → reaches (reach_of form) origin goal ≡ true
        → IsTrue (well_formed (with_immediate op (offset origin goal)))
    by_form J e t g = formed J op (offset origin goal) r.formed e (λ f. fits_j op (offset origin goal) f (even JUMP_REACH origin goal (lit≤ tt) g)
        (signed_j origin goal g))
    by_form B e t g = formed B op (offset origin goal) r.formed e (λ f. fits_b op (offset origin goal) f (even BRANCH_REACH origin goal (lit≤ tt) g)
        (signed_b origin goal g))
    by_form _ e t g = absurd (false≢true t)

-- The instructions that put a number into a register

u_fits : (rd v : ℕ) → rd < 32 → fits U (with_immediate (of_registers LUI rd 0 0) (v * 2 ^ 12)) ≡ true
unfolding fits
u_fits rd v h = grind (arith, nat_tests)

i_fits : (rd rs v : ℕ) → rd < 32 → rs < 32 → is_signed 12 v ≡ true → fits I (with_immediate (of_registers ADDI rd rs 0) v) ≡ true
unfolding fits
i_fits rd rs v h k g = grind (arith, nat_tests)

extended_signed : (n : ℕ) → n < 2 ^ 12 → is_signed 12 (sign_extended 12 n) ≡ true
extended_signed n h = grind (arith, nat_tests)

pub upper_fits : (rd n : ℕ) → rd < 32 → IsTrue (well_formed (upper_of rd n))
unfolding has_row form_of row_of
upper_fits rd n h = fit U (upper_of rd n) refl refl (u_fits rd ((n + 0x800) / 2 ^ 12 % 2 ^ 20) h)

pub lower_fits : (rd n : ℕ) → rd < 32 → IsTrue (well_formed (lower_of rd n))
unfolding has_row form_of row_of
lower_fits rd n h =
    let small : n % 2 ^ 12 < 2 ^ 12 = omega arith in
    fit I (lower_of rd n) refl refl (i_fits rd rd (sign_extended 12 (n % 2 ^ 12)) h h (extended_signed (n % 2 ^ 12) small))

pub short_fits : (rd : ℕ) (n : ℤ) → rd < 32 → is_short n ≡ true → IsTrue (well_formed (with_immediate (of_registers ADDI rd 0 0) (unsigned n)))
unfolding has_row form_of row_of
short_fits rd n h g = fit I (with_immediate (of_registers ADDI rd 0 0) (unsigned n)) refl refl (i_fits rd 0 (unsigned n) h (lit< tt) (short_signed n g))

pub ruleset pair_fits = (upper_fits, lower_fits)

pub ruleset reaching = (label_fits, reaches-on, reaches-back)
