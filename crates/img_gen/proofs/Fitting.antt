-- Each instruction of a generated program is well-formed.
use Rattle.std.proofs.Common.{◌≡◌, ℕ, ◌+◌, ◌-◌, ◌*◌, ◌/◌, ◌%◌, ◌^◌, ◌<◌, ◌≤◌, true, false, cond, zero, suc, refl, arith}
use Rattle.std.specs.Prelude.{◌==◌, IsTrue, nat_lt, if◌then◌else◌}
use Rattle.std.specs.List.{All}
use Rattle.std.proofs.lemmas.Bool.Decides.{nat_tests}
use Rattle.rv_table.proofs.Encoded.{fit, fits_r}
use Rattle.rv_table.specs.Operations.{form_of, has_row, of_registers}
use Rattle.rv_table.specs.Rows.{row_of}
use Rattle.rv_table.specs.WellFormed.{fits, well_formed}
use Rattle.rv_table.specs.declared.form.Form.TheVariants.{J, I, S, R}
use Rattle.rv_table.specs.declared.op.Op.{Op}
use Rattle.rv_table.specs.declared.codes.TheConstants.{JAL, LW, LBU, SB, SW, ADDI, XORI, ADD, SUB, SLL, SLT, XOR, SRL, OR, AND, MUL, DIVU}
use Rattle.img_gen.specs.declared.program.TheConstants.{ZERO, S0}
use Rattle.img_gen.specs.Program.{immediate, two_registers, register_at, by_kind, body_op, start, finish, back}

two : (code rd rs1 n : ℕ) → rd < 32 → rs1 < 32 → n < 2 ^ 12 → fits I (immediate code rd rs1 (if nat_lt n (2 ^ 11) then n else n + (2 ^ 32 - 2 ^ 12))) ≡ true
unfolding fits
two code rd rs1 n p q r = grind (arith, nat_tests)

near : (code rd rs1 n : ℕ) → rd < 32 → rs1 < 32 → n < 2 ^ 11 → fits I (immediate code rd rs1 n) ≡ true
unfolding fits
near code rd rs1 n p q r = grind (arith, nat_tests)

store : (code rs1 rs2 n : ℕ) → rs1 < 32 → rs2 < 32 → n < 2 ^ 11 → fits S (two_registers code rs1 rs2 n) ≡ true
unfolding fits
store code rs1 rs2 n p q r = grind (arith, nat_tests)

one : (kind n : ℕ) (a b : Op) → IsTrue (well_formed a) → IsTrue (well_formed b) → IsTrue (well_formed (if kind == n then a else b))
one kind n a b p q = elim (kind == n) as (λ t. IsTrue (well_formed (cond t a b))) [ true ↦ p | false ↦ q ]

pub fits_by_kind : (kind rd rs1 rs2 n : ℕ) → rd < 32 → rs1 < 32 → rs2 < 32 → n < 2 ^ 12 → IsTrue (well_formed (by_kind kind rd rs1 rs2 n))
unfolding by_kind has_row form_of row_of
fits_by_kind kind rd rs1 rs2 n p q r h =
    let low : n % 2 ^ 11 < 2 ^ 11 = omega arith in
    let word : n % 2 ^ 11 / 4 * 4 < 2 ^ 11 = omega arith in
    one kind 0 _ _ (fit R (of_registers ADD rd rs1 rs2) refl refl (fits_r ADD rd rs1 rs2 p q r))
    (one kind 1 _ _ (fit R (of_registers SUB rd rs1 rs2) refl refl (fits_r SUB rd rs1 rs2 p q r))
    (one kind 2 _ _ (fit R (of_registers XOR rd rs1 rs2) refl refl (fits_r XOR rd rs1 rs2 p q r))
    (one kind 3 _ _ (fit R (of_registers OR rd rs1 rs2) refl refl (fits_r OR rd rs1 rs2 p q r))
    (one kind 4 _ _ (fit R (of_registers AND rd rs1 rs2) refl refl (fits_r AND rd rs1 rs2 p q r))
    (one kind 5 _ _ (fit R (of_registers SLL rd rs1 rs2) refl refl (fits_r SLL rd rs1 rs2 p q r))
    (one kind 6 _ _ (fit R (of_registers SRL rd rs1 rs2) refl refl (fits_r SRL rd rs1 rs2 p q r))
    (one kind 7 _ _ (fit R (of_registers MUL rd rs1 rs2) refl refl (fits_r MUL rd rs1 rs2 p q r))
    (one kind 8 _ _ (fit I (immediate ADDI rd rs1 _) refl refl (two ADDI rd rs1 n p q h))
    (one kind 9 _ _ (fit I (immediate XORI rd rs1 _) refl refl (two XORI rd rs1 n p q h))
    (one kind 10 _ _ (fit R (of_registers DIVU rd rs1 rs2) refl refl (fits_r DIVU rd rs1 rs2 p q r))
    (one kind 11 _ _ (fit R (of_registers SLT rd rs1 rs2) refl refl (fits_r SLT rd rs1 rs2 p q r))
    (one kind 12 _ _ (fit I (immediate LW rd S0 _) refl refl (near LW rd S0 _ p (omega arith) word))
    (one kind 13 _ _ (fit S (two_registers SW S0 rs2 _) refl refl (store SW S0 rs2 _ (omega arith) r word))
    (one kind 14 _ _ (fit I (immediate LBU rd S0 _) refl refl (near LBU rd S0 _ p (omega arith) low))
    (fit S (two_registers SB S0 rs2 _) refl refl (store SB S0 rs2 _ (omega arith) r low))))))))))))))))

pub fits_body : (random : ℕ) → random < 2 ^ 32 → IsTrue (well_formed (body_op random))
unfolding body_op
fits_body random h = fits_by_kind (random % 2 ^ 4) (register_at random 4) (register_at random 7) (register_at random 10) (random / 2 ^ 20)
    (omega arith) (omega arith) (omega arith) (omega arith)

pub fits_start : All (λ op. IsTrue (well_formed op)) start
unfolding well_formed fits has_row form_of row_of
fits_start zero d h = refl
fits_start (suc zero) d h = refl
fits_start (suc (suc k)) d h = absurd (omega arith)

-- the jump back to the body
jump : (size : ℕ) → size ≤ 4096 → fits J (immediate JAL ZERO ZERO (back (4 * (size + 2)))) ≡ true
unfolding fits
jump size h = grind (arith, nat_tests)

pub fits_finish : (size : ℕ) → size ≤ 4096 → All (λ op. IsTrue (well_formed op)) (finish size)
unfolding well_formed fits has_row form_of row_of
fits_finish size small zero d h = refl
fits_finish size small (suc zero) d h = refl
fits_finish size small (suc (suc zero)) d h = fit J (immediate JAL ZERO ZERO (back (4 * (size + 2)))) refl refl (jump size small)
fits_finish size small (suc (suc (suc zero))) d h = refl
fits_finish size small (suc (suc (suc (suc zero)))) d h = refl
fits_finish size small (suc (suc (suc (suc (suc zero))))) d h = refl
fits_finish size small (suc (suc (suc (suc (suc (suc zero)))))) d h = refl
fits_finish size small (suc (suc (suc (suc (suc (suc (suc k))))))) d h = absurd (omega arith)
