-- One instruction, field by field: the registers, the operands, and what is recorded of it.
use Rattle.std.proofs.Common.{◌≡◌, ◌≢◌, ℕ, ◌+◌, ◌*◌, ◌/◌, ◌^◌, ◌<◌, ◌≤◌, Bool, true, false, cond, eqb, refl, ◌∙◌, ap, arith, inl, inr}
use Rattle.std.specs.Int.{bit_at}
use Rattle.std.specs.Prelude.{Option, Some, None, ◌&&◌}
use Rattle.std.proofs.lemmas.Bool.{cases_eq, false≢true}
use Rattle.std.proofs.lemmas.Bool.Decides.{nat_tests}
use Rattle.avf_base.specs.declared.end.End.{End}
use Rattle.elf_load.specs.Image.{LoadedImage, IsImage, word_in_ram}
use Rattle.rv_isa.proofs.Allowed.{word_below}
use Rattle.rv_isa.specs.Effects.{write_of, load_of, store_of, retired_at, effect_of, effect_by, operand_b}
use Rattle.rv_isa.specs.Instruction.{State, reg, put_reg, given, action_in, first_clock}
use Rattle.rv_table.specs.Accesses.{load_size}
use Rattle.rv_table.specs.Actions.{next_address, next_word, is_aligned, taken_by, target_by, counter_by, with_counter}
use Rattle.rv_table.specs.Effects.{written_register}
use Rattle.rv_table.specs.Operations.{operation_of}
use Rattle.rv_table.specs.declared.action.Access.{Access}
use Rattle.rv_table.specs.declared.action.Action.{Action}
use Rattle.rv_table.specs.declared.action.Action.TheVariants.{Loads}
use Rattle.rv_table.specs.declared.op.Op.{Op}
use Rattle.rv_table.specs.declared.operation.LoadKind.{LoadKind}
use Rattle.rv_table.specs.declared.operation.LoadKind.TheVariants.{Lb, Lh, Lw, Lbu, Lhu}
use Rattle.need_pass.specs.Law.{Seen}
use Rattle.rv_isa.specs.Accesses.{next_action}
use Rattle.need_pass.specs.Links.{is_register, has_byte}
use Rattle.need_pass.specs.Needed.{RootA, RootB}
use Rattle.need_pass.proofs.TwinEffects.{IsAllowed}
use Rattle.need_pass.proofs.Twins.{same_taken, same_target_by}

-- ---- registers

pub not_zero : (r : ℕ) → r ≢ 0 → eqb r 0 ≡ false
not_zero r n = grind (arith, nat_tests)

-- an operand's bit, register 0 being 0
pub same_operand : (f g : ℕ → ℕ) (r k : ℕ) → (0 < r → bit_at (f r) k ≡ bit_at (g r) k) → bit_at (reg f r) k ≡ bit_at (reg g r) k
same_operand f g r k same =
    elim (cases_eq r 0) [ inl e ↦ rw e refl | inr n ↦ rw (not_zero r n) (same (omega arith)) ]

-- whether a register is written, and what it holds then
pub writes_is : (image : LoadedImage) (x : Action) (f : ℕ → ℕ) (r : ℕ) → 0 < r → is_register (write_of image x f) r ≡ eqb r (written_register x)
writes_is image x f r pos = go (eqb (written_register x) 0) refl
  where
    go : (t : Bool) → eqb (written_register x) 0 ≡ t → is_register (cond t None (Some (written_register x, given image x f))) r ≡ eqb r (written_register x)
    go true e = grind (arith, nat_tests)
    go false e = refl

pub put_reg-at : (rd v r : ℕ) (f : ℕ → ℕ) → 0 < r → put_reg rd v f r ≡ cond (eqb r rd) v (f r)
put_reg-at rd v r f pos =
    elim (cases_eq rd 0) [
      | inl e ↦ rw (e, not_zero r (λ z. omega arith)) refl
      | inr n ↦ rw (not_zero rd n) refl
    ]

-- a loaded byte is below 2^32
pub load_size_below : (kind : LoadKind) → load_size kind ≤ 4
load_size_below Lb = omega arith
load_size_below Lh = omega arith
load_size_below Lw = omega arith
load_size_below Lbu = omega arith
load_size_below Lhu = omega arith

pub loaded_below : (image : LoadedImage) (x : Action) (p : ℕ) → IsImage image → IsAllowed (word_in_ram image) x → has_byte (load_of x) p ≡ true → p < 2 ^ 32
loaded_below image (Loads kind rd place) p is ok h =
    let l : p < place + load_size kind = grind (arith, nat_tests) in
    omega (arith, word_below image place is ok, load_size_below kind)
loaded_below image _ p is ok h = absurd (false≢true h)

-- ---- what an instruction does at a state, the operation and the address being given

abbrev pub done_at : LoadedImage → Op → ℕ → State → Action
done_at image op pc at = action_in image op pc (reg at.registers op.rs1) (operand_b op at)

pub same_clocks : (image : LoadedImage) (op : Op) (pc : ℕ) (s u : State) → u.count ≡ s.count → u.clocks ≡ s.clocks → operand_b op u ≡ with_counter op (first_clock s.clocks) s.count (reg u.registers op.rs2)
same_clocks image op pc s u e f =
    ap (λ x. with_counter op (first_clock x) u.count (reg u.registers op.rs2)) f ∙ ap (λ x. with_counter op (first_clock s.clocks) x (reg u.registers op.rs2)) e

abbrev pub next_by : Bool → ℕ → ℕ → ℕ
next_by taken target pc = cond (taken && is_aligned 4 target) (target / 4) (next_word pc)

pub same_address : (op : Op) (pc clock count a b c d : ℕ) → a < 2 ^ 32 → b < 2 ^ 32 → c < 2 ^ 32 → d < 2 ^ 32 → ((k : ℕ) → k < 32 → RootA (operation_of op.code) op k → bit_at a k ≡ bit_at c k) → ((k : ℕ) → k < 32 → RootB (operation_of op.code) a k → bit_at b k ≡ bit_at d k) → next_address op pc a (with_counter op clock count b) ≡ next_address op pc c (with_counter op clock count d)
unfolding next_address with_counter
same_address op pc clock count a b c d ha hb hc hd ra rb =
    let o = operation_of op.code in
    ap (λ t. next_by t (target_by o op (4 * pc) a (counter_by o clock count b)) pc) (same_taken o op clock count a b c d ha hb hc hd ra rb)
    ∙ ap (λ x. next_by (taken_by o c (counter_by o clock count d)) x pc) (same_target_by o op (4 * pc) clock count a b c d ha hb hc hd ra rb)

abbrev pub seen_by : ℕ → Option Access → Option ℕ → Option End → Seen
seen_by pc access byte end = record { pc = pc; access = access; byte = byte; end = end }

-- what is recorded of an instruction's action
pub write_recorded : (image : LoadedImage) (at : State) → (retired_at image at).effect.write ≡ write_of image (next_action image at) at.memory
unfolding retired_at effect_of effect_by
write_recorded image at = refl

pub load_recorded : (image : LoadedImage) (at : State) → (retired_at image at).effect.load ≡ load_of (next_action image at)
unfolding retired_at effect_of effect_by
load_recorded image at = refl

pub store_recorded : (image : LoadedImage) (at : State) → (retired_at image at).effect.store ≡ store_of (next_action image at)
unfolding retired_at effect_of effect_by
store_recorded image at = refl
