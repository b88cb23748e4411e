-- The numbers of a state stay in their ranges.
use Rattle.std.proofs.Common.{ℕ, zero, suc, ◌-◌, ◌/◌, ◌^◌, ◌<◌, Bool, true, false, cond, eqb, List, [], ◌∷◌, get_or, arith, lit<}
use Rattle.std.specs.List.{All}
use Rattle.std.specs.Prelude.{is_none}
use Rattle.elf_load.specs.Image.{LoadedImage, IsImage, executable, in_ram, ram_byte, word_in_ram}
use Rattle.rv_isa.specs.Instruction.{State, completed, first_clock, given, instruction, later_clocks, memory_after, next_count, op_at, performed, put_reg, reg}
use Rattle.rv_isa.specs.Runs.{reset, after}
use Rattle.rv_isa.specs.Words.{IsWords}
use Rattle.rv_isa.proofs.Fetched.{fetched_fields}
use Rattle.rv_table.specs.Accesses.{loaded, stored}
use Rattle.rv_table.specs.Actions.{is_clocked}
use Rattle.rv_table.specs.Effects.{written_register}
use Rattle.rv_table.specs.declared.action.Action.{Action}
use Rattle.rv_table.specs.declared.action.Action.TheVariants.{Writes, Loads, Stores}
use Rattle.rv_table.specs.declared.op.Op.{Op}
use Rattle.rv_table.proofs.Ranges.{IsSmall, loaded_below, small_action, stored_below}

-- ---- registers, memory and clock values

pub given_below : (image : LoadedImage) (x : Action) (f : ℕ → ℕ) → IsSmall x → ((p : ℕ) → f p < 2 ^ 8) → given image x f < 2 ^ 32
given_below image (Writes rd v) f small h = small
given_below image (Loads kind rd place) f small h =
    elim (word_in_ram image (place / 4)) as (λ t. cond t (loaded kind place f) 0 < 2 ^ 32) [ true ↦ loaded_below kind place f h | false ↦ lit< tt ]
given_below image _ f small h = lit< tt

pub memory_below : (image : LoadedImage) (x : Action) (f : ℕ → ℕ) → ((p : ℕ) → f p < 2 ^ 8) → (p : ℕ) → memory_after image x f p < 2 ^ 8
memory_below image (Stores kind place value) f h p =
    elim (word_in_ram image (place / 4)) as (λ t. (cond t (stored kind place value f) f) p < 2 ^ 8) [ true ↦ stored_below kind place value f h p | false ↦ h p ]
memory_below image _ f h p = h p

pub operand_below : (f : ℕ → ℕ) (r : ℕ) → ((s : ℕ) → f s < 2 ^ 32) → reg f r < 2 ^ 32
operand_below f r h = elim (eqb r 0) as (λ t. cond t 0 (f r) < 2 ^ 32) [ true ↦ lit< tt | false ↦ h r ]

pub put_below : (rd v : ℕ) (f : ℕ → ℕ) → v < 2 ^ 32 → ((r : ℕ) → f r < 2 ^ 32) → (r : ℕ) → put_reg rd v f r < 2 ^ 32
put_below rd v f h g r =
    elim (eqb rd 0) as (λ t. (cond t f (λ s. cond (eqb s rd) v (f s))) r < 2 ^ 32) [
      | true ↦ g r
      | false ↦ elim (eqb r rd) as (λ t. cond t v (f r) < 2 ^ 32) [ true ↦ h | false ↦ g r ]
    ]

pub clock_below : (clocks : List ℕ) → All (λ c. c < 2 ^ 32) clocks → first_clock clocks < 2 ^ 32
clock_below [] h = lit< tt
clock_below (c ∷ clocks) h = h 0 c (omega arith)

pub clocks_below : (clocks : List ℕ) → All (λ c. c < 2 ^ 32) clocks → All (λ c. c < 2 ^ 32) (later_clocks clocks)
clocks_below [] h = h
clocks_below (c ∷ clocks) h = λ k d l. h (suc k) d (omega arith)

-- ---- the state after an action, after an instruction, and the states of a run

pub words_performed : (image : LoadedImage) (done : Action) (at : State) → IsSmall done → IsWords at → IsWords (performed image done at)
words_performed image done at small is = record {
  registers = put_below (written_register done) (given image done at.memory) at.registers (given_below image done at.memory small is.memory) is.registers;
  memory = memory_below image done at.memory is.memory;
  count = is.count;
  clocks = is.clocks;
}

pub words_completed : (image : LoadedImage) (op : Op) (pc a b : ℕ) (at : State) → a < 2 ^ 32 → b < 2 ^ 32 → op.imm < 2 ^ 32 → IsWords at
    → IsWords (completed image op pc a b at)
unfolding completed
words_completed image op pc a b at ha hb hi is =
    let small = small_action (word_in_ram image) (executable image) op pc (first_clock at.clocks) at.count a b ha hb (clock_below at.clocks is.clocks) is.count hi in
    let done = words_performed image _ at small is in
    record { registers = done.registers; memory = done.memory; count = counted at.count; clocks = kept (is_clocked op) }
  where
    counted : (count : ℕ) → next_count count < 2 ^ 32
    counted count = omega arith

    kept : (t : Bool) → All (λ c. c < 2 ^ 32) (cond t (later_clocks at.clocks) at.clocks)
    kept true = clocks_below at.clocks is.clocks
    kept false = is.clocks

pub words_next : (image : LoadedImage) (at : State) → IsImage image → IsWords at → IsWords (instruction image at)
unfolding instruction
words_next image at is w =
    let op : Op = op_at image at.pc in
    let fields = fetched_fields image is at.pc in
    words_completed image op at.pc (reg at.registers op.rs1) (reg at.registers op.rs2) at (operand_below at.registers op.rs1 w.registers)
    (operand_below at.registers op.rs2 w.registers) fields.imm w

pub words_reset : (image : LoadedImage) (clocks : List ℕ) → IsImage image → All (λ c. c < 2 ^ 32) clocks → IsWords (reset image clocks)
unfolding reset ram_byte
words_reset image clocks is h = record { registers = λ r. lit< tt; memory = λ p. ram_below p; count = lit< tt; clocks = h }
  where
    ram_below : (p : ℕ) → ram_byte image image.ram p < 2 ^ 8
    ram_below p = elim (in_ram image p) as (λ t. cond t (get_or image.ram (p - image.base) 0) 0 < 2 ^ 8) [ true ↦ is.bytes (p - image.base) | false ↦ lit< tt ]

pub words_after : (image : LoadedImage) (n : ℕ) (at : State) → IsImage image → IsWords at → IsWords (after image n at)
unfolding after
words_after image zero at is w = w
words_after image (suc n) at is w =
    elim (is_none at.stop) as (λ t. IsWords (cond t (after image n (instruction image at)) at)) [ true ↦ words_after image n (instruction image at) is (words_next image at is w) | false ↦ w ]
