-- Other doings of a completed ID/EX: whether they leave the same, and when they can't.
use Rattle.std.specs.Prelude.{◌≡◌, ℕ, Bool, IsTrue, true, false, None}
use Rattle.elf_load.specs.Image.{LoadedImage}
use Rattle.rv_table.specs.Effects.{written_register}
use Rattle.rv_table.specs.Operations.{operation_of}
use Rattle.rv_table.specs.declared.action.Action.{Action}
use Rattle.rv_table.specs.declared.action.Action.TheVariants.{Loads, Writes}
use Rattle.rv_isa.specs.Architecture.{ArchState, state_of}
use Rattle.rv_isa.specs.Instruction.{end_of}
use Rattle.pipe_latch.specs.Latches.{DecodedLatch}
use Rattle.need_pass.specs.Tables.{Needs}
use Rattle.eval_mask.specs.Aftermaths.{doing_with, left_by, no_change, store_by}
use Rattle.eval_mask.specs.Cases.{AgreesWithOwn}
use Rattle.eval_mask.specs.Compared.{covers}
use Rattle.eval_mask.specs.declared.cases.Case.{Case}
use Rattle.eval_mask.specs.declared.completing.Change.{Change}
use Rattle.eval_mask.specs.declared.completing.Doing.{Doing}
use Rattle.eval_mask.specs.declared.inputs.Facts.{Facts}
use Rattle.eval_mask.specs.declared.inputs.Input.{Input}
use Rattle.eval_mask.specs.declared.inputs.Input.TheVariants.{A, B, Immediate}

-- the same is left, where it is needed, if ID/EX does this
abbrev pub DoesAlike : Needs → ArchState → Case → Doing → Type 0
DoesAlike needs arch case doing = AgreesWithOwn needs arch case (left_by arch.image case.own.first case.own.below doing (state_of arch).memory)

-- a doing ends as the latches as they are, or goes on where they do
pub record GoesAlike (case : Case) (doing : Doing) : Type 0 where
  pub end : end_of doing.action ≡ case.own.end
  pub next : end_of doing.action ≡ None → doing.next ≡ case.own.pc

-- without what ID/EX changes the same is left where it is needed
abbrev pub IsIdle : Needs → ArchState → Case → Type 0
IsIdle needs arch case = AgreesWithOwn needs arch case (record case.own { above = no_change })

-- the latches as they are go on and put nothing in ID/EX, and without what ID/EX changes something else is left where it is needed
pub record NeedsOwn (needs : Needs) (arch : ArchState) (case : Case) : Type 0 where
  pub goes_on : case.own.end ≡ None
  pub quiet : case.own.above.put ≡ None
  pub needed : IsIdle needs arch case → ⊥

-- an action writes no register and no byte that a change writes
pub record Misses (own : Change) (done : Action) : Type 0 where
  pub register : own.write.rd ≡ written_register done → own.write.rd ≡ 0
  pub bytes : (image : LoadedImage) (p : ℕ) → covers own.store p ≡ true → covers (store_by image done) p ≡ true → ⊥

-- writes a register, or none, and does nothing else
abbrev pub is_given : Action → Bool
is_given (Writes rd value) = true
is_given (Loads kind rd address) = true
is_given _ = false

-- what a completed ID/EX does and leaves, with its operands
pub record IsReached (arch : ArchState) (d : DecodedLatch) (case : Case) : Type 0 where
  pub doing : case.doing ≡ doing_with arch.image d case.issued case.a case.held
  pub own : case.own ≡ left_by arch.image case.own.first case.own.below case.doing (state_of arch).memory

-- a latch with the code, the register and the address of a completed ID/EX
pub record IsLike (arch : ArchState) (case : Case) (other : DecodedLatch) : Type 0 where
  pub d : DecodedLatch
  pub reached : IsReached arch d case
  pub op : other.op ≡ d.op
  pub rd : other.rd ≡ d.rd
  pub pc : other.pc ≡ d.pc

pub record IsFacts (needs : Needs) (arch : ArchState) (d : DecodedLatch) (case : Case) (facts : Facts) : Type 0 where
  pub operation : facts.operation ≡ operation_of d.op
  pub needed : IsTrue facts.needed → NeedsOwn needs arch case
  pub idle : IsTrue facts.idle → IsIdle needs arch case

-- the first bit of what ID/EX reads
abbrev pub first_bit : Input → ℕ
first_bit A = 52
first_bit B = 84
first_bit Immediate = 116
