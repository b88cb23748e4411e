-- What an instruction asks for and where it goes on, from its operands. `pc` is its word address, a and b are the
-- values of rs1 and rs2 (for a counter read, b is the counter); a target is a byte address.
use Rattle.std.specs.Prelude.{ℕ, ◌+◌, ◌*◌, ◌/◌, ◌%◌, ◌^◌, ◌==◌, Bool, true, false, not, ◌&&◌, ◌||◌, nat_lt, nat_le, if◌then◌else◌, Option, Some, None}
use Rattle.rv_table.specs.Operations.{operation_of}
use Rattle.rv_table.specs.Arithmetic.{alu, sum32, signed_order}
use Rattle.rv_table.specs.Accesses.{load_size, store_size}
use Rattle.rv_table.specs.declared.op.Op.{Op}
use Rattle.rv_table.specs.declared.operation.Operation.{Operation}
use Rattle.rv_table.specs.declared.operation.Operation.TheVariants.{Illegal, FetchFault, Lui, Auipc, Jal, Jalr, Branch, Load, Store}
use Rattle.rv_table.specs.declared.operation.Operation.TheVariants.{AluImmediate, Alu, Fence, Ecall, Ebreak, ReadCounter}
use Rattle.rv_table.specs.declared.operation.BranchKind.{BranchKind}
use Rattle.rv_table.specs.declared.operation.BranchKind.TheVariants.{Beq, Bne, Blt, Bge, Bltu, Bgeu}
use Rattle.rv_table.specs.declared.operation.LoadKind.{LoadKind}
use Rattle.rv_table.specs.declared.operation.StoreKind.{StoreKind}
use Rattle.rv_table.specs.declared.operation.CounterKind.TheVariants.{Cycle, Instret, Cycleh, Instreth}
use Rattle.rv_table.specs.declared.trap.TheConstants.{FETCH_FAULT, MISALIGNED_TARGET, ILLEGAL_INSTRUCTION, MISALIGNED_ACCESS, LOAD_FAULT}
use Rattle.rv_table.specs.declared.trap.TheConstants.{STORE_FAULT, BREAKPOINT, UNKNOWN_CALL}
use Rattle.rv_table.specs.declared.action.Access.{Access}
use Rattle.rv_table.specs.declared.action.Action.{Action}
use Rattle.rv_table.specs.declared.action.Action.TheVariants.{Writes, Loads, Stores, Puts, Exits, Traps}

-- whether a branch's comparison holds
unfoldable pub holds : BranchKind → ℕ → ℕ → Bool
holds Beq a b = a == b
holds Bne a b = not (a == b)
holds Blt a b = nat_lt (signed_order a) (signed_order b)
holds Bge a b = nat_le (signed_order b) (signed_order a)
holds Bltu a b = nat_lt a b
holds Bgeu a b = nat_le b a

-- the result or the address accessed, 0 where there is neither; `at` is the byte address of the instruction
unfoldable pub value_by : Operation → Op → ℕ → ℕ → ℕ → ℕ
value_by Lui op at a b = op.imm
value_by Auipc op at a b = sum32 at op.imm
value_by Jal op at a b = sum32 at 4
value_by Jalr op at a b = sum32 at 4
value_by (Load kind) op at a b = sum32 a op.imm
value_by (Store kind) op at a b = sum32 a op.imm
value_by (AluImmediate kind) op at a b = alu kind a op.imm
value_by (Alu kind) op at a b = alu kind a b
value_by (ReadCounter counter) op at a b = b
value_by _ op at a b = 0

-- JAL, JALR and a branch whose comparison holds
unfoldable pub taken_by : Operation → ℕ → ℕ → Bool
taken_by Jal a b = true
taken_by Jalr a b = true
taken_by (Branch kind) a b = holds kind a b
taken_by _ a b = false

-- where a taken branch or jump goes, aligned or not, and the address plus 4 for all else
unfoldable pub target_by : Operation → Op → ℕ → ℕ → ℕ → ℕ
target_by Jal op at a b = sum32 at op.imm
target_by Jalr op at a b = sum32 a op.imm / 2 * 2
target_by (Branch kind) op at a b = if holds kind a b then sum32 at op.imm else sum32 at 4
target_by _ op at a b = sum32 at 4

abbrev pub value : Op → ℕ → ℕ → ℕ → ℕ
value op at a b = value_by (operation_of op.code) op at a b

abbrev pub taken : Op → ℕ → ℕ → Bool
taken op a b = taken_by (operation_of op.code) a b

abbrev pub target : Op → ℕ → ℕ → ℕ → ℕ
target op at a b = target_by (operation_of op.code) op at a b

-- the word address that follows
abbrev pub next_word : ℕ → ℕ
next_word pc = (pc + 1) % 2 ^ 30

abbrev pub is_aligned : ℕ → ℕ → Bool
is_aligned size x = x % size == 0

-- a jump or a taken branch to a target that is no multiple of 4 traps
abbrev pub misses_target : Operation → Op → ℕ → ℕ → ℕ → Bool
misses_target o op pc a b = taken_by o a b && not (is_aligned 4 (target_by o op (4 * pc) a b))

-- what a system call does: 1 puts a byte, 93 ends
abbrev pub called : ℕ → ℕ → Action
called a b = if a == 1 then Puts b else (if a == 93 then Exits b else Traps UNKNOWN_CALL)

-- a load or a store at byte address x traps where x is no multiple of its size
abbrev pub load_asked : LoadKind → ℕ → ℕ → Action
load_asked kind rd x = if is_aligned (load_size kind) x then Loads kind rd x else Traps MISALIGNED_ACCESS

abbrev pub store_asked : StoreKind → ℕ → ℕ → Action
store_asked kind x y = if is_aligned (store_size kind) x then Stores kind x y else Traps MISALIGNED_ACCESS

-- what is asked for, before memory judges an access
unfoldable pub asked_by : Operation → Op → ℕ → ℕ → ℕ → Action
asked_by Illegal op pc a b = Traps ILLEGAL_INSTRUCTION
asked_by FetchFault op pc a b = Traps FETCH_FAULT
asked_by Jal op pc a b = if misses_target Jal op pc a b then Traps MISALIGNED_TARGET else Writes op.rd (value_by Jal op (4 * pc) a b)
asked_by Jalr op pc a b = if misses_target Jalr op pc a b then Traps MISALIGNED_TARGET else Writes op.rd (value_by Jalr op (4 * pc) a b)
asked_by (Branch kind) op pc a b = if misses_target (Branch kind) op pc a b then Traps MISALIGNED_TARGET else Writes 0 0
asked_by (Load kind) op pc a b = load_asked kind op.rd (sum32 a op.imm)
asked_by (Store kind) op pc a b = store_asked kind (sum32 a op.imm) b
asked_by Fence op pc a b = Writes 0 0
asked_by Ecall op pc a b = called a b
asked_by Ebreak op pc a b = Traps BREAKPOINT
asked_by Lui op pc a b = Writes op.rd (value_by Lui op (4 * pc) a b)
asked_by Auipc op pc a b = Writes op.rd (value_by Auipc op (4 * pc) a b)
asked_by (AluImmediate kind) op pc a b = Writes op.rd (value_by (AluImmediate kind) op (4 * pc) a b)
asked_by (Alu kind) op pc a b = Writes op.rd (value_by (Alu kind) op (4 * pc) a b)
asked_by (ReadCounter counter) op pc a b = Writes op.rd (value_by (ReadCounter counter) op (4 * pc) a b)

unfoldable pub asked : Op → ℕ → ℕ → ℕ → Action
asked op pc a b = asked_by (operation_of op.code) op pc a b

-- one of the `size` bytes from x on is in an executable segment
abbrev pub some_executable : (ℕ → Bool) → ℕ → ℕ → Bool
some_executable executable x size =
    executable x
    || (nat_lt 1 size && executable (x + 1))
    || (nat_lt 2 size && (executable (x + 2) || executable (x + 3)))

-- What memory makes of it: a load outside RAM traps, and so does a store outside RAM or into an executable segment.
-- `ram` tells which words (by word address) are in RAM, and `executable` which bytes an executable segment holds.
unfoldable pub judged : (ℕ → Bool) → (ℕ → Bool) → Action → Action
judged ram executable (Loads kind rd x) = if ram (x / 4) then Loads kind rd x else Traps LOAD_FAULT
judged ram executable (Stores kind x y) =
    if ram (x / 4) && not (some_executable executable x (store_size kind)) then Stores kind x y else Traps STORE_FAULT
judged ram executable action = action

-- the access that an action asks for: where, how many bytes, and whether it writes
unfoldable pub access_of : Action → Option Access
access_of (Loads kind rd x) = Some (record { address = x; size = load_size kind; writes = false })
access_of (Stores kind x y) = Some (record { address = x; size = store_size kind; writes = true })
access_of action = None

-- what memory makes of an action, told of its own place whether its word is in RAM and one of its bytes executable
unfoldable pub judged_by : Bool → Bool → Action → Action
judged_by in_ram executable (Loads kind rd x) = if in_ram then Loads kind rd x else Traps LOAD_FAULT
judged_by in_ram executable (Stores kind x y) = if in_ram && not executable then Stores kind x y else Traps STORE_FAULT
judged_by in_ram executable action = action

unfoldable pub action : (ℕ → Bool) → (ℕ → Bool) → Op → ℕ → ℕ → ℕ → Action
action ram executable op pc a b = judged ram executable (asked op pc a b)

-- the word address that comes next; a jump to a target that is no multiple of 4 has trapped
unfoldable pub next_address : Op → ℕ → ℕ → ℕ → ℕ
next_address op pc a b =
    if taken op a b && is_aligned 4 (target op (4 * pc) a b) then target op (4 * pc) a b / 4 else next_word pc

-- operand b of an instruction: a counter takes the place of rs2
unfoldable pub counter_by : Operation → ℕ → ℕ → ℕ → ℕ
counter_by (ReadCounter Cycle) clock count b = clock
counter_by (ReadCounter Instret) clock count b = count
counter_by (ReadCounter Cycleh) clock count b = 0
counter_by (ReadCounter Instreth) clock count b = 0
counter_by _ clock count b = b

unfoldable pub with_counter : Op → ℕ → ℕ → ℕ → ℕ
with_counter op clock count b = counter_by (operation_of op.code) clock count b

-- an instruction that reads a counter, and the one that reads the cycle counter
unfoldable pub counter_test : Operation → Bool
counter_test (ReadCounter counter) = true
counter_test _ = false

unfoldable pub clock_test : Operation → Bool
clock_test (ReadCounter Cycle) = true
clock_test _ = false

unfoldable pub is_counter : Op → Bool
is_counter op = counter_test (operation_of op.code)

unfoldable pub is_clocked : Op → Bool
is_clocked op = clock_test (operation_of op.code)
