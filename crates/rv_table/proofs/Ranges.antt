-- What an operation of 32-bit operands asks for, what it loads and what it stores stay in their ranges.
use Rattle.std.proofs.Common.{ℕ, ◌+◌, ◌-◌, ◌*◌, ◌/◌, ◌%◌, ◌^◌, ◌<◌, Bool, true, false, cond, ltb, arith, lit<}
use Rattle.std.specs.Prelude.{not, ◌&&◌, ◌==◌}
use Rattle.std.proofs.lemmas.Nat.{mod_below}
use Rattle.rv_table.specs.Accesses.{loaded, stored, accesses, byte_of, load_size, store_size, extended_byte, extended_half, half_at}
use Rattle.rv_table.specs.Actions.{action, asked, asked_by, judged, value_by, misses_target, counter_by, with_counter, is_aligned, some_executable}
use Rattle.rv_table.specs.Arithmetic.{sum32}
use Rattle.rv_table.specs.Operations.{operation_of}
use Rattle.rv_table.specs.declared.action.Action.{Action}
use Rattle.rv_table.specs.declared.action.Action.TheVariants.{Writes, Loads, Stores, Puts, Exits, Traps}
use Rattle.rv_table.specs.declared.op.Op.{Op}
use Rattle.rv_table.specs.declared.operation.LoadKind.{LoadKind}
use Rattle.rv_table.specs.declared.operation.LoadKind.TheVariants.{Lb, Lh, Lw, Lbu, Lhu}
use Rattle.rv_table.specs.declared.operation.StoreKind.{StoreKind}
use Rattle.rv_table.specs.declared.operation.CounterKind.TheVariants.{Cycle, Instret, Cycleh, Instreth}
use Rattle.rv_table.specs.declared.operation.Operation.{Operation}
use Rattle.rv_table.specs.declared.operation.Operation.TheVariants.{Lui, Auipc, Jal, Jalr, Branch, Load, Store, AluImmediate, Alu, Fence, Ecall, ReadCounter}
use Rattle.rv_table.proofs.Results.{alu_below}

-- ---- what is written has 32 bits

-- the value that an action writes into its register has 32 bits
abbrev pub IsSmall : Action → Type 0
IsSmall (Writes rd v) = v < 2 ^ 32
IsSmall _ = Unit {0}

small_jump : (t : Bool) (rd v : ℕ) → v < 2 ^ 32 → IsSmall (cond t (Traps 2) (Writes rd v))
small_jump true rd v h = tt
small_jump false rd v h = h

small_access : (t : Bool) (x : Action) → IsSmall x → IsSmall (cond t x (Traps 4))
small_access true x h = h
small_access false x h = tt

small_call : (t u : Bool) (v : ℕ) → IsSmall (cond t (Puts v) (cond u (Exits v) (Traps 8)))
small_call true u v = tt
small_call false true v = tt
small_call false false v = tt

sum_below : (a b : ℕ) → sum32 a b < 2 ^ 32
sum_below a b = omega arith

pub small_asked : (o : Operation) (op : Op) (pc a b : ℕ) → a < 2 ^ 32 → b < 2 ^ 32 → op.imm < 2 ^ 32 → IsSmall (asked_by o op pc a b)
unfolding asked_by value_by
small_asked Jal op pc a b ha hb hi = small_jump (misses_target Jal op pc a b) op.rd (sum32 (4 * pc) 4) (sum_below (4 * pc) 4)
small_asked Jalr op pc a b ha hb hi = small_jump (misses_target Jalr op pc a b) op.rd (sum32 (4 * pc) 4) (sum_below (4 * pc) 4)
small_asked (Branch kind) op pc a b ha hb hi = small_jump (misses_target (Branch kind) op pc a b) 0 0 (lit< tt)
small_asked (Load kind) op pc a b ha hb hi = small_access (is_aligned (load_size kind) (sum32 a op.imm)) (Loads kind op.rd (sum32 a op.imm)) tt
small_asked (Store kind) op pc a b ha hb hi = small_access (is_aligned (store_size kind) (sum32 a op.imm)) (Stores kind (sum32 a op.imm) b) tt
small_asked Fence op pc a b ha hb hi = lit< tt
small_asked Ecall op pc a b ha hb hi = small_call (a == 1) (a == 93) b
small_asked Lui op pc a b ha hb hi = hi
small_asked Auipc op pc a b ha hb hi = sum_below (4 * pc) op.imm
small_asked (AluImmediate kind) op pc a b ha hb hi = alu_below kind a op.imm ha hi
small_asked (Alu kind) op pc a b ha hb hi = alu_below kind a b ha hb
small_asked (ReadCounter counter) op pc a b ha hb hi = hb
small_asked _ op pc a b ha hb hi = tt

pub small_judged : (ram executable : ℕ → Bool) (x : Action) → IsSmall x → IsSmall (judged ram executable x)
unfolding judged
small_judged ram executable (Loads kind rd x) h = elim (ram (x / 4)) as (λ t. IsSmall (cond t (Loads kind rd x) (Traps 5))) [ true ↦ tt | false ↦ tt ]
small_judged ram executable (Stores kind x y) h = elim (ram (x / 4) && not (some_executable executable x (store_size kind))) as (λ t. IsSmall (cond t (Stores kind x y) (Traps 6))) [ true ↦ tt | false ↦ tt ]
small_judged ram executable (Writes rd v) h = h
small_judged ram executable _ h = tt

pub counter_below : (o : Operation) (clock count b : ℕ) → clock < 2 ^ 32 → count < 2 ^ 32 → b < 2 ^ 32 → counter_by o clock count b < 2 ^ 32
unfolding counter_by
counter_below (ReadCounter Cycle) clock count b h g k = h
counter_below (ReadCounter Instret) clock count b h g k = g
counter_below (ReadCounter Cycleh) clock count b h g k = lit< tt
counter_below (ReadCounter Instreth) clock count b h g k = lit< tt
counter_below _ clock count b h g k = k

-- an operation's action, of operands of 32 bits, the counter being one of them
pub small_action : (ram executable : ℕ → Bool) (op : Op) (pc clock count a b : ℕ) → a < 2 ^ 32 → b < 2 ^ 32 → clock < 2 ^ 32 → count < 2 ^ 32
    → op.imm < 2 ^ 32 → IsSmall (action ram executable op pc a (with_counter op clock count b))
unfolding action asked with_counter
small_action ram executable op pc clock count a b ha hb hc hn hi =
    let c : ℕ = counter_by (operation_of op.code) clock count b in
    let below : c < 2 ^ 32 = counter_below (operation_of op.code) clock count b hc hn hb in
    small_judged ram executable (asked_by (operation_of op.code) op pc a c) (small_asked (operation_of op.code) op pc a c ha below hi)

-- ---- what is loaded has 32 bits

extended_byte_below : (v : ℕ) → v < 2 ^ 8 → extended_byte v < 2 ^ 32
extended_byte_below v h = elim (ltb v (2 ^ 7)) as (λ t. cond t v (v + (2 ^ 32 - 2 ^ 8)) < 2 ^ 32) [ true ↦ omega arith | false ↦ omega arith ]

extended_half_below : (v : ℕ) → v < 2 ^ 16 → extended_half v < 2 ^ 32
extended_half_below v h = elim (ltb v (2 ^ 15)) as (λ t. cond t v (v + (2 ^ 32 - 2 ^ 16)) < 2 ^ 32) [ true ↦ omega arith | false ↦ omega arith ]

pub half_below : (x : ℕ) (f : ℕ → ℕ) → ((p : ℕ) → f p < 2 ^ 8) → half_at x f < 2 ^ 16
half_below x f h = omega (arith, h (x / 2 * 2), h (x / 2 * 2 + 1))

pub loaded_below : (kind : LoadKind) (x : ℕ) (f : ℕ → ℕ) → ((p : ℕ) → f p < 2 ^ 8) → loaded kind x f < 2 ^ 32
unfolding loaded
loaded_below Lb x f h = extended_byte_below (f x) (h x)
loaded_below Lh x f h = extended_half_below (half_at x f) (half_below x f h)
loaded_below Lw x f h = omega (arith, h (x / 4 * 4 + 0), h (x / 4 * 4 + 1), h (x / 4 * 4 + 2), h (x / 4 * 4 + 3))
loaded_below Lbu x f h = omega (arith, h x)
loaded_below Lhu x f h = omega (arith, half_below x f h)

-- ---- a stored byte has 8 bits

pub stored_below : (kind : StoreKind) (x y : ℕ) (f : ℕ → ℕ) → ((p : ℕ) → f p < 2 ^ 8) → (p : ℕ) → stored kind x y f p < 2 ^ 8
unfolding stored byte_of
stored_below kind x y f h p =
    elim (accesses (store_size kind) x p) as (λ t. cond t (y / 2 ^ (8 * (p % store_size kind)) % 2 ^ 8) (f p) < 2 ^ 8) [ true ↦ mod_below _ (2 ^ 8) (lit< tt) | false ↦ h p ]
