-- An operation that names a register rd other than 0 writes it or traps.
use Rattle.std.proofs.Common.{◌≡◌, ◌≢◌, ℕ, ◌*◌, ◌/◌, ◌||◌, ◌&&◌, not, inl, inr, Bool, true, false, cond, arith, ap, refl, ◌∙◌}
use Rattle.std.proofs.lemmas.Bool.Decides.{nat_tests}
use Rattle.rv_table.proofs.Encoded.{fits_form}
use Rattle.rv_table.proofs.RowLookups.{each_row, implied}
use Rattle.rv_table.specs.Accesses.{load_size, store_size}
use Rattle.rv_table.specs.Actions.{action, asked, asked_by, is_aligned, judged, misses_target, some_executable, value_by}
use Rattle.rv_table.specs.Arithmetic.{sum32}
use Rattle.rv_table.specs.Operations.{form_of, operation_of}
use Rattle.rv_table.specs.Rows.{row_of}
use Rattle.rv_table.specs.WellFormed.{fits, well_formed}
use Rattle.rv_table.specs.WriteLaw.{WriteLaw, WritesOrTraps}
use Rattle.rv_table.specs.declared.action.Action.{Action}
use Rattle.rv_table.specs.declared.action.Action.TheVariants.{Writes, Loads, Stores, Traps}
use Rattle.rv_table.specs.declared.form.Form.{Form}
use Rattle.rv_table.specs.declared.form.Form.TheVariants.{U, J, I, B, S, Shift, R, Call, Counter, NoFields}
use Rattle.rv_table.specs.declared.op.Op.{Op}
use Rattle.rv_table.specs.declared.op.TheConstants.{FETCH_FAULT_CODE}
use Rattle.rv_table.specs.declared.operation.Operation.{Operation}
use Rattle.rv_table.specs.declared.operation.Operation.TheVariants.{Illegal, FetchFault, Lui, Auipc, Jal, Jalr, Load, AluImmediate, Alu, ReadCounter}
use Rattle.rv_table.specs.declared.trap.TheConstants.{FETCH_FAULT, ILLEGAL_INSTRUCTION, MISALIGNED_TARGET, MISALIGNED_ACCESS, LOAD_FAULT, STORE_FAULT}

abbrev names_rd : Form → Bool
names_rd B = false
names_rd S = false
names_rd Call = false
names_rd NoFields = false
names_rd _ = true

abbrev may_write : Operation → Bool
may_write Illegal = true
may_write FetchFault = true
may_write Lui = true
may_write Auipc = true
may_write Jal = true
may_write Jalr = true
may_write (Load kind) = true
may_write (AluImmediate kind) = true
may_write (Alu kind) = true
may_write (ReadCounter counter) = true
may_write _ = false

named_rd : (form : Form) (op : Op) → fits form op ≡ true → op.rd ≢ 0 → names_rd form ≡ true
unfolding fits
named_rd U op h n = refl
named_rd J op h n = refl
named_rd I op h n = refl
named_rd Shift op h n = refl
named_rd R op h n = refl
named_rd Counter op h n = refl
named_rd B op h n = absurd (n (grind (arith, nat_tests)))
named_rd S op h n = absurd (n (grind (arith, nat_tests)))
named_rd Call op h n = absurd (n (grind (arith, nat_tests)))
named_rd NoFields op h n = absurd (n (grind (arith, nat_tests)))

writing : (op : Op) → well_formed op ≡ true → op.rd ≢ 0 → may_write (operation_of op.code) ≡ true
unfolding form_of operation_of
writing op h n =
    implied (names_rd (row_of op.code).form) (may_write (row_of op.code).operation) (named_rd (row_of op.code).form op (fits_form op h) n)
    (each_row (λ r. not (names_rd r.form) || may_write r.operation) refl op.code)

jumps-write : (t : Bool) (rd v : ℕ) → WritesOrTraps rd (cond t (Traps MISALIGNED_TARGET) (Writes rd v))
jumps-write true rd v = inr (MISALIGNED_TARGET, refl)
jumps-write false rd v = inl refl

asked-writes : (o : Operation) (op : Op) (pc a b : ℕ) → may_write o ≡ true → WritesOrTraps op.rd (asked_by o op pc a b)
unfolding asked_by
asked-writes Illegal op pc a b h = inr (ILLEGAL_INSTRUCTION, refl)
asked-writes FetchFault op pc a b h = inr (FETCH_FAULT, refl)
asked-writes Lui op pc a b h = inl refl
asked-writes Auipc op pc a b h = inl refl
asked-writes Jal op pc a b h = jumps-write (misses_target Jal op pc a b) op.rd (value_by Jal op (4 * pc) a b)
asked-writes Jalr op pc a b h = jumps-write (misses_target Jalr op pc a b) op.rd (value_by Jalr op (4 * pc) a b)
asked-writes (Load kind) op pc a b h = go (is_aligned (load_size kind) (sum32 a op.imm))
  where
    go : (t : Bool) → WritesOrTraps op.rd (cond t (Loads kind op.rd (sum32 a op.imm)) (Traps MISALIGNED_ACCESS))
    go true = inl refl
    go false = inr (MISALIGNED_ACCESS, refl)
asked-writes (AluImmediate kind) op pc a b h = inl refl
asked-writes (Alu kind) op pc a b h = inl refl
asked-writes (ReadCounter counter) op pc a b h = inl refl
asked-writes _ op pc a b h = absurd cc

judged-writes : (ram executable : ℕ → Bool) (rd : ℕ) (done : Action) → WritesOrTraps rd done → WritesOrTraps rd (judged ram executable done)
unfolding judged
judged-writes ram executable rd (Loads kind r x) h = go (ram (x / 4)) h
  where
    go : (t : Bool) → WritesOrTraps rd (Loads kind r x) → WritesOrTraps rd (cond t (Loads kind r x) (Traps LOAD_FAULT))
    go true h = h
    go false h = inr (LOAD_FAULT, refl)
judged-writes ram executable rd (Stores kind x y) h = go (ram (x / 4) && not (some_executable executable x (store_size kind))) h
  where
    go : (t : Bool) → WritesOrTraps rd (Stores kind x y) → WritesOrTraps rd (cond t (Stores kind x y) (Traps STORE_FAULT))
    go true h = h
    go false h = inr (STORE_FAULT, refl)
judged-writes ram executable rd _ h = h

writes : (ram executable : ℕ → Bool) (op : Op) (pc a b : ℕ) → well_formed op ≡ true → op.rd ≢ 0 → WritesOrTraps op.rd (action ram executable op pc a b)
unfolding action asked
writes ram executable op pc a b h n =
    judged-writes ram executable op.rd (asked_by (operation_of op.code) op pc a b) (asked-writes (operation_of op.code) op pc a b (writing op h n))

fault-operation : operation_of FETCH_FAULT_CODE ≡ FetchFault
unfolding operation_of row_of
fault-operation = refl

faults : (ram executable : ℕ → Bool) (op : Op) (pc a b : ℕ) → op.code ≡ FETCH_FAULT_CODE → action ram executable op pc a b ≡ Traps FETCH_FAULT
unfolding action asked asked_by judged
faults ram executable op pc a b e = ap (λ o. judged ram executable (asked_by o op pc a b)) (ap operation_of e ∙ fault-operation)

pub law : WriteLaw
law = record { writes = writes; faults = faults }
