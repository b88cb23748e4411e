-- A cycle keeps values within 32 bits, where the number of the cycle, which a read of the cycle counter gives, has 32 bits.
use Rattle.std.proofs.Common.{◌≡◌, ℕ, zero, suc, ◌≤◌, sym, subst, ◌-◌, ◌*◌, ◌/◌, ◌%◌, ◌^◌, ◌<◌, Bool, true, false, List, [], ◌∷◌, ◌++◌, length, replicate}
use Rattle.std.proofs.Common.{arith, lit<, refl}
use Rattle.std.specs.Prelude.{⊤, All, IfSome, Option, Some, None, slice_set, ◌==◌, ◌&&◌, not, nat_lt, if◌then◌else◌, slice_get, slice_index}
use Rattle.std.proofs.lemmas.Bool.Decides.{nat_tests}
use Rattle.std.proofs.lemmas.Nat.{mod_below}
use Rattle.std.proofs.lemmas.List.Elements.{All-append, All-filter, All-nil, All-push, All-replicate, All-set, All-tail}
use Rattle.bit_field.specs.Layouts.{number_of}
use Rattle.bit_field.specs.Shapes.{IsShape}
use Rattle.bit_field.specs.declared.shapes.Shape.{Shape}
use Rattle.elf_load.specs.Image.{LoadedImage, IsImage, executable, word_in_ram}
use Rattle.rv_table.specs.Accesses.{byte_of, lane_mask, load_size, store_size, store_word}
use Rattle.rv_table.specs.Actions.{action, asked, asked_by, counter_by, is_aligned, is_counter, judged, misses_target, some_executable, value_by, with_counter}
use Rattle.rv_table.specs.Arithmetic.{sum32}
use Rattle.rv_table.specs.Effects.{is_load, written_register}
use Rattle.rv_table.specs.Operations.{operation_of}
use Rattle.rv_table.specs.declared.action.Action.{Action}
use Rattle.rv_table.specs.declared.action.Action.TheVariants.{Nothing, Writes, Loads, Stores, Puts, Exits, Traps}
use Rattle.rv_table.specs.declared.op.Op.{Op}
use Rattle.rv_table.specs.declared.operation.LoadKind.{LoadKind}
use Rattle.rv_table.specs.declared.operation.Operation.{Operation}
use Rattle.rv_table.specs.declared.operation.Operation.TheVariants.{Lui, Auipc, Jal, Jalr, Branch, Load, Store, AluImmediate, Alu, Fence, Ecall, ReadCounter}
use Rattle.rv_table.specs.declared.operation.StoreKind.{StoreKind}
use Rattle.rv_table.specs.declared.operation.StoreKind.TheVariants.{Sb, Sh, Sw}
use Rattle.rv_table.proofs.Lanes.{byte_stored, half_stored, word_stored}
use Rattle.rv_table.proofs.Ranges.{counter_below, loaded_below}
use Rattle.rv_table.proofs.Results.{alu_below}
use Rattle.pipe_latch.specs.DecodedBits as idex
use Rattle.pipe_latch.specs.Execution.{executed}
use Rattle.pipe_latch.specs.ExecutedBits as exmem
use Rattle.pipe_latch.specs.Forwarding.{late, operand, result_of}
use Rattle.pipe_latch.specs.LatchedActions.{action_of, latch_of}
use Rattle.pipe_latch.specs.Latches.{DecodedLatch, ExecutedLatch, ResultLatch, no_executed, no_result, op_of_latch}
use Rattle.pipe_latch.specs.declared.forward.Forwarded.{Forwarded}
use Rattle.pipe_latch.specs.declared.forward.Forwarded.TheVariants.{Value, Wait}
use Rattle.inst_buf.specs.Buffer.{entries}
use Rattle.inst_buf.specs.Entry.{Entry as Fetched}
use Rattle.store_buf.specs.Covers.{covered}
use Rattle.store_buf.specs.EntryBits as store_bits
use Rattle.store_buf.specs.Entry.{Entry, no_entry}
use Rattle.store_buf.specs.Pending.{is_pending, packed, pending, younger}
use Rattle.store_buf.specs.declared.cover.Cover.{Cover}
use Rattle.store_buf.specs.declared.cover.Cover.TheVariants.{Full, Part, None as Uncovered}
use Rattle.cyc_machine.specs.declared.fate.Fate.{Fate}
use Rattle.cyc_machine.specs.declared.fate.Fate.TheVariants.{Absent, Dropped, Stays, Goes}
use Rattle.cyc_machine.specs.declared.memory_stage.Served.{Served}
use Rattle.cyc_machine.specs.declared.port.Move.{Move}
use Rattle.cyc_machine.specs.declared.port.Move.TheVariants.{Rests, Reads, Drains, Misses, Waits, Leaves, Fills}
use Rattle.cyc_machine.specs.Cycle.{action_in_m, cycle, cycled, fate, move, served_m}
use Rattle.cyc_machine.specs.Facts.{IsMachine}
use Rattle.cyc_machine.specs.Memory.{appended, covered_value, entry_of, kept_stores, load_value, loaded_of, result_after, served, served_by, stores_after}
use Rattle.cyc_machine.specs.Memory.{value_read, without_stray, word_read}
use Rattle.cyc_machine.specs.Pipeline.{counted, decoded, decoded_after, executed_after, fate_of, goes_with, held_value, operand_b, register, taken}
use Rattle.cyc_machine.specs.Pipeline.{written_registers}
use Rattle.cyc_machine.specs.Sizes.{IsDecodedSteady, IsExecutedSteady, IsPendingSteady, IsSteady}
use Rattle.cyc_machine.specs.SizesLaw.{SizesLaw}
use Rattle.cyc_machine.specs.Run.{state_after, state_at}
use Rattle.cyc_machine.specs.State.{State, reset}
use Rattle.cyc_machine.proofs.RunsOn.{cycle-at}
use Rattle.cyc_machine.proofs.Sizes.Flipped.{flip-keeps, in-range, made}
use Rattle.cyc_machine.proofs.Sizes.Lasting.{contents, machine-reset, machine-steady, steady-next}

abbrev IsWord : ℕ → Type 0
IsWord v = v < 2 ^ 32

either-word : (b : Bool) (x y : ℕ) → IsWord x → IsWord y → IsWord (if b then x else y)
either-word true x y h g = h
either-word false x y h g = g

-- ---- what an instruction asks for

abbrev AreWords : Action → Type 0
AreWords Nothing = ⊤
AreWords (Writes rd v) = IsWord v
AreWords (Loads kind rd x) = IsWord x
AreWords (Stores kind x y) = IsWord x × IsWord y
AreWords (Puts v) = IsWord v
AreWords (Exits v) = IsWord v
AreWords (Traps cause) = ⊤

either-words : (b : Bool) (x y : Action) → AreWords x → AreWords y → AreWords (if b then x else y)
either-words true x y h g = h
either-words false x y h g = g

sum-word : (a b : ℕ) → IsWord (sum32 a b)
sum-word a b = omega arith

asked-words : (o : Operation) (op : Op) (pc a b : ℕ) → IsWord a → IsWord b → IsWord op.imm → AreWords (asked_by o op pc a b)
unfolding asked_by value_by
asked-words Jal op pc a b ha hb hi = either-words (misses_target Jal op pc a b) (Traps 2) (Writes op.rd (sum32 (4 * pc) 4)) tt (sum-word (4 * pc) 4)
asked-words Jalr op pc a b ha hb hi = either-words (misses_target Jalr op pc a b) (Traps 2) (Writes op.rd (sum32 (4 * pc) 4)) tt (sum-word (4 * pc) 4)
asked-words (Branch kind) op pc a b ha hb hi = either-words (misses_target (Branch kind) op pc a b) (Traps 2) (Writes 0 0) tt (lit< tt)
asked-words (Load kind) op pc a b ha hb hi =
    either-words (is_aligned (load_size kind) (sum32 a op.imm)) (Loads kind op.rd (sum32 a op.imm)) (Traps 4) (sum-word a op.imm) tt
asked-words (Store kind) op pc a b ha hb hi =
    either-words (is_aligned (store_size kind) (sum32 a op.imm)) (Stores kind (sum32 a op.imm) b) (Traps 4) (sum-word a op.imm, hb) tt
asked-words Fence op pc a b ha hb hi = lit< tt
asked-words Ecall op pc a b ha hb hi =
    either-words (a == 1) (Puts b) (if a == 93 then Exits b else Traps 8) hb (either-words (a == 93) (Exits b) (Traps 8) hb tt)
asked-words Lui op pc a b ha hb hi = hi
asked-words Auipc op pc a b ha hb hi = sum-word (4 * pc) op.imm
asked-words (AluImmediate kind) op pc a b ha hb hi = alu_below kind a op.imm ha hi
asked-words (Alu kind) op pc a b ha hb hi = alu_below kind a b ha hb
asked-words (ReadCounter counter) op pc a b ha hb hi = hb
asked-words _ op pc a b ha hb hi = tt

judged-words : (ram executable : ℕ → Bool) (x : Action) → AreWords x → AreWords (judged ram executable x)
unfolding judged
judged-words ram executable (Loads kind rd x) h = either-words (ram (x / 4)) (Loads kind rd x) (Traps 5) h tt
judged-words ram executable (Stores kind x y) h =
    either-words (ram (x / 4) && not (some_executable executable x (store_size kind))) (Stores kind x y) (Traps 6) h tt
judged-words ram executable (Writes rd v) h = h
judged-words ram executable (Puts v) h = h
judged-words ram executable (Exits v) h = h
judged-words ram executable _ h = tt

action-words : (ram executable : ℕ → Bool) (op : Op) (pc a b : ℕ) → IsWord a → IsWord b → IsWord op.imm → AreWords (action ram executable op pc a b)
unfolding action asked
action-words ram executable op pc a b ha hb hi =
    judged-words ram executable (asked_by (operation_of op.code) op pc a b) (asked-words (operation_of op.code) op pc a b ha hb hi)

-- ---- into EX/MEM and out of it

abbrev IsLatched : ExecutedLatch → Type 0
IsLatched m = IsWord m.x × IsWord m.y

latched-words : (a : Action) → AreWords a → IsLatched (latch_of a)
unfolding latch_of
latched-words Nothing h = (lit< tt, lit< tt)
latched-words (Writes rd v) h = (h, lit< tt)
latched-words (Loads kind rd x) h = (h, lit< tt)
latched-words (Stores kind x y) h = (h.0, h.1)
latched-words (Puts v) h = (h, lit< tt)
latched-words (Exits v) h = (h, lit< tt)
latched-words (Traps cause) h = (lit< tt, lit< tt)

words-latched : (m : ExecutedLatch) → IsWord m.x → IsWord m.y → AreWords (action_of m)
unfolding action_of
words-latched m h g = grind (arith, nat_tests)

-- ---- operands

late-word : (w : ResultLatch) (rs held : ℕ) → IsWord w.value → IsWord held → IsWord (late w rs held)
unfolding late
late-word w rs held h g = either-word (rs == 0) held (if rs == w.rd then w.value else held) g (either-word (rs == w.rd) w.value held h g)

abbrev IsWordForwarded : Forwarded → Type 0
IsWordForwarded (Value v) = IsWord v
IsWordForwarded Wait = ⊤

either-forwarded : (b : Bool) (x y : Forwarded) → IsWordForwarded x → IsWordForwarded y → IsWordForwarded (if b then x else y)
either-forwarded true x y h g = h
either-forwarded false x y h g = g

result-word : (m : Action) → AreWords m → IsWord (result_of m)
result-word (Writes rd v) h = h
result-word Nothing h = lit< tt
result-word (Loads kind rd x) h = lit< tt
result-word (Stores kind x y) h = lit< tt
result-word (Puts v) h = lit< tt
result-word (Exits v) h = lit< tt
result-word (Traps cause) h = lit< tt

operand-word : (m : Action) (w : ResultLatch) (rs held : ℕ) → AreWords m → IsWord w.value → IsWord held → IsWordForwarded (operand m w rs held)
unfolding operand
operand-word m w rs held h g l =
    either-forwarded (rs == 0) (Value held) (if rs == written_register m then (if is_load m then Wait else Value (result_of m))
    else (if rs == w.rd then Value w.value else Value held)) l
    (either-forwarded (rs == written_register m) (if is_load m then Wait else Value (result_of m)) (if rs == w.rd then Value w.value else Value held)
    (either-forwarded (is_load m) Wait (Value (result_of m)) tt (result-word m h))
    (either-forwarded (rs == w.rd) (Value w.value) (Value held) g l))

operand_b-word : (d : DecodedLatch) (m : Action) (w : ResultLatch) → AreWords m → IsWord w.value → IsWord d.b → IsWordForwarded (operand_b d m w)
unfolding operand_b
operand_b-word d m w h g l = either-forwarded (is_counter (op_of_latch d)) (Value 0) (operand m w d.rs2 d.b) (lit< tt) (operand-word m w d.rs2 d.b h g l)

abbrev IsWordFate : Fate → Type 0
IsWordFate (Goes a b) = IsWord a × IsWord b
IsWordFate _ = ⊤

either-fate : (b : Bool) (x y : Fate) → IsWordFate x → IsWordFate y → IsWordFate (if b then x else y)
either-fate true x y h g = h
either-fate false x y h g = g

goes-words : (x y : Forwarded) → IsWordForwarded x → IsWordForwarded y → IsWordFate (goes_with x y)
goes-words (Value a) (Value b) h g = (h, g)
goes-words (Value a) Wait h g = tt
goes-words Wait y h g = tt

fate-words : (d : DecodedLatch) (npc : ℕ) (m : Action) (w : ResultLatch) (goes : Bool) → AreWords m → IsWord w.value → IsWord d.a → IsWord d.b
    → IsWordFate (fate_of d npc m w goes)
unfolding fate_of
fate-words d npc m w goes h g a b =
    either-fate d.valid (if d.pc == npc then (if d.count == 0 && goes then goes_with (operand m w d.rs1 d.a) (operand_b d m w) else Stays) else Dropped) Absent
    (either-fate (d.pc == npc) (if d.count == 0 && goes then goes_with (operand m w d.rs1 d.a) (operand_b d m w) else Stays) Dropped
    (either-fate (d.count == 0 && goes) (goes_with (operand m w d.rs1 d.a) (operand_b d m w)) Stays
    (goes-words (operand m w d.rs1 d.a) (operand_b d m w) (operand-word m w d.rs1 d.a h g a) (operand_b-word d m w h g b)) tt) tt) tt

counted-word : (d : DecodedLatch) (clock issued b : ℕ) → IsWord clock → IsWord issued → IsWord b → IsWord (counted d clock issued b)
unfolding counted with_counter
counted-word d clock issued b h g l = counter_below (operation_of d.op) clock issued b h g l

-- ---- the next latches

kept-words : (goes : Bool) (m : ExecutedLatch) → IsLatched m → IsLatched (if goes then no_executed else m)
kept-words true m h = (lit< tt, lit< tt)
kept-words false m h = h

executed-words : (image : LoadedImage) (d : DecodedLatch) (a b : ℕ) → IsWord a → IsWord b → IsWord d.imm → IsLatched (executed image d a b)
unfolding executed
executed-words image d a b ha hb hi =
    latched-words (action (word_in_ram image) (executable image) (op_of_latch d) d.pc a b)
    (action-words (word_in_ram image) (executable image) (op_of_latch d) d.pc a b ha hb hi)

executed_after-words : (image : LoadedImage) (f : Fate) (goes : Bool) (d : DecodedLatch) (clock issued : ℕ) (m : ExecutedLatch) → IsWordFate f → IsWord d.imm
    → IsWord clock → IsWord issued → IsLatched m → IsLatched (executed_after image f goes d clock issued m)
unfolding executed_after
executed_after-words image (Goes a b) goes d clock issued m words hi hc hn h =
    executed-words image d a (counted d clock issued b) words.0 (counted-word d clock issued b hc hn words.1) hi
executed_after-words image Absent goes d clock issued m words hi hc hn h = kept-words goes m h
executed_after-words image Dropped goes d clock issued m words hi hc hn h = kept-words goes m h
executed_after-words image Stays goes d clock issued m words hi hc hn h = kept-words goes m h

index-word : (registers : List ℕ) (k : ℕ) → All (λ v. v < 2 ^ 32) registers → IsWord (slice_index registers k)
index-word [] k words = lit< tt
index-word (v ∷ registers) zero words = words 0 v (omega arith)
index-word (v ∷ registers) (suc k) words = index-word registers k (All-tail (λ v. v < 2 ^ 32) v registers words)

register-word : (registers : List ℕ) (r : ℕ) → All (λ v. v < 2 ^ 32) registers → IsWord (register registers r)
unfolding register
register-word registers r words = either-word (r == 0) 0 (slice_index registers (r - 1)) (lit< tt) (index-word registers (r - 1) words)

held-word : (w : ResultLatch) (registers : List ℕ) (rs : ℕ) → IsWord w.value → All (λ v. v < 2 ^ 32) registers → IsWord (held_value w registers rs)
held-word w registers rs h words =
    either-word (rs == 0) 0 (late w rs (register registers rs)) (lit< tt) (late-word w rs (register registers rs) h (register-word registers rs words))

abbrev IsDecodedWord : DecodedLatch → Type 0
IsDecodedWord d = IsWord d.a × IsWord d.b

taken-words : (o : Option Fetched) (w : ResultLatch) (registers : List ℕ) → IsWord w.value → All (λ v. v < 2 ^ 32) registers
    → IsDecodedWord (taken o w registers)
unfolding decoded
taken-words (Some e) w registers h words = (held-word w registers _ h words, held-word w registers _ h words)
taken-words None w registers h words = (lit< tt, lit< tt)

decoded_after-words : (f : Fate) (d : DecodedLatch) (waiting : List Fetched) (w : ResultLatch) (registers : List ℕ) → IsWord w.value
    → All (λ v. v < 2 ^ 32) registers → IsDecodedWord d → IsDecodedWord (decoded_after f d waiting w registers)
unfolding decoded_after
decoded_after-words Absent d waiting w registers h words is = taken-words (slice_get waiting 0) w registers h words
decoded_after-words Dropped d waiting w registers h words is = (lit< tt, lit< tt)
decoded_after-words Stays d waiting w registers h words is = (late-word w d.rs1 d.a h is.0, late-word w d.rs2 d.b h is.1)
decoded_after-words (Goes a b) d waiting w registers h words is = taken-words (slice_get waiting 0) w registers h words

-- ---- the memory stage

byte-small : (word i : ℕ) → byte_of word i < 2 ^ 8
unfolding byte_of
byte-small word i = mod_below _ (2 ^ 8) (lit< tt)

loaded-word : (kind : LoadKind) (x word : ℕ) → IsWord (loaded_of kind x word)
loaded-word kind x word = loaded_below kind x (λ p. byte_of word (p % 4)) (λ p. byte-small word (p % 4))

abbrev IsWordServed : Served → Type 0
IsWordServed s = IsWord s.value

value-word : (o : Option ℕ) → IfSome o IsWord → IsWordServed (served_by o)
value-word (Some v) h = h
value-word None h = lit< tt

read-word : (read : Option ℕ) (kind : LoadKind) (x : ℕ) → IfSome (value_read read kind x) IsWord
read-word (Some word) kind x = loaded-word kind x word
read-word None kind x = tt

cover-word : (cover : Cover) (read : Option ℕ) (kind : LoadKind) (x : ℕ) → IfSome (covered_value cover read kind x) IsWord
cover-word (Full word) read kind x = loaded-word kind x word
cover-word Part read kind x = tt
cover-word Uncovered read kind x = read-word read kind x

load-word : (image : LoadedImage) (kind : LoadKind) (x : ℕ) (stores : List Entry) (read : Option ℕ) → IfSome (load_value image kind x stores read) IsWord
unfolding load_value
load-word image kind x stores read = go (word_in_ram image (x / 4))
  where
    go : (b : Bool) → IfSome (if b then covered_value (covered stores (x / 4) (lane_mask (load_size kind) x)) read kind x else Some 0) IsWord
    go true = cover-word (covered stores (x / 4) (lane_mask (load_size kind) x)) read kind x
    go false = lit< tt

served-word : (image : LoadedImage) (m : Action) (stores : List Entry) (read : Option ℕ) → AreWords m → IsWordServed (served image m stores read)
unfolding served
served-word image (Loads kind rd x) stores read h = value-word (load_value image kind x stores read) (load-word image kind x stores read)
served-word image (Writes rd v) stores read h = h
served-word image (Stores kind x y) stores read h = lit< tt
served-word image Nothing stores read h = lit< tt
served-word image (Puts v) stores read h = lit< tt
served-word image (Exits v) stores read h = lit< tt
served-word image (Traps cause) stores read h = lit< tt

result_after-word : (m : Action) (s : Served) → IsWordServed s → IsWord (result_after m s).value
unfolding result_after
result_after-word m s h = go s.goes
  where
    go : (b : Bool) → (let r : ResultLatch = if b then record { rd = written_register m; value = s.value } else no_result in IsWord r.value)
    go true = h
    go false = lit< tt

registers-words : (w : ResultLatch) (registers : List ℕ) → IsWord w.value → All (λ v. v < 2 ^ 32) registers
    → All (λ v. v < 2 ^ 32) (written_registers w registers)
unfolding written_registers
registers-words w registers h words = go (w.rd == 0)
  where
    go : (b : Bool) → All (λ v. v < 2 ^ 32) (if b then registers else slice_set registers (w.rd - 1) w.value)
    go true = words
    go false = All-set (λ v. v < 2 ^ 32) registers (w.rd - 1) w.value h words

-- ---- the store buffer

abbrev AreStored : List Entry → Type 0
AreStored es = All (λ e. e.value < 2 ^ 32) es

younger-words : (es : List Entry) → AreStored es → AreStored (younger es)
younger-words [] is = is
younger-words (e ∷ es) is = All-tail (λ e. e.value < 2 ^ 32) e es is

stray-words : (image : LoadedImage) (es : List Entry) → AreStored es → AreStored (without_stray image es)
stray-words image [] is = is
stray-words image (e ∷ es) is = go (word_in_ram image e.addr)
  where
    go : (b : Bool) → AreStored (if (not b) then es else (e ∷ es))
    go true = is
    go false = All-tail (λ e. e.value < 2 ^ 32) e es is

kept_stores-words : (image : LoadedImage) (v : Move) (es : List Entry) → AreStored es → AreStored (kept_stores image v es)
kept_stores-words image (Drains e way) es is = younger-words es is
kept_stores-words image Rests es is = stray-words image es is
kept_stores-words image (Reads word way) es is = stray-words image es is
kept_stores-words image (Misses line way count owner) es is = stray-words image es is
kept_stores-words image Waits es is = stray-words image es is
kept_stores-words image Leaves es is = stray-words image es is
kept_stores-words image (Fills line way) es is = stray-words image es is

store-word : (kind : StoreKind) (x y : ℕ) → IsWord y → IsWord (store_word kind x y)
store-word Sb x y h = subst IsWord (byte_stored x y) (mod_below _ (2 ^ 32) (lit< tt))
store-word Sh x y h = subst IsWord (half_stored x y) (mod_below _ (2 ^ 32) (lit< tt))
store-word Sw x y h = subst IsWord (sym (word_stored x y h)) h

appended-words : (image : LoadedImage) (m : Action) (room : Bool) → AreWords m → AreStored (appended image m room)
unfolding appended
appended-words image (Stores kind x y) room h = go (room && word_in_ram image (x / 4))
  where
    go : (b : Bool) → AreStored (if b then entry_of kind x y ∷ [] else [])
    go true = All-push (λ e. e.value < 2 ^ 32) [] (entry_of kind x y) (All-nil (λ e. e.value < 2 ^ 32)) (store-word kind x y h.1)
    go false = All-nil (λ e. e.value < 2 ^ 32)
appended-words image Nothing room h = All-nil (λ e. e.value < 2 ^ 32)
appended-words image (Writes rd value) room h = All-nil (λ e. e.value < 2 ^ 32)
appended-words image (Loads kind rd x) room h = All-nil (λ e. e.value < 2 ^ 32)
appended-words image (Puts value) room h = All-nil (λ e. e.value < 2 ^ 32)
appended-words image (Exits value) room h = All-nil (λ e. e.value < 2 ^ 32)
appended-words image (Traps cause) room h = All-nil (λ e. e.value < 2 ^ 32)

stores_after-words : (image : LoadedImage) (m : Action) (v : Move) (slots : List Entry) → AreWords m → AreStored slots
    → AreStored (packed (stores_after image m v (pending slots)))
unfolding stores_after
stores_after-words image m v slots h words =
    let kept = kept_stores-words image v (pending slots) (All-filter is_pending (λ e. e.value < 2 ^ 32) slots words) in
    let more = appended-words image m (nat_lt (length (pending slots)) 4) h in
    All-append (λ e. e.value < 2 ^ 32) (kept_stores image v (pending slots) ++ appended image m (nat_lt (length (pending slots)) 4))
    (replicate (4 - length (stores_after image m v (pending slots))) no_entry)
    (All-append (λ e. e.value < 2 ^ 32) (kept_stores image v (pending slots)) (appended image m (nat_lt (length (pending slots)) 4)) kept more)
    (All-replicate (λ e. e.value < 2 ^ 32) (4 - length (stores_after image m v (pending slots))) no_entry (lit< tt))

-- ---- all of it

flag-below : (b : Bool) → number_of b < 2 ^ 1
flag-below true = lit< tt
flag-below false = lit< tt

decoded-fits : (d : DecodedLatch) → IsDecodedSteady d → IsDecodedWord d → idex.IsFit d
decoded-fits d is words =
    (flag-below d.valid, (is.pc, (is.op, (is.rd, (is.rs1, (is.rs2, (words.0, (words.1, (is.imm, (is.count, tt))))))))))

executed-fits : (m : ExecutedLatch) → IsExecutedSteady m → IsLatched m → exmem.IsFit m
executed-fits m is words = (flag-below m.valid, (is.kind, (is.rd, (words.0, (words.1, (is.cause, tt))))))

stored-fits : (e : Entry) → IsPendingSteady e → IsWord e.value → store_bits.IsFit e
stored-fits e is word = (is.0, (is.1, (word, tt)))

values : (s : State) → IsMachine s → AreStored s.stores
values s is = λ k e l. (is.stores.1 k e l).1.1.0

pub machine-next : (s : State) → IsMachine s → s.cycle < 2 ^ 32 → IsMachine (cycle s)
unfolding cycled
machine-next s is small =
    let steady : IsSteady s = machine-steady s is in
    let next : IsSteady (cycle s) = steady-next s steady in
    let value : IsWord s.w.value = is.w.1.0 in
    let words : AreWords (action_in_m s) = words-latched s.m is.m.1.1.1.0 is.m.1.1.1.1.0 in
    let a : IsWord s.d.a = is.d.1.1.1.1.1.1.0 in
    let b : IsWord s.d.b = is.d.1.1.1.1.1.1.1.0 in
    let fates : IsWordFate (fate s) = fate-words s.d s.npc (action_in_m s) s.w (served_m s).goes words value a b in
    made (cycle s) next.image next.memory next.bytes.memory next.issued (contents (cycle s) next) next.pc next.npc next.tables next.buffer
    (decoded-fits (cycle s).d next.d (decoded_after-words (fate s) s.d (entries s.buffer) s.w s.registers value is.registers.1 (a, b)))
    (executed-fits (cycle s).m next.m
    (executed_after-words s.image (fate s) (served_m s).goes s.d s.cycle s.issued s.m fates steady.d.imm small is.issued (is.m.1.1.1.0, is.m.1.1.1.1.0))) (
      next.w_rd,
      (
        result_after-word (action_in_m s) (served_m s) (served-word s.image (action_in_m s) (pending s.stores) (word_read (move s) s.cache) words),
        tt,
      ),
    )
    (next.registers, registers-words s.w s.registers value is.registers.1)
    (next.slots, λ k e l. stored-fits _ (next.masks k e l) (stores_after-words s.image (action_in_m s) (move s) s.stores words (values s is) k e l))
    (next.port, (flag-below (cycle s).port.owner, tt))

pub machine-at : (image : LoadedImage) (shape : Shape) (t : ℕ) → IsImage image → IsShape shape → t ≤ 2 ^ 32 → IsMachine (state_at image shape t)
unfolding state_after
machine-at image shape zero is fits h = machine-reset image shape is fits
machine-at image shape (suc t) is fits h =
    let number = cycle-at image shape t in
    machine-next (state_at image shape t) (machine-at image shape t is fits (omega (arith, h))) (omega (arith, h, number))

pub sizes-law : SizesLaw
sizes-law = record {
  steady = machine-steady;
  kept = steady-next;
  words = machine-next;
  at = machine-at;
  flip = λ s p is l. flip-keeps p.structure s p.bit is l;
  place = λ s p q h. in-range p.structure s p.bit q h;
}
