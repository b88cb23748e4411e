-- A cycle keeps the widths of what EX/MEM, MEM/WB, the register file, the port and the store buffer hold.
use Rattle.std.proofs.Common.{[], ◌∷◌, ◌-◌, ◌/◌, ◌%◌, replicate, lit<, refl, inl, inr, ◌≡◌, ℕ, ◌<◌, ◌≤◌, Bool, true, false, List, ◌++◌, length, arith}
use Rattle.std.proofs.Common.{length-append}
use Rattle.std.specs.Prelude.{◌≢◌, ◌⊎◌, All, Option, not, ◌&&◌, nat_lt, if◌then◌else◌}
use Rattle.std.proofs.lemmas.Bool.Decides.{nat_tests}
use Rattle.std.proofs.Math.ListN.{length-set}
use Rattle.std.proofs.lemmas.List.Elements.{All-append, All-filter, All-nil, All-push, All-replicate, All-tail}
use Rattle.elf_load.specs.Image.{LoadedImage, IsImage, executable, word_in_ram}
use Rattle.elf_load.proofs.InRam.{word_in_ram-below}
use Rattle.rv_table.specs.Actions.{action}
use Rattle.rv_table.specs.Effects.{written_register}
use Rattle.rv_table.specs.declared.action.Action.{Action}
use Rattle.rv_table.specs.Accesses.{lane_mask, store_size}
use Rattle.rv_table.specs.declared.action.Action.TheVariants.{Nothing, Writes, Loads, Stores, Puts, Exits, Traps}
use Rattle.rv_table.specs.declared.operation.StoreKind.{StoreKind}
use Rattle.rv_table.specs.declared.operation.StoreKind.TheVariants.{Sb, Sh, Sw}
use Rattle.rv_table.proofs.Lanes.{byte_mask, byte_mask_below, high_half_mask, low_half_mask, word_mask}
use Rattle.pipe_latch.specs.Execution.{executed}
use Rattle.pipe_latch.specs.Latches.{DecodedLatch, ExecutedLatch, ResultLatch, no_executed, no_result, op_of_latch}
use Rattle.pipe_latch.specs.LatchedActions.{action_of, latch_of, trap_number}
use Rattle.pipe_latch.proofs.Actions.{action_register, action_trap}
use Rattle.pipe_latch.proofs.Latches.{written-latch}
use Rattle.store_buf.specs.Entry.{Entry, no_entry}
use Rattle.store_buf.specs.Pending.{is_pending, packed, pending, younger}
use Rattle.wb_cache.specs.Contents.{Contents}
use Rattle.cyc_machine.specs.declared.fate.Fate.{Fate}
use Rattle.cyc_machine.specs.declared.fate.Fate.TheVariants.{Absent, Dropped, Stays, Goes}
use Rattle.cyc_machine.specs.declared.memory_stage.Served.{Served}
use Rattle.cyc_machine.specs.declared.port.Move.{Move}
use Rattle.cyc_machine.specs.declared.port.Move.TheVariants.{Rests, Reads, Drains, Misses, Waits, Leaves, Fills}
use Rattle.cyc_machine.specs.Memory.{appended, entry_of, kept_stores, move_of, port_after, result_after, stores_after, without_stray}
use Rattle.cyc_machine.specs.Pipeline.{counted, executed_after, written_registers}
use Rattle.cyc_machine.specs.PortState.{PortState}
use Rattle.cyc_machine.specs.Sizes.{IsExecutedSteady, IsPendingSteady}
use Rattle.cyc_machine.proofs.Buffers.{length-kept}

-- ---- EX/MEM and MEM/WB

latch_of-register : (a : Action) → (latch_of a).rd ≡ written_register a
unfolding latch_of
latch_of-register a = grind arith

cause-of : (a : Action) → (latch_of a).cause ≡ trap_number a
unfolding latch_of
cause-of a = grind arith

kind-of : (a : Action) → (latch_of a).kind < 32
unfolding latch_of
kind-of a = grind arith

executed-steady : (image : LoadedImage) (d : DecodedLatch) (a b : ℕ) → d.rd < 32 → IsExecutedSteady (executed image d a b)
unfolding executed
executed-steady image d a b h =
    let done : Action = action (word_in_ram image) (executable image) (op_of_latch d) d.pc a b in
    let register = latch_of-register done in
    let own = action_register (word_in_ram image) (executable image) (op_of_latch d) d.pc a b in
    let cause = cause-of done in
    let number = action_trap (word_in_ram image) (executable image) (op_of_latch d) d.pc a b in
    record { kind = kind-of done; rd = omega (arith, register, own, h); cause = omega (arith, cause, number) }

none-steady : IsExecutedSteady no_executed
none-steady = record { kind = lit< tt; rd = lit< tt; cause = lit< tt }

kept-steady : (goes : Bool) (m : ExecutedLatch) → IsExecutedSteady m → IsExecutedSteady (if goes then no_executed else m)
kept-steady true m is = none-steady
kept-steady false m is = is

pub executed_after-steady : (image : LoadedImage) (f : Fate) (goes : Bool) (d : DecodedLatch) (clock issued : ℕ) (m : ExecutedLatch) → d.rd < 32
    → IsExecutedSteady m
    → IsExecutedSteady (executed_after image f goes d clock issued m)
unfolding executed_after
executed_after-steady image (Goes a b) goes d clock issued m h is = executed-steady image d a (counted d clock issued b) h
executed_after-steady image Absent goes d clock issued m h is = kept-steady goes m is
executed_after-steady image Dropped goes d clock issued m h is = kept-steady goes m is
executed_after-steady image Stays goes d clock issued m h is = kept-steady goes m is

pub result_after-rd : (m : ExecutedLatch) (v : Served) → m.rd < 32 → (result_after (action_of m) v).rd < 32
unfolding result_after
result_after-rd m v h = go v.goes
  where
    least : written_register (action_of m) < 32
    least = omega (arith, written-latch m)

    go : (b : Bool) → (let r : ResultLatch = if b then record { rd = written_register (action_of m); value = v.value } else no_result in r.rd < 32)
    go true = least
    go false = omega arith

pub length-written_registers : (w : ResultLatch) (registers : List ℕ) → length (written_registers w registers) ≡ length registers
unfolding written_registers
length-written_registers w registers = grind (arith, nat_tests, length-set)

-- ---- the port

pub port_after-below : (port : PortState) (c : Contents) (load : Option ℕ) (store : Option Entry) → port.count < 32
    → (port_after (move_of port c load store) port).count < 32
unfolding move_of port_after
port_after-below port c load store h = grind (arith, nat_tests)

-- ---- the store buffer

appended-length : (image : LoadedImage) (m : Action) (room : Bool) → length (appended image m room) ≤ 1
unfolding appended
appended-length image m room = grind (arith, nat_tests)

appended-full : (image : LoadedImage) (m : Action) → length (appended image m false) ≡ 0
unfolding appended
appended-full image m = grind (arith, nat_tests)

pub stores_after-length : (image : LoadedImage) (m : Action) (v : Move) (stores : List Entry) → length stores ≤ 4 → length (stores_after image m v stores) ≤ 4
unfolding stores_after
stores_after-length image m v stores h = go (nat_lt (length stores) 4) (grind (arith, nat_tests))
  where
    kept : length (kept_stores image v stores) ≤ length stores
    kept = length-kept image v stores

    go : (b : Bool) → (b ≡ true → length stores < 4) → length (kept_stores image v stores ++ appended image m b) ≤ 4
    go true room =
        let k = kept in let r : length stores < 4 = room (grind arith)
        in omega (arith, length-append (kept_stores image v stores) (appended image m true), appended-length image m true)
    go false room = let k = kept in omega (arith, length-append (kept_stores image v stores) (appended image m false), appended-full image m)

abbrev AreSteady : List Entry → Type 0
AreSteady es = All IsPendingSteady es

younger-steady : (es : List Entry) → AreSteady es → AreSteady (younger es)
younger-steady [] is = is
younger-steady (e ∷ es) is = All-tail IsPendingSteady e es is

stray-steady : (image : LoadedImage) (es : List Entry) → AreSteady es → AreSteady (without_stray image es)
stray-steady image [] is = is
stray-steady image (e ∷ es) is = go (word_in_ram image e.addr)
  where
    go : (b : Bool) → AreSteady (if (not b) then es else (e ∷ es))
    go true = is
    go false = All-tail IsPendingSteady e es is

kept_stores-steady : (image : LoadedImage) (v : Move) (es : List Entry) → AreSteady es → AreSteady (kept_stores image v es)
kept_stores-steady image (Drains e way) es is = younger-steady es is
kept_stores-steady image Rests es is = stray-steady image es is
kept_stores-steady image (Reads word way) es is = stray-steady image es is
kept_stores-steady image (Misses line way count owner) es is = stray-steady image es is
kept_stores-steady image Waits es is = stray-steady image es is
kept_stores-steady image Leaves es is = stray-steady image es is
kept_stores-steady image (Fills line way) es is = stray-steady image es is

halves : (x : ℕ) → (x / 2 % 2 ≡ 0) ⊎ (x / 2 % 2 ≢ 0)
halves x = grind arith

same-below : (m n : ℕ) → m ≡ n → n < 16 → m < 16
same-below m n e h = omega (arith, e, h)

mask-below : (kind : StoreKind) (x : ℕ) → lane_mask (store_size kind) x < 16
mask-below Sb x = let k : x % 4 < 4 = omega arith in grind (arith, byte_mask_below x, byte_mask x)
mask-below Sh x = elim (halves x) as (λ _. lane_mask 2 x < 16) [
  | inl low ↦ same-below (lane_mask 2 x) 3 (low_half_mask x low) (lit< tt)
  | inr high ↦ same-below (lane_mask 2 x) 12 (high_half_mask x high) (lit< tt)
]
mask-below Sw x = omega (arith, word_mask x)

appended-steady : (image : LoadedImage) (m : Action) (room : Bool) → IsImage image → AreSteady (appended image m room)
unfolding appended
appended-steady image (Stores kind x y) room is = go (room && word_in_ram image (x / 4)) refl
  where
    go : (b : Bool) → (room && word_in_ram image (x / 4)) ≡ b → AreSteady (if b then entry_of kind x y ∷ [] else [])
    go true h =
        let inside : word_in_ram image (x / 4) ≡ true = grind (arith, nat_tests) in
        All-push IsPendingSteady [] (entry_of kind x y) (All-nil IsPendingSteady) (mask-below kind x, word_in_ram-below image (x / 4) is inside)
    go false h = All-nil IsPendingSteady
appended-steady image Nothing room is = All-nil IsPendingSteady
appended-steady image (Writes rd value) room is = All-nil IsPendingSteady
appended-steady image (Loads kind rd x) room is = All-nil IsPendingSteady
appended-steady image (Puts value) room is = All-nil IsPendingSteady
appended-steady image (Exits value) room is = All-nil IsPendingSteady
appended-steady image (Traps cause) room is = All-nil IsPendingSteady

pub stores_after-steady : (image : LoadedImage) (m : Action) (v : Move) (slots : List Entry) → IsImage image → AreSteady slots
    → AreSteady (packed (stores_after image m v (pending slots)))
unfolding stores_after
stores_after-steady image m v slots is steady =
    let kept = kept_stores-steady image v (pending slots) (All-filter is_pending IsPendingSteady slots steady) in
    let more = appended-steady image m (nat_lt (length (pending slots)) 4) is in
    All-append IsPendingSteady (kept_stores image v (pending slots) ++ appended image m (nat_lt (length (pending slots)) 4))
    (replicate (4 - length (stores_after image m v (pending slots))) no_entry)
    (All-append IsPendingSteady (kept_stores image v (pending slots)) (appended image m (nat_lt (length (pending slots)) 4)) kept more)
    (All-replicate IsPendingSteady (4 - length (stores_after image m v (pending slots))) no_entry (lit< tt, lit< tt))
