-- A cycle keeps the widths of what IF, ID and the predictor hold.
use Rattle.std.proofs.Common.{◌≡◌, ℕ, ◌+◌, ◌-◌, ◌/◌, ◌%◌, ◌^◌, ◌<◌, ◌≤◌, Bool, true, false, List, [], ◌∷◌, ◌++◌, length, drop, replicate, arith, lit<}
use Rattle.std.proofs.Common.{refl, ◌∙◌, length-append, length-drop}
use Rattle.std.specs.Prelude.{Option, Some, None, IfSome, not, ◌&&◌, nat_lt, pred, All, if◌then◌else◌, slice_get, slice_set}
use Rattle.std.proofs.lemmas.Bool.Decides.{nat_tests}
use Rattle.std.proofs.lemmas.List.Elements.{All-append, All-drop, All-filter, All-nil, All-push, All-replicate, All-set}
use Rattle.std.proofs.Math.ListN.{length-set}
use Rattle.elf_load.specs.Image.{LoadedImage, IsImage, fetch}
use Rattle.elf_load.proofs.Executable.{fetch-below}
use Rattle.rv_table.specs.Actions.{misses_target, taken as was_taken}
use Rattle.rv_table.specs.Operations.{operation_of}
use Rattle.rv_table.specs.Words.{decode}
use Rattle.rv_table.specs.declared.op.Op.{Op}
use Rattle.rv_table.specs.declared.op.TheConstants.{FETCH_FAULT_CODE}
use Rattle.rv_table.proofs.Addresses.{next_address-below}
use Rattle.rv_table.proofs.RowLookups.{delay_of-below}
use Rattle.rv_table.proofs.WordTable.{decode-code, decode-rd, decode-rs1, decode-rs2}
use Rattle.pipe_latch.specs.Execution.{is_branch_or_jump, learned, next_of}
use Rattle.pipe_latch.specs.Latches.{DecodedLatch, ResultLatch, no_decoded, op_of_latch}
use Rattle.inst_buf.specs.Buffer.{entries, packed}
use Rattle.inst_buf.specs.BufferBits as buffer_bits
use Rattle.inst_buf.specs.Entry.{Entry, no_entry}
use Rattle.inst_buf.specs.EntryBits as slot_bits
use Rattle.inst_buf.proofs.Packed.{length-entries, length-packed}
use Rattle.predictor.specs.EntryBits as target_bits
use Rattle.predictor.specs.HistoryBits as history_bits
use Rattle.predictor.specs.Places as tables_bits
use Rattle.predictor.specs.TargetBits as targets_bits
use Rattle.predictor.specs.Tables.{Tables, Target, counter_at, moved, no_target, predicted, predicts_taken, target_at, trained}
use Rattle.cyc_machine.specs.declared.fate.Fate.{Fate}
use Rattle.cyc_machine.specs.declared.fate.Fate.TheVariants.{Absent, Dropped, Stays, Goes}
use Rattle.cyc_machine.specs.Pipeline.{counted, decoded, decoded_after, entries_after, fetched, entry_of_word, filled, if_room, lesson, npc_after}
use Rattle.cyc_machine.specs.Pipeline.{op_of_entry, pc_after, taken, trained_by}
use Rattle.cyc_machine.specs.Sizes.{IsDecodedSteady}
use Rattle.rv_table.proofs.DecodedFields.{decode-imm}

-- ---- addresses

either : (P : ℕ → Type 0) (b : Bool) (x y : ℕ) → P x → P y → P (if b then x else y)
either P true x y h g = h
either P false x y h g = g

target-fits : (tables : Tables) (pc : ℕ) → tables_bits.IsFit tables → (target_at tables pc).target < 2 ^ 30
target-fits tables pc fit = let long = fit.targets.0 in (fit.targets.1 (pc % 16) no_target (omega (arith, long))).1.1.0

pub predicted-below : (tables : Tables) (pc : ℕ) → tables_bits.IsFit tables → predicted tables pc < 2 ^ 30
unfolding predicted
predicted-below tables pc fit =
    either (λ n. n < 2 ^ 30) (predicts_taken tables pc) (target_at tables pc).target ((pc + 1) % 2 ^ 30) (target-fits tables pc fit) (omega arith)

room-below : (n predicted pc : ℕ) → predicted < 2 ^ 30 → pc < 2 ^ 30 → if_room n predicted pc < 2 ^ 30
room-below n predicted pc h g = either (λ n. n < 2 ^ 30) (nat_lt n 4) predicted pc h g

pub pc_after-below : (f : Fate) (predicted : ℕ) (waiting : List Entry) (npc pc : ℕ) → predicted < 2 ^ 30 → npc < 2 ^ 30 → pc < 2 ^ 30
    → pc_after f predicted waiting npc pc < 2 ^ 30
unfolding pc_after
pc_after-below Absent predicted waiting npc pc h n l = room-below (length (drop 1 waiting)) predicted pc h l
pc_after-below Dropped predicted waiting npc pc h n l = n
pc_after-below Stays predicted waiting npc pc h n l = room-below (length waiting) predicted pc h l
pc_after-below (Goes a b) predicted waiting npc pc h n l = room-below (length (drop 1 waiting)) predicted pc h l

next_of-below : (d : DecodedLatch) (a b : ℕ) → next_of d a b < 2 ^ 30
unfolding next_of
next_of-below d a b = next_address-below _ d.pc a b

pub npc_after-below : (f : Fate) (d : DecodedLatch) (clock issued npc : ℕ) → npc < 2 ^ 30 → npc_after f d clock issued npc < 2 ^ 30
unfolding npc_after
npc_after-below (Goes a b) d clock issued npc h = next_of-below d a (counted d clock issued b)
npc_after-below Absent d clock issued npc h = h
npc_after-below Dropped d clock issued npc h = h
npc_after-below Stays d clock issued npc h = h

-- ---- the predictor

abbrev IsAddressed : Option (Bool × ℕ) → Type 0
IsAddressed lesson = IfSome lesson (λ lesson. lesson.1 < 2 ^ 30)

learned-by : (b taken : Bool) (next : ℕ) → next < 2 ^ 30 → IsAddressed (if b then Some (taken, next) else None)
learned-by true taken next h = h
learned-by false taken next h = tt

learned-below : (d : DecodedLatch) (a b : ℕ) → IsAddressed (learned d a b)
unfolding learned
learned-below d a b =
    learned-by (is_branch_or_jump (operation_of d.op) && not (misses_target (operation_of d.op) (op_of_latch d) d.pc a b)) (was_taken (op_of_latch d) a b)
    (next_of d a b) (next_of-below d a b)

lesson-below : (f : Fate) (d : DecodedLatch) (clock issued : ℕ) → IsAddressed (lesson f d clock issued)
unfolding lesson
lesson-below (Goes a b) d clock issued = learned-below d a (counted d clock issued b)
lesson-below Absent d clock issued = tt
lesson-below Dropped d clock issued = tt
lesson-below Stays d clock issued = tt

moved-below : (taken : Bool) (counter : ℕ) → counter < 2 ^ 2 → moved taken counter < 2 ^ 2
moved-below true counter h = omega arith
moved-below false counter h = omega arith

counter-fits : (tables : Tables) (pc : ℕ) → tables_bits.IsFit tables → counter_at tables pc < 2 ^ 2
counter-fits tables pc fit = let long = fit.history.0 in fit.history.1 (pc % 64) 0 (omega (arith, long))

trained-fits : (tables : Tables) (pc : ℕ) (taken : Bool) (target : ℕ) → pc < 2 ^ 30 → target < 2 ^ 30 → tables_bits.IsFit tables
    → tables_bits.IsFit (trained tables pc taken target)
unfolding trained
trained-fits tables pc taken target h g fit = record { history = history; targets = targets taken }
  where
    history : history_bits.IsFit (slice_set tables.history (pc % 64) (moved taken (counter_at tables pc)))
    history = (
      length-set tables.history (pc % 64) (moved taken (counter_at tables pc)) ∙ fit.history.0,
      All-set (λ counter. counter < 2 ^ 2) tables.history (pc % 64) (moved taken (counter_at tables pc))
          (moved-below taken (counter_at tables pc) (counter-fits tables pc fit)) fit.history.1,
    )

    put : Target
    put = record { valid = true; tag = pc / 16; target = target }

    put-fits : target_bits.IsFit put
    put-fits = (lit< tt, (omega arith, (g, tt)))

    targets : (b : Bool) → targets_bits.IsFit (if b then slice_set tables.targets (pc % 16) put else tables.targets)
    targets true = (length-set tables.targets (pc % 16) put ∙ fit.targets.0, All-set target_bits.IsFit tables.targets (pc % 16) put put-fits fit.targets.1)
    targets false = fit.targets

trained_by-fits : (o : Option (Bool × ℕ)) (pc : ℕ) (tables : Tables) → IsAddressed o → pc < 2 ^ 30 → tables_bits.IsFit tables
    → tables_bits.IsFit (trained_by o pc tables)
trained_by-fits (Some (taken, target)) pc tables g h fit = trained-fits tables pc taken target h g fit
trained_by-fits None pc tables g h fit = fit

pub tables-fit : (f : Fate) (d : DecodedLatch) (clock issued : ℕ) (tables : Tables) → d.pc < 2 ^ 30 → tables_bits.IsFit tables
    → tables_bits.IsFit (trained_by (lesson f d clock issued) d.pc tables)
tables-fit f d clock issued tables h fit = trained_by-fits (lesson f d clock issued) d.pc tables (lesson-below f d clock issued) h fit

-- ---- the instruction buffer

abbrev AreFetched : List Entry → Type 0
AreFetched es = All slot_bits.IsFit es

word-fits : (pc : ℕ) (o : Option ℕ) → pc < 2 ^ 30 → ((x : ℕ) → o ≡ Some x → x < 2 ^ 32) → slot_bits.IsFit (entry_of_word pc o)
word-fits pc (Some word) h g = (lit< tt, (lit< tt, (h, (g word refl, tt))))
word-fits pc None h g = (lit< tt, (lit< tt, (h, (lit< tt, tt))))

fetched-fits : (image : LoadedImage) (pc : ℕ) → IsImage image → pc < 2 ^ 30 → slot_bits.IsFit (fetched image pc)
fetched-fits image pc is h = word-fits pc (fetch image pc) h (λ x e. fetch-below image pc x is e)

abbrev IsWaiting : List Entry → Type 0
IsWaiting es = (length es ≤ 4) × AreFetched es

filled-fits : (image : LoadedImage) (pc : ℕ) (es : List Entry) → IsImage image → pc < 2 ^ 30 → IsWaiting es → IsWaiting (filled image pc es)
filled-fits image pc es is h w = go (nat_lt (length es) 4) (grind (arith, nat_tests))
  where
    go : (b : Bool) → (b ≡ true → length es < 4) → IsWaiting (if b then es ++ fetched image pc ∷ [] else es)
    go true room =
        let r : length es < 4 = room refl in
        (omega (arith, length-append es (fetched image pc ∷ []), r), All-push slot_bits.IsFit es (fetched image pc) w.1 (fetched-fits image pc is h))
    go false room = w

later-fits : (es : List Entry) → IsWaiting es → IsWaiting (drop 1 es)
later-fits es w = (let l = length-drop 1 es in let h = w.0 in omega (arith, l, h), All-drop slot_bits.IsFit 1 es w.1)

after-fits : (image : LoadedImage) (f : Fate) (pc : ℕ) (es : List Entry) → IsImage image → pc < 2 ^ 30 → IsWaiting es → IsWaiting (entries_after image f pc es)
unfolding entries_after
after-fits image Dropped pc es is h w = (omega arith, All-nil slot_bits.IsFit)
after-fits image Absent pc es is h w = filled-fits image pc (drop 1 es) is h (later-fits es w)
after-fits image Stays pc es is h w = filled-fits image pc es is h w
after-fits image (Goes a b) pc es is h w = filled-fits image pc (drop 1 es) is h (later-fits es w)

none-fits : slot_bits.IsFit no_entry
none-fits = (lit< tt, (lit< tt, (lit< tt, (lit< tt, tt))))

packed-fits : (es : List Entry) → IsWaiting es → buffer_bits.IsFit (packed es)
packed-fits es w = (
  length-packed es w.0,
  All-append slot_bits.IsFit es (replicate (4 - length es) no_entry) w.1
      (All-replicate slot_bits.IsFit (4 - length es) no_entry none-fits),
)

waiting-fits : (slots : List Entry) → buffer_bits.IsFit slots → IsWaiting (entries slots)
waiting-fits slots fit = (let l = length-entries slots in let h = fit.0 in omega (arith, l, h), All-filter (λ e. e.valid) slot_bits.IsFit slots fit.1)

pub buffer-fits : (image : LoadedImage) (f : Fate) (pc : ℕ) (slots : List Entry) → IsImage image → pc < 2 ^ 30 → buffer_bits.IsFit slots
    → buffer_bits.IsFit (packed (entries_after image f pc (entries slots)))
buffer-fits image f pc slots is h fit =
    packed-fits (entries_after image f pc (entries slots)) (after-fits image f pc (entries slots) is h (waiting-fits slots fit))

-- ---- ID/EX

record IsOpSteady (op : Op) : Type 0 where
  pub code : op.code < 64
  pub rd : op.rd < 32
  pub rs1 : op.rs1 < 32
  pub rs2 : op.rs2 < 32
  pub imm : op.imm < 2 ^ 32

op-fits : (e : Entry) (b : Bool) → slot_bits.IsFit e → IsOpSteady (if b then record (decode e.word) { code = FETCH_FAULT_CODE } else decode e.word)
op-fits e true fit = record { code = lit< tt; rd = decode-rd e.word; rs1 = decode-rs1 e.word; rs2 = decode-rs2 e.word; imm = decode-imm e.word fit.1.1.1.0 }
op-fits e false fit =
    record { code = decode-code e.word; rd = decode-rd e.word; rs1 = decode-rs1 e.word; rs2 = decode-rs2 e.word; imm = decode-imm e.word fit.1.1.1.0 }

decoded-steady : (e : Entry) (w : ResultLatch) (registers : List ℕ) → slot_bits.IsFit e → IsDecodedSteady (decoded e w registers)
unfolding decoded
decoded-steady e w registers fit =
    let op = op-fits e e.fault fit in
    record { pc = fit.1.1.0; op = op.code; rd = op.rd; rs1 = op.rs1; rs2 = op.rs2; imm = op.imm; count = delay_of-below (op_of_entry e).code }

none-steady : IsDecodedSteady no_decoded
none-steady = record { pc = lit< tt; op = lit< tt; rd = lit< tt; rs1 = lit< tt; rs2 = lit< tt; imm = lit< tt; count = lit< tt }

taken-steady : (o : Option Entry) (w : ResultLatch) (registers : List ℕ) → IfSome o slot_bits.IsFit → IsDecodedSteady (taken o w registers)
taken-steady (Some e) w registers fit = decoded-steady e w registers fit
taken-steady None w registers fit = none-steady

pred-below : (n : ℕ) → n < 32 → pred n < 32
pred-below n h = grind (arith, nat_tests)

first-fits : (es : List Entry) → AreFetched es → IfSome (slice_get es 0) slot_bits.IsFit
first-fits [] fit = tt
first-fits (e ∷ es) fit = fit 0 e (omega arith)

pub decoded_after-steady : (f : Fate) (d : DecodedLatch) (slots : List Entry) (w : ResultLatch) (registers : List ℕ) → IsDecodedSteady d
    → buffer_bits.IsFit slots
    → IsDecodedSteady (decoded_after f d (entries slots) w registers)
unfolding decoded_after
decoded_after-steady Absent d slots w registers is fit =
    taken-steady (slice_get (entries slots) 0) w registers (first-fits (entries slots) (waiting-fits slots fit).1)
decoded_after-steady Dropped d slots w registers is fit = none-steady
decoded_after-steady Stays d slots w registers is fit =
    record { pc = is.pc; op = is.op; rd = is.rd; rs1 = is.rs1; rs2 = is.rs2; imm = is.imm; count = pred-below d.count is.count }
decoded_after-steady (Goes a b) d slots w registers is fit =
    taken-steady (slice_get (entries slots) 0) w registers (first-fits (entries slots) (waiting-fits slots fit).1)
