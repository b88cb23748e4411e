-- What a cycle reads of the instruction buffer and of the latches: nothing of an empty place.
use Rattle.std.proofs.Common.{◌≡◌, ℕ, Bool, true, false, List, [], ◌∷◌, refl, sym, ap, arith, ◌∙◌}
use Rattle.std.specs.Prelude.{◌==◌, map}
use Rattle.std.proofs.lemmas.Bool.Decides.{nat_tests}
use Rattle.rv_table.specs.declared.action.Action.{Action}
use Rattle.inst_buf.specs.Buffer.{entries}
use Rattle.inst_buf.specs.Entry.{Entry}
use Rattle.pipe_latch.specs.Forwarding.{late, operand}
use Rattle.pipe_latch.specs.Latches.{DecodedLatch, ExecutedLatch, ResultLatch, no_executed}
use Rattle.pipe_latch.specs.LatchedActions.{action_of, kind_number}
use Rattle.pipe_latch.specs.declared.kinds.ExMemKind.TheVariants.{Trap}
use Rattle.pipe_latch.proofs.Latches.{action_of-cause, action_of-invalid, action_of-no_executed}
use Rattle.cyc_machine.specs.Pipeline.{fate_of, operand_b, written_registers}
use Rattle.cyc_machine.specs.declared.fate.Fate.{Fate}
use Rattle.cyc_machine.specs.declared.fate.Fate.TheVariants.{Absent}
use Rattle.flush_view.specs.Ignored.{read_of_decoded, read_of_executed, read_of_fetched, read_of_result}

-- the entries are those of what is read
entries_by : (e : Entry) (slots : List Entry) (b : Bool) → e.valid ≡ b → entries (map read_of_fetched slots) ≡ entries slots
    → entries (map read_of_fetched (e ∷ slots)) ≡ entries (e ∷ slots)
entries_by e slots true is same = rw is (ap (λ (es : List Entry). record e { valid = true } ∷ es) same)
entries_by e slots false is same = rw is same

pub entries-read : (slots : List Entry) → entries (map read_of_fetched slots) ≡ entries slots
entries-read [] = refl
entries-read (e ∷ slots) = entries_by e slots e.valid refl (entries-read slots)

-- EX/MEM does what is read of it
pub action-read : (m : ExecutedLatch) → action_of (read_of_executed m) ≡ action_of m
action-read m = go m.valid refl (m.kind == kind_number Trap) refl
  where
    go : (v : Bool) → m.valid ≡ v → (k : Bool) → (m.kind == kind_number Trap) ≡ k → action_of (read_of_executed m) ≡ action_of m
    go false is k h =
        let other : read_of_executed m ≡ no_executed = rw is refl in
        ap action_of other ∙ action_of-no_executed ∙ sym (action_of-invalid m is)
    go true is true h =
        let other : read_of_executed m ≡ m = rw (is, h) refl in
        ap action_of other
    go true is false h =
        let other : read_of_executed m ≡ record m { cause = 0 } = rw (is, h) refl in
        ap action_of other ∙ action_of-cause m 0 (λ e. grind (arith, nat_tests))

pub valid-read : (m : ExecutedLatch) → (read_of_executed m).valid ≡ m.valid
valid-read m = go m.valid refl (m.kind == kind_number Trap) refl
  where
    go : (v : Bool) → m.valid ≡ v → (k : Bool) → (m.kind == kind_number Trap) ≡ k → (read_of_executed m).valid ≡ m.valid
    go false is k h = rw is refl
    go true is true h = rw (is, h) refl
    go true is false h = rw (is, h) refl

-- MEM/WB forwards and writes what is read of it
pub late-read : (w : ResultLatch) (rs held : ℕ) → late (read_of_result w) rs held ≡ late w rs held
unfolding late
late-read w rs held = grind (arith, nat_tests)

pub operand-read : (m : Action) (w : ResultLatch) (rs held : ℕ) → operand m (read_of_result w) rs held ≡ operand m w rs held
unfolding operand
operand-read m w rs held = grind (arith, nat_tests)

pub written-read : (w : ResultLatch) (registers : List ℕ) → written_registers (read_of_result w) registers ≡ written_registers w registers
unfolding written_registers
written-read w registers = grind (arith, nat_tests)

-- two of ID/EX are the same, or both empty
pub data SameDecoded (d e : DecodedLatch) : Type 0 where
  Same : d ≡ e → SameDecoded d e
  Empty : d.valid ≡ false → e.valid ≡ false → SameDecoded d e

pub decoded-cases : (d e : DecodedLatch) → read_of_decoded d ≡ read_of_decoded e → SameDecoded d e
decoded-cases d e same = go d.valid refl e.valid refl
  where
    valid : (x : DecodedLatch) (b : Bool) → x.valid ≡ b → (read_of_decoded x).valid ≡ b
    valid x true is = rw is refl
    valid x false is = rw is refl

    full : (x : DecodedLatch) → x.valid ≡ true → read_of_decoded x ≡ x
    full x is = rw is refl

    go : (b : Bool) → d.valid ≡ b → (c : Bool) → e.valid ≡ c → SameDecoded d e
    go false p false q = Empty p q
    go true p true q = Same (sym (full d p) ∙ same ∙ full e q)
    go true p false q = let x = valid d true p in let y = valid e false q in absurd cc
    go false p true q = let x = valid d false p in let y = valid e true q in absurd cc

fate-empty : (d : DecodedLatch) (npc : ℕ) (m : Action) (w : ResultLatch) (goes : Bool) → d.valid ≡ false → fate_of d npc m w goes ≡ Absent
unfolding fate_of
fate-empty d npc m w goes is = rw is refl

fate-read : (d : DecodedLatch) (npc : ℕ) (m : Action) (w : ResultLatch) (goes : Bool)
    → fate_of d npc m (read_of_result w) goes ≡ fate_of d npc m w goes
unfolding fate_of operand_b
fate-read d npc m w goes = rw (operand-read m w d.rs1 d.a, operand-read m w d.rs2 d.b) refl

-- so what becomes of it is the same, and with it what is computed from it, where an empty ID/EX isn't read
pub same-by_d : {A : Type 0} (g : Fate → DecodedLatch → A) (d e : DecodedLatch) (npc : ℕ) (m : Action) (v w : ResultLatch) (goes : Bool)
    → SameDecoded d e
    → read_of_result v ≡ read_of_result w → ((x y : DecodedLatch) → g Absent x ≡ g Absent y)
    → g (fate_of d npc m v goes) d ≡ g (fate_of e npc m w goes) e
same-by_d g d e npc m v w goes (Same is) same apart =
    ap (λ f. g f d) (sym (fate-read d npc m v goes) ∙ ap (λ r. fate_of d npc m r goes) same ∙ fate-read d npc m w goes)
    ∙ ap (λ x. g (fate_of x npc m w goes) x) is
same-by_d g d e npc m v w goes (Empty p q) same apart =
    ap (λ f. g f d) (fate-empty d npc m v goes p)
    ∙ apart d e
    ∙ ap (λ f. g f e) (sym (fate-empty e npc m w goes q))
