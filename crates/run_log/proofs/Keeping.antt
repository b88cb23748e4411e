-- A journal that is kept cycle by cycle is that of the run.
use Rattle.std.proofs.Common.{◌≡◌, ℕ, suc, ◌+◌, ◌<◌, ◌≤◌, List, Bool, true, false, Option, Some, None, sym, ap, ◌∙◌, subst, arith, add-one, inl, inr, ◌⊎◌}
use Rattle.std.specs.Prelude.{is_some, if◌then◌else◌}
use Rattle.avf_base.specs.declared.end.End.{End}
use Rattle.elf_load.specs.Image.{LoadedImage}
use Rattle.bit_field.specs.Shapes.{IsShape}
use Rattle.bit_field.specs.declared.shapes.Shape.{Shape}
use Rattle.cyc_machine.specs.Cycle.{cycle, cycled, end_in, event_in, put_in, retires}
use Rattle.cyc_machine.specs.Run.{IsRunning, clocks_after, clocks_below, cycle_if, events_after, events_below, issues, issues_after, issues_below}
use Rattle.cyc_machine.specs.Run.{issues_clock, output_after, output_below, retired_after, retired_below, state_after, state_at, with_one}
use Rattle.cyc_machine.specs.State.{State, reset}
use Rattle.run_record.specs.Journals.{Adds, IsEmpty, closed, entry_of}
use Rattle.run_record.specs.Run.{IsRecord}
use Rattle.run_record.specs.declared.journal.Journal.{Journal}

-- the machine and the journal before cycle t, no end having come
pub record Kept (image : LoadedImage) (shape : Shape) (t : ℕ) (machine : State) (journal : Journal) : Type 0 where
  pub state : machine ≡ state_at image shape t
  pub number : machine.cycle ≡ t
  pub going : machine.ended ≡ false
  pub running : IsRunning image shape t
  pub output : journal.output.items ≡ output_below image shape t
  pub events : journal.events.items ≡ events_below image shape t
  pub issues_at : journal.issues.items ≡ issues_below image shape t
  pub clocks : journal.clocks.items ≡ clocks_below image shape t
  pub retired : journal.retired ≡ retired_below image shape t
  pub few : journal.retired ≤ t

pub starts : (image : LoadedImage) (shape : Shape) (machine : State) (journal : Journal) → machine ≡ reset image shape → IsEmpty journal
    → Kept image shape 0 machine journal
unfolding state_after output_after events_after issues_after clocks_after retired_after reset
starts image shape machine journal e h = record {
  state = e;
  number = ap (λ (s : State). s.cycle) e;
  going = ap (λ (s : State). s.ended) e;
  running = λ u l. absurd (omega (arith, l));
  output = h.output;
  events = h.events;
  issues_at = h.issues;
  clocks = h.clocks;
  retired = h.retired;
  few = let none = h.retired in omega (arith, none);
}

with_one-same : {A : Type 0} (xs ys : List A) (x y : Option A) → xs ≡ ys → x ≡ y → with_one xs x ≡ with_one ys y
with_one-same xs ys x y e f = cc

counted : (b c : Bool) (m n : ℕ) → b ≡ c → m ≡ n → (if b then m + 1 else m) ≡ (if c then n + 1 else n)
counted b c m n e f = cc

count_below : (b : Bool) (m n t : ℕ) → n ≡ (if b then m + 1 else m) → m ≤ t → n ≤ t + 1
count_below true m n t e l = let h : n ≡ m + 1 = e in omega arith
count_below false m n t e l = let h : n ≡ m = e in omega arith

-- a cycle that brings no end
pub running_more : (image : LoadedImage) (shape : Shape) (t : ℕ) → end_in (state_at image shape t) ≡ None → IsRunning image shape t
    → IsRunning image shape (suc t)
running_more image shape t none running u l =
    elim (last u l) as (λ _. end_in (state_at image shape u) ≡ None)
    [ inl e ↦ subst (λ v. end_in (state_at image shape v) ≡ None) (sym e) none | inr h ↦ running u h ]
  where
    last : (v : ℕ) → v < suc t → (v ≡ t) ⊎ (v < t)
    last v l = grind arith

-- The lists after one more cycle.
module _ (image : LoadedImage) (shape : Shape) (t : ℕ) (s : State) (old new : Journal) (kept : Kept image shape t s old)
    (written : Adds (entry_of s) old new) where
  output_next : new.output.items ≡ output_below image shape (suc t)
  unfolding output_after
  output_next = written.output ∙ with_one-same _ _ _ _ kept.output (ap put_in kept.state)

  events_next : new.events.items ≡ events_below image shape (suc t)
  unfolding events_after
  events_next = written.events ∙ with_one-same _ _ _ _ kept.events (ap event_in kept.state)

  issues_next : new.issues.items ≡ issues_below image shape (suc t)
  unfolding issues_after
  issues_next = written.issues ∙ with_one-same _ _ _ _ kept.issues_at (ap (λ (x : State). cycle_if (issues x) x) kept.state)

  clocks_next : new.clocks.items ≡ clocks_below image shape (suc t)
  unfolding clocks_after
  clocks_next = written.clocks ∙ with_one-same _ _ _ _ kept.clocks (ap (λ (x : State). cycle_if (issues_clock x) x) kept.state)

  retired_next : new.retired ≡ retired_below image shape (suc t)
  unfolding retired_after
  retired_next = written.retired ∙ counted _ _ _ _ (ap retires kept.state) kept.retired

  end_as : end_in s ≡ end_in (state_at image shape t)
  end_as = ap end_in kept.state

  -- the cycle that doesn't end the run
  pub goes_on : (next : State) → next ≡ cycle s → end_in s ≡ None → Kept image shape (suc t) next new
  unfolding state_after cycled
  goes_on next e none = record {
    state = e ∙ ap cycle kept.state;
    number = ap (λ (x : State). x.cycle) e ∙ ap (λ n. n + 1) kept.number ∙ add-one t;
    going = ap (λ (x : State). x.ended) e ∙ ap is_some none;
    running = running_more image shape t (sym end_as ∙ none) kept.running;
    output = output_next;
    events = events_next;
    issues_at = issues_next;
    clocks = clocks_next;
    retired = retired_next;
    few = let h = count_below (retires s) old.retired new.retired t written.retired kept.few in omega (arith, h);
  }

  -- the cycle that ends it
  pub ends : IsShape shape → (end : End) (cycles : ℕ) → end_in s ≡ Some end → cycles ≡ suc t → IsRecord (closed image shape cycles end new)
  ends fits end cycles e c = record {
    fits = fits;
    last = t;
    cycles = c ∙ sym (add-one t);
    running = kept.running;
    ends = sym end_as ∙ e;
    instructions = retired_next ∙ ap (retired_below image shape) (sym c);
    output = output_next ∙ ap (output_below image shape) (sym c);
    events = events_next ∙ ap (events_below image shape) (sym c);
    issues = issues_next ∙ ap (issues_below image shape) (sym c);
    clocks = clocks_next ∙ ap (clocks_below image shape) (sym c);
  }
