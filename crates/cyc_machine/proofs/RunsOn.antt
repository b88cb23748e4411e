-- Runs from any state go on from where they stand.
use Rattle.std.proofs.Common.{subst, ◌≡◌, ◌≤◌, ◌<◌, ◌+◌, ◌-◌, ℕ, zero, suc, Bool, true, false, List, [], ◌∷◌, ◌++◌, arith, refl, ap, sym, ◌∙◌, append_assoc}
use Rattle.std.proofs.Common.{append-nil, inl, inr}
use Rattle.std.specs.Prelude.{◌⊎◌, Option, Some, None, if◌then◌else◌}
use Rattle.avf_base.specs.declared.end.End.{End}
use Rattle.bit_field.specs.Shapes.{IsPlaceIn}
use Rattle.bit_field.specs.declared.places.Place.{Place}
use Rattle.bit_field.specs.declared.shapes.Shape.{Shape}
use Rattle.elf_load.specs.Image.{LoadedImage}
use Rattle.rv_isa.specs.Instruction.{Log, logged}
use Rattle.wb_cache.specs.Contents.{empty}
use Rattle.cyc_machine.specs.Cycle.{cycle, cycled, done_in, end_in, event_in, move, put_in, retires}
use Rattle.cyc_machine.specs.Run.{EndsIn, RunsFor, clocks_after, cycle_if, events_after, issues, issues_after, issues_clock, log_after, output_after}
use Rattle.cyc_machine.specs.Run.{retired_after, state_after, state_at, with_one}
use Rattle.cyc_machine.specs.RunsLaw.{RunsLaw}
use Rattle.cyc_machine.specs.State.{State, reset}
use Rattle.cyc_machine.specs.Strikes.{InRange}
use Rattle.cyc_machine.proofs.ShapeKept.{shape-moved}

pub state-on : (j k n : ℕ) (s : State) → n ≡ j + k → state_after j (state_after k s) ≡ state_after n s
unfolding state_after
state-on zero k n s e = let f : k ≡ n = omega (arith, e) in ap (λ m. state_after m s) f
state-on (suc j) k n s e =
    let f : suc (j + k) ≡ n = omega (arith, e) in
    ap cycle (state-on j k (j + k) s refl) ∙ ap (λ m. state_after m s) f

pub numbered : (n : ℕ) (s : State) → (state_after n s).cycle ≡ s.cycle + n
unfolding state_after cycled
numbered zero s = omega arith
numbered (suc n) s = let h = numbered n s in omega (arith, h)

pub image-kept : (n : ℕ) (s : State) → (state_after n s).image ≡ s.image
unfolding state_after cycled
image-kept zero s = refl
image-kept (suc n) s = image-kept n s

pub shape-next : (s : State) → (cycle s).cache.shape ≡ s.cache.shape
unfolding cycled
shape-next s = shape-moved s.image s.cache s.memory (move s)

pub shape-kept : (n : ℕ) (s : State) → (state_after n s).cache.shape ≡ s.cache.shape
unfolding state_after
shape-kept zero s = refl
shape-kept (suc n) s = shape-next (state_after n s) ∙ shape-kept n s

-- ---- lists that grow by what each cycle does

with_one-append : {A : Type 0} (xs ys : List A) (o : Option A) → with_one (xs ++ ys) o ≡ xs ++ with_one ys o
with_one-append xs ys (Some x) = append_assoc xs ys (x ∷ [])
with_one-append xs ys None = refl

-- the cycles from s on, by what each of them does
module _ {A : Type 0} (one : State → Option A) (all : ℕ → State → List A) (none : (s : State) → all zero s ≡ [])
    (more : (n : ℕ) (s : State) → all (suc n) s ≡ with_one (all n s) (one (state_after n s))) where
  list-on : (j k n : ℕ) (s : State) → n ≡ j + k → all n s ≡ all k s ++ all j (state_after k s)
  list-on zero k n s e =
      let f : n ≡ k = omega (arith, e) in
      ap (λ m. all m s) f ∙ sym (append-nil (all k s)) ∙ ap (λ xs. all k s ++ xs) (sym (none (state_after k s)))
  list-on (suc j) k n s e =
      let f : n ≡ suc (j + k) = omega (arith, e) in
      ap (λ m. all m s) f
      ∙ more (j + k) s
      ∙ ap (λ xs. with_one xs (one (state_after (j + k) s))) (list-on j k (j + k) s refl)
      ∙ ap (λ u. with_one (all k s ++ all j (state_after k s)) (one u)) (sym (state-on j k (j + k) s refl))
      ∙ with_one-append (all k s) (all j (state_after k s)) (one (state_after j (state_after k s)))
      ∙ ap (λ xs. all k s ++ xs) (sym (more j (state_after k s)))

pub output-on : (j k : ℕ) (s : State) → output_after (j + k) s ≡ output_after k s ++ output_after j (state_after k s)
unfolding output_after
output-on j k s = list-on put_in output_after (λ s. refl) (λ n s. refl) j k (j + k) s refl

pub events-on : (j k : ℕ) (s : State) → events_after (j + k) s ≡ events_after k s ++ events_after j (state_after k s)
unfolding events_after
events-on j k s = list-on event_in events_after (λ s. refl) (λ n s. refl) j k (j + k) s refl

pub issues-on : (j k : ℕ) (s : State) → issues_after (j + k) s ≡ issues_after k s ++ issues_after j (state_after k s)
unfolding issues_after
issues-on j k s = list-on (λ s. cycle_if (issues s) s) issues_after (λ s. refl) (λ n s. refl) j k (j + k) s refl

pub clocks-on : (j k : ℕ) (s : State) → clocks_after (j + k) s ≡ clocks_after k s ++ clocks_after j (state_after k s)
unfolding clocks_after
clocks-on j k s = list-on (λ s. cycle_if (issues_clock s) s) clocks_after (λ s. refl) (λ n s. refl) j k (j + k) s refl

counted_more : (b : Bool) (m n : ℕ) → (if b then m + n + 1 else m + n) ≡ m + (if b then n + 1 else n)
counted_more true m n = omega arith
counted_more false m n = refl

retired-by : (j k n : ℕ) (s : State) → n ≡ j + k → retired_after n s ≡ retired_after k s + retired_after j (state_after k s)
unfolding retired_after
retired-by zero k n s e = let f : n ≡ k = omega (arith, e) in ap (λ m. retired_after m s) f ∙ omega arith
retired-by (suc j) k n s e =
    let f : n ≡ suc (j + k) = omega (arith, e) in
    ap (λ m. retired_after m s) f
    ∙ ap (λ m. if retires (state_after (j + k) s) then m + 1 else m) (retired-by j k (j + k) s refl)
    ∙ ap (λ u. if retires u then retired_after k s + retired_after j (state_after k s) + 1 else retired_after k s + retired_after j (state_after k s))
    (sym (state-on j k (j + k) s refl))
    ∙ counted_more (retires (state_after j (state_after k s))) (retired_after k s) (retired_after j (state_after k s))

pub retired-on : (j k : ℕ) (s : State) → retired_after (j + k) s ≡ retired_after k s + retired_after j (state_after k s)
retired-on j k s = retired-by j k (j + k) s refl

log-by : (j k n : ℕ) (s : State) (log : Log) → n ≡ j + k → log_after n s log ≡ log_after j (state_after k s) (log_after k s log)
unfolding log_after
log-by zero k n s log e = let f : n ≡ k = omega (arith, e) in ap (λ m. log_after m s log) f
log-by (suc j) k n s log e =
    let f : n ≡ suc (j + k) = omega (arith, e) in
    ap (λ m. log_after m s log) f
    ∙ ap (λ l. logged l (done_in (state_after (j + k) s))) (log-by j k (j + k) s log refl)
    ∙ ap (λ u. logged (log_after j (state_after k s) (log_after k s log)) (done_in u)) (sym (state-on j k (j + k) s refl))

pub log-on : (j k : ℕ) (s : State) (log : Log) → log_after (j + k) s log ≡ log_after j (state_after k s) (log_after k s log)
log-on j k s log = log-by j k (j + k) s log refl

-- ---- ends

before_or_behind : (i k : ℕ) → (i < k) ⊎ (k ≤ i)
before_or_behind i k = grind arith

pub ends-on : (j k : ℕ) (s : State) (end : End) → RunsFor k s → EndsIn (state_after k s) j end → EndsIn s (j + k) end
ends-on j k s end first is = record {
  running = λ i below. elim (before_or_behind i k) as (λ _. end_in (state_after i s) ≡ None) [ inl l ↦ first i l | inr m ↦ later i m below ];
  ends = ap end_in (sym (state-on j k (j + k) s refl)) ∙ is.ends;
}
  where
    later : (i : ℕ) → k ≤ i → i < j + k → end_in (state_after i s) ≡ None
    later i m below =
        let f : i ≡ i - k + k = omega (arith, m) in
        let l : i - k < j = omega (arith, below, m) in
        ap end_in (sym (state-on (i - k) k i s f)) ∙ is.running (i - k) l

pub ended-on : (j k : ℕ) (s : State) (end : End) → EndsIn s (j + k) end → EndsIn (state_after k s) j end
ended-on j k s end is = record {
  running = λ i below. let l : i + k < j + k = omega (arith, below) in ap end_in (state-on i k (i + k) s refl) ∙ is.running (i + k) l;
  ends = ap end_in (state-on j k (j + k) s refl) ∙ is.ends;
}

-- ---- the run from reset

reset-cycle : (image : LoadedImage) (shape : Shape) → (reset image shape).cycle ≡ 0
unfolding reset
reset-cycle image shape = refl

reset-image : (image : LoadedImage) (shape : Shape) → (reset image shape).image ≡ image
unfolding reset
reset-image image shape = refl

pub reset-shape : (image : LoadedImage) (shape : Shape) → (reset image shape).cache.shape ≡ shape
unfolding reset empty
reset-shape image shape = refl

pub cycle-at : (image : LoadedImage) (shape : Shape) (t : ℕ) → (state_at image shape t).cycle ≡ t
cycle-at image shape t = let e = numbered t (reset image shape) in let z = reset-cycle image shape in omega (arith, e, z)

pub place-kept : (n : ℕ) (s : State) (p : Place) → InRange s p → InRange (state_after n s) p
place-kept n s p h = subst (λ (shape : Shape). IsPlaceIn shape p) (sym (shape-kept n s)) h

pub runs-law : RunsLaw
runs-law = record {
  numbered = numbered;
  image = image-kept;
  shape = shape-kept;
  place = place-kept;
  state = λ j k s. state-on j k (j + k) s refl;
  output = output-on;
  events = events-on;
  issues = issues-on;
  clocks = clocks-on;
  retired = retired-on;
  log = log-on;
  ends = ends-on;
  ended = ended-on;
  cycle_at = cycle-at;
  image_at = λ image shape t. image-kept t (reset image shape) ∙ reset-image image shape;
  shape_at = λ image shape t. shape-kept t (reset image shape) ∙ reset-shape image shape;
}
