-- A machine that makes cycles in which no end comes follows the run of the state that it started from.
use Rattle.std.proofs.Common.{◌≡◌, ◌⊎◌, ℕ, suc, ◌+◌, ◌<◌, ◌≤◌, List, ◌∷◌, [], Bool, true, false, length, length-append, refl, sym, ap, ◌∙◌, subst, arith, add-one, inl, inr}
use Rattle.std.specs.Prelude.{Option, Some, None, is_some, if◌then◌else◌}
use Rattle.avf_base.specs.declared.end.End.{End}
use Rattle.cyc_machine.specs.Cycle.{cycle, cycled, end_in, put_in, retires}
use Rattle.cyc_machine.specs.Run.{EndsIn, RunsFor, output_after, retired_after, state_after, with_one}
use Rattle.cyc_machine.specs.State.{State}

-- the machine n cycles after s, no end having come
pub record Follows (s : State) (n : ℕ) (machine : State) : Type 0 where
  pub state : machine ≡ state_after n s
  pub number : machine.cycle ≡ s.cycle + n
  pub going : machine.ended ≡ false
  pub running : RunsFor n s

pub follows-first : (s machine : State) → machine ≡ s → s.ended ≡ false → Follows s 0 machine
unfolding state_after
follows-first s machine e going = record {
  state = e;
  number = ap (λ (x : State). x.cycle) e ∙ omega arith;
  going = ap (λ (x : State). x.ended) e ∙ going;
  running = λ k l. absurd (omega (arith, l));
}

-- no end comes in one more cycle
runs-on : (s : State) (n : ℕ) → end_in (state_after n s) ≡ None → RunsFor n s → RunsFor (suc n) s
runs-on s n none running k l =
    elim (last k l) as (λ _. end_in (state_after k s) ≡ None)
    [ inl e ↦ subst (λ j. end_in (state_after j s) ≡ None) (sym e) none | inr h ↦ running k h ]
  where
    last : (j : ℕ) → j < suc n → (j ≡ n) ⊎ (j < n)
    last j l = grind arith

pub follows-on : (s : State) (n : ℕ) (machine next : State) → next ≡ cycle machine → end_in machine ≡ None → Follows s n machine
    → Follows s (n + 1) next
unfolding state_after cycled
follows-on s n machine next e none f = subst (λ m. Follows s m next) (sym (add-one n)) (record {
  state = e ∙ ap cycle f.state;
  number = ap (λ (x : State). x.cycle) e ∙ ap (λ m. m + 1) f.number ∙ omega arith;
  going = ap (λ (x : State). x.ended) e ∙ ap is_some none;
  running = runs-on s n (sym (ap end_in f.state) ∙ none) f.running;
})

-- the cycle that ends the run
pub follows-end : (s : State) (n : ℕ) (machine : State) (end : End) → end_in machine ≡ Some end → Follows s n machine → EndsIn s n end
follows-end s n machine end e f = record { running = f.running; ends = ap end_in (sym f.state) ∙ e }

-- What is counted in one more cycle.

more_put : (o : Option ℕ) (xs : List ℕ) → length (with_one xs o) ≡ (if is_some o then length xs + 1 else length xs)
more_put (Some x) xs = length-append xs (x ∷ [])
more_put None xs = refl

pub put-on : (s : State) (n : ℕ) (machine : State) (b : Bool) (put : ℕ) → is_some (put_in machine) ≡ b → Follows s n machine
    → put ≡ length (output_after n s) → (if b then put + 1 else put) ≡ length (output_after (n + 1) s)
unfolding output_after
put-on s n machine b put e f h =
    ap (λ c. if c then put + 1 else put) (sym e ∙ ap (λ (x : State). is_some (put_in x)) f.state)
    ∙ ap (λ m. if is_some (put_in (state_after n s)) then m + 1 else m) h
    ∙ sym (more_put (put_in (state_after n s)) (output_after n s))
    ∙ ap (λ m. length (output_after m s)) (sym (add-one n))

pub retired-on : (s : State) (n : ℕ) (machine : State) (old new : ℕ) → new ≡ (if retires machine then old + 1 else old) → Follows s n machine
    → old ≡ retired_after n s → new ≡ retired_after (n + 1) s
unfolding retired_after
retired-on s n machine old new e f h =
    e
    ∙ ap (λ (x : State). if retires x then old + 1 else old) f.state
    ∙ ap (λ m. if retires (state_after n s) then m + 1 else m) h
    ∙ ap (λ m. retired_after m s) (sym (add-one n))

one_more : (b : Bool) (old new n : ℕ) → new ≡ (if b then old + 1 else old) → old ≤ n → new ≤ n + 1
one_more true old new n e h = omega (arith, e, h)
one_more false old new n e h = omega (arith, e, h)

pub few-on : (machine : State) (old new n : ℕ) → new ≡ (if retires machine then old + 1 else old) → old ≤ n → new ≤ n + 1
few-on machine = one_more (retires machine)

-- at first nothing is counted

pub put-first : (s : State) → 0 ≡ length (output_after 0 s)
unfolding output_after
put-first s = refl

pub retired-first : (s : State) → 0 ≡ retired_after 0 s
unfolding retired_after
retired-first s = refl
