-- A flipped run that is compared cycle by cycle has the verdict that is its own.
use Rattle.std.proofs.Common.{◌≡◌, ℕ, ◌+◌, ◌-◌, ◌<◌, ◌≤◌, List, ◌++◌, length, take, None, Some, refl, sym, ap, ◌∙◌, subst, arith, inl, inr}
use Rattle.std.proofs.Common.{add-one, append-nil, false, length-append}
use Rattle.std.proofs.lemmas.Bool.{cases_eq}
use Rattle.std.proofs.lemmas.List.{length-take-le}
use Rattle.bit_field.specs.Shapes.{IsPlaceIn}
use Rattle.bit_field.specs.declared.places.Place.{Place}
use Rattle.bit_field.specs.declared.shapes.Shape.{Shape}
use Rattle.elf_load.specs.Image.{LoadedImage}
use Rattle.cyc_machine.specs.Cycle.{cycle, cycled, end_in, put_in}
use Rattle.cyc_machine.specs.Run.{output_after, output_below, state_after, state_at, with_one}
use Rattle.cyc_machine.specs.State.{State, reset}
use Rattle.cyc_machine.specs.Strikes.{InRange, flip_at_place}
use Rattle.cyc_machine.proofs.RunsOn.{cycle-at, output-on, reset-shape, shape-kept}
use Rattle.run_record.specs.Run.{IsRecord, RecordedRun}
use Rattle.run_record.specs.Verdict.{GoesOn, IsFront, IsVerdict, bound, flipped, output_since}
use Rattle.run_record.specs.declared.verdict.Verdict.{Verdict}
use Rattle.run_record.specs.declared.verdict.Verdict.TheVariants.{Same, Differs, NoEnd}
use Rattle.run_record.proofs.Noted.{with_behind}
use Rattle.run_record.proofs.Verdicts.{front_of}
use Rattle.flip_replay.specs.Comparison.{AreFirst, IsCompared, with_put}
use Rattle.flip_replay.proofs.Flips.{course}
use Rattle.flip_replay.proofs.Follows.{Follows, follows-end, follows-first, follows-on}

long_of : (bytes more all : List ℕ) → all ≡ bytes ++ more → length bytes ≤ length all
long_of bytes more all e = let same = ap length e in let sum = length-append bytes more in omega (arith, same, sum)

-- what it has put by then are the first of its bytes
pub recorded_first : (r : RecordedRun) (t matched : ℕ) → IsRecord r → t < r.cycles → matched ≡ length (output_below r.image r.shape t)
    → AreFirst r (output_below r.image r.shape t) matched
recorded_first r t matched is l e =
    let s = reset r.image r.shape in
    let on = output-on (r.cycles - t) t s in
    let all : r.output ≡ output_after t s ++ output_after (r.cycles - t) (state_after t s)
    = is.output ∙ ap (λ n. output_after n s) (omega (arith, l)) ∙ on in
    subst (AreFirst r (output_after t s)) (sym e) (front_of _ _ _ all, long_of _ _ _ all)

-- the first of the recorded bytes, and no others
front-first : (r : RecordedRun) (bytes : List ℕ) (matched : ℕ) → AreFirst r bytes matched → IsFront r bytes
front-first r bytes matched h =
    let long : length bytes ≡ matched = ap length h.0 ∙ length-take-le matched r.output h.1 in h.0 ∙ ap (λ n. take n r.output) (sym long)

module _ (r : RecordedRun) (t : ℕ) (u : State) where
  -- the machine before the cycle of this number, and how many bytes of the recorded ones were put; nothing is settled
  pub record Compared (now : ℕ) (machine : State) (matched : ℕ) : Type 0 where
    pub k : ℕ
    pub counted : now ≡ t + k
    pub number : machine.cycle ≡ now
    pub follows : Follows u k machine
    pub goes_on : (i : ℕ) → i < k → GoesOn r t u i
    pub bytes : AreFirst r (output_since r t u k) matched

  pub compared-first : (matched : ℕ) → u.cycle ≡ t → u.ended ≡ false → AreFirst r (output_below r.image r.shape t) matched
      → Compared t u matched
  unfolding output_after
  compared-first matched number going first = record {
    k = 0;
    counted = omega arith;
    number = number;
    follows = follows-first u u refl going;
    goes_on = λ i l. absurd (omega (arith, l));
    bytes = subst (λ xs. AreFirst r xs matched) (sym (append-nil (output_below r.image r.shape t))) first;
  }

  module _ (now : ℕ) (machine : State) (matched : ℕ) (c : Compared now machine matched) where
    -- the bytes with those of this cycle
    bytes_with : with_put r matched (put_in machine) ≡ output_since r t u (c.k + 1)
    unfolding output_after
    bytes_with =
        ap (λ xs. with_one xs (put_in machine)) (sym c.bytes.0)
        ∙ ap (λ (x : State). with_one (output_since r t u c.k) (put_in x)) c.follows.state
        ∙ with_behind (output_below r.image r.shape t) (output_after c.k u) (put_in (state_after c.k u))
        ∙ ap (output_since r t u) (sym (add-one c.k))

    end_as : end_in (state_after c.k u) ≡ end_in machine
    end_as = ap end_in (sym c.follows.state)

    one_on : GoesOn r t u c.k → (i : ℕ) → i < c.k + 1 → GoesOn r t u i
    one_on here i l = elim (cases_eq i c.k) [ inl e ↦ subst (GoesOn r t u) (sym e) here | inr ne ↦ c.goes_on i (omega arith) ]

    pub compared-on : (next : State) (count : ℕ) → next ≡ cycle machine
        → IsCompared r machine now matched count None → Compared (now + 1) next count
    unfolding cycled
    compared-on next count e judged =
        let first : AreFirst r (output_since r t u (c.k + 1)) count = subst (λ xs. AreFirst r xs count) bytes_with judged.1 in
        record {
          k = c.k + 1;
          counted = omega (arith, c.counted);
          number = ap (λ (x : State). x.cycle) e ∙ ap (λ n. n + 1) c.number;
          follows = follows-on u c.k machine next e judged.0 c.follows;
          goes_on = one_on (record { no_end = end_as ∙ judged.0; front = front-first r (output_since r t u (c.k + 1)) count first });
          bytes = first;
        }

    pub settled : (count : ℕ) (v : Verdict) → now < bound r t
        → IsCompared r machine now matched count (Some v) → IsVerdict r t u v
    settled count (Same cycles) l judged = record {
      last = c.k;
      counted = omega (arith, judged.2, c.counted);
      within = omega (arith, judged.2, l);
      ends = follows-end u c.k machine r.end judged.0 c.follows;
      output = sym bytes_with ∙ judged.1;
    }
    settled count (Differs at) l judged = record {
      k = c.k;
      counted = judged.1 ∙ c.counted;
      within = omega (arith, judged.1, l);
      before = c.goes_on;
      unlike =
          elim judged.0 [
            | inl ne ↦ inl (λ front. ne (subst (IsFront r) (sym bytes_with) front))
            | inr end ↦ inr (record { end = end.ending; ends = end_as ∙ end.ends; unlike = λ p. end.unlike (p.0, bytes_with ∙ p.1) })
          ];
    }
    settled count (NoEnd at) l judged = absurd judged

-- The recorded run up to cycle t, and then the flip.

pub reset-course : (image : LoadedImage) (shape : Shape) → ((reset image shape).cycle ≡ 0) × ((reset image shape).ended ≡ false)
unfolding reset
reset-course image shape = (refl, refl)

module _ (r : RecordedRun) (t : ℕ) (place : Place) (start here : State) (first : start ≡ reset r.image r.shape)
    (later : here ≡ state_after t start) where
  here_is : here ≡ state_at r.image r.shape t
  here_is = later ∙ ap (state_after t) first

  pub is_inside : IsPlaceIn r.shape place → InRange here place
  is_inside inside =
      let s = reset r.image r.shape in
      let shape : here.cache.shape ≡ r.shape = ap (λ (x : State). x.cache.shape) here_is ∙ shape-kept t s ∙ reset-shape r.image r.shape in
      subst (λ (s : Shape). IsPlaceIn s place) (sym shape) inside

  module _ (u : State) (flip : u ≡ flip_at_place here place) where
    pub flipped_is : u ≡ flipped r t place
    flipped_is = flip ∙ ap (λ s. flip_at_place s place) here_is

    pub compared-flipped : (matched : ℕ) → IsRecord r → t < r.cycles → here.ended ≡ false → matched ≡ length (output_after t start)
        → Compared r t u t u matched
    compared-flipped matched is l going put =
        compared-first r t u matched
        (ap (λ (s : State). s.cycle) flip ∙ (course here place).number ∙ ap (λ (s : State). s.cycle) here_is ∙ cycle-at r.image r.shape t)
        (ap (λ (s : State). s.ended) flip ∙ (course here place).ended ∙ going)
        (recorded_first r t matched is l (put ∙ ap (λ s. length (output_after t s)) first))
