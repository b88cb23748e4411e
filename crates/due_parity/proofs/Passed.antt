-- The counts of a group up to the touches that were passed.
use Rattle.std.proofs.Common.{◌≡◌, ℕ, ◌+◌, ◌-◌, ◌*◌, ◌<◌, ◌≤◌, inl, inr, Bool, true, false, List, length, get_or, refl, sym, ◌∙◌, ap, arith}
use Rattle.std.specs.Prelude.{not, if◌then◌else◌}
use Rattle.std.proofs.lemmas.Bool.{cases_lt}
use Rattle.std.proofs.lemmas.List.{get_or_default}
use Rattle.bit_field.specs.declared.places.Structure.{Structure}
use Rattle.bit_field.specs.declared.places.Structure.TheVariants.{CData, Rf}
use Rattle.ace_rules.specs.Notes.{Story}
use Rattle.due_parity.specs.Due.{is_quiet}
use Rattle.due_parity.specs.Fates.{fate, fate_by}
use Rattle.due_parity.specs.Notes.{IsRising, fate_in, fate_of, group_touch_at, noted_below}
use Rattle.due_parity.specs.Stretches.{AreGroupDetected, CountsGroup, all_of, bit_in, no_pairs, plus, width}
use Rattle.due_parity.specs.Touches.{IsProtected, group_of}
use Rattle.due_parity.specs.declared.counting.DueCounts.{DueCounts}
use Rattle.due_parity.specs.declared.fate.Fate.TheVariants.{Detected, Quiet}
use Rattle.due_parity.specs.declared.touch.Touch.{Touch}
use Rattle.due_parity.specs.declared.watched.Noted.{Noted}
use Rattle.due_parity.proofs.Decided.{below, fate-at, fate-past, rising, tabled}
use Rattle.due_parity.proofs.Groups.{all-of-group, group-joined, group-nothing}

-- The first i notes are passed: the cycles below `from` are counted, which are those up to and with the last of these notes.
pub record IsPassed (story : Story) (s : Structure) (group : ℕ) (notes : List Noted) (i from : ℕ) (counts : DueCounts) : Type 0 where
  pub counted : CountsGroup story s group 0 from counts
  pub within : from ≤ story.r.cycles
  pub early : (j : ℕ) (d : Noted) → j < i → j < length notes → (get_or notes j d).cycle < from
  pub late : (j : ℕ) (d : Noted) → i ≤ j → j < length notes → from ≤ (get_or notes j d).cycle

pub passed-none : (story : Story) (s : Structure) (group : ℕ) (notes : List Noted) → IsPassed story s group notes 0 0 no_pairs
passed-none story s group notes = record {
  counted = group-nothing story s group;
  within = omega arith;
  early = λ j d l m. absurd (omega (arith, l));
  late = λ j d l m. omega arith;
}

-- the bits of a group are of that group
pub same-group : (s : Structure) (group k : ℕ) → IsProtected s → k < width s → group_of s (width s * group + k) ≡ group
same-group Rf group k is l = omega (arith, l)
same-group CData group k is l = omega (arith, l)
same-group _ group k is l = absurd is

quiet-by : (b : Bool) (c : ℕ) → is_quiet (if b then Detected c else Quiet) ≡ not b
quiet-by true c = refl
quiet-by false c = refl

module _ (story : Story) (s : Structure) (group : ℕ) (is : IsProtected s) (notes : List Noted)
    (are : notes ≡ noted_below (group_touch_at story.r.image story.r.shape s group) story.r.cycles) where
  abbrev touches : ℕ → Touch
  touches = group_touch_at story.r.image story.r.shape s group

  rises : IsRising notes
  rises = rw are (rising touches story.r.cycles)

  short : (j : ℕ) (d : Noted) → j < length notes → (get_or notes j d).cycle < story.r.cycles
  short = rw are (below touches story.r.cycles story.r.cycles (omega arith))

  told : (k t : ℕ) → k < width s → t < story.r.cycles → fate story.r (bit_in s group k) t ≡ fate_in t notes
  told k t b l =
      ap (λ (g : ℕ). fate_by (group_touch_at story.r.image story.r.shape s g) t (story.r.cycles - t)) (same-group s group k is b)
      ∙ sym (tabled touches t story.r.cycles (omega (arith, l)))
      ∙ ap (fate_in t) (sym are)

  module _ (i from : ℕ) (counts : DueCounts) (before : IsPassed story s group notes i from counts) where
    -- the next note
    module _ (note : Noted) (l : i < length notes) (at : note ≡ get_or notes i note) where
      here : (d : Noted) → get_or notes i d ≡ note
      here d = get_or_default notes i d note l ∙ sym at

      pub until-within : note.cycle + 1 ≤ story.r.cycles
      until-within = let b = short i note l in let e : (get_or notes i note).cycle ≡ note.cycle = ap (λ (n : Noted). n.cycle) (sym at) in omega (arith, b, e)

      pub until-after : from ≤ note.cycle + 1
      until-after =
          let b = before.late i note (omega arith) l in
          let e : (get_or notes i note).cycle ≡ note.cycle = ap (λ (n : Noted). n.cycle) (sym at) in
          omega (arith, b, e)

      pub stretch-fates : AreGroupDetected story s group from (note.cycle + 1) note.reads
      stretch-fates bit few t k o =
          let inside : note.cycle + 1 ≤ story.r.cycles = until-within in
          let e : (get_or notes i note).cycle ≡ note.cycle = ap (λ (n : Noted). n.cycle) (sym at) in
          ap is_quiet (told bit t few (omega (arith, o, inside))
          ∙ fate-at t notes i note l
          (λ j m. let b = before.early j note m (omega (arith, m, l)) in omega (arith, b, k)) (omega (arith, o, e))
          ∙ ap (λ (n : Noted). fate_of n) (sym at))
          ∙ quiet-by note.reads note.cycle

      pub passed-more : (one : DueCounts) → CountsGroup story s group from (note.cycle + 1) one
          → IsPassed story s group notes (i + 1) (note.cycle + 1) (plus counts one)
      passed-more one counted = record {
        counted = group-joined story s group 0 from (note.cycle + 1) counts one (omega arith) until-after before.counted counted;
        within = until-within;
        early = λ j d m o. elim (cases_lt j i) [
          | inl b ↦ (let c = before.early j d b o in let after : from ≤ note.cycle + 1 = until-after in omega (arith, c, after))
          | inr b ↦ (let same : j ≡ i = omega (arith, m, b) in
              let e : (get_or notes j d).cycle ≡ note.cycle = ap (λ k. (get_or notes k d).cycle) same ∙ ap (λ (n : Noted). n.cycle) (here d) in
              omega (arith, e))
        ];
        late = λ j d m o.
            let c = rises i j d (omega (arith, m)) o in
            let e : (get_or notes i d).cycle ≡ note.cycle = ap (λ (n : Noted). n.cycle) (here d) in
            omega (arith, c, e);
      }

    -- after the last note
    pub last-fates : length notes ≤ i → AreGroupDetected story s group from story.r.cycles false
    last-fates all bit few t k o =
        ap is_quiet (told bit t few o
        ∙ fate-past t notes (record { cycle = 0; reads = false })
        (λ j m. let b = before.early j (record { cycle = 0; reads = false }) (omega (arith, m, all)) m in omega (arith, b, k)))

    pub counted-all : (one : DueCounts) → CountsGroup story s group from story.r.cycles one → CountsGroup story s group 0 story.r.cycles (plus counts one)
    counted-all one counted = group-joined story s group 0 from story.r.cycles counts one (omega arith) before.within before.counted counted

    pub so-far : all_of counts ≡ width s * from
    so-far =
        let all = all-of-group story s group 0 from counts before.counted in
        let e : from - 0 ≡ from = omega arith in
        all ∙ ap (λ (n : ℕ). width s * n) e
