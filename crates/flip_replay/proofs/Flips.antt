-- Flips one after another. None of them changes the number of the cycle, or whether the run has ended.
use Rattle.std.proofs.Common.{◌≡◌, ℕ, ◌+◌, ◌<◌, List, drop, get_or, length, refl, sym, ap, ◌∙◌, subst}
use Rattle.std.specs.Prelude.{All}
use Rattle.std.proofs.Math.Seq.{drop-length}
use Rattle.std.proofs.lemmas.List.{drop_more}
use Rattle.bit_field.specs.declared.places.Place.{Place}
use Rattle.bit_field.specs.declared.places.Structure.{Structure}
use Rattle.bit_field.specs.declared.places.Structure.TheVariants.{Pc, Npc, Bht, Btb, Ib, IdEx, ExMem, MemWb, Rf, Sb, Port, CData, CTag, CValid, CDirty, CLru}
use Rattle.cyc_machine.specs.State.{State}
use Rattle.cyc_machine.specs.Strikes.{InRange, flip_at_place, flip_in}
use Rattle.cyc_machine.proofs.Sizes.Flipped.{in-range}
use Rattle.flip_replay.specs.Lasting.{struck}

-- what no strike reaches
pub record SameCourse (s u : State) : Type 0 where
  pub number : u.cycle ≡ s.cycle
  pub ended : u.ended ≡ s.ended

course-in : (a : Structure) (s : State) (k : ℕ) → SameCourse s (flip_in a s k)
course-in Pc s k = record { number = refl; ended = refl }
course-in Npc s k = record { number = refl; ended = refl }
course-in Bht s k = record { number = refl; ended = refl }
course-in Btb s k = record { number = refl; ended = refl }
course-in Ib s k = record { number = refl; ended = refl }
course-in IdEx s k = record { number = refl; ended = refl }
course-in ExMem s k = record { number = refl; ended = refl }
course-in MemWb s k = record { number = refl; ended = refl }
course-in Rf s k = record { number = refl; ended = refl }
course-in Sb s k = record { number = refl; ended = refl }
course-in Port s k = record { number = refl; ended = refl }
course-in CData s k = record { number = refl; ended = refl }
course-in CTag s k = record { number = refl; ended = refl }
course-in CValid s k = record { number = refl; ended = refl }
course-in CDirty s k = record { number = refl; ended = refl }
course-in CLru s k = record { number = refl; ended = refl }

pub course : (s : State) (place : Place) → SameCourse s (flip_at_place s place)
course s place = course-in place.structure s place.bit

-- the machine when the first i places are flipped
pub record Striking (s : State) (places : List Place) (i : ℕ) (machine : State) : Type 0 where
  pub rest : struck machine (drop i places) ≡ struck s places
  pub inside : All (InRange machine) places
  pub number : machine.cycle ≡ s.cycle
  pub ended : machine.ended ≡ s.ended

pub striking-first : (s : State) (places : List Place) → All (InRange s) places → Striking s places 0 s
striking-first s places inside = record { rest = refl; inside = inside; number = refl; ended = refl }

pub striking-on : (s : State) (places : List Place) (i : ℕ) (machine next : State) (d : Place) → i < length places
    → next ≡ flip_at_place machine (get_or places i d) → Striking s places i machine → Striking s places (i + 1) next
unfolding struck
striking-on s places i machine next d l e h =
    let p = get_or places i d in
    let same = course machine p in
    subst (Striking s places (i + 1)) (sym e) (record {
      rest = sym (ap (struck machine) (drop_more places i d l)) ∙ h.rest;
      inside = λ j q m. in-range p.structure machine p.bit (get_or places j q) (h.inside j q m);
      number = same.number ∙ h.number;
      ended = same.ended ∙ h.ended;
    })

pub striking-all : (s : State) (places : List Place) (i : ℕ) (machine : State) → i ≡ length places → Striking s places i machine
    → machine ≡ struck s places
unfolding struck
striking-all s places i machine e h =
    sym (ap (struck machine) (ap (λ n. drop n places) e ∙ drop-length places)) ∙ h.rest
