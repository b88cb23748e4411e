-- Paths that follow a state: as far as their items are reached, each is the next instruction. A flush along such a path stands behind the
-- items that are on path.
use Rattle.std.proofs.Common.{◌≡◌, ◌+◌, ◌≤◌, ◌<◌, ℕ, Bool, true, false, List, [], ◌∷◌, map, arith, refl, ap, sym, subst, ◌∙◌}
use Rattle.std.specs.Prelude.{⊤, Option, ◌==◌, ◌&&◌, is_none, if◌then◌else◌}
use Rattle.std.proofs.lemmas.List.Elements.{All-head, All-tail}
use Rattle.avf_base.specs.declared.end.End.{End}
use Rattle.elf_load.specs.Image.{LoadedImage}
use Rattle.rv_isa.specs.Instruction.{State as Arch, Log, instruction}
use Rattle.inst_buf.specs.Entry.{Entry}
use Rattle.need_pass.specs.Tables.{Needs}
use Rattle.cyc_machine.specs.Cycle.{action_in_m}
use Rattle.cyc_machine.specs.InFlight.{Item, completed_item, is_reached, item_of_latch, latches_completed}
use Rattle.cyc_machine.specs.Pipeline.{fetched}
use Rattle.cyc_machine.specs.State.{State}
use Rattle.flush_view.specs.Flush.{before_latches, completed_path, item_of_entry, path_of}
use Rattle.flush_view.specs.Positions.{is_instruction, on_path}
use Rattle.flush_view.proofs.Flush.MachinePipe.{piped}
use Rattle.flush_view.proofs.Run.OnPath.{entry-next, latch-next, reached-pc, reached-stop}
use Rattle.flush_view.proofs.Run.Sound.{AreFetched, Sound}
use Rattle.ace_law.specs.Moments.{IsQuiet, IsTold, Moment, executed, trace}
use Rattle.ace_law.proofs.Alike.{Alike, IsLeftAlone, count_of}
use Rattle.ace_law.proofs.Stands.{Stands, stands-alike, stands-next}
use Rattle.ace_law.proofs.Told.{running-below}

abbrev pub Follows : LoadedImage → List Item → Arch → Type 0
Follows image [] at = ⊤
Follows image (item ∷ items) at =
    is_reached item at ≡ true → (completed_item image item at ≡ instruction image at) × Follows image items (instruction image at)

-- ---- which paths follow

-- entries as they are fetched
pub entries-follow : (image : LoadedImage) (es : List Entry) (at : Arch) → AreFetched image es → Follows image (map item_of_entry es) at
entries-follow image [] at are = tt
entries-follow image (e ∷ es) at are =
    λ r. (
      entry-next image e at (All-head (λ entry. entry ≡ fetched image entry.pc) e es are) (reached-pc (item_of_entry e) at r),
      entries-follow image es (instruction image at) (All-tail (λ entry. entry ≡ fetched image entry.pc) e es are),
    )

abbrev pub latches_over : State → (ℕ → ℕ) → List ℕ → Log → Arch
latches_over s memory clocks log = latches_completed s.image (action_in_m s) s.w (before_latches s memory clocks log)

-- a sound ID/EX and such entries, over any memory
pub path-follows : (s : State) (memory : ℕ → ℕ) (clocks : List ℕ) (log : Log) (es : List Entry) → Sound (piped s) → AreFetched s.image es
    → Follows s.image (path_of s.image (action_in_m s) s.w memory s.d es) (latches_over s memory clocks log)
path-follows s memory clocks log es sound are = go s.d.valid refl
  where
    at : Arch
    at = latches_over s memory clocks log

    d : Item
    d = item_of_latch s.image (action_in_m s) s.w memory s.d

    go : (v : Bool) → s.d.valid ≡ v → Follows s.image (if v then d ∷ map item_of_entry es else map item_of_entry es) at
    go true v = λ r. (latch-next s memory clocks log sound v (reached-pc d at r), entries-follow s.image es (instruction s.image at) are)
    go false v = entries-follow s.image es at are

-- ---- what a flush along them leaves

position-step : (i n : ℕ) → i + 1 + n ≡ i + (n + 1)
position-step i n = omega arith

module _ (a : Moment) (table : Needs) (told : IsTold a.r a.run table) (out : ℕ → Bool) (quiet : IsQuiet a) (alone : IsLeftAlone a out) where
  -- where a state stands, the same items are reached
  pub reached-same : (i : ℕ) (item : Item) (at : Arch) (budget : ℕ) → Stands a out i at budget → is_reached item at ≡ is_instruction (trace a) i item
  reached-same i item at budget s =
      ap (λ (o : Option End). is_none o && item.pc == at.pc) s.stop ∙ ap (λ (pc : ℕ). is_none (trace a i).stop && item.pc == pc) s.agrees.pc

  -- where one is reached the run goes on
  pub reached-below : (i : ℕ) (item : Item) → is_instruction (trace a) i item ≡ true → i < count_of a
  reached-below i item h = running-below a table told i (reached-stop (trace a i).stop (item.pc == (trace a i).pc) h)

  pub record StandsBehind (i n : ℕ) (at : Arch) (budget : ℕ) : Type 0 where
    pub within : i + n ≤ count_of a
    pub stands : Stands a out (i + n) at budget

  pub stands-path : (items : List Item) (i : ℕ) (at : Arch) (budget : ℕ) → executed a ≤ i → i ≤ count_of a → Follows a.r.image items at
      → Stands a out i at budget → StandsBehind i (on_path (trace a) i items) (completed_path a.r.image items at) budget
  unfolding completed_path on_path
  stands-path [] i at budget from within follows s =
      record { within = omega (arith, within); stands = subst (λ n. Stands a out n at budget) (omega arith) s }
  stands-path (item ∷ items) i at budget from within follows s =
      go (is_reached item at) refl (is_instruction (trace a) i item) refl
      (λ l f n. stands-path items (i + 1) (instruction a.r.image at) budget (omega (arith, from)) l f n)
    where
      next : Arch
      next = instruction a.r.image at

      more : List Item → ℕ → Type 0
      more items n = StandsBehind i n (completed_path a.r.image items next) budget

      go : (b : Bool) → is_reached item at ≡ b → (c : Bool) → is_instruction (trace a) i item ≡ c
          → (i + 1 ≤ count_of a → Follows a.r.image items next → Stands a out (i + 1) next budget
          → StandsBehind (i + 1) (on_path (trace a) (i + 1) items) (completed_path a.r.image items next) budget)
          → StandsBehind i (if c then on_path (trace a) (i + 1) items + 1 else 0)
          (if b then completed_path a.r.image items (completed_item a.r.image item at) else at) budget
      go true r true c rest =
          let below : i < count_of a = reached-below i item c in
          let h = rest (omega (arith, below)) (follows r).1
          (stands-next a table told out quiet alone i at budget (omega (arith, from)) from below s) in
          let inside = h.within in
          subst (λ (x : Arch). StandsBehind i (on_path (trace a) (i + 1) items + 1) (completed_path a.r.image items x) budget) (sym (follows r).0)
          (record {
            within = omega (arith, inside);
            stands =
                subst (λ n. Stands a out n (completed_path a.r.image items next) budget)
                (position-step i (on_path (trace a) (i + 1) items)) h.stands;
          })
      go false r false c rest = record { within = omega (arith, within); stands = subst (λ n. Stands a out n at budget) (omega arith) s }
      go true r false c rest = let same = reached-same i item at budget s in absurd cc
      go false r true c rest = let same = reached-same i item at budget s in absurd cc

  -- so it is alike
  pub alike-along : (items : List Item) (i : ℕ) (at : Arch) (budget : ℕ) → executed a ≤ i → i ≤ count_of a → Follows a.r.image items at
      → Stands a out i at budget → Alike a out (completed_path a.r.image items at) budget
  alike-along items i at budget from within follows s =
      let h = stands-path items i at budget from within follows s in
      stands-alike a table told out (i + on_path (trace a) i items) (completed_path a.r.image items at) budget (omega (arith, from)) h.within h.stands
