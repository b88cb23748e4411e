-- The walk up to a cycle.
use Rattle.std.proofs.Common.{◌≡◌, ◌+◌, ◌*◌, ◌≤◌, ◌<◌, ◌^◌, ℕ, zero, suc, Bool, true, false, List, [], ◌∷◌, ◌++◌, length, arith, refl, ap, sym}
use Rattle.std.proofs.Common.{◌∙◌, subst, add-one, length-append}
use Rattle.std.specs.Prelude.{Option, Some, ◌&&◌, is_some, slice_get, nat_lt, if◌then◌else◌}
use Rattle.std.proofs.lemmas.Bool.Decides.{nat_tests}
use Rattle.bit_field.specs.declared.shapes.Shape.{Shape}
use Rattle.elf_load.specs.Image.{LoadedImage}
use Rattle.rv_isa.specs.Architecture.{ArchState, state_of}
use Rattle.rv_isa.specs.Effects.{CanCommit}
use Rattle.rv_isa.specs.declared.effect.Retired.{Retired}
use Rattle.rv_isa.specs.Runs.{ProgramTrace, reset as arch_reset}
use Rattle.cyc_machine.specs.declared.fate.Fate.{Fate}
use Rattle.cyc_machine.specs.declared.fate.Fate.TheVariants.{Absent, Dropped, Stays, Goes}
use Rattle.cyc_machine.specs.Cycle.{cycle, cycled, fate, issued_from, retires, served_m}
use Rattle.cyc_machine.specs.Run.{IsRunning, issues_after, retired_after, retired_below, state_after, state_at}
use Rattle.cyc_machine.specs.State.{State, reset}
use Rattle.inst_buf.specs.Entry.{Entry as Fetched}
use Rattle.bit_field.proofs.Slots.{length-used}
use Rattle.need_pass.specs.Tables.{Needs}
use Rattle.flush_view.specs.Positions.{left_execute, left_memory}
use Rattle.flush_view.proofs.Run.Followed.{count_after}
use Rattle.flush_view.proofs.Run.RunCounts.{left-next, left-retired, retired-left}
use Rattle.pipe_latch.specs.Latches.{DecodedLatch}
use Rattle.ace_law.specs.Moments.{IsQuiet, IsTold, Moment, executed, moved, retired, state, trace}
use Rattle.ace_rules.specs.Notes.{AreNotes, Story, moment}
use Rattle.ace_rules.specs.Walking.{AreJudged, IsQuietSince, IsSomeWalk, IsWalk, IsWalked, silent}
use Rattle.ace_rules.specs.Walks.{IsInOrder, IsLastClock, IsNoteOf, Leaves, story_of}
use Rattle.ace_rules.specs.declared.note.Note.{Note}
use Rattle.ace_rules.specs.declared.walk.Walker.{Walker}
use Rattle.ace_law.proofs.Told.{count-same, executed-within, facts, running-below, state-cycle, state-machine}
use Rattle.ace_law.proofs.Told.{state-running}
use Rattle.ace_rules.proofs.Clocks.{quiet_from, quiet_not}
use Rattle.ace_rules.proofs.Judged.{entry-commits}
use Rattle.ace_rules.proofs.Noted.{judged_on, judged_start, note-is, noted_on, noted_start, quiet_on, quiet_start}

-- ---- positions

counted : (f : Fate) (d : DecodedLatch) (n : ℕ) → count_after f n ≡ (if is_some (issued_from f d) then n + 1 else n)
counted Absent d n = refl
counted Dropped d n = refl
counted Stays d n = refl
counted (Goes a b) d n = sym (add-one n)

abbrev one_if : Bool → ℕ
one_if b = if b then 1 else 0

-- whether an instruction leaves EX
abbrev pub issues_in : State → Bool
issues_in s = is_some (issued_from (fate s) s.d)

first_true : (x y : Bool) → (x && y) ≡ true → x ≡ true
first_true true y h = refl
first_true false y h = absurd cc

ended-by : (image : LoadedImage) (shape : Shape) (t : ℕ) → IsRunning image shape t → (state_at image shape t).ended ≡ false
unfolding state_after cycled reset
ended-by image shape zero running = refl
ended-by image shape (suc t) running = ap is_some (running t (omega arith))

module _ (a : Moment) where
  executed-next : executed (moved a (suc a.t)) ≡ (if is_some (issued_from (fate (state a)) (state a).d) then executed a + 1 else executed a)
  executed-next = left-next a.r.image a.r.shape a.t ∙ counted (fate (state a)) (state a).d (executed a)

  state-next : state (moved a (suc a.t)) ≡ cycle (state a)
  unfolding state_after
  state-next = refl

  retired-by : retired_below a.r.image a.r.shape (suc a.t)
      ≡ (if retires (state a) then retired_below a.r.image a.r.shape a.t + 1 else retired_below a.r.image a.r.shape a.t)
  unfolding retired_after
  retired-by = refl

  retired-next : retired (moved a (suc a.t)) ≡ (if retires (state a) then retired a + 1 else retired a)
  retired-next =
      sym (retired-left a.r.image a.r.shape (suc a.t)) ∙ retired-by
      ∙ ap (λ (n : ℕ). if retires (state a) then n + 1 else n) (retired-left a.r.image a.r.shape a.t)

  -- EX/MEM holds an instruction that leaves
  retires-executed : retires (state a) ≡ true → executed a ≡ retired a + 1
  retires-executed h =
      let left = left-retired a.r.image a.r.shape a.t in
      let same = retired-left a.r.image a.r.shape a.t in
      let one : one_if (state a).m.valid ≡ 1 = ap one_if (first_true (state a).m.valid (served_m (state a)).goes h) in
      omega (arith, left, same, one)

executed-none : (image : LoadedImage) (shape : Shape) → left_execute image shape 0 ≡ 0
unfolding issues_after
executed-none image shape = refl

-- ---- what the calls of the walk require

module _ (a : Moment) (table : Needs) (told : IsTold a.r a.run table) (below : a.t < a.r.cycles) where
  pub in-order : IsInOrder (state a).buffer
  in-order = record {
    packed = (facts a table told below).in_order;
    few =
        let fit = (state-machine a table told below).buffer.0 in
        let used = length-used (λ (entry : Fetched). entry.valid) (state a).buffer in
        omega (arith, fit, used);
  }

  pub not-ended : (state a).ended ≡ false
  not-ended = ended-by a.r.image a.r.shape a.t (state-running a table told below)

  pub leaves-some : retires (state a) ≡ true → retired a < length a.run.entries
  leaves-some h =
      let e = retires-executed a h in
      running-below a table told (retired a) ((facts a table told below).running (retired a) (omega (arith, e)))

-- ---- the walk

machine-none : (image : LoadedImage) (shape : Shape) → reset image shape ≡ state_at image shape 0
unfolding state_after
machine-none image shape = refl

retired-none : (image : LoadedImage) (shape : Shape) → left_memory image shape 0 ≡ 0
unfolding retired_after
retired-none image shape = sym (retired-left image shape 0)

zero-below : (k : ℕ) → k ≤ 0 → k ≡ 0
zero-below k l = omega (arith, l)

rises-if : (b : Bool) (n : ℕ) → n ≤ (if b then n + 1 else n)
rises-if true n = omega arith
rises-if false n = omega arith

few-if : (b : Bool) (n t : ℕ) → n ≤ t → (if b then n + 1 else n) ≤ t + 1
few-if true n t l = omega (arith, l)
few-if false n t l = omega (arith, l)

module _ (story : Story) (table : Needs) (told : IsTold story.r story.run table) (last : ℕ) where
  abbrev at : ℕ → Moment
  at t = moment story t

  abbrev Walked : ℕ → State → ArchState → ℕ → List Note → List ℕ → ℕ → Type 0
  Walked = IsWalked story table last

  pub walked_start : (machine : State) (arch : ArchState) → machine ≡ reset story.r.image story.r.shape → arch.image ≡ story.r.image
      → state_of arch ≡ arch_reset story.r.image [] → Walked 0 machine arch 0 [] [] 0
  walked_start machine arch m image state = record {
    state = m ∙ machine-none story.r.image story.r.shape;
    left = sym (executed-none story.r.image story.r.shape);
    done = sym (retired-none story.r.image story.r.shape);
    rises = λ k l.
        let none = executed-none story.r.image story.r.shape in
        let first : executed (at k) ≡ executed (at 0) = ap (λ (t : ℕ). executed (at t)) (zero-below k l) in
        omega (arith, none, first);
    few = omega arith;
    judged = judged_start story table told arch image state;
    noted = noted_start story table;
    quiets = quiet_start story last;
  }

  -- what becomes of the masks, whether an instruction leaves the memory stage or not
  judged-if : (leaves : Bool) (arch next : ArchState) (words masks : List ℕ) → (leaves ≡ true → Leaves table story.run.entries arch next words masks)
      → (leaves ≡ false → next ≡ arch) → (leaves ≡ false → masks ≡ words) → AreJudged story table arch words
      → AreJudged story table next masks × (length masks ≡ (if leaves then length words + 1 else length words))
  judged-if true arch next words masks leaves stays same before =
      let l = leaves refl in
      (judged_on story table told arch next words masks l before, ap length l.kept ∙ length-append words (l.mask ∷ []))
  judged-if false arch next words masks leaves stays same before = rw (stays refl, same refl) (before, refl)

  rises-on : (t x : ℕ) (b : Bool) → ((k : ℕ) → k ≤ t → executed (at k) ≤ x) → executed (at (suc t)) ≡ (if b then x + 1 else x)
      → (k : ℕ) → k ≤ suc t → executed (at k) ≤ (if b then x + 1 else x)
  rises-on t x b before next k l = go (nat_lt t k) refl
    where
      go : (c : Bool) → nat_lt t k ≡ c → executed (at k) ≤ (if b then x + 1 else x)
      go true e =
          let same : k ≡ suc t = grind (arith, nat_tests) in
          let here : executed (at k) ≡ executed (at (suc t)) = ap (λ (t : ℕ). executed (at t)) same in
          omega (arith, here, next)
      go false e = let r = before k (grind (arith, nat_tests)) in let up = rises-if b x in omega (arith, r, up)

  -- one cycle
  next_by : (t x : ℕ) (machine next : State) (arch next_arch : ArchState) (notes : List Note) (note : Note) (words masks : List ℕ) (quiet : ℕ)
      (leaves : Bool)
      → t < story.r.cycles → Walked t machine arch x notes words quiet → IsNoteOf machine arch story.run.entries table x note → next ≡ cycle machine
      → leaves ≡ retires machine → (leaves ≡ true → Leaves table story.run.entries arch next_arch words masks) → (leaves ≡ false → next_arch ≡ arch)
      → (leaves ≡ false → masks ≡ words)
      → Walked (suc t) next next_arch (if issues_in machine then x + 1 else x) (notes ++ note ∷ []) masks (if nat_lt x last then t + 1 else quiet)
  next_by t x machine next arch next_arch notes note words masks quiet leaves below w is goes retires_is leaves_by stays same =
      let a = at t in
      let left : (if issues_in machine then x + 1 else x) ≡ executed (at (suc t)) =
      ap (λ (s : State). if issues_in s then x + 1 else x) w.state
      ∙ ap (λ (n : ℕ). if issues_in (state a) then n + 1 else n) w.left
      ∙ sym (executed-next a) in
      let judged = judged-if leaves arch next_arch words masks leaves_by stays same w.judged in
      let stands = w.judged.stands ∙ ap (λ (i : ℕ). silent (trace a i)) w.done in
      let here = subst (λ (n : ℕ). IsNoteOf (state a) arch story.run.entries table n note) w.left
      (subst (λ (s : State). IsNoteOf s arch story.run.entries table x note) w.state is) in
      let e = w.left in
      record {
        state = goes ∙ ap cycle w.state ∙ sym (state-next a);
        left = left;
        done =
            judged.1
            ∙ ap (λ (b : Bool). if b then length words + 1 else length words) (retires_is ∙ ap retires w.state)
            ∙ ap (λ (n : ℕ). if retires (state a) then n + 1 else n) w.done
            ∙ sym (retired-next a);
        rises = rises-on t x (issues_in machine) w.rises (sym left);
        few = let few = few-if (issues_in machine) x t w.few in omega (arith, few);
        judged = judged.0;
        noted = noted_on story table t notes note (note-is a table told below arch note w.judged.image stands here) w.noted;
        quiets =
            subst (λ (n : ℕ). IsQuietSince story last (suc t) (if nat_lt n last then t + 1 else quiet)) (sym w.left)
            (quiet_on story last t quiet (λ k l. let r = w.rises k l in omega (arith, r, e)) w.quiets);
      }

  pub walked_on : (t x : ℕ) (machine next : State) (arch next_arch : ArchState) (notes : List Note) (note : Note) (words masks : List ℕ)
      (quiet : ℕ) (leaves : Bool)
      → t < story.r.cycles → Walked t machine arch x notes words quiet → IsNoteOf machine arch story.run.entries table x note → next ≡ cycle machine
      → leaves ≡ retires machine → (leaves ≡ true → Leaves table story.run.entries arch next_arch words masks) → (leaves ≡ false → next_arch ≡ arch)
      → (leaves ≡ false → masks ≡ words)
      → Walked (t + 1) next next_arch (if issues_in machine then x + 1 else x) (notes ++ note ∷ []) masks (if nat_lt x last then t + 1 else quiet)
  walked_on t x machine next arch next_arch notes note words masks quiet leaves below w is goes retires_is leaves_by stays same =
      subst (λ (n : ℕ). Walked n next next_arch (if issues_in machine then x + 1 else x) (notes ++ note ∷ []) masks
      (if nat_lt x last then t + 1 else quiet))
      (sym (add-one t))
      (next_by t x machine next arch next_arch notes note words masks quiet leaves below w is goes retires_is leaves_by stays same)

  quiet-least : (t quiet : ℕ) → IsQuietSince story last story.r.cycles quiet → (executed (at t) < last → IsQuiet (at t) → ⊥) → IsQuiet (at t)
      → (b : Bool) → nat_lt t quiet ≡ b → quiet ≤ t
  quiet-least t quiet since not q false e = grind (arith, nat_tests)
  quiet-least t quiet since not q true e = absurd (not (since.loud t (grind (arith, nat_tests))) q)

  pub walked_end : (machine : State) (arch : ArchState) (x : ℕ) (notes : List Note) (words : List ℕ) (quiet : ℕ)
      → IsLastClock story.run.entries (length story.run.entries) last
      → Walked story.r.cycles machine arch x notes words quiet → AreNotes story table notes words quiet
  walked_end machine arch x notes words quiet clock w = record {
    cycles = w.noted.cycles;
    each = w.noted.each;
    instructions =
        w.done ∙ sym (retired-left story.r.image story.r.shape story.r.cycles) ∙ sym told.recorded.instructions ∙ sym (count-same (at 0) table told);
    word = w.judged.word;
    silent = λ t l. (
      λ h. quiet_from (at t) last clock (w.quiets.still t l h),
      λ q. quiet-least t quiet w.quiets (quiet_not (at t) last clock) q
          (nat_lt t quiet) refl,
    );
  }

  pub masks-count : (leaves : Bool) (arch next : ArchState) (words masks : List ℕ) → (leaves ≡ true
      → Leaves table story.run.entries arch next words masks)
      → (leaves ≡ false → masks ≡ words) → length masks ≡ (if leaves then length words + 1 else length words)
  masks-count true arch next words masks leaves same = let l = leaves refl in ap length l.kept ∙ length-append words (l.mask ∷ [])
  masks-count false arch next words masks leaves same = ap length (same refl)

  -- the same with what the walk's calls answer
  pub walked_more : (t x new_x : ℕ) (machine next : State) (arch next_arch : ArchState) (notes new_notes : List Note) (note : Note)
      (words masks : List ℕ)
      (quiet new_quiet : ℕ) (leaves : Bool) (issued : Option ℕ) → t < story.r.cycles → Walked t machine arch x notes words quiet
      → IsNoteOf machine arch story.run.entries table x note → next ≡ cycle machine → leaves ≡ retires machine
      → (leaves ≡ true → Leaves table story.run.entries arch next_arch words masks) → (leaves ≡ false → next_arch ≡ arch) → (leaves ≡ false
      → masks ≡ words)
      → issued ≡ issued_from (fate machine) machine.d → new_x ≡ (if is_some issued then x + 1 else x) → new_notes ≡ notes ++ note ∷ []
      → new_quiet ≡ (if nat_lt x last then t + 1 else quiet) → Walked (t + 1) next next_arch new_x new_notes masks new_quiet
  walked_more t x new_x machine next arch next_arch notes new_notes note words masks quiet new_quiet leaves issued
      below w is goes retires_is leaves_by stays same issued_is x_is notes_are quiet_is =
      rw (x_is, notes_are, quiet_is, issued_is)
      (walked_on t x machine next arch next_arch notes note words masks quiet leaves below w is goes retires_is leaves_by stays same)

  module _ (t x : ℕ) (machine : State) (arch : ArchState) (notes : List Note) (words : List ℕ) (quiet : ℕ)
      (w : Walked t machine arch x notes words quiet)
      (below : t < story.r.cycles) where
    pub walked-order : IsInOrder machine.buffer
    walked-order = subst (λ (s : State). IsInOrder s.buffer) (sym w.state) (in-order (at t) table told below)

    pub walked-within : x ≤ table.count
    walked-within =
        let within = executed-within (at t) table told below in
        let left = w.left in
        let count = told.needs.count in
        omega (arith, within, left, count)

    pub walked-running : machine.ended ≡ false
    walked-running = ap (λ (s : State). s.ended) w.state ∙ not-ended (at t) table told below

    pub walked-cycle : machine.cycle < 2 ^ 31
    walked-cycle =
        let number : machine.cycle ≡ t = ap (λ (s : State). s.cycle) w.state ∙ state-cycle (at t) table told in
        let short = told.short in
        omega (arith, number, short, below)

    pub walked-leaves : retires machine ≡ true → length words < length story.run.entries
    walked-leaves h =
        let some = leaves-some (at t) table told below (sym (ap retires w.state) ∙ h) in
        let done = w.done in
        omega (arith, some, done)

    pub walked-commits : (entry : Retired) → slice_get story.run.entries (length words) ≡ Some entry → CanCommit arch.image entry.effect
    walked-commits entry h =
        subst (λ (image : LoadedImage). CanCommit image entry.effect) (sym w.judged.image) (entry-commits (at 0) table told (length words) entry h)

    pub walked-words : length words ≤ length story.run.entries
    walked-words =
        let within = executed-within (at t) table told below in
        let done = w.done in
        omega (arith, within, done)

-- the walk at its end
pub walk_end : (story : Story) (table : Needs) → IsTold story.r story.run table → (walker : Walker) → IsWalk story table story.r.cycles walker
    → AreNotes story table walker.notes.cycles.items walker.notes.words.items walker.notes.quiet
walk_end story table told walker walk =
    walked_end story table told walker.last walker.machine walker.arch walker.executed walker.notes.cycles.items walker.notes.words.items
    walker.notes.quiet walk.clock walk.walked

-- the walk of some run
module _ (run : ProgramTrace) (table : Needs) (t : ℕ) (walker : Walker) (some : IsSomeWalk run table t walker) where
  pub walk-order : IsInOrder walker.machine.buffer
  walk-order =
      walked-order (story_of some.r run) table some.told walker.last t walker.executed walker.machine walker.arch walker.notes.cycles.items
      walker.notes.words.items walker.notes.quiet some.walk.walked some.below

  pub walk-within : walker.executed ≤ table.count
  walk-within =
      walked-within (story_of some.r run) table some.told walker.last t walker.executed walker.machine walker.arch walker.notes.cycles.items
      walker.notes.words.items walker.notes.quiet some.walk.walked some.below

  pub walk-running : walker.machine.ended ≡ false
  walk-running =
      walked-running (story_of some.r run) table some.told walker.last t walker.executed walker.machine walker.arch walker.notes.cycles.items
      walker.notes.words.items walker.notes.quiet some.walk.walked some.below

  pub walk-cycle : walker.machine.cycle < 2 ^ 31
  walk-cycle =
      walked-cycle (story_of some.r run) table some.told walker.last t walker.executed walker.machine walker.arch walker.notes.cycles.items
      walker.notes.words.items walker.notes.quiet some.walk.walked some.below

  pub walk-leaves : retires walker.machine ≡ true → length walker.notes.words.items < length run.entries
  walk-leaves =
      walked-leaves (story_of some.r run) table some.told walker.last t walker.executed walker.machine walker.arch walker.notes.cycles.items
      walker.notes.words.items walker.notes.quiet some.walk.walked some.below

  pub walk-commits : (entry : Retired) → slice_get run.entries (length walker.notes.words.items) ≡ Some entry
      → CanCommit walker.arch.image entry.effect
  walk-commits =
      walked-commits (story_of some.r run) table some.told walker.last t walker.executed walker.machine walker.arch walker.notes.cycles.items
      walker.notes.words.items walker.notes.quiet some.walk.walked some.below

  pub walk-words : length walker.notes.words.items ≤ length run.entries
  walk-words =
      walked-words (story_of some.r run) table some.told walker.last t walker.executed walker.machine walker.arch walker.notes.cycles.items
      walker.notes.words.items walker.notes.quiet some.walk.walked some.below

  pub walk-count : (leaves : Bool) (arch next : ArchState) (words masks : List ℕ) → (leaves ≡ true → Leaves table run.entries arch next words masks)
      → (leaves ≡ false → masks ≡ words) → length masks ≡ (if leaves then length words + 1 else length words)
  walk-count = masks-count (story_of some.r run) table some.told walker.last

pub applies-left : (b : Bool) (new old n count : ℕ) → new ≤ old + (if b then 33 else 0) → n ≤ count → (b ≡ true → n < count)
    → new + 33 * n ≤ old + 33 * count
applies-left true new old n count l k some = let below = some refl in omega (arith, l, below)
applies-left false new old n count l k some = omega (arith, l, k)

pub applies-kept : (b : Bool) (new old n count : ℕ) → new ≤ old + (if b then 33 else 0) → count ≡ (if b then n + 1 else n)
    → new + 33 * n ≤ old + 33 * count
applies-kept true new old n count l e = omega (arith, l, e)
applies-kept false new old n count l e = omega (arith, l, e)
