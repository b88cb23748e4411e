-- A strike is spared where its view shows the needed bits, MEM/WB and EX/MEM are the recorded ones, and its path follows. So other pending
-- stores and another cache are, and whatever has the flush of a spared state.
use Rattle.std.proofs.Common.{◌≡◌, ◌+◌, ◌≤◌, ◌<◌, ℕ, Bool, true, false, List, length, refl, ap, sym, subst, ◌∙◌, arith}
use Rattle.std.specs.Int.{bit_at}
use Rattle.std.specs.Prelude.{if◌then◌else◌}
use Rattle.elf_load.specs.Image.{LoadedImage}
use Rattle.rv_isa.specs.Instruction.{State as Arch, Log, logged}
use Rattle.inst_buf.specs.Buffer.{entries}
use Rattle.need_pass.specs.Tables.{Needs}
use Rattle.store_buf.specs.Entry.{Entry as Pending}
use Rattle.wb_cache.specs.Contents.{Contents}
use Rattle.cyc_machine.specs.Facts.{IsMachine}
use Rattle.cyc_machine.specs.Run.{output_below}
use Rattle.cyc_machine.specs.Sizes.{IsSteady}
use Rattle.cyc_machine.specs.State.{State}
use Rattle.cyc_machine.proofs.Sizes.Lasting.{machine-steady}
use Rattle.flush_view.specs.Avoids.{AvoidsAll}
use Rattle.flush_view.specs.Coherence.{IsCoherent}
use Rattle.flush_view.specs.Flush.{completed_path, flush, latched, path}
use Rattle.flush_view.specs.Struck.{MeansSame}
use Rattle.flush_view.specs.Views.{view}
use Rattle.flush_view.proofs.Memory.ViewBytes.{view-below}
use Rattle.flush_view.proofs.Flush.Counts.{latch-logged}
use Rattle.flush_view.proofs.Flush.MachinePipe.{piped}
use Rattle.flush_view.proofs.Run.FromReset.{kept-at}
use Rattle.flush_view.proofs.Run.Sound.{Sound}
use Rattle.ace_law.specs.Moments.{IsQuiet, IsTold, Moment, executed, state}
use Rattle.ace_law.proofs.Alike.{Alike, IsLeftAlone, count_of, spare}
use Rattle.ace_law.proofs.Base.{action_at, base-stands, base_over}
use Rattle.ace_law.proofs.Follows.{Follows, alike-along, path-follows}
use Rattle.ace_law.proofs.Spared.{IsSpared, SeesNeeded}
use Rattle.ace_law.proofs.Stands.{Stands}
use Rattle.ace_law.proofs.Told.{executed-within, state-image, state-steady}

-- the flush of a state whose latches leave this
pub flush-by : (u : State) (image : LoadedImage) (log : Log) (base : Arch) → u.image ≡ image → latched u spare log ≡ base
    → flush u spare log ≡ completed_path image (path u) base
unfolding flush
flush-by u image log base e f = ap (λ (x : LoadedImage). completed_path x (path u) (latched u spare log)) e ∙ ap (completed_path image (path u)) f

-- what EX/MEM does is one action more at most
pub one_at_most : (b : Bool) → (if b then 1 else 0) ≤ 1
one_at_most true = omega arith
one_at_most false = omega arith

logged-counts : (a : Moment) (log : Log) → length (logged log (action_at a)).actions ≤ length log.actions + 1
logged-counts a log =
    let count = latch-logged log.actions (state a).m in
    let one = one_at_most (state a).m.valid in
    omega (arith, count, one)

module _ (a : Moment) (table : Needs) (told : IsTold a.r a.run table) (below : a.t < a.r.cycles) where
  pub state-sound : Sound (piped (state a))
  state-sound = (kept-at a.r.image a.r.shape told.image told.recorded.fits a.t).sound

  -- the recorded view shows what it shows
  pub sees-same : (out : ℕ → Bool) (memory : ℕ → ℕ) → memory ≡ view (state a) → SeesNeeded a out memory
  sees-same out memory e = record { same = λ p j outside needed. ap (λ (f : ℕ → ℕ). bit_at (f p) j) e }

  -- completed over its own view, MEM/WB and EX/MEM of the recorded state stand before the first instruction that hasn't left EX
  pub state-stands : (out : ℕ → Bool) → IsLeftAlone a out → (log : Log) (budget : ℕ) → log.output ≡ output_below a.r.image a.r.shape a.t
      → AvoidsAll out log.actions → count_of a + (length log.actions + 2) ≤ executed a + budget
      → Stands a out (executed a) (base_over a (view (state a)) log) budget
  state-stands out alone log budget puts avoids count =
      base-stands a table told below out alone (view (state a)) (sees-same out (view (state a)) refl)
      (view-below (state a) (state-steady a table told below).bytes) log budget puts avoids
      (let more = logged-counts a log in omega (arith, count, more))

  module _ (out : ℕ → Bool) (quiet : IsQuiet a) (alone : IsLeftAlone a out) where
    pub follows-alike : (u : State) → u.image ≡ a.r.image → IsSteady u → SeesNeeded a out (view u)
        → ((log : Log) → latched u spare log ≡ base_over a (view u) log)
        → ((log : Log) (budget : ℕ) → Stands a out (executed a) (base_over a (view u) log) budget
        → Follows u.image (path u) (base_over a (view u) log))
        → (log : Log) (budget : ℕ) → Stands a out (executed a) (base_over a (view u) log) budget → Alike a out (flush u spare log) budget
    follows-alike u image steady sees latches follows log budget stands =
        let at : Arch = base_over a (view u) log in
        subst (λ (x : Arch). Alike a out x budget) (sym (flush-by u a.r.image log at image (latches log)))
        (alike-along a table told out quiet alone (path u) (executed a) at budget (omega arith) (executed-within a table told below)
        (subst (λ (x : LoadedImage). Follows x (path u) at) image (follows log budget stands)) stands)

    pub follows-spared : (u : State) → u.image ≡ a.r.image → IsSteady u → IsCoherent out u → SeesNeeded a out (view u)
        → ((log : Log) → latched u spare log ≡ base_over a (view u) log)
        → ((log : Log) (budget : ℕ) → Stands a out (executed a) (base_over a (view u) log) budget
        → Follows u.image (path u) (base_over a (view u) log))
        → IsSpared a out u
    follows-spared u image steady coherent sees latches follows = record {
      alone = alone;
      image = image;
      steady = steady;
      coherent = coherent;
      alike = λ log budget puts avoids count.
          follows-alike u image steady sees latches follows log budget
          (base-stands a table told below out alone (view u) sees (view-below u steady.bytes) log budget puts avoids
          (let more = logged-counts a log in omega (arith, count, more)));
    }

    -- the recorded state itself
    pub state-spared : IsCoherent out (state a) → IsSpared a out (state a)
    state-spared coherent =
        follows-spared (state a) (state-image a table told) (state-steady a table told below) coherent (sees-same out (view (state a)) refl)
        (λ log. refl)
        (λ log budget stands. path-follows (state a) (view (state a)) spare log (entries (state a).buffer) state-sound state-sound.waiting)

    -- and what has its view and its flush
    pub means-spared : (u : State) → u.image ≡ a.r.image → IsSteady u → IsCoherent out (state a) → MeansSame (state a) u → IsSpared a out u
    means-spared u image steady coherent means =
        let s = state-spared coherent in
        record {
          alone = alone;
          image = image;
          steady = steady;
          coherent = means.coherent out coherent;
          alike = λ log budget puts avoids count.
              subst (λ (x : Arch). Alike a out x budget) (sym (means.flush spare log)) (s.alike log budget puts avoids count);
        }

-- other pending stores and another cache
pub memory-spared : (a : Moment) (table : Needs) (out : ℕ → Bool) (stores : List Pending) (cache : Contents) → IsTold a.r a.run table
    → a.t < a.r.cycles → IsQuiet a → IsLeftAlone a out → IsMachine (record (state a) { stores = stores; cache = cache })
    → IsCoherent out (record (state a) { stores = stores; cache = cache })
    → SeesNeeded a out (view (record (state a) { stores = stores; cache = cache }))
    → IsSpared a out (record (state a) { stores = stores; cache = cache })
memory-spared a table out stores cache told below quiet alone machine coherent sees =
    let u : State = record (state a) { stores = stores; cache = cache } in
    let sound : Sound (piped (state a)) = state-sound a table told below in
    follows-spared a table told below out quiet alone u (state-image a table told) (machine-steady u machine) coherent sees (λ log. refl)
    (λ log budget stands. path-follows (state a) (view u) spare log (entries (state a).buffer) sound sound.waiting)
