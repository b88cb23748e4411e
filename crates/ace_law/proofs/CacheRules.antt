-- A line slot that is replaced: what is spared of it.
use Rattle.std.proofs.Common.{◌<◌, ℕ, Bool, refl, ap}
use Rattle.std.specs.Int.{bit_at}
use Rattle.wb_cache.specs.Contents.{Contents, Slot, slots}
use Rattle.cyc_machine.specs.Facts.{IsMachine}
use Rattle.need_pass.specs.Tables.{Needs}
use Rattle.flush_view.specs.Coherence.{IsCoherent}
use Rattle.flush_view.specs.RunFacts.{no_line}
use Rattle.flush_view.specs.Struck.{IsReplaced, Replaces, SameOutside, with_cache}
use Rattle.flush_view.proofs.Struck.LineSlots.{coherent-wider}
use Rattle.flush_view.proofs.Struck.States.{struck-laws}
use Rattle.elf_load.specs.Image.{ram_byte}
use Rattle.ace_law.specs.Moments.{IsQuiet, IsTold, Moment, state}
use Rattle.ace_law.proofs.Alike.{IsLeftAlone}
use Rattle.ace_law.proofs.RecordedStates.{coherent-is}
use Rattle.ace_law.proofs.Spared.{IsSpared}
use Rattle.ace_law.proofs.SparedPaths.{memory-spared}

-- the recorded state is coherent outside any lines
pub coherent-outside : (a : Moment) (table : Needs) (out : ℕ → Bool) → IsTold a.r a.run table → a.t < a.r.cycles → IsCoherent out (state a)
coherent-outside a table out told below =
    coherent-wider (state a).cache.shape no_line out (ram_byte (state a).image (state a).memory) (slots (state a).cache) (λ line o. refl)
    (coherent-is a table told below)

-- a slot replaced by one that holds nothing else outside X
pub replaced-spared : (a : Moment) (table : Needs) (out : ℕ → Bool) (contents : Contents) (set way : ℕ) (new : Slot) → IsTold a.r a.run table
    → a.t < a.r.cycles → IsQuiet a → IsLeftAlone a out → IsMachine (with_cache contents (state a)) → IsReplaced (state a) contents set way new
    → Replaces (state a).cache.shape out set (slots (state a).cache set way) new → IsSpared a out (with_cache contents (state a))
replaced-spared a table out contents set way new told below quiet alone machine is replaces =
    let same : SameOutside out (state a) (with_cache contents (state a)) =
    struck-laws.replaced out (state a) contents set way new is replaces (coherent-outside a table out told below) in
    memory-spared a table out (state a).stores contents told below quiet alone machine same.coherent
    (record { same = λ p j o needed. ap (λ byte. bit_at byte j) (same.view p o) })
