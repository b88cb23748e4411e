-- The flush law of the machine over the view in which the bytes of X read 0.
use Rattle.std.proofs.Common.{◌≡◌, ℕ, ◌/◌, Bool, true, false, List, arith, refl, ap, sym, ◌∙◌, subst}
use Rattle.std.specs.Prelude.{None, if◌then◌else◌}
use Rattle.std.proofs.Math.Path.{fun_ext}
use Rattle.std.proofs.lemmas.Bool.{true≢false}
use Rattle.elf_load.specs.Image.{LoadedImage, word_in_ram}
use Rattle.rv_table.specs.Accesses.{accesses, store_size, stored}
use Rattle.rv_table.specs.declared.action.Action.{Action}
use Rattle.rv_table.specs.declared.action.Action.TheVariants.{Nothing, Writes, Loads, Stores, Puts, Exits, Traps}
use Rattle.rv_table.specs.declared.operation.StoreKind.{StoreKind}
use Rattle.rv_table.proofs.Loads.{loaded-same, same_word}
use Rattle.rv_isa.specs.Instruction.{State as Arch, Log, end_of, given, logged, memory_after}
use Rattle.cyc_machine.specs.Cycle.{action_in_m, cycle, end_in, fate, served_m, done_in}
use Rattle.cyc_machine.specs.Pipeline.{fate_of}
use Rattle.cyc_machine.specs.State.{State}
use Rattle.flush_view.specs.Avoids.{Avoids, masked}
use Rattle.flush_view.specs.Coherence.{IsCoherent}
use Rattle.flush_view.specs.Flush.{fed, flush}
use Rattle.flush_view.specs.MemoryLaw.{MemoryLaw}
use Rattle.flush_view.specs.Views.{view}
use Rattle.flush_view.proofs.Memory.MemoryLaw.{memory-law}
use Rattle.flush_view.proofs.Memory.Overlay.{one_word}
use Rattle.flush_view.proofs.Flush.PipeLaw.{added_to, fed_pipe, flush_more, leaves, waits}
use Rattle.flush_view.proofs.Flush.MachinePipe.{piped, piped-next}
use Rattle.flush_view.proofs.Flush.Pipes.{Pipe, flush_pipe, next_pipe}
use Rattle.cyc_machine.specs.Sizes.{IsSteady}

-- ---- an action that avoids X sees and makes the same outside X

line_of_word : (p x : ℕ) → p / 4 ≡ x / 4 → x / 16 ≡ p / 16
line_of_word p x h = omega (arith, h)

unmasked : (out : ℕ → Bool) (memory : ℕ → ℕ) (p : ℕ) → out (p / 16) ≡ false → masked out memory p ≡ memory p
unfolding masked
unmasked out memory p h = rw h refl

pub given-masked : (image : LoadedImage) (out : ℕ → Bool) (m : Action) (memory : ℕ → ℕ) → Avoids out m
    → given image m (masked out memory) ≡ given image m memory
given-masked image out Nothing memory h = refl
given-masked image out (Writes rd value) memory h = refl
given-masked image out (Loads kind rd x) memory h =
    ap (λ v. if word_in_ram image (x / 4) then v else 0) (loaded-same kind x (masked out memory) memory
    (λ p a. unmasked out memory p (sym (ap out (line_of_word p x (same_word kind x p a))) ∙ h)))
given-masked image out (Stores kind x y) memory h = refl
given-masked image out (Puts value) memory h = refl
given-masked image out (Exits value) memory h = refl
given-masked image out (Traps cause) memory h = refl

store-masked : (image : LoadedImage) (out : ℕ → Bool) (kind : StoreKind) (x y : ℕ) (memory : ℕ → ℕ) → out (x / 16) ≡ false → (p : ℕ)
    → memory_after image (Stores kind x y) (masked out memory) p ≡ masked out (memory_after image (Stores kind x y) memory) p
unfolding masked stored
store-masked image out kind x y memory h p = go (word_in_ram image (x / 4)) refl (accesses (store_size kind) x p) refl (out (p / 16)) refl
  where
    go : (w : Bool) → word_in_ram image (x / 4) ≡ w → (a : Bool) → accesses (store_size kind) x p ≡ a → (o : Bool) → out (p / 16) ≡ o
        → memory_after image (Stores kind x y) (masked out memory) p ≡ masked out (memory_after image (Stores kind x y) memory) p
    go false d a e o f = rw d refl
    go true d true e true f = absurd (true≢false (sym f ∙ sym (ap out (line_of_word p x (one_word kind x p e))) ∙ h))
    go true d true e false f = rw (d, e, f) refl
    go true d false e o f = rw (d, e) refl

pub memory_after-masked : (image : LoadedImage) (out : ℕ → Bool) (m : Action) (memory : ℕ → ℕ) → Avoids out m
    → memory_after image m (masked out memory) ≡ masked out (memory_after image m memory)
memory_after-masked image out Nothing memory h = refl
memory_after-masked image out (Writes rd value) memory h = refl
memory_after-masked image out (Loads kind rd x) memory h = refl
memory_after-masked image out (Stores kind x y) memory h = fun_ext (store-masked image out kind x y memory h)
memory_after-masked image out (Puts value) memory h = refl
memory_after-masked image out (Exits value) memory h = refl
memory_after-masked image out (Traps cause) memory h = refl

masked-same : (out : ℕ → Bool) (f g : ℕ → ℕ) → ((p : ℕ) → out (p / 16) ≡ false → f p ≡ g p) → masked out f ≡ masked out g
unfolding masked
masked-same out f g same = fun_ext (λ p. go p (out (p / 16)) refl)
  where
    go : (p : ℕ) (o : Bool) → out (p / 16) ≡ o → (if out (p / 16) then 0 else f p) ≡ (if out (p / 16) then 0 else g p)
    go p true h = rw h refl
    go p false h = rw h (same p h)

-- ---- the flush over any memory

unfoldable pub flush_over : State → (ℕ → ℕ) → List ℕ → Log → Arch
flush_over s memory clocks log = flush_pipe (piped s) memory clocks log

pub flush-over : (s : State) (clocks : List ℕ) (log : Log) → flush s clocks log ≡ flush_over s (view s) clocks log
unfolding flush flush_over
flush-over s clocks log = refl

-- M is served: what the cycle does to memory and gives is what M does and gives
by_served : (p : Pipe) (goes : Bool) (value pc : ℕ) (memory after : ℕ → ℕ) (clocks : List ℕ) (log : Log)
    → (goes ≡ true → value ≡ given p.image p.m memory)
    → after ≡ memory_after p.image (if goes then p.m else Nothing) memory → end_of p.m ≡ None
    → flush_pipe (next_pipe (fate_of p.d p.npc p.m p.w goes) goes value pc p) after clocks (logged log (if goes then p.m else Nothing))
    ≡ flush_more (added_to (fate_of p.d p.npc p.m p.w goes) p) p memory (fed_pipe (fate_of p.d p.npc p.m p.w goes) p clocks) log
by_served p true value pc memory after clocks log v e h =
    rw (v refl, e) (leaves (fate_of p.d p.npc p.m p.w true) p pc memory clocks log refl h)
by_served p false value pc memory after clocks log v e h =
    rw e (waits (fate_of p.d p.npc p.m p.w false) p value pc memory clocks log refl h)

pub masked-law : (s : State) → IsSteady s → (out : ℕ → Bool) (clocks : List ℕ) (log : Log) → IsCoherent out s
    → Avoids out (action_in_m s) → end_in s ≡ None → flush_over (cycle s) (masked out (view (cycle s))) clocks (logged log (done_in s))
    ≡ flush_more (added_to (fate s) (piped s)) (piped s) (masked out (view s)) (fed s clocks) log
unfolding flush_over
masked-law s is out clocks log coherent avoids h =
    let law : MemoryLaw s (cycle s) = memory-law s is in
    subst (λ q. flush_pipe q (masked out (view (cycle s))) clocks (logged log (done_in s))
    ≡ flush_more (added_to (fate s) (piped s)) (piped s) (masked out (view s)) (fed s clocks) log) (sym (piped-next s is))
    (by_served (piped s) (served_m s).goes (served_m s).value (cycle s).pc (masked out (view s)) (masked out (view (cycle s))) clocks log
    (λ g. law.value g ∙ sym (given-masked s.image out (action_in_m s) (view s) avoids))
    (masked-same out (view (cycle s)) (memory_after s.image (done_in s) (view s)) (λ p o. law.seen out coherent p o)
    ∙ sym (memory_after-masked s.image out (done_in s) (view s) (done_avoids (served_m s).goes)))
    h)
  where
    done_avoids : (b : Bool) → Avoids out (if b then action_in_m s else Nothing)
    done_avoids true = avoids
    done_avoids false = tt
