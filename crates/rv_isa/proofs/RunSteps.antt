-- The states of a run: one instruction more, and no more after an end.
use Rattle.std.proofs.Common.{◌≡◌, ℕ, zero, suc, ◌+◌, ◌-◌, ◌≤◌, Option, Some, None, refl, sym, ◌∙◌, ap, arith}
use Rattle.elf_load.specs.Image.{LoadedImage}
use Rattle.avf_base.specs.declared.end.End.{End}
use Rattle.rv_isa.specs.Instruction.{State, instruction}
use Rattle.rv_isa.specs.Runs.{after}

-- an instruction at the front
pub after-on : (image : LoadedImage) (n : ℕ) (at : State) → at.stop ≡ None → after image (suc n) at ≡ after image n (instruction image at)
unfolding after
after-on image n at e = rw e refl

after-off : (image : LoadedImage) (n : ℕ) (at : State) (end : End) → at.stop ≡ Some end → after image n at ≡ at
unfolding after
after-off image zero at end e = refl
after-off image (suc n) at end e = rw e refl

next_by : (image : LoadedImage) (n : ℕ) (at : State) (stop : Option End) → at.stop ≡ stop → ((after image n (instruction image at)).stop ≡ None → after image (suc n) (instruction image at) ≡ instruction image (after image n (instruction image at))) → (after image (suc n) at).stop ≡ None → after image (suc (suc n)) at ≡ instruction image (after image (suc n) at)
next_by image n at None e rest running =
    let on = after-on image n at e in
    after-on image (suc n) at e ∙ rest (sym (ap (λ s. s.stop) on) ∙ running) ∙ ap (instruction image) (sym on)
next_by image n at (Some end) e rest running =
    let off = ap (λ s. s.stop) (after-off image (suc n) at end e) in
    absurd cc

-- one instruction more
pub after-next : (image : LoadedImage) (n : ℕ) (at : State) → (after image n at).stop ≡ None → after image (suc n) at ≡ instruction image (after image n at)
unfolding after
after-next image zero at e = rw e refl
after-next image (suc n) at e = next_by image n at at.stop refl (after-next image n (instruction image at)) e

halts_by : (image : LoadedImage) (n : ℕ) (at : State) (end : End) (stop : Option End) → at.stop ≡ stop → ((after image n (instruction image at)).stop ≡ Some end → after image (suc n) (instruction image at) ≡ after image n (instruction image at)) → (after image (suc n) at).stop ≡ Some end → after image (suc (suc n)) at ≡ after image (suc n) at
halts_by image n at end None e rest ended =
    let on = after-on image n at e in
    after-on image (suc n) at e ∙ rest (sym (ap (λ s. s.stop) on) ∙ ended) ∙ sym on
halts_by image n at end (Some last) e rest ended = after-off image (suc (suc n)) at last e ∙ sym (after-off image (suc n) at last e)

after-halts : (image : LoadedImage) (n : ℕ) (at : State) (end : End) → (after image n at).stop ≡ Some end → after image (suc n) at ≡ after image n at
unfolding after
after-halts image zero at end e = rw e refl
after-halts image (suc n) at end e = halts_by image n at end at.stop refl (after-halts image n (instruction image at) end) e

stays_by : (image : LoadedImage) (n k m : ℕ) (at : State) (end : End) → m ≡ k + n → (after image n at).stop ≡ Some end → after image m at ≡ after image n at
stays_by image n zero m at end e ended = ap (λ i. after image i at) (omega arith)
stays_by image n (suc k) zero at end e ended = absurd (omega arith)
stays_by image n (suc k) (suc m) at end e ended =
    let stays = stays_by image n k m at end (omega arith) ended in
    after-halts image m at end (ap (λ s. s.stop) stays ∙ ended) ∙ stays

-- the run stays where it ended
pub after-stays : (image : LoadedImage) (n m : ℕ) (at : State) (end : End) → n ≤ m → (after image n at).stop ≡ Some end → after image m at ≡ after image n at
after-stays image n m at end h ended = stays_by image n (m - n) m at end (omega arith) ended

running_by : (image : LoadedImage) (k n : ℕ) (at : State) (stop : Option End) → (after image k at).stop ≡ stop → k ≤ n → (after image n at).stop ≡ None → (after image k at).stop ≡ None
running_by image k n at None e h running = e
running_by image k n at (Some end) e h running =
    let stays = ap (λ s. s.stop) (after-stays image k n at end h e) in
    absurd cc

-- before a state that hasn't ended none has
pub running-before : (image : LoadedImage) (k n : ℕ) (at : State) → k ≤ n → (after image n at).stop ≡ None → (after image k at).stop ≡ None
running-before image k n at h running = running_by image k n at (after image k at).stop refl h running
