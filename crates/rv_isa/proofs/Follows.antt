-- What the program keeps of a run follows the run's states.
use Rattle.std.proofs.Common.{◌≡◌, ℕ, zero, suc, ◌<◌, inl, inr, List, [], ◌∷◌, ◌++◌, length, length-append, Some, None, refl, sym, ◌∙◌, ap, subst, arith}
use Rattle.std.specs.Prelude.{slice_get}
use Rattle.std.proofs.lemmas.Bool.{cases_eq}
use Rattle.elf_load.specs.Image.{LoadedImage}
use Rattle.avf_base.specs.declared.end.End.{End}
use Rattle.rv_isa.proofs.RunSteps.{after-next, running-before}
use Rattle.rv_isa.proofs.Steps.{effect_is_step}
use Rattle.rv_isa.specs.Architecture.{ArchState, state_of}
use Rattle.rv_isa.specs.Effects.{committed, effect_by, effect_of, retired_at}
use Rattle.rv_isa.specs.Instruction.{State, instruction, op_at, with_byte}
use Rattle.rv_isa.specs.Runs.{IsTrace, after, reset}
use Rattle.rv_isa.specs.declared.effect.Effect.{Effect}
use Rattle.rv_isa.specs.declared.effect.Retired.{Retired}

-- a state without its log and its end
abbrev pub silent : State → State
silent at = record at { log = record { output = []; actions = [] }; stop = None }

pub record Follows (image : LoadedImage) (clocks : List ℕ) (entries : List Retired) (output : List ℕ) (arch : ArchState) : Type 0 where
  pub image_stays : arch.image ≡ image
  pub state : state_of arch ≡ silent (after image (length entries) (reset image clocks))
  pub running : (after image (length entries) (reset image clocks)).stop ≡ None
  pub puts : (after image (length entries) (reset image clocks)).log.output ≡ output
  pub recorded : (i : ℕ) → i < length entries → slice_get entries i ≡ Some (retired_at image (after image i (reset image clocks)))

retired-silent : (image : LoadedImage) (at : State) → retired_at image (silent at) ≡ retired_at image at
unfolding retired_at effect_of effect_by
retired-silent image at = refl

committed-silent : (effect : Effect) (at : State) → committed effect (silent at) ≡ silent (committed effect at)
unfolding committed
committed-silent effect at = refl

-- the effect of the instruction at a state tells its end and its byte, and committing it leads to the next state
record Next (image : LoadedImage) (at : State) (next : State) (retired : Retired) : Type 0 where
  stop : next.stop ≡ retired.effect.end
  puts : next.log.output ≡ with_byte at.log.output retired.effect.put
  state : committed retired.effect (silent at) ≡ silent next

next_of : (image : LoadedImage) (at : State) → Next image at (instruction image at) (retired_at image at)
unfolding retired_at instruction
next_of image at =
    let step = effect_is_step image (op_at image at.pc) at in
    record {
      stop = sym (ap (λ s. s.stop) step.commits);
      puts = step.puts;
      state = committed-silent (effect_of image (op_at image at.pc) at) at ∙ ap silent step.commits;
    }

pub follows_reset : (image : LoadedImage) (clocks : List ℕ) (arch : ArchState) → arch.image ≡ image → state_of arch ≡ reset image clocks → Follows image clocks [] [] arch
unfolding after reset
follows_reset image clocks arch e s = record { image_stays = e; state = s; running = refl; puts = refl; recorded = λ i h. absurd (omega arith) }

get-before : {A : Type 0} (xs : List A) (x : A) (i : ℕ) → i < length xs → slice_get (xs ++ x ∷ []) i ≡ slice_get xs i
get-before [] x i h = absurd (omega arith)
get-before (y ∷ ys) x zero h = refl
get-before (y ∷ ys) x (suc i) h = get-before ys x i (omega arith)

get-last : {A : Type 0} (xs : List A) (x : A) → slice_get (xs ++ x ∷ []) (length xs) ≡ Some x
get-last [] x = refl
get-last (y ∷ ys) x = get-last ys x

-- a retired instruction, its commit and what is kept of it, after a part of the run that hasn't ended
pub record Retires (entries : List Retired) (output : List ℕ) (arch : ArchState) (retired : Retired) (entries' : List Retired) (output' : List ℕ) (arch' : ArchState) : Type 0 where
  pub fetched : retired ≡ retired_at arch.image (state_of arch)
  pub committed : state_of arch' ≡ committed retired.effect (state_of arch)
  pub image : arch'.image ≡ arch.image
  pub entry : entries' ≡ entries ++ retired ∷ []
  pub byte : output' ≡ with_byte output retired.effect.put

-- the run's states up to and with that after the last entry
record Reaches (image : LoadedImage) (clocks : List ℕ) (entries : List Retired) (output : List ℕ) (arch : ArchState) (last : Retired) : Type 0 where
  stop : (after image (length entries) (reset image clocks)).stop ≡ last.effect.end
  state : state_of arch ≡ silent (after image (length entries) (reset image clocks))
  puts : (after image (length entries) (reset image clocks)).log.output ≡ output
  recorded : (i : ℕ) → i < length entries → slice_get entries i ≡ Some (retired_at image (after image i (reset image clocks)))
  running : (i : ℕ) → i < length entries → (after image i (reset image clocks)).stop ≡ None

recorded-more : (image : LoadedImage) (start : State) (entries : List Retired) (retired : Retired) → ((i : ℕ) → i < length entries → slice_get entries i ≡ Some (retired_at image (after image i start))) → retired ≡ retired_at image (after image (length entries) start) → (i : ℕ) → i < suc (length entries) → slice_get (entries ++ retired ∷ []) i ≡ Some (retired_at image (after image i start))
recorded-more image start entries retired before here i h =
    elim (cases_eq i (length entries)) [
      | inl last ↦ ap (slice_get (entries ++ retired ∷ [])) last ∙ get-last entries retired ∙ ap Some here ∙ ap (λ k. Some (retired_at image (after image k start))) (sym last)
      | inr other ↦ get-before entries retired i (omega arith) ∙ before i (omega arith)
    ]

retires_next : (image : LoadedImage) (clocks : List ℕ) (entries entries' : List Retired) (output output' : List ℕ) (arch arch' : ArchState) (retired : Retired) → Follows image clocks entries output arch → Retires entries output arch retired entries' output' arch' → Reaches image clocks entries' output' arch' retired
retires_next image clocks entries entries' output output' arch arch' retired follows retires =
    let n = length entries in
    let start = reset image clocks in
    let at = after image n start in
    let here : retired ≡ retired_at image at =
    retires.fetched ∙ ap (λ i. retired_at i (state_of arch)) follows.image_stays ∙ ap (retired_at image) follows.state ∙ retired-silent image at in
    let count : length entries' ≡ suc n = rw (retires.entry, length-append) (omega arith) in
    let next : after image (length entries') start ≡ instruction image at =
    ap (λ m. after image m start) count ∙ after-next image n start follows.running in
    let leads : Next image at (instruction image at) retired = subst (Next image at (instruction image at)) (sym here) (next_of image at) in
    record {
      stop = ap (λ s. s.stop) next ∙ leads.stop;
      state = retires.committed ∙ ap (committed retired.effect) follows.state ∙ leads.state ∙ ap silent (sym next);
      puts = ap (λ s. s.log.output) next ∙ leads.puts ∙ ap (λ o. with_byte o retired.effect.put) follows.puts ∙ sym retires.byte;
      recorded = λ i h. rw retires.entry (recorded-more image start entries retired follows.recorded here i (omega arith));
      running = λ i h. running-before image i n start (omega arith) follows.running;
    }

pub follows_next : (image : LoadedImage) (clocks : List ℕ) (entries entries' : List Retired) (output output' : List ℕ) (arch arch' : ArchState) (retired : Retired) → Follows image clocks entries output arch → Retires entries output arch retired entries' output' arch' → retired.effect.end ≡ None → Follows image clocks entries' output' arch'
follows_next image clocks entries entries' output output' arch arch' retired follows retires e =
    let reaches = retires_next image clocks entries entries' output output' arch arch' retired follows retires in
    record {
      image_stays = retires.image ∙ follows.image_stays;
      state = reaches.state;
      running = reaches.stop ∙ e;
      puts = reaches.puts;
      recorded = reaches.recorded;
    }

pub trace_ends : (image : LoadedImage) (clocks : List ℕ) (entries entries' : List Retired) (output output' : List ℕ) (arch arch' : ArchState) (retired : Retired) (end : End) → Follows image clocks entries output arch → Retires entries output arch retired entries' output' arch' → retired.effect.end ≡ Some end → IsTrace image clocks (record { entries = entries'; output = output'; end = end })
trace_ends image clocks entries entries' output output' arch arch' retired end follows retires e =
    let reaches = retires_next image clocks entries entries' output output' arch arch' retired follows retires in
    record {
      retired = reaches.recorded;
      running = reaches.running;
      ends = reaches.stop ∙ e;
      puts = reaches.puts;
    }
