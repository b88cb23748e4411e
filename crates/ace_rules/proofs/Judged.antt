-- The instruction set's state that goes on by recorded effects is the run's, but for clock values, log and end.
use Rattle.std.proofs.Common.{◌≡◌, ◌<◌, ℕ, suc, [], refl, ap, sym, ◌∙◌, subst, lit<}
use Rattle.std.specs.Prelude.{Option, Some, None, slice_get}
use Rattle.avf_base.specs.declared.end.End.{End}
use Rattle.elf_load.specs.Image.{LoadedImage, fetch}
use Rattle.rv_table.proofs.WordTable.{decode-rd}
use Rattle.rv_isa.specs.Architecture.{ArchState, state_of}
use Rattle.rv_isa.specs.Effects.{CanCommit, committed, retired_at}
use Rattle.rv_isa.specs.Instruction.{State as Arch, instruction, op_at, op_of_word}
use Rattle.rv_isa.specs.declared.effect.Effect.{Effect}
use Rattle.rv_isa.specs.declared.effect.Retired.{Retired}
use Rattle.rv_isa.proofs.Steps.{effect_can_commit, effect_is_step}
use Rattle.need_pass.specs.Tables.{Needs}
use Rattle.eval_mask.specs.Seems.{no_log}
use Rattle.ace_law.specs.Moments.{IsTold, Moment, trace}
use Rattle.ace_rules.specs.Notes.{IsWordMaskOf, bare}
use Rattle.ace_rules.specs.Walking.{silent}
use Rattle.ace_rules.specs.Walks.{IsMaskAt}
use Rattle.ace_law.proofs.Alike.{count_of}
use Rattle.ace_law.proofs.Told.{entry-below, entry-is, trace-next}

committed-silent : (effect : Effect) (p q : Arch) → silent p ≡ silent q → silent (committed effect p) ≡ silent (committed effect q)
unfolding committed
committed-silent effect p q e = ap (λ (at : Arch). silent (committed effect at)) e

instruction-silent : (image : LoadedImage) (before : Arch) → silent (committed (retired_at image before).effect before) ≡ silent
    (instruction image before)
unfolding retired_at instruction
instruction-silent image before = ap silent (effect_is_step image (op_at image before.pc) before).commits

op-rd : (word : Option ℕ) → (op_of_word word).rd < 32
op-rd (Some word) = decode-rd word
op-rd None = lit< tt

pub can-commit : (image : LoadedImage) (before : Arch) → CanCommit image (retired_at image before).effect
unfolding retired_at
can-commit image before = effect_can_commit image (op_at image before.pc) before (op-rd (fetch image before.pc))

-- with the end that hasn't come
pub bare-silent : (arch : ArchState) (at : Arch) → silent (state_of arch) ≡ silent at → at.stop ≡ None → bare (state_of arch) ≡ bare at
bare-silent arch at e stop = e ∙ ap (λ (o : Option End). record at { clocks = []; log = no_log; stop = o }) (sym stop)

fetch-same : (image other : LoadedImage) (p q : ℕ) → image ≡ other → p ≡ q → fetch image p ≡ fetch other q
fetch-same image other p q e f = rw (e, f) refl

module _ (a : Moment) (table : Needs) (told : IsTold a.r a.run table) where
  pub silent-next : (i : ℕ) (arch next : ArchState) (entry : Retired) → slice_get a.run.entries i ≡ Some entry
      → silent (state_of arch) ≡ silent (trace a i)
      → state_of next ≡ committed entry.effect (state_of arch) → silent (state_of next) ≡ silent (trace a (suc i))
  silent-next i arch next entry at stands e =
      ap silent e
      ∙ committed-silent entry.effect (state_of arch) (trace a i) stands
      ∙ ap (λ (entry : Retired). silent (committed entry.effect (trace a i))) (entry-is a table told i entry at)
      ∙ instruction-silent a.r.image (trace a i)
      ∙ ap silent (sym (trace-next a table told i (entry-below a table told i entry at)))

  pub entry-commits : (i : ℕ) (entry : Retired) → slice_get a.run.entries i ≡ Some entry → CanCommit a.r.image entry.effect
  entry-commits i entry at = subst (λ (entry : Retired). CanCommit a.r.image entry.effect) (sym (entry-is a table told i entry at))
      (can-commit a.r.image (trace a i))

  pub word-judged : (i mask : ℕ) (arch : ArchState) → i < count_of a → arch.image ≡ a.r.image → silent (state_of arch) ≡ silent (trace a i)
      → IsMaskAt table i arch mask
      → IsWordMaskOf a table i mask
  word-judged i mask arch l image stands is = record {
    arch = arch;
    image = image;
    stands = bare-silent arch (trace a i) stands (told.traced.running i l);
    exact = λ word h. is.exact word (fetch-same arch.image a.r.image arch.pc (trace a i).pc image (ap (λ (at : Arch). at.pc) stands) ∙ h);
    all = λ h. is.all (fetch-same arch.image a.r.image arch.pc (trace a i).pc image (ap (λ (at : Arch). at.pc) stands) ∙ h);
  }
