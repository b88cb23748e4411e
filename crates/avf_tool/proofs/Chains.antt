-- The answers of the stages that commands share.
use Rattle.std.proofs.Common.{◌≡◌, ℕ, ◌≤◌, ◌<◌, List, length, true, false, None, Some, Result, Ok, Err, refl, subst, arith}
use Rattle.std.specs.Prelude.{Vec, nat_lt}
use Rattle.std.specs.declared.alloc.Global.{Global}
use Rattle.std.proofs.lemmas.Bool.Decides.{nat_tests}
use Rattle.avf_base.specs.Refusals.{Cause, ByWords, ByShelf, ByContents, ByOut, Free, cause_of}
use Rattle.avf_base.specs.declared.refusal.Refusal.{Refusal}
use Rattle.avf_base.specs.declared.refusal.Refusal.TheVariants.{BadImage, NoEnd}
use Rattle.bit_field.specs.declared.shapes.Shape.{Shape}
use Rattle.elf_load.specs.Image.{LoadedImage}
use Rattle.elf_load.specs.Meaning.{image_of}
use Rattle.elf_load.specs.Refusal.{first_refusal}
use Rattle.run_record.specs.Run.{RecordedRun}
use Rattle.run_record.specs.Within.{record_within}
use Rattle.avf_tool.specs.Answers.{on_image, on_run, ram_size}
use Rattle.avf_tool.specs.Due.{Answer, Text, Refused}
use Rattle.avf_tool.specs.Stages.{IsText, WorkedOut}
use Rattle.avf_tool.specs.declared.stages.TheConstants.{IMAGE_LIMIT, TOO_LONG}

-- an image that is too long
pub long_due : (shape : Shape) (contents : List ℕ) (next : LoadedImage → Answer → Type 0) → IMAGE_LIMIT < length contents
    → on_image shape contents next (Refused (BadImage TOO_LONG))
long_due shape contents next long =
    let is : nat_lt IMAGE_LIMIT (length contents) ≡ true = grind (arith, nat_tests) in
    rw is refl

-- one that is refused
pub refusal_due : (shape : Shape) (contents : List ℕ) (next : LoadedImage → Answer → Type 0) (k : ℕ) → length contents ≤ IMAGE_LIMIT
    → first_refusal contents (ram_size shape) ≡ Some k → on_image shape contents next (Refused (BadImage k))
refusal_due shape contents next k fits bad =
    let short : nat_lt IMAGE_LIMIT (length contents) ≡ false = grind (arith, nat_tests) in
    rw short (rw bad refl)

-- one that isn't goes on
loaded_due : (shape : Shape) (contents : List ℕ) (next : LoadedImage → Answer → Type 0) (due : Answer) → length contents ≤ IMAGE_LIMIT
    → first_refusal contents (ram_size shape) ≡ None → next (image_of contents (ram_size shape)) due → on_image shape contents next due
loaded_due shape contents next due fits fine h =
    let short : nat_lt IMAGE_LIMIT (length contents) ≡ false = grind (arith, nat_tests) in
    rw short (rw fine h)

module _ (shape : Shape) (contents : List ℕ) (image : LoadedImage) (budget : ℕ) (next : RecordedRun → Answer → Type 0)
    (fits : length contents ≤ IMAGE_LIMIT) (loaded : (first_refusal contents (ram_size shape) ≡ None) × (image ≡ image_of contents (ram_size shape))) where
  -- a run that doesn't end
  pub endless_due : record_within image shape budget ≡ None → on_image shape contents (on_run shape budget next) (Refused NoEnd)
  endless_due none =
      let at : on_run shape budget next image (Refused NoEnd) = rw none refl in
      loaded_due shape contents (on_run shape budget next) (Refused NoEnd) fits loaded.0
      (subst (λ i. on_run shape budget next i (Refused NoEnd)) loaded.1 at)

  -- one that ends goes on
  run_due : (run : RecordedRun) (due : Answer) → record_within image shape budget ≡ Some run → next run due
      → on_image shape contents (on_run shape budget next) due
  run_due run due ran h =
      let at : on_run shape budget next image due = rw ran h in
      loaded_due shape contents (on_run shape budget next) due fits loaded.0 (subst (λ i. on_run shape budget next i due) loaded.1 at)

worked : (here there : Answer → Type 0) → ((due : Answer) → here due → there due) → (cause : Cause) (refusal : Refusal) → WorkedOut cause here refusal
    → WorkedOut cause there refusal
worked here there goes ByContents refusal h = goes (Refused refusal) h
worked here there goes Free refusal h = h
worked here there goes ByWords refusal h = h
worked here there goes ByShelf refusal h = h
worked here there goes ByOut refusal h = h

-- what is due here is due there
pub text_due : (here there : Answer → Type 0) → ((due : Answer) → here due → there due) → (text : Result (Vec ℕ Global) Refusal) → IsText here text
    → IsText there text
text_due here there goes (Ok text) h = goes (Text text.items) h
text_due here there goes (Err refusal) h = worked here there goes (cause_of refusal) refusal h

-- what is told of the run is what its command answers
pub told : (shape : Shape) (contents : List ℕ) (image : LoadedImage) (budget : ℕ) (run : RecordedRun) (next : RecordedRun → Answer → Type 0)
    (text : Result (Vec ℕ Global) Refusal)
    → length contents ≤ IMAGE_LIMIT → (first_refusal contents (ram_size shape) ≡ None) × (image ≡ image_of contents (ram_size shape))
    → record_within image shape budget ≡ Some run → IsText (next run) text → IsText (on_image shape contents (on_run shape budget next)) text
told shape contents image budget run next text fits loaded ran h =
    text_due (next run) (on_image shape contents (on_run shape budget next))
    (λ due. run_due shape contents image budget next fits loaded run due ran) text h
