-- How much work the stages of a command make.
use Rattle.std.proofs.Common.{◌≡◌, ℕ, ◌+◌, ◌-◌, ◌*◌, ◌≤◌, true, List, Some, Option, IfSome, sym, subst, arith}
use Rattle.elf_load.specs.Image.{LoadedImage}
use Rattle.elf_load.specs.Meaning.{image_of}
use Rattle.run_record.specs.Run.{RecordedRun}
use Rattle.run_record.specs.Within.{record_within}
use Rattle.avf_tool.specs.Answers.{ram_size}
use Rattle.avf_tool.specs.Told.{told_to}
use Rattle.avf_tool.specs.Words.{ImageJob, Job}
use Rattle.avf_tool.specs.Work.{IsFew, IsFewFor, WorkOf, Works, run_of, tells_of_one_run}

some_is : {A : Type 0} (o : Option A) (x y : A) → o ≡ Some x → o ≡ Some y → x ≡ y
some_is o x y a b = cc

-- nothing was done
pub none : (job : ImageJob) (contents : List ℕ) (steps applies : ℕ) → IsFew job contents (steps - steps) (applies - applies)
none job contents steps applies run one within = record { cycles = omega arith; instructions = omega arith }

module _ (job : ImageJob) (contents : List ℕ) (image : LoadedImage) (loaded : image ≡ image_of contents (ram_size job.shape)) where
  within_image : (run : RecordedRun) → record_within (image_of contents (ram_size job.shape)) job.shape job.budget ≡ Some run
      → record_within image job.shape job.budget ≡ Some run
  within_image run e = subst (λ i. record_within i job.shape job.budget ≡ Some run) (sym loaded) e

  -- the run wasn't recorded
  pub unrecorded : (steps after applies : ℕ) → ((run : RecordedRun) → record_within image job.shape job.budget ≡ Some run → after ≤ steps + run.cycles)
      → IsFew job contents (after - steps) (applies - applies)
  unrecorded steps after applies few run one within =
      let most : after ≤ steps + run.cycles = few run (within_image run within) in
      record { cycles = omega (arith, most); instructions = omega arith }

  -- it was, and was told of
  pub told : (steps made after applies applied : ℕ) (run : RecordedRun) → record_within image job.shape job.budget ≡ Some run → made ≡ steps + run.cycles
      → (tells_of_one_run job.task ≡ true → after ≤ made + 2 * run.cycles) → applied ≤ applies + 34 * run.instructions
      → IsFew job contents (after - steps) (applied - applies)
  told steps made after applies applied run is first then few other one within =
      let same : run ≡ other = some_is (record_within image job.shape job.budget) run other is (within_image other within) in
      let most : after ≤ made + 2 * run.cycles = then one in
      subst (λ (r : RecordedRun). IsFewFor r (after - steps) (applied - applies)) same
      (record { cycles = omega (arith, most, first); instructions = omega (arith, few) })

-- a job that tells of a run, on the contents that are told
pub does : (job : Job) (image : ImageJob) (known : Option (List ℕ)) (contents : List ℕ) (steps applies : ℕ) → run_of job ≡ Some image
    → IfSome known (λ c. contents ≡ c) → IsFew image contents steps applies → WorkOf job known steps applies
does job image known contents steps applies is read few other told e known_is =
    let same : image ≡ other = some_is (run_of job) image other is e in
    let contents_are : contents ≡ told = subst (λ o. IfSome o (λ c. contents ≡ c)) known_is read in
    subst (λ j. IsFew j told steps applies) same (subst (λ c. IsFew image c steps applies) contents_are few)

-- a call that did nothing
pub idle : (job : Job) (known : Option (List ℕ)) (steps applies : ℕ) → WorkOf job known (steps - steps) (applies - applies)
idle job known steps applies image contents e is = none image contents steps applies

pub no_work : (asked : Option Job) (holds : List ℕ → Option (List ℕ)) (steps applies : ℕ) → Works asked holds (steps - steps) (applies - applies)
no_work asked holds steps applies job e = idle job (told_to job holds) steps applies

-- a call that did a job
pub worked : (asked : Option Job) (job : Job) (holds : List ℕ → Option (List ℕ)) (steps applies : ℕ) → asked ≡ Some job
    → WorkOf job (told_to job holds) steps applies → Works asked holds steps applies
worked asked job holds steps applies is work other e =
    let same : job ≡ other = some_is asked job other is e in subst (λ j. WorkOf j (told_to j holds) steps applies) same work
