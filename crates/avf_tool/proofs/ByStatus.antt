-- How a call ends, read by its status.
use Rattle.std.proofs.Common.{◌≡◌, ◌≢◌, ◌≤◌, ℕ, List, Option, None, Some, IfSome, Result, Ok, Err, rules, refl, sym, ap, ◌∙◌, subst, inl, inr, arith}
use Rattle.avf_base.specs.Causes.{Rose}
use Rattle.avf_base.specs.Moves.{Grows}
use Rattle.avf_base.specs.Refusals.{status_of}
use Rattle.avf_base.specs.declared.refusal.Refusal.{Refusal}
use Rattle.avf_base.specs.declared.refusal.Refusal.TheVariants.{Usage, ReadFault, BadImage, NoEnd, NoSuchBit, WriteFault, OutOfMemory, BadSource, BadMap}
use Rattle.avf_tool.specs.Answers.{answer}
use Rattle.avf_tool.specs.Due.{Answer, Text, Refused}
use Rattle.avf_tool.specs.Ends.{Comes, Serves, Says, Ends, ByStatus, Due, Faults, IsNoFault, NeverFails, Rise, Use, faults_of, status_due}
use Rattle.avf_tool.specs.Told.{told_to}
use Rattle.avf_tool.specs.Words.{Job}
use Rattle.avf_tool.proofs.OneAnswer.{one_answer}

-- where the contents are told, what is due is what they give
told : (job : Job) (holds : List ℕ → Option (List ℕ)) (contents : List ℕ) (due : Answer) → told_to job holds ≡ Some contents → Due job holds due
    → answer job holds contents due
told job holds contents due e h = subst (λ o. IfSome o (λ c. answer job holds c due)) e h

same_job : (job j : Job) (holds : List ℕ → Option (List ℕ)) (contents : List ℕ) (due : Answer) → Some job ≡ Some j → told_to j holds ≡ Some contents
    → Due job holds due → answer j holds contents due
same_job job j holds contents due s e h =
    let P : Option Job → Type 0 = λ o. IfSome o (λ i. Due i holds due) in
    told j holds contents due e (subst P s h)

-- what is due to the job is this
same_due : (job j : Job) (holds : List ℕ → Option (List ℕ)) (contents : List ℕ) (due other : Answer) → Some job ≡ Some j → told_to j holds ≡ Some contents
    → Due job holds due → answer j holds contents other → due ≡ other
same_due job j holds contents due other s e h is = one_answer j holds contents due other (same_job job j holds contents due s e h) is

same_text : (a b : List ℕ) (old new : Option (List ℕ)) → Text a ≡ Text b → Grows old new a → Grows old new b
same_text a b old new e h = let e' : a ≡ b = cc in subst (Grows old new) e' h

no_command : (holds : List ℕ → Option (List ℕ)) (shelf : Faults) (out err : Use) → out.new ≡ out.old → ByStatus None holds shelf out err 2
no_command holds shelf out err h = record {
  usage = (λ _. refl, λ _. refl);
  read_fault = λ e. absurd (omega (arith, e));
  write_fault = λ e. absurd (omega (arith, e));
  due = λ job contents due s e. search rules;
  text = λ job contents text z. absurd (omega (arith, z));
  nothing = λ _ _. h;
  silent = λ e. absurd (omega (arith, e));
  complete = λ job contents due s. search rules;
}

-- a refusal that the contents give
refused : (job : Job) (holds : List ℕ → Option (List ℕ)) (shelf : Faults) (out err : Use) (r : Refusal) → status_of r ≢ 2 → status_of r ≢ 3
    → status_of r ≢ 7 → status_of r ≢ 0
    → Due job holds (Refused r) → out.new ≡ out.old → ByStatus (Some job) holds shelf out err (status_of r)
refused job holds shelf out err r a b c d h n = record {
  usage = (λ e. absurd (a e), λ e. search rules);
  read_fault = λ e. absurd (b e);
  write_fault = λ e. absurd (c e);
  due = λ j contents due s e is. inl (ap status_due (same_due job j holds contents (Refused r) due s e h is));
  text = λ j contents text z. absurd (d z);
  nothing = λ _ _. n;
  silent = λ e. absurd (d e);
  complete = λ j contents due s e is _ _. inl (ap status_due (same_due job j holds contents (Refused r) due s e h is));
}

read_failed : (job : Job) (holds : List ℕ → Option (List ℕ)) (shelf : Faults) (out err : Use) → Comes (Some job) holds shelf out ReadFault
    → ByStatus (Some job) holds shelf out err 3
read_failed job holds shelf out err h = record {
  usage = (λ e. absurd (omega (arith, e)), λ e. search rules);
  read_fault = λ _. h.0;
  write_fault = λ e. absurd (omega (arith, e));
  due = λ j contents due s e _. inr (inl refl);
  text = λ j contents text z. absurd (omega (arith, z));
  nothing = λ _ _. h.1;
  silent = λ e. absurd (omega (arith, e));
  complete = λ j contents due s e _ calm _. absurd (calm h.0);
}

write_failed : (job : Job) (holds : List ℕ → Option (List ℕ)) (shelf : Faults) (out err : Use) → Comes (Some job) holds shelf out WriteFault
    → ByStatus (Some job) holds shelf out err 7
write_failed job holds shelf out err h = record {
  usage = (λ e. absurd (omega (arith, e)), λ e. search rules);
  read_fault = λ e. absurd (omega (arith, e));
  write_fault = λ _. h.2;
  due = λ j contents due s e _. inr (inr (inl refl));
  text = λ j contents text z. absurd (omega (arith, z));
  nothing = λ _ e. absurd (e refl);
  silent = λ e. absurd (omega (arith, e));
  complete = λ j contents due s e _ _ calm. absurd (calm h.2);
}

no_memory : (job : Job) (holds : List ℕ → Option (List ℕ)) (shelf : Faults) (out err : Use) → out.new ≡ out.old → ByStatus (Some job) holds shelf out err 8
no_memory job holds shelf out err h = record {
  usage = (λ e. absurd (omega (arith, e)), λ e. search rules);
  read_fault = λ e. absurd (omega (arith, e));
  write_fault = λ e. absurd (omega (arith, e));
  due = λ j contents due s e _. inr (inr (inr refl));
  text = λ j contents text z. absurd (omega (arith, z));
  nothing = λ _ _. h;
  silent = λ e. absurd (omega (arith, e));
  complete = λ j contents due s e _ _ _. inr refl;
}

printed : (job : Job) (holds : List ℕ → Option (List ℕ)) (shelf : Faults) (out err : Use) (text : List ℕ) → Due job holds (Text text)
    → Grows out.old out.new text → err.new ≡ err.old → ByStatus (Some job) holds shelf out err 0
printed job holds shelf out err text h g n = record {
  usage = (λ e. absurd (omega (arith, e)), λ e. search rules);
  read_fault = λ e. absurd (omega (arith, e));
  write_fault = λ e. absurd (omega (arith, e));
  due = λ j contents due s e is. inl (ap status_due (same_due job j holds contents (Text text) due s e h is));
  text = λ j contents t _ s e a. same_text text t out.old out.new (same_due job j holds contents (Text text) (Text t) s e h a) g;
  nothing = λ e. absurd (e refl);
  silent = λ _. n;
  complete = λ j contents due s e is _ _. inl (ap status_due (same_due job j holds contents (Text text) due s e h is));
}

ended : (asked : Option Job) (holds : List ℕ → Option (List ℕ)) (shelf : Faults) (out err : Use) (end : Result (Unit {0}) Refusal)
    → Serves asked holds shelf out end
    → (status : ℕ) → Says err status end → ByStatus asked holds shelf out err status
ended None holds shelf out err (Ok done) h status s = absurd h
ended None holds shelf out err (Err r) h status s =
    let e : 2 ≡ status = sym (s.0 ∙ ap status_of h.0) in subst (ByStatus None holds shelf out err) e (no_command holds shelf out err h.1)
ended (Some job) holds shelf out err (Ok done) h status s =
    subst (ByStatus (Some job) holds shelf out err) (sym s.0) (printed job holds shelf out err h.0 h.1 h.2 s.1)
ended (Some job) holds shelf out err (Err Usage) h status s = absurd h
ended (Some job) holds shelf out err (Err ReadFault) h status s =
    subst (ByStatus (Some job) holds shelf out err) (sym s.0) (read_failed job holds shelf out err h)
ended (Some job) holds shelf out err (Err (BadImage k)) h status s =
    subst (ByStatus (Some job) holds shelf out err) (sym s.0)
    (refused job holds shelf out err (BadImage k) (λ e. omega (arith, e)) (λ e. omega (arith, e)) (λ e. omega (arith, e)) (λ e. omega (arith, e)) h.0 h.1)
ended (Some job) holds shelf out err (Err (BadSource line cause)) h status s =
    subst (ByStatus (Some job) holds shelf out err) (sym s.0)
    (refused job holds shelf out err (BadSource line cause) (λ e. omega (arith, e)) (λ e. omega (arith, e)) (λ e. omega (arith, e)) (λ e. omega (arith, e)) h.0 h.1)
ended (Some job) holds shelf out err (Err (BadMap line cause)) h status s =
    subst (ByStatus (Some job) holds shelf out err) (sym s.0)
    (refused job holds shelf out err (BadMap line cause) (λ e. omega (arith, e)) (λ e. omega (arith, e)) (λ e. omega (arith, e)) (λ e. omega (arith, e)) h.0 h.1)
ended (Some job) holds shelf out err (Err NoEnd) h status s =
    subst (ByStatus (Some job) holds shelf out err) (sym s.0)
    (refused job holds shelf out err NoEnd (λ e. omega (arith, e)) (λ e. omega (arith, e)) (λ e. omega (arith, e)) (λ e. omega (arith, e)) h.0 h.1)
ended (Some job) holds shelf out err (Err NoSuchBit) h status s =
    subst (ByStatus (Some job) holds shelf out err) (sym s.0)
    (refused job holds shelf out err NoSuchBit (λ e. omega (arith, e)) (λ e. omega (arith, e)) (λ e. omega (arith, e)) (λ e. omega (arith, e)) h.0 h.1)
ended (Some job) holds shelf out err (Err WriteFault) h status s =
    subst (ByStatus (Some job) holds shelf out err) (sym s.0) (write_failed job holds shelf out err h)
ended (Some job) holds shelf out err (Err OutOfMemory) h status s =
    subst (ByStatus (Some job) holds shelf out err) (sym s.0) (no_memory job holds shelf out err h)

pub by_status : (asked : Option Job) (holds : List ℕ → Option (List ℕ)) (shelf : Faults) (out err : Use) (status : ℕ)
    → Ends asked holds shelf out err status → ByStatus asked holds shelf out err status
by_status asked holds shelf out err status h = ended asked holds shelf out err h.0 h.1 status h.2

-- a count that is always 0 never rises
never_rises : {S : Type 0} (count : S → ℕ) (old new : S) → NeverFails count → Rise (faults_of count old new) → ⊥
never_rises count old new never rise =
    let was : Rose 0 (count new) = subst (λ n. Rose n (count new)) (never old) rise in
    let is : Rose 0 0 = subst (Rose 0) (never new) was in
    let least : 1 ≤ 0 = is in
    omega (arith, least)

-- where no count of faults can rise, no status of a fault comes
pub no_fault : {S T : Type 0} (reads : S → ℕ) (writes : T → ℕ) (asked : Option Job) (holds : List ℕ → Option (List ℕ)) (shelf later : S) (before now : T)
    (old new : Option (List ℕ)) (err : Use) (status : ℕ)
    → Ends asked holds (faults_of reads shelf later) (record { old = old; new = new; faults = faults_of writes before now }) err status
    → NeverFails reads → NeverFails writes → IsNoFault status
no_fault reads writes asked holds shelf later before now old new err status h shelf_never out_never =
    let b = by_status asked holds _ _ err status h in
    record {
      no_read_fault = λ e. never_rises reads shelf later shelf_never (b.read_fault e);
      no_write_fault = λ e. never_rises writes before now out_never (b.write_fault e);
    }
