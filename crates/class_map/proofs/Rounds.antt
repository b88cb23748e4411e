-- One more read of a file.
use Rattle.std.proofs.Common.{◌≡◌, ℕ, ◌+◌, ◌-◌, ◌*◌, ◌<◌, ◌≤◌, true, false, List, [], ◌∷◌, ◌++◌, length, take, drop, Option, None, Some, IfSome, refl, sym, ap, ◌∙◌, subst, append_assoc, append-nil, inl, inr, arith}
use Rattle.std.specs.Prelude.{Bool, Result, Ok, Err, nat_lt, ◌==◌, if◌then◌else◌}
use Rattle.std.proofs.lemmas.Bool.{cases_lt}
use Rattle.std.proofs.lemmas.List.{drop_all, drop-append-le, drop-drop, length-take-le, take-append-le}
use Rattle.std.proofs.lemmas.Bool.Decides.{nat_tests}
use Rattle.std.proofs.Math.ListN.{length-append}
use Rattle.std.proofs.Math.Seq.{take-append-add}
use Rattle.avf_base.specs.Moves.{Reads}
use Rattle.run_record.specs.Run.{RecordedRun}
use Rattle.ace_rules.specs.Notes.{Story}
use Rattle.class_map.specs.Checks.{ArePassed, IsAccepted, IsChecked, IsFirstFault}
use Rattle.class_map.specs.Faults.{FileLine, fault_number, lines_of, reads, says, start}
use Rattle.class_map.specs.Pieces.{AreJudged, HasNoFeed, IsKept, IsMore, IsRefusal, ended, refusal}
use Rattle.class_map.specs.declared.error.MapError.{MapError}
use Rattle.class_map.specs.declared.error.MapError.TheVariants.{Bad, ReadFault}
use Rattle.class_map.specs.declared.fault.Fault.TheVariants.{Misspelled}
use Rattle.class_map.specs.declared.judge.TheConstants.{LONGEST_LINE}
use Rattle.class_map.specs.declared.progress.Progress.{Progress}
use Rattle.class_map.proofs.Checked.{fault_behind, fault_here, passed_more}
use Rattle.class_map.proofs.FileLines.{begins, glue, glued, none_of, unended}

empty : (n : ℕ) → n ≤ 0 → 0 ≡ n
empty n h = omega arith

misspelled_text : (run : RecordedRun) (p : Progress) (text : List ℕ) → LONGEST_LINE < length text → says run p text ≡ Err Misspelled
unfolding says
misspelled_text run p text h = let e : nat_lt LONGEST_LINE (length text) ≡ true = grind (arith, nat_tests) in rw e refl

misspelled : (story : Story) (p : Progress) (text : List ℕ) (is_ended : Bool) → LONGEST_LINE < length text
    → reads story.r p (record { text = text; is_ended = is_ended }) ≡ Err Misspelled
misspelled story p text true h = misspelled_text story.r p text h
misspelled story p text false h = refl

-- ---- bytes that are read behind others

kept_more : (E : Type 0) (known : Option (List ℕ)) (at kept n : ℕ) (front sub : List ℕ) → length front ≡ kept → IsKept known at front
    → Reads {E = E} known (at + kept) (Ok n) sub → n ≤ length sub → IsKept known at (front ++ take n sub)
kept_more E None at kept n front sub size h r within = tt
kept_more E (Some contents) at kept n front sub size h r within =
    let taken : length (take n sub) ≡ n = length-take-le n sub within in
    let behind : at + kept + n ≡ at + length (front ++ take n sub) = (let e = length-append front (take n sub) in omega (arith, e, size, taken)) in
    h ∙ ap (λ (k : ℕ). front ++ drop (at + k) contents) size ∙ ap (λ (l : List ℕ). front ++ l) r.bytes
    ∙ sym (append_assoc front (take n sub) (drop (at + kept + n) contents)) ∙ ap (λ (k : ℕ). (front ++ take n sub) ++ drop k contents) behind

ended_there : (E : Type 0) (known : Option (List ℕ)) (at n : ℕ) (sub : List ℕ) → Reads {E = E} known at (Ok n) sub → 0 < length sub → n ≡ 0
    → IfSome known (λ contents. length contents ≤ at)
ended_there E None at n sub r room e = tt
ended_there E (Some contents) at n sub r room e = r.ended e room

pub is_more : (E : Type 0) (known : Option (List ℕ)) (at kept n : ℕ) (front sub tail : List ℕ) → length front ≡ kept → IsKept known at front
    → Reads {E = E} known (at + kept) (Ok n) sub → n ≤ length sub → 0 < length sub → IsMore known at kept n (front ++ (sub ++ tail))
is_more E known at kept n front sub tail size h r within room =
    let taken : take n (sub ++ tail) ≡ take n sub = take-append-le n sub tail within in
    record {
      room = (let e = length-append front (sub ++ tail) in let f = length-append sub tail in omega (arith, e, f, size, within));
      stand =
          subst (IsKept known at)
          (sym (ap (λ (k : ℕ). take (k + n) (front ++ (sub ++ tail))) (sym size) ∙ take-append-add front (sub ++ tail) n ∙ ap (λ (l : List ℕ). front ++ l) taken))
          (kept_more E known at kept n front sub size h r within);
      ended = λ e. ended_there E known (at + kept) n sub r room e;
    }

-- ---- how far a file is read

-- the lines of a file up to an offset have no fault
pub record ArePassedTo (story : Story) (contents : List ℕ) (at : ℕ) (p : Progress) : Type 0 where
  pub lines : List FileLine
  pub passed : ArePassed story start lines p
  pub cut : lines_of contents ≡ lines ++ lines_of (drop at contents)

abbrev pub IsRead : Story → Option (List ℕ) → ℕ → Progress → Type 0
IsRead story known at p = IfSome known (λ contents. ArePassedTo story contents at p)

pub nothing_read : (story : Story) (known : Option (List ℕ)) → IsRead story known 0 start
nothing_read story None = tt
nothing_read story (Some contents) = record { lines = []; passed = refl; cut = refl }

pub kept_none : (known : Option (List ℕ)) (at : ℕ) → IsKept known at []
kept_none None at = tt
kept_none (Some contents) at = ap (λ (k : ℕ). drop k contents) (omega arith)

rest_behind : (contents piece : List ℕ) (at used : ℕ) → drop at contents ≡ piece ++ drop (at + length piece) contents → used ≤ length piece
    → drop (at + used) contents ≡ drop used piece ++ drop (at + length piece) contents
rest_behind contents piece at used h within =
    sym (drop-drop used at contents) ∙ ap (drop used) h ∙ drop-append-le used piece (drop (at + length piece) contents) within

pub read_on : (story : Story) (known : Option (List ℕ)) (at used : ℕ) (piece : List ℕ) (p q : Progress) → IsRead story known at p → IsKept known at piece
    → AreJudged story p piece used q → IsRead story known (at + used) q
read_on story None at used piece p q h k j = tt
read_on story (Some contents) at used piece p q h k j = record {
  lines = h.lines ++ j.lines;
  passed = passed_more story start p q h.lines j.lines h.passed j.passed;
  cut =
      h.cut ∙ ap (λ (l : List ℕ). h.lines ++ lines_of l) k ∙ ap (λ (l : List FileLine). h.lines ++ l) (j.cut (drop (at + length piece) contents))
      ∙ sym (append_assoc h.lines j.lines (lines_of (drop used piece ++ drop (at + length piece) contents)))
      ∙ ap (λ (l : List ℕ). (h.lines ++ j.lines) ++ lines_of l) (sym (rest_behind contents piece at used k j.within));
}

-- ---- answers

-- a fault of the lines from an offset on is one of the file
from_there : (story : Story) (contents : List ℕ) (at : ℕ) (p : Progress) (number cause : ℕ) → ArePassedTo story contents at p
    → IsFirstFault story p (lines_of (drop at contents)) number cause → IsFirstFault story start (lines_of contents) number cause
from_there story contents at p number cause h f =
    subst (λ (l : List FileLine). IsFirstFault story start l number cause) (sym h.cut)
    (fault_behind story start p h.lines (lines_of (drop at contents)) number cause h.passed f)

pub refused_there : (story : Story) (known : Option (List ℕ)) (before now at : ℕ) (piece : List ℕ) (p : Progress) (error : MapError) → IsRead story known at p
    → IsKept known at piece → IsRefusal story p piece error → IsChecked story known before now (Err error)
refused_there story known before now at piece p ReadFault h k r = absurd r
refused_there story None before now at piece p (Bad number cause) h k r = tt
refused_there story (Some contents) before now at piece p (Bad number cause) h k r =
    from_there story contents at p number cause h
    (subst (λ (l : List ℕ). IsFirstFault story p (lines_of l) number cause) (sym k) (r (drop (at + length piece) contents)))

-- bytes without a line feed that are too long for a line
long_there : (story : Story) (p : Progress) (bytes more : List ℕ) → HasNoFeed bytes → LONGEST_LINE < length bytes
    → IsFirstFault story p (lines_of (bytes ++ more)) (p.seen + 1) (fault_number Misspelled)
long_there story p [] more free long = absurd (omega arith)
long_there story p (b ∷ bs) more free long =
    let first = begins b bs (lines_of more) in
    subst (λ (l : List FileLine). IsFirstFault story p l (p.seen + 1) (fault_number Misspelled)) (sym (glued (b ∷ bs) more free ∙ first.is))
    (fault_here story p first.line first.rest Misspelled (inl (misspelled story p first.line.text first.line.is_ended (let l = first.longer in omega (arith, l, long)))))

pub too_long : (story : Story) (known : Option (List ℕ)) (before now at : ℕ) (bytes : List ℕ) (p : Progress) → IsRead story known at p → IsKept known at bytes
    → HasNoFeed bytes → LONGEST_LINE < length bytes → IsChecked story known before now (Err (refusal p Misspelled))
too_long story None before now at bytes p h k free long = tt
too_long story (Some contents) before now at bytes p h k free long =
    from_there story contents at p (p.seen + 1) (fault_number Misspelled) h
    (subst (λ (l : List ℕ). IsFirstFault story p (lines_of l) (p.seen + 1) (fault_number Misspelled)) (sym k)
    (long_there story p bytes (drop (at + length bytes) contents) free long))

-- ---- the end of the file

left_over : (p : Progress) (n : ℕ) → 0 < n → ended p n ≡ Err (refusal p Misspelled)
left_over p n h = let e : nat_lt 0 n ≡ true = grind (arith, nat_tests) in rw e refl

too_few : (p : Progress) → p.seen < 3 → ended p 0 ≡ Err (refusal p Misspelled)
too_few p h = let e : nat_lt p.seen 3 ≡ true = grind (arith, nat_tests) in rw e refl

enough : (p : Progress) → 3 ≤ p.seen → ended p 0 ≡ Ok p.pairs
enough p h = let e : nat_lt p.seen 3 ≡ false = grind (arith, nat_tests) in rw e refl

nothing_there : (contents : List ℕ) (at n : ℕ) → length contents ≤ at + n → drop (at + n) contents ≡ []
nothing_there contents at n h = drop_all (at + n) contents h

-- bytes without a line feed at the end
last_line : (story : Story) (p : Progress) (b : ℕ) (bs : List ℕ) → HasNoFeed (b ∷ bs)
    → IsFirstFault story p (lines_of (b ∷ bs)) (p.seen + 1) (fault_number Misspelled)
last_line story p b bs free =
    let whole : lines_of (b ∷ bs) ≡ record { text = b ∷ bs; is_ended = false } ∷ [] =
    ap lines_of (sym (append-nil (b ∷ bs))) ∙ glued (b ∷ bs) [] free ∙ ap (glue (b ∷ bs)) none_of ∙ unended b bs in
    subst (λ (l : List FileLine). IsFirstFault story p l (p.seen + 1) (fault_number Misspelled)) (sym whole)
    (fault_here story p (record { text = b ∷ bs; is_ended = false }) [] Misspelled (inl refl))

missing : (story : Story) (p : Progress) → p.seen < 3 → IsFirstFault story p [] (p.seen + 1) (fault_number Misspelled)
missing story p h = record {
  before = [];
  from = [];
  cut = refl;
  reached = p;
  passed = refl;
  fault = Misspelled;
  stops = (h, refl);
  numbered = refl;
  caused = refl;
}

end_of : (contents bytes : List ℕ) (at : ℕ) → drop at contents ≡ bytes ++ drop (at + length bytes) contents → length contents ≤ at + length bytes → drop at contents ≡ bytes
end_of contents bytes at k h = k ∙ ap (λ (l : List ℕ). bytes ++ l) (drop_all (at + length bytes) contents h) ∙ append-nil bytes

whole_file : (story : Story) (contents : List ℕ) (at : ℕ) (p : Progress) → ArePassedTo story contents at p → drop at contents ≡ [] → 3 ≤ p.seen
    → IsAccepted story (lines_of contents) p.pairs
whole_file story contents at p h e some = record {
  reached = p;
  passed =
      subst (λ (l : List FileLine). ArePassed story start l p)
      (sym (h.cut ∙ ap (λ (l : List ℕ). h.lines ++ lines_of l) e ∙ ap (λ (l : List FileLine). h.lines ++ l) none_of ∙ append-nil h.lines)) h.passed;
  whole = some;
  counted = refl;
}

at_end : (story : Story) (contents : List ℕ) (before now at : ℕ) (bytes : List ℕ) (p : Progress) → ArePassedTo story contents at p → drop at contents ≡ bytes
    → HasNoFeed bytes → IsChecked story (Some contents) before now (ended p (length bytes))
at_end story contents before now at [] p h e free = elim (cases_lt p.seen 3) [
  | inl less ↦
      subst (IsChecked story (Some contents) before now) (sym (too_few p less))
      (from_there story contents at p (p.seen + 1) (fault_number Misspelled) h
      (subst (λ (l : List FileLine). IsFirstFault story p l (p.seen + 1) (fault_number Misspelled)) (sym (ap lines_of e ∙ none_of)) (missing story p less)))
  | inr more ↦ subst (IsChecked story (Some contents) before now) (sym (enough p more)) (whole_file story contents at p h e more)
]
at_end story contents before now at (b ∷ bs) p h e free =
    subst (IsChecked story (Some contents) before now) (sym (left_over p (length (b ∷ bs)) (omega arith)))
    (from_there story contents at p (p.seen + 1) (fault_number Misspelled) h
    (subst (λ (l : List ℕ). IsFirstFault story p (lines_of l) (p.seen + 1) (fault_number Misspelled)) (sym e) (last_line story p b bs free)))

untold_end : (story : Story) (before now n : ℕ) (p : Progress) → IsChecked story None before now (ended p n)
untold_end story before now n p = elim (cases_lt 0 n) [
  | inl some ↦ subst (IsChecked story None before now) (sym (left_over p n some)) tt
  | inr none ↦ elim (cases_lt p.seen 3) [
    | inl less ↦ subst (λ (k : ℕ). IsChecked story None before now (ended p k)) (empty n none) (subst (IsChecked story None before now) (sym (too_few p less)) tt)
    | inr more ↦ subst (λ (k : ℕ). IsChecked story None before now (ended p k)) (empty n none) (subst (IsChecked story None before now) (sym (enough p more)) tt)
  ]
]

pub ended_here : (story : Story) (known : Option (List ℕ)) (before now at : ℕ) (bytes : List ℕ) (p : Progress) → IsRead story known at p → IsKept known at bytes
    → HasNoFeed bytes → IfSome known (λ contents. length contents ≤ at + length bytes) → IsChecked story known before now (ended p (length bytes))
ended_here story None before now at bytes p h k free e = untold_end story before now (length bytes) p
ended_here story (Some contents) before now at bytes p h k free e = at_end story contents before now at bytes p h (end_of contents bytes at k e) free

-- ---- the bytes that are kept for the next read

abbrev pub left : ℕ → ℕ → ℕ
left used there = if used == 0 then there else 0

left-none : (there : ℕ) → left 0 there ≡ there
left-none there = refl

left-some : (used there : ℕ) → 0 < used → left used there ≡ 0
left-some used there h = grind (arith, nat_tests)

pub kept_on : (known : Option (List ℕ)) (at used there : ℕ) (buf : List ℕ) → IsKept known at (take there buf) → IsKept known (at + used) (take (left used there) buf)
kept_on known at used there buf h = elim (cases_lt 0 used) [
  | inl some ↦ subst (λ (n : ℕ). IsKept known (at + used) (take n buf)) (sym (left-some used there some)) (kept_none known (at + used))
  | inr none ↦
      let e : 0 ≡ used = empty used none in
      subst (λ (n : ℕ). IsKept known (at + n) (take (left n there) buf)) e (subst (λ (n : ℕ). IsKept known n (take there buf)) (same at) h)
] where
  same : (at : ℕ) → at ≡ at + 0
  same at = omega arith

pub free_on : (used there : ℕ) (buf : List ℕ) → HasNoFeed (drop used (take there buf)) → HasNoFeed (take (left used there) buf)
free_on used there buf h = elim (cases_lt 0 used) [
  | inl some ↦ subst (λ (n : ℕ). HasNoFeed (take n buf)) (sym (left-some used there some)) tt
  | inr none ↦
      let e : used ≡ 0 = sym (empty used none) in
      subst (λ (n : ℕ). HasNoFeed (take (left n there) buf)) (empty used none) (subst (λ (n : ℕ). HasNoFeed (drop n (take there buf))) e h)
]

-- the measure of the reading: each read brings a byte, or a whole line
pub nearer : (at kept read used most : ℕ) → kept ≤ 64 → 0 < read → at + used + 64 ≤ most → kept + read ≤ 4096
    → 8192 * (most + 1 - (at + used)) - left used (kept + read) < 8192 * (most + 1 - at) - kept
nearer at kept read used most k r m l = elim (cases_lt 0 used) [
  | inl some ↦ rw (left-some used (kept + read) some) (omega arith)
  | inr none ↦ let e : used ≡ 0 = sym (empty used none) in rw e (omega arith)
]

left-le : (used there : ℕ) → left used there ≤ there
left-le used there = grind (arith, nat_tests)

pub left_room : (used there most kept : ℕ) → kept ≡ left used there → there ≤ most → kept ≤ most
left_room used there most kept e h = let l = left-le used there in omega (arith, e, l, h)

-- ---- what is answered in a round; the shelf holds what it held before

pub end_answer : (story : Story) (known again : Option (List ℕ)) (before now at kept : ℕ) (buf : List ℕ) (p : Progress) (result : Result ℕ MapError)
    → again ≡ known → kept ≤ length buf → IsRead story known at p → IsKept known at (take kept buf) → HasNoFeed (take kept buf)
    → IfSome again (λ contents. length contents ≤ at + kept) → result ≡ ended p kept → IsChecked story known before now result
end_answer story known again before now at kept buf p result same room read stands free end is =
    let size : length (take kept buf) ≡ kept = length-take-le kept buf room in
    subst (IsChecked story known before now) (sym is)
    (subst (λ (n : ℕ). IsChecked story known before now (ended p n)) size
    (ended_here story known before now at (take kept buf) p read stands free
    (subst (λ (n : ℕ). IfSome known (λ contents. length contents ≤ at + n)) (sym size)
    (subst (λ (k : Option (List ℕ)). IfSome k (λ contents. length contents ≤ at + kept)) same end))))

pub same_kept : (known again : Option (List ℕ)) (at : ℕ) (bytes : List ℕ) → again ≡ known → IsKept again at bytes → IsKept known at bytes
same_kept known again at bytes e h = subst (λ (k : Option (List ℕ)). IsKept k at bytes) e h

pub long_answer : (story : Story) (known : Option (List ℕ)) (before now at kept : ℕ) (buf : List ℕ) (p : Progress) (error : MapError) → kept ≤ length buf
    → IsRead story known at p → IsKept known at (take kept buf) → HasNoFeed (take kept buf) → LONGEST_LINE < kept → error ≡ refusal p Misspelled
    → IsChecked story known before now (Err error)
long_answer story known before now at kept buf p error room read stands free long is =
    let size : length (take kept buf) ≡ kept = length-take-le kept buf room in
    subst (λ (e : MapError). IsChecked story known before now (Err e)) (sym is)
    (too_long story known before now at (take kept buf) p read stands free (omega (arith, size, long)))
