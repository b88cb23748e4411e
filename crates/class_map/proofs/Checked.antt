-- Lines that are judged one after the other.
use Rattle.std.proofs.Common.{◌≡◌, ℕ, ◌+◌, ◌*◌, ◌≤◌, List, [], ◌∷◌, ◌++◌, length, drop, refl, sym, ap, ◌∙◌, subst, append_assoc, arith}
use Rattle.ace_rules.specs.Notes.{Story}
use Rattle.class_map.specs.Checks.{ArePassed, HasFault, IsFirstFault, Passes}
use Rattle.class_map.specs.Faults.{FileLine, fault_number, lines_of}
use Rattle.class_map.specs.Judging.{ended_line}
use Rattle.class_map.specs.Pieces.{AreJudged, HasNoFeed, IsNextText, IsRefusal, refusal}
use Rattle.class_map.specs.declared.fault.Fault.{Fault}
use Rattle.class_map.specs.declared.judge.TheConstants.{LONGEST_LINE}
use Rattle.class_map.specs.declared.progress.Progress.{Progress}

pub passed_more : (story : Story) (p q r : Progress) (lines more : List FileLine) → ArePassed story p lines q → ArePassed story q more r
    → ArePassed story p (lines ++ more) r
passed_more story p q r [] more h k = subst (λ (x : Progress). ArePassed story x more r) (sym h) k
passed_more story p q r (line ∷ lines) more h k = (h.0, h.1, passed_more story h.0 q r lines more h.2 k)

pub passed_one : (story : Story) (p q : Progress) (line : FileLine) → Passes story p line q → ArePassed story p (line ∷ []) q
passed_one story p q line h = (q, h, refl)

-- the first fault behind lines that have none
pub fault_behind : (story : Story) (p q : Progress) (lines rest : List FileLine) (number cause : ℕ) → ArePassed story p lines q
    → IsFirstFault story q rest number cause → IsFirstFault story p (lines ++ rest) number cause
fault_behind story p q lines rest number cause h k = record {
  before = lines ++ k.before;
  from = k.from;
  cut = ap (λ (l : List FileLine). lines ++ l) k.cut ∙ sym (append_assoc lines k.before k.from);
  reached = k.reached;
  passed = passed_more story p q k.reached lines k.before h k.passed;
  fault = k.fault;
  stops = k.stops;
  numbered = k.numbered;
  caused = k.caused;
}

pub fault_here : (story : Story) (p : Progress) (line : FileLine) (rest : List FileLine) (fault : Fault) → HasFault story p line fault
    → IsFirstFault story p (line ∷ rest) (p.seen + 1) (fault_number fault)
fault_here story p line rest fault h = record {
  before = [];
  from = line ∷ rest;
  cut = refl;
  reached = p;
  passed = refl;
  fault = fault;
  stops = h;
  numbered = refl;
  caused = refl;
}

-- ---- the lines of a piece

-- so many bytes of the piece are judged
pub record IsJudgedTo (story : Story) (p : Progress) (piece : List ℕ) (used : ℕ) (q : Progress) : Type 0 where
  pub lines : List FileLine
  pub passed : ArePassed story p lines q
  pub cut : (more : List ℕ) → lines_of (piece ++ more) ≡ lines ++ lines_of (drop used piece ++ more)
  pub within : used ≤ length piece
  pub few : used + (LONGEST_LINE + 1) * p.seen ≤ (LONGEST_LINE + 1) * q.seen

pub judged_none : (story : Story) (p : Progress) (piece : List ℕ) → IsJudgedTo story p piece 0 p
judged_none story p piece = record { lines = []; passed = refl; cut = λ more. refl; within = omega arith; few = omega arith }

pub judged_more : (story : Story) (p q r : Progress) (piece text : List ℕ) (used : ℕ) → IsJudgedTo story p piece used q → IsNextText piece used text
    → Passes story q (ended_line text) r → r.seen ≡ q.seen + 1 → length text ≤ LONGEST_LINE → IsJudgedTo story p piece (used + (length text + 1)) r
judged_more story p q r piece text used h next pass seen short = record {
  lines = h.lines ++ ended_line text ∷ [];
  passed = passed_more story p q r h.lines (ended_line text ∷ []) h.passed (passed_one story q r (ended_line text) pass);
  cut = λ more.
      h.cut more ∙ ap (λ (l : List FileLine). h.lines ++ l) (next.cut more)
      ∙ sym (append_assoc h.lines (ended_line text ∷ []) (lines_of (drop (used + (length text + 1)) piece ++ more)));
  within = next.within;
  few = (let f = h.few in omega (arith, f, seen, short));
}

pub judged_all : (story : Story) (p q : Progress) (piece : List ℕ) (used : ℕ) → IsJudgedTo story p piece used q → HasNoFeed (drop used piece)
    → AreJudged story p piece used q
judged_all story p q piece used h free = record { lines = h.lines; passed = h.passed; cut = h.cut; rest = free; within = h.within; few = h.few }

pub refused_next : (story : Story) (p q : Progress) (piece text : List ℕ) (used : ℕ) (fault : Fault) → IsJudgedTo story p piece used q → IsNextText piece used text
    → HasFault story q (ended_line text) fault → IsRefusal story p piece (refusal q fault)
refused_next story p q piece text used fault h next f more =
    subst (λ (l : List FileLine). IsFirstFault story p l (q.seen + 1) (fault_number fault)) (sym (h.cut more))
    (fault_behind story p q h.lines (lines_of (drop used piece ++ more)) (q.seen + 1) (fault_number fault) h.passed
    (subst (λ (l : List FileLine). IsFirstFault story q l (q.seen + 1) (fault_number fault)) (sym (next.cut more))
    (fault_here story q (ended_line text) (lines_of (drop (used + (length text + 1)) piece ++ more)) fault f)))
