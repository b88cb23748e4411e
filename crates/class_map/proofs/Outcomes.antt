-- A file is accepted, or it has a first fault: one of both, and one fault.
use Rattle.std.proofs.Common.{◌≡◌, ℕ, ◌+◌, ◌≤◌, List, [], ◌∷◌, ◌++◌, Option, Some, IfSome, refl, sym, ap, ◌∙◌, subst, inl, inr, arith}
use Rattle.std.specs.Prelude.{Result, Ok, Err}
use Rattle.ace_rules.specs.Notes.{Story}
use Rattle.class_map.specs.Checks.{ArePassed, HasFault, IsAccepted, IsFirstFault, IsWrong, Passes, StopsAt}
use Rattle.class_map.specs.Faults.{FileLine, behind, fault_number, reads, start}
use Rattle.class_map.specs.Maps.{IsRight}
use Rattle.class_map.specs.declared.fault.Fault.{Fault}
use Rattle.class_map.specs.declared.map_line.MapLine.{MapLine}
use Rattle.class_map.specs.declared.progress.Progress.{Progress}

one_head : (r : Result (Option MapLine) Fault) (a b : Option MapLine) → r ≡ Ok a → r ≡ Ok b → a ≡ b
one_head r a b h k = cc

no_head : (r : Result (Option MapLine) Fault) (a : Option MapLine) (f : Fault) → r ≡ Ok a → r ≡ Err f → ⊥
no_head r a f h k = cc

-- a line leads to one place
one_pass : (story : Story) (p q r : Progress) (line : FileLine) → Passes story p line q → Passes story p line r → q ≡ r
one_pass story p q r line h k = h.behind ∙ ap (behind p) (one_head (reads story.r p line) h.head k.head h.reads k.reads) ∙ sym k.behind

not_wrong : (story : Story) (head : Option MapLine) (line : MapLine) → head ≡ Some line → IfSome head (IsRight story) → IsWrong story line → ⊥
not_wrong story head line e h w = w.other (subst (λ (x : Option MapLine). IfSome x (IsRight story)) e h w.t w.from w.to)

no_fault : (story : Story) (p q : Progress) (line : FileLine) (fault : Fault) → Passes story p line q → HasFault story p line fault → ⊥
no_fault story p q line fault h (inl e) = no_head (reads story.r p line) h.head fault h.reads e
no_fault story p q line fault h (inr o) = not_wrong story h.head o.said (one_head (reads story.r p line) h.head (Some o.said) h.reads o.reads) h.right o.wrong

no_stop : (story : Story) (p reached q : Progress) (before from : List FileLine) (fault : Fault) → ArePassed story p (before ++ from) q → 3 ≤ q.seen
    → ArePassed story p before reached → StopsAt story reached from fault → ⊥
no_stop story p reached q [] [] fault h whole k s =
    let few = s.0 in
    let a : p.seen ≡ q.seen = ap (λ (x : Progress). x.seen) h in
    let b : p.seen ≡ reached.seen = ap (λ (x : Progress). x.seen) k in
    absurd (omega (arith, a, b, few, whole))
no_stop story p reached q [] (line ∷ from) fault h whole k s =
    no_fault story p h.0 line fault h.1 (subst (λ (x : Progress). HasFault story x line fault) (sym k) s)
no_stop story p reached q (line ∷ before) from fault h whole k s =
    no_stop story h.0 reached q before from fault h.2 whole
    (subst (λ (x : Progress). ArePassed story x before reached) (one_pass story p k.0 h.0 line k.1 h.1) k.2) s

pub one_outcome : (story : Story) (lines : List FileLine) (pairs number cause : ℕ) → IsAccepted story lines pairs → IsFirstFault story start lines number cause → ⊥
one_outcome story lines pairs number cause h k =
    no_stop story start k.reached h.reached k.before k.from k.fault
    (subst (λ (l : List FileLine). ArePassed story start l h.reached) k.cut h.passed) h.whole k.passed k.stops

-- ---- two first faults are one

one_fault_of : (r : Result (Option MapLine) Fault) (a b : Fault) → r ≡ Err a → r ≡ Err b → a ≡ b
one_fault_of r a b h k = cc

same_fault : (story : Story) (p : Progress) (line : FileLine) (a b : Fault) → HasFault story p line a → HasFault story p line b → a ≡ b
same_fault story p line a b (inl h) (inl k) = one_fault_of (reads story.r p line) a b h k
same_fault story p line a b (inl h) (inr o) = absurd (no_head (reads story.r p line) (Some o.said) a o.reads h)
same_fault story p line a b (inr o) (inl k) = absurd (no_head (reads story.r p line) (Some o.said) b o.reads k)
same_fault story p line a b (inr o) (inr u) = o.is ∙ sym u.is

-- two places where the lines stop are one
record AreSame (p q : Progress) (a b : Fault) : Type 0 where
  reached : p ≡ q
  fault : a ≡ b

same_stop : (story : Story) (p : Progress) (lines : List FileLine) (a b : Fault) → StopsAt story p lines a → StopsAt story p lines b → AreSame p p a b
same_stop story p [] a b h k = record { reached = refl; fault = h.1 ∙ sym k.1 }
same_stop story p (line ∷ lines) a b h k = record { reached = refl; fault = same_fault story p line a b h k }

one_stop : (story : Story) (p q r : Progress) (lines before from front rest : List FileLine) (a b : Fault) → lines ≡ before ++ from → lines ≡ front ++ rest
    → ArePassed story p before q → ArePassed story p front r → StopsAt story q from a → StopsAt story r rest b → AreSame q r a b
one_stop story p q r lines [] from [] rest a b e f h k s t =
    let same : from ≡ rest = sym e ∙ f in
    subst (λ (x : Progress). AreSame x r a b) h (subst (λ (x : Progress). AreSame p x a b) k
    (same_stop story p rest a b
    (subst (λ (l : List FileLine). StopsAt story p l a) same (subst (λ (x : Progress). StopsAt story x from a) (sym h) s))
    (subst (λ (x : Progress). StopsAt story x rest b) (sym k) t)))
one_stop story p q r lines [] from (line ∷ front) rest a b e f h k s t =
    let same : from ≡ line ∷ (front ++ rest) = sym e ∙ f in
    let here : StopsAt story p (line ∷ (front ++ rest)) a =
    subst (λ (l : List FileLine). StopsAt story p l a) same (subst (λ (x : Progress). StopsAt story x from a) (sym h) s) in
    absurd (no_fault story p k.0 line a k.1 here)
one_stop story p q r lines (line ∷ before) from [] rest a b e f h k s t =
    let same : rest ≡ line ∷ (before ++ from) = sym f ∙ e in
    let here : StopsAt story p (line ∷ (before ++ from)) b =
    subst (λ (l : List FileLine). StopsAt story p l b) same (subst (λ (x : Progress). StopsAt story x rest b) (sym k) t) in
    absurd (no_fault story p h.0 line b h.1 here)
one_stop story p q r lines (line ∷ before) from (other ∷ front) rest a b e f h k s t =
    let both : line ∷ (before ++ from) ≡ other ∷ (front ++ rest) = sym e ∙ f in
    let first : line ≡ other = cc in
    let left : before ++ from ≡ front ++ rest = cc in
    let next : h.0 ≡ k.0 = one_pass story p h.0 k.0 line h.1 (subst (λ (l : FileLine). Passes story p l k.0) (sym first) k.1) in
    one_stop story h.0 q r (before ++ from) before from front rest a b refl left h.2
    (subst (λ (x : Progress). ArePassed story x front r) (sym next) k.2) s t

pub record IsOne (number cause other_number other_cause : ℕ) : Type 0 where
  pub numbers : number ≡ other_number
  pub causes : cause ≡ other_cause

pub one_fault : (story : Story) (lines : List FileLine) (n c m d : ℕ) → IsFirstFault story start lines n c → IsFirstFault story start lines m d → IsOne n c m d
one_fault story lines n c m d h k =
    let same = one_stop story start h.reached k.reached lines h.before h.from k.before k.from h.fault k.fault h.cut k.cut h.passed k.passed h.stops k.stops in
    record {
      numbers = h.numbered ∙ ap (λ (p : Progress). p.seen + 1) same.reached ∙ sym k.numbered;
      causes = h.caused ∙ ap fault_number same.fault ∙ sym k.caused;
    }

same_pass : (story : Story) (p q r : Progress) (lines : List FileLine) → ArePassed story p lines q → ArePassed story p lines r → q ≡ r
same_pass story p q r [] h k = sym h ∙ k
same_pass story p q r (line ∷ lines) h k =
    let next : k.0 ≡ h.0 = one_pass story p k.0 h.0 line k.1 h.1 in
    same_pass story h.0 q r lines h.2 (subst (λ (x : Progress). ArePassed story x lines r) next k.2)

-- a file is accepted with one number of pairs
pub one_count : (story : Story) (lines : List FileLine) (pairs others : ℕ) → IsAccepted story lines pairs → IsAccepted story lines others → pairs ≡ others
one_count story lines pairs others h k =
    h.counted ∙ ap (λ (p : Progress). p.pairs) (same_pass story start h.reached k.reached lines h.passed k.passed) ∙ sym k.counted
