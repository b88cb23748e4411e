-- The text of a plan, part by part.
use Rattle.std.proofs.Common.{◌≡◌, ℕ, Bool, true, false, List, [], ◌∷◌, ◌++◌, append_assoc, refl, ap, ◌∙◌, codes, decimal, map}
use Rattle.std.specs.Prelude.{filter, if◌then◌else◌}
use Rattle.std.specs.List.{flat_map}
use Rattle.std.proofs.lemmas.List.Concat.{flat_map-cons}
use Rattle.ace_class.specs.Counts.{Counted, structures, total_of}
use Rattle.ace_class.specs.declared.class.Class.TheVariants.{Ace}
use Rattle.avf_report.specs.Texts.{line_of, text_of}
use Rattle.harden_plan.specs.Plans.{is_member}
use Rattle.harden_plan.specs.PlanTexts.{member_text, name_line, plan_lines, plan_text_of}
use Rattle.harden_plan.specs.declared.plan.Plan.{Plan}

-- what is made of those that pass a test
one_passed : {A B : Type 0} (p : A → Bool) (f : A → B) (g : B → List ℕ) (x : A) (xs : List A) (passes : Bool)
    → flat_map (λ y. if p y then g (f y) else []) xs ≡ flat_map g (map f (filter p xs))
    → (if passes then g (f x) else []) ++ flat_map (λ y. if p y then g (f y) else []) xs
    ≡ flat_map g (map f (if passes then x ∷ filter p xs else filter p xs))
one_passed p f g x xs true h = ap (λ t. g (f x) ++ t) h ∙ rw (flat_map-cons g (f x) (map f (filter p xs))) refl
one_passed p f g x xs false h = h

of_passed : {A B : Type 0} (p : A → Bool) (f : A → B) (g : B → List ℕ) (xs : List A)
    → flat_map (λ y. if p y then g (f y) else []) xs ≡ flat_map g (map f (filter p xs))
of_passed p f g [] = refl
of_passed p f g (x ∷ xs) =
    rw (flat_map-cons (λ y. if p y then g (f y) else []) x xs) (one_passed p f g x xs (p x) (of_passed p f g xs))

pub members_text : (set : ℕ) → flat_map (member_text set) structures ≡ text_of (map name_line (filter (is_member set) structures))
unfolding member_text text_of
members_text set = of_passed (is_member set) name_line line_of structures

-- three lines before others
three : {A : Type 0} (f : A → List ℕ) (a b c : A) (xs : List A) → ((f a ++ f b) ++ f c) ++ flat_map f xs ≡ flat_map f (a ∷ b ∷ c ∷ xs)
three f a b c xs = rw (flat_map-cons f a (b ∷ c ∷ xs), flat_map-cons f b (c ∷ xs), flat_map-cons f c xs) (simp append_assoc refl)

pub plan_parts : (counted : Counted) (plan : Plan)
    → ((line_of (codes "bits" ∷ decimal plan.bits ∷ []) ++ line_of (codes "ace" ∷ decimal plan.ace ∷ []))
    ++ line_of (codes "of" ∷ decimal (total_of counted Ace) ∷ []))
    ++ flat_map (member_text plan.set) structures
    ≡ plan_text_of counted plan
unfolding plan_lines text_of
plan_parts counted plan =
    rw (members_text plan.set)
    (three line_of (codes "bits" ∷ decimal plan.bits ∷ []) (codes "ace" ∷ decimal plan.ace ∷ []) (codes "of" ∷ decimal (total_of counted Ace) ∷ [])
    (map name_line (filter (is_member plan.set) structures)))
