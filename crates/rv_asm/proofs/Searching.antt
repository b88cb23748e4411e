-- Looking for the first fault line by line.
use Rattle.std.proofs.Common.{◌≡◌, ℕ, ◌+◌, List, [], ◌∷◌, Option, Some, None, Result, length, arith, refl, ap, sym, ◌∙◌}
use Rattle.std.specs.Prelude.{option_map}
use Rattle.std.specs.Option.{option_or}
use Rattle.rv_asm.specs.Faults.{fault_of, first_fault}
use Rattle.rv_asm.specs.Layout.{passed}
use Rattle.rv_asm.specs.Lines.{Line, ended, line_of, lines}
use Rattle.rv_asm.specs.declared.fault.Fault.{Fault}
use Rattle.rv_asm.specs.declared.layout.Cursor.{Cursor}
use Rattle.rv_asm.specs.declared.layout.Place.{Place}

-- the first fault of lines, by that of their first
pub opened : (places : List ℕ → Option Place) (c : Cursor) (k : ℕ) (bytes : List ℕ) (parts rest : List (List ℕ)) (line : Result Line Fault)
    → parts ≡ bytes ∷ rest → line ≡ line_of c.in_data bytes
    → first_fault places c k parts ≡ option_or (option_map (λ fault. (k, fault)) (fault_of places c k line)) (first_fault places (passed c line) (k + 1) rest)
unfolding first_fault
opened places c k bytes parts rest line cut said = rw (cut, said) refl

pub stop : (places : List ℕ → Option Place) (c : Cursor) (k : ℕ) (bytes : List ℕ) (parts rest : List (List ℕ)) (line : Result Line Fault) (fault : Fault)
    (all : Option (ℕ × Fault))
    → parts ≡ bytes ∷ rest → line ≡ line_of c.in_data bytes → Some fault ≡ fault_of places c k line → first_fault places c k parts ≡ all
    → Some (k, fault) ≡ all
stop places c k bytes parts rest line fault all cut said one so_far =
    let whole = opened places c k bytes parts rest line cut said in
    ap (λ (f : Option Fault). option_or (option_map (λ fault. (k, fault)) f) (first_fault places (passed c line) (k + 1) rest)) one ∙ sym whole ∙ so_far

pub go_on : (places : List ℕ → Option Place) (c c' : Cursor) (k : ℕ) (bytes : List ℕ) (parts rest : List (List ℕ)) (line : Result Line Fault) (all : Option
    (ℕ × Fault))
    → parts ≡ bytes ∷ rest → line ≡ line_of c.in_data bytes → c' ≡ passed c line → ◌≡◌ {A = Option Fault} None (fault_of places c k line)
    → first_fault places c k parts ≡ all → first_fault places c' (k + 1) rest ≡ all
go_on places c c' k bytes parts rest line all cut said further none so_far =
    let whole = opened places c k bytes parts rest line cut said in
    rw further (ap (λ (f : Option Fault). option_or (option_map (λ fault. (k, fault)) f) (first_fault places (passed c line) (k + 1) rest)) none ∙ sym
    whole ∙ so_far)

pub no_line : (places : List ℕ → Option Place) (c : Cursor) (k : ℕ) (text : List ℕ) (all : Option (ℕ × Fault)) → length text ≡ 0
    → first_fault places c k (lines text) ≡ all → None ≡ all
unfolding first_fault lines ended
no_line places c k [] all none h = h
no_line places c k (b ∷ bs) all none h = absurd (omega arith)
