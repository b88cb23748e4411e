-- Putting a source line by line.
use Rattle.std.proofs.Common.{◌≡◌, ℕ, true, List, [], ◌∷◌, ◌++◌, Option, Some, None}
use Rattle.std.proofs.Common.{Result, Ok, Err, length, length-append, append_assoc, refl, ap, sym, ◌∙◌, arith}
use Rattle.std.specs.Prelude.{IfOk, option_map}
use Rattle.std.specs.Option.{option_or}
use Rattle.std.specs.List.{AllByRecursion, flat_map}
use Rattle.std.proofs.lemmas.Grind.{flat_map-append}
use Rattle.std.proofs.lemmas.List.{append-nil}
use Rattle.elf_write.specs.Code.{IsCoded, op_bytes}
use Rattle.rv_table.specs.declared.op.Op.{Op}
use Rattle.rv_asm.specs.Faults.{fault_of, first_fault}
use Rattle.rv_asm.specs.Layout.{behind_line, passed}
use Rattle.rv_asm.specs.Lines.{Line, ended, line_of, lines, stands_in}
use Rattle.rv_asm.specs.Program.{bytes_in, line_bytes, line_ops, ops_in}
use Rattle.rv_asm.specs.Shown.{shown, shown_line, shown_lines}
use Rattle.rv_asm.specs.declared.fault.Fault.{Fault}
use Rattle.rv_asm.specs.declared.layout.Cursor.{Cursor}
use Rattle.rv_asm.specs.declared.layout.Place.{Place}
use Rattle.rv_asm.specs.declared.line.Line.{Line as CodeLine}
use Rattle.rv_asm.proofs.Searching.{opened}
use Rattle.rv_asm.proofs.Sizes.{line_data, line_text}

none_here : (k : ℕ) (f : Option Fault) (later : Option (ℕ × Fault)) → option_or (option_map (λ fault. (k, fault)) f) later ≡ None → f ≡ None
none_here k None later h = refl
none_here k (Some fault) later h = absurd cc

-- where no line has a fault, the first has none
pub faultless : (places : List ℕ → Option Place) (c : Cursor) (k : ℕ) (bytes : List ℕ) (parts rest : List (List ℕ)) (line : Result Line Fault)
    → parts ≡ bytes ∷ rest → line ≡ line_of c.in_data bytes → first_fault places c k parts ≡ None → fault_of places c k line ≡ None
faultless places c k bytes parts rest line cut said none = none_here k _ _ (sym (opened places c k bytes parts rest line cut said) ∙ none)

pub step_code : (places : List ℕ → Option Place) (c c' : Cursor) (bytes old new all : List ℕ) (parts rest : List (List ℕ)) (line : Result Line Fault)
    → parts ≡ bytes ∷ rest → line ≡ line_of c.in_data bytes → c' ≡ passed c line → new ≡ old ++ flat_map op_bytes (line_ops places c line)
    → old ++ flat_map op_bytes (ops_in places c parts) ≡ all → new ++ flat_map op_bytes (ops_in places c' rest) ≡ all
unfolding ops_in
step_code places c c' bytes old new all parts rest line cut said further more so_far =
    let joined : flat_map op_bytes (ops_in places c parts) ≡ flat_map op_bytes (line_ops places c line) ++ flat_map op_bytes (ops_in places c' rest) =
    rw (cut, further, said) (flat_map-append op_bytes (line_ops places c (line_of c.in_data bytes)) (ops_in places (behind_line c bytes) rest)) in
    ap (λ (t : List ℕ). t ++ flat_map op_bytes (ops_in places c' rest)) more
    ∙ append_assoc old (flat_map op_bytes (line_ops places c line)) (flat_map op_bytes (ops_in places c' rest))
    ∙ ap (λ (t : List ℕ). old ++ t) (sym joined) ∙ so_far

pub step_bytes : (c c' : Cursor) (bytes old new all : List ℕ) (parts rest : List (List ℕ)) (line : Result Line Fault)
    → parts ≡ bytes ∷ rest → line ≡ line_of c.in_data bytes → c' ≡ passed c line → new ≡ old ++ line_bytes line
    → old ++ bytes_in c parts ≡ all → new ++ bytes_in c' rest ≡ all
unfolding bytes_in
step_bytes c c' bytes old new all parts rest line cut said further more so_far =
    let joined : bytes_in c parts ≡ line_bytes line ++ bytes_in c' rest = rw (cut, further, said) refl in
    ap (λ (t : List ℕ). t ++ bytes_in c' rest) more
    ∙ append_assoc old (line_bytes line) (bytes_in c' rest)
    ∙ ap (λ (t : List ℕ). old ++ t) (sym joined) ∙ so_far

-- the parts stay as long as the cursor says
pub step_text_size : (places : List ℕ → Option Place) (c c' : Cursor) (k : ℕ) (old new : List ℕ) (r : Result CodeLine Fault)
    → c' ≡ passed c (shown_lines r) → fault_of places c k (shown_lines r) ≡ None → IfOk r (λ l. stands_in c.in_data (shown l.statement) ≡ true)
    → new ≡ old ++ flat_map op_bytes (line_ops places c (shown_lines r)) → length old ≡ c.text_size → length new ≡ c'.text_size
unfolding fault_of
step_text_size places c c' k old new (Ok line) further none stands more so_far =
    let size = line_text places c k (shown_line line) stands in
    let long = length-append old (flat_map op_bytes (line_ops places c (shown_lines (Ok line)))) in
    rw (further, more) (omega (arith, size, long, so_far))
step_text_size places c c' k old new (Err fault) further none stands more so_far = absurd cc

some_fault : (places : List ℕ → Option Place) (c : Cursor) (k : ℕ) (fault : Fault) → fault_of places c k (Err fault) ≡ None → ⊥
unfolding fault_of
some_fault places c k fault h = cc

pub step_data_size : (places : List ℕ → Option Place) (c c' : Cursor) (k : ℕ) (old new : List ℕ) (r : Result CodeLine Fault)
    → c' ≡ passed c (shown_lines r) → fault_of places c k (shown_lines r) ≡ None → IfOk r (λ l. stands_in c.in_data (shown l.statement) ≡ true)
    → new ≡ old ++ line_bytes (shown_lines r) → length old ≡ c.data_size → length new ≡ c'.data_size
step_data_size places c c' k old new (Ok line) further none stands more so_far =
    let size = line_data places c k (shown_line line) none stands in
    let long = length-append old (line_bytes (shown_lines (Ok line))) in
    rw (further, more) (omega (arith, size, long, so_far))
step_data_size places c c' k old new (Err fault) further none stands more so_far = absurd (some_fault places c k fault none)

pub all_code : (places : List ℕ → Option Place) (c : Cursor) (text put all : List ℕ) → length text ≡ 0
    → put ++ flat_map op_bytes (ops_in places c (lines text)) ≡ all → put ≡ all
unfolding ops_in lines ended
all_code places c [] put all none h = sym (append-nil put) ∙ h
all_code places c (b ∷ bs) put all none h = absurd (omega arith)

pub all_bytes : (c : Cursor) (text put all : List ℕ) → length text ≡ 0 → put ++ bytes_in c (lines text) ≡ all → put ≡ all
unfolding bytes_in lines ended
all_bytes c [] put all none h = sym (append-nil put) ∙ h
all_bytes c (b ∷ bs) put all none h = absurd (omega arith)

-- all instructions decode where those of the lines that are left do
all-append : (xs ys : List Op) → AllByRecursion IsCoded xs → AllByRecursion IsCoded ys → AllByRecursion IsCoded (xs ++ ys)
all-append [] ys p q = q
all-append (x ∷ xs) ys p q = (p.0, all-append xs ys p.1 q)

pub step_coded : (places : List ℕ → Option Place) (c c' : Cursor) (bytes : List ℕ) (all : List Op) (parts rest : List (List ℕ)) (line : Result Line Fault)
    → parts ≡ bytes ∷ rest → line ≡ line_of c.in_data bytes → c' ≡ passed c line → AllByRecursion IsCoded (line_ops places c line)
    → (AllByRecursion IsCoded (ops_in places c parts) → AllByRecursion IsCoded all) → AllByRecursion IsCoded (ops_in places c' rest)
    → AllByRecursion IsCoded all
unfolding ops_in
step_coded places c c' bytes all parts rest line cut said further here so_far left =
    let opened : ops_in places c parts ≡ line_ops places c line ++ ops_in places c' rest = rw (cut, further, said) refl in
    so_far (rw opened (all-append (line_ops places c line) (ops_in places c' rest) here left))

pub all_coded : (places : List ℕ → Option Place) (c : Cursor) (text : List ℕ) (all : List Op) → length text ≡ 0
    → (AllByRecursion IsCoded (ops_in places c (lines text)) → AllByRecursion IsCoded all) → AllByRecursion IsCoded all
unfolding ops_in lines ended
all_coded places c [] all none h = h tt
all_coded places c (b ∷ bs) all none h = absurd (omega arith)
