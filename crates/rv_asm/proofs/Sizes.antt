-- The parts are as long as the layout says.
use Rattle.std.proofs.Common.{◌≡◌, ℕ, ◌+◌, not, true, false, cond, List, length}
use Rattle.std.proofs.Common.{Option, None, Ok, refl, arith, inl, inr, ℤ}
use Rattle.std.specs.Prelude.{unsigned_abs}
use Rattle.std.specs.List.{flat_map}
use Rattle.std.proofs.lemmas.Bool.{cases_Bool, not-true, not-false}
use Rattle.std.proofs.lemmas.List.{length-replicate}
use Rattle.elf_write.specs.Code.{op_bytes}
use Rattle.rv_asm.specs.Faults.{fault_of, is_out_of_range}
use Rattle.rv_asm.specs.Layout.{grown, is_short, is_space, passed, size}
use Rattle.rv_asm.specs.Lines.{Line, stands_in}
use Rattle.rv_asm.specs.Program.{bytes_of, line_bytes, line_ops, number_into, ops_of}
use Rattle.rv_asm.specs.Statements.{Statement, Blank, Part, DataWord, DataByte, DataSpace, Ready, WithNumber, WithLabel, NumberInto, AddressInto}
use Rattle.rv_asm.specs.declared.layout.Cursor.{Cursor}
use Rattle.rv_asm.specs.declared.layout.Place.{Place}
use Rattle.rv_asm.proofs.Emitting.{in_its_range}

in_text : (c : Cursor) (n : ℕ) → not c.in_data ≡ true → (grown c n).text_size ≡ c.text_size + n
unfolding grown
in_text c n h = let out : c.in_data ≡ false = not-true _ h in rw out refl

text_kept : (c : Cursor) (n : ℕ) → c.in_data ≡ true → (grown c n).text_size ≡ c.text_size
unfolding grown
text_kept c n h = rw h refl

text_none : (c : Cursor) → (grown c 0).text_size ≡ c.text_size
unfolding grown
text_none c = elim (cases_Bool c.in_data) [ inl h ↦ rw h refl | inr h ↦ rw h (omega arith) ]

short_bytes : (rd : ℕ) (n : ℤ) → length (flat_map op_bytes (number_into rd n)) ≡ cond (is_short n) 4 8
unfolding op_bytes
short_bytes rd n = elim (cases_Bool (is_short n)) [ inl h ↦ rw h refl | inr h ↦ rw h refl ]

text_grown : (c : Cursor) (o g : ℕ) (s : Statement) → stands_in c.in_data s ≡ true
    → (grown c (size s)).text_size ≡ c.text_size + length (flat_map op_bytes (ops_of o g s))
unfolding size ops_of op_bytes
text_grown c o g Blank h = let none = text_none c in omega (arith, none)
text_grown c o g (Part part) h = let none = text_none c in omega (arith, none)
text_grown c o g (DataWord n) h = let kept = text_kept c 4 h in omega (arith, kept)
text_grown c o g (DataByte n) h = let kept = text_kept c 1 h in omega (arith, kept)
text_grown c o g (DataSpace n) h = let kept = text_kept c (cond (is_space n) (unsigned_abs n) 0) h in omega (arith, kept)
text_grown c o g (Ready op) h = in_text c 4 h
text_grown c o g (WithNumber op n) h = in_text c 4 h
text_grown c o g (WithLabel op target) h = in_text c 4 h
text_grown c o g (NumberInto rd n) h = rw (short_bytes rd n) (in_text c (cond (is_short n) 4 8) h)
text_grown c o g (AddressInto rd target) h = in_text c 8 h

in_data : (c : Cursor) (n : ℕ) → c.in_data ≡ true → (grown c n).data_size ≡ c.data_size + n
unfolding grown
in_data c n h = rw h refl

data_kept : (c : Cursor) (n : ℕ) → not c.in_data ≡ true → (grown c n).data_size ≡ c.data_size
unfolding grown
data_kept c n h = let out : c.in_data ≡ false = not-true _ h in rw out refl

data_none : (c : Cursor) → (grown c 0).data_size ≡ c.data_size
unfolding grown
data_none c = elim (cases_Bool c.in_data) [ inl h ↦ rw h (omega arith) | inr h ↦ rw h refl ]

data_grown : (c : Cursor) (s : Statement) → is_out_of_range s ≡ false → stands_in c.in_data s ≡ true
    → (grown c (size s)).data_size ≡ c.data_size + length (bytes_of s)
unfolding size bytes_of is_out_of_range
data_grown c Blank r h = let none = data_none c in omega (arith, none)
data_grown c (Part part) r h = let none = data_none c in omega (arith, none)
data_grown c (DataWord n) r h = in_data c 4 h
data_grown c (DataByte n) r h = in_data c 1 h
data_grown c (DataSpace n) r h =
    let space : is_space n ≡ true = not-false _ r in
    let zeros = length-replicate {A = ℕ} (unsigned_abs n) 0 in
    rw (space, zeros) (in_data c (unsigned_abs n) h)
data_grown c (Ready op) r h = let kept = data_kept c 4 h in omega (arith, kept)
data_grown c (WithNumber op n) r h = let kept = data_kept c 4 h in omega (arith, kept)
data_grown c (WithLabel op target) r h = let kept = data_kept c 4 h in omega (arith, kept)
data_grown c (NumberInto rd n) r h = let kept = data_kept c (cond (is_short n) 4 8) h in omega (arith, kept)
data_grown c (AddressInto rd target) r h = let kept = data_kept c 8 h in omega (arith, kept)

-- a line without a fault adds to the text part and the data part what it puts there
pub line_text : (places : List ℕ → Option Place) (c : Cursor) (k : ℕ) (line : Line) → stands_in c.in_data line.statement ≡ true
    → (passed c (Ok line)).text_size ≡ c.text_size + length (flat_map op_bytes (line_ops places c (Ok line)))
unfolding passed
line_text places c k line h = text_grown c _ _ line.statement h

pub line_data : (places : List ℕ → Option Place) (c : Cursor) (k : ℕ) (line : Line) → fault_of places c k (Ok line) ≡ None
    → stands_in c.in_data line.statement ≡ true
    → (passed c (Ok line)).data_size ≡ c.data_size + length (line_bytes (Ok line))
unfolding passed fault_of
line_data places c k line f h = data_grown c line.statement (in_its_range _ _ c k line f) h
