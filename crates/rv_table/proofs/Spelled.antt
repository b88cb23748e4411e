-- What an operation that has a text tells of its fields.
use Rattle.std.proofs.Common.{zero, suc, List, [], ◌∷◌, length, Bor, ◌≡◌, ℕ, ◌<◌, ◌||◌, not, Bool, true, false, IsTrue, arith, ap, sym, ◌∙◌, refl}
use Rattle.std.proofs.lemmas.Bool.Decides.{nat_tests}
use Rattle.rv_table.proofs.Encoded.{fits_form}
use Rattle.rv_table.proofs.RowLookups.{each_row}
use Rattle.rv_table.specs.Operations.{form_of, has_row}
use Rattle.rv_table.specs.Rows.{Row, has_word, row_of}
use Rattle.std.specs.Prelude.{map, slice_index_or}
use Rattle.rv_table.specs.Texts.{mnemonic, register_name, register_names, text, text_by}
use Rattle.rv_table.specs.WellFormed.{fits, well_formed}
use Rattle.rv_table.specs.declared.form.Form.{Form}
use Rattle.rv_table.specs.declared.form.Form.TheVariants.{NoFields}
use Rattle.rv_table.specs.declared.op.Op.{Op}

fits_rd : (form : Form) (op : Op) → fits form op ≡ true → op.rd < 32
unfolding fits
fits_rd form op h = grind (arith, nat_tests)

fits_rs1 : (form : Form) (op : Op) → fits form op ≡ true → op.rs1 < 32
unfolding fits
fits_rs1 form op h = grind (arith, nat_tests)

fits_rs2 : (form : Form) (op : Op) → fits form op ≡ true → op.rs2 < 32
unfolding fits
fits_rs2 form op h = grind (arith, nat_tests)

formed_by : (formed has : Bool) → has ≡ true → IsTrue (formed || not has) → formed ≡ true
formed_by true has e h = refl
formed_by false true e h = cc
formed_by false false e h = cc

formed : (op : Op) → has_row op.code ≡ true → IsTrue (well_formed op || not (has_row op.code)) → fits (form_of op.code) op ≡ true
formed op e h = fits_form op (formed_by (well_formed op) (has_row op.code) e h)

pub named_rd : (op : Op) → has_row op.code ≡ true → IsTrue (well_formed op || not (has_row op.code)) → op.rd < 32
named_rd op e h = fits_rd (form_of op.code) op (formed op e h)

pub named_rs1 : (op : Op) → has_row op.code ≡ true → IsTrue (well_formed op || not (has_row op.code)) → op.rs1 < 32
named_rs1 op e h = fits_rs1 (form_of op.code) op (formed op e h)

pub named_rs2 : (op : Op) → has_row op.code ≡ true → IsTrue (well_formed op || not (has_row op.code)) → op.rs2 < 32
named_rs2 op e h = fits_rs2 (form_of op.code) op (formed op e h)

has_no_fields : Form → Bool
has_no_fields NoFields = true
has_no_fields _ = false

no_fields : (form : Form) → has_no_fields form ≡ true → form ≡ NoFields
unfolding has_no_fields
no_fields form h = grind arith

no_form_by : (r : Row) → has_word r.fixed ≡ false → (has_word r.fixed || has_no_fields r.form) ≡ true → r.form ≡ NoFields
no_form_by r h k = no_fields r.form (ap (λ t. t || has_no_fields r.form) (sym h) ∙ k)

no_form : (code : ℕ) → has_row code ≡ false → form_of code ≡ NoFields
unfolding has_row form_of has_no_fields
no_form code h = no_form_by (row_of code) h (each_row (λ r. has_word r.fixed || has_no_fields r.form) refl code)

pub bare_text : (op : Op) → has_row op.code ≡ false → text op ≡ mnemonic op.code
unfolding text text_by
bare_text op h = ap (λ form. text_by form op) (no_form op.code h)

pub ruleset spelling = (named_rd, named_rs1, named_rs2, bare_text)

-- ---- the names of the registers

pub name_at : (xs : List (Bor (List ℕ))) (names : List (List ℕ)) (i : ℕ) (d : Bor (List ℕ)) → map (λ name. name.now) xs ≡ names → i < length xs → (slice_index_or xs i d).now ≡ slice_index_or names i []
name_at [] names i d e l = absurd (omega arith)
name_at (x ∷ xs) [] i d e l = absurd cc
name_at (x ∷ xs) (y ∷ names) zero d e l = cc
name_at (x ∷ xs) (y ∷ names) (suc i) d e l = let same : map (λ name. name.now) xs ≡ names = cc in let shorter : i < length xs = omega arith in name_at xs names i d same shorter

pub names-length : (xs : List (Bor (List ℕ))) (names : List (List ℕ)) → map (λ name. name.now) xs ≡ names → length xs ≡ length names
names-length [] [] e = refl
names-length [] (y ∷ names) e = absurd cc
names-length (x ∷ xs) [] e = absurd cc
names-length (x ∷ xs) (y ∷ names) e = let same : map (λ name. name.now) xs ≡ names = cc in let fewer : length xs ≡ length names = names-length xs names same in omega arith

pub register_names-length : (xs : List (Bor (List ℕ))) → map (λ name. name.now) xs ≡ register_names → length xs ≡ 32
register_names-length xs e = let many : length xs ≡ length register_names = names-length xs register_names e in omega arith

pub register_name-index : (xs : List (Bor (List ℕ))) (r : ℕ) (d : Bor (List ℕ)) → map (λ name. name.now) xs ≡ register_names → r < 32 → (slice_index_or xs r d).now ≡ register_name r
unfolding register_name
register_name-index xs r d e l =
    let many : length xs ≡ 32 = register_names-length xs e in
    let within : r < length xs = omega arith in
    name_at xs register_names r d e within

pub ruleset naming = (register_names-length, register_name-index)
