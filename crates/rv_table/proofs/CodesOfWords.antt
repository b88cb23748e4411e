-- The code of a word, by its opcode.
use Rattle.std.proofs.Common.{◌≡◌, ℕ, ◌%◌, ◌≢◌, ◌==◌, ◌&&◌, Bool, true, false, cond, List, [], ◌∷◌, arith, ap, ◌∙◌, refl}
use Rattle.std.proofs.lemmas.Bool.{ne_eqb}
use Rattle.std.proofs.lemmas.Bool.Decides.{nat_tests}
use Rattle.rv_table.specs.Codes.{code_by, code_of, first_by, matches_by}
use Rattle.rv_table.specs.Rows.{Row, rows}
use Rattle.rv_table.specs.Words.{matches, opcode_of, funct3_of, funct7_of, row_matching, row_of_word}
use Rattle.rv_table.specs.declared.row.Pattern.{Pattern}
use Rattle.rv_table.specs.declared.row.Pattern.TheVariants.{NoWord, Opcode, Funct3, Funct7, Word, WordButRd}

matches-by : (p : Pattern) (w : ℕ) → matches p w ≡ matches_by p (opcode_of w) (funct3_of w) (funct7_of w) w
matches-by NoWord w = refl
matches-by (Opcode o) w = refl
matches-by (Funct3 o f) w = refl
matches-by (Funct7 o f g) w = refl
matches-by (Word word) w = word_test w word
  where
    word_test : (w word : ℕ) → (w == word) ≡ (opcode_of w == opcode_of word && w == word)
    word_test w word = grind (arith, nat_tests)
matches-by (WordButRd word) w = grind (arith, nat_tests)

code-choice : (t : Bool) (r rest : Row) → (cond t r rest).code ≡ cond t r.code rest.code
code-choice true r rest = refl
code-choice false r rest = refl

matching-by : (rs : List Row) (w : ℕ) → (row_matching rs w).code ≡ first_by rs (opcode_of w) (funct3_of w) (funct7_of w) w
matching-by [] w = refl
matching-by (r ∷ rs) w =
    code-choice (matches r.fixed w) r (row_matching rs w)
    ∙ ap (λ t. cond t r.code (row_matching rs w).code) (matches-by r.fixed w)
    ∙ ap (λ n. cond (matches_by r.fixed (opcode_of w) (funct3_of w) (funct7_of w) w) r.code n) (matching-by rs w)

pub code_of-by : (w opcode : ℕ) → opcode_of w ≡ opcode → code_of w ≡ code_by opcode (funct3_of w) (funct7_of w) w
unfolding code_of code_by row_of_word
code_of-by w opcode h = matching-by rows w ∙ ap (λ o. first_by rows o (funct3_of w) (funct7_of w) w) h

pub code_of-lui : (w : ℕ) → w % 128 ≡ 55 → code_of w ≡ 2
unfolding code_by
code_of-lui w h = code_of-by w 55 h

pub code_of-auipc : (w : ℕ) → w % 128 ≡ 23 → code_of w ≡ 3
unfolding code_by
code_of-auipc w h = code_of-by w 23 h

pub code_of-jal : (w : ℕ) → w % 128 ≡ 111 → code_of w ≡ 4
unfolding code_by
code_of-jal w h = code_of-by w 111 h

pub code_of-jalr : (w : ℕ) → w % 128 ≡ 103 → code_of w ≡ code_by 103 (funct3_of w) 0 0
unfolding code_by
code_of-jalr w h = code_of-by w 103 h

pub code_of-branch : (w : ℕ) → w % 128 ≡ 99 → code_of w ≡ code_by 99 (funct3_of w) 0 0
unfolding code_by
code_of-branch w h = code_of-by w 99 h

pub code_of-load : (w : ℕ) → w % 128 ≡ 3 → code_of w ≡ code_by 3 (funct3_of w) 0 0
unfolding code_by
code_of-load w h = code_of-by w 3 h

pub code_of-store : (w : ℕ) → w % 128 ≡ 35 → code_of w ≡ code_by 35 (funct3_of w) 0 0
unfolding code_by
code_of-store w h = code_of-by w 35 h

pub code_of-immediate : (w : ℕ) → w % 128 ≡ 19 → code_of w ≡ code_by 19 (funct3_of w) (funct7_of w) 0
unfolding code_by
code_of-immediate w h = code_of-by w 19 h

pub code_of-register : (w : ℕ) → w % 128 ≡ 51 → code_of w ≡ code_by 51 (funct3_of w) (funct7_of w) 0
unfolding code_by
code_of-register w h = code_of-by w 51 h

pub code_of-fence : (w : ℕ) → w % 128 ≡ 15 → code_of w ≡ code_by 15 (funct3_of w) 0 0
unfolding code_by
code_of-fence w h = code_of-by w 15 h

pub code_of-system : (w : ℕ) → w % 128 ≡ 115 → code_of w ≡ code_by 115 0 0 w
unfolding code_by
code_of-system w h = code_of-by w 115 h

no_opcode : (o f g w : ℕ) → o ≢ 55 → o ≢ 23 → o ≢ 111 → o ≢ 103 → o ≢ 99 → o ≢ 3 → o ≢ 35 → o ≢ 19 → o ≢ 51 → o ≢ 15 → o ≢ 115 → code_by o f g w ≡ 0
unfolding code_by
no_opcode o f g w h55 h23 h111 h103 h99 h3 h35 h19 h51 h15 h115 =
    let e55 : (o == 55) ≡ false = ne_eqb o 55 h55 in
    let e23 : (o == 23) ≡ false = ne_eqb o 23 h23 in
    let e111 : (o == 111) ≡ false = ne_eqb o 111 h111 in
    let e103 : (o == 103) ≡ false = ne_eqb o 103 h103 in
    let e99 : (o == 99) ≡ false = ne_eqb o 99 h99 in
    let e3 : (o == 3) ≡ false = ne_eqb o 3 h3 in
    let e35 : (o == 35) ≡ false = ne_eqb o 35 h35 in
    let e19 : (o == 19) ≡ false = ne_eqb o 19 h19 in
    let e51 : (o == 51) ≡ false = ne_eqb o 51 h51 in
    let e15 : (o == 15) ≡ false = ne_eqb o 15 h15 in
    let e115 : (o == 115) ≡ false = ne_eqb o 115 h115 in
    simp (e55, e23, e111, e103, e99, e3, e35, e19, e51, e15, e115)

pub code_of-none : (w : ℕ) → w % 128 ≢ 55 → w % 128 ≢ 23 → w % 128 ≢ 111 → w % 128 ≢ 103 → w % 128 ≢ 99 → w % 128 ≢ 3 → w % 128 ≢ 35 → w % 128 ≢ 19 → w % 128 ≢ 51 → w % 128 ≢ 15 → w % 128 ≢ 115 → code_of w ≡ 0
code_of-none w h55 h23 h111 h103 h99 h3 h35 h19 h51 h15 h115 = code_of-by w (opcode_of w) refl ∙ no_opcode (opcode_of w) (funct3_of w) (funct7_of w) w h55 h23 h111 h103 h99 h3 h35 h19 h51 h15 h115

pub ruleset groups = (code_of-lui, code_of-auipc, code_of-jal, code_of-jalr, code_of-branch, code_of-load, code_of-store, code_of-immediate, code_of-register, code_of-fence, code_of-system, code_of-none)
