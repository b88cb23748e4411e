-- What the fixed bits of each row tell: they give its code, whatever the other bits are.
use Rattle.std.proofs.Common.{◌≡◌, ℕ, ◌+◌, ◌*◌, ◌/◌, ◌%◌, ◌^◌, ◌<◌, ◌≢◌, ◌==◌, Bool, true, false, cond, List, [], ◌∷◌, arith, sym, ◌∙◌, refl, lit<, subst}
use Rattle.std.proofs.lemmas.Bool.{eqb-true, ne_eqb}
use Rattle.rv_table.proofs.CodesOfWords.{code_of-system}
use Rattle.rv_table.specs.Codes.{code_by, code_of, fixed_bits, fixed_word, with_sets}
use Rattle.rv_table.specs.Operations.{form_of}
use Rattle.rv_table.specs.Rows.{Row, row_in, row_of, rows}
use Rattle.rv_table.specs.Words.{row_of_word}
use Rattle.rv_table.specs.declared.row.Pattern.{Pattern}
use Rattle.rv_table.specs.declared.row.Pattern.TheVariants.{NoWord, Opcode, Funct3, Funct7, Word, WordButRd}
use Rattle.rv_table.specs.declared.form.Form.{Form}
use Rattle.rv_table.specs.declared.form.Form.TheVariants.{U, J, I, B, S, Shift, R, Call, Counter, NoFields}

-- by the pattern and the form of the row; `bits` are those that its words have when they are encoded
abbrev pub RowLaw : ℕ → ℕ → Pattern → Form → Type 0
RowLaw code bits NoWord form = Unit {0}
RowLaw code bits (Opcode o) U = (bits ≡ o) × (o < 2 ^ 7) × ((f g w : ℕ) → code_by o f g w ≡ code)
RowLaw code bits (Opcode o) J = (bits ≡ o) × (o < 2 ^ 7) × ((f g w : ℕ) → code_by o f g w ≡ code)
RowLaw code bits (Funct3 o f) I = (bits ≡ o + f * 2 ^ 12) × (o < 2 ^ 7) × (f < 2 ^ 3) × ((g w : ℕ) → code_by o f g w ≡ code)
RowLaw code bits (Funct3 o f) B = (bits ≡ o + f * 2 ^ 12) × (o < 2 ^ 7) × (f < 2 ^ 3) × ((g w : ℕ) → code_by o f g w ≡ code)
RowLaw code bits (Funct3 o f) S = (bits ≡ o + f * 2 ^ 12) × (o < 2 ^ 7) × (f < 2 ^ 3) × ((g w : ℕ) → code_by o f g w ≡ code)
RowLaw code bits (Funct3 o f) NoFields = (bits < 2 ^ 32) × (code_of bits ≡ code)
RowLaw code bits (Funct7 o f g) Shift =
    (bits ≡ o + f * 2 ^ 12 + g * 2 ^ 25) × (o < 2 ^ 7) × (f < 2 ^ 3) × (g < 2 ^ 7) × ((w : ℕ) → code_by o f g w ≡ code)
RowLaw code bits (Funct7 o f g) R =
    (bits ≡ o + f * 2 ^ 12 + g * 2 ^ 25) × (o < 2 ^ 7) × (f < 2 ^ 3) × (g < 2 ^ 7) × ((w : ℕ) → code_by o f g w ≡ code)
RowLaw code bits (Word word) Call = (bits < 2 ^ 32) × (code_of bits ≡ code)
RowLaw code bits (Word word) NoFields = (bits < 2 ^ 32) × (code_of bits ≡ code)
RowLaw code bits (WordButRd word) Counter =
    (bits < 2 ^ 32) × (bits / 2 ^ 7 % 2 ^ 5 ≡ 0) × ((d : ℕ) → d < 2 ^ 5 → code_of (bits + d * 2 ^ 7) ≡ code)
RowLaw code bits _ _ = ⊥

-- of a row, by this code
abbrev pub IsLawful : ℕ → Row → Type 0
IsLawful code r = RowLaw code (with_sets r.operation (fixed_word r.fixed)) r.fixed r.form

-- a counter read, whose rd is free
by_above : (w n : ℕ) → w % 128 ≡ 0x73 → w / 4096 ≡ n → w ≢ 0x73 → w ≢ 0x100073 → code_of w ≡ cond (n == 0xC0002) 50 (cond (n == 0xC0202) 51 (cond (n == 0xC8002) 52 (cond (n == 0xC8202) 53 0)))
unfolding code_by
by_above w n h e call break =
    let a : (w == 0x73) ≡ false = ne_eqb w 0x73 call in
    let b : (w == 0x100073) ≡ false = ne_eqb w 0x100073 break in
    let rest : code_by 0x73 0 0 w ≡ cond (n == 0xC0002) 50 (cond (n == 0xC0202) 51 (cond (n == 0xC8002) 52 (cond (n == 0xC8202) 53 0))) = simp (a, b, e) in
    code_of-system w h ∙ rest

counter_50 : (d : ℕ) → d < 2 ^ 5 → code_of (0xC0002073 + d * 2 ^ 7) ≡ 50
counter_50 d h = by_above (0xC0002073 + d * 2 ^ 7) 0xC0002 (omega arith) (omega arith) (omega arith) (omega arith)

counter_51 : (d : ℕ) → d < 2 ^ 5 → code_of (0xC0202073 + d * 2 ^ 7) ≡ 51
counter_51 d h = by_above (0xC0202073 + d * 2 ^ 7) 0xC0202 (omega arith) (omega arith) (omega arith) (omega arith)

counter_52 : (d : ℕ) → d < 2 ^ 5 → code_of (0xC8002073 + d * 2 ^ 7) ≡ 52
counter_52 d h = by_above (0xC8002073 + d * 2 ^ 7) 0xC8002 (omega arith) (omega arith) (omega arith) (omega arith)

counter_53 : (d : ℕ) → d < 2 ^ 5 → code_of (0xC8202073 + d * 2 ^ 7) ≡ 53
counter_53 d h = by_above (0xC8202073 + d * 2 ^ 7) 0xC8202 (omega arith) (omega arith) (omega arith) (omega arith)

abbrev AllLawful : List Row → Type 0
AllLawful [] = Unit {0}
AllLawful (r ∷ rs) = IsLawful r.code r × AllLawful rs

rows_lawful : AllLawful rows
unfolding code_by code_of row_of_word
rows_lawful = (
  tt,
  (
    tt,
    (
      (refl, lit< tt, λ f g w. refl),
      (
        (refl, lit< tt, λ f g w. refl),
        (
          (refl, lit< tt, λ f g w. refl),
          (
            (refl, lit< tt, lit< tt, λ g w. refl),
            (
              (refl, lit< tt, lit< tt, λ g w. refl),
              (
                (refl, lit< tt, lit< tt, λ g w. refl),
                (
                  (refl, lit< tt, lit< tt, λ g w. refl),
                  (
                    (refl, lit< tt, lit< tt, λ g w. refl),
                    (
                      (refl, lit< tt, lit< tt, λ g w. refl),
                      (
                        (refl, lit< tt, lit< tt, λ g w. refl),
                        (
                          (refl, lit< tt, lit< tt, λ g w. refl),
                          (
                            (refl, lit< tt, lit< tt, λ g w. refl),
                            (
                              (refl, lit< tt, lit< tt, λ g w. refl),
                              (
                                (refl, lit< tt, lit< tt, λ g w. refl),
                                (
                                  (refl, lit< tt, lit< tt, λ g w. refl),
                                  (
                                    (refl, lit< tt, lit< tt, λ g w. refl),
                                    (
                                      (refl, lit< tt, lit< tt, λ g w. refl),
                                      (
                                        (refl, lit< tt, lit< tt, λ g w. refl),
                                        (
                                          (refl, lit< tt, lit< tt, λ g w. refl),
                                          (
                                            (refl, lit< tt, lit< tt, λ g w. refl),
                                            (
                                              (refl, lit< tt, lit< tt, λ g w. refl),
                                              (
                                                (refl, lit< tt, lit< tt, λ g w. refl),
                                                (
                                                  (refl, lit< tt, lit< tt, λ g w. refl),
                                                  (
                                                    (refl, lit< tt, lit< tt, λ g w. refl),
                                                    (
                                                      (refl, lit< tt, lit< tt, lit< tt, λ w. refl),
                                                      (
                                                        (refl, lit< tt, lit< tt, lit< tt, λ w. refl),
                                                        (
                                                          (refl, lit< tt, lit< tt, lit< tt, λ w. refl),
                                                          (
                                                            (refl, lit< tt, lit< tt, lit< tt, λ w. refl),
                                                            (
                                                              (refl, lit< tt, lit< tt, lit< tt, λ w. refl),
                                                              (
                                                                (refl, lit< tt, lit< tt, lit< tt, λ w. refl),
                                                                (
                                                                  (refl, lit< tt, lit< tt, lit< tt, λ w. refl),
                                                                  (
                                                                    (refl, lit< tt, lit< tt, lit< tt, λ w. refl),
                                                                    (
                                                                      (refl, lit< tt, lit< tt, lit< tt, λ w. refl),
                                                                      (
                                                                        (refl, lit< tt, lit< tt, lit< tt, λ w. refl),
                                                                        (
                                                                          (refl, lit< tt, lit< tt, lit< tt, λ w. refl),
                                                                          (
                                                                            (refl, lit< tt, lit< tt, lit< tt, λ w. refl),
                                                                            (
                                                                              (refl, lit< tt, lit< tt, lit< tt, λ w. refl),
                                                                              (
                                                                                (refl, lit< tt, lit< tt, lit< tt, λ w. refl),
                                                                                (
                                                                                  (refl, lit< tt, lit< tt, lit< tt, λ w. refl),
                                                                                  (
                                                                                    (refl, lit< tt, lit< tt, lit< tt, λ w. refl),
                                                                                    (
                                                                                      (refl, lit< tt, lit< tt, lit< tt, λ w. refl),
                                                                                      (
                                                                                        (refl, lit< tt, lit< tt, lit< tt, λ w. refl),
                                                                                        (
                                                                                          (refl, lit< tt, lit< tt, lit< tt, λ w. refl),
                                                                                          (
                                                                                            (refl, lit< tt, lit< tt, lit< tt, λ w. refl),
                                                                                            (
                                                                                              (refl, lit< tt, lit< tt, lit< tt, λ w. refl),
                                                                                              (
                                                                                                (lit< tt, refl),
                                                                                                (
                                                                                                  (lit< tt, refl),
                                                                                                  (
                                                                                                    (lit< tt, refl),
                                                                                                    (
                                                                                                      (lit< tt, refl, counter_50),
                                                                                                      (
                                                                                                        (lit< tt, refl, counter_51),
                                                                                                        (
                                                                                                          (lit< tt, refl, counter_52),
                                                                                                          (
                                                                                                            (lit< tt, refl, counter_53),
                                                                                                            tt,
                                                                                                          ),
                                                                                                        ),
                                                                                                      ),
                                                                                                    ),
                                                                                                  ),
                                                                                                ),
                                                                                              ),
                                                                                            ),
                                                                                          ),
                                                                                        ),
                                                                                      ),
                                                                                    ),
                                                                                  ),
                                                                                ),
                                                                              ),
                                                                            ),
                                                                          ),
                                                                        ),
                                                                      ),
                                                                    ),
                                                                  ),
                                                                ),
                                                              ),
                                                            ),
                                                          ),
                                                        ),
                                                      ),
                                                    ),
                                                  ),
                                                ),
                                              ),
                                            ),
                                          ),
                                        ),
                                      ),
                                    ),
                                  ),
                                ),
                              ),
                            ),
                          ),
                        ),
                      ),
                    ),
                  ),
                ),
              ),
            ),
          ),
        ),
      ),
    ),
  ),
)

lawful_by : (t : Bool) (code : ℕ) (r rest : Row) → (code == r.code) ≡ t → IsLawful r.code r → IsLawful code rest → IsLawful code (cond t r rest)
lawful_by true code r rest e h k = subst (λ (c : ℕ). IsLawful c r) (sym (eqb-true code r.code e)) h
lawful_by false code r rest e h k = k

lawful_in : (rs : List Row) (code : ℕ) → AllLawful rs → IsLawful code (row_in rs code)
lawful_in [] code laws = tt
lawful_in (r ∷ rs) code laws = lawful_by (code == r.code) code r (row_in rs code) refl laws.0 (lawful_in rs code laws.1)

-- the row of every code is so
pub row_lawful : (code : ℕ) → RowLaw code (fixed_bits code) (row_of code).fixed (form_of code)
unfolding row_of fixed_bits form_of
row_lawful code = lawful_in rows code rows_lawful
