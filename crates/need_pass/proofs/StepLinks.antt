-- One instruction's step back, by its roots and links.
use Rattle.std.proofs.Common.{◌≡◌, ◌⊎◌, ℕ, ◌+◌, ◌*◌, ◌<◌, refl, sym, ◌∙◌, ap, arith, inl, inr}
use Rattle.std.specs.Int.{bit_at}
use Rattle.rv_isa.specs.declared.effect.Retired.{Retired}
use Rattle.rv_table.specs.Operations.{operation_of}
use Rattle.rv_table.specs.declared.operation.LoadKind.TheVariants.{Lb, Lh, Lw, Lbu, Lhu}
use Rattle.rv_table.specs.declared.operation.Operation.{Operation}
use Rattle.rv_table.specs.declared.operation.Operation.TheVariants.{Load}
use Rattle.need_pass.specs.Links.{Link, LinkLoaded, writes, stores, byte_number}
use Rattle.need_pass.specs.Needed.{Root}
use Rattle.need_pass.specs.ProgramBits.{ProgramBit, Register, Byte, IsProgramBit}
use Rattle.need_pass.specs.Steps.{StepsBack, IsSettled}
use Rattle.need_pass.specs.Tables.{register_mask, byte_mask, need_bit}
use Rattle.need_pass.specs.declared.history.Change.{Change}
use Rattle.need_pass.proofs.MaskBits.{bit_below}
use Rattle.need_pass.proofs.StepBack.{Parts, register_bits, byte_bits, register_later, byte_later, register_settled, byte_settled}
use Rattle.std.specs.Prelude.{List}

-- bits of the loaded bytes that lead to a bit of a register are among the 32
loaded_low : (o : Operation) (k j : ℕ) → j < 32 → LinkLoaded o k j → k < 32
loaded_low (Load Lb) k j l s = elim s [ inl e ↦ omega arith | inr e ↦ omega arith ]
loaded_low (Load Lh) k j l s = elim s [ inl e ↦ omega arith | inr e ↦ omega arith ]
loaded_low (Load Lw) k j l s = omega arith
loaded_low (Load Lbu) k j l s = omega arith
loaded_low (Load Lhu) k j l s = omega arith
loaded_low _ k j l s = absurd s

abbrev pub bit_in : (ℕ → ℕ → ℕ) → (ℕ → ℕ → ℕ) → ProgramBit → ℕ
bit_in R B (Register r k) = bit_at (R r 0) k
bit_in R B (Byte p k) = bit_at (B p 0) k

-- a link to a bit that is needed behind the instruction
abbrev pub Leads : Retired → (ℕ → ℕ → ℕ) → (ℕ → ℕ → ℕ) → ProgramBit → Type 0
Leads i R B p = (q : ProgramBit) × IsProgramBit q × Link i p q × (bit_in R B q ≡ 1)

pub register_leads : (i : Retired) (at : ℕ) (R0 R1 R2 R3 B0 B1 B2 : ℕ → ℕ → ℕ) → Parts i at R0 R1 R2 R3 B0 B1 B2 → (r k : ℕ) → IsProgramBit (Register r k) → bit_at (R3 r 0) k ≡ 1 → Root i (Register r k) ⊎ Leads i R0 B0 (Register r k)
unfolding Root Link
register_leads i at R0 R1 R2 R3 B0 B1 B2 h r k (p, l, m) one =
    elim ((register_bits i at R0 R1 R2 R3 B0 B1 B2 h r k p l).0 one) [
      | inl s ↦
          elim s [
            | inl own ↦ inr (Register r k, (p, l, m), inl (own.0, refl, refl), own.1)
            | inr a ↦
                elim ((h.a_is k m).0 a.1) [
                  | inl (j, jl, o, link) ↦
                      let (s, sp, sl, w, b) = (h.result_is j jl).0 o in
                      inr (Register s j, (sp, sl, jl), inr (w, inl (a.0, link)), b)
                  | inr root ↦ inl (inl (a.0, root))
                ]
          ]
      | inr b ↦
          elim ((h.b_is k m).0 b.1) [
            | inl t ↦
                elim t [
                  | inl (j, jl, o, link) ↦
                      let (s, sp, sl, w, c) = (h.result_is j jl).0 o in
                      inr (Register s j, (sp, sl, jl), inr (w, inr (b.0, link)), c)
                  | inr root ↦ inl (inr (b.0, root))
                ]
            | inr (q, j, ql, jl, stored, e, o) ↦ inr (Byte q j, (ql, jl), (stored, b.0, e), o)
          ]
    ]

pub byte_leads : (i : Retired) (at : ℕ) (R0 R1 R2 R3 B0 B1 B2 : ℕ → ℕ → ℕ) → Parts i at R0 R1 R2 R3 B0 B1 B2 → (p k : ℕ) → IsProgramBit (Byte p k) → bit_at (B2 p 0) k ≡ 1 → Leads i R0 B0 (Byte p k)
unfolding Link
byte_leads i at R0 R1 R2 R3 B0 B1 B2 h p k (l, m) one =
    elim ((byte_bits i at R0 R1 R2 R3 B0 B1 B2 h p k l m).0 one) [
      | inl own ↦ (Byte p k, (l, m), (own.0, refl, refl), own.1)
      | inr loaded ↦
          let (j, jl, o, link) = (h.loaded_is (8 * byte_number i.effect.load p + k) (bit_below h.loaded (8 * byte_number i.effect.load p + k) h.loaded_below loaded.1)).0 loaded.1 in
          let (s, sp, sl, w, b) = (h.result_is j jl).0 o in
          (Register s j, (sp, sl, jl), (w, loaded.0, link), b)
    ]

pub register_back : (i : Retired) (at : ℕ) (R0 R1 R2 R3 B0 B1 B2 : ℕ → ℕ → ℕ) → Parts i at R0 R1 R2 R3 B0 B1 B2 → (r k : ℕ) → IsProgramBit (Register r k) → (q : ProgramBit) → IsProgramBit q → Link i (Register r k) q → bit_in R0 B0 q ≡ 1 → bit_at (R3 r 0) k ≡ 1
unfolding Link
register_back i at R0 R1 R2 R3 B0 B1 B2 h r k (p, l, m) (Register s j) (sp, sl, jl) link one =
    let back = (register_bits i at R0 R1 R2 R3 B0 B1 B2 h r k p l).1 in
    elim link [
      | inl (w, e, f) ↦ back (inl (inl (ap (writes i) e ∙ w, ap (λ x. bit_at (R0 x 0) k) e ∙ ap (bit_at (R0 s 0)) f ∙ one)))
      | inr (w, operand) ↦
          let o : bit_at h.result j ≡ 1 = (h.result_is j jl).1 (s, sp, sl, w, one) in
          elim operand [
            | inl a ↦ back (inl (inr (a.0, (h.a_is k m).1 (inl (j, jl, o, a.1)))))
            | inr b ↦ back (inr (b.0, (h.b_is k m).1 (inl (inl (j, jl, o, b.1)))))
          ]
    ]
register_back i at R0 R1 R2 R3 B0 B1 B2 h r k (p, l, m) (Byte q j) (ql, jl) link one =
    (register_bits i at R0 R1 R2 R3 B0 B1 B2 h r k p l).1 (inr (link.1, (h.b_is k m).1 (inr (q, j, ql, jl, link.0, link.2, one))))

pub register_root : (i : Retired) (at : ℕ) (R0 R1 R2 R3 B0 B1 B2 : ℕ → ℕ → ℕ) → Parts i at R0 R1 R2 R3 B0 B1 B2 → (r k : ℕ) → IsProgramBit (Register r k) → Root i (Register r k) → bit_at (R3 r 0) k ≡ 1
unfolding Root
register_root i at R0 R1 R2 R3 B0 B1 B2 h r k (p, l, m) root =
    let back = (register_bits i at R0 R1 R2 R3 B0 B1 B2 h r k p l).1 in
    elim root [
      | inl a ↦ back (inl (inr (a.0, (h.a_is k m).1 (inr a.1))))
      | inr b ↦ back (inr (b.0, (h.b_is k m).1 (inl (inr b.1))))
    ]

pub byte_back : (i : Retired) (at : ℕ) (R0 R1 R2 R3 B0 B1 B2 : ℕ → ℕ → ℕ) → Parts i at R0 R1 R2 R3 B0 B1 B2 → (p k : ℕ) → IsProgramBit (Byte p k) → (q : ProgramBit) → IsProgramBit q → Link i (Byte p k) q → bit_in R0 B0 q ≡ 1 → bit_at (B2 p 0) k ≡ 1
unfolding Link
byte_back i at R0 R1 R2 R3 B0 B1 B2 h p k (l, m) (Register s j) (sp, sl, jl) (w, loaded, link) one =
    let o : bit_at h.result j ≡ 1 = (h.result_is j jl).1 (s, sp, sl, w, one) in
    let low = loaded_low (operation_of i.op.code) (8 * byte_number i.effect.load p + k) j jl link in
    (byte_bits i at R0 R1 R2 R3 B0 B1 B2 h p k l m).1 (inr (loaded, (h.loaded_is (8 * byte_number i.effect.load p + k) low).1 (j, jl, o, link)))
byte_back i at R0 R1 R2 R3 B0 B1 B2 h p k (l, m) (Byte q j) (ql, jl) (stored, e, f) one =
    (byte_bits i at R0 R1 R2 R3 B0 B1 B2 h p k l m).1 (inl (ap (stores i) e ∙ stored, ap (λ x. bit_at (B0 x 0) k) e ∙ ap (bit_at (B0 q 0)) f ∙ one))

byte_root : (i : Retired) (p k : ℕ) → Root i (Byte p k) → ⊥
unfolding Root
byte_root i p k root = root

pub steps_back : (i : Retired) (at : ℕ) (registers registers' : List (List Change)) (bytes bytes' : List (ℕ × List Change)) (R1 R2 B1 : ℕ → ℕ → ℕ) → Parts i at (register_mask registers) R1 R2 (register_mask registers') (byte_mask bytes) B1 (byte_mask bytes') → StepsBack i at registers bytes registers' bytes'
steps_back i at registers registers' bytes bytes' R1 R2 B1 h = record { later = later; settled = settled; now = λ p is. (leads p is, back p is) }
  where
    later : (p : ProgramBit) (x : ℕ) → IsProgramBit p → at < x → need_bit registers' bytes' p x ≡ need_bit registers bytes p x
    later (Register r k) x (p, l, m) b = ap (λ v. bit_at v k) (register_later i at (register_mask registers) R1 R2 (register_mask registers') (byte_mask bytes) B1 (byte_mask bytes') h r x p l b)
    later (Byte p k) x (l, m) b = ap (λ v. bit_at v k) (byte_later i at (register_mask registers) R1 R2 (register_mask registers') (byte_mask bytes) B1 (byte_mask bytes') h p x l b)

    settled : IsSettled registers bytes at → IsSettled registers' bytes' at
    settled old = record {
      register = λ r x p l b. register_settled i at (register_mask registers) R1 R2 (register_mask registers') (byte_mask bytes) B1 (byte_mask bytes') h r x p l b (old.register r x p l b);
      byte = λ p x l b. byte_settled i at (register_mask registers) R1 R2 (register_mask registers') (byte_mask bytes) B1 (byte_mask bytes') h p x l b (old.byte p x l b);
    }

    same : (q : ProgramBit) → bit_in (register_mask registers) (byte_mask bytes) q ≡ need_bit registers bytes q 0
    same (Register r k) = refl
    same (Byte p k) = refl

    leads : (p : ProgramBit) → IsProgramBit p → need_bit registers' bytes' p 0 ≡ 1 → Root i p ⊎ ((q : ProgramBit) × IsProgramBit q × Link i p q × (need_bit registers bytes q 0 ≡ 1))
    leads (Register r k) is one =
        elim (register_leads i at (register_mask registers) R1 R2 (register_mask registers') (byte_mask bytes) B1 (byte_mask bytes') h r k is one) [
          | inl root ↦ inl root
          | inr (q, qs, link, o) ↦ inr (q, qs, link, sym (same q) ∙ o)
        ]
    leads (Byte p k) is one =
        let (q, qs, link, o) = byte_leads i at (register_mask registers) R1 R2 (register_mask registers') (byte_mask bytes) B1 (byte_mask bytes') h p k is one in
        inr (q, qs, link, sym (same q) ∙ o)

    back : (p : ProgramBit) → IsProgramBit p → Root i p ⊎ ((q : ProgramBit) × IsProgramBit q × Link i p q × (need_bit registers bytes q 0 ≡ 1)) → need_bit registers' bytes' p 0 ≡ 1
    back (Register r k) is s =
        elim s [
          | inl root ↦ register_root i at (register_mask registers) R1 R2 (register_mask registers') (byte_mask bytes) B1 (byte_mask bytes') h r k is root
          | inr (q, qs, link, o) ↦ register_back i at (register_mask registers) R1 R2 (register_mask registers') (byte_mask bytes) B1 (byte_mask bytes') h r k is q qs link (same q ∙ o)
        ]
    back (Byte p k) is s =
        elim s [
          | inl root ↦ absurd (byte_root i p k root)
          | inr (q, qs, link, o) ↦ byte_back i at (register_mask registers) R1 R2 (register_mask registers') (byte_mask bytes) B1 (byte_mask bytes') h p k is q qs link (same q ∙ o)
        ]
