-- Agreement, part by part.
use Rattle.std.proofs.Common.{◌≡◌, ◌↔◌, ℕ, sym, ◌∙◌, ap}
use Rattle.std.specs.Int.{bit_at}
use Rattle.std.specs.Prelude.{Bool, IsTrue, None}
use Rattle.rv_isa.specs.Instruction.{State}
use Rattle.need_pass.specs.ProgramBits.{ProgramBit, Register, Byte, IsProgramBit, bit_of}
use Rattle.need_pass.specs.Tables.{Needs}
use Rattle.eval_mask.specs.Aftermaths.{Tells, output_after, state_after}
use Rattle.eval_mask.specs.Agreement.{Agree, IsNeeded}
use Rattle.eval_mask.specs.Compared.{SameNext}
use Rattle.eval_mask.specs.declared.completing.Aftermath.{Aftermath}

needed_same : (needs : Needs) (j : ℕ) (f m : ℕ → ℕ) (x y : Aftermath) → SameNext needs j f m x y → (p : ProgramBit) → IsProgramBit p
    → IsNeeded needs j p → bit_of (state_after x f m) p ≡ bit_of (state_after y f m) p
needed_same needs j f m x y s (Register r k) is one = ((s.written.same r).same is.0 is.1).same k is.2 one
needed_same needs j f m x y s (Byte p k) is one = ((s.stored.same p).same is.0).same k is.1 one

pub agree_by : (needs : Needs) (j : ℕ) (f m : ℕ → ℕ) (x y : Aftermath) → output_after x ≡ output_after y → x.end ≡ y.end
    → (x.end ≡ None → SameNext needs j f m x y) → Agree needs j (state_after x f m) (state_after y f m)
agree_by needs j f m x y o e s = record { output = o; stop = e; next = λ none. ((s none).pc, record { same = needed_same needs j f m x y (s none) }) }

pub agree_output : (needs : Needs) (j : ℕ) (f m : ℕ → ℕ) (x y : Aftermath) → Agree needs j (state_after x f m) (state_after y f m)
    → output_after x ≡ output_after y
agree_output needs j f m x y h = h.output

pub agree_end : (needs : Needs) (j : ℕ) (f m : ℕ → ℕ) (x y : Aftermath) → Agree needs j (state_after x f m) (state_after y f m) → x.end ≡ y.end
agree_end needs j f m x y h = h.stop

pub agree_next : (needs : Needs) (j : ℕ) (f m : ℕ → ℕ) (x y : Aftermath) → Agree needs j (state_after x f m) (state_after y f m) → x.end ≡ None
    → SameNext needs j f m x y
agree_next needs j f m x y h none =
    let n = h.next none in
    record {
      pc = n.0;
      written = record { same = λ r. record { same = λ above below. record { same = λ k l one. n.1.same (Register r k) (above, below, l) one } } };
      stored = record { same = λ p. record { same = λ b. record { same = λ k l one. n.1.same (Byte p k) (b, l) one } } };
    }

pub agree_exactly : (needs : Needs) (j : ℕ) (f m : ℕ → ℕ) (x y : Aftermath) (r : Bool) → output_after x ≡ output_after y → x.end ≡ y.end
    → x.end ≡ None → IsTrue r ↔ SameNext needs j f m x y → IsTrue r ↔ Agree needs j (state_after x f m) (state_after y f m)
agree_exactly needs j f m x y r o e none s = (
  λ t. agree_by needs j f m x y o e (λ n. s.0 t),
  λ h. s.1 (agree_next needs j f m x y h none),
)

pub ruleset agreement = (agree_by, agree_output, agree_end, agree_next)

-- a state that an aftermath tells has its bits
told_bit : (x : Aftermath) (f m : ℕ → ℕ) (s : State) → Tells x f m s → (p : ProgramBit) → bit_of s p ≡ bit_of (state_after x f m) p
told_bit x f m s t (Register r k) = ap (λ (h : ℕ → ℕ). bit_at (h r) k) t.written
told_bit x f m s t (Byte p k) = ap (λ (h : ℕ → ℕ). bit_at (h p) k) t.stored

-- so states agree exactly where the aftermaths that tell them do
pub agree_told : (needs : Needs) (j : ℕ) (f m : ℕ → ℕ) (x y : Aftermath) (s u : State) → Tells x f m s → Tells y f m u
    → Agree needs j (state_after x f m) (state_after y f m) ↔ Agree needs j s u
agree_told needs j f m x y s u t v = (
  λ h. record {
    output = t.put ∙ h.output ∙ sym v.put;
    stop = t.ends ∙ h.stop ∙ sym v.ends;
    next =
        λ none.
        let n = h.next (sym t.ends ∙ none) in
        (t.goes ∙ n.0 ∙ sym v.goes, record { same = λ p is one. told_bit x f m s t p ∙ n.1.same p is one ∙ sym (told_bit y f m u v p) });
  },
  λ h. record {
    output = sym t.put ∙ h.output ∙ v.put;
    stop = sym t.ends ∙ h.stop ∙ v.ends;
    next =
        λ none.
        let n = h.next (t.ends ∙ none) in
        (sym t.goes ∙ n.0 ∙ v.goes, record { same = λ p is one. sym (told_bit x f m s t p) ∙ n.1.same p is one ∙ told_bit y f m u v p });
  },
)
