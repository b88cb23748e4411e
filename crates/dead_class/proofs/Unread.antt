-- A register value that nothing reads has no needed bit.
use Rattle.std.proofs.Common.{◌≡◌, ◌≢◌, ◌⊎◌, ℕ, zero, suc, ◌+◌, ◌<◌, Bool, true, false, cond, List, [], ◌∷◌, ◌++◌, length, drop, refl, sym, ◌∙◌, ap, subst, arith, inl, inr}
use Rattle.std.specs.Int.{bit_at}
use Rattle.std.specs.Prelude.{Option, Some, None, slice_get}
use Rattle.std.proofs.lemmas.Bool.{cases_eq, false≢true}
use Rattle.std.proofs.lemmas.Bool.Decides.{nat_tests}
use Rattle.std.proofs.lemmas.Nat.Bits.{bit_at-lt}
use Rattle.need_pass.specs.Links.{Link, writes, is_register}
use Rattle.need_pass.specs.Needed.{Root, Needed as IsNeeded}
use Rattle.need_pass.specs.ProgramBits.{ProgramBit, Register, Byte}
use Rattle.need_pass.specs.Tables.{Needs, IsNeedOf, reg_need}
use Rattle.rv_isa.specs.declared.effect.Retired.{Retired}
use Rattle.dead_class.specs.Classes.{reads, some_needed, is_nop, may_die, register_readers, bytes_readers, by_readers, stored_class, value_class, class_of, classes_of}
use Rattle.dead_class.specs.Law.{UnreadIsUnneeded}
use Rattle.dead_class.specs.declared.class.DeadClass.{DeadClass}
use Rattle.dead_class.specs.declared.class.DeadClass.TheVariants.{Needed, Nop, FddReg, TddReg, FddMem, TddMem}
use Rattle.dead_class.proofs.Kept.{classes-length}

reads_operand : (i : Retired) (r : ℕ) → 0 < r → (r ≡ i.op.rs1) ⊎ (r ≡ i.op.rs2) → reads i r ≡ true
reads_operand i r pos (inl e) = grind (arith, nat_tests)
reads_operand i r pos (inr e) = grind (arith, nat_tests)

-- a root of a register is a read of it, and so is each link but the one that carries the value on
root_reads : (i : Retired) (r k : ℕ) → 0 < r → Root i (Register r k) → reads i r ≡ true
unfolding Root
root_reads i r k pos root = reads_operand i r pos (elim root [ inl a ↦ inl a.0 | inr b ↦ inr b.0 ])

link_reads : (i : Retired) (r k : ℕ) (q : ProgramBit) → 0 < r → Link i (Register r k) q → (reads i r ≡ true) ⊎ ((writes i r ≡ false) × (q ≡ Register r k))
unfolding Link
link_reads i r k (Register s j) pos link =
    elim link [
      | inl (w, e, f) ↦ inr (ap (writes i) e ∙ w, ap (λ x. Register x j) (sym e) ∙ ap (Register r) (sym f))
      | inr (w, operand) ↦ inl (reads_operand i r pos (elim operand [ inl a ↦ inl a.0 | inr b ↦ inr b.0 ]))
    ]
link_reads i r k (Byte p j) pos link = inl (reads_operand i r pos (inr link.1))

-- no readers, no read, and nothing behind either unless it is overwritten
no_readers : (reads writes : Bool) (class : DeadClass) (rest : List DeadClass) → cond reads (class ∷ []) [] ++ cond writes [] rest ≡ [] → (reads ≡ false) × (writes ≡ false → rest ≡ [])
no_readers true writes class rest e = absurd (omega (arith, ap length e))
no_readers false true class rest e = (refl, λ f. absurd (false≢true (sym f)))
no_readers false false class rest e = (refl, λ f. e)

unread : (r k : ℕ) (later : List Retired) (classes : List DeadClass) → length classes ≡ length later → register_readers r later classes ≡ [] → IsNeeded later (Register r k) → ⊥
unfolding register_readers IsNeeded
unread r k [] classes l e n = n
unread r k (i ∷ later) [] l e n = absurd (omega arith)
unread r k (i ∷ later) (c ∷ classes) l e n =
    let parts = no_readers (reads i r) (writes i r) c (register_readers r later classes) e in
    let pos : 0 < r = n.0.0 in
    elim n.1 [
      | inl root ↦ false≢true (sym parts.0 ∙ root_reads i r k pos root)
      | inr (q, link, m) ↦
          elim (link_reads i r k q pos link) [
            | inl read ↦ false≢true (sym parts.0 ∙ read)
            | inr (kept, same) ↦ unread r k later classes (omega arith) (parts.1 kept) (subst (IsNeeded later) same m)
          ]
    ]

-- ---- what the class FddReg says

by_readers_unread : (unread dead : DeadClass) (classes : List DeadClass) → by_readers unread dead classes ≡ FddReg → dead ≢ FddReg → classes ≡ []
unfolding by_readers
by_readers_unread unread dead [] e n = refl
by_readers_unread unread dead (c ∷ classes) e n = absurd (go (some_needed (c ∷ classes)) e)
  where
    go : (t : Bool) → cond t Needed dead ≡ FddReg → ⊥
    go true f = let g : Needed ≡ FddReg = f in cc
    go false f = n f

memory_readers : (readers : List DeadClass) → by_readers FddMem TddMem readers ≡ FddReg → ⊥
unfolding by_readers
memory_readers [] e = cc
memory_readers (c ∷ readers) e = go (some_needed (c ∷ readers)) e
  where
    go : (t : Bool) → cond t Needed TddMem ≡ FddReg → ⊥
    go true f = let g : Needed ≡ FddReg = f in cc
    go false f = let g : TddMem ≡ FddReg = f in cc

stored_class_other : (store : Option (ℕ × ℕ × ℕ)) (later : List Retired) (classes : List DeadClass) → stored_class store later classes ≡ FddReg → ⊥
stored_class_other None later classes e = let g : Needed ≡ FddReg = e in cc
stored_class_other (Some store) later classes e = memory_readers (bytes_readers store.0 store.1 later classes) e

value_unread : (i : Retired) (write : Option (ℕ × ℕ)) (later : List Retired) (classes : List DeadClass) (r : ℕ) → value_class i write later classes ≡ FddReg → is_register write r ≡ true → register_readers r later classes ≡ []
value_unread i None later classes r e w = absurd (false≢true w)
value_unread i (Some write) later classes r e w =
    let same : r ≡ write.0 = grind (arith, nat_tests) in
    rw same (by_readers_unread FddReg TddReg (register_readers write.0 later classes) e (λ f. cc))

class_unread : (i : Retired) (later : List Retired) (classes : List DeadClass) (r : ℕ) → class_of i later classes ≡ FddReg → writes i r ≡ true → register_readers r later classes ≡ []
unfolding class_of
class_unread i later classes r e w = go (is_nop i) (may_die i) e
  where
    go : (nop die : Bool) → cond nop Nop (cond die (value_class i i.effect.write later classes) Needed) ≡ FddReg → register_readers r later classes ≡ []
    go true die f = absurd (let g : Nop ≡ FddReg = f in cc)
    go false false f = absurd (let g : Needed ≡ FddReg = f in cc)
    go false true f = value_unread i i.effect.write later classes r f w

class_at : (entries : List Retired) (i : ℕ) (entry : Retired) → slice_get entries i ≡ Some entry → slice_get (classes_of entries) i ≡ Some (class_of entry (drop (i + 1) entries) (classes_of (drop (i + 1) entries)))
unfolding classes_of
class_at [] i entry e = absurd (let g : None ≡ Some entry = e in cc)
class_at (x ∷ later) zero entry e = let g : Some x ≡ Some entry = e in cc
class_at (x ∷ later) (suc i) entry e = let m : suc i + 1 ≡ suc (i + 1) = omega arith in rw m (class_at later i entry e)

pub unread_is_unneeded : (entries : List Retired) (needs : Needs) → IsNeedOf entries needs → UnreadIsUnneeded entries needs
unread_is_unneeded entries needs is i r k entry found class written pos below bit =
    let later : List Retired = drop (i + 1) entries in
    let made : Some (class_of entry later (classes_of later)) ≡ Some FddReg = sym (class_at entries i entry found) ∙ class in
    let judged : class_of entry later (classes_of later) ≡ FddReg = cc in
    let none : register_readers r later (classes_of later) ≡ [] = class_unread entry later (classes_of later) r judged written in
    elim (cases_eq (bit_at (reg_need needs r (i + 1)) k) 1) [
      | inl one ↦ absurd (unread r k later (classes_of later) (classes-length later) none ((is.register r k (i + 1) pos below bit).0 one))
      | inr other ↦ omega (arith, bit_at-lt (reg_need needs r (i + 1)) k)
    ]
