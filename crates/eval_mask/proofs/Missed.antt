-- Doings of ID/EX that can't leave the same: they part from the latches as they are, or miss what these need.
use Rattle.std.proofs.Common.{◌≡◌, ◌↔◌, ℕ, ◌/◌, Bool, true, false, refl, sym, ◌∙◌, ap, subst, arith, inl, inr}
use Rattle.std.specs.Prelude.{IsTrue, Option, Some, None, [], if◌then◌else◌, slice_index}
use Rattle.std.proofs.lemmas.Bool.{cases_eq, eqb-true}
use Rattle.elf_load.specs.Image.{LoadedImage, word_in_ram}
use Rattle.rv_table.specs.Accesses.{accesses}
use Rattle.rv_table.specs.declared.action.Action.TheVariants.{Stores}
use Rattle.rv_table.specs.declared.operation.StoreKind.{StoreKind}
use Rattle.rv_table.specs.declared.operation.StoreKind.TheVariants.{Sb, Sh, Sw}
use Rattle.rv_isa.specs.Architecture.{ArchState, state_of}
use Rattle.rv_isa.specs.Instruction.{with_byte}
use Rattle.need_pass.specs.Tables.{Needs, byte_need, reg_need}
use Rattle.eval_mask.specs.Aftermaths.{change_of, left_by, no_change, store_by, stored_over, written}
use Rattle.eval_mask.specs.Compared.{SameByte, SameBytes, SameRegisters, SameWhere, covers}
use Rattle.eval_mask.specs.OtherDoings.{DoesAlike, GoesAlike, Misses, NeedsOwn}
use Rattle.eval_mask.specs.declared.cases.Case.{Case}
use Rattle.eval_mask.specs.declared.completing.Aftermath.{Aftermath}
use Rattle.eval_mask.specs.declared.completing.Doing.{Doing}
use Rattle.eval_mask.specs.declared.completing.Store.{Store}
use Rattle.eval_mask.specs.declared.completing.Write.{Write}
use Rattle.eval_mask.proofs.Agreeing.{agree_by, agree_next}
use Rattle.eval_mask.proofs.Masked.{no_both, not_true}
use Rattle.eval_mask.proofs.Differences.{if_or, same_all, uncovered, unwritten}

pub goes_with : (needs : Needs) (arch : ArchState) (case : Case) (doing : Doing) → DoesAlike needs arch case doing → GoesAlike case doing
unfolding left_by
goes_with needs arch case doing a = record { end = a.stop; next = λ none. (a.next none).0 }

pub parted_never : (needs : Needs) (arch : ArchState) (case : Case) (doing : Doing) (t : Bool) → IsTrue t ↔ GoesAlike case doing → t ≡ false
    → DoesAlike needs arch case doing → ⊥
parted_never needs arch case doing t same e a = no_both t (is_true t (same.1 (goes_with needs arch case doing a))) e
  where
    is_true : (b : Bool) → IsTrue b → b ≡ true
    is_true true h = refl
    is_true false h = absurd (not_true h)

-- ---- blocks in different words

pub word_of : (store : Store) (p : ℕ) → covers (Some store) p ≡ true → p / 4 ≡ store.address / 4
unfolding accesses
word_of store p c = by_kind store.kind c
  where
    by_kind : (kind : StoreKind) → covers (Some (record store { kind = kind })) p ≡ true → p / 4 ≡ store.address / 4
    by_kind Sb h = let e = eqb-true (p / 1) (store.address / 1) h in omega arith
    by_kind Sh h = let e = eqb-true (p / 2) (store.address / 2) h in omega arith
    by_kind Sw h = let e = eqb-true (p / 4) (store.address / 4) h in omega arith

-- where a store in RAM covers byte p, it is in the store's word
pub word_if : (t : Bool) (kind : StoreKind) (x y p : ℕ) → covers (if t then Some (record { kind = kind; address = x; value = y }) else None) p ≡ true → p / 4 ≡ x / 4
word_if true kind x y p c = word_of (record { kind = kind; address = x; value = y }) p c
word_if false kind x y p c = absurd (grind arith)

pub apart_stores : (store : Store) (kind : StoreKind) (x y : ℕ) → (x / 4 ≡ store.address / 4 → ⊥) → (image : LoadedImage) (p : ℕ)
    → covers (Some store) p ≡ true → covers (store_by image (Stores kind x y)) p ≡ true → ⊥
apart_stores store kind x y ne image p c d =
    ne (sym (word_if (word_in_ram image (x / 4)) kind x y p d) ∙ word_of store p c)

-- ---- what is needed is missed

missed_registers : (needs : Needs) (j : ℕ) (g : ℕ → ℕ) (own other : Write) → (own.rd ≡ other.rd → own.rd ≡ 0)
    → SameRegisters needs j (written other g) (written own g) → SameRegisters needs j g (written own g)
missed_registers needs j g own other misses s = record {
  same =
      λ r.
      elim (cases_eq r own.rd) [
        | inl e ↦
            record {
              same =
                  λ above below.
                  subst (λ (v : ℕ). SameWhere 32 (reg_need needs r j) v (written own g r))
                  (unwritten other g r (λ f. omega (arith, misses (sym e ∙ f), e, above))) ((s.same r).same above below);
            }
        | inr ne ↦ record { same = λ above below. same_all 32 (reg_need needs r j) (g r) (written own g r) (sym (unwritten own g r ne)) }
      ];
}

missed_bytes : (needs : Needs) (j : ℕ) (m : ℕ → ℕ) (own other : Option Store) → ((p : ℕ) → covers own p ≡ true → covers other p ≡ true → ⊥)
    → SameBytes needs j (stored_over other m) (stored_over own m) → SameBytes needs j m (stored_over own m)
missed_bytes needs j m own other misses s = record {
  same =
      λ p.
      if_or (SameByte needs j m (stored_over own m) p) (covers own p)
      (λ c.
      if_or (SameByte needs j m (stored_over own m) p) (covers other p) (λ d. absurd (misses p c d))
      (λ d.
      record {
        same = λ l. subst (λ (v : ℕ). SameWhere 8 (byte_need needs p j) v (stored_over own m p)) (uncovered other m p d) ((s.same p).same l);
      }))
      (λ c. record { same = λ l. same_all 8 (byte_need needs p j) (m p) (stored_over own m p) (sym (uncovered own m p c)) });
}

pub missed_never : (needs : Needs) (arch : ArchState) (case : Case) (doing : Doing) → NeedsOwn needs arch case → Misses case.own.above doing.action
    → DoesAlike needs arch case doing → ⊥
unfolding left_by change_of
missed_never needs arch case doing n misses a =
    let f = written case.oldest (slice_index arch.registers) in
    let m = (state_of arch).memory in
    let left : Aftermath = left_by arch.image case.own.first case.own.below doing m in
    let s = agree_next needs case.first_after f m left case.own a (a.stop ∙ n.goes_on) in
    n.needed
    (agree_by needs case.first_after f m (record case.own { above = no_change }) case.own
    (ap (with_byte (with_byte [] case.own.below.put)) (sym n.quiet)) refl
    (λ none.
    record {
      pc = refl;
      written = missed_registers needs case.first_after (written case.own.below.write (written case.own.first f)) case.own.above.write left.above.write misses.register s.written;
      stored = missed_bytes needs case.first_after (stored_over case.own.below.store m) case.own.above.store left.above.store (misses.bytes arch.image) s.stored;
    }))
