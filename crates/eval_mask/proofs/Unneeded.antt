-- Doings of ID/EX that store or write, where what ID/EX changes isn't needed; and doings that write the same register.
use Rattle.std.proofs.Common.{◌≡◌, ◌↔◌, ℕ, Bool, true, refl, sym, ◌∙◌, ap, subst, arith, inl, inr}
use Rattle.std.proofs.lemmas.Bool.{cases_eq}
use Rattle.std.specs.Prelude.{[], IsTrue, Option, None, slice_index}
use Rattle.std.proofs.lemmas.Bool.Decides.{nat_tests}
use Rattle.elf_load.specs.Image.{LoadedImage}
use Rattle.rv_table.specs.Effects.{byte_put, written_register}
use Rattle.rv_table.specs.declared.action.Action.{Action}
use Rattle.rv_table.specs.declared.action.Action.TheVariants.{Nothing, Writes, Loads, Stores, Puts, Exits, Traps}
use Rattle.rv_isa.specs.Architecture.{ArchState, state_of}
use Rattle.rv_isa.specs.Instruction.{State, end_of, given, with_byte}
use Rattle.need_pass.specs.Tables.{Needs, byte_need, reg_need}
use Rattle.eval_mask.specs.Aftermaths.{change_of, left_by, no_change, state_after, store_by, stored_over, written}
use Rattle.eval_mask.specs.Agreement.{Agree}
use Rattle.eval_mask.specs.Compared.{SameByte, SameBytes, SameCovered, SameRegister, SameRegisters, SameWhere, covers, need_at}
use Rattle.eval_mask.specs.OtherDoings.{DoesAlike, GoesAlike, IsIdle, is_given}
use Rattle.eval_mask.specs.Unread.{is_store}
use Rattle.eval_mask.specs.declared.cases.Case.{Case}
use Rattle.eval_mask.specs.declared.completing.Aftermath.{Aftermath}
use Rattle.eval_mask.specs.declared.completing.Change.{Change}
use Rattle.eval_mask.specs.declared.completing.Doing.{Doing}
use Rattle.eval_mask.specs.declared.completing.Store.{Store}
use Rattle.eval_mask.specs.declared.completing.Write.{Write}
use Rattle.eval_mask.proofs.Agreeing.{agree_by, agree_next}
use Rattle.eval_mask.proofs.Differences.{chained, if_or, same_all, uncovered, unwritten}
use Rattle.eval_mask.proofs.Doings.{writes_agree}

-- ---- agreement goes over

turned : (needs : Needs) (j : ℕ) (a b : State) → Agree needs j a b → Agree needs j b a
turned needs j a b h = record {
  output = sym h.output;
  stop = sym h.stop;
  next = λ none. let n = h.next (h.stop ∙ none) in (sym n.0, record { same = λ p is one. sym (n.1.same p is one) });
}

goes_over : (needs : Needs) (j : ℕ) (a b c : State) → Agree needs j a b → Agree needs j b c → Agree needs j a c
goes_over needs j a b c g h = record {
  output = g.output ∙ h.output;
  stop = g.stop ∙ h.stop;
  next =
      λ none.
      let m = g.next none in
      let n = h.next (sym g.stop ∙ none) in (m.0 ∙ n.0, record { same = λ p is one. m.1.same p is one ∙ n.1.same p is one });
}

-- ---- stores

store_puts : (done : Action) → is_store done ≡ true → byte_put done ≡ None
store_puts (Stores kind x y) e = refl
store_puts Nothing e = refl
store_puts (Writes rd v) e = refl
store_puts (Loads kind rd x) e = refl
store_puts (Puts v) e = absurd (grind arith)
store_puts (Exits v) e = refl
store_puts (Traps cause) e = refl

store_writes : (done : Action) → is_store done ≡ true → written_register done ≡ 0
store_writes (Stores kind x y) e = refl
store_writes Nothing e = refl
store_writes (Writes rd v) e = absurd (grind arith)
store_writes (Loads kind rd x) e = absurd (grind arith)
store_writes (Puts v) e = refl
store_writes (Exits v) e = refl
store_writes (Traps cause) e = refl

store_ends : (done : Action) → is_store done ≡ true → end_of done ≡ None
store_ends (Stores kind x y) e = refl
store_ends Nothing e = refl
store_ends (Writes rd v) e = refl
store_ends (Loads kind rd x) e = refl
store_ends (Puts v) e = refl
store_ends (Exits v) e = absurd (grind arith)
store_ends (Traps cause) e = absurd (grind arith)

no_write : (w : Write) (f : ℕ → ℕ) (r : ℕ) → w.rd ≡ 0 → written w f r ≡ f r
no_write w f r e = grind (arith, nat_tests)

kept_registers : (needs : Needs) (j : ℕ) (g : ℕ → ℕ) (w : Write) → w.rd ≡ 0 → SameRegisters needs j (written w g) g
kept_registers needs j g w e = record {
  same = λ r. record { same = λ above below. same_all 32 (reg_need needs r j) (written w g r) (g r) (no_write w g r e) };
}

kept_bytes : (needs : Needs) (j : ℕ) (m : ℕ → ℕ) (store : Option Store) → SameCovered needs j (stored_over store m) m store
    → SameBytes needs j (stored_over store m) m
kept_bytes needs j m store s = record {
  same =
      λ p.
      if_or (SameByte needs j (stored_over store m) m p) (covers store p) (s.same p)
      (λ c. record { same = λ l. same_all 8 (byte_need needs p j) (stored_over store m p) (m p) (uncovered store m p c) });
}

pub idle_store : (needs : Needs) (arch : ArchState) (case : Case) (doing : Doing) (r : Bool) → IsIdle needs arch case → GoesAlike case doing
    → is_store doing.action ≡ true
    → IsTrue r ↔ SameCovered needs case.first_after (stored_over (store_by arch.image doing.action) (stored_over case.own.below.store (state_of arch).memory)) (stored_over case.own.below.store (state_of arch).memory) (store_by arch.image doing.action)
    → IsTrue r ↔ DoesAlike needs arch case doing
unfolding left_by change_of
idle_store needs arch case doing r idle goes is h =
    let f = written case.oldest (slice_index arch.registers) in
    let m = (state_of arch).memory in
    let j = case.first_after in
    let left : Aftermath = left_by arch.image case.own.first case.own.below doing m in
    let bare : Aftermath = record case.own { above = no_change } in
    let under = stored_over case.own.below.store m in (
      λ t.
          goes_over needs j (state_after left f m) (state_after bare f m) (state_after case.own f m)
          (agree_by needs j f m left bare
          (ap (with_byte (with_byte [] case.own.below.put)) (store_puts doing.action is)) goes.end
          (λ none.
          record {
            pc = goes.next none;
            written = kept_registers needs j (written case.own.below.write (written case.own.first f)) left.above.write (store_writes doing.action is);
            stored = kept_bytes needs j under (store_by arch.image doing.action) (h.0 t);
          })) idle,
      λ a.
          h.1
          (record {
            same =
                λ p c.
                (agree_next needs j f m left bare
                (goes_over needs j (state_after left f m) (state_after case.own f m) (state_after bare f m) a
                (turned needs j (state_after bare f m) (state_after case.own f m) idle))
                (store_ends doing.action is)).stored.same p;
          }),
    )

-- ---- writes where the own one isn't needed

given_ends : (done : Action) → is_given done ≡ true → end_of done ≡ None
given_ends (Writes rd v) e = refl
given_ends (Loads kind rd x) e = refl
given_ends Nothing e = refl
given_ends (Stores kind x y) e = refl
given_ends (Puts v) e = refl
given_ends (Exits v) e = absurd (grind arith)
given_ends (Traps cause) e = absurd (grind arith)

given_puts : (done : Action) → is_given done ≡ true → byte_put done ≡ None
given_puts (Writes rd v) e = refl
given_puts (Loads kind rd x) e = refl
given_puts Nothing e = refl
given_puts (Stores kind x y) e = refl
given_puts (Puts v) e = absurd (grind arith)
given_puts (Exits v) e = refl
given_puts (Traps cause) e = refl

given_stores : (image : LoadedImage) (done : Action) → is_given done ≡ true → store_by image done ≡ None
given_stores image (Writes rd v) e = refl
given_stores image (Loads kind rd x) e = refl
given_stores image Nothing e = refl
given_stores image (Stores kind x y) e = absurd (grind arith)
given_stores image (Puts v) e = refl
given_stores image (Exits v) e = refl
given_stores image (Traps cause) e = refl

written_registers : (needs : Needs) (j : ℕ) (g : ℕ → ℕ) (w : Write) → SameRegister needs j (written w g) g w.rd → SameRegisters needs j (written w g) g
written_registers needs j g w s = record {
  same =
      λ r.
      elim (cases_eq r w.rd) [
        | inl e ↦ subst (λ (q : ℕ). SameRegister needs j (written w g) g q) (sym e) s
        | inr ne ↦ record { same = λ above below. same_all 32 (reg_need needs r j) (written w g r) (g r) (unwritten w g r ne) }
      ];
}

no_bytes : (needs : Needs) (j : ℕ) (m : ℕ → ℕ) (store : Option Store) → store ≡ None → SameBytes needs j (stored_over store m) m
no_bytes needs j m store e =
    subst (λ (s : Option Store). SameBytes needs j (stored_over s m) m) (sym e)
    (record { same = λ p. record { same = λ l. same_all 8 (byte_need needs p j) (m p) (m p) refl } })

pub idle_write : (needs : Needs) (arch : ArchState) (case : Case) (doing : Doing) (r : Bool) → IsIdle needs arch case → GoesAlike case doing
    → is_given doing.action ≡ true
    → IsTrue r ↔ SameRegister needs case.first_after (written (record { rd = written_register doing.action; value = given arch.image doing.action (stored_over case.own.below.store (state_of arch).memory) }) (written case.own.below.write (written case.own.first (written case.oldest (slice_index arch.registers))))) (written case.own.below.write (written case.own.first (written case.oldest (slice_index arch.registers)))) (written_register doing.action)
    → IsTrue r ↔ DoesAlike needs arch case doing
unfolding left_by change_of
idle_write needs arch case doing r idle goes is h =
    let f = written case.oldest (slice_index arch.registers) in
    let m = (state_of arch).memory in
    let j = case.first_after in
    let left : Aftermath = left_by arch.image case.own.first case.own.below doing m in
    let bare : Aftermath = record case.own { above = no_change } in
    let under = stored_over case.own.below.store m in
    let g = written case.own.below.write (written case.own.first f) in (
      λ t.
          goes_over needs j (state_after left f m) (state_after bare f m) (state_after case.own f m)
          (agree_by needs j f m left bare
          (ap (with_byte (with_byte [] case.own.below.put)) (given_puts doing.action is)) goes.end
          (λ none.
          record {
            pc = goes.next none;
            written = written_registers needs j g left.above.write (h.0 t);
            stored = no_bytes needs j under (store_by arch.image doing.action) (given_stores arch.image doing.action is);
          })) idle,
      λ a.
          h.1
          ((agree_next needs j f m left bare
          (goes_over needs j (state_after left f m) (state_after case.own f m) (state_after bare f m) a
          (turned needs j (state_after bare f m) (state_after case.own f m) idle))
          (given_ends doing.action is)).written.same (written_register doing.action)),
    )

-- ---- writes of the same register

as_write : (image : LoadedImage) (first : Write) (below : Change) (done : Action) (next : ℕ) (memory : ℕ → ℕ) → is_given done ≡ true
    → left_by image first below (record { action = done; next = next }) memory
    ≡ left_by image first below (record { action = Writes (written_register done) (given image done (stored_over below.store memory)); next = next }) memory
unfolding left_by change_of
as_write image first below (Writes rd v) next memory e = refl
as_write image first below (Loads kind rd x) next memory e = refl
as_write image first below Nothing next memory e = absurd (grind arith)
as_write image first below (Stores kind x y) next memory e = absurd (grind arith)
as_write image first below (Puts v) next memory e = absurd (grind arith)
as_write image first below (Exits v) next memory e = absurd (grind arith)
as_write image first below (Traps cause) next memory e = absurd (grind arith)

own_write_is : (image : LoadedImage) (first : Write) (below : Change) (doing : Doing) (memory : ℕ → ℕ) (own : Aftermath)
    → own ≡ left_by image first below doing memory
    → (own.above.write.rd ≡ written_register doing.action) × (own.above.write.value ≡ given image doing.action (stored_over below.store memory)) × (own.pc ≡ doing.next)
unfolding left_by change_of
own_write_is image first below doing memory own e = rw e (refl, refl, refl)

pub given_alike : (needs : Needs) (arch : ArchState) (case : Case) (doing : Doing) (r : Bool)
    → case.own ≡ left_by arch.image case.own.first case.own.below case.doing (state_of arch).memory
    → case.known.above.mask ≡ need_at needs case.own.above.write.rd case.first_after → GoesAlike case doing
    → is_given doing.action ≡ true → is_given case.doing.action ≡ true → written_register doing.action ≡ case.own.above.write.rd
    → IsTrue r ↔ SameWhere 32 case.known.above.mask (given arch.image doing.action (stored_over case.own.below.store (state_of arch).memory)) case.own.above.write.value
    → IsTrue r ↔ DoesAlike needs arch case doing
given_alike needs arch case doing r own need goes mine theirs same h =
    let image = arch.image in
    let m = (state_of arch).memory in
    let f = written case.oldest (slice_index arch.registers) in
    let j = case.first_after in
    let rd = case.own.above.write.rd in
    let x = given image doing.action (stored_over case.own.below.store m) in
    let y = case.own.above.write.value in
    let writes = λ (r v n : ℕ). left_by image case.own.first case.own.below (record { action = Writes r v; next = n }) m in
    let is = own_write_is image case.own.first case.own.below case.doing m case.own own in
    let left : left_by image case.own.first case.own.below doing m ≡ writes rd x case.own.pc =
    as_write image case.own.first case.own.below doing.action doing.next m mine
    ∙ ap (λ (r : ℕ). writes r x doing.next) same
    ∙ ap (writes rd x) (goes.next (given_ends doing.action mine)) in
    let self : case.own ≡ writes rd y case.own.pc =
    own
    ∙ as_write image case.own.first case.own.below case.doing.action case.doing.next m theirs
    ∙ ap (λ (r : ℕ). writes r (given image case.doing.action (stored_over case.own.below.store m)) case.doing.next) (sym is.0)
    ∙ ap (λ (v : ℕ). writes rd v case.doing.next) (sym is.1)
    ∙ ap (writes rd y) (sym is.2) in
    chained (subst (λ (n : ℕ). IsTrue r ↔ SameWhere 32 n x y) need h)
    (subst (λ (o : Aftermath). SameWhere 32 (need_at needs rd j) x y ↔ Agree needs j (state_after (left_by image case.own.first case.own.below doing m) f m) (state_after o f m)) (sym self)
    (subst (λ (l : Aftermath). SameWhere 32 (need_at needs rd j) x y ↔ Agree needs j (state_after l f m) (state_after (writes rd y case.own.pc) f m)) (sym left)
    (writes_agree image needs j f m case.own.first case.own.below rd x y case.own.pc)))
