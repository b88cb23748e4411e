-- Other doings of ID/EX, where it is completed: MEM/WB and EX/MEM leave what they leave.
use Rattle.std.proofs.Common.{◌≡◌, ◌↔◌, ℕ, ◌<◌, Bool, true, false, refl, sym, ◌∙◌, ap, subst, arith, inl, inr}
use Rattle.std.specs.Int.{bit_at}
use Rattle.std.specs.Prelude.{◌&&◌, IsTrue, slice_index}
use Rattle.std.proofs.lemmas.Bool.{cases_eq, cases_lt}
use Rattle.std.proofs.lemmas.Bool.Decides.{nat_tests}
use Rattle.std.proofs.lemmas.Nat.Bits.{bit_at-zero}
use Rattle.elf_load.specs.Image.{LoadedImage}
use Rattle.rv_table.specs.Actions.{is_clocked}
use Rattle.rv_table.specs.declared.action.Action.{Action}
use Rattle.rv_table.specs.declared.action.Action.TheVariants.{Writes}
use Rattle.rv_isa.specs.Architecture.{ArchState, state_of}
use Rattle.rv_isa.specs.Instruction.{State}
use Rattle.pipe_latch.specs.LatchedActions.{action_of}
use Rattle.pipe_latch.specs.Latches.{DecodedLatch, ExecutedLatch, ResultLatch, op_of_latch}
use Rattle.need_pass.specs.ProgramBits.{ProgramBit, Register, Byte, IsProgramBit, bit_of}
use Rattle.need_pass.specs.Tables.{Needs, reg_need}
use Rattle.eval_mask.specs.Aftermaths.{aftermath_of, change_of, doing_of, is_completed, left_by, state_after, written}
use Rattle.eval_mask.specs.Agreement.{Agree, IsNeeded, SameNeeded}
use Rattle.eval_mask.specs.Cases.{AgreesWithOwn, IsCase, WriteBoth}
use Rattle.eval_mask.specs.Compared.{SameWhere, need_at}
use Rattle.eval_mask.specs.LatchMasks.{base_of, reads_clock}
use Rattle.eval_mask.specs.declared.cases.Case.{Case}
use Rattle.eval_mask.specs.declared.completing.Aftermath.{Aftermath}
use Rattle.eval_mask.specs.declared.completing.Change.{Change}
use Rattle.eval_mask.specs.declared.completing.Doing.{Doing}
use Rattle.eval_mask.specs.declared.completing.Write.{Write}
use Rattle.eval_mask.proofs.Differences.{chained, need_inside}
use Rattle.eval_mask.proofs.Masked.{IsAskedOf, masked_exactly, masked_never}

-- ---- where it is completed

pub reached_is : (image : LoadedImage) (w : ResultLatch) (m : ExecutedLatch) (d : DecodedLatch) (memory : ℕ → ℕ) (npc x : ℕ) → is_completed m d npc ≡ true
    → aftermath_of image w m d memory npc x
    ≡ left_by image (record { rd = w.rd; value = w.value }) (change_of image (action_of m) memory) (doing_of image w m d memory x) memory
unfolding aftermath_of
reached_is image w m d memory npc x e = rw e refl

pub own_is : (needs : Needs) (arch : ArchState) (w : ResultLatch) (m : ExecutedLatch) (d : DecodedLatch) (case : Case) → IsCase needs arch w m d case → case.reached ≡ true
    → case.own ≡ left_by arch.image (record { rd = w.rd; value = w.value }) (change_of arch.image (action_of m) (state_of arch).memory) case.doing (state_of arch).memory
own_is needs arch w m d case is on =
    is.outcome
    ∙ reached_is arch.image w m d (state_of arch).memory case.npc case.issued (sym is.reached ∙ on)
    ∙ ap (λ (doing : Doing). left_by arch.image (record { rd = w.rd; value = w.value }) (change_of arch.image (action_of m) (state_of arch).memory) doing (state_of arch).memory) (sym is.doing)

pub left_again : (image : LoadedImage) (first : Write) (below : Change) (doing other : Doing) (memory : ℕ → ℕ) (own : Aftermath) → own ≡ left_by image first below doing memory
    → left_by image own.first own.below other memory ≡ left_by image first below other memory
unfolding left_by
left_again image first below doing other memory own e = rw e refl

pub own_left : (needs : Needs) (arch : ArchState) (w : ResultLatch) (m : ExecutedLatch) (d : DecodedLatch) (case : Case) → IsCase needs arch w m d case → case.reached ≡ true
    → case.own ≡ left_by arch.image case.own.first case.own.below case.doing (state_of arch).memory
own_left needs arch w m d case is on =
    let e = own_is needs arch w m d case is on in
    e ∙ sym (left_again arch.image _ _ case.doing case.doing (state_of arch).memory case.own e)

pub completed_same : (m : ExecutedLatch) (d other : DecodedLatch) (npc : ℕ) → other.valid ≡ d.valid → other.pc ≡ d.pc → is_completed m other npc ≡ is_completed m d npc
completed_same m d other npc e f = rw (e, f) refl

pub clock_is : (arch : ArchState) (w : ResultLatch) (m : ExecutedLatch) (d : DecodedLatch) (rd old npc x : ℕ) → is_completed m d npc ≡ true
    → reads_clock arch.image (record { w = w; m = m; d = d }) (base_of arch rd old npc x) ≡ is_clocked (op_of_latch d)
unfolding reads_clock
clock_is arch w m d rd old npc x e = ap (λ (t : Bool). t && is_clocked (op_of_latch d)) e

pub doing_exactly : (needs : Needs) (arch : ArchState) (w : ResultLatch) (m : ExecutedLatch) (d other : DecodedLatch) (case : Case) (r : Bool)
    → IsCase needs arch w m d case → case.reached ≡ true → (other.valid ≡ d.valid) × (other.pc ≡ d.pc) → is_clocked (op_of_latch other) ≡ false
    → IsTrue r ↔ AgreesWithOwn needs arch case (left_by arch.image case.own.first case.own.below (doing_of arch.image w m other (state_of arch).memory case.issued) (state_of arch).memory)
    → IsTrue r ↔ IsAskedOf needs arch case (record { w = w; m = m; d = d }) (record { w = w; m = m; d = other })
doing_exactly needs arch w m d other case r is on same unread h =
    let reached = completed_same m d other case.npc (same.0) (same.1) ∙ sym is.reached ∙ on in
    let left =
    left_again arch.image _ _ case.doing (doing_of arch.image w m other (state_of arch).memory case.issued) (state_of arch).memory case.own (own_is needs arch w m d case is on)
    ∙ sym (reached_is arch.image w m other (state_of arch).memory case.npc case.issued reached) in
    masked_exactly needs case.first_after arch case.oldest.rd case.oldest.value case.npc case.issued (record { w = w; m = m; d = d })
    (record { w = w; m = m; d = other }) case.own r is.outcome
    (clock_is arch w m other case.oldest.rd case.oldest.value case.npc case.issued reached ∙ unread)
    (subst (λ (x : Aftermath). IsTrue r ↔ AgreesWithOwn needs arch case x) left h)

pub doing_never : (needs : Needs) (arch : ArchState) (w : ResultLatch) (m : ExecutedLatch) (d other : DecodedLatch) (case : Case)
    → IsCase needs arch w m d case → case.reached ≡ true → (other.valid ≡ d.valid) × (other.pc ≡ d.pc) → is_clocked (op_of_latch other) ≡ true
    → IsTrue false ↔ IsAskedOf needs arch case (record { w = w; m = m; d = d }) (record { w = w; m = m; d = other })
doing_never needs arch w m d other case is on same reads =
    let reached = completed_same m d other case.npc (same.0) (same.1) ∙ sym is.reached ∙ on in
    masked_never needs case.first_after arch case.oldest.rd case.oldest.value case.npc case.issued (record { w = w; m = m; d = d })
    (record { w = w; m = m; d = other })
    (clock_is arch w m other case.oldest.rd case.oldest.value case.npc case.issued reached ∙ reads)

-- ---- doings that are the same, and writes of the same register

pub agrees_itself : (needs : Needs) (arch : ArchState) (case : Case) (left : Aftermath) → left ≡ case.own → AgreesWithOwn needs arch case left
agrees_itself needs arch case left e = rw e (record { output = refl; stop = refl; next = λ none. (refl, record { same = λ p is need. refl }) })

abbrev doing : Action → ℕ → Doing
doing action next = record { action = action; next = next }

same_doing : (a b : Doing) → a.action ≡ b.action → a.next ≡ b.next → a ≡ b
same_doing a b e f = ap (λ (x : Action). doing x a.next) e ∙ ap (λ (n : ℕ). doing b.action n) f

pub alike_same : (needs : Needs) (arch : ArchState) (case : Case) (doing : Doing)
    → case.own ≡ left_by arch.image case.own.first case.own.below case.doing (state_of arch).memory → doing.action ≡ case.doing.action → doing.next ≡ case.doing.next
    → IsTrue true ↔ AgreesWithOwn needs arch case (left_by arch.image case.own.first case.own.below doing (state_of arch).memory)
alike_same needs arch case doing own e f =
    let same =
    ap (λ (x : Doing). left_by arch.image case.own.first case.own.below x (state_of arch).memory) (same_doing doing case.doing e f) ∙ sym own in
    (λ t. agrees_itself needs arch case _ same, λ a. refl)

need_outside : (needs : Needs) (r j : ℕ) → ((0 < r) × (r < 32) → ⊥) → need_at needs r j ≡ 0
need_outside needs r j h = grind (arith, nat_tests)

pub unwritten : (rd v : ℕ) (f : ℕ → ℕ) (r : ℕ) → (r ≡ rd → ⊥) → written (record { rd = rd; value = v }) f r ≡ f r
unwritten rd v f r ne = grind (arith, nat_tests)

pub written_here : (rd v : ℕ) (f : ℕ → ℕ) → 0 < rd → written (record { rd = rd; value = v }) f rd ≡ v
written_here rd v f h = grind (arith, nat_tests)

bit_here : (needs : Needs) (j rd x y : ℕ) (g : ℕ → ℕ) (k : ℕ) → SameWhere 32 (need_at needs rd j) x y → 0 < rd → rd < 32 → k < 32
    → bit_at (reg_need needs rd j) k ≡ 1
    → bit_at (written (record { rd = rd; value = x }) g rd) k ≡ bit_at (written (record { rd = rd; value = y }) g rd) k
bit_here needs j rd x y g k s above below l one =
    ap (λ (v : ℕ). bit_at v k) (written_here rd x g above)
    ∙ s.same k l (ap (λ (v : ℕ). bit_at v k) (need_inside needs rd j above below) ∙ one)
    ∙ sym (ap (λ (v : ℕ). bit_at v k) (written_here rd y g above))

bit_there : (needs : Needs) (j rd x y : ℕ) (g : ℕ → ℕ) (r k : ℕ) → SameWhere 32 (need_at needs rd j) x y → 0 < r → r < 32 → k < 32
    → bit_at (reg_need needs r j) k ≡ 1
    → bit_at (written (record { rd = rd; value = x }) g r) k ≡ bit_at (written (record { rd = rd; value = y }) g r) k
bit_there needs j rd x y g r k s above below l one =
    elim (cases_eq r rd) [
      | inl e ↦
          subst (λ (q : ℕ). bit_at (written (record { rd = rd; value = x }) g q) k ≡ bit_at (written (record { rd = rd; value = y }) g q) k) (sym e)
          (bit_here needs j rd x y g k s (subst (λ (q : ℕ). 0 < q) e above) (subst (λ (q : ℕ). q < 32) e below) l
          (subst (λ (q : ℕ). bit_at (reg_need needs q j) k ≡ 1) e one))
      | inr ne ↦ ap (λ (v : ℕ). bit_at v k) (unwritten rd x g r ne ∙ sym (unwritten rd y g r ne))
    ]

write_bits : (needs : Needs) (j rd x y : ℕ) (g : ℕ → ℕ) (a b : State) → a.registers ≡ written (record { rd = rd; value = x }) g
    → b.registers ≡ written (record { rd = rd; value = y }) g → a.memory ≡ b.memory → SameWhere 32 (need_at needs rd j) x y
    → (p : ProgramBit) → IsProgramBit p → IsNeeded needs j p → bit_of a p ≡ bit_of b p
write_bits needs j rd x y g a b e f m s (Register r k) is one =
    ap (λ (h : ℕ → ℕ). bit_at (h r) k) e
    ∙ bit_there needs j rd x y g r k s (is.0) (is.1) (is.2) one
    ∙ sym (ap (λ (h : ℕ → ℕ). bit_at (h r) k) f)
write_bits needs j rd x y g a b e f m s (Byte p k) is one = ap (λ (h : ℕ → ℕ). bit_at (h p) k) m

value_bits : (needs : Needs) (j rd x y : ℕ) (g : ℕ → ℕ) (a b : State) → a.registers ≡ written (record { rd = rd; value = x }) g
    → b.registers ≡ written (record { rd = rd; value = y }) g → SameNeeded needs j a b → (k : ℕ) → k < 32 → bit_at (need_at needs rd j) k ≡ 1
    → bit_at x k ≡ bit_at y k
value_bits needs j rd x y g a b e f s k l one =
    elim (cases_lt 0 rd) [
      | inl above ↦
          elim (cases_lt rd 32) [
            | inl below ↦
                let same = s.same (Register rd k) (above, below, l) (sym (ap (λ (v : ℕ). bit_at v k) (need_inside needs rd j above below)) ∙ one) in
                ap (λ (v : ℕ). bit_at v k) (sym (written_here rd x g above) ∙ sym (ap (λ (h : ℕ → ℕ). h rd) e))
                ∙ same
                ∙ ap (λ (v : ℕ). bit_at v k) (ap (λ (h : ℕ → ℕ). h rd) f ∙ written_here rd y g above)
            | inr out ↦ absurd (none_there (λ both. omega (arith, both.1)))
          ]
      | inr out ↦ absurd (none_there (λ both. omega (arith, both.0)))
    ]
  where
    none_there : ((0 < rd) × (rd < 32) → ⊥) → ⊥
    none_there never = let zero_mask = need_outside needs rd j never in
        let bit : bit_at (need_at needs rd j) k ≡ 0 = ap (λ (v : ℕ). bit_at v k) zero_mask ∙ bit_at-zero k in
        omega (arith, bit, one)

pub writes_agree : (image : LoadedImage) (needs : Needs) (j : ℕ) (f memory : ℕ → ℕ) (first : Write) (below : Change) (rd x y next : ℕ)
    → SameWhere 32 (need_at needs rd j) x y ↔ Agree needs j (state_after (left_by image first below (record { action = Writes rd x; next = next }) memory) f memory) (state_after (left_by image first below (record { action = Writes rd y; next = next }) memory) f memory)
unfolding left_by change_of
writes_agree image needs j f memory first below rd x y next =
    let g = written below.write (written first f) in
    let a = state_after (left_by image first below (record { action = Writes rd x; next = next }) memory) f memory in
    let b = state_after (left_by image first below (record { action = Writes rd y; next = next }) memory) f memory in (
      λ s. record { output = refl; stop = refl; next = λ none. (refl, record { same = write_bits needs j rd x y g a b refl refl refl s }) },
      λ t. record { same = value_bits needs j rd x y g a b refl refl ((t.next refl).1) },
    )

above_of : (image : LoadedImage) (first : Write) (below : Change) (rd y next : ℕ) (memory : ℕ → ℕ) (own : Aftermath)
    → own ≡ left_by image first below (record { action = Writes rd y; next = next }) memory → own.above.write.rd ≡ rd
unfolding left_by change_of
above_of image first below rd y next memory own e = rw e refl

pub alike_written : (needs : Needs) (arch : ArchState) (case : Case) (doing : Doing) (rd x y : ℕ) (r : Bool)
    → case.own ≡ left_by arch.image case.own.first case.own.below case.doing (state_of arch).memory
    → case.known.above.mask ≡ need_at needs case.own.above.write.rd case.first_after → doing.next ≡ case.doing.next
    → WriteBoth rd doing.action case.doing.action x y → IsTrue r ↔ SameWhere 32 case.known.above.mask x y
    → IsTrue r ↔ AgreesWithOwn needs arch case (left_by arch.image case.own.first case.own.below doing (state_of arch).memory)
alike_written needs arch case doing rd x y r own need next both h =
    let image = arch.image in
    let memory = (state_of arch).memory in
    let registers = written case.oldest (slice_index arch.registers) in
    let theirs : doing ≡ (record { action = Writes rd x; next = case.doing.next }) = same_doing doing (record { action = Writes rd x; next = case.doing.next }) both.first next in
    let mine : case.own ≡ left_by image case.own.first case.own.below (record { action = Writes rd y; next = case.doing.next }) memory =
    own
    ∙ ap (λ (z : Doing). left_by image case.own.first case.own.below z memory)
    (same_doing case.doing (record { action = Writes rd y; next = case.doing.next }) both.second refl) in
    let same_need : case.known.above.mask ≡ need_at needs rd case.first_after =
    need ∙ ap (λ (q : ℕ). need_at needs q case.first_after) (above_of image case.own.first case.own.below rd y case.doing.next memory case.own mine) in
    chained (subst (λ (n : ℕ). IsTrue r ↔ SameWhere 32 n x y) same_need h)
    (subst (λ (o : Aftermath). SameWhere 32 (need_at needs rd case.first_after) x y ↔ Agree needs case.first_after (state_after (left_by image case.own.first case.own.below doing memory) registers memory) (state_after o registers memory)) (sym mine)
    (subst (λ (z : Doing). SameWhere 32 (need_at needs rd case.first_after) x y ↔ Agree needs case.first_after (state_after (left_by image case.own.first case.own.below z memory) registers memory) (state_after (left_by image case.own.first case.own.below (record { action = Writes rd y; next = case.doing.next }) memory) registers memory)) (sym theirs)
    (writes_agree image needs case.first_after registers memory case.own.first case.own.below rd x y case.doing.next)))
