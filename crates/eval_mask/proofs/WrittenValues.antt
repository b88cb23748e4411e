-- Other values in place of those that EX/MEM and MEM/WB write, and what a completed ID/EX makes of them.
use Rattle.std.proofs.Common.{◌≡◌, ◌↔◌, ◌⊎◌, ℕ, Bool, true, false, refl, sym, ◌∙◌, ap, subst, arith, inl, inr}
use Rattle.std.specs.Prelude.{◌==◌, ◌&&◌, ◌||◌, not, is_none, IsTrue, Option, Some, None, slice_index, if◌then◌else◌}
use Rattle.std.proofs.lemmas.Bool.Decides.{nat_tests}
use Rattle.avf_base.specs.declared.end.End.{End}
use Rattle.elf_load.specs.Image.{LoadedImage}
use Rattle.rv_table.specs.Actions.{is_clocked}
use Rattle.rv_table.specs.Operations.{operation_of}
use Rattle.rv_table.specs.declared.action.Action.{Action}
use Rattle.rv_table.specs.declared.operation.Operation.{Operation}
use Rattle.rv_table.specs.declared.operation.Operation.TheVariants.{Alu, AluImmediate}
use Rattle.rv_isa.specs.Architecture.{ArchState, state_of}
use Rattle.rv_isa.specs.Instruction.{end_of}
use Rattle.pipe_latch.specs.LatchedActions.{action_of}
use Rattle.pipe_latch.specs.Latches.{DecodedLatch, ExecutedLatch, ResultLatch, op_of_latch}
use Rattle.need_pass.specs.Tables.{Needs}
use Rattle.eval_mask.specs.Aftermaths.{aftermath_of, change_of, doing_after, doing_of, doing_with, is_completed, left_by, no_change, operand_after, plain_doing, written}
use Rattle.eval_mask.specs.Cases.{AgreesWithOwn, IsCase}
use Rattle.eval_mask.specs.LatchMasks.{base_of, reads_clock}
use Rattle.eval_mask.specs.WrittenValues.{SameValues, is_taken, left_below, left_first, operand_given, plain_by, plain_value, with_value, with_values}
use Rattle.eval_mask.specs.declared.cases.Case.{Case}
use Rattle.eval_mask.specs.declared.completing.Aftermath.{Aftermath}
use Rattle.eval_mask.specs.declared.completing.Change.{Change}
use Rattle.eval_mask.specs.declared.completing.Doing.{Doing}
use Rattle.eval_mask.specs.declared.completing.Write.{Write}
use Rattle.eval_mask.proofs.Completed.{alu_doing, doing_told, immediate_doing}
use Rattle.eval_mask.proofs.Doings.{own_is, own_left}
use Rattle.eval_mask.proofs.LastingValues.{above_needed, below_needed, first_needed, values_agree}
use Rattle.eval_mask.proofs.Masked.{IsAskedOf, masked_exactly, masked_never, no_both}
use Rattle.eval_mask.proofs.Moved.{same_store_left}
use Rattle.eval_mask.proofs.ReadInputs.{own_doing}
use Rattle.eval_mask.proofs.OwnChange.{own_below, own_write, write_of_change}

-- ---- with other values

pub values_exactly : (needs : Needs) (arch : ArchState) (w : ResultLatch) (m : ExecutedLatch) (d : DecodedLatch) (case : Case) (x y z : ℕ) (r : Bool) (left : Aftermath)
    → IsCase needs arch w m d case → IsTrue r ↔ SameValues case x y z → left ≡ with_values case.own x y z → IsTrue r ↔ AgreesWithOwn needs arch case left
values_exactly needs arch w m d case x y z r left is same e =
    let f = written case.oldest (slice_index arch.registers) in
    let memory = (state_of arch).memory in
    subst (λ (o : Aftermath). IsTrue r ↔ AgreesWithOwn needs arch case o) (sym e) (
      λ t.
          let s = same.0 t in
          values_agree needs case.first_after f memory case.own case.lasting x y z is.lasting s.first s.below s.above,
      λ a.
          same.1
          (record {
            first = first_needed needs case.first_after f memory case.own case.lasting x y z is.lasting a;
            below = below_needed needs case.first_after f memory case.own case.lasting x y z is.lasting a;
            above = above_needed needs case.first_after f memory case.own case.lasting x y z is.lasting a;
          }),
    )

-- ---- what ID/EX does

or_zero : Option ℕ → ℕ
or_zero (Some x) = x
or_zero None = 0

plain_with : (image : LoadedImage) (d : DecodedLatch) (x a held z : ℕ) (o : Operation) → operation_of d.op ≡ o → plain_by o a held d.imm ≡ Some z
    → doing_with image d x a held ≡ plain_doing d z
unfolding or_zero
plain_with image d x a held z (AluImmediate kind) e p = sym (immediate_doing image d x a held kind e) ∙ ap (λ (v : Option ℕ). plain_doing d (or_zero v)) p
plain_with image d x a held z (Alu kind) e p = sym (alu_doing image d x a held kind e) ∙ ap (λ (v : Option ℕ). plain_doing d (or_zero v)) p
plain_with image d x a held z _ e p = absurd (grind arith)

plain_again : (o : Operation) (a held b other immediate z : ℕ) → plain_by o a held immediate ≡ Some z → (y : ℕ) × (plain_by o b other immediate ≡ Some y)
plain_again (AluImmediate kind) a held b other immediate z p = (_, refl)
plain_again (Alu kind) a held b other immediate z p = (_, refl)
plain_again _ a held b other immediate z p = absurd (grind arith)

plain_own : (needs : Needs) (arch : ArchState) (w : ResultLatch) (m : ExecutedLatch) (d : DecodedLatch) (case : Case) (a held z : ℕ) → IsCase needs arch w m d case
    → plain_value d a held ≡ Some z → (y : ℕ) × (case.doing ≡ plain_doing d y)
plain_own needs arch w m d case a held z is p =
    let again = plain_again (operation_of d.op) a held case.a case.held d.imm z p in
    (again.0, own_doing needs arch w m d case is ∙ plain_with arch.image d case.issued case.a case.held (again.0) (operation_of d.op) refl (again.1))

-- where ID/EX is completed and where it isn't
pub by_reached : (t : Bool) (P : Type 0) → (t ≡ true → P) → (t ≡ false → P) → P
by_reached true P here there = here refl
by_reached false P here there = there refl

-- ---- another value of EX/MEM

not_given_a : (below : Write) (value : ℕ) (w : ResultLatch) (rs held : ℕ) (reached other : Bool) → reached ≡ true
    → (reached && (not (below.rd == 0) && (rs == below.rd || other))) ≡ false
    → operand_after (record below { value = value }) w rs held ≡ operand_after below w rs held
not_given_a below value w rs held reached other e f = grind (arith, nat_tests)

not_given_b : (below : Write) (value : ℕ) (w : ResultLatch) (rs held : ℕ) (reached other : Bool) → reached ≡ true
    → (reached && (not (below.rd == 0) && (other || rs == below.rd))) ≡ false
    → operand_after (record below { value = value }) w rs held ≡ operand_after below w rs held
not_given_b below value w rs held reached other e f = grind (arith, nat_tests)

untaken_doing : (needs : Needs) (arch : ArchState) (w : ResultLatch) (m : ExecutedLatch) (d : DecodedLatch) (case : Case) (value : ℕ) → IsCase needs arch w m d case
    → case.reached ≡ true → is_taken case d case.own.below.write.rd ≡ false
    → doing_after arch.image w d (record case.own.below.write { value = value }) case.issued ≡ case.doing
untaken_doing needs arch w m d case value is on free =
    let below = case.own.below.write in
    ap (λ (v : ℕ). doing_with arch.image d case.issued v (operand_after (record below { value = value }) w d.rs2 d.b))
    (not_given_a below value w d.rs1 d.a case.reached (d.rs2 == below.rd) on free ∙ sym is.a)
    ∙ ap (λ (v : ℕ). doing_with arch.image d case.issued case.a v)
    (not_given_b below value w d.rs2 d.b case.reached (d.rs1 == below.rd) on free ∙ sym is.held)
    ∙ sym (own_doing needs arch w m d case is)

below_untaken : (needs : Needs) (arch : ArchState) (w : ResultLatch) (m : ExecutedLatch) (d : DecodedLatch) (case : Case) (value : ℕ) → IsCase needs arch w m d case
    → is_taken case d case.own.below.write.rd ≡ false
    → left_below arch.image w d (state_of arch).memory case value ≡ with_values case.own case.own.first.value value case.own.above.write.value
below_untaken needs arch w m d case value is free =
    let image = arch.image in
    let memory = (state_of arch).memory in
    let below = with_value case.own.below value in
    let all : Bool → Aftermath =
    λ t. if t then left_by image case.own.first below (doing_after image w d below.write case.issued) memory else record case.own { below = below } in
    by_reached case.reached _
    (λ on.
    ap all on
    ∙ ap (λ (z : Doing). left_by image case.own.first below z memory) (untaken_doing needs arch w m d case value is on free)
    ∙ sym (same_store_left image case.own below case.doing memory refl (own_left needs arch w m d case is on)))
    (λ off. ap all off)

given_a : (below : Write) (value : ℕ) (w : ResultLatch) (rs held : ℕ) (reached other : Bool)
    → (reached && (not (below.rd == 0) && other)) ≡ true
    → operand_after (record below { value = value }) w rs held ≡ operand_given rs below.rd value (operand_after below w rs held)
given_a below value w rs held reached other e = grind (arith, nat_tests)

reached_of : (reached other : Bool) → (reached && other) ≡ true → reached ≡ true
reached_of true other e = refl
reached_of false other e = absurd (grind arith)

taken_left : (image : LoadedImage) (first : Write) (below : Change) (d : DecodedLatch) (value z y : ℕ) (memory : ℕ → ℕ) (own : Aftermath)
    → own ≡ left_by image first below (plain_doing d y) memory
    → left_by image own.first (with_value own.below value) (plain_doing d z) memory ≡ with_values own own.first.value value z
unfolding left_by change_of
taken_left image first below d value z y memory own e = rw e refl

below_taken : (needs : Needs) (arch : ArchState) (w : ResultLatch) (m : ExecutedLatch) (d : DecodedLatch) (case : Case) (value z : ℕ) → IsCase needs arch w m d case
    → is_taken case d case.own.below.write.rd ≡ true
    → plain_value d (operand_given d.rs1 case.own.below.write.rd value case.a) (operand_given d.rs2 case.own.below.write.rd value case.held) ≡ Some z
    → left_below arch.image w d (state_of arch).memory case value ≡ with_values case.own case.own.first.value value z
below_taken needs arch w m d case value z is taken p =
    let image = arch.image in
    let memory = (state_of arch).memory in
    let write = case.own.below.write in
    let below = with_value case.own.below value in
    let other = d.rs1 == write.rd || d.rs2 == write.rd in
    let on = reached_of case.reached _ taken in
    let own = plain_own needs arch w m d case _ _ z is p in
    let all : Bool → Aftermath =
    λ t. if t then left_by image case.own.first below (doing_after image w d below.write case.issued) memory else record case.own { below = below } in
    let a : operand_after (record write { value = value }) w d.rs1 d.a ≡ operand_given d.rs1 write.rd value case.a =
    given_a write value w d.rs1 d.a case.reached other taken ∙ ap (λ (v : ℕ). operand_given d.rs1 write.rd value v) (sym is.a) in
    let held : operand_after (record write { value = value }) w d.rs2 d.b ≡ operand_given d.rs2 write.rd value case.held =
    given_a write value w d.rs2 d.b case.reached other taken ∙ ap (λ (v : ℕ). operand_given d.rs2 write.rd value v) (sym is.held) in
    let does : doing_after image w d (record write { value = value }) case.issued ≡ plain_doing d z =
    ap (λ (v : ℕ). doing_with image d case.issued v (operand_after (record write { value = value }) w d.rs2 d.b)) a
    ∙ ap (λ (v : ℕ). doing_with image d case.issued (operand_given d.rs1 write.rd value case.a) v) held
    ∙ plain_with image d case.issued _ _ z (operation_of d.op) refl p in
    ap all on
    ∙ ap (λ (x : Doing). left_by image case.own.first below x memory) does
    ∙ taken_left image _ _ d value z (own.0) memory case.own
    (own_is needs arch w m d case is on
    ∙ ap (λ (x : Doing). left_by image (record { rd = w.rd; value = w.value }) (change_of image (action_of m) memory) x memory) (own.1))

pub below_free : (needs : Needs) (arch : ArchState) (w : ResultLatch) (m : ExecutedLatch) (d : DecodedLatch) (case : Case) (value : ℕ) (r : Bool) → IsCase needs arch w m d case
    → is_taken case d case.own.below.write.rd ≡ false → IsTrue r ↔ SameValues case case.own.first.value value case.own.above.write.value
    → IsTrue r ↔ AgreesWithOwn needs arch case (left_below arch.image w d (state_of arch).memory case value)
below_free needs arch w m d case value r is free same =
    values_exactly needs arch w m d case _ _ _ r _ is same (below_untaken needs arch w m d case value is free)

pub below_given : (needs : Needs) (arch : ArchState) (w : ResultLatch) (m : ExecutedLatch) (d : DecodedLatch) (case : Case) (value z : ℕ) (r : Bool) → IsCase needs arch w m d case
    → is_taken case d case.own.below.write.rd ≡ true
    → plain_value d (operand_given d.rs1 case.own.below.write.rd value case.a) (operand_given d.rs2 case.own.below.write.rd value case.held) ≡ Some z
    → IsTrue r ↔ SameValues case case.own.first.value value z
    → IsTrue r ↔ AgreesWithOwn needs arch case (left_below arch.image w d (state_of arch).memory case value)
below_given needs arch w m d case value z r is taken p same =
    values_exactly needs arch w m d case _ _ _ r _ is same (below_taken needs arch w m d case value z is taken p)

-- ---- another value of MEM/WB

first_if : (t : Bool) (x y : Aftermath) (first : Write) → x.first ≡ first → y.first ≡ first → (if t then x else y).first ≡ first
first_if true x y first e f = e
first_if false x y first e f = f

pub own_first : (needs : Needs) (arch : ArchState) (w : ResultLatch) (m : ExecutedLatch) (d : DecodedLatch) (case : Case) → IsCase needs arch w m d case
    → case.own.first ≡ record { rd = w.rd; value = w.value }
unfolding aftermath_of left_by
own_first needs arch w m d case is =
    ap (λ (o : Aftermath). o.first) is.outcome ∙ first_if (is_completed m d case.npc) _ _ (record { rd = w.rd; value = w.value }) refl refl

-- the register is written again, or ID/EX takes it for no operand
same_first_a : (below : Write) (w other : ResultLatch) (rs held : ℕ) (reached o : Bool) → reached ≡ true → other.rd ≡ w.rd
    → (w.rd ≡ below.rd) ⊎ ((reached && (not (w.rd == 0) && (rs == w.rd || o))) ≡ false)
    → operand_after below other rs held ≡ operand_after below w rs held
same_first_a below w other rs held reached o on e (inl f) = grind (arith, nat_tests)
same_first_a below w other rs held reached o on e (inr f) = grind (arith, nat_tests)

same_first_b : (below : Write) (w other : ResultLatch) (rs held : ℕ) (reached o : Bool) → reached ≡ true → other.rd ≡ w.rd
    → (w.rd ≡ below.rd) ⊎ ((reached && (not (w.rd == 0) && (o || rs == w.rd))) ≡ false)
    → operand_after below other rs held ≡ operand_after below w rs held
same_first_b below w other rs held reached o on e (inl f) = grind (arith, nat_tests)
same_first_b below w other rs held reached o on e (inr f) = grind (arith, nat_tests)

free_doing : (needs : Needs) (arch : ArchState) (w other : ResultLatch) (m : ExecutedLatch) (d : DecodedLatch) (case : Case) → IsCase needs arch w m d case
    → case.reached ≡ true → other.rd ≡ w.rd → (w.rd ≡ case.own.below.write.rd) ⊎ (is_taken case d w.rd ≡ false)
    → doing_after arch.image other d case.own.below.write case.issued ≡ case.doing
free_doing needs arch w other m d case is on e free =
    let below = case.own.below.write in
    ap (λ (v : ℕ). doing_with arch.image d case.issued v (operand_after below other d.rs2 d.b))
    (same_first_a below w other d.rs1 d.a case.reached (d.rs2 == w.rd) on e free ∙ sym is.a)
    ∙ ap (λ (v : ℕ). doing_with arch.image d case.issued case.a v)
    (same_first_b below w other d.rs2 d.b case.reached (d.rs1 == w.rd) on e free ∙ sym is.held)
    ∙ sym (own_doing needs arch w m d case is)

first_left : (image : LoadedImage) (rd v u : ℕ) (below : Change) (doing : Doing) (memory : ℕ → ℕ) (own : Aftermath)
    → own ≡ left_by image (record { rd = rd; value = u }) below doing memory
    → left_by image (record { rd = rd; value = v }) own.below doing memory ≡ with_values own v own.below.write.value own.above.write.value
unfolding left_by
first_left image rd v u below doing memory own e = rw e refl

first_kept : (own : Aftermath) (rd v u : ℕ) → own.first ≡ record { rd = rd; value = u }
    → (record own { first = record { rd = rd; value = v } }) ≡ with_values own v own.below.write.value own.above.write.value
first_kept own rd v u e = ap (λ (f : Write). record own { first = record f { value = v } }) (sym e)

first_untaken : (needs : Needs) (arch : ArchState) (w other : ResultLatch) (m : ExecutedLatch) (d : DecodedLatch) (case : Case) → IsCase needs arch w m d case
    → other.rd ≡ w.rd → (w.rd ≡ case.own.below.write.rd) ⊎ (is_taken case d w.rd ≡ false)
    → left_first arch.image other d (state_of arch).memory case ≡ with_values case.own other.value case.own.below.write.value case.own.above.write.value
first_untaken needs arch w other m d case is e free =
    let image = arch.image in
    let memory = (state_of arch).memory in
    let all : Bool → Aftermath =
    λ t.
    if t
    then left_by image (record { rd = other.rd; value = other.value }) case.own.below (doing_after image other d case.own.below.write case.issued) memory
    else record case.own { first = record { rd = other.rd; value = other.value } } in
    by_reached case.reached _
    (λ on.
    ap all on
    ∙ ap (λ (x : Doing). left_by image (record { rd = other.rd; value = other.value }) case.own.below x memory) (free_doing needs arch w other m d case is on e free)
    ∙ ap (λ (rd : ℕ). left_by image (record { rd = rd; value = other.value }) case.own.below case.doing memory) e
    ∙ first_left image w.rd other.value w.value _ case.doing memory case.own (own_is needs arch w m d case is on))
    (λ off.
    ap all off
    ∙ ap (λ (rd : ℕ). record case.own { first = record { rd = rd; value = other.value } }) e
    ∙ first_kept case.own w.rd other.value w.value (own_first needs arch w m d case is))

given_first : (below : Write) (w other : ResultLatch) (rs held : ℕ) (reached o : Bool) → other.rd ≡ w.rd → (w.rd ≡ below.rd → ⊥)
    → (reached && (not (w.rd == 0) && o)) ≡ true
    → operand_after below other rs held ≡ operand_given rs w.rd other.value (operand_after below w rs held)
given_first below w other rs held reached o e n t = grind (arith, nat_tests)

first_taken_left : (image : LoadedImage) (rd v u : ℕ) (below : Change) (d : DecodedLatch) (z y : ℕ) (memory : ℕ → ℕ) (own : Aftermath)
    → own ≡ left_by image (record { rd = rd; value = u }) below (plain_doing d y) memory
    → left_by image (record { rd = rd; value = v }) own.below (plain_doing d z) memory ≡ with_values own v own.below.write.value z
unfolding left_by change_of
first_taken_left image rd v u below d z y memory own e = rw e refl

first_taken : (needs : Needs) (arch : ArchState) (w other : ResultLatch) (m : ExecutedLatch) (d : DecodedLatch) (case : Case) (z : ℕ) → IsCase needs arch w m d case
    → other.rd ≡ w.rd → (w.rd ≡ case.own.below.write.rd → ⊥) → is_taken case d w.rd ≡ true
    → plain_value d (operand_given d.rs1 w.rd other.value case.a) (operand_given d.rs2 w.rd other.value case.held) ≡ Some z
    → left_first arch.image other d (state_of arch).memory case ≡ with_values case.own other.value case.own.below.write.value z
first_taken needs arch w other m d case z is e n taken p =
    let image = arch.image in
    let memory = (state_of arch).memory in
    let below = case.own.below.write in
    let o = d.rs1 == w.rd || d.rs2 == w.rd in
    let on = reached_of case.reached _ taken in
    let own = plain_own needs arch w m d case _ _ z is p in
    let all : Bool → Aftermath =
    λ t.
    if t
    then left_by image (record { rd = other.rd; value = other.value }) case.own.below (doing_after image other d case.own.below.write case.issued) memory
    else record case.own { first = record { rd = other.rd; value = other.value } } in
    let a : operand_after below other d.rs1 d.a ≡ operand_given d.rs1 w.rd other.value case.a =
    given_first below w other d.rs1 d.a case.reached o e n taken ∙ ap (λ (v : ℕ). operand_given d.rs1 w.rd other.value v) (sym is.a) in
    let held : operand_after below other d.rs2 d.b ≡ operand_given d.rs2 w.rd other.value case.held =
    given_first below w other d.rs2 d.b case.reached o e n taken ∙ ap (λ (v : ℕ). operand_given d.rs2 w.rd other.value v) (sym is.held) in
    let does : doing_after image other d below case.issued ≡ plain_doing d z =
    ap (λ (v : ℕ). doing_with image d case.issued v (operand_after below other d.rs2 d.b)) a
    ∙ ap (λ (v : ℕ). doing_with image d case.issued (operand_given d.rs1 w.rd other.value case.a) v) held
    ∙ plain_with image d case.issued _ _ z (operation_of d.op) refl p in
    ap all on
    ∙ ap (λ (x : Doing). left_by image (record { rd = other.rd; value = other.value }) case.own.below x memory) does
    ∙ ap (λ (rd : ℕ). left_by image (record { rd = rd; value = other.value }) case.own.below (plain_doing d z) memory) e
    ∙ first_taken_left image w.rd other.value w.value _ d z (own.0) memory case.own
    (own_is needs arch w m d case is on
    ∙ ap (λ (x : Doing). left_by image (record { rd = w.rd; value = w.value }) (change_of image (action_of m) memory) x memory) (own.1))

pub first_free : (needs : Needs) (arch : ArchState) (w other : ResultLatch) (m : ExecutedLatch) (d : DecodedLatch) (case : Case) (r : Bool) → IsCase needs arch w m d case
    → other.rd ≡ w.rd → (w.rd ≡ case.own.below.write.rd) ⊎ (is_taken case d w.rd ≡ false)
    → IsTrue r ↔ SameValues case other.value case.own.below.write.value case.own.above.write.value
    → IsTrue r ↔ AgreesWithOwn needs arch case (left_first arch.image other d (state_of arch).memory case)
first_free needs arch w other m d case r is e free same =
    values_exactly needs arch w m d case _ _ _ r _ is same (first_untaken needs arch w other m d case is e free)

pub first_given : (needs : Needs) (arch : ArchState) (w other : ResultLatch) (m : ExecutedLatch) (d : DecodedLatch) (case : Case) (z : ℕ) (r : Bool) → IsCase needs arch w m d case
    → other.rd ≡ w.rd → (w.rd ≡ case.own.below.write.rd → ⊥) → is_taken case d w.rd ≡ true
    → plain_value d (operand_given d.rs1 w.rd other.value case.a) (operand_given d.rs2 w.rd other.value case.held) ≡ Some z
    → IsTrue r ↔ SameValues case other.value case.own.below.write.value z
    → IsTrue r ↔ AgreesWithOwn needs arch case (left_first arch.image other d (state_of arch).memory case)
first_given needs arch w other m d case z r is e n taken p same =
    values_exactly needs arch w m d case _ _ _ r _ is same (first_taken needs arch w other m d case z is e n taken p)

-- ---- the outcome with another value

record IsOther (image : LoadedImage) (memory : ℕ → ℕ) (case : Case) (n : ExecutedLatch) (below : Change) (value : ℕ) : Type 0 where
  change : below ≡ change_of image (action_of n) memory
  other : below ≡ with_value case.own.below value

end_is : (image : LoadedImage) (done : Action) (memory : ℕ → ℕ) (below : Change) → below ≡ change_of image done memory → end_of done ≡ below.end
unfolding change_of
end_is image done memory below e = rw e refl

same_end : (needs : Needs) (arch : ArchState) (w : ResultLatch) (m n : ExecutedLatch) (d : DecodedLatch) (case : Case) (below : Change) (value : ℕ)
    → IsCase needs arch w m d case → IsOther arch.image (state_of arch).memory case n below value → end_of (action_of n) ≡ end_of (action_of m)
same_end needs arch w m n d case below value is o =
    end_is arch.image (action_of n) (state_of arch).memory below o.change
    ∙ ap (λ (c : Change). c.end) o.other
    ∙ sym (end_is arch.image (action_of m) (state_of arch).memory case.own.below (own_below needs arch w m d case is))

same_completed : (needs : Needs) (arch : ArchState) (w : ResultLatch) (m n : ExecutedLatch) (d : DecodedLatch) (case : Case) (below : Change) (value : ℕ)
    → IsCase needs arch w m d case → IsOther arch.image (state_of arch).memory case n below value → is_completed n d case.npc ≡ case.reached
same_completed needs arch w m n d case below value is o =
    ap (λ (end : Option End). d.valid && (is_none end && d.pc == case.npc)) (same_end needs arch w m n d case below value is o) ∙ sym is.reached

pub stopped_if : (t : Bool) (image : LoadedImage) (first : Write) (below : Change) (doing : Doing) (memory : ℕ → ℕ) (npc : ℕ) (end : Option End) (own : Aftermath) (change : Change)
    → t ≡ false → own ≡ (if t then left_by image first below doing memory else record { first = first; below = below; above = no_change; pc = npc; end = end })
    → (record own { below = change }) ≡ record { first = first; below = change; above = no_change; pc = npc; end = end }
stopped_if true image first below doing memory npc end own change t e = absurd (no_both true refl t)
stopped_if false image first below doing memory npc end own change t e = rw e refl

below_is : (needs : Needs) (arch : ArchState) (w : ResultLatch) (m n : ExecutedLatch) (d : DecodedLatch) (case : Case) (below : Change) (value : ℕ)
    → IsCase needs arch w m d case → IsOther arch.image (state_of arch).memory case n below value
    → left_below arch.image w d (state_of arch).memory case value ≡ aftermath_of arch.image w n d (state_of arch).memory case.npc case.issued
unfolding aftermath_of
below_is needs arch w m n d case below value is o =
    let image = arch.image in
    let memory = (state_of arch).memory in
    let held : Write = record { rd = w.rd; value = w.value } in
    let change = with_value case.own.below value in
    let same : change ≡ change_of image (action_of n) memory = sym o.other ∙ o.change in
    let all : Bool → Aftermath =
    λ t. if t then left_by image case.own.first change (doing_after image w d change.write case.issued) memory else record case.own { below = change } in
    let theirs : Bool → Aftermath =
    λ t.
    if t
    then left_by image held (change_of image (action_of n) memory) (doing_of image w n d memory case.issued) memory
    else record { first = held; below = change_of image (action_of n) memory; above = no_change; pc = case.npc; end = end_of (action_of n) } in
    by_reached case.reached _
    (λ on.
    ap all on
    ∙ ap (λ (x : Doing). left_by image case.own.first change x memory)
    (doing_told image w n d memory change.write case.issued (write_of_change image (action_of n) memory change same))
    ∙ ap (λ (x : Write). left_by image x change (doing_of image w n d memory case.issued) memory) (own_first needs arch w m d case is)
    ∙ ap (λ (x : Change). left_by image held x (doing_of image w n d memory case.issued) memory) same
    ∙ sym (ap theirs (same_completed needs arch w m n d case below value is o ∙ on)))
    (λ off.
    ap all off
    ∙ stopped_if (is_completed m d case.npc) image held (change_of image (action_of m) memory) (doing_of image w m d memory case.issued) memory case.npc
    (end_of (action_of m)) case.own change (sym is.reached ∙ off) is.outcome
    ∙ ap (λ (x : Change). record { first = held; below = x; above = no_change; pc = case.npc; end = end_of (action_of m) }) same
    ∙ ap (λ (x : Option End). record { first = held; below = change_of image (action_of n) memory; above = no_change; pc = case.npc; end = x })
    (sym (same_end needs arch w m n d case below value is o))
    ∙ sym (ap theirs (same_completed needs arch w m n d case below value is o ∙ off)))

pub clock_by : (arch : ArchState) (w : ResultLatch) (m n : ExecutedLatch) (d : DecodedLatch) (rd old npc x : ℕ) → is_completed n d npc ≡ is_completed m d npc
    → reads_clock arch.image (record { w = w; m = n; d = d }) (base_of arch rd old npc x)
    ≡ reads_clock arch.image (record { w = w; m = m; d = d }) (base_of arch rd old npc x)
unfolding reads_clock
clock_by arch w m n d rd old npc x e = ap (λ (t : Bool). t && is_clocked (op_of_latch d)) e

pub below_asked : (needs : Needs) (arch : ArchState) (w : ResultLatch) (m n : ExecutedLatch) (d : DecodedLatch) (case : Case) (below : Change) (value : ℕ) (r : Bool)
    → IsCase needs arch w m d case → below ≡ change_of arch.image (action_of n) (state_of arch).memory → below ≡ with_value case.own.below value
    → case.reads_clock ≡ false → IsTrue r ↔ AgreesWithOwn needs arch case (left_below arch.image w d (state_of arch).memory case value)
    → IsTrue r ↔ IsAskedOf needs arch case (record { w = w; m = m; d = d }) (record { w = w; m = n; d = d })
below_asked needs arch w m n d case below value r is change other unread h =
    let o : IsOther arch.image (state_of arch).memory case n below value = record { change = change; other = other } in
    masked_exactly needs case.first_after arch case.oldest.rd case.oldest.value case.npc case.issued (record { w = w; m = m; d = d })
    (record { w = w; m = n; d = d }) case.own r is.outcome
    (clock_by arch w m n d case.oldest.rd case.oldest.value case.npc case.issued (same_completed needs arch w m n d case below value is o ∙ is.reached)
    ∙ sym is.clock
    ∙ unread)
    (subst (λ (x : Aftermath). IsTrue r ↔ AgreesWithOwn needs arch case x) (below_is needs arch w m n d case below value is o) h)

stopped_first : (t : Bool) (image : LoadedImage) (first other : Write) (below : Change) (doing : Doing) (memory : ℕ → ℕ) (npc : ℕ) (end : Option End) (own : Aftermath)
    → t ≡ false → own ≡ (if t then left_by image first below doing memory else record { first = first; below = below; above = no_change; pc = npc; end = end })
    → (record own { first = other }) ≡ record { first = other; below = below; above = no_change; pc = npc; end = end }
stopped_first true image first other below doing memory npc end own t e = absurd (no_both true refl t)
stopped_first false image first other below doing memory npc end own t e = rw e refl

first_is : (needs : Needs) (arch : ArchState) (w other : ResultLatch) (m : ExecutedLatch) (d : DecodedLatch) (case : Case) → IsCase needs arch w m d case
    → left_first arch.image other d (state_of arch).memory case ≡ aftermath_of arch.image other m d (state_of arch).memory case.npc case.issued
unfolding aftermath_of
first_is needs arch w other m d case is =
    let image = arch.image in
    let memory = (state_of arch).memory in
    let held : Write = record { rd = w.rd; value = w.value } in
    let given : Write = record { rd = other.rd; value = other.value } in
    let all : Bool → Aftermath =
    λ t. if t then left_by image given case.own.below (doing_after image other d case.own.below.write case.issued) memory else record case.own { first = given } in
    let theirs : Bool → Aftermath =
    λ t.
    if t
    then left_by image given (change_of image (action_of m) memory) (doing_of image other m d memory case.issued) memory
    else record { first = given; below = change_of image (action_of m) memory; above = no_change; pc = case.npc; end = end_of (action_of m) } in
    by_reached case.reached _
    (λ on.
    ap all on
    ∙ ap (λ (x : Doing). left_by image given case.own.below x memory)
    (doing_told image other m d memory case.own.below.write case.issued (own_write needs arch w m d case is))
    ∙ ap (λ (x : Change). left_by image given x (doing_of image other m d memory case.issued) memory) (own_below needs arch w m d case is)
    ∙ sym (ap theirs (sym is.reached ∙ on)))
    (λ off.
    ap all off
    ∙ stopped_first (is_completed m d case.npc) image held given (change_of image (action_of m) memory) (doing_of image w m d memory case.issued) memory case.npc
    (end_of (action_of m)) case.own (sym is.reached ∙ off) is.outcome
    ∙ sym (ap theirs (sym is.reached ∙ off)))

clock_with : (arch : ArchState) (w other : ResultLatch) (m : ExecutedLatch) (d : DecodedLatch) (rd old npc x : ℕ)
    → reads_clock arch.image (record { w = other; m = m; d = d }) (base_of arch rd old npc x)
    ≡ reads_clock arch.image (record { w = w; m = m; d = d }) (base_of arch rd old npc x)
unfolding reads_clock
clock_with arch w other m d rd old npc x = refl

pub first_asked : (needs : Needs) (arch : ArchState) (w other : ResultLatch) (m : ExecutedLatch) (d : DecodedLatch) (case : Case) (r : Bool)
    → IsCase needs arch w m d case → case.reads_clock ≡ false
    → IsTrue r ↔ AgreesWithOwn needs arch case (left_first arch.image other d (state_of arch).memory case)
    → IsTrue r ↔ IsAskedOf needs arch case (record { w = w; m = m; d = d }) (record { w = other; m = m; d = d })
first_asked needs arch w other m d case r is unread h =
    masked_exactly needs case.first_after arch case.oldest.rd case.oldest.value case.npc case.issued (record { w = w; m = m; d = d })
    (record { w = other; m = m; d = d }) case.own r is.outcome
    (clock_with arch w other m d case.oldest.rd case.oldest.value case.npc case.issued ∙ sym is.clock ∙ unread)
    (subst (λ (x : Aftermath). IsTrue r ↔ AgreesWithOwn needs arch case x) (first_is needs arch w other m d case is) h)

pub below_never : (needs : Needs) (arch : ArchState) (w : ResultLatch) (m n : ExecutedLatch) (d : DecodedLatch) (case : Case) (below : Change) (value : ℕ)
    → IsCase needs arch w m d case → below ≡ change_of arch.image (action_of n) (state_of arch).memory → below ≡ with_value case.own.below value
    → case.reads_clock ≡ true → IsTrue false ↔ IsAskedOf needs arch case (record { w = w; m = m; d = d }) (record { w = w; m = n; d = d })
below_never needs arch w m n d case below value is change other reads =
    let o : IsOther arch.image (state_of arch).memory case n below value = record { change = change; other = other } in
    masked_never needs case.first_after arch case.oldest.rd case.oldest.value case.npc case.issued (record { w = w; m = m; d = d })
    (record { w = w; m = n; d = d })
    (clock_by arch w m n d case.oldest.rd case.oldest.value case.npc case.issued (same_completed needs arch w m n d case below value is o ∙ is.reached)
    ∙ sym is.clock
    ∙ reads)
