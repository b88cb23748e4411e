-- Bits of what a completed ID/EX reads.
use Rattle.std.proofs.Common.{◌≡◌, ◌↔◌, ℕ, ◌+◌, ◌-◌, ◌<◌, ◌≤◌, Bool, true, false, refl, sym, ◌∙◌, ap, subst, arith, inl, inr}
use Rattle.std.specs.Prelude.{◌*◌, IsTrue}
use Rattle.std.proofs.lemmas.Bool.{cases_lt}
use Rattle.elf_load.specs.Image.{LoadedImage}
use Rattle.rv_table.specs.Actions.{clock_test, is_clocked, next_word}
use Rattle.rv_table.specs.Arithmetic.{alu, sum32}
use Rattle.rv_table.specs.Operations.{operation_of}
use Rattle.rv_table.specs.declared.action.Action.TheVariants.{Writes}
use Rattle.rv_table.specs.declared.operation.AluKind.{AluKind}
use Rattle.rv_table.specs.declared.operation.Operation.TheVariants.{Alu, AluImmediate, Auipc, Lui}
use Rattle.rv_isa.specs.Architecture.{ArchState, state_of}
use Rattle.pipe_latch.specs.DecodedBits as decoded
use Rattle.pipe_latch.specs.Latches.{DecodedLatch, ExecutedLatch, ResultLatch, op_of_latch}
use Rattle.need_pass.specs.Tables.{Needs}
use Rattle.eval_mask.specs.Aftermaths.{change_of, doing_after, doing_with, left_by, operand_after, plain_doing}
use Rattle.eval_mask.specs.Cases.{IsCase}
use Rattle.eval_mask.specs.Compared.{SameWhere, need_at}
use Rattle.eval_mask.specs.LatchMasks.{IsDecodedMasked}
use Rattle.eval_mask.specs.OtherDoings.{DoesAlike, IsLike, first_bit}
use Rattle.eval_mask.specs.declared.cases.Case.{Case}
use Rattle.eval_mask.specs.declared.completing.Aftermath.{Aftermath}
use Rattle.eval_mask.specs.declared.completing.Change.{Change}
use Rattle.eval_mask.specs.declared.completing.Doing.{Doing}
use Rattle.eval_mask.specs.declared.completing.Write.{Write}
use Rattle.eval_mask.specs.declared.inputs.Input.{Input}
use Rattle.eval_mask.specs.declared.inputs.Input.TheVariants.{A, B, Immediate}
use Rattle.eval_mask.proofs.Completed.{alu_doing, auipc_doing, doing_told, immediate_doing, lui_doing}
use Rattle.eval_mask.proofs.Doings.{alike_written, clock_is, doing_exactly, own_left}
use Rattle.eval_mask.proofs.Fields.{a_flipped, b_flipped, decoded_inside, flip_keeps, immediate_flipped, rs1_flipped, rs2_flipped}
use Rattle.eval_mask.proofs.Masked.{decoded_exactly}
use Rattle.eval_mask.proofs.OwnChange.{own_write}

-- ---- instructions that write a value and go on

value_of : (image : LoadedImage) (first : Write) (below : Change) (doing : Doing) (rd y : ℕ) (memory : ℕ → ℕ) (own : Aftermath)
    → own ≡ left_by image first below doing memory → doing.action ≡ Writes rd y → own.above.write.value ≡ y
unfolding left_by change_of
value_of image first below doing rd y memory own e f = rw (e, f) refl

pub plain_alike : (needs : Needs) (arch : ArchState) (case : Case) (other : DecodedLatch) (a held v y : ℕ) (r : Bool) (like : IsLike arch case other)
    → case.known.above.mask ≡ need_at needs case.own.above.write.rd case.first_after
    → plain_doing like.d y ≡ doing_with arch.image like.d case.issued case.a case.held
    → plain_doing other v ≡ doing_with arch.image other case.issued a held
    → IsTrue r ↔ SameWhere 32 case.known.above.mask v case.own.above.write.value
    → IsTrue r ↔ DoesAlike needs arch case (doing_with arch.image other case.issued a held)
plain_alike needs arch case other a held v y r like need own theirs h =
    let mine : case.doing ≡ plain_doing like.d y = like.reached.doing ∙ sym own in
    let written : case.doing.action ≡ Writes like.d.rd y = ap (λ (z : Doing). z.action) mine in
    alike_written needs arch case (doing_with arch.image other case.issued a held) like.d.rd v y r like.reached.own need
    (ap (λ (z : Doing). z.next) (sym theirs) ∙ ap next_word like.pc ∙ ap (λ (z : Doing). z.next) (sym mine))
    (record { first = ap (λ (z : Doing). z.action) (sym theirs) ∙ ap (λ (rd : ℕ). Writes rd v) like.rd; second = written })
    (subst (λ (x : ℕ). IsTrue r ↔ SameWhere 32 case.known.above.mask v x)
    (value_of arch.image case.own.first case.own.below case.doing like.d.rd y (state_of arch).memory case.own like.reached.own written) h)

pub lui_alike : (needs : Needs) (arch : ArchState) (case : Case) (other : DecodedLatch) (a held : ℕ) (r : Bool)
    → IsLike arch case other → case.known.above.mask ≡ need_at needs case.own.above.write.rd case.first_after → operation_of other.op ≡ Lui
    → IsTrue r ↔ SameWhere 32 case.known.above.mask other.imm case.own.above.write.value
    → IsTrue r ↔ DoesAlike needs arch case (doing_with arch.image other case.issued a held)
lui_alike needs arch case other a held r like need e h =
    plain_alike needs arch case other a held other.imm like.d.imm r like need
    (lui_doing arch.image like.d case.issued case.a case.held (sym (ap operation_of like.op) ∙ e))
    (lui_doing arch.image other case.issued a held e) h

pub auipc_alike : (needs : Needs) (arch : ArchState) (case : Case) (other : DecodedLatch) (a held : ℕ) (r : Bool)
    → IsLike arch case other → case.known.above.mask ≡ need_at needs case.own.above.write.rd case.first_after → operation_of other.op ≡ Auipc
    → IsTrue r ↔ SameWhere 32 case.known.above.mask (sum32 (4 * other.pc) other.imm) case.own.above.write.value
    → IsTrue r ↔ DoesAlike needs arch case (doing_with arch.image other case.issued a held)
auipc_alike needs arch case other a held r like need e h =
    plain_alike needs arch case other a held (sum32 (4 * other.pc) other.imm) (sum32 (4 * like.d.pc) like.d.imm) r like need
    (auipc_doing arch.image like.d case.issued case.a case.held (sym (ap operation_of like.op) ∙ e))
    (auipc_doing arch.image other case.issued a held e) h

pub immediate_alike : (needs : Needs) (arch : ArchState) (case : Case) (other : DecodedLatch) (a held : ℕ) (kind : AluKind) (r : Bool)
    → IsLike arch case other → case.known.above.mask ≡ need_at needs case.own.above.write.rd case.first_after → operation_of other.op ≡ AluImmediate kind
    → IsTrue r ↔ SameWhere 32 case.known.above.mask (alu kind a other.imm) case.own.above.write.value
    → IsTrue r ↔ DoesAlike needs arch case (doing_with arch.image other case.issued a held)
immediate_alike needs arch case other a held kind r like need e h =
    plain_alike needs arch case other a held (alu kind a other.imm) (alu kind case.a like.d.imm) r like need
    (immediate_doing arch.image like.d case.issued case.a case.held kind (sym (ap operation_of like.op) ∙ e))
    (immediate_doing arch.image other case.issued a held kind e) h

pub alu_alike : (needs : Needs) (arch : ArchState) (case : Case) (other : DecodedLatch) (a held : ℕ) (kind : AluKind) (r : Bool)
    → IsLike arch case other → case.known.above.mask ≡ need_at needs case.own.above.write.rd case.first_after → operation_of other.op ≡ Alu kind
    → IsTrue r ↔ SameWhere 32 case.known.above.mask (alu kind a held) case.own.above.write.value
    → IsTrue r ↔ DoesAlike needs arch case (doing_with arch.image other case.issued a held)
alu_alike needs arch case other a held kind r like need e h =
    plain_alike needs arch case other a held (alu kind a held) (alu kind case.a case.held) r like need
    (alu_doing arch.image like.d case.issued case.a case.held kind (sym (ap operation_of like.op) ∙ e))
    (alu_doing arch.image other case.issued a held kind e) h

pub ruleset plain_alikes = (lui_alike, auipc_alike, immediate_alike, alu_alike)

-- ---- bits of the fields

pub own_doing : (needs : Needs) (arch : ArchState) (w : ResultLatch) (m : ExecutedLatch) (d : DecodedLatch) (case : Case) → IsCase needs arch w m d case
    → case.doing ≡ doing_with arch.image d case.issued case.a case.held
own_doing needs arch w m d case is =
    let own = case.own.below.write in
    is.doing
    ∙ sym (doing_told arch.image w m d (state_of arch).memory own case.issued (own_write needs arch w m d case is))
    ∙ ap (λ (x : ℕ). doing_with arch.image d case.issued x (operand_after own w d.rs2 d.b)) (sym is.a)
    ∙ ap (λ (x : ℕ). doing_with arch.image d case.issued case.a x) (sym is.held)

unfoldable pub like_of : (needs : Needs) (arch : ArchState) (w : ResultLatch) (m : ExecutedLatch) (d other : DecodedLatch) (case : Case) → IsCase needs arch w m d case
    → case.reached ≡ true → other.op ≡ d.op → other.rd ≡ d.rd → other.pc ≡ d.pc → IsLike arch case other
like_of needs arch w m d other case is on op rd pc = record {
  d = d;
  reached = record { doing = own_doing needs arch w m d case is; own = own_left needs arch w m d case is on };
  op = op;
  rd = rd;
  pc = pc;
}

same_clock : (d other : DecodedLatch) → other.op ≡ d.op → is_clocked (op_of_latch other) ≡ is_clocked (op_of_latch d)
unfolding is_clocked
same_clock d other e = ap (λ (code : ℕ). clock_test (operation_of code)) e

pub input_exactly : (needs : Needs) (arch : ArchState) (w : ResultLatch) (m : ExecutedLatch) (d other : DecodedLatch) (case : Case) (k : ℕ) (r : Bool)
    → IsCase needs arch w m d case → case.on_path ≡ true → case.reached ≡ true → case.reads_clock ≡ false → 31 ≤ k → k < 148
    → other ≡ decoded.flipped d k → other.op ≡ d.op
    → IsTrue r ↔ DoesAlike needs arch case (doing_after arch.image w other case.own.below.write case.issued)
    → IsTrue r ↔ IsDecodedMasked needs arch (record { w = w; m = m; d = d }) case.oldest.value case.npc case.issued k
input_exactly needs arch w m d other case k r is on reached unread from to e op h =
    let told = doing_told arch.image w m other (state_of arch).memory case.own.below.write case.issued (own_write needs arch w m d case is) in
    let clock =
    same_clock d other op
    ∙ sym (clock_is arch w m d case.oldest.rd case.oldest.value case.npc case.issued (sym is.reached ∙ reached))
    ∙ sym is.clock
    ∙ unread in
    let asked =
    doing_exactly needs arch w m d other case r is reached (rw e (flip_keeps d k from to)) clock
    (subst (λ (z : Doing). IsTrue r ↔ DoesAlike needs arch case z) told h) in
    decoded_exactly needs arch w m d case k r is on (decoded_inside k from to) (rw e at asked)

abbrev Keeps : DecodedLatch → DecodedLatch → Type 0
Keeps d other = (other.op ≡ d.op) × (other.rd ≡ d.rd) × (other.pc ≡ d.pc)

pub input_keeps : (d : DecodedLatch) (input : Input) (k : ℕ) → k < 32 → Keeps d (decoded.flipped d (first_bit input + k))
input_keeps d A k l = subst (Keeps d) (a_flipped d k l) (refl, refl, refl)
input_keeps d B k l = subst (Keeps d) (b_flipped d k l) (refl, refl, refl)
input_keeps d Immediate k l = subst (Keeps d) (immediate_flipped d k l) (refl, refl, refl)

pub input_inside : (input : Input) (k : ℕ) → k < 32 → (31 ≤ first_bit input + k) × (first_bit input + k < 148)
input_inside A k l = (omega arith, omega arith)
input_inside B k l = (omega arith, omega arith)
input_inside Immediate k l = (omega arith, omega arith)

-- the numbers of the registers
pub number_keeps : (d : DecodedLatch) (k : ℕ) → 42 ≤ k → k < 52 → Keeps d (decoded.flipped d k)
number_keeps d k above below =
    elim (cases_lt k 47) [
      | inl l ↦
          let back : 42 + (k - 42) ≡ k = omega arith in
          subst (λ (n : ℕ). Keeps d (decoded.flipped d n)) back (subst (Keeps d) (rs1_flipped d (k - 42) (omega arith)) (refl, refl, refl))
      | inr l ↦
          let back : 47 + (k - 47) ≡ k = omega arith in
          subst (λ (n : ℕ). Keeps d (decoded.flipped d n)) back (subst (Keeps d) (rs2_flipped d (k - 47) (omega arith)) (refl, refl, refl))
    ]

pub input_above : (input : Input) → 31 ≤ first_bit input
input_above A = omega arith
input_above B = omega arith
input_above Immediate = omega arith

pub input_below : (input : Input) → first_bit input + 32 ≤ 148
input_below A = omega arith
input_below B = omega arith
input_below Immediate = omega arith
