-- The mask of an instruction word says which of its bits are masked.
use Rattle.std.proofs.Common.{◌≡◌, ◌↔◌, ℕ, List, ◌+◌, ◌++◌, ◌≤◌, [], ap, sym, subst, ◌∙◌, append-nil}
use Rattle.std.specs.Prelude.{Option, Some, None, drop, false}
use Rattle.std.proofs.lemmas.List.{append_cancel_left}
use Rattle.elf_load.specs.Image.{LoadedImage, fetch}
use Rattle.rv_table.specs.Actions.{is_clocked}
use Rattle.rv_table.specs.Words.{decode}
use Rattle.rv_table.specs.declared.op.Op.{Op}
use Rattle.rv_isa.specs.Architecture.{ArchState, state_of}
use Rattle.rv_isa.specs.Effects.{operated}
use Rattle.rv_isa.specs.Instruction.{State as Arch, instruction, op_of_word, reg}
use Rattle.need_pass.specs.Tables.{Needs}
use Rattle.need_pass.proofs.Passes.{needed_bit}
use Rattle.eval_mask.specs.Agreement.{Agree}
use Rattle.eval_mask.specs.Seems.{no_log, under}
use Rattle.eval_mask.specs.WordMasks.{IsAlikeWord}
use Rattle.eval_mask.proofs.UnderLog.{IsUnder, completed_under}
use Rattle.ace_law.specs.Agreements.{DoSame, OperationAgrees}
use Rattle.ace_law.specs.Moments.{IsQuiet, IsTold, Moment, executed, trace}
use Rattle.ace_law.proofs.Masked.Known.{unclocked}
use Rattle.ace_law.proofs.Masked.LatchMasks.{is-needed}
use Rattle.ace_law.proofs.Masked.Operations.{stands-bit}
use Rattle.ace_law.proofs.Masked.Outcomes.{needed-by}

-- Two states without log and the same two behind a log and with clock values: these do the same where those agree by the table.
module _ (a : Moment) (table : Needs) (told : IsTold a.r a.run table) (j : ℕ) (clocks before : List ℕ) (recorded struck own other : Arch)
    (over : IsUnder clocks before recorded own) (beside : IsUnder clocks before struck other) where
  does-same : Agree table j other own → DoSame a j recorded struck
  does-same agree = record {
    output = beside.stands.output ∙ ap (λ (bytes : List ℕ). before ++ bytes) agree.output ∙ sym over.stands.output;
    stop = beside.stands.stop ∙ agree.stop ∙ sym over.stands.stop;
    next = λ none.
        let next = agree.next (sym beside.stands.stop ∙ none) in (
          beside.stands.pc ∙ next.0 ∙ sym over.stands.pc,
          (λ p need.
              let b = needed_bit (drop j a.run.entries) p need in
              stands-bit before struck other p beside.stands
              ∙ next.1.same p b (is-needed a table told.needs j p b need)
              ∙ sym (stands-bit before recorded own p over.stands)),
        );
  }

  agree-by : DoSame a j recorded struck → Agree table j other own
  agree-by same = record {
    output = append_cancel_left before other.log.output own.log.output (sym beside.stands.output ∙ same.output ∙ over.stands.output);
    stop = sym beside.stands.stop ∙ same.stop ∙ over.stands.stop;
    next = λ none.
        let next = same.next (beside.stands.stop ∙ none) in (
          sym beside.stands.pc ∙ next.0 ∙ over.stands.pc,
          record {
            same = λ p b need.
                sym (stands-bit before struck other p beside.stands)
                ∙ next.1 p (needed-by a table told.needs j p b need)
                ∙ stands-bit before recorded own p over.stands;
          },
        );
  }

-- `arch` is the instruction set's state before instruction i, but for clock values, and `word` is fetched at its address
module _ (a : Moment) (table : Needs) (told : IsTold a.r a.run table) (quiet : IsQuiet a) (arch : ArchState) (i word : ℕ) (from : executed a ≤ i)
    (running : (trace a i).stop ≡ None) (image : arch.image ≡ a.r.image) (same : under [] no_log (state_of arch) ≡ under [] no_log (trace a i))
    (fetched : fetch a.r.image (trace a i).pc ≡ Some word) where
  trace-is : trace a i ≡ under (trace a i).clocks (trace a i).log (state_of arch)
  trace-is = ap (under (trace a i).clocks (trace a i).log) (sym same)

  over-arch : (op : Op) → is_clocked op ≡ false
      → IsUnder (trace a i).clocks (trace a i).log.output (operated a.r.image op (trace a i)) (operated arch.image op (state_of arch))
  over-arch op unread =
      subst (λ (im : LoadedImage). IsUnder (trace a i).clocks (trace a i).log.output (operated a.r.image op (trace a i))
      (operated im op (state_of arch)))
      (sym image)
      (subst (λ (z : Arch). IsUnder (trace a i).clocks (trace a i).log.output (operated a.r.image op z) (operated a.r.image op (state_of arch)))
      (sym trace-is)
      (completed_under a.r.image op (state_of arch).pc (reg (state_of arch).registers op.rs1) (reg (state_of arch).registers op.rs2)
      (trace a i).clocks
      (trace a i).log.output (trace a i).log (state_of arch) unread (sym (append-nil (trace a i).log.output))))

  next-is : operated a.r.image (decode word) (trace a i) ≡ instruction a.r.image (trace a i)
  unfolding instruction
  next-is = ap (λ (o : Option ℕ). operated a.r.image (op_of_word o) (trace a i)) (sym fetched)

  was-unread : is_clocked (decode word) ≡ false
  was-unread = ap (λ (o : Option ℕ). is_clocked (op_of_word o)) (sym fetched) ∙ unclocked a table told quiet i from running

  pub word-iff : (other : ℕ) → IsAlikeWord table i arch word other ↔ OperationAgrees a i (decode other)
  word-iff other = (
    (λ alike.
        record {
          unread = alike.unread;
          same =
              subst (λ (z : Arch). DoSame a (i + 1) z (operated a.r.image (decode other) (trace a i))) next-is
              (does-same a table told (i + 1) (trace a i).clocks (trace a i).log.output _ _ _ _ (over-arch (decode word) was-unread)
              (over-arch (decode other) alike.unread) alike.agree);
        }),
    (λ agrees.
        record {
          unread = agrees.unread;
          was_unread = was-unread;
          agree =
              agree-by a table told (i + 1) (trace a i).clocks (trace a i).log.output _ _ _ _ (over-arch (decode word) was-unread)
              (over-arch (decode other) agrees.unread)
              (subst (λ (z : Arch). DoSame a (i + 1) z (operated a.r.image (decode other) (trace a i))) (sym next-is) agrees.same);
        }),
  )
