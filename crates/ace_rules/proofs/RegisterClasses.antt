-- The classes of the bits of the register file.
use Rattle.std.proofs.Common.{◌≡◌, ◌<◌, ◌≤◌, ◌+◌, ◌/◌, ◌%◌, ◌==◌, ℕ, Bool, true, false, List, [], ◌∷◌, Decides, if◌then◌else◌, arith, refl, sym}
use Rattle.std.proofs.Common.{subst}
use Rattle.std.specs.Int.{bit_at}
use Rattle.std.specs.Prelude.{None, drop}
use Rattle.std.proofs.lemmas.Bool.Decides.{nat_tests, Decides-and, Decides-eqb, Decides-like, Decides-not, Decides-or}
use Rattle.bit_field.specs.declared.places.Structure.TheVariants.{Rf}
use Rattle.bit_field.specs.declared.shapes.TheConstants.{RF_BITS}
use Rattle.rv_isa.specs.Instruction.{State as Arch}
use Rattle.rv_table.specs.Effects.{written_register}
use Rattle.cyc_machine.specs.Cycle.{action_in_m}
use Rattle.cyc_machine.specs.InFlight.{Item}
use Rattle.need_pass.specs.Needed.{Needed}
use Rattle.need_pass.specs.ProgramBits.ProgramBit.{Register}
use Rattle.need_pass.specs.Tables.{Needs, reg_need}
use Rattle.flush_view.specs.Flush.{path}
use Rattle.flush_view.specs.Positions.{is_instruction, on_path}
use Rattle.flush_view.proofs.Run.OnPath.{reached-stop}
use Rattle.ace_law.specs.Classes.{IsClass}
use Rattle.ace_law.specs.MemoryRules.{IsOverwritten}
use Rattle.ace_law.specs.Moments.{Moment, decoded, decoded_is_on_path, executed, state, trace}
use Rattle.ace_law.proofs.Alike.{count_of}
use Rattle.ace_law.proofs.Told.{executed-within, running-below}
use Rattle.ace_rules.specs.FirstRules.{AreTests, class_by, no_rule}
use Rattle.ace_rules.specs.Notes.{IsKnown, IsSomeMoment}
use Rattle.ace_rules.specs.PipelineTests.{decoded_by, is_needed, is_overwritten, register_tests}
use Rattle.ace_rules.specs.declared.note.Note.{Note}
use Rattle.ace_rules.proofs.FirstRuleLaws.{class-by, never}
use Rattle.ace_rules.proofs.NotedTests.{number-decides, true-decides}

-- where an entry is on path, the run hasn't ended
some-on-path : (trace : ℕ → Arch) (x : ℕ) (items : List Item) → 0 < on_path trace x items → (trace x).stop ≡ None
unfolding on_path
some-on-path trace x [] l = absurd (omega arith)
some-on-path trace x (item ∷ items) l = go (is_instruction trace x item) refl l
  where
    go : (b : Bool) → is_instruction trace x item ≡ b → 0 < (if b then on_path trace (x + 1) items + 1 else 0) → (trace x).stop ≡ None
    go true e l = reached-stop (trace x).stop _ e
    go false e l = absurd (omega arith)

module _ (a : Moment) (table : Needs) (note : Note) (quiet : Bool) (known : IsKnown a table note quiet) where
  pub decoded-is : decoded_by note ≡ decoded a
  unfolding decoded_by
  decoded-is = rw (known.noted.left, known.noted.decoded_on_path) refl

  decoded-within : decoded a ≤ count_of a
  decoded-within = go (decoded_is_on_path a) refl
    where
      go : (b : Bool) → decoded_is_on_path a ≡ b → (if b then executed a + 1 else executed a) ≤ count_of a
      go true e =
          let some : 0 < on_path (trace a) (executed a) (path (state a)) = grind (arith, nat_tests) in
          let l = running-below a table known.told (executed a) (some-on-path (trace a) (executed a) (path (state a)) some) in
          omega (arith, l)
      go false e = executed-within a table known.told known.below

  counted : decoded_by note ≤ table.count
  counted = let e = decoded-is in let l = decoded-within in let c = known.told.needs.count in omega (arith, e, l, c)

  -- ---- dead registers

  overwritten-decides : (r : ℕ) → Decides (is_overwritten note r) (IsOverwritten a r)
  unfolding is_overwritten
  overwritten-decides r =
      Decides-or _ _ (number-decides note.result_rd (state a).w.rd r known.noted.result_rd)
      (Decides-or _ _ (number-decides note.executed_rd (written_register (action_in_m (state a))) r known.noted.executed_rd)
      (Decides-and _ _ (true-decides note.decoded_on_path (decoded_is_on_path a) known.noted.decoded_on_path)
      (number-decides note.decoded_rd (state a).d.rd r known.noted.decoded_rd)))

  needed-decides : (r j : ℕ) → 0 < r → r < 32 → j < 32 → Decides (is_needed table note r j) (Needed (drop (decoded a) a.run.entries) (Register r j))
  unfolding is_needed
  needed-decides r j above below bit =
      let is = known.told.needs.register r j (decoded_by note) above below bit in
      Decides-like (bit_at (reg_need table r (decoded_by note)) j == 1)
      (λ one. subst (λ i. Needed (drop i a.run.entries) (Register r j)) decoded-is (is.0 one))
      (λ need. is.1 (subst (λ i. Needed (drop i a.run.entries) (Register r j)) (sym decoded-is) need))
      (Decides-eqb (bit_at (reg_need table r (decoded_by note)) j) 1)

  tests-are : (k : ℕ) → k < RF_BITS → AreTests a (record { structure = Rf; bit = k }) (register_tests table note quiet k)
  unfolding register_tests no_rule
  tests-are k l = record {
    timing = never (λ h. h.1);
    empty_place = never (λ h. h);
    wrong_path = never (λ h. h.1);
    on_path = never (λ h. h.1);
    masked = never (λ h. h.1);
    dead_register =
        Decides-and quiet _ known.silent
        (Decides-or _ _ (overwritten-decides (k / 32 + 1))
        (Decides-not _ (needed-decides (k / 32 + 1) (k % 32) (omega arith) (omega arith) (omega arith))));
    dead_data = never (λ h. h.1);
    store_redirection = never (λ h. h.1);
    clean_data = never (λ h. h);
    clean_line = never (λ h. h.1);
    unaccessed_line = never (λ h. h.1);
    clean_tag = never (λ h. h);
    no_trap_cause = never (λ h. h);
  }

-- what is asked of the table stands in it
pub decoded_counted : (table : Needs) (note : Note) (quiet : Bool) → IsSomeMoment table note quiet → decoded_by note ≤ table.count
decoded_counted table note quiet some = counted some.a table note quiet some.known

pub register_class : (table : Needs) (note : Note) (quiet : Bool) (k : ℕ) → k < RF_BITS → (a : Moment) → IsKnown a table note quiet
    → IsClass (class_by (register_tests table note quiet k)) a (record { structure = Rf; bit = k })
register_class table note quiet k l a known = class-by a _ _ (tests-are a table note quiet known k l)
