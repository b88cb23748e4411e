-- A bit of a register that is overwritten before it is read, or that isn't needed, is harmless in a quiet cycle.
use Rattle.std.proofs.Common.{◌≡◌, ◌⊎◌, ◌+◌, ◌<◌, ◌/◌, ◌%◌, ℕ, Bool, true, false, List, ◌∷◌, length, map}
use Rattle.std.proofs.Common.{arith, refl, ap, sym, subst, ◌∙◌, inl, inr}
use Rattle.std.specs.Prelude.{◌≢◌, if◌then◌else◌}
use Rattle.avf_base.specs.declared.end.End.TheVariants.{Trap}
use Rattle.bit_field.specs.Shapes.{IsPlaceIn}
use Rattle.bit_field.specs.declared.places.Structure.{Structure}
use Rattle.bit_field.specs.declared.places.Structure.TheVariants.{Rf}
use Rattle.elf_load.specs.Image.{LoadedImage}
use Rattle.rv_table.specs.Effects.{written_register}
use Rattle.rv_table.specs.WellFormed.{well_formed}
use Rattle.rv_table.specs.declared.op.Op.{Op}
use Rattle.rv_isa.specs.Instruction.{State as Arch, Log, op_at}
use Rattle.inst_buf.specs.Buffer.{entries}
use Rattle.need_pass.specs.ProgramBits.ProgramBit.{Register}
use Rattle.need_pass.specs.Tables.{Needs}
use Rattle.cyc_machine.specs.Facts.{IsMachine}
use Rattle.cyc_machine.specs.InFlight.{Item, completed_item, is_reached}
use Rattle.cyc_machine.specs.RegisterBits.{file_flipped}
use Rattle.cyc_machine.specs.State.{State}
use Rattle.cyc_machine.specs.Strikes.{flip_in}
use Rattle.cyc_machine.proofs.Sizes.Lasting.{machine-steady}
use Rattle.flush_view.specs.Flush.{completed_path, flush, item_of_entry}
use Rattle.flush_view.specs.RunFacts.{no_line}
use Rattle.flush_view.specs.Views.{view}
use Rattle.flush_view.specs.Positions.{is_instruction}
use Rattle.flush_view.proofs.Run.Sound.{AreFetched}
use Rattle.run_record.specs.Verdict.{HasSame}
use Rattle.ace_law.specs.Moments.{IsQuiet, IsTold, Moment, decoded, decoded_is_on_path, executed, state, trace}
use Rattle.ace_law.specs.MemoryRules.{IsDeadRegisterBit, IsUnneeded}
use Rattle.ace_law.proofs.Alike.{Alike, spare}
use Rattle.ace_law.proofs.Registers.{IsNear}
use Rattle.ace_law.proofs.Base.{action_at, base_over}
use Rattle.ace_law.proofs.Follows.{Follows, alike-along, entries-follow, reached-below, reached-same}
use Rattle.ace_law.proofs.PathItems.{first_true}
use Rattle.ace_law.proofs.PathRules.{comes, comes-on_path, held_by}
use Rattle.ace_law.proofs.PathStrikes.{are-fetched, recorded-follows}
use Rattle.ace_law.proofs.Spared.{IsSpared}
use Rattle.ace_law.proofs.SparedPaths.{state-stands, flush-by, means-spared}
use Rattle.ace_law.proofs.SparedSame.{spared-same}
use Rattle.ace_law.proofs.Stands.{Stands, stands-next}
use Rattle.ace_law.proofs.TimingRule.{flipped-machine, none-alone}
use Rattle.ace_law.proofs.Told.{executed-within, facts, state-image, state-machine}
use Rattle.ace_law.proofs.OtherRegisters.{ended-unneeded, completed-near, completed-over, formed-at, overwritten, stands-near}
use Rattle.ace_law.proofs.StruckRegisters.{left-same, left_over, means-same, near-left}

-- ---- the rule

module _ (a : Moment) (table : Needs) (told : IsTold a.r a.run table) (below : a.t < a.r.cycles) (quiet : IsQuiet a) (k : ℕ)
    (place : IsPlaceIn a.r.shape (record { structure = Rf; bit = k })) where
  abbrev q : ℕ
  q = k / 32 + 1

  abbrev b : ℕ
  b = k % 32

  abbrev struck : State
  struck = flip_in Rf (state a) k

  abbrev recorded_base : Log → Arch
  recorded_base log = base_over a (view (state a)) log

  abbrev left : ℕ → ℕ
  left = left_over (state a) (file_flipped (state a).registers k)

  -- MEM/WB and EX/MEM completed over the struck file
  abbrev struck_base : Log → Arch
  struck_base log = record (recorded_base log) { registers = left }

  within-file : k / 32 < length (state a).registers
  within-file = let long = (state-machine a table told below).registers.0 in omega (arith, place, long)

  left-near : IsNear q b (left_over (state a) (state a).registers) left
  left-near = near-left (state a) k within-file

  some : q ≢ 0
  some h = absurd (omega (arith, h))

  machine : IsMachine struck
  machine = flipped-machine a table told below Rf k place

  -- ---- MEM/WB or EX/MEM writes the register

  hidden : ((state a).w.rd ≡ q) ⊎ (written_register (action_at a) ≡ q) → IsSpared a no_line struck
  hidden e =
      means-spared a table told below no_line quiet (none-alone a) struck (state-image a table told) (machine-steady struck machine)
      (facts a table told below).coherent (means-same (state a) (file_flipped (state a).registers k) (left-same (state a) k within-file e))

  -- ---- ID/EX isn't on path, and the bit isn't needed

  abbrev entries_held : List Item
  entries_held = map item_of_entry (entries (state a).buffer)

  abbrev held : Item
  held = held_by a k (state a).d

  abbrev path_held : List Item
  path_held = if (state a).d.valid then held ∷ entries_held else entries_held

  struck-flush : (log : Log) → flush struck spare log ≡ completed_path a.r.image path_held (struck_base log)
  unfolding view
  struck-flush log = flush-by struck a.r.image log (struck_base log) (state-image a table told) refl

  entries-follow-at : (at : Arch) → Follows a.r.image entries_held at
  entries-follow-at at =
      entries-follow a.r.image (entries (state a).buffer) at
      (subst (λ (image : LoadedImage). AreFetched image (entries (state a).buffer)) (state-image a table told) (are-fetched a table told below quiet))

  missed-alike : (log : Log) (budget : ℕ) → decoded_is_on_path a ≡ false → IsUnneeded a (executed a) (Register q b)
      → Stands a no_line (executed a) (recorded_base log) budget → Alike a no_line (flush struck spare log) budget
  missed-alike log budget off unneeded stands =
      subst (λ (at : Arch). Alike a no_line at budget) (sym (struck-flush log))
      (alike-along a table told no_line quiet (none-alone a) path_held (executed a) (struck_base log) budget (omega arith)
      (executed-within a table told below) (go (state a).d.valid refl) there)
    where
      there : Stands a no_line (executed a) (struck_base log) budget
      there = stands-near a q b (executed a) (recorded_base log) left budget unneeded left-near stands

      go : (v : Bool) → (state a).d.valid ≡ v → Follows a.r.image (if v then held ∷ entries_held else entries_held) (struck_base log)
      go true v = λ r.
          let here : is_instruction (trace a) (executed a) held ≡ true =
          sym (reached-same a table told no_line quiet (none-alone a) (executed a) held (struck_base log) budget there) ∙ r in
          let on = comes-on_path a k v in
          absurd cc
      go false v = entries-follow-at (struck_base log)

  -- ---- ID/EX is on path, and the bit isn't needed behind it, or it writes the register

  -- what it leaves
  abbrev behind_recorded : Log → Arch
  behind_recorded log = completed_item a.r.image held (recorded_base log)

  abbrev behind_struck : Log → Arch
  behind_struck log = completed_item a.r.image held (struck_base log)

  recorded-next : (log : Log) (budget : ℕ) → (state a).d.valid ≡ true → comes a k (state a).d ≡ true
      → Stands a no_line (executed a) (recorded_base log) budget → Stands a no_line (executed a + 1) (behind_recorded log) budget
  recorded-next log budget v on stands =
      let reached : is_reached held (recorded_base log) ≡ true =
      reached-same a table told no_line quiet (none-alone a) (executed a) held (recorded_base log) budget stands ∙ on in
      let follows : Follows a.r.image (held ∷ entries_held) (recorded_base log) =
      subst (λ (v : Bool). Follows a.r.image (if v then held ∷ entries_held else entries_held) (recorded_base log)) v
      (recorded-follows a table told below quiet (entries (state a).buffer) (are-fetched a table told below quiet) log) in
      subst (λ (at : Arch). Stands a no_line (executed a + 1) at budget) (sym (follows reached).0)
      (stands-next a table told no_line quiet (none-alone a) (executed a) (recorded_base log) budget (omega arith) (omega arith)
      (reached-below a table told no_line quiet (none-alone a) (executed a) held on) stands)

  near-behind : (log : Log) → IsNear q b (behind_recorded log).registers (behind_struck log).registers
  near-behind log =
      completed-near a.r.image held.op held.pc (held.a (λ r. 0)) (held.b (λ r. 0)) (recorded_base log) q b left
      left-near

  behind-over : (log : Log) → behind_struck log ≡ record (behind_recorded log) { registers = (behind_struck log).registers }
  behind-over log =
      completed-over a.r.image held.op held.pc (held.a (λ r. 0)) (held.b (λ r. 0)) (recorded_base log) left

  by-need : (log : Log) (budget : ℕ) → IsUnneeded a (executed a + 1) (Register q b) → Stands a no_line (executed a + 1) (behind_recorded log) budget
      → Stands a no_line (executed a + 1) (behind_struck log) budget
  by-need log budget unneeded stands =
      subst (λ (at : Arch). Stands a no_line (executed a + 1) at budget) (sym (behind-over log))
      (stands-near a q b (executed a + 1) (behind_recorded log) (behind_struck log).registers budget unneeded (near-behind log) stands)

  held-formed : decoded_is_on_path a ≡ true → (state a).d.rd ≡ q → well_formed held.op ≡ true
  held-formed on e =
      let same : held.op ≡ op_at a.r.image (trace a (executed a)).pc =
      ((facts a table told below).decoded on).op ∙ ap (λ (image : LoadedImage). op_at image (trace a (executed a)).pc) (state-image a table told) in
      ap well_formed same
      ∙ formed-at a.r.image told.image (trace a (executed a)).pc (λ h. some (sym e ∙ ap (λ (op : Op). op.rd) same ∙ h))

  struck-next : (log : Log) (budget : ℕ) → decoded_is_on_path a ≡ true → IsUnneeded a (executed a + 1) (Register q b) ⊎ ((state a).d.rd ≡ q)
      → Stands a no_line (executed a + 1) (behind_recorded log) budget → Stands a no_line (executed a + 1) (behind_struck log) budget
  struck-next log budget on (inl unneeded) stands = by-need log budget unneeded stands
  struck-next log budget on (inr e) stands =
      elim (overwritten a.r.image held.op held.pc (held.a (λ r. 0)) (held.b (λ r. 0)) (recorded_base log) q b left
      left-near (held-formed on e) e some) [
        | inl same ↦
            subst (λ (at : Arch). Stands a no_line (executed a + 1) at budget)
            (sym (behind-over log ∙ ap (λ (f : ℕ → ℕ). record (behind_recorded log) { registers = f }) same)) stands
        | inr (cause, stop) ↦
            by-need log budget (ended-unneeded a table told (executed a + 1) (Register q b) (Trap cause) (sym stands.stop ∙ stop)) stands
      ]

  -- the path behind it
  struck-path : (log : Log) → (state a).d.valid ≡ true → is_reached held (struck_base log) ≡ true
      → completed_path a.r.image path_held (struck_base log) ≡ completed_path a.r.image entries_held (behind_struck log)
  unfolding completed_path
  struck-path log v reached =
      ap (λ (c : Bool). completed_path a.r.image (if c then held ∷ entries_held else entries_held) (struck_base log)) v
      ∙ ap (λ (c : Bool). if c then completed_path a.r.image entries_held (behind_struck log) else struck_base log) reached

  on-path-alike : (log : Log) (budget : ℕ) → decoded_is_on_path a ≡ true → IsUnneeded a (executed a + 1) (Register q b) ⊎ ((state a).d.rd ≡ q)
      → Stands a no_line (executed a) (recorded_base log) budget → Alike a no_line (flush struck spare log) budget
  on-path-alike log budget on bit stands =
      let v : (state a).d.valid ≡ true = first_true (state a).d.valid _ on in
      let here : is_instruction (trace a) (executed a) held ≡ true = comes-on_path a k v ∙ on in
      let reached : is_reached held (struck_base log) ≡ true =
      reached-same a table told no_line quiet (none-alone a) (executed a) held (recorded_base log) budget stands ∙ here in
      let within = reached-below a table told no_line quiet (none-alone a) (executed a) held here in
      subst (λ (at : Arch). Alike a no_line at budget) (sym (struck-flush log ∙ struck-path log v reached))
      (alike-along a table told no_line quiet (none-alone a) entries_held (executed a + 1) (behind_struck log) budget (omega arith)
      (omega (arith, within))
      (entries-follow-at (behind_struck log))
      (struck-next log budget on bit (recorded-next log budget v here stands)))

  -- ---- either

  struck-alike : (log : Log) (budget : ℕ)
      → IsUnneeded a (decoded a) (Register q b) ⊎ ((decoded_is_on_path a ≡ true) × ((state a).d.rd ≡ q))
      → Stands a no_line (executed a) (recorded_base log) budget → Alike a no_line (flush struck spare log) budget
  struck-alike log budget bit stands = go (decoded_is_on_path a) refl bit
    where
      behind : (c : Bool) → decoded_is_on_path a ≡ c → IsUnneeded a (decoded a) (Register q b)
          → IsUnneeded a (if c then executed a + 1 else executed a) (Register q b)
      behind c e = subst (λ (c : Bool). IsUnneeded a (if c then executed a + 1 else executed a) (Register q b)) e

      go : (c : Bool) → decoded_is_on_path a ≡ c → IsUnneeded a (decoded a) (Register q b) ⊎ ((decoded_is_on_path a ≡ true) × ((state a).d.rd ≡ q))
          → Alike a no_line (flush struck spare log) budget
      go true e (inl unneeded) = on-path-alike log budget e (inl (behind true e unneeded)) stands
      go true e (inr (on, rd)) = on-path-alike log budget on (inr rd) stands
      go false e (inl unneeded) = missed-alike log budget e (behind false e unneeded) stands
      go false e (inr (on, rd)) = absurd cc

  later-spared : IsUnneeded a (decoded a) (Register q b) ⊎ ((decoded_is_on_path a ≡ true) × ((state a).d.rd ≡ q)) → IsSpared a no_line struck
  later-spared bit = record {
    alone = none-alone a;
    image = state-image a table told;
    steady = machine-steady struck machine;
    coherent = (facts a table told below).coherent;
    alike = λ log budget puts avoids count.
        struck-alike log budget bit (state-stands a table told below no_line (none-alone a) log budget puts avoids count);
  }

  pub register-spared : IsDeadRegisterBit a Rf k → IsSpared a no_line struck
  register-spared (inl (inl e)) = hidden (inl e)
  register-spared (inl (inr (inl e))) = hidden (inr e)
  register-spared (inl (inr (inr on))) = later-spared (inr on)
  register-spared (inr unneeded) = later-spared (inl unneeded)

pub register-same : (a : Moment) (table : Needs) (s : Structure) (k : ℕ) → IsTold a.r a.run table → a.t < a.r.cycles
    → IsPlaceIn a.r.shape (record { structure = s; bit = k }) → IsQuiet a → IsDeadRegisterBit a s k → HasSame a.r a.t (flip_in s (state a) k)
register-same a table Rf k told below place quiet bit =
    spared-same a table no_line (flip_in Rf (state a) k) told below quiet (register-spared a table told below quiet k place bit)
register-same a table s k told below place quiet bit = absurd bit
