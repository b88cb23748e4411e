-- What is on path by the states of the instruction set's run is so by the addresses of its instructions.
use Rattle.std.proofs.Common.{◌≡◌, ◌+◌, ◌*◌, ◌/◌, ◌≤◌, ◌<◌, ◌==◌, ℕ, Bool, true, false, List, [], ◌∷◌, map, arith, refl, ap, sym}
use Rattle.std.proofs.Common.{◌∙◌}
use Rattle.std.specs.Prelude.{Option, Some, None, is_none, option_map, slice_get, nat_lt, ◌&&◌, if◌then◌else◌}
use Rattle.std.proofs.lemmas.Bool.Decides.{nat_tests}
use Rattle.std.proofs.lemmas.Option.{slice_get_past, slice_get-map}
use Rattle.rv_isa.specs.Effects.{retired_at}
use Rattle.rv_isa.specs.Instruction.{State as Arch}
use Rattle.rv_isa.specs.declared.effect.Retired.{Retired}
use Rattle.rv_table.specs.declared.action.Action.{Action}
use Rattle.elf_load.specs.Image.{LoadedImage}
use Rattle.pipe_latch.specs.Latches.{DecodedLatch, ResultLatch}
use Rattle.inst_buf.specs.Buffer.{entries}
use Rattle.inst_buf.specs.Entry.{Entry}
use Rattle.cyc_machine.specs.Cycle.{action_in_m}
use Rattle.cyc_machine.specs.InFlight.{Item, item_of_latch}
use Rattle.need_pass.specs.Tables.{Needs}
use Rattle.flush_view.specs.Flush.{item_of_entry, path, path_of}
use Rattle.flush_view.specs.Positions.{is_instruction, on_path}
use Rattle.flush_view.specs.Views.{view}
use Rattle.flush_view.proofs.Run.OnPath.{reached-stop}
use Rattle.ace_law.specs.Moments.{IsTold, Moment, decoded_is_on_path, entries_on_path, executed, state, trace}
use Rattle.ace_rules.specs.Notes.{address_at}
use Rattle.ace_rules.specs.Walks.{count_on_path, is_at, on_path_in, path_addresses, waiting_addresses}
use Rattle.ace_law.proofs.Alike.{count_of}
use Rattle.ace_law.proofs.Told.{get-entry, running-below}

abbrev pub addresses_of : List Item → List ℕ
addresses_of items = map (λ item. item.pc) items

four_same : (p q : ℕ) → (4 * p == 4 * q) ≡ (p == q)
four_same p q = grind (arith, nat_tests)

at_by : (o : Option Retired) (entry : Retired) (p pc : ℕ) → o ≡ Some entry → entry.pc ≡ 4 * pc → is_at o p ≡ (p == pc)
at_by o entry p pc e h = rw (e, h) (four_same p pc)

instruction_if : (stop : Bool) (b : Bool) → stop ≡ true → (stop && b) ≡ b
instruction_if true b e = refl
instruction_if false b e = absurd cc

waiting_same : (waiting : List Entry) → addresses_of (map item_of_entry waiting) ≡ waiting_addresses waiting
waiting_same [] = refl
waiting_same (e ∷ waiting) = ap (λ (xs : List ℕ). e.pc ∷ xs) (waiting_same waiting)

path_if : (b : Bool) (item : Item) (waiting : List Entry)
    → addresses_of (if b then item ∷ map item_of_entry waiting else map item_of_entry waiting)
    ≡ (if b then item.pc ∷ waiting_addresses waiting else waiting_addresses waiting)
path_if true item waiting = ap (λ (xs : List ℕ). item.pc ∷ xs) (waiting_same waiting)
path_if false item waiting = waiting_same waiting

path_same : (image : LoadedImage) (m : Action) (w : ResultLatch) (memory : ℕ → ℕ) (d : DecodedLatch) (waiting : List Entry)
    → addresses_of (path_of image m w memory d waiting) ≡ path_addresses d waiting
path_same image m w memory d waiting = path_if d.valid (item_of_latch image m w memory d) waiting

and-true : (b : Bool) → b ≡ (b && true)
and-true true = refl
and-true false = refl

retired-pc : (image : LoadedImage) (at : Arch) → (retired_at image at).pc ≡ 4 * at.pc
unfolding retired_at
retired-pc image at = refl

address_some : (o : Option Retired) (entry : Retired) (at : Arch) → o ≡ Some entry → entry.pc ≡ 4 * at.pc → at.stop ≡ None
    → option_map (λ (entry : Retired). entry.pc / 4) o ≡ address_at at
address_some o entry at e h stop = rw (e, h, stop) (ap Some (omega arith))

address_none : (o : Option Retired) (at : Arch) (stopped : Bool) → o ≡ None → is_none at.stop ≡ stopped → stopped ≡ false
    → option_map (λ (entry : Retired). entry.pc / 4) o ≡ address_at at
address_none o at stopped e h f = rw (e, h, f) refl

module _ (a : Moment) (table : Needs) (told : IsTold a.r a.run table) where
  -- behind the run there is no instruction, and it has ended
  ended-behind : (i : ℕ) (b : Bool) → count_of a ≤ i → (is_none (trace a i).stop && b) ≡ false
  ended-behind i b l = go (is_none (trace a i).stop && b) refl
    where
      go : (c : Bool) → (is_none (trace a i).stop && b) ≡ c → c ≡ false
      go false e = refl
      go true e = let below = running-below a table told i (reached-stop (trace a i).stop b e) in absurd (omega (arith, below, l))

  -- an address is that of instruction i
  is_instruction-at : (i : ℕ) (item : Item) → is_instruction (trace a) i item ≡ is_at (slice_get a.run.entries i) item.pc
  is_instruction-at i item = go (nat_lt i (count_of a)) refl
    where
      go : (b : Bool) → nat_lt i (count_of a) ≡ b → is_instruction (trace a) i item ≡ is_at (slice_get a.run.entries i) item.pc
      go true e =
          let l : i < count_of a = grind (arith, nat_tests) in
          instruction_if (is_none (trace a i).stop) (item.pc == (trace a i).pc) (ap is_none (told.traced.running i l))
          ∙ sym (at_by (slice_get a.run.entries i) (retired_at a.r.image (trace a i)) item.pc (trace a i).pc (get-entry a table told i l)
          (retired-pc a.r.image (trace a i)))
      go false e =
          let l : count_of a ≤ i = grind (arith, nat_tests) in
          ended-behind i (item.pc == (trace a i).pc) l ∙ ap (λ (o : Option Retired). is_at o item.pc) (sym (slice_get_past a.run.entries i l))

  on_path-count : (items : List Item) (i : ℕ) → on_path (trace a) i items ≡ count_on_path a.run.entries i (addresses_of items)
  unfolding on_path count_on_path
  on_path-count [] i = refl
  on_path-count (item ∷ items) i = rw (is_instruction-at i item, on_path-count items (i + 1)) refl

  addresses-same : addresses_of (path (state a)) ≡ path_addresses (state a).d (entries (state a).buffer)
  addresses-same = path_same (state a).image (action_in_m (state a)) (state a).w (view (state a)) (state a).d (entries (state a).buffer)

  pub on_path-in : entries_on_path a ≡ on_path_in (state a) a.run.entries (executed a)
  on_path-in = on_path-count (path (state a)) (executed a) ∙ ap (count_on_path a.run.entries (executed a)) addresses-same

  pub latch-in : decoded_is_on_path a ≡ ((state a).d.valid && nat_lt 0 (on_path_in (state a) a.run.entries (executed a)))
  latch-in = ap (λ (n : ℕ). (state a).d.valid && nat_lt 0 n) on_path-in

  pub address-in : (i : ℕ) → option_map (λ (entry : Retired). entry.pc / 4) (slice_get a.run.entries i) ≡ address_at (trace a i)
  address-in i = go (nat_lt i (count_of a)) refl
    where
      go : (b : Bool) → nat_lt i (count_of a) ≡ b → option_map (λ (entry : Retired). entry.pc / 4) (slice_get a.run.entries i) ≡ address_at
          (trace a i)
      go true e =
          let l : i < count_of a = grind (arith, nat_tests) in
          address_some (slice_get a.run.entries i) (retired_at a.r.image (trace a i)) (trace a i) (get-entry a table told i l)
          (retired-pc a.r.image (trace a i)) (told.traced.running i l)
      go false e =
          let l : count_of a ≤ i = grind (arith, nat_tests) in
          address_none (slice_get a.run.entries i) (trace a i) (is_none (trace a i).stop && true) (slice_get_past a.run.entries i l) (and-true
          (is_none (trace a i).stop))
          (ended-behind i true l)

  pub missed-in : (i : ℕ) → slice_get (path_addresses (state a).d (entries (state a).buffer)) i ≡ option_map (λ (item : Item). item.pc)
      (slice_get (path (state a)) i)
  missed-in i = ap (λ (xs : List ℕ). slice_get xs i) (sym addresses-same) ∙ slice_get-map (λ (item : Item). item.pc) (path (state a)) i
