-- Entries on path, completed in order, lead from one recorded state to the next.
use Rattle.std.proofs.Common.{◌≡◌, ℕ, suc, ◌+◌, ◌≤◌, ◌<◌, Bool, true, false, List, [], ◌∷◌, ◌++◌, map, length, arith, refl, ap, sym, subst, ◌∙◌}
use Rattle.std.specs.List.{All}
use Rattle.std.specs.Prelude.{◌==◌, ◌&&◌, is_none, if◌then◌else◌}
use Rattle.std.proofs.lemmas.List.Elements.{All-head, All-tail}
use Rattle.elf_load.specs.Image.{LoadedImage}
use Rattle.rv_isa.specs.Instruction.{State as Arch, instruction, op_at, reg}
use Rattle.inst_buf.specs.Entry.{Entry as Fetched}
use Rattle.cyc_machine.specs.Cycle.{action_in_m}
use Rattle.cyc_machine.specs.InFlight.{Item, completed_item, is_reached, item_of_latch}
use Rattle.cyc_machine.specs.Pipeline.{fetched}
use Rattle.need_pass.specs.Tables.{Needs}
use Rattle.flush_view.specs.Flush.{completed_path, item_of_entry, path_of}
use Rattle.flush_view.specs.Positions.{is_instruction, on_path}
use Rattle.flush_view.specs.Views.{view}
use Rattle.flush_view.proofs.Run.OnPath.{entry-next, held-next, reached-pc, reached-stop}
use Rattle.ace_law.specs.Moments.{IsQuiet, IsTold, Moment, executed, state, trace}
use Rattle.ace_law.proofs.Told.{state-image}
use Rattle.ace_law.proofs.Masked.Known.{holds}
use Rattle.ace_law.proofs.Masked.Stands.{Stands, stands-next}

-- all these items are completed, whatever comes behind them, and the recorded state behind them is reached
pub record Reaches (a : Moment) (items : List Item) (i : ℕ) (at : Arch) (budget : ℕ) : Type 0 where
  pub after : Arch
  pub stands : Stands a (i + length items) after budget
  pub path : (rest : List Item) → completed_path a.r.image (items ++ rest) at ≡ completed_path a.r.image rest after

-- ---- what is on path

one-more : (b : Bool) (n m : ℕ) → (if b then n + 1 else 0) ≡ suc m → (b ≡ true) × (n ≡ m)
one-more true n m e = (refl, omega arith)
one-more false n m e = absurd (omega arith)

on-path-more : (trace : ℕ → Arch) (x : ℕ) (item : Item) (items : List Item) → on_path trace x (item ∷ items) ≡ length (item ∷ items)
    → (is_instruction trace x item ≡ true) × (on_path trace (x + 1) items ≡ length items)
unfolding on_path
on-path-more trace x item items e = one-more (is_instruction trace x item) (on_path trace (x + 1) items) (length items) e

above : (b : Bool) (n m : ℕ) → m < (if b then n + 1 else 0) → (b ≡ true) × (m ≤ n)
above true n m l = (refl, omega arith)
above false n m l = absurd (omega arith)

-- an item on path: all before it are, and it is the instruction that comes behind them
pub on-path-before : (trace : ℕ → Arch) (xs : List Item) (item : Item) (ys : List Item) (x : ℕ) → length xs < on_path trace x (xs ++ item ∷ ys)
    → (on_path trace x xs ≡ length xs) × (is_instruction trace (x + length xs) item ≡ true)
unfolding on_path
on-path-before trace [] item ys x l =
    (refl, ap (λ (i : ℕ). is_instruction trace i item) (omega arith) ∙ (above (is_instruction trace x item) (on_path trace (x + 1) ys) 0 l).0)
on-path-before trace (y ∷ xs) item ys x l =
    let first = above (is_instruction trace x y) (on_path trace (x + 1) (xs ++ item ∷ ys)) (suc (length xs)) l in
    let rest = on-path-before trace xs item ys (x + 1) (omega (arith, first.1)) in (
      ap (λ (b : Bool). if b then on_path trace (x + 1) xs + 1 else 0) first.0 ∙ ap (λ (n : ℕ). n + 1) rest.0 ∙ omega arith,
      ap (λ (i : ℕ). is_instruction trace i item) (omega arith) ∙ rest.1,
    )

-- ---- one item after another

pub is-reached : (a : Moment) (i budget : ℕ) (at : Arch) (item : Item) → Stands a i at budget → is_reached item at ≡ is_instruction (trace a) i item
is-reached a i budget at item stands = ap (λ (z : Arch). is_none z.stop && item.pc == z.pc) stands.same

reaches-more : (a : Moment) (i budget : ℕ) (at : Arch) (item : Item) (items : List Item) → Stands a i at budget
    → is_instruction (trace a) i item ≡ true
    → completed_item a.r.image item at ≡ instruction a.r.image at → Reaches a items (i + 1) (instruction a.r.image at) budget
    → Reaches a (item ∷ items) i at budget
unfolding completed_path
reaches-more a i budget at item items stands is next more = record {
  after = more.after;
  stands = let same : i + 1 + length items ≡ i + suc (length items) = omega arith in subst (λ (n : ℕ). Stands a n more.after budget) same more.stands;
  path = λ rest.
      ap (λ (b : Bool). if b then completed_path a.r.image (items ++ rest) (completed_item a.r.image item at) else at)
      (is-reached a i budget at item stands ∙ is)
      ∙ ap (completed_path a.r.image (items ++ rest)) next
      ∙ more.path rest;
}

module _ (a : Moment) (table : Needs) (told : IsTold a.r a.run table) (quiet : IsQuiet a) (budget : ℕ) where
  pub reaches-entries : (es : List Fetched) (i : ℕ) (at : Arch) → executed a ≤ i → All (λ entry. entry ≡ fetched a.r.image entry.pc) es
      → Stands a i at budget → on_path (trace a) i (map item_of_entry es) ≡ length (map item_of_entry es)
      → Reaches a (map item_of_entry es) i at budget
  reaches-entries [] i at from are stands on =
      let same : i ≡ i + 0 = omega arith in
      record { after = at; stands = subst (λ (n : ℕ). Stands a n at budget) same stands; path = λ rest. refl }
  reaches-entries (e ∷ es) i at from are stands on =
      let first = on-path-more (trace a) i (item_of_entry e) (map item_of_entry es) on in
      let reached : is_reached (item_of_entry e) at ≡ true = is-reached a i budget at (item_of_entry e) stands ∙ first.0 in
      let next = stands-next a table told quiet i budget at from (reached-stop (trace a i).stop _ first.0) stands in
      reaches-more a i budget at (item_of_entry e) (map item_of_entry es) stands first.0
      (entry-next a.r.image e at (All-head (λ entry. entry ≡ fetched a.r.image entry.pc) e es are) (reached-pc (item_of_entry e) at reached))
      (reaches-entries es (i + 1) (instruction a.r.image at) (omega arith)
      (All-tail (λ entry. entry ≡ fetched a.r.image entry.pc) e es are) next first.1)

  -- ID/EX, where it is occupied, and then the entries
  pub reaches-front : (below : a.t < a.r.cycles) (es : List Fetched) (at : Arch) → All (λ entry. entry ≡ fetched a.r.image entry.pc) es
      → Stands a (executed a) at budget
      → on_path (trace a) (executed a) (path_of (state a).image (action_in_m (state a)) (state a).w (view (state a)) (state a).d es)
      ≡ length (path_of (state a).image (action_in_m (state a)) (state a).w (view (state a)) (state a).d es)
      → Reaches a (path_of (state a).image (action_in_m (state a)) (state a).w (view (state a)) (state a).d es) (executed a) at budget
  reaches-front below es at are stands on = go (state a).d.valid refl on
    where
      item : Item
      item = item_of_latch (state a).image (action_in_m (state a)) (state a).w (view (state a)) (state a).d

      next : (state a).d.valid ≡ true → is_instruction (trace a) (executed a) item ≡ true
          → completed_item a.r.image item at ≡ instruction a.r.image at
      next v is =
          let place : (state a).d.pc ≡ (trace a (executed a)).pc = reached-pc item (trace a (executed a)) is in
          let h = holds a table told below v place in
          let registers : (trace a (executed a)).registers ≡ at.registers = sym (ap (λ (z : Arch). z.registers) stands.same) in
          let pc : (trace a (executed a)).pc ≡ at.pc = sym (ap (λ (z : Arch). z.pc) stands.same) in
          subst (λ (im : LoadedImage). completed_item im item at ≡ instruction im at) (state-image a table told)
          (held-next (state a).image (action_in_m (state a)) (state a).w (view (state a)) (state a).d at
          (h.op ∙ ap (λ (p : ℕ). op_at (state a).image p) pc)
          (h.a ∙ ap (λ (f : ℕ → ℕ). reg f (state a).d.rs1) registers)
          (h.b ∙ ap (λ (f : ℕ → ℕ). reg f (state a).d.rs2) registers) (place ∙ pc))

      go : (v : Bool) → (state a).d.valid ≡ v
          → on_path (trace a) (executed a) (if v then item ∷ map item_of_entry es else map item_of_entry es)
          ≡ length (if v then item ∷ map item_of_entry es else map item_of_entry es)
          → Reaches a (if v then item ∷ map item_of_entry es else map item_of_entry es) (executed a) at budget
      go true v e =
          let first = on-path-more (trace a) (executed a) item (map item_of_entry es) e in
          let least : executed a ≤ executed a + 1 = omega arith in
          let then_at =
          stands-next a table told quiet (executed a) budget at (omega arith) (reached-stop (trace a (executed a)).stop _ first.0) stands in
          reaches-more a (executed a) budget at item (map item_of_entry es) stands first.0 (next v first.0)
          (reaches-entries es (executed a + 1) (instruction a.r.image at) least are then_at first.1)
      go false v e = reaches-entries es (executed a) at (omega arith) are stands e
