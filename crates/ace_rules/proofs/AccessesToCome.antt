-- What later cycles of a run still access: a line that isn't accessed again stays so, and a byte that is needed throughout doesn't
-- become pending.
use Rattle.std.proofs.Common.{◌≡◌, ◌⊎◌, ◌/◌, ◌%◌, ◌≤◌, ◌<◌, zero, suc, ℕ, Bool, true, List, [], ◌∷◌, Some, is_some, slice_get, drop}
use Rattle.std.proofs.Common.{arith, refl, sym, ap, subst, ◌∙◌, inl, inr, ◌||◌}
use Rattle.std.proofs.Math.Bool.{or-true}
use Rattle.std.proofs.lemmas.Bool.{cases_eq, or_cases}
use Rattle.rv_isa.specs.declared.effect.Retired.{Retired}
use Rattle.store_buf.specs.Covers.{found}
use Rattle.store_buf.specs.Entry.{Entry}
use Rattle.store_buf.specs.Pending.{pending}
use Rattle.cyc_machine.specs.Run.{state_after}
use Rattle.need_pass.specs.Needed.{Needed}
use Rattle.need_pass.specs.ProgramBits.ProgramBit.{Byte}
use Rattle.need_pass.specs.Tables.{Needs}
use Rattle.ace_law.specs.MemoryRules.{IsAccessedAgain, IsPending, writes}
use Rattle.ace_law.specs.Moments.{IsTold, retired, state}
use Rattle.ace_rules.specs.Notes.{Story, moment}
use Rattle.ace_rules.proofs.NewStores.{IsAmong, waits-after}
use Rattle.ace_rules.proofs.PendingBytes.{held-writes}
use Rattle.ace_rules.proofs.Retiring.{retired-rises}
use Rattle.ace_rules.proofs.StoringInstructions.{IsStoringNext, accesses-line, drop-at, stored-unneeded, stores-byte, storing-next}

-- ---- a byte is pending by a store that waits

found-among : (es : List Entry) (p : ℕ) → is_some (found es (p / 4) (p % 4)) ≡ true → (e : Entry) × IsAmong e es × (writes e p ≡ true)
unfolding found
found-among [] p h = absurd cc
found-among (x ∷ es) p h =
    elim (or_cases (writes x p) (is_some (found es (p / 4) (p % 4))) (sym (held-writes (found es (p / 4) (p % 4)) x p) ∙ h)) [
      | inl here ↦ (x, (zero, refl), here)
      | inr there ↦ let (e, at, w) = found-among es p there in (e, (suc at.0, at.1), w)
    ]

among-found : (es : List Entry) (p : ℕ) (e : Entry) (i : ℕ) → slice_get es i ≡ Some e → writes e p ≡ true
    → is_some (found es (p / 4) (p % 4)) ≡ true
unfolding found
among-found [] p e i h w = absurd cc
among-found (x ∷ es) p e zero h w =
    let here : writes x p ≡ true = (let same : e ≡ x = cc in subst (λ (e : Entry). writes e p ≡ true) same w) in
    held-writes (found es (p / 4) (p % 4)) x p ∙ ap (λ (b : Bool). b || is_some (found es (p / 4) (p % 4))) here
among-found (x ∷ es) p e (suc i) h w =
    held-writes (found es (p / 4) (p % 4)) x p ∙ ap (λ (b : Bool). writes x p || b) (among-found es p e i h w) ∙ or-true (writes x p)

module _ (story : Story) (table : Needs) (told : IsTold story.r story.run table) where
  -- the store that waits in the next cycle waits in this one, or the next instruction makes it
  waits-next : (t : ℕ) → t < story.r.cycles → (e : Entry) → IsAmong e (pending (state (moment story (suc t))).stores)
      → IsAmong e (pending (state (moment story t)).stores) ⊎ IsStoringNext (moment story t) e
  unfolding state_after
  waits-next t below e h =
      elim (waits-after (state (moment story t)) e h) [
        | inl waits ↦ inl waits
        | inr new ↦ inr (storing-next (moment story t) table told below e new)
      ]

  -- ---- lines

  again-before : (line t : ℕ) → t < story.r.cycles → IsAccessedAgain (moment story (suc t)) line → IsAccessedAgain (moment story t) line
  again-before line t below (inl (i, entry, l, get, acc)) =
      let rises = retired-rises story t (suc t) (omega arith) in
      inl (i, entry, omega (arith, rises, l), get, acc)
  again-before line t below (inr (i, e, get, to)) =
      elim (waits-next t below e (i, get)) [
        | inl waits ↦ inr (waits.0, e, waits.1, to)
        | inr new ↦ inl (retired (moment story t), new.entry, omega arith, new.at, accesses-line new.entry e line new.storing to)
      ]

  -- a line that is accessed again in a cycle is so in the earlier ones
  pub again-earlier : (line t u : ℕ) → t ≤ u → u < story.r.cycles → IsAccessedAgain (moment story u) line → IsAccessedAgain (moment story t) line
  again-earlier line t zero l below h =
      let e : zero ≡ t = omega (arith, l) in subst (λ (t : ℕ). IsAccessedAgain (moment story t) line) e h
  again-earlier line t (suc u) l below h =
      elim (cases_eq (suc u) t) [
        | inl same ↦ subst (λ (t : ℕ). IsAccessedAgain (moment story t) line) same h
        | inr ne ↦
            again-earlier line t u (omega (arith, l, ne)) (omega (arith, below)) (again-before line u (omega (arith, below)) h)
      ]

  -- ---- bytes

  pending-before : (p k t : ℕ) → t < story.r.cycles → Needed (drop (retired (moment story t)) story.run.entries) (Byte p k)
      → IsPending (moment story (suc t)) p → IsPending (moment story t) p
  pending-before p k t below needed h =
      let (e, at, w) = found-among (pending (state (moment story (suc t))).stores) p h in
      elim (waits-next t below e at) [
        | inl waits ↦ among-found (pending (state (moment story t)).stores) p e waits.0 waits.1 w
        | inr new ↦
            let (later, is) = drop-at story.run.entries (retired (moment story t)) new.entry new.at in
            absurd (stored-unneeded new.entry later p k new.storing.write (stores-byte new.entry e p new.storing w)
            (subst (λ (entries : List Retired). Needed entries (Byte p k)) is needed))
      ]

  -- a byte with a bit that is needed throughout is pending in a cycle only where it is so in the earlier ones
  pub pending-earlier : (p k t u : ℕ) → t ≤ u → u < story.r.cycles
      → ((i : ℕ) → retired (moment story t) ≤ i → i ≤ retired (moment story u) → Needed (drop i story.run.entries) (Byte p k))
      → IsPending (moment story u) p → IsPending (moment story t) p
  pending-earlier p k t zero l below needed h =
      let e : zero ≡ t = omega (arith, l) in subst (λ (t : ℕ). IsPending (moment story t) p) e h
  pending-earlier p k t (suc u) l below needed h =
      elim (cases_eq (suc u) t) [
        | inl same ↦ subst (λ (t : ℕ). IsPending (moment story t) p) same h
        | inr ne ↦
            let rises = retired-rises story t u (omega (arith, l, ne)) in
            let next = retired-rises story u (suc u) (omega arith) in
            pending-earlier p k t u (omega (arith, l, ne)) (omega (arith, below))
            (λ i from to. needed i from (omega (arith, to, next)))
            (pending-before p k u (omega (arith, below)) (needed (retired (moment story u)) rises next) h)
      ]
