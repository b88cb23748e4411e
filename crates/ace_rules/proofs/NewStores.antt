-- Which stores wait after a cycle: those that waited, and the one that the memory stage is done with.
use Rattle.std.proofs.Common.{◌≡◌, ◌⊎◌, ◌++◌, ◌/◌, ◌&&◌, zero, suc, ℕ, Bool, true, false, List, [], ◌∷◌, Some, slice_get, refl, subst}
use Rattle.std.proofs.Common.{inl, inr, length, nat_lt, if◌then◌else◌}
use Rattle.elf_load.specs.Image.{LoadedImage, word_in_ram}
use Rattle.rv_table.specs.declared.action.Action.{Action}
use Rattle.rv_table.specs.declared.action.Action.TheVariants.{Nothing, Writes, Loads, Stores, Puts, Exits, Traps}
use Rattle.rv_table.specs.declared.operation.StoreKind.{StoreKind}
use Rattle.store_buf.specs.Entry.{Entry}
use Rattle.store_buf.specs.Pending.{oldest, pending, younger}
use Rattle.cyc_machine.specs.Cycle.{action_in_m, cycle, cycled, move}
use Rattle.cyc_machine.specs.Memory.{appended, entry_of, is_stray, kept_stores, stores_after}
use Rattle.cyc_machine.specs.State.{State}
use Rattle.cyc_machine.specs.declared.port.Move.{Move}
use Rattle.cyc_machine.specs.declared.port.Move.TheVariants.{Rests, Reads, Drains, Misses, Waits, Leaves, Fills}
use Rattle.cyc_machine.proofs.PendingNext.{pending-after}

-- a store is one of a list
abbrev pub IsAmong : Entry → List Entry → Type 0
IsAmong e es = (i : ℕ) × (slice_get es i ≡ Some e)

-- it is the one that an action makes
pub record IsStoreOf (m : Action) (e : Entry) : Type 0 where
  pub kind : StoreKind
  pub x : ℕ
  pub y : ℕ
  pub action : m ≡ Stores kind x y
  pub entry : e ≡ entry_of kind x y

among-both : (xs ys : List Entry) (i : ℕ) (e : Entry) → slice_get (xs ++ ys) i ≡ Some e → IsAmong e xs ⊎ IsAmong e ys
among-both [] ys i e h = inr (i, h)
among-both (x ∷ xs) ys zero e h = inl (zero, h)
among-both (x ∷ xs) ys (suc i) e h = elim (among-both xs ys i e h) [ inl g ↦ inl (suc g.0, g.1) | inr g ↦ inr g ]

-- ---- the stores that stay

younger-among : (es : List Entry) (e : Entry) → IsAmong e (younger es) → IsAmong e es
younger-among [] e h = h
younger-among (x ∷ es) e h = (suc h.0, h.1)

stray-among : (stray : Bool) (es : List Entry) (e : Entry) → IsAmong e (if stray then younger es else es) → IsAmong e es
stray-among true es e h = younger-among es e h
stray-among false es e h = h

kept-among : (image : LoadedImage) (v : Move) (es : List Entry) (e : Entry) → IsAmong e (kept_stores image v es) → IsAmong e es
kept-among image Rests es e h = stray-among (is_stray image (oldest es)) es e h
kept-among image (Reads word way) es e h = stray-among (is_stray image (oldest es)) es e h
kept-among image (Drains d way) es e h = younger-among es e h
kept-among image (Misses line way count owner) es e h = stray-among (is_stray image (oldest es)) es e h
kept-among image Waits es e h = stray-among (is_stray image (oldest es)) es e h
kept-among image Leaves es e h = stray-among (is_stray image (oldest es)) es e h
kept-among image (Fills line way) es e h = stray-among (is_stray image (oldest es)) es e h

-- ---- the new one

none-among : (i : ℕ) (e : Entry) → slice_get [] i ≡ Some e → ⊥
none-among i e h = absurd cc

alone : (b : Bool) (x e : Entry) (i : ℕ) → slice_get (if b then x ∷ [] else []) i ≡ Some e → e ≡ x
alone true x e zero h = cc
alone true x e (suc i) h = absurd cc
alone false x e i h = absurd cc

appended-is : (image : LoadedImage) (m : Action) (room : Bool) (i : ℕ) (e : Entry) → slice_get (appended image m room) i ≡ Some e → IsStoreOf m e
unfolding appended
appended-is image Nothing room i e h = absurd (none-among i e h)
appended-is image (Writes rd value) room i e h = absurd (none-among i e h)
appended-is image (Loads kind rd x) room i e h = absurd (none-among i e h)
appended-is image (Stores kind x y) room i e h =
    record { kind = kind; x = x; y = y; action = refl; entry = alone (room && word_in_ram image (x / 4)) (entry_of kind x y) e i h }
appended-is image (Puts value) room i e h = absurd (none-among i e h)
appended-is image (Exits value) room i e h = absurd (none-among i e h)
appended-is image (Traps cause) room i e h = absurd (none-among i e h)

-- ---- a cycle

after-among : (image : LoadedImage) (m : Action) (v : Move) (es : List Entry) (e : Entry) → IsAmong e (stores_after image m v es)
    → IsAmong e es ⊎ IsStoreOf m e
unfolding stores_after
after-among image m v es e (i, h) =
    elim (among-both (kept_stores image v es) (appended image m (nat_lt (length es) 4)) i e h) [
      | inl g ↦ inl (kept-among image v es e g)
      | inr g ↦ inr (appended-is image m (nat_lt (length es) 4) g.0 e g.1)
    ]

pub waits-after : (s : State) (e : Entry) → IsAmong e (pending (cycle s).stores) → IsAmong e (pending s.stores) ⊎ IsStoreOf (action_in_m s) e
unfolding cycled
waits-after s e h =
    after-among s.image (action_in_m s) (move s) (pending s.stores) e (subst (IsAmong e) (pending-after s.image (action_in_m s) (move s) s.stores) h)
