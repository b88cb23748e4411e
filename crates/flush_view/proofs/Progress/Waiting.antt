-- While an occupied EX/MEM waits, one number falls: 20 for each pending store, and the wait of the client that is served first.
use Rattle.std.proofs.Common.{◌≡◌, ◌⊎◌, inl, inr, ◌≤◌, ◌<◌, ◌+◌, ◌*◌, ℕ, suc, Bool, true, false, List, ◌++◌, length, append-nil, arith, refl, ap, sym, ◌∙◌}
use Rattle.std.specs.Prelude.{Option, None, ◌==◌, ◌&&◌, if◌then◌else◌}
use Rattle.std.proofs.lemmas.Bool.{true≢false}
use Rattle.elf_load.specs.Image.{LoadedImage, IsImage}
use Rattle.rv_table.specs.declared.action.Action.{Action}
use Rattle.pipe_latch.specs.Forwarding.{operand}
use Rattle.pipe_latch.specs.Latches.{DecodedLatch, ExecutedLatch, ResultLatch}
use Rattle.pipe_latch.specs.LatchedActions.{action_of}
use Rattle.store_buf.specs.Entry.{Entry}
use Rattle.store_buf.specs.Pending.{pending}
use Rattle.wb_cache.specs.Contents.{Contents, IsSized}
use Rattle.cyc_machine.specs.declared.fate.Fate.TheVariants.{Absent, Dropped, Stays}
use Rattle.cyc_machine.specs.declared.port.Move.{Move}
use Rattle.cyc_machine.specs.declared.port.Move.TheVariants.{Rests, Reads, Drains, Misses, Waits, Leaves, Fills}
use Rattle.cyc_machine.specs.Cycle.{action_in_m, cycle, cycled, end_in, move, served_m}
use Rattle.cyc_machine.specs.Memory.{cache_after, kept_stores, load_client, port_after, served, store_client, stores_after, word_read}
use Rattle.cyc_machine.specs.Pipeline.{executed_after, fate_of, goes_with, operand_b}
use Rattle.cyc_machine.specs.PortState.{PortState}
use Rattle.cyc_machine.specs.State.{State}
use Rattle.cyc_machine.proofs.PendingNext.{pending-after}
use Rattle.cyc_machine.proofs.Tells.{Tells, tells}
use Rattle.flush_view.proofs.Progress.PortWait.{IsPassive, Timed, bounded, falls, timed, wait-below, wait_of}
use Rattle.flush_view.proofs.Progress.Stalled.{IsStuck, kept-less, read-goes, stuck}
use Rattle.cyc_machine.specs.Sizes.{IsSteady}

less_as : (a b c : ℕ) → a ≡ b → b < c → a < c
less_as a b c e h = omega arith

-- ---- the measure over plain variables

abbrev pub measure : LoadedImage → Action → List Entry → PortState → Contents → ℕ
measure image a stores port c = 20 * length stores + wait_of port c (load_client image a stores) (store_client image stores)

module _ (image : LoadedImage) (a : Action) (stores : List Entry) (port : PortState) (c : Contents) (memory : List ℕ) where
  abbrev load : Option ℕ
  load = load_client image a stores

  abbrev store : Option Entry
  store = store_client image stores

  measure-by : (v : Move) → IsImage image → length memory ≡ length image.ram → IsSized c → Timed port c load store v
      → ((kept_stores image v stores ≡ stores) × IsPassive v) ⊎ (suc (length (kept_stores image v stores)) ≤ length stores)
      → measure image a (kept_stores image v stores) (port_after v port) (cache_after image v memory c) < measure image a stores port c
  measure-by v is long sized t (inl same) =
      let less = falls image c memory is long sized port load store v t same.1 in
      rw same.0 (omega arith)
  measure-by v is long sized t (inr less) =
      let bound =
      bounded image c memory is long sized port load (load_client image a (kept_stores image v stores)) store
      (store_client image (kept_stores image v stores)) v t in
      omega arith

  never_reads : (v : Move) → Tells c load store v → (served image a stores (word_read v c)).goes ≡ false → (word way : ℕ) → v ≡ Reads word way → ⊥
  never_reads Rests t h word way e = absurd cc
  never_reads (Reads at there) t h word way e = true≢false (sym (read-goes image a stores c at there t.0 t.1) ∙ h)
  never_reads (Drains other there) t h word way e = absurd cc
  never_reads (Misses line there count owner) t h word way e = absurd cc
  never_reads Waits t h word way e = absurd cc
  never_reads Leaves t h word way e = absurd cc
  never_reads (Fills line there) t h word way e = absurd cc

  measure-falls : (v : Move) → Tells c load store v → Timed port c load store v → IsImage image → length memory ≡ length image.ram → IsSized c
      → (served image a stores (word_read v c)).goes ≡ false
      → measure image a (kept_stores image v stores) (port_after v port) (cache_after image v memory c) < measure image a stores port c
  measure-falls v t u is long sized h =
      measure-by v is long sized u (kept-less image port c load stores v u (never_reads v t h) (stuck image a stores (word_read v c) h).asks)

-- ---- the state

abbrev pub measure_of : State → ℕ
measure_of s = measure s.image (action_in_m s) (pending s.stores) s.port s.cache

-- ID/EX doesn't leave while EX/MEM waits
executed-stays : (image : LoadedImage) (d : DecodedLatch) (npc : ℕ) (a : Action) (w : ResultLatch) (cycle issued : ℕ) (m : ExecutedLatch)
    → executed_after image (fate_of d npc a w false) false d cycle issued m ≡ m
unfolding executed_after fate_of
executed-stays image d npc a w cycle issued m = go d.valid (d.pc == npc) (d.count == 0)
  where
    go : (v p k : Bool)
        → executed_after image (if v then (if p then (if k && false then goes_with (operand a w d.rs1 d.a) (operand_b d a w) else Stays) else Dropped)
        else Absent) false d cycle issued m ≡ m
    go true true true = refl
    go true true false = refl
    go true false k = refl
    go false p k = refl

module _ (s : State) (is : IsSteady s) (waits : (served_m s).goes ≡ false) where
  pub m-stays : (cycle s).m ≡ s.m
  unfolding cycled
  m-stays =
      ap (λ b. executed_after s.image (fate_of s.d s.npc (action_in_m s) s.w b) b s.d s.cycle s.issued s.m) waits
      ∙ executed-stays s.image s.d s.npc (action_in_m s) s.w s.cycle s.issued s.m

  is_stuck : IsStuck s.image (action_in_m s) (pending s.stores)
  is_stuck = stuck s.image (action_in_m s) (pending s.stores) (word_read (move s) s.cache) waits

  pub no-end : end_in s ≡ None
  no-end = is_stuck.goes_on

  stores-next : pending (cycle s).stores ≡ kept_stores s.image (move s) (pending s.stores)
  unfolding cycled stores_after
  stores-next =
      pending-after s.image (action_in_m s) (move s) s.stores
      ∙ ap (λ (es : List Entry). kept_stores s.image (move s) (pending s.stores) ++ es) is_stuck.added ∙ append-nil _

  measure-next : measure_of (cycle s) ≡ measure s.image (action_in_m s) (kept_stores s.image (move s) (pending s.stores)) (port_after (move s) s.port)
      (cache_after s.image (move s) s.memory s.cache)
  unfolding cycled
  measure-next =
      ap (λ (es : List Entry). measure s.image (action_of (cycle s).m) es (port_after (move s) s.port) (cache_after s.image (move s) s.memory s.cache))
      stores-next
      ∙ ap (λ (m : ExecutedLatch). measure s.image (action_of m) (kept_stores s.image (move s) (pending s.stores)) (port_after (move s) s.port)
      (cache_after s.image (move s) s.memory s.cache)) m-stays

  pub measure-less : measure_of (cycle s) < measure_of s
  measure-less =
      less_as (measure_of (cycle s)) _ (measure_of s) measure-next
      (measure-falls s.image (action_in_m s) (pending s.stores) s.port s.cache s.memory (move s)
      (tells s.port s.cache (load_client s.image (action_in_m s) (pending s.stores)) (store_client s.image (pending s.stores)))
      (timed s.port s.cache (load_client s.image (action_in_m s) (pending s.stores)) (store_client s.image (pending s.stores)))
      is.image is.memory is.cache waits)

pub measure-below : (s : State) → IsSteady s → measure_of s ≤ 129
measure-below s is =
    let wait : wait_of s.port s.cache (load_client s.image (action_in_m s) (pending s.stores))
    (store_client s.image (pending s.stores)) ≤ s.port.count + 18 = wait-below s.port.count _ _ in
    below (length (pending s.stores)) _ s.port.count is.stores is.port wait
  where
    below : (n x count : ℕ) → n ≤ 4 → count < 32 → x ≤ count + 18 → 20 * n + x ≤ 129
    below n x count h k l = omega arith
