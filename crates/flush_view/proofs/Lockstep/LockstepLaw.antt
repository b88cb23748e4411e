-- The lockstep law: two states that differ in ignored fields alone do the same for ever.
use Rattle.std.proofs.Common.{◌≡◌, ℕ, zero, suc, ◌+◌, Bool, List, length, refl, sym, ap, ◌∙◌, subst}
use Rattle.std.specs.Prelude.{◌&&◌, Option, is_some, map}
use Rattle.std.specs.Option.{option_map}
use Rattle.rv_isa.specs.Instruction.{end_of}
use Rattle.rv_table.specs.Effects.{byte_put}
use Rattle.rv_table.specs.declared.action.Action.{Action}
use Rattle.inst_buf.specs.Buffer.{entries, packed as packed_entries}
use Rattle.inst_buf.specs.Entry.{Entry as Fetched}
use Rattle.pipe_latch.specs.Latches.{DecodedLatch, ExecutedLatch}
use Rattle.pipe_latch.specs.LatchedActions.{action_of}
use Rattle.store_buf.specs.Entry.{Entry}
use Rattle.store_buf.specs.Pending.{packed, pending}
use Rattle.elf_load.specs.Image.{LoadedImage}
use Rattle.cyc_machine.specs.declared.fate.Fate.{Fate}
use Rattle.cyc_machine.specs.declared.fate.Fate.TheVariants.{Absent}
use Rattle.cyc_machine.specs.declared.memory_stage.Served.{Served}
use Rattle.cyc_machine.specs.Cycle.{action_in_m, cycle, cycled, done_in, event_by, event_in, fate, issued_from, move, next_fetch, served_m}
use Rattle.cyc_machine.specs.Memory.{cache_after, load_client, memory_after, move_of, port_after, result_after, served, store_client, stores_after, word_read}
use Rattle.cyc_machine.specs.Pipeline.{decoded_after, entries_after, executed_after, fate_of, issued_after, lesson, npc_after, trained_by, written_registers}
use Rattle.cyc_machine.specs.Run.{state_after}
use Rattle.cyc_machine.specs.State.{State}
use Rattle.flush_view.specs.Ignored.{DiffersInIgnored, GoesInLockstep, LockstepLaw, SameLines}
use Rattle.cyc_machine.specs.Reports.{SameReport}
use Rattle.flush_view.specs.Ignored.{read_of_decoded, read_of_executed, read_of_fetched, read_of_pending, read_of_result}
use Rattle.flush_view.proofs.Lockstep.NextLines.{lines-next, memory-next}
use Rattle.flush_view.proofs.Lockstep.Latches.{action-read, decoded-cases, entries-read, same-by_d, valid-read}
use Rattle.flush_view.proofs.Lockstep.Lines.{event-lines, move-same, word_read-lines}
use Rattle.flush_view.proofs.Lockstep.PortMoves.{event-same, masked_move, move-masked, port-same, stores-same, word_read-same}
use Rattle.flush_view.proofs.Lockstep.NextLatches.{decoded-empty, decoded-same, executed-empty, executed-same, npc-empty, registers-same, tables-empty}
use Rattle.flush_view.proofs.Lockstep.Stores.{load_client-same, masked_entries, masked_entry, pending-same, served-same, store_client-same}
use Rattle.cyc_machine.proofs.Tells.{Tells, tells}
use Rattle.cyc_machine.proofs.Sizes.Lasting.{steady-after, steady-next}
use Rattle.cyc_machine.specs.Sizes.{IsSteady}

module _ (s u : State) (same : DiffersInIgnored s u) where
  abbrev stores : State → List Entry
  stores x = pending x.stores

  abbrev load : State → Option ℕ
  load x = load_client x.image (action_in_m x) (stores x)

  abbrev store : State → Option Entry
  store x = store_client x.image (stores x)

  same-entries : entries s.buffer ≡ entries u.buffer
  same-entries = sym (entries-read s.buffer) ∙ ap entries same.buffer ∙ entries-read u.buffer

  same-action : action_in_m s ≡ action_in_m u
  same-action = sym (action-read s.m) ∙ ap action_of same.m ∙ action-read u.m

  same-valid : s.m.valid ≡ u.m.valid
  same-valid = sym (valid-read s.m) ∙ ap (λ (m : ExecutedLatch). m.valid) same.m ∙ valid-read u.m

  same-stores : masked_entries (stores s) ≡ masked_entries (stores u)
  same-stores = pending-same s.stores u.stores same.stores

  same-load : load s ≡ load u
  same-load =
      load_client-same (stores s) (stores u) same-stores s.image (action_in_m s)
      ∙ ap (λ (x : LoadedImage). load_client x (action_in_m s) (stores u)) same.image
      ∙ ap (λ (x : Action). load_client u.image x (stores u)) same-action

  same-store : option_map masked_entry (store s) ≡ option_map masked_entry (store u)
  same-store =
      store_client-same (stores s) (stores u) same-stores s.image
      ∙ ap (λ (x : LoadedImage). option_map masked_entry (store_client x (stores u))) same.image

  same-move : masked_move (move s) ≡ masked_move (move u)
  same-move =
      move-masked s.port s.cache (load s) (store s)
      ∙ move-same s.cache u.cache same.cache s.port (load s) (option_map masked_entry (store s))
      ∙ ap (λ x. move_of x u.cache (load s) (option_map masked_entry (store s))) same.port
      ∙ ap (λ x. move_of u.port u.cache x (option_map masked_entry (store s))) same-load
      ∙ ap (λ x. move_of u.port u.cache (load u) x) same-store
      ∙ sym (move-masked u.port u.cache (load u) (store u))

  same-word : word_read (move s) s.cache ≡ word_read (move u) u.cache
  same-word = word_read-same (move s) (move u) same-move s.cache ∙ word_read-lines s.cache u.cache same.cache (move u)

  same-served : served_m s ≡ served_m u
  same-served =
      served-same (stores s) (stores u) same-stores s.image (action_in_m s) (word_read (move s) s.cache)
      ∙ ap (λ (x : LoadedImage). served x (action_in_m s) (stores u) (word_read (move s) s.cache)) same.image
      ∙ ap (λ (x : Action). served u.image x (stores u) (word_read (move s) s.cache)) same-action
      ∙ ap (served u.image (action_in_m u) (stores u)) same-word

  -- what depends on ID/EX and on what becomes of it
  by_d : {A : Type 0} (g : Fate → DecodedLatch → A) → ((x y : DecodedLatch) → g Absent x ≡ g Absent y) → g (fate s) s.d ≡ g (fate u) u.d
  by_d g apart =
      same-by_d g s.d u.d s.npc (action_in_m s) s.w u.w (served_m s).goes (decoded-cases s.d u.d same.d) same.w apart
      ∙ ap (λ n. g (fate_of u.d n (action_in_m s) u.w (served_m s).goes) u.d) same.npc
      ∙ ap (λ (x : Action). g (fate_of u.d u.npc x u.w (served_m s).goes) u.d) same-action
      ∙ ap (λ (x : Served). g (fate_of u.d u.npc (action_in_m u) u.w x.goes) u.d) same-served

  same-fate : fate s ≡ fate u
  same-fate = by_d (λ f d. f) (λ x y. refl)

  -- ---- the report

  same-event : event_in s ≡ event_in u
  same-event =
      event-same (move s) (move u) same-move (action_in_m s) s.cycle s.cache
      ∙ event-lines s.cache u.cache same.cache (move u) (action_in_m s) s.cycle
      ∙ ap (λ (x : Action). event_by (move u) x s.cycle u.cache) same-action
      ∙ ap (λ (x : ℕ). event_by (move u) (action_in_m u) x u.cache) same.cycle

  pub same-report : SameReport s u
  same-report =
      record {
        put = ap (λ (x : Action). byte_put x) same-action;
        issued = by_d issued_from (λ x y. refl);
        retired = ap (λ (b : Bool). b && (served_m s).goes) same-valid ∙ ap (λ (x : Served). u.m.valid && x.goes) same-served;
        event = same-event;
        end = ap (λ (x : Action). end_of x) same-action;
      }

  pub same-done : done_in s ≡ done_in u
  same-done = let a = same-action in let v = same-served in cc

  -- ---- the next state

  next-pc : next_fetch (fate s) s ≡ next_fetch (fate u) u
  next-pc = let p = same.pc in let n = same.npc in let t = same.tables in let e = same-entries in let f = same-fate in cc

  next-npc : npc_after (fate s) s.d s.cycle s.issued s.npc ≡ npc_after (fate u) u.d u.cycle u.issued u.npc
  next-npc =
      by_d (λ f d. npc_after f d s.cycle s.issued s.npc) (λ x y. npc-empty x y s.cycle s.issued s.npc)
      ∙ ap (λ n. npc_after (fate u) u.d n s.issued s.npc) same.cycle
      ∙ ap (λ n. npc_after (fate u) u.d u.cycle n s.npc) same.issued
      ∙ ap (npc_after (fate u) u.d u.cycle u.issued) same.npc

  next-tables : trained_by (lesson (fate s) s.d s.cycle s.issued) s.d.pc s.tables ≡ trained_by (lesson (fate u) u.d u.cycle u.issued) u.d.pc u.tables
  next-tables =
      by_d (λ f d. trained_by (lesson f d s.cycle s.issued) d.pc s.tables) (λ x y. tables-empty x y s.cycle s.issued s)
      ∙ ap (λ n. trained_by (lesson (fate u) u.d n s.issued) u.d.pc s.tables) same.cycle
      ∙ ap (λ n. trained_by (lesson (fate u) u.d u.cycle n) u.d.pc s.tables) same.issued
      ∙ ap (trained_by (lesson (fate u) u.d u.cycle u.issued) u.d.pc) same.tables

  next-entries : entries_after s.image (fate s) s.pc (entries s.buffer) ≡ entries_after u.image (fate u) u.pc (entries u.buffer)
  next-entries = let i = same.image in let p = same.pc in let e = same-entries in let f = same-fate in cc

  next-d : decoded_after (fate s) s.d (entries s.buffer) s.w s.registers ≡ decoded_after (fate u) u.d (entries u.buffer) u.w u.registers
  next-d =
      by_d (λ f d. decoded_after f d (entries s.buffer) s.w s.registers) (λ x y. decoded-empty x y (entries s.buffer) s.w s.registers)
      ∙ decoded-same s.w u.w same.w (fate u) u.d (entries s.buffer) s.registers
      ∙ ap (λ (x : List Fetched). decoded_after (fate u) u.d x u.w s.registers) same-entries
      ∙ ap (decoded_after (fate u) u.d (entries u.buffer) u.w) same.registers

  pub same-decoded : (cycle s).d ≡ (cycle u).d
  unfolding cycled
  same-decoded = next-d

  next-m : read_of_executed (executed_after s.image (fate s) (served_m s).goes s.d s.cycle s.issued s.m)
      ≡ read_of_executed (executed_after u.image (fate u) (served_m u).goes u.d u.cycle u.issued u.m)
  next-m =
      by_d (λ f d. read_of_executed (executed_after s.image f (served_m s).goes d s.cycle s.issued s.m))
      (λ x y. ap read_of_executed (executed-empty s.image (served_m s).goes x y s.cycle s.issued s.m))
      ∙ executed-same s.image (fate u) (served_m s).goes u.d s.cycle s.issued s.m u.m same.m
      ∙ ap (λ (x : LoadedImage). read_of_executed (executed_after x (fate u) (served_m s).goes u.d s.cycle s.issued u.m)) same.image
      ∙ ap (λ (x : Served). read_of_executed (executed_after u.image (fate u) x.goes u.d s.cycle s.issued u.m)) same-served
      ∙ ap (λ n. read_of_executed (executed_after u.image (fate u) (served_m u).goes u.d n s.issued u.m)) same.cycle
      ∙ ap (λ n. read_of_executed (executed_after u.image (fate u) (served_m u).goes u.d u.cycle n u.m)) same.issued

  next-w : result_after (action_in_m s) (served_m s) ≡ result_after (action_in_m u) (served_m u)
  next-w = ap (λ (x : Action). result_after x (served_m s)) same-action ∙ ap (result_after (action_in_m u)) same-served

  next-registers : written_registers s.w s.registers ≡ written_registers u.w u.registers
  next-registers = registers-same s.w u.w same.w s.registers ∙ ap (written_registers u.w) same.registers

  next-stores : map read_of_pending (packed (stores_after s.image (action_in_m s) (move s) (stores s)))
      ≡ map read_of_pending (packed (stores_after u.image (action_in_m u) (move u) (stores u)))
  next-stores =
      stores-same (move s) (move u) same-move s.image (action_in_m s) (stores s) (stores u) same-stores
      ∙ ap (λ (x : LoadedImage). map read_of_pending (packed (stores_after x (action_in_m s) (move u) (stores u)))) same.image
      ∙ ap (λ (x : Action). map read_of_pending (packed (stores_after u.image x (move u) (stores u)))) same-action

  next-port : port_after (move s) s.port ≡ port_after (move u) u.port
  next-port = port-same (move s) (move u) same-move s.port ∙ ap (port_after (move u)) same.port

  module _ (is : IsSteady s) (other : IsSteady u) where
    told : (x : State) → Tells x.cache (load x) (store x) (move x)
    told x = tells x.port x.cache (load x) (store x)

    next-lines : SameLines (cache_after s.image (move s) s.memory s.cache) (cache_after u.image (move u) u.memory u.cache)
    next-lines =
        subst (λ (x : List ℕ). SameLines (cache_after s.image (move s) s.memory s.cache) (cache_after u.image (move u) x u.cache)) same.memory
        (subst (λ (x : LoadedImage). SameLines (cache_after s.image (move s) s.memory s.cache) (cache_after x (move u) s.memory u.cache)) same.image
        (lines-next s.image s.cache u.cache s.memory (load s) (load u) (store s) (store u) (move s)
        (move u) is.image is.memory is.cache other.cache same.cache same-move (told s) (told u)))

    -- main memory keeps its length
    next-long : length (memory_after s.image (move s) s.cache s.memory) ≡ length s.image.ram
    unfolding cycled
    next-long = (steady-next s is).memory

    other-long : length (memory_after u.image (move u) u.cache u.memory) ≡ length u.image.ram
    unfolding cycled
    other-long = (steady-next u other).memory

    next-memory : memory_after s.image (move s) s.cache s.memory ≡ memory_after u.image (move u) u.cache u.memory
    next-memory =
        memory-next s.image s.cache u.cache s.memory (load s) (load u) (store s) (store u) (move s)
        (move u) is.image is.memory is.cache other.cache same.cache same-move (told s) (told u) next-long (rw (same.image, same.memory) other-long)
        ∙ ap (λ (x : LoadedImage). memory_after x (move u) u.cache s.memory) same.image
        ∙ ap (memory_after u.image (move u) u.cache) same.memory

    pub same-next : DiffersInIgnored (cycle s) (cycle u)
    unfolding cycled
    same-next =
        record {
          image = same.image;
          pc = next-pc;
          npc = next-npc;
          tables = next-tables;
          buffer = ap (λ (es : List Fetched). map read_of_fetched (packed_entries es)) next-entries;
          d = ap read_of_decoded next-d;
          m = next-m;
          w = ap read_of_result next-w;
          registers = next-registers;
          stores = next-stores;
          port = next-port;
          cache = next-lines;
          memory = next-memory;
          cycle = ap (λ n. n + 1) same.cycle;
          issued = ap (λ f. issued_after f s.issued) same-fate ∙ ap (issued_after (fate u)) same.issued;
          ended = ap (λ (x : Action). is_some (end_of x)) same-action;
        }

pub lockstep-law : (s : State) → IsSteady s → LockstepLaw s (cycle s)
lockstep-law s is =
    record {
      report = λ u same. same-report s u same;
      done = λ u same. same-done s u same;
      state = λ u other same. same-next s u same is other;
      decoded = λ u same. same-decoded s u same;
    }

-- ---- many cycles

module _ (s u : State) (is : IsSteady s) (other : IsSteady u) (same : DiffersInIgnored s u) where
  lockstep-after : (n : ℕ) → DiffersInIgnored (state_after n s) (state_after n u)
  unfolding state_after
  lockstep-after zero = same
  lockstep-after (suc n) = same-next (state_after n s) (state_after n u) (lockstep-after n) (steady-after n s is) (steady-after n u other)

  decoded-after : (n : ℕ) → (state_after (suc n) s).d ≡ (state_after (suc n) u).d
  unfolding state_after
  decoded-after n = same-decoded (state_after n s) (state_after n u) (lockstep-after n)

  pub goes-in-lockstep : GoesInLockstep s u
  goes-in-lockstep = record {
    state = lockstep-after;
    report = λ n. same-report (state_after n s) (state_after n u) (lockstep-after n);
    done = λ n. same-done (state_after n s) (state_after n u) (lockstep-after n);
    decoded = decoded-after;
  }
