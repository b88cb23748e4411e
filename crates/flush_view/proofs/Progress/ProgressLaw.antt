-- The progress law: from every steady state an occupied EX/MEM is soon left, no end having come before.
use Rattle.std.proofs.Common.{◌≡◌, ◌⊎◌, inl, inr, ◌≤◌, ◌<◌, ◌+◌, ℕ, zero, suc, Bool, true, false, List, [], ◌∷◌, arith, refl, ap, sym, ◌∙◌}
use Rattle.std.specs.Prelude.{None, ◌==◌, ◌&&◌}
use Rattle.std.proofs.lemmas.Bool.{eq-eqb}
use Rattle.pipe_latch.specs.Latches.{ExecutedLatch}
use Rattle.inst_buf.specs.Buffer.{entries}
use Rattle.inst_buf.specs.Entry.{Entry}
use Rattle.cyc_machine.specs.Cycle.{cycle, end_in, retires, served_m}
use Rattle.cyc_machine.specs.Pipeline.{fetched}
use Rattle.cyc_machine.specs.Run.{state_after}
use Rattle.cyc_machine.specs.State.{State}
use Rattle.flush_view.specs.Progress.{LeavesWithin}
use Rattle.flush_view.proofs.Progress.Phases.{dropped_next, empty-end, fetched-pc, fetched_next, goes_next, stays_next, taken_next}
use Rattle.cyc_machine.proofs.Sizes.Lasting.{steady-next}
use Rattle.cyc_machine.specs.Sizes.{IsSteady}
use Rattle.flush_view.proofs.Progress.Waiting.{m-stays, measure-below, measure-less, measure_of, no-end}

less_below : (a b n : ℕ) → a < b → b < suc n → a < n
less_below a b n h k = omega arith

below_bound : (a n : ℕ) → a ≤ 129 → 130 ≤ n → a < n
below_bound a n h k = omega arith

both : (a b : Bool) → a ≡ true → b ≡ true → (a && b) ≡ true
both a b e f = rw (e, f) refl

-- ---- cycle by cycle

unfoldable Leaves : ℕ → State → Type 0
Leaves zero s = ⊥
Leaves (suc n) s = (retires s ≡ true) ⊎ ((end_in s ≡ None) × Leaves n (cycle s))

leaves-now : (n : ℕ) (s : State) → retires s ≡ true → Leaves (suc n) s
unfolding Leaves
leaves-now n s r = inl r

leaves-later : (n : ℕ) (s : State) → end_in s ≡ None → Leaves n (cycle s) → Leaves (suc n) s
unfolding Leaves
leaves-later n s e l = inr (e, l)

leaves-more : (m n : ℕ) (s : State) → m ≤ n → Leaves m s → Leaves n s
unfolding Leaves
leaves-more zero n s h l = absurd l
leaves-more (suc m) zero s h l = absurd (omega arith)
leaves-more (suc m) (suc n) s h (inl r) = inl r
leaves-more (suc m) (suc n) s h (inr l) = inr (l.0, leaves-more m n (cycle s) (omega arith) l.1)

later : (n m : ℕ) (s : State) → suc n ≤ m → end_in s ≡ None → Leaves n (cycle s) → Leaves m s
later n m s h e l = leaves-more (suc n) m s h (leaves-later n s e l)

-- the cycles from the next state on
after_next : (k : ℕ) (s : State) → state_after k (cycle s) ≡ cycle (state_after k s)
unfolding state_after
after_next zero s = refl
after_next (suc k) s = ap cycle (after_next k s)

within_later : (n : ℕ) (s : State) → end_in s ≡ None → LeavesWithin n (cycle s) → LeavesWithin (suc n) s
unfolding state_after
within_later n s e w = record {
  waits = suc w.waits;
  within = omega (arith, w.within);
  running = running;
  leaves = ap (λ (t : State). retires t) (sym (after_next w.waits s)) ∙ w.leaves;
}
  where
    running : (k : ℕ) → k < suc w.waits → end_in (state_after k s) ≡ None
    running zero h = e
    running (suc k) h = ap (λ (t : State). end_in t) (sym (after_next k s)) ∙ w.running k (omega arith)

within_now : (n : ℕ) (s : State) → retires s ≡ true → LeavesWithin (suc n) s
unfolding state_after
within_now n s r = record { waits = 0; within = omega arith; running = λ k h. absurd (omega arith); leaves = r }

leaves-within : (n : ℕ) (s : State) → Leaves n s → LeavesWithin n s
unfolding Leaves
leaves-within zero s l = absurd l
leaves-within (suc n) s (inl r) = within_now n s r
leaves-within (suc n) s (inr l) = within_later n s l.0 (leaves-within n (cycle s) l.1)

-- ---- EX/MEM is occupied

one_cycle : (n : ℕ) (s : State) → IsSteady s → s.m.valid ≡ true → ((served_m s).goes ≡ false → Leaves n (cycle s)) → Leaves (suc n) s
one_cycle n s is v next = go (served_m s).goes refl
  where
    go : (b : Bool) → (served_m s).goes ≡ b → Leaves (suc n) s
    go true e = leaves-now n s (both s.m.valid (served_m s).goes v e)
    go false e = leaves-later n s (no-end s is e) (next e)

occupied : (n : ℕ) (s : State) → measure_of s < n → IsSteady s → s.m.valid ≡ true → Leaves n s
occupied zero s h is v = absurd (omega arith)
occupied (suc n) s h is v =
    one_cycle n s is v (λ e.
    occupied n (cycle s) (less_below (measure_of (cycle s)) (measure_of s) n (measure-less s is e) h) (steady-next s is)
    (ap (λ (m : ExecutedLatch). m.valid) (m-stays s is e) ∙ v))

full : (n : ℕ) (s : State) → 130 ≤ n → IsSteady s → s.m.valid ≡ true → Leaves n s
full n s h is v = occupied n s (below_bound (measure_of s) n (measure-below s is) h) is v

-- ---- EX/MEM is empty, and ID/EX is at the address that comes next

ready : (c n : ℕ) (s : State) → 131 + c ≤ n → IsSteady s → s.m.valid ≡ false → s.d.valid ≡ true → (s.d.pc == s.npc) ≡ true → s.d.count ≡ c
    → Leaves n s
ready zero n s h is m v p k =
    later 130 n s (omega arith) (empty-end s m) (full 130 (cycle s) (omega arith) (steady-next s is) (goes_next s m v p (eq-eqb s.d.count 0 k)))
ready (suc c) n s h is m v p k =
    let next = stays_next s m c v p k in
    later (131 + c) n s (omega arith) (empty-end s m) (ready c (131 + c) (cycle s) (omega arith) (steady-next s is) next.0 next.1 next.2 next.3)

present : (n : ℕ) (s : State) → 163 ≤ n → IsSteady s → s.m.valid ≡ false → s.d.valid ≡ true → (s.d.pc == s.npc) ≡ true → Leaves n s
present n s h is m v p = ready s.d.count n s (omega (arith, is.d.count)) is m v p refl

-- ---- and before that

wanted : (n : ℕ) (s : State) (e : Entry) (es : List Entry) → 164 ≤ n → IsSteady s → s.m.valid ≡ false → s.d.valid ≡ false → entries s.buffer ≡ e ∷ es
    → e.pc ≡ s.npc → Leaves n s
wanted n s e es h is m v w at =
    let next = taken_next s m e es v w in
    later 163 n s h (empty-end s m) (present 163 (cycle s) (omega arith) (steady-next s is) next.0 next.1
    (eq-eqb (cycle s).d.pc (cycle s).npc (next.2 ∙ at ∙ sym next.3)))

refetch : (n : ℕ) (s : State) → 165 ≤ n → IsSteady s → s.m.valid ≡ false → s.d.valid ≡ false → entries s.buffer ≡ [] → s.pc ≡ s.npc → Leaves n s
refetch n s h is m v w at =
    let next = fetched_next s m is v w in
    later 164 n s h (empty-end s m) (wanted 164 (cycle s) (fetched s.image s.pc) [] (omega arith) (steady-next s is) next.0 next.1 next.2
    (fetched-pc s.image s.pc ∙ at ∙ sym next.3))

some : (n : ℕ) (s : State) → 166 ≤ n → IsSteady s → s.m.valid ≡ false → s.d.valid ≡ true → Leaves n s
some n s h is m v = go (s.d.pc == s.npc) refl
  where
    go : (b : Bool) → (s.d.pc == s.npc) ≡ b → Leaves n s
    go true p = present n s (omega arith) is m v p
    go false p =
        let next = dropped_next s m is v p in
        later 165 n s h (empty-end s m) (refetch 165 (cycle s) (omega arith) (steady-next s is) next.0 next.1 next.2 next.3)

front : (n : ℕ) (s : State) (e : Entry) (es : List Entry) → 167 ≤ n → IsSteady s → s.m.valid ≡ false → s.d.valid ≡ false → entries s.buffer ≡ e ∷ es
    → Leaves n s
front n s e es h is m v w =
    let next = taken_next s m e es v w in
    later 166 n s h (empty-end s m) (some 166 (cycle s) (omega arith) (steady-next s is) next.0 next.1)

none : (n : ℕ) (s : State) → 168 ≤ n → IsSteady s → s.m.valid ≡ false → s.d.valid ≡ false → Leaves n s
none n s h is m v = go (entries s.buffer) refl
  where
    go : (es : List Entry) → entries s.buffer ≡ es → Leaves n s
    go (e ∷ es) w = front n s e es (omega arith) is m v w
    go [] w =
        let next = fetched_next s m is v w in
        later 167 n s h (empty-end s m) (front 167 (cycle s) (fetched s.image s.pc) [] (omega arith) (steady-next s is) next.0 next.1 next.2)

-- ---- all of it

any : (n : ℕ) (s : State) → 168 ≤ n → IsSteady s → Leaves n s
any n s h is = go s.m.valid s.d.valid refl refl
  where
    go : (m d : Bool) → s.m.valid ≡ m → s.d.valid ≡ d → Leaves n s
    go true d m v = full n s (omega arith) is m
    go false true m v = some n s (omega arith) is m v
    go false false m v = none n s h is m v

pub progress : (s : State) → IsSteady s → LeavesWithin 256 s
progress s is = leaves-within 256 s (any 256 s (omega arith) is)
