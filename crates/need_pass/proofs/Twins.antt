-- What two instructions do whose operands agree in the bits with a link or a root: the same, but for values.
use Rattle.std.proofs.Common.{◌≡◌, ◌≢◌, ◌⊎◌, ℕ, ◌+◌, ◌*◌, ◌/◌, ◌%◌, ◌^◌, ◌<◌, Bool, true, false, cond, refl, sym, ◌∙◌, ap, subst, arith, eqb-true, inl, inr}
use Rattle.std.specs.Int.{bit_at}
use Rattle.std.specs.Prelude.{not, ◌&&◌, ◌==◌}
use Rattle.std.proofs.lemmas.Bool.{cases_eq}
use Rattle.std.proofs.lemmas.Nat.Bits.{same_from_bits_below, same_from_bits_below}
use Rattle.bit_field.proofs.Low.{bit_at-shr, same_rest}
use Rattle.rv_table.specs.Accesses.{load_size, store_size}
use Rattle.rv_table.specs.Actions.{holds, value_by, taken_by, target_by, misses_target, called, load_asked, store_asked, asked_by, judged, counter_by, is_aligned, some_executable}
use Rattle.rv_table.specs.Arithmetic.{alu, sum32}
use Rattle.rv_table.specs.declared.action.Action.{Action}
use Rattle.rv_table.specs.declared.action.Action.TheVariants.{Nothing, Writes, Loads, Stores, Puts, Exits, Traps}
use Rattle.rv_table.specs.declared.op.Op.{Op}
use Rattle.rv_table.specs.declared.operation.LoadKind.{LoadKind}
use Rattle.rv_table.specs.declared.operation.StoreKind.{StoreKind}
use Rattle.rv_table.specs.declared.operation.CounterKind.TheVariants.{Cycle, Instret, Cycleh, Instreth}
use Rattle.rv_table.specs.declared.operation.Operation.{Operation}
use Rattle.rv_table.specs.declared.operation.Operation.TheVariants.{Illegal, FetchFault, Lui, Auipc, Jal, Jalr, Branch, Load, Store, AluImmediate, Alu, Fence, Ecall, Ebreak, ReadCounter}
use Rattle.need_pass.specs.Links.{LinkA, LinkB}
use Rattle.need_pass.specs.Needed.{RootA, RootB}
use Rattle.need_pass.proofs.SameAlu.{same_alu, same_immediate}

-- Two actions of an operation o, from the operands a and b and from c and d.
pub data Twins (o : Operation) (op : Op) (a b c d : ℕ) : Action → Action → Type 0 where
  nothing : Twins o op a b c d Nothing Nothing
  writes : (rd v w : ℕ) → ((j : ℕ) → j < 32 → ((k : ℕ) → k < 32 → LinkA o op a b k j → bit_at a k ≡ bit_at c k) → ((k : ℕ) → k < 32 → LinkB o a b k j → bit_at b k ≡ bit_at d k) → bit_at v j ≡ bit_at w j) → Twins o op a b c d (Writes rd v) (Writes rd w)
  loads : (kind : LoadKind) (rd x : ℕ) → o ≡ Load kind → x % load_size kind ≡ 0 → Twins o op a b c d (Loads kind rd x) (Loads kind rd x)
  stores : (kind : StoreKind) (x : ℕ) → x % store_size kind ≡ 0 → Twins o op a b c d (Stores kind x b) (Stores kind x d)
  puts : (v w : ℕ) → v % 2 ^ 8 ≡ w % 2 ^ 8 → Twins o op a b c d (Puts v) (Puts w)
  exits : (v w : ℕ) → v % 2 ^ 8 ≡ w % 2 ^ 8 → Twins o op a b c d (Exits v) (Exits w)
  traps : (cause : ℕ) → Twins o op a b c d (Traps cause) (Traps cause)

even_target : (a c imm : ℕ) → imm % 2 ≢ 1 → a / 2 ≡ c / 2 → sum32 a imm / 2 * 2 ≡ sum32 c imm / 2 * 2
even_target a c imm even e = omega arith

-- bit 0 of a jump's base doesn't count where the immediate is even
same_target : (a c imm : ℕ) → a < 2 ^ 32 → c < 2 ^ 32 → ((k : ℕ) → k < 32 → (0 < k) ⊎ (imm % 2 ≡ 1) → bit_at a k ≡ bit_at c k) → sum32 a imm / 2 * 2 ≡ sum32 c imm / 2 * 2
same_target a c imm ha hc same =
    elim (cases_eq (imm % 2) 1) [
      | inl odd ↦ ap (λ x. sum32 x imm / 2 * 2) (same_from_bits_below 32 a c ha hc (λ k l. same k l (inr odd)))
      | inr even ↦
          let e : a / 2 ≡ c / 2 = same_from_bits_below 31 (a / 2) (c / 2) (omega arith) (omega arith) (λ k l. bit_at-shr a 1 k ∙ same (1 + k) (omega arith) (inl (omega arith)) ∙ sym (bit_at-shr c 1 k)) in
          even_target a c imm even e
    ]

-- ---- where a jump goes

pub same_taken : (o : Operation) (op : Op) (clock count a b c d : ℕ) → a < 2 ^ 32 → b < 2 ^ 32 → c < 2 ^ 32 → d < 2 ^ 32 → ((k : ℕ) → k < 32 → RootA o op k → bit_at a k ≡ bit_at c k) → ((k : ℕ) → k < 32 → RootB o a k → bit_at b k ≡ bit_at d k) → taken_by o a (counter_by o clock count b) ≡ taken_by o c (counter_by o clock count d)
unfolding taken_by counter_by
same_taken (Branch kind) op clock count a b c d ha hb hc hd ra rb =
    ap (λ x. holds kind x b) (same_from_bits_below 32 a c ha hc (λ k l. ra k l tt)) ∙ ap (λ x. holds kind c x) (same_from_bits_below 32 b d hb hd (λ k l. rb k l tt))
same_taken _ op clock count a b c d ha hb hc hd ra rb = refl

pub same_target_by : (o : Operation) (op : Op) (at clock count a b c d : ℕ) → a < 2 ^ 32 → b < 2 ^ 32 → c < 2 ^ 32 → d < 2 ^ 32 → ((k : ℕ) → k < 32 → RootA o op k → bit_at a k ≡ bit_at c k) → ((k : ℕ) → k < 32 → RootB o a k → bit_at b k ≡ bit_at d k) → target_by o op at a (counter_by o clock count b) ≡ target_by o op at c (counter_by o clock count d)
unfolding target_by counter_by
same_target_by Jalr op at clock count a b c d ha hb hc hd ra rb = same_target a c op.imm ha hc ra
same_target_by (Branch kind) op at clock count a b c d ha hb hc hd ra rb =
    ap (λ x. target_by (Branch kind) op at x b) (same_from_bits_below 32 a c ha hc (λ k l. ra k l tt)) ∙ ap (λ x. target_by (Branch kind) op at c x) (same_from_bits_below 32 b d hb hd (λ k l. rb k l tt))
same_target_by _ op at clock count a b c d ha hb hc hd ra rb = refl

-- ---- what an operation asks for

-- a jump that may miss its target
jump_twins : (o : Operation) (op : Op) (a b c d : ℕ) (t : Bool) (rd v : ℕ) → Twins o op a b c d (cond t (Traps 2) (Writes rd v)) (cond t (Traps 2) (Writes rd v))
jump_twins o op a b c d true rd v = traps 2
jump_twins o op a b c d false rd v = writes rd v v (λ j l sa sb. refl)

-- the same value, whatever the operands
given : (o : Operation) (op : Op) (a b c d rd v : ℕ) → Twins o op a b c d (Writes rd v) (Writes rd v)
given o op a b c d rd v = writes rd v v (λ j l sa sb. refl)

load_twins : (kind : LoadKind) (op : Op) (a b c d rd x : ℕ) → Twins (Load kind) op a b c d (load_asked kind rd x) (load_asked kind rd x)
load_twins kind op a b c d rd x = go (x % load_size kind == 0) refl
  where
    go : (t : Bool) → (x % load_size kind == 0) ≡ t → Twins (Load kind) op a b c d (cond t (Loads kind rd x) (Traps 4)) (cond t (Loads kind rd x) (Traps 4))
    go true e = loads kind rd x refl (eqb-true (x % load_size kind) 0 e)
    go false e = traps 4

store_twins : (o : Operation) (kind : StoreKind) (op : Op) (a b c d x : ℕ) → Twins o op a b c d (store_asked kind x b) (store_asked kind x d)
store_twins o kind op a b c d x = go (x % store_size kind == 0) refl
  where
    go : (t : Bool) → (x % store_size kind == 0) ≡ t → Twins o op a b c d (cond t (Stores kind x b) (Traps 4)) (cond t (Stores kind x d) (Traps 4))
    go true e = stores kind x (eqb-true (x % store_size kind) 0 e)
    go false e = traps 4

call_twins : (o : Operation) (op : Op) (a b c d x v w : ℕ) → ((k : ℕ) → k < 32 → (k < 8) × ((x ≡ 1) ⊎ (x ≡ 93)) → bit_at v k ≡ bit_at w k) → Twins o op a b c d (called x v) (called x w)
call_twins o op a b c d x v w same = go (x == 1) refl (x == 93) refl
  where
    byte : (x ≡ 1) ⊎ (x ≡ 93) → v % 2 ^ 8 ≡ w % 2 ^ 8
    byte s = same_rest 8 v w (λ k l. same k (omega arith) (l, s))

    go : (t : Bool) → (x == 1) ≡ t → (u : Bool) → (x == 93) ≡ u → Twins o op a b c d (cond t (Puts v) (cond u (Exits v) (Traps 8))) (cond t (Puts w) (cond u (Exits w) (Traps 8)))
    go true e u f = puts v w (byte (inl (eqb-true x 1 e)))
    go false e true f = exits v w (byte (inr (eqb-true x 93 f)))
    go false e false f = traps 8

pub asked_twins : (o : Operation) (op : Op) (pc clock count a b c d : ℕ) → a < 2 ^ 32 → b < 2 ^ 32 → c < 2 ^ 32 → d < 2 ^ 32 → op.imm < 2 ^ 32 → ((k : ℕ) → k < 32 → RootA o op k → bit_at a k ≡ bit_at c k) → ((k : ℕ) → k < 32 → RootB o a k → bit_at b k ≡ bit_at d k) → Twins o op a b c d (asked_by o op pc a (counter_by o clock count b)) (asked_by o op pc c (counter_by o clock count d))
unfolding asked_by value_by taken_by target_by counter_by
asked_twins Illegal op pc clock count a b c d ha hb hc hd hi ra rb = traps 3
asked_twins FetchFault op pc clock count a b c d ha hb hc hd hi ra rb = traps 1
asked_twins Lui op pc clock count a b c d ha hb hc hd hi ra rb = given Lui op a b c d op.rd op.imm
asked_twins Auipc op pc clock count a b c d ha hb hc hd hi ra rb = given Auipc op a b c d op.rd (sum32 (4 * pc) op.imm)
asked_twins Jal op pc clock count a b c d ha hb hc hd hi ra rb = jump_twins Jal op a b c d (misses_target Jal op pc a b) op.rd (sum32 (4 * pc) 4)
asked_twins Jalr op pc clock count a b c d ha hb hc hd hi ra rb =
    subst (λ (x : ℕ). Twins Jalr op a b c d (cond (not (is_aligned 4 (sum32 a op.imm / 2 * 2))) (Traps 2) (Writes op.rd (sum32 (4 * pc) 4))) (cond (not (is_aligned 4 x)) (Traps 2) (Writes op.rd (sum32 (4 * pc) 4)))) (same_target a c op.imm ha hc ra) (jump_twins Jalr op a b c d (not (is_aligned 4 (sum32 a op.imm / 2 * 2))) op.rd (sum32 (4 * pc) 4))
asked_twins (Branch kind) op pc clock count a b c d ha hb hc hd hi ra rb =
    let P : ℕ → ℕ → Type 0 = λ x y. Twins (Branch kind) op a b c d (asked_by (Branch kind) op pc a b) (asked_by (Branch kind) op pc x y) in
    subst (λ (y : ℕ). P c y) (same_from_bits_below 32 b d hb hd (λ k l. rb k l tt)) (subst (λ (x : ℕ). P x b) (same_from_bits_below 32 a c ha hc (λ k l. ra k l tt)) (jump_twins (Branch kind) op a b c d (misses_target (Branch kind) op pc a b) 0 0))
asked_twins (Load kind) op pc clock count a b c d ha hb hc hd hi ra rb =
    subst (λ (x : ℕ). Twins (Load kind) op a b c d (load_asked kind op.rd (sum32 a op.imm)) (load_asked kind op.rd (sum32 x op.imm))) (same_from_bits_below 32 a c ha hc (λ k l. ra k l tt)) (load_twins kind op a b c d op.rd (sum32 a op.imm))
asked_twins (Store kind) op pc clock count a b c d ha hb hc hd hi ra rb =
    subst (λ (x : ℕ). Twins (Store kind) op a b c d (store_asked kind (sum32 a op.imm) b) (store_asked kind (sum32 x op.imm) d)) (same_from_bits_below 32 a c ha hc (λ k l. ra k l tt)) (store_twins (Store kind) kind op a b c d (sum32 a op.imm))
asked_twins (AluImmediate kind) op pc clock count a b c d ha hb hc hd hi ra rb =
    writes op.rd (alu kind a op.imm) (alu kind c op.imm) (λ j l sa sb. same_immediate kind a c op.imm j ha hc hi l sa)
asked_twins (Alu kind) op pc clock count a b c d ha hb hc hd hi ra rb =
    writes op.rd (alu kind a b) (alu kind c d) (λ j l sa sb. same_alu kind a b c d j ha hb hc hd l sa sb)
asked_twins Fence op pc clock count a b c d ha hb hc hd hi ra rb = given Fence op a b c d 0 0
asked_twins Ecall op pc clock count a b c d ha hb hc hd hi ra rb =
    subst (λ (x : ℕ). Twins Ecall op a b c d (called a b) (called x d)) (same_from_bits_below 32 a c ha hc (λ k l. ra k l tt)) (call_twins Ecall op a b c d a b d rb)
asked_twins Ebreak op pc clock count a b c d ha hb hc hd hi ra rb = traps 7
asked_twins (ReadCounter Cycle) op pc clock count a b c d ha hb hc hd hi ra rb = given (ReadCounter Cycle) op a b c d op.rd clock
asked_twins (ReadCounter Instret) op pc clock count a b c d ha hb hc hd hi ra rb = given (ReadCounter Instret) op a b c d op.rd count
asked_twins (ReadCounter Cycleh) op pc clock count a b c d ha hb hc hd hi ra rb = given (ReadCounter Cycleh) op a b c d op.rd 0
asked_twins (ReadCounter Instreth) op pc clock count a b c d ha hb hc hd hi ra rb = given (ReadCounter Instreth) op a b c d op.rd 0

-- ---- and what memory makes of it

pub judged_twins : (ram executable : ℕ → Bool) (o : Operation) (op : Op) (a b c d : ℕ) (x y : Action) → Twins o op a b c d x y → Twins o op a b c d (judged ram executable x) (judged ram executable y)
unfolding judged
judged_twins ram executable o op a b c d _ _ nothing = nothing
judged_twins ram executable o op a b c d _ _ (writes rd v w same) = writes rd v w same
judged_twins ram executable o op a b c d _ _ (loads kind rd x e f) =
    elim (ram (x / 4)) as (λ t. Twins o op a b c d (cond t (Loads kind rd x) (Traps 5)) (cond t (Loads kind rd x) (Traps 5))) [ true ↦ loads kind rd x e f | false ↦ traps 5 ]
judged_twins ram executable o op a b c d _ _ (stores kind x f) =
    elim (ram (x / 4) && not (some_executable executable x (store_size kind))) as (λ t. Twins o op a b c d (cond t (Stores kind x b) (Traps 6)) (cond t (Stores kind x d) (Traps 6))) [ true ↦ stores kind x f | false ↦ traps 6 ]
judged_twins ram executable o op a b c d _ _ (puts v w e) = puts v w e
judged_twins ram executable o op a b c d _ _ (exits v w e) = exits v w e
judged_twins ram executable o op a b c d _ _ (traps cause) = traps cause
