-- The operands of what stands on the path, before and after a cycle.
use Rattle.std.proofs.Common.{◌≡◌, ℕ, Bool, true, false, List, ◌∷◌, arith, refl, ap, sym, ◌∙◌}
use Rattle.std.specs.Prelude.{◌==◌, if◌then◌else◌}
use Rattle.std.proofs.lemmas.Bool.Decides.{nat_tests}
use Rattle.elf_load.specs.Image.{LoadedImage}
use Rattle.rv_table.specs.Actions.{clock_test, counter_by, counter_test, is_clocked, is_counter, with_counter}
use Rattle.rv_table.specs.Effects.{written_register}
use Rattle.rv_table.specs.Operations.{operation_of}
use Rattle.rv_table.specs.declared.operation.Operation.{Operation}
use Rattle.rv_table.specs.declared.op.Op.{Op}
use Rattle.rv_table.specs.declared.action.Action.{Action}
use Rattle.rv_table.specs.declared.action.Action.TheVariants.{Nothing, Writes, Loads, Stores, Puts, Exits, Traps}
use Rattle.rv_isa.specs.Instruction.{first_clock, given, later_clocks, put_reg, reg}
use Rattle.pipe_latch.specs.Forwarding.{IsWrittenBy, late, settled}
use Rattle.pipe_latch.specs.Latches.{ResultLatch, no_result}
use Rattle.pipe_latch.specs.declared.forward.Forwarded.{Forwarded}
use Rattle.pipe_latch.specs.declared.forward.Forwarded.TheVariants.{Value}
use Rattle.pipe_latch.proofs.Settled.{operand-waits_on, settled-operand, settled-stays}
use Rattle.cyc_machine.specs.InFlight.{operand_held}

-- what completing an action writes is what it forwards, or what its load gets
pub written-by : (image : LoadedImage) (m : Action) (memory : ℕ → ℕ) → IsWrittenBy m (given image m memory)
written-by image Nothing memory h = refl
written-by image (Writes rd value) memory h = refl
written-by image (Loads kind rd x) memory h = absurd cc
written-by image (Stores kind x y) memory h = refl
written-by image (Puts value) memory h = refl
written-by image (Exits value) memory h = refl
written-by image (Traps cause) memory h = refl

-- D stays while M is done
pub held-stays : (image : LoadedImage) (m : Action) (w : ResultLatch) (memory after : ℕ → ℕ) (rs held : ℕ)
    → operand_held image Nothing (record { rd = written_register m; value = given image m memory }) after rs (late w rs held)
    ≡ operand_held image m w memory rs held
held-stays image m w memory after rs held = settled-stays m w rs held (given image m memory) (given image Nothing after) (written-by image m memory)

-- D stays while M waits
pub held-waits : (image : LoadedImage) (m : Action) (w : ResultLatch) (memory : ℕ → ℕ) (rs held : ℕ)
    → operand_held image m no_result memory rs (late w rs held) ≡ operand_held image m w memory rs held
held-waits image m w memory rs held = ap (λ f. settled f (given image m memory)) (operand-waits_on m w rs held)

-- An entry that ID took reads what the registers hold after W, the new W and the new M.
pub held-taken : (image : LoadedImage) (x : Action) (w old : ResultLatch) (memory : ℕ → ℕ) (registers : ℕ → ℕ) (rs : ℕ)
    → operand_held image x w memory rs (if rs == 0 then 0 else late old rs (registers rs))
    ≡ reg (put_reg (written_register x) (given image x memory) (put_reg w.rd w.value (put_reg old.rd old.value registers))) rs
unfolding late
held-taken image x w old memory registers rs =
    settled-operand x w rs (if rs == 0 then 0 else late old rs (registers rs)) (given image x memory) (written-by image x memory)
    ∙ taken_by (rs == 0) refl
  where
    put : (rd value : ℕ) (f : ℕ → ℕ) → (rs == 0) ≡ false → put_reg rd value f rs ≡ (if rs == rd then value else f rs)
    put rd value f h = grind (arith, nat_tests)

    taken_by : (b : Bool) → (rs == 0) ≡ b
        → (if rs == 0 then (if rs == 0 then 0 else (if rs == 0 then registers rs else (if rs == old.rd then old.value else registers rs)))
        else (if rs == written_register x then given image x memory
        else (if rs == w.rd then w.value else (if rs == 0 then 0
        else (if rs == 0 then registers rs else (if rs == old.rd then old.value else registers rs))))))
        ≡ reg (put_reg (written_register x) (given image x memory) (put_reg w.rd w.value (put_reg old.rd old.value registers))) rs
    taken_by true h = rw h refl
    taken_by false h =
        rw h (sym (put (written_register x) (given image x memory) (put_reg w.rd w.value (put_reg old.rd old.value registers)) h
        ∙ ap (λ n. if rs == written_register x then given image x memory else n)
        (put w.rd w.value (put_reg old.rd old.value registers) h ∙ ap (λ n. if rs == w.rd then w.value else n) (put old.rd old.value registers h))))

-- ---- a counter read

clock_by : (o : Operation) (X : Forwarded) (cycle n g b : ℕ) (clocks : List ℕ) → (if counter_test o then Value 0 else X) ≡ Value b
    → counter_by o (first_clock (if clock_test o then cycle ∷ clocks else clocks)) n (settled X g) ≡ counter_by o cycle n b
unfolding counter_by counter_test clock_test
clock_by o X cycle n g b clocks h = grind arith

pub clock-taken : (op : Op) (X : Forwarded) (cycle n g b : ℕ) (clocks : List ℕ) → (if is_counter op then Value 0 else X) ≡ Value b
    → with_counter op (first_clock (if is_clocked op then cycle ∷ clocks else clocks)) n (settled X g) ≡ with_counter op cycle n b
unfolding with_counter is_counter is_clocked
clock-taken op X cycle n g b clocks h = clock_by (operation_of op.code) X cycle n g b clocks h

pub clocks-left : (op : Op) (cycle : ℕ) (clocks : List ℕ)
    → (if is_clocked op then later_clocks (if is_clocked op then cycle ∷ clocks else clocks) else (if is_clocked op then cycle ∷ clocks else clocks))
    ≡ clocks
clocks-left op cycle clocks = go (is_clocked op)
  where
    go : (b : Bool) → (if b then later_clocks (if b then cycle ∷ clocks else clocks) else (if b then cycle ∷ clocks else clocks)) ≡ clocks
    go true = refl
    go false = refl
