-- A store into another word can't leave the same, where what the own one changes is needed.
use Rattle.std.proofs.Common.{◌≡◌, ℕ, ◌/◌, Bool, true, false, refl, sym, ◌∙◌, subst, arith}
use Rattle.std.specs.Prelude.{◌&&◌, not, if◌then◌else◌}
use Rattle.elf_load.specs.Image.{LoadedImage, executable, word_in_ram}
use Rattle.rv_table.specs.Accesses.{store_size}
use Rattle.rv_table.specs.Actions.{is_aligned, judged, some_executable}
use Rattle.rv_table.specs.Arithmetic.{sum32}
use Rattle.rv_table.specs.Effects.{written_register}
use Rattle.rv_table.specs.Operations.{operation_of}
use Rattle.rv_table.specs.declared.action.Action.{Action}
use Rattle.rv_table.specs.declared.action.Action.TheVariants.{Stores, Traps}
use Rattle.rv_table.specs.declared.operation.Operation.TheVariants.{Store}
use Rattle.rv_table.specs.declared.operation.StoreKind.{StoreKind}
use Rattle.rv_table.specs.declared.trap.TheConstants.{MISALIGNED_ACCESS, STORE_FAULT}
use Rattle.rv_isa.specs.Architecture.{ArchState}
use Rattle.pipe_latch.specs.Latches.{DecodedLatch}
use Rattle.need_pass.specs.Tables.{Needs}
use Rattle.eval_mask.specs.Aftermaths.{doing_with, store_by}
use Rattle.eval_mask.specs.Compared.{covers}
use Rattle.eval_mask.specs.OtherDoings.{DoesAlike, Misses, NeedsOwn}
use Rattle.eval_mask.specs.QuickDoings.{judged_in, store_doing}
use Rattle.eval_mask.specs.declared.cases.Case.{Case}
use Rattle.eval_mask.proofs.Missed.{missed_never, word_if}
use Rattle.eval_mask.proofs.QuickDoings.{store_is}

-- a store or one of two traps, by tests
abbrev stored_by : Bool → Bool → StoreKind → ℕ → ℕ → Action
stored_by t u kind x y = if t then (if u then Stores kind x y else Traps STORE_FAULT) else Traps MISALIGNED_ACCESS

judged_store : (image : LoadedImage) (t : Bool) (kind : StoreKind) (x y : ℕ)
    → judged_in image (if t then Stores kind x y else Traps MISALIGNED_ACCESS)
    ≡ stored_by t (word_in_ram image (x / 4) && not (some_executable (executable image) x (store_size kind))) kind x y
unfolding judged
judged_store image true kind x y = refl
judged_store image false kind x y = refl

no_register : (t u : Bool) (kind : StoreKind) (x y : ℕ) → written_register (stored_by t u kind x y) ≡ 0
no_register true true kind x y = refl
no_register true false kind x y = refl
no_register false u kind x y = refl

word_stored : (image : LoadedImage) (t u : Bool) (kind : StoreKind) (x y p : ℕ) → covers (store_by image (stored_by t u kind x y)) p ≡ true → p / 4 ≡ x / 4
word_stored image true true kind x y p c = word_if (word_in_ram image (x / 4)) kind x y p c
word_stored image true false kind x y p c = absurd (grind arith)
word_stored image false u kind x y p c = absurd (grind arith)

misses_by : (case : Case) (t u : Bool) (kind : StoreKind) (x y : ℕ) → ((p : ℕ) → covers case.own.above.store p ≡ true → p / 4 ≡ x / 4 → ⊥)
    → Misses case.own.above (stored_by t u kind x y)
misses_by case t u kind x y apart = record {
  register = λ e. e ∙ no_register t u kind x y;
  bytes = λ image p c d. apart p c (word_stored image t u kind x y p d);
}

pub elsewhere_never : (needs : Needs) (arch : ArchState) (case : Case) (other : DecodedLatch) (a held : ℕ) (kind : StoreKind) → NeedsOwn needs arch case
    → operation_of other.op ≡ Store kind → ((p : ℕ) → covers case.own.above.store p ≡ true → p / 4 ≡ sum32 a other.imm / 4 → ⊥)
    → DoesAlike needs arch case (doing_with arch.image other case.issued a held) → ⊥
elsewhere_never needs arch case other a held kind needed o apart alike =
    let x = sum32 a other.imm in
    let doing = store_doing arch.image other kind a held in
    missed_never needs arch case doing needed
    (subst (Misses case.own.above) (sym (judged_store arch.image (is_aligned (store_size kind) x) kind x held))
    (misses_by case (is_aligned (store_size kind) x)
    (word_in_ram arch.image (x / 4) && not (some_executable (executable arch.image) x (store_size kind))) kind x held apart))
    (subst (DoesAlike needs arch case) (sym (store_is arch.image other case.issued a held kind o)) alike)
