-- What the effect of an instruction leaves, told by what it changes.
use Rattle.std.specs.Prelude.{ℕ, ◌/◌, ◌==◌, Option, Some, None, if◌then◌else◌}
use Rattle.rv_table.specs.declared.operation.StoreKind.{StoreKind}
use Rattle.rv_table.specs.declared.operation.StoreKind.TheVariants.{Sb, Sh, Sw}
use Rattle.rv_isa.specs.declared.effect.Effect.{Effect}
use Rattle.eval_mask.specs.Aftermaths.{no_change}
use Rattle.eval_mask.specs.declared.completing.Aftermath.{Aftermath}
use Rattle.eval_mask.specs.declared.completing.Store.{Store}
use Rattle.eval_mask.specs.declared.completing.Write.{Write}

abbrev pub write_by : Option (ℕ × ℕ) → Write
write_by (Some write) = record { rd = write.0; value = write.1 }
write_by None = record { rd = 0; value = 0 }

-- the store of so many bytes, 1, 2 or 4
abbrev pub kind_of_size : ℕ → StoreKind
kind_of_size size = if size == 1 then Sb else (if size == 2 then Sh else Sw)

abbrev pub store_told : Option (ℕ × ℕ × ℕ) → Option Store
store_told (Some store) = Some (record { kind = kind_of_size store.1; address = store.0; value = store.2 })
store_told None = None

unfoldable pub aftermath_by : Effect → Aftermath
aftermath_by effect =
    record {
      first = record { rd = 0; value = 0 };
      below = no_change;
      above = record { write = write_by effect.write; store = store_told effect.store; put = effect.put; end = effect.end };
      pc = effect.next / 4;
      end = effect.end;
    }
