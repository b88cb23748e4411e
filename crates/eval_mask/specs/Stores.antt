-- Other stores in place of EX/MEM's.
use Rattle.std.specs.Prelude.{◌||◌, Option, Some, None, if◌then◌else◌}
use Rattle.elf_load.specs.Image.{LoadedImage}
use Rattle.rv_table.specs.Effects.{is_load}
use Rattle.rv_table.specs.declared.action.Action.{Action}
use Rattle.rv_table.specs.declared.action.Action.TheVariants.{Stores}
use Rattle.eval_mask.specs.Aftermaths.{store_by}
use Rattle.eval_mask.specs.declared.cases.Case.{Case}
use Rattle.eval_mask.specs.declared.completing.Aftermath.{Aftermath}
use Rattle.eval_mask.specs.declared.completing.Store.{Store}

-- the store that an action asks for
abbrev pub store_asked : Action → Option Store
store_asked (Stores kind x y) = Some (record { kind = kind; address = x; value = y })
store_asked _ = None

-- EX/MEM's store, where what ID/EX does doesn't load, and no read of the cycle counter is completed
abbrev pub lone_store : Case → Option Store
lone_store case = if case.reads_clock || is_load case.doing.action then None else store_asked case.executed

-- what is left where EX/MEM makes another store
abbrev pub left_storing : LoadedImage → Case → Store → Aftermath
left_storing image case store =
    record case.own { below = record case.own.below { store = store_by image (Stores store.kind store.address store.value) } }
