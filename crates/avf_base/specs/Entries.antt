-- The entries of a shelf in memory, as its vector has them.
use Rattle.std.specs.Prelude.{List, map, string_bytes}
use Rattle.avf_base.specs.declared.held.Held.{Held}
use Rattle.avf_base.specs.States.{Entry}

abbrev pub entry_of : Held → Entry
entry_of h = record { name = string_bytes h.name; bytes = h.bytes.items }

abbrev pub entries_of : List Held → List Entry
entries_of files = map entry_of files
