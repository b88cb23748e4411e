-- What the code has of a line, as contracts speak of it.
use Rattle.class_map.specs.Spellings.{Said}
use Rattle.class_map.specs.declared.spelling.Words.{Words}

abbrev pub shown : Words → Said
shown words = record { name = words.name.now; bit = words.bit; from = words.from; to = words.to; rule = words.rule }
