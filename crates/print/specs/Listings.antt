-- The records of a listing that passed its check.
use Rattle.std.specs.Prelude.{List}
use Rattle.definitions.specs.Instr.{Instr}
use Rattle.definitions.specs.Listing.{front_length, records_from}
use Rattle.print.specs.declared.lines.Listing.{Listing}

abbrev pub records_in : Listing → List Instr
records_in l = records_from l.count l.bytes.now front_length
