use Rattle.std.proofs.Common.{take}
use Rattle.rasn_schema.specs.Fitting.{AreOctets, EachFits}
use Rattle.rasn_json.specs.Reading.{OpenRead}
use Rattle.rasn_json.proofs.ReadParts.{EachRead}
use Rattle.rasn_json.proofs.reader.open_values.Given as goal

abbrev pub invariant-loop-index : goal.invariant-loop-index
invariant-loop-index l = EachFits AreOctets l.values.items × EachRead OpenRead (take l.index l.items) l.values.items
