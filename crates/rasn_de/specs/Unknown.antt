-- Values that the type of a SEQUENCE doesn't name, up to the end of the contents (X.680 25).
use Rattle.rasn_types.specs.declared.types.unknown.Unknown.{Unknown}
use Rattle.rasn_types.specs.Tags.{eoc}
use Rattle.rasn_de.specs.State.{Call}
use Rattle.rasn_de.specs.Any.{DecodesOpenType}
use Rattle.rasn_de.specs.SequenceOf.{DecodesElements}

-- Each value is read as an open type is. An error is that of the first value that can't be read, and consumes those
-- before it alone; or an allocation fails.
abbrev pub DecodesUnknown : Call Unknown
DecodesUnknown = DecodesElements (DecodesOpenType eoc) (λ (u : Unknown). u.values.items)
