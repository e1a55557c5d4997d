-- Why parts of a schema aren't read or written.
use Rattle.std.specs.Prelude.{◌≡◌}
use Rattle.rasn_schema_octets.specs.declared.fault.Stop.{Stop}
use Rattle.rasn_schema_octets.specs.declared.fault.Stop.TheVariants.{OutOfMemory, Default}
use Rattle.rasn_schema_octets.specs.declared.fault.ReadFault.{ReadFault}
use Rattle.rasn_schema_octets.specs.declared.fault.ReadFault.TheVariants.{OutOfMemory as NoMemoryToRead, Default as SpoiltDefault}
use Rattle.rasn_schema_octets.specs.declared.fault.WriteFault.{WriteFault}
use Rattle.rasn_schema_octets.specs.declared.fault.WriteFault.TheVariants.{OutOfMemory as NoMemoryToWrite, DeepDefault}

abbrev pub IsMemory : Stop → Type 0
IsMemory OutOfMemory = Unit {0}
IsMemory (Default id index) = ⊥

abbrev pub IsReadStop : Stop → ReadFault → Type 0
IsReadStop OutOfMemory fault = fault ≡ NoMemoryToRead
IsReadStop (Default id index) fault = fault ≡ SpoiltDefault id index

abbrev pub IsWriteStop : Stop → WriteFault → Type 0
IsWriteStop OutOfMemory fault = fault ≡ NoMemoryToWrite
IsWriteStop (Default id index) fault = fault ≡ DeepDefault id index
