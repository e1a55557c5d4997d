-- Bits that are borrowed or owned.
use Rattle.std.specs.Prelude.{List, Bool}
use Rattle.rasn_types.specs.Shapes.{Tree, bits}
use Rattle.rasn_types.specs.BitString.{significant}
use Rattle.rasn_types.specs.declared.types.bits.cow_bits.CowBits.{CowBits}
use Rattle.rasn_types.specs.declared.types.bits.cow_bits.CowBits.TheVariants.{Borrowed, Owned}

abbrev pub cow_bits : CowBits → List Bool
cow_bits (Borrowed bs) = bs
cow_bits (Owned bs) = bs

abbrev pub cow_bits_tree : CowBits → Tree
cow_bits_tree b = bits (cow_bits b)

-- The bits without the trailing 0 bits, borrowed as before.
abbrev pub significant_cow : CowBits → CowBits
significant_cow (Borrowed bs) = Borrowed (significant bs)
significant_cow (Owned bs) = Owned (significant bs)
