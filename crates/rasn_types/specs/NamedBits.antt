-- BIT STRING whose bits have names: what a value means, and what `==` decides.
use Rattle.std.specs.Prelude.{◌≢◌, List, Bool}
use Rattle.std.specs.Bool.{beq}
use Rattle.std.specs.Cmp.{IsEquivalence, on_equiv, bool_eq_equiv}
use Rattle.std.specs.Cmp.Lexicographic.{pointwise, lists_equiv}
use Rattle.rasn_types.specs.Shapes.{Tree, bits, absent}
use Rattle.rasn_types.specs.BitString.{significant}
use Rattle.rasn_types.specs.Equality.{DecidesSame, bits_decided, bits_not_absent}

-- The tree has no trailing 0 bits.
abbrev pub named_bits_tree : List Bool → Tree
named_bits_tree bs = bits (significant bs)

-- Whether two lists are the same without their trailing 0 bits.
abbrev pub same_significant : List Bool → List Bool → Bool
same_significant k l = pointwise beq (significant k) (significant l)

pub same_significant_equiv : IsEquivalence same_significant
same_significant_equiv = on_equiv significant (lists_equiv bool_eq_equiv)

pub named_bits_decided : (k l : List Bool) → DecidesSame (same_significant k l) (named_bits_tree k) (named_bits_tree l)
named_bits_decided k l = bits_decided (significant k) (significant l)

pub named_bits_not_absent : (bs : List Bool) → named_bits_tree bs ≢ absent
named_bits_not_absent bs = bits_not_absent (significant bs)
