-- Whether a part may be where it is (X.690 10.3, 11.5, 11.6).
use Rattle.std.specs.Prelude.{◌≡◌, ℕ, List, [], Option, Some, None, Ok, MatchOption, slice_get}
use Rattle.rasn_types.specs.declared.types.codec.Codec.TheVariants.{Ber, Der}
use Rattle.rasn_types.specs.declared.types.tag.Tag.{Tag}
use Rattle.rasn_types.specs.declared.error.decode.DecodeError.{DecodeError}
use Rattle.rasn_types.specs.declared.error.decode.DerDecodeErrorKind.{DerDecodeErrorKind}
use Rattle.rasn_types.specs.declared.error.decode.DerDecodeErrorKind.TheVariants.{DefaultValuePresent, SetComponentsOutOfOrder, SetOfOutOfOrder}
use Rattle.rasn_types.specs.Tags.{form, IsTagBelow}
use Rattle.rasn_types.specs.Order.{IsLess}
use Rattle.rasn_types.specs.Shapes.{Tree, Same}
use Rattle.rasn_types.specs.Grammar.{Reads, top}
use Rattle.rasn_de.specs.declared.ber.de.parser.ParseError.TheVariants.{Der as DerFault}
use Rattle.rasn_de.specs.Causes.{error_kind}
use Rattle.rasn_de.specs.ParserViews.{peeked_tag}
use Rattle.rasn_schema.specs.declared.types.«Type».{«Type»}
use Rattle.rasn_schema.specs.declared.types.«Type».TheVariants.{Leaf, Enumerated, Any, Tagged, Choice, Sequence, Set, SequenceOf, SetOf, Unknown}
use Rattle.rasn_schema.specs.declared.types.Component.{Component}
use Rattle.rasn_schema.specs.declared.types.Presence.{Presence}
use Rattle.rasn_schema.specs.declared.types.Presence.TheVariants.{Required, Optional, Addition, Default}
use Rattle.rasn_schema.specs.declared.value.Value.{Value}
use Rattle.rasn_schema.specs.Trees.{tree_of}
use Rattle.rasn_dynamic.specs.Entry.{shape_of}
use Rattle.rasn_lint.specs.declared.trail.Step.{Step}
use Rattle.rasn_lint.specs.declared.place.Order.{Order}
use Rattle.rasn_lint.specs.declared.place.Order.TheVariants.{Unordered, ByTag, ByOctets}

-- the error of DER of this kind
abbrev pub der_error : DerDecodeErrorKind → DecodeError
der_error kind = record { kind = error_kind (DerFault kind); codec = Der }

-- the order of what a value of the type holds
abbrev pub order_of : «Type» → Order
order_of (Leaf kind tag c names) = Unordered
order_of (Enumerated tag ns) = Unordered
order_of (Any tag) = Unordered
order_of (Tagged tag id) = Unordered
order_of (Choice name ks) = Unordered
order_of (Sequence tag ps) = Unordered
order_of (Set name tag ps) = ByTag
order_of (SequenceOf tag id c) = Unordered
order_of (SetOf tag id c) = ByOctets
order_of Unknown = Unordered

-- the default that the part of a value of the type has
abbrev pub default_in : Presence → Option Value
default_in Required = None
default_in Optional = None
default_in Addition = None
default_in (Default v) = Some v

abbrev pub default_at : Option Component → Option Value
default_at None = None
default_at (Some p) = default_in p.presence

abbrev pub default_of : «Type» → ℕ → Option Value
default_of (Leaf kind tag c names) k = None
default_of (Enumerated tag ns) k = None
default_of (Any tag) k = None
default_of (Tagged tag id) k = None
default_of (Choice name ks) k = None
default_of (Sequence tag ps) k = default_at (slice_get ps.items k)
default_of (Set name tag ps) k = default_at (slice_get ps.items k)
default_of (SequenceOf tag id c) k = None
default_of (SetOf tag id c) k = None
default_of Unknown k = None

-- the same of a part that may hold others
abbrev pub order_if : Option «Type» → Order
order_if None = Unordered
order_if (Some ty) = order_of ty

abbrev pub default_if : Option «Type» → ℕ → Option Value
default_if None k = None
default_if (Some ty) k = default_of ty k

abbrev pub type_of : List «Type» → Option Step → Option «Type»
type_of types None = None
type_of types (Some holder) = slice_get types holder.id.0

-- The octets a begin with a tag below the one that b begin with (X.680 8.6).
abbrev pub HasLowerTag : List ℕ → List ℕ → Type 0
HasLowerTag a b = (s : Tag) × (t : Tag) × (peeked_tag (form Ber) a ≡ Ok s) × (peeked_tag (form Ber) b ≡ Ok t) × IsTagBelow s t

abbrev pub IsBelow : Order → List ℕ → List ℕ → Type 0
IsBelow Unordered a b = ⊥
IsBelow ByTag a b = HasLowerTag a b
IsBelow ByOctets a b = IsLess a b

abbrev pub order_kind : Order → DerDecodeErrorKind
order_kind Unordered = SetOfOutOfOrder
order_kind ByTag = SetComponentsOutOfOrder
order_kind ByOctets = SetOfOutOfOrder

-- There is an error exactly if the octets are below those of the part before, and it is this one.
abbrev pub IsOrderFault : Order → List ℕ → Option Step → Option DecodeError → Type 0
IsOrderFault order octets None f = f ≡ None
IsOrderFault order octets (Some last) f = MatchOption f (IsBelow order octets last.octets.now → ⊥) (λ e. IsBelow order octets last.octets.now × (e ≡ der_error (order_kind order)))

-- All of the octets are a value of the type under BER.
abbrev pub IsValue : List «Type» → ℕ → List ℕ → Tree → Type 0
IsValue types id octets t = Reads Ber (shape_of types id) 128 (top Ber) octets t []

-- There is an error exactly if the part has a default and its value is the same, and it is this one.
abbrev pub IsDefaultFault : List «Type» → ℕ → List ℕ → Option Value → Option DecodeError → Type 0
IsDefaultFault types id octets None f = f ≡ None
IsDefaultFault types id octets (Some v) f = MatchOption f ((t : Tree) → IsValue types id octets t → Same t (tree_of v) → ⊥)
    (λ e. (t : Tree) × IsValue types id octets t × Same t (tree_of v) × (e ≡ der_error DefaultValuePresent))
