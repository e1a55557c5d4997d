-- Why the octets of an open type aren't written.
use Rattle.std.specs.Prelude.{ℕ, ◌≡◌, ◌≢◌, ◌⊎◌, List, [], None}
use Rattle.rasn_types.specs.Shapes.{looked_for}
use Rattle.rasn_types.specs.declared.types.codec.Codec.{Codec}
use Rattle.rasn_types.specs.declared.types.tag.Tag.{Tag}
use Rattle.rasn_types.specs.declared.error.encode.EncodeError.{EncodeError}
use Rattle.rasn_types.specs.declared.error.encode.EncodeErrorKind.TheVariants.{CodecSpecific}
use Rattle.rasn_types.specs.declared.error.encode.CodecEncodeError.TheVariants.{Ber}
use Rattle.rasn_types.specs.declared.error.encode.BerEncodeErrorKind.TheVariants.{AnyInSet}
use Rattle.rasn_enc.specs.View.{View}
use Rattle.rasn_enc.specs.Primitive.{IsAllocError}

-- The error is `AnyInSet`: octets without a tag would be written in a SET.
abbrev pub IsUntaggedInSetError : Codec → EncodeError → Type 0
IsUntaggedInSetError rule e = e ≡ record { kind = CodecSpecific (Ber AnyInSet); codec = rule }

-- Why octets without a tag aren't appended to the last list: it keeps tags; otherwise an allocation fails.
abbrev pub FailsAtUntagged : View → EncodeError → Type 0
FailsAtUntagged v e = ((v.last.tags ≢ None) × IsUntaggedInSetError v.rule e) ⊎ ((v.last.tags ≡ None) × IsAllocError v.rule e)

-- The octets have no tag, and the last list keeps tags.
abbrev pub IsUntaggedInSet : Tag → View → Type 0
IsUntaggedInSet tag v = (looked_for tag ≡ None) × (v.last.tags ≢ None)

-- Why octets of an open type aren't written: there are some, and they have no tag and the last list keeps tags;
-- otherwise an allocation fails.
abbrev pub FailsAtAny : Tag → List ℕ → View → EncodeError → Type 0
FailsAtAny tag octets v e = (octets ≢ []) × ((IsUntaggedInSet tag v × IsUntaggedInSetError v.rule e) ⊎ ((IsUntaggedInSet tag v → ⊥) × IsAllocError v.rule e))
