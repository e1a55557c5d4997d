-- What is written of object identifiers (X.690 8.19), and why some of them aren't.
use Rattle.std.specs.Prelude.{ℕ, ◌+◌, ◌*◌, ◌<◌, ◌≤◌, ◌≡◌, ◌⊎◌, List, [], ◌∷◌, ◌++◌}
use Rattle.rasn_types.specs.Framing.{AreOctets, Spells128}
use Rattle.rasn_types.specs.Shapes.{numbers, object_identifier}
use Rattle.rasn_types.specs.Contents.{IsShortest128}
use Rattle.rasn_types.specs.Bytes.{Written}
use Rattle.rasn_enc.specs.Headers.{digits, chained, group_count}
use Rattle.rasn_types.specs.declared.types.codec.Codec.{Codec}
use Rattle.rasn_types.specs.declared.error.encode.EncodeError.{EncodeError}
use Rattle.rasn_types.specs.declared.error.encode.EncodeErrorKind.{EncodeErrorKind}
use Rattle.rasn_types.specs.declared.error.encode.EncodeErrorKind.TheVariants.{CodecSpecific}
use Rattle.rasn_types.specs.declared.error.encode.CodecEncodeError.TheVariants.{Ber}
use Rattle.rasn_types.specs.declared.error.encode.BerEncodeErrorKind.TheVariants.{InvalidObjectIdentifier}

-- The arcs have octets: there are at least two. The first is at most 2. If it is below 2, the second is below 40; if it
-- is 2, the second is small enough that the first subidentifier is below 2 ^ 32 (8.19.4).
abbrev pub AreEncodable : List ℕ → Type 0
AreEncodable [] = ⊥
AreEncodable (x ∷ []) = ⊥
AreEncodable (x ∷ y ∷ l) = ((x < 2) × (y < 40)) ⊎ ((x ≡ 2) × (y ≤ 4294967215))

-- The subidentifiers of the arcs: the first one holds the first two arcs (8.19.4).
abbrev pub AreSubidentifiers : List ℕ → List ℕ → Type 0
AreSubidentifiers ns [] = ⊥
AreSubidentifiers ns (x ∷ []) = ⊥
AreSubidentifiers ns (x ∷ y ∷ l) = ns ≡ (40 * x + y) ∷ l

-- A subidentifier in the fewest octets (8.19.2).
pub record IsSubidentifier (l : List ℕ) (n : ℕ) : Type 0 where
  pub spells : Spells128 l n
  pub shortest : IsShortest128 l
  pub octets : AreOctets l

-- The octets of the subidentifiers, one after the other.
abbrev pub subidentifier_octets : List ℕ → List ℕ
subidentifier_octets [] = []
subidentifier_octets (n ∷ ns) = chained (digits 128 (group_count n) n) ++ subidentifier_octets ns

-- `new` is `old`, followed by the contents octets of an object identifier.
pub record AppendsContents (arcs old new : List ℕ) : Type 0 where
  pub octets : List ℕ
  pub written : Written object_identifier (numbers arcs) octets
  pub appended : new ≡ old ++ octets

-- The error holds these arcs.
abbrev pub ReportsArcs : List ℕ → EncodeErrorKind → Type 0
ReportsArcs arcs (CodecSpecific (Ber (InvalidObjectIdentifier oid))) = oid.items ≡ arcs
ReportsArcs arcs _ = ⊥

-- The arcs have no octets, and the error holds them.
pub record FailsAtArcs (arcs : List ℕ) (rule : Codec) (e : EncodeError) : Type 0 where
  pub unmet : AreEncodable arcs → ⊥
  pub codec : e.codec ≡ rule
  pub tells : ReportsArcs arcs e.kind
