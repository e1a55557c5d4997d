-- Strings of octets or bits in one piece, and in segments as the canonical rules write them (X.690 8.6, 8.7, 9.2).
use Rattle.std.specs.Prelude.{ℕ, ◌≡◌, List, ◌++◌}
use Rattle.rasn_types.specs.Contents.{joined_lists}
use Rattle.rasn_types.specs.Bytes.{Writing, AreCut, Each, PrimitiveEncoding, ConstructedEncoding}
use Rattle.rasn_types.specs.declared.types.tag.Tag.{Tag}
use Rattle.rasn_enc.specs.Primitive.{Appends}
use Rattle.rasn_enc.specs.View.{View}

-- The octets are a primitive encoding of the piece.
abbrev pub IsSegment : {X : Type 0} → Writing (List X) → Tag → List X → List ℕ → Type 0
IsSegment writes tag piece octets = (contents : List ℕ) × writes piece contents × PrimitiveEncoding tag contents octets

module _ {X : Type 0} (writes : Writing (List X)) (size : ℕ) (inner : Tag) where
  -- The segments of the string: `size` units each, except the last segment, which may have fewer.
  pub record AreSegments (xs : List X) (encoded : List (List ℕ)) : Type 0 where
    pub pieces : List (List X)
    pub is : xs ≡ joined_lists pieces
    pub cut : AreCut size pieces
    pub each : Each (IsSegment writes inner) pieces encoded

  -- The segments are appended to the last list.
  pub record AppendsSegments (xs : List X) (v w : View) : Type 0 where
    pub encoded : List (List ℕ)
    pub segments : AreSegments xs encoded
    pub octets : w.last.octets ≡ v.last.octets ++ joined_lists encoded

  -- A constructed value is appended to the last list, and its contents are the segments.
  pub record AppendsSegmented (tag : Tag) (xs : List X) (v w : View) : Type 0 where
    pub encoded : List (List ℕ)
    pub segments : AreSegments xs encoded
    pub appends : Appends (ConstructedEncoding v.rule tag (joined_lists encoded)) tag v w
