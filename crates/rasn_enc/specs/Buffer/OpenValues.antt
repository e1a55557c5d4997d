-- What the view shows of an open value.
use Rattle.std.specs.Prelude.{ℕ, ◌≡◌, ◌≤◌, ◌+◌, List, [], ◌∷◌, ◌++◌, length, take, Option, Some, None, option_map}
pub use Rattle.rasn_enc.specs.View.{kept_of}
use Rattle.rasn_enc.specs.View.{OpenList}
use Rattle.rasn_enc.specs.Buffer.Lists.{tags_of}
use Rattle.rasn_types.specs.declared.types.tag.Tag.{Tag}
use Rattle.rasn_enc.specs.Buffer.Contents.{AppendsPrimitiveOctets}
use Rattle.rasn_enc.specs.Buffer.Cuts.{list_from, Sound}
use Rattle.rasn_enc.specs.declared.ber.enc.writer.deferred_headers.DeferredHeader.{DeferredHeader}
use Rattle.rasn_enc.specs.declared.ber.enc.writer.Open.{Open}

-- The list that an open value interrupted.
abbrev pub frame_in : List ℕ → List DeferredHeader → Open → OpenList
frame_in xs ms o = record { octets = list_from (take o.end xs) (take o.last ms) o.list.start o.list.first; tags = tags_of o.list.tags }

-- The interrupted lists follow one another, with room for two octets after each. The first list begins at `s0`, with
-- deferred header number `f0`; the last list, after them, begins at `s`, with deferred header number `f`.
abbrev pub Chain : List ℕ → List DeferredHeader → ℕ → ℕ → List Open → ℕ → ℕ → Type 0
Chain xs ms s0 f0 [] s f = (s0 ≡ s) × (f0 ≡ f)
Chain xs ms s0 f0 (o ∷ os) s f = ((o.list.start ≡ s0) × (o.list.first ≡ f0) × (o.end ≤ length xs) × (o.last ≤ length ms) × Sound (take o.end xs) (take o.last ms) o.list.start o.list.first o.list.measured) × Chain xs ms (o.end + 2) o.last os s f

-- The open values: those around the innermost one, then the innermost one.
abbrev pub opens : List Open → Option Open → List Open
opens around None = around
opens around (Some o) = around ++ o ∷ []

-- If there is no innermost value, no value is open.
abbrev pub IsInnermost : List Open → Option Open → Type 0
IsInnermost around None = around ≡ []
IsInnermost around (Some o) = Unit {0}

-- The tags that are kept, with more tags appended.
abbrev pub noted : Option (List Tag) → List Tag → Option (List Tag)
noted o tags = option_map (λ kept. kept ++ tags) o

-- `ys` is `xs`, followed by a primitive value of this tag, with contents that may be written. `n` is the sum of
-- `measured` and the number of the value's octets.
pub record AppendsCounted (IsWritten : List ℕ → Type 0) (tag : Tag) (measured : ℕ) (xs ys : List ℕ) (n : ℕ) : Type 0 where
  pub puts : AppendsPrimitiveOctets IsWritten tag xs ys
  pub total : n ≡ measured + length puts.octets
