-- Open types and unknown values are read or refused.
use Rattle.std.proofs.Common.{◌≡◌, ◌≢◌, true, ℕ, zero, suc, ◌+◌, ◌-◌, ◌<◌, inr, List, [], ◌∷◌, length, take, Option, Some, None, Result, Ok, Err, refl, ap, subst, arith}
use Rattle.rasn_types.specs.declared.types.codec.Codec.{Codec}
use Rattle.rasn_types.specs.declared.types.tag.Tag.{Tag}
use Rattle.rasn_types.specs.Tags.{form, loose}
use Rattle.rasn_types.specs.Framing.{AreOctets, Extent, definite, indefinite}
use Rattle.rasn_types.specs.Shapes.{any, looked_for, numbers}
use Rattle.rasn_de.specs.declared.ber.de.parser.ParseError.{ParseError}
use Rattle.rasn_types.specs.declared.error.decode.DecodeError.{DecodeError}
use Rattle.rasn_types.specs.Errors.{IsOutOfMemory}
use Rattle.rasn_de.specs.declared.ber.de.parser.headers.Expected.TheVariants.{AnyTag}
use Rattle.rasn_de.specs.Causes.{error_kind}
use Rattle.rasn_de.specs.Headers.{Header, header_at, as_written}
use Rattle.rasn_de.specs.Skipping.{EncodingsToEnd, IsUnparsable, Exactly}
use Rattle.rasn_de.specs.State.{State, at}
use Rattle.rasn_de.specs.ValueErrors.{errors_of, DecodesOr}
use Rattle.rasn_de.specs.Any.{OpenAt, DecodesOpenType}
use Rattle.rasn_de.proofs.Any.Reads.{encoding_open, encoding_refused, tagged_definite, tagged_closed, tagged_unparsable, tagged_refused, open_decodes}
use Rattle.rasn_de.proofs.Any.Skipping.{Passing, passing_start, passing_header, passing_close, passing_end, passing_unparsable, octets_left, header_shorter, skipped_open, skipped_plain, skipped_refused}
use Rattle.rasn_de.proofs.Headers.Frames.{header_parsed}
use Rattle.rasn_de.proofs.Leaves.Memory.{borrowed_plain}
use Rattle.rasn_de.proofs.Strings.Reads.{frame_octets}
use Rattle.rasn.specs.OneRefusal.{Settles}
use Rattle.rasn.proofs.OneRefusal.Calls.{or_settles}

-- Contents of indefinite length are closed, or there is a first fault.
module _ (rule : Codec) (input : List ℕ) (o : AreOctets input) where
  abbrev Closes : Type 0
  Closes = (r : Result (ℕ × List ℕ) ParseError) × Exactly (EncodingsToEnd rule input) (IsUnparsable rule input) r

  stops : (count turned : ℕ) (left : List ℕ) (f : ParseError) → header_at (loose rule) AnyTag left ≡ Err f → ((more : List ℕ) → left ≡ 0 ∷ 0 ∷ more → ⊥) → Passing rule input count turned left → Closes
  stops count turned left f e z p = (Err f, passing_unparsable rule input count turned left f (octets_left rule input count turned left o p) e z p)

  -- The list begins with end-of-contents octets, or it doesn't.
  data Front (left : List ℕ) : Type 0 where
    zeros : (more : List ℕ) → left ≡ 0 ∷ 0 ∷ more → Front left
    others : ((more : List ℕ) → left ≡ 0 ∷ 0 ∷ more → ⊥) → Front left

  front : (left : List ℕ) → Front left
  front [] = others (λ more e. cc)
  front (a ∷ []) = others (λ more e. cc)
  front (zero ∷ zero ∷ l) = zeros l refl
  front (zero ∷ suc b ∷ l) = others (λ more e. cc)
  front (suc a ∷ b ∷ l) = others (λ more e. cc)

  -- It is so of octets that are fewer.
  abbrev Goes : ℕ → Type 0
  Goes n = (m t : ℕ) (l : List ℕ) → length l < n → Passing rule input m t l → Closes

  passes : (n count turned : ℕ) (left : List ℕ) → length left < n → Passing rule input count turned left → Closes
  passes zero count turned left h p = absurd (omega (arith, h))
  passes (suc n) count turned left h p = at_front (λ m t l k q. passes n m t l k q) (front left) p
    where
      closes : Goes n → (more : List ℕ) → left ≡ 0 ∷ 0 ∷ more → (m : ℕ) → Passing rule input m turned left → Closes
      closes on more e zero q = (Ok (turned + 1, more), passing_end rule input turned more (subst (Passing rule input 0 turned) e q))
      closes on more e (suc m) q =
          let k = ap length e in on m (turned + 1) more (omega (arith, h, k)) (passing_close rule input m turned more (subst (Passing rule input (suc m) turned) e q))

      enters : Goes n → (g : Header) → header_at (loose rule) AnyTag left ≡ Ok g → (x : Extent) → g.extent ≡ x → Closes
      enters on g e x is =
          let k = passing_header rule input count turned left g o p e in
          let s = header_shorter rule left g (octets_left rule input count turned left o p) e in
          go x is k.0 k.1 (omega (arith, s, h))
        where
          go : (x : Extent) → g.extent ≡ x → (g.extent ≡ indefinite → Passing rule input (count + 1) (turned + 1) g.rest) → (g.extent ≢ indefinite → Passing rule input count (turned + 1) g.rest) → length g.rest < n → Closes
          go (definite c) is i d l = on count (turned + 1) g.rest l (d (λ z. cc))
          go indefinite is i d l = on (count + 1) (turned + 1) g.rest l (i is)

      header : Goes n → (r : Result Header ParseError) → header_at (loose rule) AnyTag left ≡ r → ((more : List ℕ) → left ≡ 0 ∷ 0 ∷ more → ⊥) → Closes
      header on (Ok g) e z = enters on g e g.extent refl
      header on (Err f) e z = stops count turned left f e z p

      at_front : Goes n → Front left → Passing rule input count turned left → Closes
      at_front on (zeros more e) q = closes on more e count q
      at_front on (others z) q = header on (header_at (loose rule) AnyTag left) refl z

  closing : Closes
  closing = passes (suc (length input)) 0 0 input (omega arith) (passing_start rule input)

-- The octets of an open type are read, or there is a first fault.
abbrev Opens : Codec → Option Tag → List ℕ → Type 0
Opens rule tag input = (r : Result (List ℕ × List ℕ) ParseError) × OpenAt rule tag input r

module _ (rule : Codec) (input : List ℕ) (o : AreOctets input) where
  untagged : Opens rule None input
  untagged = go (header_at (loose rule) AnyTag input) refl
    where
      go : (r : Result Header ParseError) → header_at (loose rule) AnyTag input ≡ r → Opens rule None input
      go (Err f) e = (Err f, encoding_refused rule input f (skipped_refused rule input f o e))
      go (Ok h) e = inside h.extent refl
        where
          ended : (r : Result (ℕ × List ℕ) ParseError) → h.extent ≡ indefinite → Exactly (EncodingsToEnd rule h.rest) (IsUnparsable rule h.rest) r → Opens rule None input
          ended (Ok p) x a = (Ok (take (length input - length p.1) input, p.1), encoding_open rule input p.0 p.1 (skipped_open rule input h (Ok p) o e x a))
          ended (Err f) x a = (Err f, encoding_refused rule input f (skipped_open rule input h (Err f) o e x a))

          inside : (x : Extent) → h.extent ≡ x → Opens rule None input
          inside (definite c) x = (Ok (take (length input - length h.rest) input, h.rest), encoding_open rule input 0 h.rest (skipped_plain rule input h c o e x))
          inside indefinite x = let k = closing rule h.rest (frame_octets input o (header_parsed (loose rule) AnyTag input h o e).0).0 in ended k.0 x k.1

  tagged : (tag : Tag) → Opens rule (Some tag) input
  tagged tag = go (header_at (form rule) (as_written rule tag true) input) refl
    where
      go : (r : Result Header ParseError) → header_at (form rule) (as_written rule tag true) input ≡ r → Opens rule (Some tag) input
      go (Err f) e = (Err f, tagged_refused rule tag input o f e)
      go (Ok h) e = inside h.extent refl
        where
          ended : (r : Result (ℕ × List ℕ) ParseError) → h.extent ≡ indefinite → Exactly (EncodingsToEnd rule h.rest) (IsUnparsable rule h.rest) r → Opens rule (Some tag) input
          ended (Ok p) x a = (Ok (take (length h.rest - length p.1 - 2) h.rest, p.1), (tagged_closed rule tag input o h e x p.0 p.1 a).0)
          ended (Err f) x a = (Err f, tagged_unparsable rule tag input o h e x f a)

          inside : (x : Extent) → h.extent ≡ x → Opens rule (Some tag) input
          inside (definite c) x = (Ok (c, h.rest), tagged_definite rule tag input o h e c x)
          inside indefinite x = let k = closing rule h.rest (frame_octets input o (header_parsed (form rule) (as_written rule tag true) input h o e).0).0 in ended k.0 x k.1

  opens : (tag : Option Tag) → Opens rule tag input
  opens None = untagged
  opens (Some tag) = tagged tag

-- A call reads an open type or refuses it.
pub open_or : (tag : Tag) (old : State) → AreOctets old.rest → ((a : List ℕ) (rest : List ℕ) → DecodesOpenType tag old (Ok a) (at old rest) → ⊥)
    → ((e : DecodeError) → (IsOutOfMemory e.kind → ⊥) → DecodesOpenType tag old (Err e) old → ⊥) → ⊥
open_or tag old o passed failed = let k = opens old.rule old.rest o (looked_for tag) in go k.0 k.1
  where
    go : (r : Result (List ℕ × List ℕ) ParseError) → OpenAt old.rule (looked_for tag) old.rest r → ⊥
    go (Ok p) a = passed p.0 p.1 (a, refl)
    go (Err f) a = let e : DecodeError = record { kind = error_kind f; codec = old.rule } in failed e (borrowed_plain tag old old e ((f, a, refl), refl)) (inr (f, a, refl), refl)

pub open_type_read : (tag : Tag) → Settles (DecodesOr (any (looked_for tag)) numbers (errors_of (DecodesOpenType tag)))
open_type_read tag =
    or_settles (DecodesOpenType tag) (any (looked_for tag)) numbers (λ old o r new a. open_decodes tag old new r a)
    (λ old o b passed failed. open_or tag old o (λ a rest d. passed a (at old rest) d) (λ e n d. failed e old (d, n)))
