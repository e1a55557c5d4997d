-- Values that hold no other values, written as values of their kind.
use Rattle.std.proofs.Common.{◌≡◌, ◌≢◌, ◌⊎◌, inl, inr, ℕ, ℤ, Bool, List, length, Result, OnOk, IfErr, refl, sym, ap, subst}
use Rattle.std.proofs.lemmas.Result.{on_ok_weaker, IfErr-weaker}
use Rattle.rasn_types.specs.CharacterString.{AreAdmitted}
use Rattle.rasn_types.specs.Shapes.{Shape, Tree, Kind, Interval, IsIn, leaf, number, numbers, integer, enumerated, every, octet_string, fixed, numeric, printable, visible, ia5, any_octets, real, time_text, time_digits}
use Rattle.rasn_types.specs.Framing.{AreOctets as AllOctets}
use Rattle.rasn_types.specs.Tags.{tag_bit}
use Rattle.rasn_types.specs.Grammar.{family, plain_family, IsBounded}
use Rattle.rasn_types.specs.Contents.{signed}
use Rattle.rasn_types.specs.Trees.{signed_range, unsigned_range, unconstrained}
use Rattle.rasn_types.specs.Bytes.{Bytes, Written, WritesIn, PrimitiveEncoding, IsUntaggedOpen}
use Rattle.rasn_types.specs.declared.types.tag.Tag.{Tag}
use Rattle.rasn_types.specs.declared.types.constraints.Constraints.{Constraints}
use Rattle.rasn_types.specs.declared.types.strings.alphabet.Alphabet.{Alphabet}
use Rattle.rasn_types.specs.declared.types.strings.alphabet.Alphabet.TheVariants.{Numeric as NumericAlphabet, Printable as PrintableAlphabet, Visible as VisibleAlphabet, Ia5 as Ia5Alphabet}
use Rattle.rasn_types.specs.declared.error.encode.EncodeError.{EncodeError}
use Rattle.rasn_enc.specs.View.{View}
use Rattle.rasn_enc.specs.Primitive.{Appends, IsAllocError}
use Rattle.rasn_enc.specs.Encoding.{AppendsEncoding, EncodeFails}
use Rattle.rasn_enc.specs.Errors.{FailsAtString, FailsAtInteger}
use Rattle.rasn_enc.specs.Any.{FailsAtAny}
use Rattle.rasn_enc.proofs.Leaves.CharacterString.{fixed_encoded, text_refused}
use Rattle.rasn_enc.proofs.Leaves.Primitive.{integer_refused, encoded_one, definite_begins}
use Rattle.rasn_schema.specs.declared.types.LeafKind.{LeafKind}
use Rattle.rasn_schema.specs.declared.types.LeafKind.TheVariants.{BitString, NamedBits, OctetString, FixedOctetString, Integer, Signed32, Signed64, Unsigned32, Unsigned64, Numeric, Printable, Visible, Ia5, AnyOctets, Real, Time, Duration, TimeOfDay, DateTime}
use Rattle.rasn_schema.specs.declared.value.Value.{Value, Integer as Whole, Octets}
use Rattle.rasn_schema.specs.Trees.{tree_of}
use Rattle.rasn_schema.specs.Shapes.{kind_of}
use Rattle.rasn_schema.specs.Fitting.{NumberFits, OctetsFit, BitsFit, IsNumber, AreOctets}
use Rattle.rasn_dynamic.specs.Written.{Encodes}

-- The kind and the value are these.
pub leaf_as : (kind k : LeafKind) (v u : Value) (tag : Tag) (c : Constraints) (old new : View) (r : Result (Unit {0}) EncodeError) → kind ≡ k → v ≡ u
    → OnOk r (AppendsEncoding (leaf (kind_of k) tag c) (tree_of u) old new) → IfErr r (EncodeFails (leaf (kind_of k) tag c) (tree_of u) old)
    → Encodes (leaf (kind_of kind) tag c) (tree_of v) old r new
leaf_as kind k v u tag c old new r e f ok refused = rw (e, f) (record { ok = ok; refused = refused })

-- Bits without names are those of a BIT STRING.
pub plain_bits : (kind : LeafKind) (bs : List Bool) → BitsFit kind bs → (kind ≢ NamedBits) → kind ≡ BitString
plain_bits BitString bs f n = refl
plain_bits NamedBits bs f n = absurd (n refl)
plain_bits _ bs f n = absurd f

-- ---- contents

-- The octets of a value are its contents octets, and aren't a string.
abbrev pub HasContents : LeafKind → Type 0
HasContents Real = Unit {0}
HasContents Time = Unit {0}
HasContents Duration = Unit {0}
HasContents TimeOfDay = Unit {0}
HasContents DateTime = Unit {0}
HasContents _ = ⊥

pub are_contents : (kind : LeafKind) → ((kind ≡ Real) ⊎ ((kind ≡ Time) ⊎ ((kind ≡ Duration) ⊎ ((kind ≡ TimeOfDay) ⊎ (kind ≡ DateTime))))) → HasContents kind
are_contents kind (inl e) = rw e tt
are_contents kind (inr (inl e)) = rw e tt
are_contents kind (inr (inr (inl e))) = rw e tt
are_contents kind (inr (inr (inr (inl e)))) = rw e tt
are_contents kind (inr (inr (inr (inr e)))) = rw e tt

-- No kind is left whose octets are contents octets.
pub no_contents : (kind : LeafKind) → kind ≢ Real → kind ≢ Time → kind ≢ Duration → kind ≢ TimeOfDay → kind ≢ DateTime → HasContents kind → ⊥
no_contents Real a b d e f h = a refl
no_contents Time a b d e f h = b refl
no_contents Duration a b d e f h = d refl
no_contents TimeOfDay a b d e f h = e refl
no_contents DateTime a b d e f h = f refl
no_contents _ a b d e f h = h

module _ {R : Type 0} (r : Result R EncodeError) (tag : Tag) (c : Constraints) (xs : List ℕ) (v w : View) (o : AllOctets xs) where
  -- Contents octets that mean this tree, which no constraint bounds.
  as_contents : (kind : Kind) (t : Tree) → family kind ≡ plain_family → IsBounded kind c t → Written kind t xs → OnOk r (Appends (PrimitiveEncoding tag xs) tag v w) → OnOk r (AppendsEncoding (leaf kind tag c) t v w)
  unfolding Bytes IsUntaggedOpen
  as_contents kind t f b k h = on_ok_weaker r (λ a.
      encoded_one (PrimitiveEncoding tag xs) tag (leaf kind tag c) t v w a (λ n. n) (λ l d. definite_begins tag (tag_bit tag) xs l d)
      (λ l d. (b, subst (λ z. WritesIn z v.rule kind tag t l) (sym f) (xs, k, d)))) h

  pub contents_encoded : (kind : LeafKind) → OctetsFit kind xs → HasContents kind → OnOk r (Appends (PrimitiveEncoding tag xs) tag v w) → OnOk r (AppendsEncoding (leaf (kind_of kind) tag c) (numbers xs) v w)
  contents_encoded Real f u h = as_contents real (numbers xs) refl tt (record { is = (xs, refl, (f.0, f.1, f.2, λ k. refl)); octets = o; shortest = tt }) h
  contents_encoded Time f u h = as_contents time_text (numbers xs) refl tt (record { is = (refl, f); octets = o; shortest = tt }) h
  contents_encoded Duration f u h = as_contents time_text (numbers xs) refl tt (record { is = (refl, f); octets = o; shortest = tt }) h
  contents_encoded TimeOfDay f u h = as_contents (time_digits 6) (numbers xs) refl tt (record { is = (refl, f); octets = o; shortest = tt }) h
  contents_encoded DateTime f u h = as_contents (time_digits 14) (numbers xs) refl tt (record { is = (refl, f); octets = o; shortest = tt }) h
  contents_encoded _ f u h = absurd u

-- Memory alone is wanted.
pub memory_refused : {R : Type 0} (r : Result R EncodeError) (s : Shape) (t : Tree) (v : View) → IfErr r (IsAllocError v.rule) → IfErr r (EncodeFails s t v)
memory_refused r s t v h = IfErr-weaker r _ _ (λ e m. record { why = inl (ap (λ (x : EncodeError). x.kind) m) }) h

-- ---- strings

module _ {R : Type 0} (r : Result R EncodeError) (tag : Tag) (c : Constraints) (xs : List ℕ) (v w : View) where
  admitted : (a : Alphabet) (l : List ℕ) → AreAdmitted a xs → numbers xs ≡ numbers l → AreAdmitted a l
  admitted a l h e = let m : xs ≡ l = cc in subst (AreAdmitted a) m h

  -- What is written as an OCTET STRING is so as a string whose octets these may be.
  recast : (kind : Kind) → ((octets : List ℕ) → Bytes v.rule (leaf octet_string tag c) (numbers xs) octets → Bytes v.rule (leaf kind tag c) (numbers xs) octets)
      → OnOk r (AppendsEncoding (leaf octet_string tag c) (numbers xs) v w) → OnOk r (AppendsEncoding (leaf kind tag c) (numbers xs) v w)
  unfolding IsUntaggedOpen
  recast kind f h = on_ok_weaker r (λ a. record { octets = a.octets; defined = f a.octets a.defined; tags = a.tags; heads = a.heads; tagged = a.tagged; appended = a.appended }) h

  pub string_encoded : (kind : LeafKind) → OctetsFit kind xs → (HasContents kind → ⊥) → OnOk r (AppendsEncoding (leaf octet_string tag c) (numbers xs) v w) → OnOk r (AppendsEncoding (leaf (kind_of kind) tag c) (numbers xs) v w)
  unfolding Bytes
  string_encoded OctetString f u h = h
  string_encoded (FixedOctetString n) f u h = fixed_encoded r tag c xs n v w f h
  string_encoded Numeric f u h = recast numeric (λ o (m, (l, e, d)). (m, (l, (e, admitted NumericAlphabet l f e), d))) h
  string_encoded Printable f u h = recast printable (λ o (m, (l, e, d)). (m, (l, (e, admitted PrintableAlphabet l f e), d))) h
  string_encoded Visible f u h = recast visible (λ o (m, (l, e, d)). (m, (l, (e, admitted VisibleAlphabet l f e), d))) h
  string_encoded Ia5 f u h = recast ia5 (λ o (m, (l, e, d)). (m, (l, (e, admitted Ia5Alphabet l f e), d))) h
  string_encoded AnyOctets f u h = recast any_octets (λ o b. b) h
  string_encoded Real f u h = absurd (u tt)
  string_encoded Time f u h = absurd (u tt)
  string_encoded Duration f u h = absurd (u tt)
  string_encoded TimeOfDay f u h = absurd (u tt)
  string_encoded DateTime f u h = absurd (u tt)
  string_encoded _ f u h = absurd f

pub string_refused : {R : Type 0} (r : Result R EncodeError) (tag : Tag) (c : Constraints) (xs : List ℕ) (v : View) (kind : LeafKind) → OctetsFit kind xs → (HasContents kind → ⊥) → IfErr r (FailsAtString c (length xs) v.rule) → IfErr r (EncodeFails (leaf (kind_of kind) tag c) (numbers xs) v)
string_refused r tag c xs v OctetString f u h = text_refused r octet_string tag c xs v refl h
string_refused r tag c xs v (FixedOctetString n) f u h = text_refused r (fixed n) tag c xs v refl h
string_refused r tag c xs v Numeric f u h = text_refused r numeric tag c xs v refl h
string_refused r tag c xs v Printable f u h = text_refused r printable tag c xs v refl h
string_refused r tag c xs v Visible f u h = text_refused r visible tag c xs v refl h
string_refused r tag c xs v Ia5 f u h = text_refused r ia5 tag c xs v refl h
string_refused r tag c xs v AnyOctets f u h = text_refused r any_octets tag c xs v refl h
string_refused r tag c xs v Real f u h = absurd (u tt)
string_refused r tag c xs v Time f u h = absurd (u tt)
string_refused r tag c xs v Duration f u h = absurd (u tt)
string_refused r tag c xs v TimeOfDay f u h = absurd (u tt)
string_refused r tag c xs v DateTime f u h = absurd (u tt)
string_refused r tag c xs v _ f u h = absurd f

-- ---- numbers

module _ {R : Type 0} (r : Result R EncodeError) (tag : Tag) (c : Constraints) (n : ℤ) (v w : View) where
  ranged : (range : Interval) (l : List ℕ) → IsIn range n → Written (integer every) (number n) l → Written (integer range) (number n) l
  ranged range l i h =
      let f = h.is.0 in
      let m : n ≡ signed l = cc in
      record { is = (f, h.is.1, subst (IsIn range) m i); octets = h.octets; shortest = h.shortest }

  ranged_encoded : (range : Interval) → IsIn range n → OnOk r (AppendsEncoding (leaf (integer every) tag c) (number n) v w) → OnOk r (AppendsEncoding (leaf (integer range) tag c) (number n) v w)
  unfolding Bytes IsUntaggedOpen
  ranged_encoded range i h = on_ok_weaker r (λ a. record {
    octets = a.octets;
    defined = (a.defined.0, (a.defined.1.0, ranged range a.defined.1.0 i a.defined.1.1, a.defined.1.2));
    tags = a.tags;
    heads = a.heads;
    tagged = a.tagged;
    appended = a.appended;
  }) h

  pub number_encoded : (kind : LeafKind) → NumberFits kind n → OnOk r (AppendsEncoding (leaf (integer every) tag c) (number n) v w) → OnOk r (AppendsEncoding (leaf (kind_of kind) tag c) (number n) v w)
  number_encoded Integer i h = h
  number_encoded Signed32 i h = ranged_encoded (signed_range 32) i h
  number_encoded Signed64 i h = ranged_encoded (signed_range 64) i h
  number_encoded Unsigned32 i h = ranged_encoded (unsigned_range 32) i h
  number_encoded Unsigned64 i h = ranged_encoded (unsigned_range 64) i h
  number_encoded _ i h = absurd i

pub number_refused : {R : Type 0} (r : Result R EncodeError) (tag : Tag) (c : Constraints) (n : ℤ) (v : View) (kind : LeafKind) → NumberFits kind n → IfErr r (FailsAtInteger c n v.rule) → IfErr r (EncodeFails (leaf (kind_of kind) tag c) (number n) v)
number_refused r tag c n v Integer i h = integer_refused r every tag c n v h
number_refused r tag c n v Signed32 i h = integer_refused r (signed_range 32) tag c n v h
number_refused r tag c n v Signed64 i h = integer_refused r (signed_range 64) tag c n v h
number_refused r tag c n v Unsigned32 i h = integer_refused r (unsigned_range 32) tag c n v h
number_refused r tag c n v Unsigned64 i h = integer_refused r (unsigned_range 64) tag c n v h
number_refused r tag c n v _ i h = absurd i

-- A number of an ENUMERATED has no bound, so that memory alone is wanted.
pub named_refused : {R : Type 0} (r : Result R EncodeError) (known : List ℤ) (tag : Tag) (n : ℤ) (v : View) → IfErr r (FailsAtInteger unconstrained n v.rule)
    → IfErr r (EncodeFails (leaf (enumerated known) tag unconstrained) (number n) v)
named_refused r known tag n v h = IfErr-weaker r _ _ (λ e. elim [
  | inl k ↦ absurd (k.unmet tt)
  | inr m ↦ record { why = inl (ap (λ (x : EncodeError). x.kind) m) }
]) h

-- ---- values of another form

pub not_number : (known : List ℤ) (v : Value) → ((n : _) → v ≡ Whole n → ⊥) → IsNumber known v → ⊥
not_number known (Whole n) h k = h n refl
not_number known _ h k = k

pub not_octets : (v : Value) → ((o : _) → v ≡ Octets o → ⊥) → AreOctets v → ⊥
not_octets (Octets o) h k = h o refl
not_octets _ h k = k

-- The error of an open type names the rules.
pub any_rules : {R : Type 0} (r : Result R EncodeError) (tag : Tag) (octets : List ℕ) (v : View) → IfErr r (FailsAtAny tag octets v) → IfErr r (λ e. e.codec ≡ v.rule)
any_rules r tag octets v h = IfErr-weaker r _ _ (λ e k. elim k.1 [
  | inl m ↦ ap (λ (x : EncodeError). x.codec) m.1
  | inr m ↦ ap (λ (x : EncodeError). x.codec) m.1
]) h
