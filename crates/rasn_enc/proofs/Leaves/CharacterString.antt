-- The octets of a character string in a header are its octets.
use Rattle.std.proofs.Common.{◌≡◌, ◌<◌, inl, inr, ℕ, ◌≤◌, List, length, refl, sym, ap, ◌∙◌, subst, Result, OnOk, IfErr, None, chars, IsUtf8}
use Rattle.std.proofs.lemmas.Result.{on_ok_weaker, IfErr-weaker}
use Rattle.rasn_types.specs.Framing.{AreOctets}
use Rattle.rasn_types.specs.Tags.{in_universal}
use Rattle.rasn_types.specs.Shapes.{Kind, Tree, numbers, leaf, Admits, octet_string, fixed, bmp, utf8}
use Rattle.rasn_types.specs.Grammar.{family, text_family, IsBounded, Fulfils, measure, by_size}
use Rattle.rasn_types.specs.Bytes.{IsUntaggedOpen, PrimitiveEncoding, IsCer, Bytes, WritesIn, WritesText, WritesString, WritesOctets}
use Rattle.rasn_types.specs.CharacterString.{AreAdmitted, string_kind, ArePaired, units_of}
use Rattle.rasn_types.proofs.CharacterString.Texts.{alphabet_family, alphabet_measure, alphabet_writes, units_there}
use Rattle.rasn_types.specs.declared.types.strings.alphabet.Alphabet.{Alphabet}
use Rattle.rasn_types.specs.declared.types.tag.Tag.{Tag}
use Rattle.rasn_types.specs.declared.types.codec.Codec.{Codec}
use Rattle.rasn_types.specs.declared.types.constraints.Constraints.{Constraints}
use Rattle.rasn_types.specs.declared.error.encode.EncodeError.{EncodeError}
use Rattle.rasn_enc.specs.View.{View}
use Rattle.rasn_enc.specs.Primitive.{Appends}
use Rattle.rasn_enc.specs.Encoding.{AppendsEncoding, EncodeFails}
use Rattle.rasn_enc.specs.Errors.{FailsAtString}
use Rattle.rasn_enc.specs.CharacterString.{IsCounted, AppendsText}
use Rattle.rasn_enc.proofs.Leaves.Primitive.{encoded_one, size_refused}
use Rattle.rasn_enc.proofs.Leaves.Segments.{appends_piece, in_one, str_begins}

-- Octets in one piece.
pub octets_in_one : (tag : Tag) (xs : List ℕ) (v w : View) → AreOctets xs → ((IsCer v.rule × (1000 < length xs)) → ⊥) → Appends (PrimitiveEncoding tag xs) tag v w
    → Appends (WritesString v.rule WritesOctets 1000 (in_universal 4) tag xs) tag v w
octets_in_one tag xs v w o uncut a = in_one WritesOctets 1000 (in_universal 4) tag xs v w uncut (appends_piece WritesOctets tag xs xs v w (refl, o) a)

-- A kind of string whose octets these are.
pub text_encoded : {R E : Type 0} (result : Result R E) (kind : Kind) (tag : Tag) (c : Constraints) (xs : List ℕ) (t : Tree) (size : ℕ) (v w : View) → family kind ≡ text_family
    → (Admits ◌≤◌ c.size size → IsBounded kind c t) → WritesText kind xs t → OnOk result (AppendsText tag c xs size v w) → OnOk result (AppendsEncoding (leaf kind tag c) t v w)
unfolding Bytes IsUntaggedOpen
text_encoded result kind tag c xs t size v w f bounded writes h = on_ok_weaker result (λ p.
    encoded_one (WritesString v.rule WritesOctets 1000 (in_universal 4) tag xs) tag (leaf kind tag c) t v w p.appends (λ n. n)
    (λ o d. str_begins WritesOctets 1000 (in_universal 4) v.rule tag xs o d)
    (λ b d. (bounded p.admitted, subst (λ z. WritesIn z v.rule kind tag t b) (sym f) (xs, writes, d)))) h

-- The same with the octets and the size as they were computed.
with_size : {R E : Type 0} (result : Result R E) (tag : Tag) (c : Constraints) (ys xs : List ℕ) (size n : ℕ) (v w : View) → ys ≡ xs → size ≡ n
    → OnOk result (AppendsText tag c ys size v w) → OnOk result (AppendsText tag c xs n v w)
with_size result tag c ys xs size n v w e k h = subst (λ z. OnOk result (AppendsText tag c xs z v w)) k (subst (λ z. OnOk result (AppendsText tag c z size v w)) e h)

pub octets_encoded : {R E : Type 0} (result : Result R E) (tag : Tag) (c : Constraints) (xs : List ℕ) (v w : View)
    → OnOk result (AppendsText tag c xs (length xs) v w) → OnOk result (AppendsEncoding (leaf octet_string tag c) (numbers xs) v w)
octets_encoded result tag c xs v w p = text_encoded result octet_string tag c xs (numbers xs) (length xs) v w refl (λ m. m) refl p

pub alphabet_encoded : {R E : Type 0} (result : Result R E) (a : Alphabet) (tag : Tag) (c : Constraints) (ys xs : List ℕ) (size : ℕ) (v w : View) → ys ≡ xs → size ≡ length ys → AreAdmitted a xs
    → OnOk result (AppendsText tag c ys size v w) → OnOk result (AppendsEncoding (leaf (string_kind a) tag c) (numbers xs) v w)
alphabet_encoded result a tag c ys xs size v w e k h p = text_encoded result (string_kind a) tag c xs (numbers xs) (length xs) v w (alphabet_family a)
    (λ m. subst (λ z. Fulfils z c (numbers xs)) (sym (alphabet_measure a)) m) (alphabet_writes a xs h) (with_size result tag c ys xs size (length xs) v w e (k ∙ ap length e) p)

pub units_encoded : {R E : Type 0} (result : Result R E) (tag : Tag) (c : Constraints) (ys xs : List ℕ) (size : ℕ) (v w : View) → ys ≡ xs → size ≡ length (units_of xs) → ArePaired xs
    → OnOk result (AppendsText tag c ys size v w) → OnOk result (AppendsEncoding (leaf bmp tag c) (numbers (units_of xs)) v w)
units_encoded result tag c ys xs size v w e k h p = text_encoded result bmp tag c xs (numbers (units_of xs)) (length (units_of xs)) v w refl
    (λ m. m) (units_of xs, refl, units_there xs h) (with_size result tag c ys xs size (length (units_of xs)) v w e k p)

pub characters_encoded : {R E : Type 0} (result : Result R E) (tag : Tag) (c : Constraints) (ys xs : List ℕ) (size : ℕ) (v w : View) → ys ≡ xs → size ≡ length (chars xs) → IsUtf8 xs
    → OnOk result (AppendsText tag c ys size v w) → OnOk result (AppendsEncoding (leaf utf8 tag c) (numbers (chars xs)) v w)
characters_encoded result tag c ys xs size v w e k h p = text_encoded result utf8 tag c xs (numbers (chars xs)) (length (chars xs)) v w refl
    (λ m. m) (refl, h) (with_size result tag c ys xs size (length (chars xs)) v w e k p)

-- An OCTET STRING of n octets.
pub fixed_encoded : {R E : Type 0} (result : Result R E) (tag : Tag) (c : Constraints) (xs : List ℕ) (n : ℕ) (v w : View) → length xs ≡ n
    → OnOk result (AppendsEncoding (leaf octet_string tag c) (numbers xs) v w) → OnOk result (AppendsEncoding (leaf (fixed n) tag c) (numbers xs) v w)
unfolding Bytes IsUntaggedOpen
fixed_encoded result tag c xs n v w k h = on_ok_weaker result (λ a. record {
  octets = a.octets;
  defined = (a.defined.0, as_fixed a.octets a.defined.1);
  tags = a.tags;
  heads = a.heads;
  tagged = a.tagged;
  appended = a.appended;
}) h
  where
    as_fixed : (octets : List ℕ) → WritesIn text_family v.rule octet_string tag (numbers xs) octets → WritesIn text_family v.rule (fixed n) tag (numbers xs) octets
    as_fixed octets (l, e, d) = (l, (e, let m : xs ≡ l = cc in ap length (sym m) ∙ k), d)

-- The same refusal of the size as it was computed.
pub refused_at : {R : Type 0} (result : Result R EncodeError) (c : Constraints) (size n : ℕ) (rule : Codec) → size ≡ n
    → IfErr result (FailsAtString c size rule) → IfErr result (FailsAtString c n rule)
refused_at result c size n rule k h = subst (λ z. IfErr result (FailsAtString c z rule)) k h

-- A size that was counted only where there is a bound.
any_admitted : (c : Constraints) (n : ℕ) → c.size ≡ None → Admits ◌≤◌ c.size n
any_admitted c n k = subst (λ s. Admits ◌≤◌ s n) (sym k) tt

counted_admitted : (c : Constraints) (size n : ℕ) → IsCounted c size n → Admits ◌≤◌ c.size size → Admits ◌≤◌ c.size n
counted_admitted c size n (inl k) a = any_admitted c n k
counted_admitted c size n (inr k) a = subst (λ z. Admits ◌≤◌ c.size z) k a

pub counted_appended : {R E : Type 0} (result : Result R E) (tag : Tag) (c : Constraints) (xs : List ℕ) (size n : ℕ) (v w : View) → IsCounted c size n
    → OnOk result (AppendsText tag c xs size v w) → OnOk result (AppendsText tag c xs n v w)
counted_appended result tag c xs size n v w k h =
    on_ok_weaker result (λ p. record { admitted = counted_admitted c size n k p.admitted; appends = p.appends }) h

pub counted_refused : {R : Type 0} (result : Result R EncodeError) (c : Constraints) (size n : ℕ) (rule : Codec) → IsCounted c size n
    → IfErr result (FailsAtString c size rule) → IfErr result (FailsAtString c n rule)
counted_refused result c size n rule (inl k) h = IfErr-weaker result _ _ (λ e. elim [
  | inl r ↦ absurd (r.unmet (any_admitted c size k))
  | inr m ↦ inr (record { met = any_admitted c n k; memory = m.memory })
]) h
counted_refused result c size n rule (inr k) h = refused_at result c size n rule k h

-- A size that isn't admitted has no octets.
pub text_refused : {R : Type 0} (result : Result R EncodeError) (kind : Kind) (tag : Tag) (c : Constraints) (ns : List ℕ) (v : View) → measure kind ≡ by_size
    → IfErr result (FailsAtString c (length ns) v.rule)
    → IfErr result (EncodeFails (leaf kind tag c) (numbers ns) v)
text_refused result kind tag c ns v k h = size_refused result kind tag c (numbers ns) (length ns) v (λ b. subst (λ z. Fulfils z c (numbers ns)) k b) h
