-- A leaf's contents in a header are its octets.
use Rattle.std.proofs.Common.{◌≡◌, ◌≢◌, subst, ℕ, ◌≤◌, ◌≤ℤ◌, ◌⊎◌, inl, inr, Bool, true, false, cond, List, [], ◌∷◌, ◌++◌, refl, sym, ap, Result, OnOk, IfErr, pos, ℤ, arith}
use Rattle.std.proofs.lemmas.Result.{on_ok_weaker, IfErr-weaker}
use Rattle.rasn_types.specs.Tags.{tag_bit}
use Rattle.rasn_types.specs.Framing.{SpellsAnyIdentifier, Begins}
use Rattle.rasn_types.specs.Shapes.{Shape, Kind, Tree, number, leaf, boolean, integer, Interval, IsIn, Admits}
use Rattle.rasn_types.specs.Contents.{signed, IsShortestInteger}
use Rattle.rasn_types.specs.Trees.{bool_tree, IsShortestOf}
use Rattle.rasn_types.specs.Grammar.{IsBounded}
use Rattle.rasn_types.specs.Bytes.{DefiniteForm, PrimitiveEncoding, ConstructedEncoding, TagsOf, Written, Bytes, IsUntaggedOpen}
use Rattle.rasn_types.specs.declared.types.codec.Codec.{Codec}
use Rattle.rasn_types.specs.declared.types.codec.Codec.TheVariants.{Ber, Cer, Der}
use Rattle.rasn_types.specs.declared.types.tag.Tag.{Tag}
use Rattle.rasn_types.specs.declared.types.constraints.Constraints.{Constraints}
use Rattle.rasn_types.specs.declared.error.encode.EncodeError.{EncodeError}
use Rattle.rasn_enc.specs.View.{View}
use Rattle.rasn_enc.specs.Primitive.{Appends, AppendsPrimitive, IsAllocError}
use Rattle.rasn_enc.specs.Encoding.{AppendsEncoding, EncodeFails}
use Rattle.rasn_enc.specs.Errors.{FailsAtString, FailsAtValue}

-- What begins with an identifier has one outermost tag.
pub one_head : (octets : List ℕ) (tag : Tag) → Begins octets tag → TagsOf (octets ∷ []) (tag ∷ [])
one_head [] tag b = absurd (none b.id b.bit b.more b.spells b.is)
  where
    none : (id : List ℕ) (bit : Bool) (more : List ℕ) → SpellsAnyIdentifier id tag bit → [] ≡ id ++ more → ⊥
    none [] bit more s e = s
    none (x ∷ id) bit more s e = cc
one_head (o ∷ l) tag b = (tag, [], refl, b, refl)

pub definite_begins : (tag : Tag) (bit : Bool) (contents octets : List ℕ) → DefiniteForm tag bit contents octets → Begins octets tag
definite_begins tag bit contents octets d = record { id = d.id; bit = bit; more = d.len ++ contents; spells = d.id_spells; is = d.is }

pub cons_begins : (rule : Codec) (tag : Tag) (contents octets : List ℕ) → ConstructedEncoding rule tag contents octets → Begins octets tag
cons_begins Ber tag contents octets d = definite_begins tag true contents octets d
cons_begins Cer tag contents octets d = record { id = d.id; bit = true; more = 128 ∷ (contents ++ (0 ∷ 0 ∷ [])); spells = d.id_spells; is = d.is }
cons_begins Der tag contents octets d = definite_begins tag true contents octets d

-- One value with an identifier is written.
pub encoded_one : (R : List ℕ → Type 0) (tag : Tag) (s : Shape) (t : Tree) (v w : View) → Appends R tag v w → (IsUntaggedOpen s t → ⊥)
    → ((octets : List ℕ) → R octets → Begins octets tag) → ((octets : List ℕ) → R octets → Bytes v.rule s t octets) → AppendsEncoding s t v w
encoded_one R tag s t v w a tagged begins defined = record {
  octets = a.octets;
  defined = defined a.octets a.written;
  tags = tag ∷ [];
  heads = λ k. one_head a.octets tag (begins a.octets a.written);
  tagged = λ k b. absurd (tagged b);
  appended = a.appended;
}

-- Contents that are these and no others.
pub exactly : {R E : Type 0} (result : Result R E) (contents : List ℕ) (tag : Tag) (v w : View) → OnOk result (AppendsPrimitive (λ l. l ≡ contents) tag v w)
    → OnOk result (Appends (PrimitiveEncoding tag contents) tag v w)
exactly result contents tag v w h = on_ok_weaker result (λ (l, e, a). subst (λ l. Appends (PrimitiveEncoding tag l) tag v w) e a) h

bool_written : (b : Bool) → Written boolean (bool_tree b) (cond b 255 0 ∷ [])
bool_written true = record { is = (pos 1, refl, inr (refl, refl)); octets = (omega arith, tt); shortest = tt }
bool_written false = record { is = (pos 0, refl, inl (refl, refl)); octets = (omega arith, tt); shortest = tt }

pub bool_encoded : {R E : Type 0} (result : Result R E) (tag : Tag) (b : Bool) (contents : List ℕ) (v w : View) → contents ≡ cond b 255 0 ∷ []
    → OnOk result (Appends (PrimitiveEncoding tag contents) tag v w) → (c : Constraints) → OnOk result (AppendsEncoding (leaf boolean tag c) (bool_tree b) v w)
unfolding Bytes IsUntaggedOpen
bool_encoded result tag b contents v w e h c = on_ok_weaker result (λ a.
    encoded_one (PrimitiveEncoding tag contents) tag (leaf boolean tag c) (bool_tree b) v w a (λ n. n) (λ o d. definite_begins tag (tag_bit tag) contents o d)
    (λ o d. (tt, (contents, rw e (bool_written b), d)))) h

-- A whole number in its fewest octets.
pub integer_encoded : {R E : Type 0} (result : Result R E) (range : Interval) (tag : Tag) (c : Constraints) (n : ℤ) (l : List ℕ) (v w : View)
    → IsShortestOf n l → IsIn range n → Admits ◌≤ℤ◌ c.value (signed l) → OnOk result (Appends (PrimitiveEncoding tag l) tag v w)
    → OnOk result (AppendsEncoding (leaf (integer range) tag c) (number n) v w)
unfolding Bytes IsUntaggedOpen
integer_encoded result range tag c n l v w s i m h = on_ok_weaker result (λ a.
    encoded_one (PrimitiveEncoding tag l) tag (leaf (integer range) tag c) (number n) v w a (λ n. n) (λ o d. definite_begins tag (tag_bit tag) l o d)
    (λ o d. (subst (λ z. Admits ◌≤ℤ◌ c.value z) s.is m, (l, written, d)))) h
  where
    some : (l : List ℕ) → IsShortestInteger l → l ≢ []
    some [] k e = k
    some (x ∷ l) k e = cc

    written : Written (integer range) (number n) l
    written = record { is = (ap number (sym s.is), some l s.shortest, subst (λ z. IsIn range z) (sym s.is) i); octets = s.octets; shortest = s.shortest }

pub integer_refused : {R : Type 0} (result : Result R EncodeError) (range : Interval) (tag : Tag) (c : Constraints) (n : ℤ) (v : View)
    → IfErr result (λ e. FailsAtValue c n v.rule e ⊎ IsAllocError v.rule e) → IfErr result (EncodeFails (leaf (integer range) tag c) (number n) v)
unfolding Bytes
integer_refused result range tag c n v h = IfErr-weaker result _ _ (λ e. elim [
  | inl r ↦ record { why = inr (inl (record { none = λ octets b. r.unmet b.0 })) }
  | inr m ↦ record { why = inl (ap (λ (x : EncodeError). x.kind) m) }
]) h

-- A size that isn't admitted has no octets.
pub size_refused : {R : Type 0} (result : Result R EncodeError) (kind : Kind) (tag : Tag) (c : Constraints) (t : Tree) (size : ℕ) (v : View) → (IsBounded kind c t → Admits ◌≤◌ c.size size)
    → IfErr result (FailsAtString c size v.rule) → IfErr result (EncodeFails (leaf kind tag c) t v)
unfolding Bytes
size_refused result kind tag c t size v bounded h = IfErr-weaker result _ _ (λ e. elim [
  | inl r ↦ record { why = inr (inl (record { none = λ octets b. r.unmet (bounded b.0) })) }
  | inr m ↦ record { why = inl (ap (λ (x : EncodeError). x.kind) m.memory) }
]) h
