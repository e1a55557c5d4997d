-- Tokens that are appended, one after the other.
use Rattle.std.proofs.Common.{◌≡◌, ◌<◌, ◌^◌, ℕ, List, [], ◌∷◌, ◌++◌, Some, Result, Ok, Err, inl, inr, refl, sym, ap, ◌∙◌, subst, append_assoc}
use Rattle.std.specs.Prelude.{◌≢◌, Bool, length, codes, decimal, encode_utf8_all, slice_get, OnOk}
use Rattle.std.specs.String.{string_bytes}
use Rattle.json.specs.Token.{Token, begin_object, end_object, begin_array, end_array, key, string, number}
use Rattle.json.specs.Json as json
use Rattle.json.specs.Json.{Json, object, array, Items, no_items, item, Members, no_members, member}
use Rattle.json.specs.Tree.{json_tokens, items_tokens, members_tokens}
use Rattle.rasn_schema.specs.declared.types.Alternative.{Alternative}
use Rattle.rasn_schema.specs.declared.types.Component.{Component}
use Rattle.rasn_schema.specs.declared.value.Value.{Value}
use Rattle.rasn_types.specs.BitString.{Packs}
use Rattle.rasn_types.specs.Text.{hexadecimal}
use Rattle.rasn_schema.specs.declared.types.LeafKind.{LeafKind}
use Rattle.rasn_schema.specs.declared.types.LeafKind.TheVariants.{OctetString, FixedOctetString, Real, TimeOfDay, DateTime}
use Rattle.rasn_json.specs.Json.{HexadecimalJson, CountedJson, OctetsJson, counted, MembersJson, ItemsJson, ObjectJson, ArrayJson, ChosenJson, Appends, AppendsMember, AppendsComponent}

-- What holds of the JSON holds of one of which less is said.
pub appends_as : (P Q : Json → Type 0) (old new : List Token) → ((j : Json) → P j → Q j) → Appends P old new → Appends Q old new
appends_as P Q old new f (j, e, h) = (j, e, f j h)

pub on_appends : {A E : Type 0} (P Q : Json → Type 0) (old new : List Token) (r : Result A E) → ((j : Json) → P j → Q j) → OnOk r (Appends P old new) → OnOk r (Appends Q old new)
on_appends P Q old new (Ok v) f h = appends_as P Q old new f h
on_appends P Q old new (Err e) f h = tt

-- One more token is appended.
pub step : (old l x y : List Token) (t : Token) → x ≡ old ++ l → y ≡ x ++ t ∷ [] → y ≡ old ++ (l ++ t ∷ [])
step old l x y t e f = f ∙ (ap (λ z. z ++ t ∷ []) e ∙ append_assoc old l (t ∷ []))

pub one_token : (P : Json → Type 0) (j : Json) (old new : List Token) → new ≡ old ++ json_tokens j → P j → Appends P old new
one_token P j old new e h = (j, e, h)

pub on_ok : {A E : Type 0} (r : Result A E) (P Q : Type 0) → (P → Q) → OnOk r P → OnOk r Q
on_ok (Ok v) P Q f h = f h
on_ok (Err x) P Q f h = tt

-- One token is the JSON of a value.
pub on_one : {A E : Type 0} (P : Json → Type 0) (j : Json) (old new : List Token) (r : Result A E) → OnOk r (new ≡ old ++ json_tokens j) → P j → OnOk r (Appends P old new)
on_one P j old new (Ok v) e h = (j, e, h)
on_one P j old new (Err x) e h = tt

-- ---- leaves

pub counted_appended : (bs : List Bool) (o : List ℕ) (n : ℕ) (old one two three four five new : List Token) → Packs bs o → n ≡ length bs → n < 2 ^ 64 → one ≡ old ++ begin_object ∷ [] → two ≡ one ++ key (codes "value") ∷ []
    → Appends (HexadecimalJson o) two three → four ≡ three ++ key (codes "length") ∷ [] → five ≡ four ++ number (decimal n) ∷ [] → new ≡ five ++ end_object ∷ [] → Appends (CountedJson bs) old new
counted_appended bs o n old one two three four five new p m w a b (j, s, h) d e f =
    let t : three ≡ two ++ string (hexadecimal o) ∷ [] = subst (λ x. three ≡ two ++ json_tokens x) h.1 s in
    let g : five ≡ four ++ number (decimal (length bs)) ∷ [] = subst (λ k. five ≡ four ++ number (decimal k) ∷ []) m e in (
      counted (json.string (hexadecimal o)) (length bs),
      step old _ five new end_object (step old _ four five _ (step old _ three four _ (step old _ two three _ (step old _ one two _ a b) t) d) g) f,
      (subst (λ k. k < 2 ^ 64) m w, (json.string (hexadecimal o), (o, p, (h.0, refl)), refl)),
    )

pub other_octets : (kind : LeafKind) (o : List ℕ) (j : Json) → (kind ≢ OctetString) → ((n : ℕ) → kind ≢ FixedOctetString n) → (kind ≢ Real) → (kind ≢ TimeOfDay) → (kind ≢ DateTime) → j ≡ json.string (encode_utf8_all o)
    → OctetsJson kind o j
other_octets OctetString o j n m r t d h = absurd (n refl)
other_octets (FixedOctetString k) o j n m r t d h = absurd (m k refl)
other_octets Real o j n m r t d h = absurd (r refl)
other_octets TimeOfDay o j n m r t d h = absurd (t refl)
other_octets DateTime o j n m r t d h = absurd (d refl)
other_octets _ o j n m r t d h = h

-- ---- the members of an object

-- Some components are written, and the rest is left.
abbrev pub ObjectSoFar : (ℕ → Bool) → (ℕ → Value → Json → Type 0) → List Component → List Component → List Value → List Value → List Token → List Token → Type 0
ObjectSoFar u g all rest vs left old new = (done : List Token) × (new ≡ old ++ begin_object ∷ done)
    × ((ms : Members) → MembersJson u g rest left ms → (ns : Members) × MembersJson u g all vs ns × (members_tokens ns ≡ done ++ members_tokens ms))

module _ (u : ℕ → Bool) (g : ℕ → Value → Json → Type 0) where
  pub object_start : (all : List Component) (vs : List Value) (old new : List Token) → new ≡ old ++ begin_object ∷ [] → ObjectSoFar u g all all vs vs old new
  object_start all vs old new e = ([], e, λ ms h. (ms, h, refl))

  module _ (all rest after : List Component) (vs left others : List Value) (p : Component) (v : Value) (old here new : List Token)
      (k : ObjectSoFar u g all rest vs left old here) (e : rest ≡ p ∷ after) (f : left ≡ v ∷ others) where
    joined : (ms : Members) → MembersJson u g (p ∷ after) (v ∷ others) ms → MembersJson u g rest left ms
    joined ms h = subst (λ l. MembersJson u g l left ms) (sym e) (subst (λ l. MembersJson u g (p ∷ after) l ms) (sym f) h)

    pub object_more : AppendsComponent u g p v here new → ObjectSoFar u g all after vs others old new
    object_more (inl (o, s)) = (k.0, s ∙ k.1, λ ms h. k.2 ms (joined ms (inl (o, h))))
    object_more (inr (n, (j, s, h))) = (
      k.0 ++ key (string_bytes p.name) ∷ json_tokens j,
      s ∙ (ap (λ l. l ++ key (string_bytes p.name) ∷ json_tokens j) k.1 ∙ append_assoc old (begin_object ∷ k.0) (key (string_bytes p.name) ∷ json_tokens j)),
      λ ms m. let x = k.2 (member (string_bytes p.name) j ms) (joined (member (string_bytes p.name) j ms) (inr (n, (j, ms, refl, h, m)))) in
          (x.0, x.1, x.2 ∙ sym (append_assoc k.0 (key (string_bytes p.name) ∷ json_tokens j) (members_tokens ms))),
    )

  pub object_end : (all rest : List Component) (vs left : List Value) (old here new : List Token) → ObjectSoFar u g all rest vs left old here → rest ≡ [] → left ≡ [] → new ≡ here ++ end_object ∷ []
      → Appends (λ j. ObjectJson u g all j vs) old new
  object_end all rest vs left old here new k e f n =
      let x = k.2 no_members (subst (λ l. MembersJson u g l left no_members) (sym e) (subst (λ l. MembersJson u g [] l no_members) (sym f) refl)) in
      (object x.0, n ∙ (ap (λ l. l ++ end_object ∷ []) k.1 ∙ (append_assoc old (begin_object ∷ k.0) (end_object ∷ []) ∙ ap (λ l. old ++ begin_object ∷ l) (sym x.2))), (x.0, refl, x.1))

-- ---- the items of an array

abbrev pub ArraySoFar : (Value → Json → Type 0) → List Value → List Value → List Token → List Token → Type 0
ArraySoFar P all left old new = (done : List Token) × (new ≡ old ++ begin_array ∷ done)
    × ((js : Items) → ItemsJson P left js → (ks : Items) × ItemsJson P all ks × (items_tokens ks ≡ done ++ items_tokens js))

module _ (P : Value → Json → Type 0) where
  pub array_start : (all : List Value) (old new : List Token) → new ≡ old ++ begin_array ∷ [] → ArraySoFar P all all old new
  array_start all old new e = ([], e, λ js h. (js, h, refl))

  pub array_more : (all left others : List Value) (v : Value) (old here new : List Token) → ArraySoFar P all left old here → left ≡ v ∷ others → Appends (P v) here new → ArraySoFar P all others old new
  array_more all left others v old here new k f (j, s, h) = (
    k.0 ++ json_tokens j,
    s ∙ (ap (λ l. l ++ json_tokens j) k.1 ∙ append_assoc old (begin_array ∷ k.0) (json_tokens j)),
    λ js m. let x = k.2 (item j js) (subst (λ l. ItemsJson P l (item j js)) (sym f) (j, js, refl, h, m)) in
        (x.0, x.1, x.2 ∙ sym (append_assoc k.0 (json_tokens j) (items_tokens js))),
  )

  pub array_end : (all left : List Value) (old here new : List Token) → ArraySoFar P all left old here → left ≡ [] → new ≡ here ++ end_array ∷ [] → Appends (λ j. ArrayJson P j all) old new
  array_end all left old here new k f n =
      let x = k.2 no_items (subst (λ l. ItemsJson P l no_items) (sym f) refl) in
      (array x.0, n ∙ (ap (λ l. l ++ end_array ∷ []) k.1 ∙ (append_assoc old (begin_array ∷ k.0) (end_array ∷ []) ∙ ap (λ l. old ++ begin_array ∷ l) (sym x.2))), (x.0, refl, x.1))

-- ---- one member

pub member_appended : (P : Json → Type 0) (name : List ℕ) (old here new : List Token) → here ≡ old ++ key name ∷ [] → Appends P here new → AppendsMember P name old new
member_appended P name old here new e (j, s, h) = (j, s ∙ (ap (λ l. l ++ json_tokens j) e ∙ append_assoc old (key name ∷ []) (json_tokens j)), h)

pub chosen_appended : (g : ℕ → Value → Json → Type 0) (ks : List Alternative) (i : ℕ) (w : Value) (a : Alternative) (old one two new : List Token) → Some a ≡ slice_get ks i
    → one ≡ old ++ begin_object ∷ [] → AppendsMember (g a.type_id.0 w) (string_bytes a.name) one two → new ≡ two ++ end_object ∷ [] → Appends (λ j. ChosenJson g ks j i w) old new
chosen_appended g ks i w a old one two new at b (x, s, h) n =
    let k = key (string_bytes a.name) in (
      object (member (string_bytes a.name) x no_members),
      n ∙ (ap (λ l. l ++ end_object ∷ []) (s ∙ (ap (λ l. l ++ k ∷ json_tokens x) b ∙ append_assoc old (begin_object ∷ []) (k ∷ json_tokens x))) ∙ append_assoc old (begin_object ∷ k ∷ json_tokens x) (end_object ∷ [])),
      (a, x, at, refl, h),
    )

pub chosen_put : {A E : Type 0} (g : ℕ → Value → Json → Type 0) (ks : List Alternative) (i : ℕ) (w x : Value) (a : Alternative) (name : List ℕ) (old one two new : List Token) (r : Result A E) → Some a ≡ slice_get ks i
    → name ≡ string_bytes a.name → x ≡ w → one ≡ old ++ begin_object ∷ [] → AppendsMember (g a.type_id.0 x) name one two → OnOk r (new ≡ two ++ end_object ∷ []) → OnOk r (Appends (λ j. ChosenJson g ks j i w) old new)
chosen_put g ks i w x a name old one two new r at n e b m h =
    on_ok r _ _ (chosen_appended g ks i w a old one two new at b (subst (λ s. AppendsMember (g a.type_id.0 w) s one two) n (subst (λ y. AppendsMember (g a.type_id.0 y) name one two) e m))) h
