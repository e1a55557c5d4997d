-- What DER reads of a shape whose values have octets isn't absent.
use Rattle.std.proofs.Common.{◌≡◌, ℕ, suc, ◌-◌, ◌≢◌, inl, inr, List, [], ◌∷◌, ◌++◌, Bool, true, false, Some, None}
use Rattle.rasn_types.specs.declared.types.codec.Codec.TheVariants.{Der}
use Rattle.rasn_types.specs.declared.types.tag.Tag.{Tag}
use Rattle.rasn_types.specs.Shapes.{Tree, items, IsSetTree, set_elements, absent, Kind, boolean, null, object_identifier, integer, enumerated, octet_string, fixed, numeric, printable, visible, ia5, any_octets, bmp, universal, utf8, real, time_text, time_digits, utc_time, generalized_time, date, Shape, leaf, any, prefix, choice, open_choice, option, seq, set, sorted_set, list, set_of, unknown, Parts, part, IsAlwaysPresent}
use Rattle.rasn_types.specs.Shapes.Parts.{none}
use Rattle.rasn_types.specs.Readings.{ReadsContents, definite_form, indefinite_form, Reading, ReadsChoice}
use Rattle.rasn_types.specs.Contents.{Contents}
use Rattle.rasn_types.specs.Grammar.{Reads, parts_of, Family, plain_family, bit_family, named_family, text_family, family, ReadsIn, Text}
use Rattle.rasn_types.specs.Lawful.{IsLawful}
use Rattle.rasn.proofs.StrictDer.Parts.{IsNeverAbsent}

pub set_elements_one : (ts us : List Tree) → set_elements (items ts) ≡ set_elements (items us) → items ts ≡ items us
set_elements_one ts us e = cc

-- What is read of a solid shape is there.
contents_there : (kind : Kind) (l : List ℕ) (t : Tree) → Contents Der kind l t → t ≢ absent
contents_there boolean l t h e = let f = h.1 in cc
contents_there (integer range) l t h e = let f = h.0 in cc
contents_there (enumerated known) l t h e = let f = h.0 in cc
contents_there null l t h e = let f = h.0 in cc
contents_there object_identifier l t h e = let f = h.1 in cc
contents_there real l t h e = let f = h.1 in cc
contents_there time_text l t h e = let f = h.0 in cc
contents_there (time_digits n) l t h e = let f = h.0 in cc
contents_there kind l t h e = h

text_there : (kind : Kind) (l : List ℕ) (t : Tree) → Text Der kind l t → t ≢ absent
text_there octet_string l t h e = cc
text_there (fixed n) l t h e = let f = h.0 in cc
text_there numeric l t h e = let f = h.0 in cc
text_there printable l t h e = let f = h.0 in cc
text_there visible l t h e = let f = h.0 in cc
text_there ia5 l t h e = let f = h.0 in cc
text_there any_octets l t h e = cc
text_there bmp l t h e = let f = h.1 in cc
text_there universal l t h e = let f = h.1 in cc
text_there utf8 l t h e = let f = h.0 in cc
text_there utc_time l t h e = let f = h.1 in cc
text_there generalized_time l t h e = let f = h.1 in cc
text_there date l t h e = let f = h.1 in cc
text_there kind l t h e = h

in_there : (which : Family) (kind : Kind) (tag : Tag) (depth : ℕ) (input : List ℕ) (t : Tree) (rest : List ℕ) → ReadsIn which Der kind tag depth input t rest → t ≢ absent
in_there plain_family kind tag depth input t rest h e = contents_there kind h.1 t h.3 e
in_there bit_family kind tag depth input t rest h e = let f = h.1 in cc
in_there named_family kind tag depth input t rest h e = let f = h.1 in cc
in_there text_family kind tag depth input t rest h e = text_there kind h.0 t h.2 e

choice_there : (ps : Parts) (depth k : ℕ) (c : Bool) (input : List ℕ) (t : Tree) (rest : List ℕ) → ReadsChoice Der k (parts_of Der ps depth c) input t rest → t ≢ absent
unfolding Reads parts_of
choice_there none depth k c input t rest h e = h
choice_there (part presence s ps) depth k c input t rest (inl h) e = let f = h.1 in cc
choice_there (part presence s ps) depth k c input t rest (inr h) e = choice_there ps depth (suc k) c input t rest h e

items_there : (ts : List Tree) (t : Tree) → t ≡ items ts → t ≢ absent
items_there [] t f e = cc
items_there (u ∷ ts) t f e = cc

set_there : (extensible : Bool) (ts us : List Tree) (t : Tree) → IsSetTree extensible ts us t → t ≢ absent
set_there true ts us t h = items_there (ts ++ (items us ∷ [])) t h
set_there false ts us t h = items_there ts t h.1

within : {X : Type 0} (P : X → Type 0) (tag : Tag) (bit : Bool) (inner : Bool → Reading X) (input : List ℕ) (x : X) (rest : List ℕ)
    → ((c : Bool) (input rest : List ℕ) → inner c input x rest → P x) → ReadsContents Der tag bit inner input x rest → P x
within P tag bit inner input x rest f (definite_form c g h) = f false c [] h
within P tag bit inner input x rest f (indefinite_form b g h) = f true b (0 ∷ 0 ∷ rest) h

pub there : (s : Shape) → IsAlwaysPresent s → IsLawful s → (depth : ℕ) → IsNeverAbsent s depth
unfolding Reads parts_of IsLawful
there (leaf kind tag bounds) solid lawful depth closing input t rest h = in_there (family kind) kind tag depth input t rest h.0
there (any None) solid lawful depth closing input t rest h = λ e. let f = h.1 in cc
there (any (Some tag)) solid lawful depth closing input t rest h = λ e. let f = h.2 in cc
there (prefix tag s) solid lawful depth closing input t rest h =
    within (λ x. x ≢ absent) tag h.1 (λ c. Reads Der s (depth - 1) c) input t rest (λ c i r k. there s lawful.1 lawful.2 (depth - 1) c i t r k) h.3
there (choice ps) solid lawful depth closing input t rest h = choice_there ps depth 0 closing input t rest h
there (open_choice ps) solid lawful depth closing input t rest (inl h) = choice_there ps depth 0 closing input t rest h
there (open_choice ps) solid lawful depth closing input t rest (inr h) = λ e. let f = h.1 in cc
there (option tag s) solid lawful depth closing input t rest h = absurd solid
there (seq tag ps) solid lawful depth closing input t rest h = within (λ x. x ≢ absent) tag true _ input t rest (λ c i r k. items_there k.0 t k.1) h.1
there (set tag ps) solid lawful depth closing input t rest h = within (λ x. x ≢ absent) tag true _ input t rest (λ c i r k. items_there k.1 t k.2) h.1
there (sorted_set extensible tag ps) solid lawful depth closing input t rest h = within (λ x. x ≢ absent) tag true _ input t rest (λ c i r k. set_there extensible k.1 k.2 t k.3) h.1
there (list tag s size) solid lawful depth closing input t rest h = within (λ x. x ≢ absent) tag true _ input t rest (λ c i r k. items_there k.0 t k.1) h.1
there (set_of tag s size) solid lawful depth closing input t rest h = within (λ x. x ≢ absent) tag true _ input t rest (λ c i r k e. let f = k.1 in cc) h.1
there unknown solid lawful depth closing input t rest h = absurd solid

-- Unknown values.
pub unknown_there : (depth : ℕ) → IsNeverAbsent unknown depth
unfolding Reads parts_of
unknown_there depth closing input t rest h = items_there h.0 t h.1
