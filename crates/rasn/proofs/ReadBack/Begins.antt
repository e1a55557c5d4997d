-- A value that is there begins with one of its shape's first tags, and doesn't ask whether contents end.
use Rattle.std.proofs.Common.{◌≡◌, ℕ, suc, ◌⊎◌, inl, inr, List, Bool, true, false, Option, Some, None, refl, sym, subst}
use Rattle.rasn_types.specs.Tags.{Form, form, loose}
use Rattle.rasn_types.specs.declared.types.codec.Codec.{Codec}
use Rattle.rasn_types.specs.declared.types.tag.Tag.{Tag}
use Rattle.rasn_types.specs.Framing.{NextTag}
use Rattle.rasn_types.specs.Shapes.{Tree, Kind, Shape, leaf, any, prefix, choice, open_choice, option, seq, set, sorted_set, list, set_of, unknown, Parts, part, IsFirst, IsFirstOf, one_tag, IsAlwaysPresent, AreAlwaysPresent}
use Rattle.rasn_types.specs.Shapes.Parts.{none}
use Rattle.rasn_types.specs.Readings.{Reading, ReadsContents, definite_form, indefinite_form, ReadsChoice, IsLeftOut, IsPresent}
use Rattle.rasn_types.specs.Contents.{ReadsString, primitive, segments, closed_segments, ReadsBitSegment, OctetSegment}
use Rattle.rasn_types.specs.Grammar.{Reads, parts_of, Family, plain_family, bit_family, named_family, text_family, family, ReadsIn, ReadsOpen}
use Rattle.rasn_types.specs.Lawful.{HasTag}
use Rattle.rasn_types.proofs.Headers.Frames.{frame_next, not_ended}
use Rattle.rasn_types.proofs.Encoding.Complete.{whole_next}

inside_next : {X : Type 0} {rule : Codec} {tag : Tag} {bit : Bool} {inner : Bool → Reading X} {input : List ℕ} {x : X} {rest : List ℕ}
    → ReadsContents rule tag bit inner input x rest → NextTag (form rule) input tag
inside_next (definite_form c f r) = frame_next f
inside_next (indefinite_form b f r) = frame_next f

pub str_next : {X : Type 0} (rule : Codec) (segment : List ℕ → List X → Type 0) (inner : Tag) (depth : ℕ) (tag : Tag) (input : List ℕ) (xs : List X) (rest : List ℕ)
    → ReadsString rule segment inner depth tag input xs rest → NextTag (form rule) input tag
str_next rule segment inner depth tag input xs rest (primitive c f s) = frame_next f
str_next rule segment inner depth tag input xs rest (segments c has f m) = frame_next f
str_next rule segment inner depth tag input xs rest (closed_segments body has f m) = frame_next f

in_next : (which : Family) (rule : Codec) (kind : Kind) (tag : Tag) (depth : ℕ) (input : List ℕ) (t : Tree) (rest : List ℕ)
    → ReadsIn which rule kind tag depth input t rest → NextTag (form rule) input tag
in_next plain_family rule kind tag depth input t rest h = frame_next h.2
in_next bit_family rule kind tag depth input t rest h = str_next rule (ReadsBitSegment rule) _ depth tag input h.0 rest h.3
in_next named_family rule kind tag depth input t rest h = str_next rule (ReadsBitSegment rule) _ depth tag input h.0 rest h.3
in_next text_family rule kind tag depth input t rest h = str_next rule OctetSegment _ depth tag input h.0 rest h.1

open_next : (rule : Codec) (tag : Tag) (input : List ℕ) (t : Tree) (rest : List ℕ) → ReadsOpen rule tag input t rest → NextTag (form rule) input tag
open_next rule tag input t rest (b, c, e, z, inl f) = frame_next f
open_next rule tag input t rest (b, c, e, z, inr f) = frame_next f.1

abbrev pub BeginsIn : Form → (Tag → Type 0) → List ℕ → Type 0
BeginsIn spelling P input = (n : Tag) × NextTag spelling input n × P n

-- A value that has a tag.
pub begins : (s : Shape) → IsAlwaysPresent s → HasTag s → (rule : Codec) (depth : ℕ) (closing : Bool) (input : List ℕ) (t : Tree) (rest : List ℕ)
    → Reads rule s depth closing input t rest → BeginsIn (form rule) (IsFirst s) input
unfolding Reads parts_of
begins (leaf kind tag bounds) solid has rule depth closing input t rest h = (tag, in_next (family kind) rule kind tag depth input t rest h.0, refl)
begins (any (Some tag)) solid has rule depth closing input t rest h = (tag, open_next rule tag input t rest h, refl)
begins (any None) solid has rule depth closing input t rest h = absurd has
begins (prefix tag s) solid has rule depth closing input t rest h = (tag, inside_next h.3, refl)
begins (choice ps) solid has rule depth closing input t rest h = some_begins ps 0 h
  where
    some_begins : (ps : Parts) (k : ℕ) → ReadsChoice rule k (parts_of rule ps depth closing) input t rest → BeginsIn (form rule) (IsFirstOf ps) input
    some_begins none k h = absurd h
    some_begins (part presence s ps) k (inl h) = (h.2, h.3, inl h.4)
    some_begins (part presence s ps) k (inr h) = let r = some_begins ps (suc k) h in (r.0, r.1, inr r.2)
begins (open_choice ps) solid has rule depth closing input t rest h = absurd has
begins (option tag s) solid has rule depth closing input t rest h = absurd solid
begins (seq tag ps) solid has rule depth closing input t rest h = (tag, inside_next h.1, refl)
begins (set tag ps) solid has rule depth closing input t rest h = (tag, inside_next h.1, refl)
begins (sorted_set extensible tag ps) solid has rule depth closing input t rest h = (tag, inside_next h.1, refl)
begins (list tag s size) solid has rule depth closing input t rest h = (tag, inside_next h.1, refl)
begins (set_of tag s size) solid has rule depth closing input t rest h = (tag, inside_next h.1, refl)
begins unknown solid has rule depth closing input t rest h = absurd solid

-- A CHOICE with an extension marker.
abbrev pub IsOpenChoice : Shape → Type 0
IsOpenChoice s = (ps : Parts) × (s ≡ open_choice ps)

pub tagged : (s : Shape) → IsAlwaysPresent s → HasTag s ⊎ ((s ≡ any None) ⊎ IsOpenChoice s)
tagged (any None) solid = inr (inl refl)
tagged (open_choice ps) solid = inr (inr (ps, refl))
tagged (any (Some tag)) solid = inl tt
tagged (leaf kind tag bounds) solid = inl tt
tagged (prefix tag s) solid = inl tt
tagged (choice ps) solid = inl tt
tagged (option tag s) solid = inl tt
tagged (seq tag ps) solid = inl tt
tagged (set tag ps) solid = inl tt
tagged (sorted_set extensible tag ps) solid = inl tt
tagged (list tag s size) solid = inl tt
tagged (set_of tag s size) solid = inl tt
tagged unknown solid = absurd solid

-- An identifier follows, in a spelling of some form: open octets without a tag stay lenient.
abbrev pub HasNextTag : List ℕ → Type 0
HasNextTag input = (spelling : Form) × (n : Tag) × NextTag spelling input n

any_is_next : (rule : Codec) (depth : ℕ) (closing : Bool) (input : List ℕ) (t : Tree) (rest : List ℕ) → Reads rule (any None) depth closing input t rest → HasNextTag input
unfolding Reads parts_of
any_is_next rule depth closing input t rest h = let n = whole_next rest h.2 in (loose rule, n.0, subst (λ i. NextTag (loose rule) i n.0) (sym h.3) n.1)

some_is_next : (rule : Codec) (ps : Parts) (k depth : ℕ) (closing : Bool) (input : List ℕ) (t : Tree) (rest : List ℕ) → ReadsChoice rule k (parts_of rule ps depth closing) input t rest → (n : Tag) × NextTag (form rule) input n
unfolding Reads parts_of
some_is_next rule none k depth closing input t rest h = absurd h
some_is_next rule (part presence s ps) k depth closing input t rest (inl h) = (h.2, h.3)
some_is_next rule (part presence s ps) k depth closing input t rest (inr h) = some_is_next rule ps (suc k) depth closing input t rest h

pub chosen_is_next : (rule : Codec) (ps : Parts) (depth : ℕ) (closing : Bool) (input : List ℕ) (t : Tree) (rest : List ℕ) → Reads rule (open_choice ps) depth closing input t rest → (n : Tag) × NextTag (form rule) input n
unfolding Reads parts_of
chosen_is_next rule ps depth closing input t rest (inl h) = some_is_next rule ps 0 depth closing input t rest h
chosen_is_next rule ps depth closing input t rest (inr h) = (h.2, h.3)

pub has_next_tag : (s : Shape) → IsAlwaysPresent s → (rule : Codec) (depth : ℕ) (closing : Bool) (input : List ℕ) (t : Tree) (rest : List ℕ)
    → Reads rule s depth closing input t rest → HasNextTag input
has_next_tag s solid rule depth closing input t rest h = go (tagged s solid)
  where
    go : HasTag s ⊎ ((s ≡ any None) ⊎ IsOpenChoice s) → HasNextTag input
    go (inl has) = let b = begins s solid has rule depth closing input t rest h in (form rule, b.0, b.1)
    go (inr (inl e)) = any_is_next rule depth closing input t rest (subst (λ x. Reads rule x depth closing input t rest) e h)
    go (inr (inr (ps, e))) = let n = chosen_is_next rule ps depth closing input t rest (subst (λ x. Reads rule x depth closing input t rest) e h) in (form rule, n.0, n.1)

-- A first tag follows in the form's spelling, or any tag may follow.
abbrev pub Starts : Form → (Tag → Type 0) → List ℕ → Type 0
Starts spelling P input = BeginsIn spelling P input ⊎ ((n : Tag) → P n)

pub starts : (s : Shape) → IsAlwaysPresent s → (rule : Codec) (depth : ℕ) (closing : Bool) (input : List ℕ) (t : Tree) (rest : List ℕ)
    → Reads rule s depth closing input t rest → Starts (form rule) (IsFirst s) input
starts s solid rule depth closing input t rest h = go (tagged s solid)
  where
    go : HasTag s ⊎ ((s ≡ any None) ⊎ IsOpenChoice s) → Starts (form rule) (IsFirst s) input
    go (inl has) = inl (begins s solid has rule depth closing input t rest h)
    go (inr (inl e)) = inr (λ n. subst (λ x. IsFirst x n) (sym e) tt)
    go (inr (inr (ps, e))) = inr (λ n. subst (λ x. IsFirst x n) (sym e) tt)

mutual
  unfolding Reads parts_of

  pub solid_closing : (s : Shape) → IsAlwaysPresent s → (rule : Codec) (depth : ℕ) (c d : Bool) (input : List ℕ) (t : Tree) (rest : List ℕ)
      → Reads rule s depth c input t rest → Reads rule s depth d input t rest
  solid_closing (leaf kind tag bounds) solid rule depth c d input t rest h = h
  solid_closing (any (Some tag)) solid rule depth c d input t rest h = h
  solid_closing (any None) solid rule depth c d input t rest h = h
  solid_closing (prefix tag s) solid rule depth c d input t rest h = h
  solid_closing (choice ps) solid rule depth c d input t rest h = some_closing ps solid 0 rule depth c d input t rest h
  solid_closing (open_choice ps) solid rule depth c d input t rest (inl h) = inl (some_closing ps solid 0 rule depth c d input t rest h)
  solid_closing (open_choice ps) solid rule depth c d input t rest (inr h) = inr h
  solid_closing (option tag s) solid rule depth c d input t rest h = absurd solid
  solid_closing (seq tag ps) solid rule depth c d input t rest h = h
  solid_closing (set tag ps) solid rule depth c d input t rest h = h
  solid_closing (sorted_set extensible tag ps) solid rule depth c d input t rest h = h
  solid_closing (list tag s size) solid rule depth c d input t rest h = h
  solid_closing (set_of tag s size) solid rule depth c d input t rest h = h
  solid_closing unknown solid rule depth c d input t rest h = absurd solid

  some_closing : (ps : Parts) → AreAlwaysPresent ps → (k : ℕ) (rule : Codec) (depth : ℕ) (c d : Bool) (input : List ℕ) (t : Tree) (rest : List ℕ)
      → ReadsChoice rule k (parts_of rule ps depth c) input t rest → ReadsChoice rule k (parts_of rule ps depth d) input t rest
  some_closing none solid k rule depth c d input t rest h = h
  some_closing (part presence s ps) solid k rule depth c d input t rest (inl (u, e, n, p, f, h, z)) =
      inl (u, e, n, p, f, solid_closing s solid.0 rule depth c d input u rest h, z)
  some_closing (part presence s ps) solid k rule depth c d input t rest (inr h) = inr (some_closing ps solid.1 (suc k) rule depth c d input t rest h)

-- At the top, where end-of-contents octets are allowed, what was read without them is read too.
left_out_wider : (spelling : Form) (tag : Option Tag) (input : List ℕ) → IsLeftOut spelling (one_tag tag) false input → IsLeftOut spelling (one_tag tag) true input
left_out_wider spelling None input (inl h) = inl h
left_out_wider spelling None input (inr h) = let e = h.0 in cc
left_out_wider spelling (Some tag) input (inl (inl h)) = inl (inl h)
left_out_wider spelling (Some tag) input (inl (inr h)) = let e = h.0 in cc
left_out_wider spelling (Some tag) input (inr h) = inr h

there_wider : (spelling : Form) (tag : Option Tag) (input : List ℕ) → HasNextTag input → IsPresent spelling (one_tag tag) false input → IsPresent spelling (one_tag tag) true input
there_wider spelling None input (f, n, next) h = not_ended true input n next
there_wider spelling (Some tag) input (f, n, next) h = (not_ended true input n next, h.1)

pub wider : (tag : Option Tag) (s : Shape) → IsAlwaysPresent s → (rule : Codec) (depth : ℕ) (input : List ℕ) (t : Tree) (rest : List ℕ)
    → Reads rule (option tag s) depth false input t rest → Reads rule (option tag s) depth true input t rest
unfolding Reads parts_of
wider tag s solid rule depth input t rest (inl (l, e, f)) = inl (left_out_wider (form rule) tag input l, e, f)
wider tag s solid rule depth input t rest (inr (l, h)) =
    inr (there_wider (form rule) tag input (has_next_tag s solid rule depth false input t rest h) l, solid_closing s solid rule depth false true input t rest h)
