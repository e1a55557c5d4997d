-- What is read of nothing leaves nothing.
use Rattle.std.proofs.Common.{◌≡◌, ℕ, suc, inl, inr, Bool, true, List, [], ◌∷◌, ◌++◌, Some, None, refl, subst, arith}
use Rattle.rasn_types.specs.declared.types.tag.Tag.{Tag}
use Rattle.rasn_types.specs.declared.types.codec.Codec.{Codec}
use Rattle.rasn_types.specs.Tags.{Form, form, IsStrict, in_universal}
use Rattle.rasn_types.specs.Framing.{Extent, Frame, NextTag, SpellsAnyIdentifier, CompleteEncoding, plain, closed}
use Rattle.rasn_types.specs.Shapes.{Tree, absent, Kind, Shape, leaf, any, prefix, choice, open_choice, option, seq, set, sorted_set, list, set_of, unknown, Parts, part, Presence, required, addition, optional_by, default_by, Sought, one_tag, any_of, sought_by, sought_in}
use Rattle.rasn_types.specs.Shapes.Parts.{none}
use Rattle.rasn_types.specs.Readings.{Reading, ReadsContents, definite_form, indefinite_form, ReadsMany, ReadsOptional, Part, IsNoDefault, ReadsPart, ReadsInOrder, ReadsChoice}
use Rattle.rasn_types.specs.Contents.{ReadsString, ReadsBitSegment, OctetSegment}
use Rattle.rasn_types.specs.Grammar.{Family, plain_family, bit_family, named_family, text_family, family, ReadsIn, ReadsAny, Reads, parts_of}
use Rattle.rasn_de.proofs.Headers.Fronts.{frame_shorter}

no_frame : {A : Type 0} {spelling : Form} {tag : Tag} {bit : Bool} {rest : List ℕ} {x : Extent} → Frame spelling [] tag bit rest x → A
no_frame f = absurd (omega (arith, frame_shorter f))

no_next : {A : Type 0} {spelling : Form} (t : Tag) → NextTag spelling [] t → A
no_next t n = go n.begins.id n.begins.spells n.begins.is
  where
    go : {A : Type 0} (id : List ℕ) → SpellsAnyIdentifier id t n.begins.bit → [] ≡ id ++ n.begins.more → A
    go [] s e = absurd s
    go (b ∷ l) s e = cc

no_inside : {A X : Type 0} (rule : Codec) (tag : Tag) (bit : Bool) (inner : Bool → Reading X) (x : X) (rest : List ℕ) → ReadsContents rule tag bit inner [] x rest → A
no_inside rule tag bit inner x rest (definite_form c f r) = no_frame f
no_inside rule tag bit inner x rest (indefinite_form b f r) = no_frame f

no_string : {A X : Type 0} (rule : Codec) (S : List ℕ → List X → Type 0) (inner : Tag) (d : ℕ) (tag : Tag) (xs : List X) (rest : List ℕ) → ReadsString rule S inner d tag [] xs rest → A
no_string rule S inner d tag xs rest (ReadsString.primitive c f s) = no_frame f
no_string rule S inner (suc d) tag xs rest (ReadsString.segments c h f m) = no_frame f
no_string rule S inner (suc d) tag xs rest (ReadsString.closed_segments c h f m) = no_frame f

no_leaf : {A : Type 0} (f : Family) (rule : Codec) (kind : Kind) (tag : Tag) (depth : ℕ) (t : Tree) (rest : List ℕ) → ReadsIn f rule kind tag depth [] t rest → A
no_leaf plain_family rule kind tag depth t rest (bit, c, f, k, m) = no_frame f
no_leaf bit_family rule kind tag depth t rest (bs, e, n, s) = no_string rule (ReadsBitSegment rule) (in_universal 3) depth tag bs rest s
no_leaf named_family rule kind tag depth t rest (bs, e, n, s, z) = no_string rule (ReadsBitSegment rule) (in_universal 3) depth tag bs rest s
no_leaf text_family rule kind tag depth t rest (os, s, x) = no_string rule OctetSegment (in_universal 4) depth tag os rest s

no_whole : {A : Type 0} (rule : Codec) → CompleteEncoding rule [] → A
no_whole rule (plain tag bit c f) = no_frame f
no_whole rule (closed tag bit b n f i e) = no_frame f

no_text : {A : Type 0} (rule : Codec) (text rest : List ℕ) → CompleteEncoding rule text → [] ≡ text ++ rest → A
no_text rule [] rest w e = no_whole rule w
no_text rule (b ∷ l) rest w e = cc

no_choice : {A : Type 0} (rule : Codec) (k : ℕ) (ps : List Part) (t : Tree) (rest : List ℕ) → ReadsChoice rule k ps [] t rest → A
no_choice rule k [] t rest c = absurd c
no_choice rule k (p ∷ ps) t rest (inl (u, e, n, s, m, r, z)) = no_next n s
no_choice rule k (p ∷ ps) t rest (inr c) = no_choice rule (suc k) ps t rest c

perhaps_nothing : {X : Type 0} (spelling : Form) (tags : Sought) (without : X) (reads : Reading X) (closing : Bool) (x : X) (rest : List ℕ) → ReadsOptional spelling tags without reads closing [] x rest → rest ≡ []
perhaps_nothing spelling tags without reads closing x rest (inl (a, e, f)) = f
perhaps_nothing spelling (one_tag (Some tag)) without reads closing x rest (inr (p, r)) = absurd (p.0 (inl refl))
perhaps_nothing spelling (one_tag None) without reads closing x rest (inr (n, r)) = absurd (n (inl refl))
perhaps_nothing spelling (any_of P) without reads closing x rest (inr (p, r)) = absurd (p.0 (inl refl))

shape_nothing : (rule : Codec) (s : Shape) (depth : ℕ) (closing : Bool) (t : Tree) (rest : List ℕ) → Reads rule s depth closing [] t rest → rest ≡ []
unfolding Reads
shape_nothing rule (leaf kind tag bounds) depth closing t rest (r, b) = no_leaf (family kind) rule kind tag depth t rest r
shape_nothing rule (any None) depth closing t rest (text, e, w, f) = no_text rule text rest w f
shape_nothing rule (any (Some tag)) depth closing t rest (bit, c, e, m, inl f) = no_frame f
shape_nothing rule (any (Some tag)) depth closing t rest (bit, c, e, m, inr (b, f, w, g)) = no_frame f
shape_nothing rule (prefix tag s) depth closing t rest (d, bit, m, r) = no_inside rule tag bit _ t rest r
shape_nothing rule (choice ps) depth closing t rest r = no_choice rule 0 (parts_of rule ps depth closing) t rest r
shape_nothing rule (open_choice ps) depth closing t rest (inl r) = no_choice rule 0 (parts_of rule ps depth closing) t rest r
shape_nothing rule (open_choice ps) depth closing t rest (inr (u, e, n, s, m, r)) = no_next n s
shape_nothing rule (option tag s) depth closing t rest r = perhaps_nothing (form rule) (one_tag tag) absent (Reads rule s depth closing) closing t rest r
shape_nothing rule (seq tag ps) depth closing t rest (d, r) = no_inside rule tag true _ t rest r
shape_nothing rule (set tag ps) depth closing t rest (d, r) = no_inside rule tag true _ t rest r
shape_nothing rule (sorted_set extensible tag ps) depth closing t rest (d, r) = no_inside rule tag true _ t rest r
shape_nothing rule (list tag s size) depth closing t rest (d, r) = no_inside rule tag true _ t rest r
shape_nothing rule (set_of tag s size) depth closing t rest (d, r) = no_inside rule tag true _ t rest r
shape_nothing rule unknown depth closing t rest (ts, e, w, r) = none_after ts r
  where
    none_after : (ts : List Tree) → ReadsMany (ReadsAny rule) closing [] ts rest → rest ≡ []
    none_after [] (d, f) = f
    none_after (t ∷ ts) (d, middle, (text, g, w, f), r) = no_text rule text middle w f

part_nothing : (p : Presence) (rule : Codec) (s : Shape) (depth : ℕ) (closing : Bool) (t : Tree) (rest : List ℕ) → ReadsPart rule p (sought_in p s) (Reads rule s depth closing) closing [] t rest → rest ≡ []
part_nothing required rule s depth closing t rest r = shape_nothing rule s depth closing t rest r
part_nothing addition rule s depth closing t rest r = shape_nothing rule s depth closing t rest r
part_nothing (optional_by key) rule s depth closing t rest r = perhaps_nothing (form rule) (sought_by key s) absent (Reads rule s depth closing) closing t rest r
part_nothing (default_by key d) rule s depth closing t rest r = perhaps_nothing (form rule) (sought_by key s) d (λ input u r. Reads rule s depth closing input u r × (IsStrict rule → IsNoDefault (default_by key d) u)) closing t rest r

-- Parts that are read of nothing leave nothing.
pub parts_nothing : (rule : Codec) (ps : Parts) (depth : ℕ) (closing : Bool) (ts : List Tree) (rest : List ℕ) → ReadsInOrder rule (parts_of rule ps depth closing) closing [] ts rest → rest ≡ []
unfolding parts_of
parts_nothing rule none depth closing ts rest (e, f) = f
parts_nothing rule (part p s ps) depth closing ts rest (t, us, middle, e, r, rs) =
    let m = part_nothing p rule s depth closing t middle r in
    parts_nothing rule ps depth closing us rest (subst (λ z. ReadsInOrder rule (parts_of rule ps depth closing) closing z us rest) m rs)
