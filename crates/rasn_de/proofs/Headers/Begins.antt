-- What a strict read takes, where it takes something, begins with an identifier.
use Rattle.std.proofs.Common.{◌≡◌, ◌≢◌, inl, inr, ℕ, suc, Bool, true, List, [], ◌∷◌, ◌++◌, Some, None, refl, sym, ap, ◌∙◌, subst, append_assoc}
use Rattle.std.proofs.lemmas.List.{append-nil, append_cancel_right}
use Rattle.rasn_types.specs.declared.types.tag.Tag.{Tag}
use Rattle.rasn_types.specs.declared.types.codec.Codec.{Codec}
use Rattle.rasn_types.specs.declared.types.codec.Codec.TheVariants.{Ber, Cer, Der}
use Rattle.rasn_types.specs.Tags.{Form, IsStrict, in_universal}
use Rattle.rasn_types.specs.Framing.{Extent, HasIndefinite, Frame, with_length, without_length, Begins, CompleteEncoding, plain, closed}
use Rattle.rasn_types.specs.Shapes.{Tree, Kind, Shape, leaf, any, prefix, choice, open_choice, option, seq, set, sorted_set, list, set_of, unknown, Parts, part}
use Rattle.rasn_types.specs.Shapes.Parts.{none}
use Rattle.rasn_types.specs.Readings.{Reading, ReadsContents, definite_form, indefinite_form, ReadsMany, ReadsChoice}
use Rattle.rasn_types.specs.Contents.{ReadsString, ReadsBitSegment, OctetSegment}
use Rattle.rasn_types.specs.Grammar.{Family, plain_family, bit_family, named_family, text_family, family, ReadsIn, ReadsAny, Reads, parts_of}
use Rattle.rasn_types.proofs.Headers.Frames.{begins_one}

-- the octets begin with some identifier
abbrev pub IsHeaded : List ℕ → Type 0
IsHeaded b = (tag : Tag) × Begins b tag

module _ (input b rest : List ℕ) (is : input ≡ b ++ rest) where
  framed : {spelling : Form} {tag : Tag} {bit : Bool} {x : Extent} → (HasIndefinite spelling → ⊥) → Frame spelling input tag bit rest x → Begins b tag
  framed {spelling} {tag} {bit} closed_form (with_length id len contents s l strict e) =
      let f : (id ++ (len ++ contents)) ++ rest ≡ b ++ rest = append_assoc id (len ++ contents) rest ∙ ap (λ z. id ++ z) (append_assoc len contents rest) ∙ sym e ∙ is in
      record { id = id; bit = bit; more = len ++ contents; spells = s.spells; is = sym (append_cancel_right (id ++ (len ++ contents)) b rest f) }
  framed closed_form (without_length id s p h e) = absurd (closed_form h)

  nested : {X : Type 0} (tag : Tag) (bit : Bool) (inner : Bool → Reading X) (x : X) → ReadsContents Der tag bit inner input x rest → IsHeaded b
  nested tag bit inner x (definite_form c f r) = (tag, framed (λ h. h) f)
  nested tag bit inner x (indefinite_form body (without_length id s p h e) r) = absurd h

  string : {X : Type 0} (S : List ℕ → List X → Type 0) (inner : Tag) (d : ℕ) (tag : Tag) (xs : List X) → ReadsString Der S inner d tag input xs rest → IsHeaded b
  string S inner d tag xs (ReadsString.primitive c f s) = (tag, framed (λ h. h) f)
  string S inner (suc d) tag xs (ReadsString.segments c h f m) = absurd (h tt)
  string S inner (suc d) tag xs (ReadsString.closed_segments c h f m) = absurd (h tt)

  leaf_headed : (f : Family) (kind : Kind) (tag : Tag) (depth : ℕ) (t : Tree) → ReadsIn f Der kind tag depth input t rest → IsHeaded b
  leaf_headed plain_family kind tag depth t (bit, c, f, k, m) = (tag, framed (λ h. h) f)
  leaf_headed bit_family kind tag depth t (bs, e, n, s) = string (ReadsBitSegment Der) (in_universal 3) depth tag bs s
  leaf_headed named_family kind tag depth t (bs, e, n, s, z) = string (ReadsBitSegment Der) (in_universal 3) depth tag bs s
  leaf_headed text_family kind tag depth t (os, s, x) = string OctetSegment (in_universal 4) depth tag os s

headed_text : (text b rest : List ℕ) → CompleteEncoding Der text → text ++ rest ≡ b ++ rest → IsHeaded b
headed_text text b rest (plain tag bit contents f) e =
    let q : text ≡ b = append_cancel_right text b rest e in
    (tag, subst (λ z. Begins z tag) q (framed text text [] (sym (append-nil text)) (λ h. h) f))
headed_text text b rest (closed tag bit body inner (without_length id s p h g) i k) e = absurd h

pub begins_more : (b rest : List ℕ) (tag : Tag) → Begins b tag → Begins (b ++ rest) tag
begins_more b rest tag h = record { id = h.id; bit = h.bit; more = h.more ++ rest; spells = h.spells; is = ap (λ z. z ++ rest) h.is ∙ append_assoc h.id h.more rest }

empty_piece : (b rest : List ℕ) → rest ≡ b ++ rest → b ≡ []
empty_piece b rest e = sym (append_cancel_right [] b rest e)

many_headed : (closing : Bool) (input : List ℕ) (ts : List Tree) (rest b : List ℕ) → input ≡ b ++ rest → b ≢ [] → ReadsMany (ReadsAny Der) closing input ts rest → IsHeaded b
many_headed closing input [] rest b e n (d, f) = absurd (n (empty_piece b rest (f ∙ e)))
many_headed closing input (t ∷ ts) rest b e n (d, middle, (text, g, w, f), r) =
    let q = rest_after closing middle ts rest r in
    let h = text_headed text w in
    (h.0, pieced text q.0 b rest h.0 h.1 (append_assoc text q.0 rest ∙ (ap (λ l. text ++ l) (sym q.1) ∙ (sym f ∙ e))))
  where
    rest_after : (closing : Bool) (input : List ℕ) (ts : List Tree) (rest : List ℕ) → ReadsMany (ReadsAny Der) closing input ts rest → (a : List ℕ) × (input ≡ a ++ rest)
    rest_after closing input [] rest (d, f) = ([], sym f)
    rest_after closing input (t ∷ ts) rest (d, middle, (text, g, w, f), r) =
        let q = rest_after closing middle ts rest r in
        (text ++ q.0, f ∙ (ap (λ l. text ++ l) q.1 ∙ sym (append_assoc text q.0 rest)))

    text_headed : (text : List ℕ) → CompleteEncoding Der text → IsHeaded text
    text_headed text w = headed_text text text [] w refl

    pieced : (text a b rest : List ℕ) (tag : Tag) → Begins text tag → (text ++ a) ++ rest ≡ b ++ rest → Begins b tag
    pieced text a b rest tag h e = subst (λ z. Begins z tag) (append_cancel_right (text ++ a) b rest e) (begins_more text a tag h)

mutual
  unfolding Reads parts_of

  headed : (s : Shape) (depth : ℕ) (closing : Bool) (input : List ℕ) (t : Tree) (rest b : List ℕ) → input ≡ b ++ rest → b ≢ [] → Reads Der s depth closing input t rest → IsHeaded b
  headed (leaf kind tag bounds) depth closing input t rest b e n (r, w) = leaf_headed input b rest e (family kind) kind tag depth t r
  headed (any None) depth closing input t rest b e n (text, g, w, f) = headed_text text b rest w (sym f ∙ e)
  headed (any (Some tag)) depth closing input t rest b e n (bit, c, g, m, inl f) = (tag, framed input b rest e (λ h. h) f)
  headed (any (Some tag)) depth closing input t rest b e n (bit, c, g, m, inr (body, without_length id s p h i, w, k)) = absurd h
  headed (prefix tag s) depth closing input t rest b e n (d, bit, m, r) = nested input b rest e tag bit _ t r
  headed (choice ps) depth closing input t rest b e n r = headed_choice ps 0 depth closing input t rest b e n r
  headed (open_choice ps) depth closing input t rest b e n (inl r) = headed_choice ps 0 depth closing input t rest b e n r
  headed (open_choice ps) depth closing input t rest b e n (inr (u, f, next, m, g, (text, h, w, i))) = headed_text text b rest w (sym i ∙ e)
  headed (option tag s) depth closing input t rest b e n (inl (a, f, g)) = absurd (n (empty_piece b rest (g ∙ e)))
  headed (option tag s) depth closing input t rest b e n (inr (a, r)) = headed s depth closing input t rest b e n r
  headed (seq tag ps) depth closing input t rest b e n (d, r) = nested input b rest e tag true _ t r
  headed (set tag ps) depth closing input t rest b e n (d, r) = nested input b rest e tag true _ t r
  headed (sorted_set extensible tag ps) depth closing input t rest b e n (d, r) = nested input b rest e tag true _ t r
  headed (list tag s size) depth closing input t rest b e n (d, r) = nested input b rest e tag true _ t r
  headed (set_of tag s size) depth closing input t rest b e n (d, r) = nested input b rest e tag true _ t r
  headed unknown depth closing input t rest b e n (ts, f, w, r) = many_headed closing input ts rest b e n r

  headed_choice : (ps : Parts) (k depth : ℕ) (closing : Bool) (input : List ℕ) (t : Tree) (rest b : List ℕ) → input ≡ b ++ rest → b ≢ []
      → ReadsChoice Der k (parts_of Der ps depth closing) input t rest → IsHeaded b
  headed_choice none k depth closing input t rest b e n r = absurd r
  headed_choice (part presence s ps) k depth closing input t rest b e n (inl (u, f, next, m, g, r, z)) = headed s depth closing input u rest b e n r
  headed_choice (part presence s ps) k depth closing input t rest b e n (inr r) = headed_choice ps (suc k) depth closing input t rest b e n r

-- So it begins with the tag that was next.
pub strict_begins : (rule : Codec) → IsStrict rule → (s : Shape) (depth : ℕ) (closing : Bool) (input : List ℕ) (t : Tree) (rest b : List ℕ) → input ≡ b ++ rest → b ≢ []
    → Reads rule s depth closing input t rest → (tag : Tag) → Begins input tag → Begins b tag
strict_begins Ber strict s depth closing input t rest b e n r tag h = absurd strict
strict_begins Cer strict s depth closing input t rest b e n r tag h = absurd strict
strict_begins Der strict s depth closing input t rest b e n r tag h =
    let k = headed s depth closing input t rest b e n r in
    subst (Begins b) (begins_one input k.0 tag (subst (λ z. Begins z k.0) (sym e) (begins_more b rest k.0 k.1)) h) k.1
