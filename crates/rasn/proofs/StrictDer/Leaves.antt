-- What DER reads of a leaf is written of it.
use Rattle.std.proofs.Common.{◌≡◌, ℕ, inl, List, ◌++◌, Bool, false, refl, sym, ap, ◌∙◌, subst, append_assoc}
use Rattle.rasn_types.specs.Tags.{der_form, in_universal}
use Rattle.rasn_types.specs.declared.types.codec.Codec.TheVariants.{Der}
use Rattle.rasn_types.specs.declared.types.tag.Tag.{Tag}
use Rattle.rasn_types.specs.Framing.{Frame, with_length, without_length, definite, indefinite, AreOctets}
use Rattle.rasn_types.specs.Shapes.{Tree, bits, Kind, octet_string, fixed, numeric, printable, visible, ia5, any_octets, bmp, universal, utf8, utc_time, generalized_time, date}
use Rattle.rasn_types.specs.Contents.{ReadsString, primitive, segments, closed_segments, ReadsBitSegment, OctetSegment}
use Rattle.rasn_types.specs.Grammar.{Family, plain_family, bit_family, named_family, text_family, ReadsIn, Text}
use Rattle.rasn_types.specs.Bytes.{DefiniteForm, WritesIn, WritesText}
use Rattle.rasn_types.specs.Lawful.{IsBitFree}
use Rattle.rasn_types.proofs.Headers.Digits.{front_octets}
use Rattle.rasn.proofs.StrictDer.Time.{utc_written, generalized_written, date_written}

pub tail_octets : (input a b : List ℕ) → input ≡ a ++ b → AreOctets input → AreOctets b
tail_octets input a b e o = (front_octets a b (subst AreOctets e o)).1

-- The octets of a value that DER frames are those that are written.
pub record Framed (tag : Tag) (bit : Bool) (contents rest input : List ℕ) : Type 0 where
  pub text : List ℕ
  pub is : DefiniteForm tag bit contents text
  pub input_is : input ≡ text ++ rest
  pub octets : AreOctets contents

pub framed : {input rest contents : List ℕ} {tag : Tag} {bit : Bool} → AreOctets input → Frame der_form input tag bit rest (definite contents) → Framed tag bit contents rest input
framed {input = input} {rest = rest} {tag = tag} {bit = bit} o (with_length id len c p q z e) =
    let s = z tt in
    let a = front_octets id (len ++ (c ++ rest)) (subst AreOctets e o) in
    let b = front_octets len (c ++ rest) a.1 in
    let d = front_octets c rest b.1 in
    record {
      text = id ++ (len ++ c);
      is = record { id = id; len = len; id_spells = p.spells; id_shortest = s.0; id_octets = a.0; len_spells = q; len_shortest = s.1; len_octets = b.0; is = refl };
      input_is = e ∙ simp append_assoc;
      octets = d.0;
    }

-- DER has no indefinite lengths.
pub no_open : {input rest : List ℕ} {tag : Tag} {bit : Bool} → Frame der_form input tag bit rest indefinite → ⊥
no_open (without_length id p q r e) = r

text_written : (kind : Kind) (l : List ℕ) (t : Tree) → Text Der kind l t → WritesText kind l t
text_written octet_string l t h = h
text_written (fixed n) l t h = h
text_written numeric l t h = h
text_written printable l t h = h
text_written visible l t h = h
text_written ia5 l t h = h
text_written any_octets l t h = h
text_written bmp l t h = h
text_written universal l t h = h
text_written utf8 l t h = h
text_written utc_time l t (s, e, h) = let w = utc_written l s h in (s.moment, e, w.0, w.1)
text_written generalized_time l t (s, e, h) = let w = generalized_written l s h in (s.moment, e, w.0, w.1)
text_written date l t (d, e, h) = (d, e, h.exists, date_written l d h)
text_written kind l t h = absurd h

-- Under DER a string is in one piece.
str_whole : {X : Type 0} (segment : List ℕ → List X → Type 0) (inner : Tag) (depth : ℕ) (tag : Tag) (input : List ℕ) (xs : List X) (rest : List ℕ)
    → ReadsString Der segment inner depth tag input xs rest → (contents : List ℕ) × Frame der_form input tag false rest (definite contents) × segment contents xs
str_whole segment inner depth tag input xs rest (primitive c f s) = (c, f, s)
str_whole segment inner depth tag input xs rest (segments c has f m) = absurd (has tt)
str_whole segment inner depth tag input xs rest (closed_segments c has f m) = absurd (has tt)

pub in_made : (which : Family) (kind : Kind) (tag : Tag) → IsBitFree which tag → (depth : ℕ) (input : List ℕ) (t : Tree) (rest : List ℕ) → AreOctets input
    → ReadsIn which Der kind tag depth input t rest → (text : List ℕ) × WritesIn which Der kind tag t text × (input ≡ text ++ rest)
in_made plain_family kind tag free depth input t rest o (bit, c, f, h, z) =
    let s = z tt in
    let w = framed o f in
    (w.text, (c, record { is = h; octets = w.octets; shortest = s.1 }, subst (λ b. DefiniteForm tag b c w.text) s.0 w.is), w.input_is)
in_made bit_family kind tag free depth input t rest o (bs, e, n, h) =
    let p = str_whole (ReadsBitSegment Der) (in_universal 3) depth tag input bs rest h in
    let w = framed o p.1 in
    (w.text, (bs, e, inl ((λ z. absurd z), p.0, record { is = p.2.0; zeros = p.2.1 tt; octets = w.octets }, subst (λ b. DefiniteForm tag b p.0 w.text) (sym free) w.is)), w.input_is)
in_made named_family kind tag free depth input t rest o (bs, e, n, h, z) =
    let p = str_whole (ReadsBitSegment Der) (in_universal 3) depth tag input bs rest h in
    let w = framed o p.1 in (
      w.text,
      (bs, e ∙ ap bits (z tt), z tt, inl ((λ z. absurd z), p.0, record { is = p.2.0; zeros = p.2.1 tt; octets = w.octets }, subst (λ b. DefiniteForm tag b p.0 w.text) (sym free) w.is)),
      w.input_is,
    )
in_made text_family kind tag free depth input t rest o (l, h, x) =
    let p = str_whole OctetSegment (in_universal 4) depth tag input l rest h in
    let w = framed o p.1 in
    (w.text, (l, text_written kind l t x, inl ((λ z. absurd z), p.0, (sym p.2, w.octets), subst (λ b. DefiniteForm tag b p.0 w.text) (sym free) w.is)), w.input_is)
