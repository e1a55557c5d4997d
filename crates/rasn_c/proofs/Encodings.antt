-- A whole encoding is opened by BER, and has the parts that are read then.
use Rattle.std.proofs.Common.{arith, ℕ, ◌≡◌, ◌≢◌, ◌+◌, ◌*◌, ◌/◌, ◌%◌, ◌<◌, ◌≤◌, ◌++◌, ◌∷◌, [], List, length, length-append, Bool, Ok, Err, refl, sym, ap, ◌∙◌, subst, inl, inr}
use Rattle.std.proofs.lemmas.List.{append-nil}
use Rattle.rasn_types.specs.declared.types.codec.Codec.{Codec}
use Rattle.rasn_types.specs.declared.types.codec.Codec.TheVariants.{Ber}
use Rattle.rasn_types.specs.declared.types.tag.Tag.{Tag}
use Rattle.rasn_types.specs.declared.error.decode.DecodeError.{DecodeError}
use Rattle.rasn_types.specs.Tags.{Form, basic_form, form, loose, rank}
use Rattle.rasn_types.specs.Grammar.{top}
use Rattle.rasn_types.specs.Framing.{AreOctets, Extent, definite, indefinite, Frame, with_length, without_length, NextTag, SpellsIdentifier, CompleteEncoding, plain, closed, bit_of}
use Rattle.rasn_types.proofs.Headers.Frames.{bit_small, next_one, frame_next}
use Rattle.rasn_de.specs.State.{State}
use Rattle.rasn_de.specs.Headers.{Header}
use Rattle.rasn_de.specs.Segments.{octets_inside}
use Rattle.rasn_de.specs.Constructed.{prefix_header, expected_header, constructed_header_at, is_indefinite_extent, ConsumesOpening}
use Rattle.rasn_de.specs.declared.ber.de.constructed.ConstructedHeader.{ConstructedHeader}
use Rattle.rasn_de.specs.declared.ber.de.parser.Contents.{Contents}
use Rattle.rasn_de.proofs.Headers.Frames.{header_spelled}
use Rattle.rasn_de.proofs.Headers.Fronts.{frame_shorter}
use Rattle.rasn_de.proofs.Constructed.Contents.{constructed_header_spelled}
use Rattle.rasn_c.specs.Encodings.{Encloses, by_length, by_end, constructed_bit, end_length}

-- the state of a decoder at the start of octets
abbrev pub start : List ℕ → State
start octets = record { rule = Ber; depth = 128; closing = top Ber; whole = octets; rest = octets }

pub begins : (rule : Codec) (octets : List ℕ) (s : State) → rule ≡ Ber → s ≡ record { rule = rule; depth = 128; closing = top rule; whole = octets; rest = octets } → s ≡ start octets
begins rule octets s b e = e ∙ ap (λ r. record { rule = r; depth = 128; closing = top r; whole = octets; rest = octets }) b

-- BER reads each header that open types may have.
as_ber : (rule : Codec) {input : List ℕ} {tag : Tag} {bit : Bool} {rest : List ℕ} {x : Extent} → Frame (loose rule) input tag bit rest x → Frame basic_form input tag bit rest x
as_ber rule (with_length id len contents s a strict e) = with_length id len contents s a (λ h. absurd h) e
as_ber rule (without_length id s b h e) = without_length id s b tt e

-- the header of a whole encoding
abbrev pub front : {rule : Codec} {text : List ℕ} → CompleteEncoding rule text → Header
front (plain tag bit contents frame) = record { tag = tag; bit = bit; extent = definite contents; rest = [] }
front (closed tag bit body nested frame others is) = record { tag = tag; bit = bit; extent = indefinite; rest = body }

is_front : {rule : Codec} {text : List ℕ} (w : CompleteEncoding rule text) → Frame (loose rule) text (front w).tag (front w).bit (front w).rest (front w).extent
is_front (plain tag bit contents frame) = frame
is_front (closed tag bit body nested frame others is) = frame

module _ {rule : Codec} {text : List ℕ} (w : CompleteEncoding rule text) (s : State) (e : s ≡ start text) where
  next_front : NextTag basic_form text (front w).tag
  next_front = frame_next (as_ber rule (is_front w))

  -- Its tag is there.
  pub is_peeked : ((t : Tag) → NextTag (form s.rule) s.rest t → ⊥) → ⊥
  is_peeked n = n (front w).tag (subst (λ (z : State). NextTag (form z.rule) z.rest (front w).tag) (sym e) next_front)

  module _ (tag : Tag) (n : NextTag (form s.rule) s.rest tag) (o : s.depth ≢ 0 → AreOctets s.rest) (d : ConstructedHeader) (is : d ≡ prefix_header tag) where
    here : NextTag basic_form text tag
    here = subst (λ (z : State). NextTag (form z.rule) z.rest tag) e n

    octets : AreOctets text
    octets = (subst (λ (z : State). z.depth ≢ 0 → AreOctets z.rest) e o) (omega arith)

    same : (front w).tag ≡ tag
    same = next_one text (front w).tag tag next_front here

    opens : constructed_header_at d s.rule s.depth s.rest ≡ Ok (front w)
    opens =
        subst (λ (c : ConstructedHeader). constructed_header_at c s.rule s.depth s.rest ≡ Ok (front w)) (sym is)
        (subst (λ (z : State). constructed_header_at (prefix_header tag) z.rule z.depth z.rest ≡ Ok (front w)) (sym e)
        (constructed_header_spelled (prefix_header tag) Ber 128 text (front w) (omega arith) (header_spelled basic_form (expected_header (prefix_header tag) Ber) text (front w).tag (front w).bit (front w).rest (front w).extent octets same (as_ber rule (is_front w))) refl))

    -- It is opened.
    pub is_opened : (x : DecodeError) (new : State) → ConsumesOpening d s (Err x) new → ⊥
    is_opened x new (f, p, r, k) = let h = opens in cc

    -- What is read inside it.
    pub inside : (p : State) (c : Contents) (new : State) → ConsumesOpening d s (Ok (p, c)) new → (p.closing ≡ is_indefinite_extent (front w).extent) × (p.rest ≡ octets_inside (front w).extent (front w).rest)
    inside p c new (h, k, i, x, y, z) =
        let q = opens in
        let a : h ≡ front w = cc in
        (ap (λ (u : State). u.closing) i ∙ ap (λ (u : Header). is_indefinite_extent u.extent) a, ap (λ (u : State). u.rest) i ∙ ap (λ (u : Header). octets_inside u.extent u.rest) a)

    pub is_tag : (front w).tag ≡ tag
    is_tag = same

-- ---- its parts

-- The contents, and what ends them, are what is read inside.
pub record Opened (rule : Codec) (text : List ℕ) (tag : Tag) (left : List ℕ) (closing : Bool) : Type 0 where
  pub bit : Bool
  pub contents : List ℕ
  pub end : List ℕ
  pub encloses : Encloses rule text tag bit contents end
  pub are : left ≡ contents ++ end
  pub ends : length end ≡ end_length closing
  pub short : length contents + length end ≤ length text

contents_short : {spelling : Form} {input : List ℕ} {tag : Tag} {bit : Bool} {rest contents : List ℕ} → Frame spelling input tag bit rest (definite contents) → length contents ≤ length input
contents_short {input} {rest = rest} (with_length id len contents s a strict e) =
    let x = ap length e in
    let i = length-append id (len ++ (contents ++ rest)) in
    let l = length-append len (contents ++ rest) in
    let c = length-append contents rest in
    omega (arith, x, i, l, c)

pub opened : {rule : Codec} {text : List ℕ} (w : CompleteEncoding rule text) (tag : Tag) (left : List ℕ) (closing : Bool) → (front w).tag ≡ tag → closing ≡ is_indefinite_extent (front w).extent → left ≡ octets_inside (front w).extent (front w).rest → Opened rule text tag left closing
opened {rule} {text} (plain t bit contents frame) tag left closing e c r =
    let n = contents_short frame in
    record {
      bit = bit;
      contents = contents;
      end = [];
      encloses = by_length (subst (λ z. Frame (loose rule) text z bit [] (definite contents)) e frame);
      are = r ∙ sym (append-nil contents);
      ends = rw c refl;
      short = omega (arith, n);
    }
opened {rule} {text} (closed t bit body nested frame others is) tag left closing e c r =
    let n = frame_shorter frame in
    let m = ap length is ∙ length-append nested (0 ∷ 0 ∷ []) in
    record {
      bit = bit;
      contents = nested;
      end = 0 ∷ 0 ∷ [];
      encloses = by_end (subst (λ z. Frame (loose rule) text z bit (nested ++ (0 ∷ 0 ∷ [])) indefinite) e (subst (λ z. Frame (loose rule) text t bit z indefinite) is frame)) others;
      are = r ∙ is;
      ends = rw c refl;
      short = omega (arith, n, m);
    }

parts_of_frame : {spelling : Form} {first : ℕ} {more : List ℕ} {tag : Tag} {bit : Bool} {rest : List ℕ} {x : Extent} → Frame spelling (first ∷ more) tag bit rest x → (id : List ℕ) × (after : List ℕ) × SpellsIdentifier id tag bit × (first ∷ more ≡ id ++ after)
parts_of_frame {rest = rest} (with_length id len contents s a strict e) = (id, len ++ (contents ++ rest), s, e)
parts_of_frame {rest = rest} (without_length id s b h e) = (id, 128 ∷ rest, s, e)

-- the bit of an identifier that says whether the encoding is constructed (8.1.2.5)
leading_bit : (r b l first : ℕ) → first ≡ 64 * r + (32 * b + l) → b < 2 → l < 32 → first / 32 % 2 ≡ b
leading_bit r b l first e h k = omega (arith, e, h, k)

first_bit : (first : ℕ) (more id after : List ℕ) (tag : Tag) (bit : Bool) → SpellsIdentifier id tag bit → first ∷ more ≡ id ++ after → first / 32 % 2 ≡ bit_of bit
first_bit first more [] after tag bit s e = absurd s.spells
first_bit first more (f ∷ others) after tag bit s e =
    let k : first ≡ f = cc in
    let i = s.spells in
    let low : i.low < 32 = elim i.number [
      | inl a ↦ let n = a.0 in omega (arith, n)
      | inr a ↦ let n = a.0 in omega (arith, n)
    ] in
    leading_bit (rank tag.class) (bit_of bit) i.low first (k ∙ i.leading) (bit_small bit) low

bit_there : {spelling : Form} (text : List ℕ) {tag : Tag} {bit : Bool} {rest : List ℕ} {x : Extent} → Frame spelling text tag bit rest x → constructed_bit text ≡ bit_of bit
bit_there [] {rest = rest} frame = let n = frame_shorter frame in absurd (omega (arith, n))
bit_there (first ∷ more) {tag} {bit} frame = let p = parts_of_frame frame in first_bit first more p.0 p.1 tag bit p.2 p.3

pub is_constructed : {rule : Codec} {text contents end : List ℕ} {tag : Tag} {bit : Bool} → Encloses rule text tag bit contents end → constructed_bit text ≡ bit_of bit
is_constructed {text = text} (by_length frame) = bit_there text frame
is_constructed {text = text} (by_end frame others) = bit_there text frame
