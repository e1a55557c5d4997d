-- What follows a string ends the input.
use Rattle.std.proofs.Common.{◌≡◌, ℕ, suc, Bool, true, List, ◌∷◌, Ok, refl, sym, ap}
use Rattle.rasn_types.specs.declared.types.tag.Tag.{Tag}
use Rattle.rasn_types.specs.declared.types.codec.Codec.{Codec}
use Rattle.rasn_types.specs.Tags.{in_universal}
use Rattle.rasn_types.specs.Framing.{AreOctets}
use Rattle.rasn_types.specs.Contents.{ReadsString, primitive, segments, closed_segments, ReadsSegments, OctetSegment}
use Rattle.rasn_de.specs.Segments.{octets}
use Rattle.rasn_de.specs.OctetString.{octet_string_at}
use Rattle.rasn_de.specs.State.{IsEnd}
use Rattle.rasn_de.proofs.Headers.Ends.{IsEnd-refl, IsEnd-trans, IsEnd-zeros, IsEnd-frame}
use Rattle.rasn_de.proofs.Strings.Reads.{Reads, string_parsed, string_spelled, string_map}

mutual
  pub string_ends : {X : Type 0} (rule : Codec) (S : List ℕ → List X → Type 0) (inner_tag : Tag) (d : ℕ) (tag : Tag) (l : List ℕ) (xs : List X) (rest : List ℕ) → ReadsString rule S inner_tag d tag l xs rest → IsEnd l rest
  string_ends rule S inner_tag d tag l xs rest (primitive c f h) = IsEnd-frame l f
  string_ends rule S inner_tag (suc d) tag l xs rest (segments c has f m) = IsEnd-frame l f
  string_ends rule S inner_tag (suc d) tag l xs rest (closed_segments body has f m) =
      IsEnd-trans l body rest (IsEnd-frame l f)
      (IsEnd-trans body (0 ∷ 0 ∷ rest) rest (segments_end rule S inner_tag d true body xs (0 ∷ 0 ∷ rest) m) (IsEnd-zeros (0 ∷ 0 ∷ rest) rest refl))

  segments_end : {X : Type 0} (rule : Codec) (S : List ℕ → List X → Type 0) (inner_tag : Tag) (d : ℕ) (closing : Bool) (l : List ℕ) (xs : List X) (rest : List ℕ) → ReadsSegments rule S inner_tag d closing l xs rest → IsEnd l rest
  segments_end rule S inner_tag d closing l xs rest (ReadsSegments.none e) = IsEnd-refl l
  segments_end rule S inner_tag d closing l xs rest (ReadsSegments.one_more first others middle n s more is) =
      IsEnd-trans l middle rest (string_ends rule S inner_tag d inner_tag l first middle s) (segments_end rule S inner_tag d closing middle others rest more)

-- Octets are read exactly if there is a string of octets.
module _ (rule : Codec) (d : ℕ) (tag : Tag) (l : List ℕ) (o : AreOctets l) where
  pub octets_there : (xs r : List ℕ) → octet_string_at rule d tag l ≡ Ok (xs, r) → ReadsString rule OctetSegment (in_universal 4) d tag l xs r
  octets_there xs r e =
      string_map rule (Reads octets) OctetSegment (λ c ys h. cc) (in_universal 4) d tag l xs r (string_parsed rule octets (in_universal 4) d tag l (xs, r) o e).0

  pub octets_only : (xs r : List ℕ) → ReadsString rule OctetSegment (in_universal 4) d tag l xs r → octet_string_at rule d tag l ≡ Ok (xs, r)
  octets_only xs r s =
      string_spelled rule octets (in_universal 4) d tag l xs r o (string_map rule OctetSegment (Reads octets) (λ c ys h. ap Ok (sym h)) (in_universal 4) d tag l xs r s)

  pub octets_end : (xs r : List ℕ) → octet_string_at rule d tag l ≡ Ok (xs, r) → IsEnd l r
  octets_end xs r e = string_ends rule OctetSegment (in_universal 4) d tag l xs r (octets_there xs r e)
