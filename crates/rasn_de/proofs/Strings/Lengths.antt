-- A string has no more items than its octets can hold.
use Rattle.std.proofs.Common.{◌≡◌, ◌≤◌, ◌+◌, ℕ, suc, Bool, true, false, List, [], ◌∷◌, ◌++◌, length, Result, Ok, refl, ap, ◌∙◌, arith}
use Rattle.std.proofs.lemmas.List.{length-append}
use Rattle.rasn_types.specs.declared.types.tag.Tag.{Tag}
use Rattle.rasn_types.specs.declared.types.codec.Codec.{Codec}
use Rattle.rasn_types.specs.Tags.{Form}
use Rattle.rasn_types.specs.Framing.{AreOctets, Extent, definite, Frame, with_length, without_length}
use Rattle.rasn_types.specs.Contents.{ReadsString, primitive, segments, closed_segments, ReadsSegments}
use Rattle.rasn_de.specs.declared.ber.de.parser.ParseError.{ParseError}
use Rattle.rasn_de.specs.Segments.{string_at}
use Rattle.rasn_de.proofs.Strings.Reads.{Reads, string_parsed}

-- The room that octets have for items: as much as their parts have together.
abbrev pub IsRoom : (List ℕ → ℕ) → Type 0
IsRoom room = (a b : List ℕ) → room (a ++ b) ≡ room a + room b

-- A segment has no more items than its octets have room for.
abbrev pub AllFit : {X : Type 0} → (List ℕ → ℕ) → (List ℕ → List X → Type 0) → Type 0
AllFit {X} room S = (c : List ℕ) (xs : List X) → S c xs → length xs ≤ room c

rest_fits : (room : List ℕ → ℕ) → IsRoom room → {spelling : Form} (input : List ℕ) {tag : Tag} {bit : Bool} {rest : List ℕ} {x : Extent} → Frame spelling input tag bit rest x → room rest ≤ room input
rest_fits room add input {rest = rest} (with_length id len contents s a strict e) =
    let k = ap room e in omega (arith, k, add id (len ++ (contents ++ rest)), add len (contents ++ rest), add contents rest)
rest_fits room add input {rest = rest} (without_length id s b h e) =
    let k = ap room e in omega (arith, k, add id (128 ∷ rest), add (128 ∷ []) rest)

contents_fit : (room : List ℕ → ℕ) → IsRoom room → {spelling : Form} (input : List ℕ) {tag : Tag} {bit : Bool} {rest c : List ℕ} → Frame spelling input tag bit rest (definite c) → room c + room rest ≤ room input
contents_fit room add input {rest = rest} (with_length id len contents s a strict e) =
    let k = ap room e in omega (arith, k, add id (len ++ (contents ++ rest)), add len (contents ++ rest), add contents rest)

mutual
  string_fits : {X : Type 0} (room : List ℕ → ℕ) → IsRoom room → (rule : Codec) (S : List ℕ → List X → Type 0) → AllFit room S
      → (inner : Tag) (d : ℕ) (tag : Tag) (l : List ℕ) (xs : List X) (rest : List ℕ) → ReadsString rule S inner d tag l xs rest → length xs + room rest ≤ room l
  string_fits room add rule S fits inner d tag l xs rest (primitive c f h) = omega (arith, contents_fit room add l f, fits c xs h)
  string_fits room add rule S fits inner (suc d) tag l xs rest (segments c has f m) =
      omega (arith, contents_fit room add l f, segments_fit room add rule S fits inner d false c xs [] m)
  string_fits room add rule S fits inner (suc d) tag l xs rest (closed_segments body has f m) =
      omega (arith, rest_fits room add l f, segments_fit room add rule S fits inner d true body xs (0 ∷ 0 ∷ rest) m, add (0 ∷ 0 ∷ []) rest)

  segments_fit : {X : Type 0} (room : List ℕ → ℕ) → IsRoom room → (rule : Codec) (S : List ℕ → List X → Type 0) → AllFit room S
      → (inner : Tag) (d : ℕ) (closing : Bool) (l : List ℕ) (xs : List X) (rest : List ℕ) → ReadsSegments rule S inner d closing l xs rest → length xs + room rest ≤ room l
  segments_fit {X} room add rule S fits inner d closing l xs rest (ReadsSegments.none e) = let z : length {A = X} [] ≡ 0 = refl in omega (arith, z)
  segments_fit room add rule S fits inner d closing l xs rest (ReadsSegments.one_more first others middle n s more is) =
      let k = ap length is in
      omega (arith, k, length-append first others, string_fits room add rule S fits inner d inner l first middle s, segments_fit room add rule S fits inner d closing middle others rest more)

-- The same of a string that is read.
pub items_fit : {X : Type 0} (room : List ℕ → ℕ) → IsRoom room → (rule : Codec) (segment : List ℕ → Result (List X) ParseError) → AllFit room (Reads segment)
    → (inner : Tag) (d : ℕ) (tag : Tag) (l : List ℕ) → AreOctets l → (xs : List X) (rest : List ℕ) → string_at rule segment inner d tag l ≡ Ok (xs, rest) → length xs ≤ room l
items_fit room add rule segment fits inner d tag l o xs rest e =
    omega (arith, string_fits room add rule (Reads segment) fits inner d tag l xs rest (string_parsed rule segment inner d tag l (xs, rest) o e).0)
