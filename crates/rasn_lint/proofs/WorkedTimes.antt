-- Times with and without a zone, worked out by hand.
use Rattle.std.proofs.Common.{◌≡◌, inl, inr, ℕ, List, [], ◌∷◌, true, false, Some, Vec, Global, refl, sym, ap, ◌∙◌, subst, arith}
use Rattle.std.specs.Prelude.{codes, slice_get}
use Rattle.std.specs.List.{list_any}
use Rattle.rasn_types.specs.declared.types.codec.Codec.TheVariants.{Ber}
use Rattle.rasn_types.specs.declared.types.tag.Tag.{Tag}
use Rattle.rasn_types.specs.Contents.ReadsString.{primitive}
use Rattle.rasn_types.specs.Grammar.{Reads, parts_of}
use Rattle.rasn_types.specs.Lawful.{IsLawful}
use Rattle.rasn_types.specs.Shapes.{leaf, numbers, octet_string}
use Rattle.rasn_types.specs.Tags.{in_universal}
use Rattle.rasn_types.specs.Trees.{unconstrained}
use Rattle.rasn.specs.WorkedShapes.{plain}
use Rattle.rasn.proofs.LawsHold.Written.{one_reading}
use Rattle.rasn.proofs.ReadBack.Headers.{no_eoc, short}
use Rattle.rasn_schema.specs.declared.types.NamedNumber.{NamedNumber}
use Rattle.rasn_schema.specs.declared.types.«Type».{«Type»}
use Rattle.rasn_dynamic.specs.declared.span.Span.{Span}
use Rattle.rasn_lint.specs.LocalTimes.{is_of_zone, time_tag_of, IsTimeText, IsLocalTime, IsNotLocal}
use Rattle.rasn_lint.specs.WorkedMessages.{a_boolean}
use Rattle.rasn_lint.specs.WorkedTimes.{a_time, local_noon, noon, WorkedTimes}

local_read : Reads Ber (plain octet_string 24) 128 true (24 ∷ 10 ∷ local_noon) (numbers local_noon) []
unfolding Reads parts_of
local_read = ((local_noon, primitive local_noon (short 24 false local_noon [] (omega arith) (omega arith) (omega arith)) refl, refl), tt)

zoned_read : Reads Ber (plain octet_string 24) 128 true (24 ∷ 11 ∷ noon) (numbers noon) []
unfolding Reads parts_of
zoned_read = ((noon, primitive noon (short 24 false noon [] (omega arith) (omega arith) (omega arith)) refl, refl), tt)

lawful : IsLawful (plain octet_string 24)
unfolding IsLawful
lawful = (no_eoc 24 (omega arith), refl)

module _ (names : Vec NamedNumber Global) (e : Span) (first : e.id.0 ≡ 0) where
  tag_is : time_tag_of (slice_get (a_time names) e.id.0) ≡ Some (in_universal 24)
  tag_is = ap (λ k. time_tag_of (slice_get (a_time names) k)) first

  is_text : (octets text : List ℕ) → e.octets.now ≡ octets → Reads Ber (plain octet_string 24) 128 true octets (numbers text) [] → IsTimeText (a_time names) e text
  is_text octets text q r = (in_universal 24, [], tag_is, subst (λ l. Reads Ber (plain octet_string 24) 128 true l (numbers text) []) (sym q) r)

  only : (octets text other : List ℕ) → e.octets.now ≡ octets → Reads Ber (plain octet_string 24) 128 true octets (numbers text) [] → IsTimeText (a_time names) e other → other ≡ text
  only octets text other q r (tag, rest, t, s) =
      let same : tag ≡ in_universal 24 = let k : Some tag ≡ Some (in_universal 24) = sym t ∙ tag_is in cc in
      let read = subst (λ l. Reads Ber (plain octet_string 24) 128 true l (numbers other) rest) q (subst (λ (z : Tag). Reads Ber (leaf octet_string z unconstrained) 128 true e.octets.now (numbers other) rest) same s) in
      let both = (one_reading (plain octet_string 24) lawful Ber 128 true octets (numbers other) (numbers text) rest [] read r).0 in
      cc

  pub times : WorkedTimes names e
  times = record {
    east = refl;
    west = refl;
    is_local = λ q. (is_text _ local_noon q local_read, refl);
    isnt_zoned = λ q n. elim n [
      | inl none ↦ none local_noon (is_text _ local_noon q local_read)
      | inr (text, is, z) ↦ let w : true ≡ false = sym z ∙ ap (list_any is_of_zone) (only _ local_noon text q local_read is) in cc
    ];
    is_zoned = λ q. inr (noon, is_text _ noon q zoned_read, refl);
    isnt_local = λ text q h. let w : true ≡ false = sym (ap (list_any is_of_zone) (only _ noon text q zoned_read h.0)) ∙ h.1 in cc;
    no_time = inl (λ text h. let k = ap (λ k. time_tag_of (slice_get (a_boolean names) k)) (sym first) ∙ h.2 in cc);
  }
