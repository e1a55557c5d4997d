-- Facts about departures that were worked out by hand, and what is none.
use Rattle.std.specs.Prelude.{◌≡◌, ℕ, List, [], ◌∷◌, true, false, Some, None, Vec}
use Rattle.std.specs.Global.{Global}
use Rattle.rasn_types.specs.declared.types.constraints.Constraints.{Constraints}
use Rattle.rasn_types.specs.declared.error.decode.DerDecodeErrorKind.TheVariants.{ConstructedBitMismatch, ConstructedEncodingNotAllowed, NonMinimalArc, SetOfOutOfOrder}
use Rattle.rasn_types.specs.Tags.{in_universal}
use Rattle.rasn_schema.specs.declared.types.NamedNumber.{NamedNumber}
use Rattle.rasn_schema.specs.declared.types.LeafKind.TheVariants.{Integer, OctetString}
use Rattle.rasn_schema.specs.declared.types.«Type».TheVariants.{Leaf, Unknown}
use Rattle.rasn_dynamic.specs.declared.span.Span.{Span}
use Rattle.rasn_lint.specs.declared.departure.Departure.{Departure}
use Rattle.rasn_lint.specs.declared.departure.Aspect.TheVariants.{Header, Contents, Place}
use Rattle.rasn_lint.specs.declared.by_schema.OpenTypes.TheVariants.{Examined}
use Rattle.rasn_lint.specs.declared.der.universal.ContentsRule.TheVariants.{Integer as Number, Octets}
use Rattle.rasn_lint.specs.declared.judge.Site.{Site}
use Rattle.rasn_lint.specs.declared.place.Order.TheVariants.{Unordered, ByOctets}
use Rattle.rasn_lint.specs.declared.trail.Step.{Step}
use Rattle.rasn_lint.specs.Header.{after_identifier, is_constructed, IsFormFault}
use Rattle.rasn_lint.specs.Judged.{AreNoted}
use Rattle.rasn_lint.specs.Lint.{AreFormed, IsLint}
use Rattle.rasn_lint.specs.Listed.{HasOne, HasAll, HasAllOfEach}
use Rattle.rasn_lint.specs.Open.{IsFoundIn}
use Rattle.rasn_lint.specs.Place.{der_error, IsOrderFault}
use Rattle.rasn_lint.specs.Trail.{trail_after, step_of}
use Rattle.rasn_lint.specs.Refusals.{aspect_of, form_error, arcs_error}
use Rattle.rasn_lint.specs.Untyped.{IsValueIn, LeadsInto}

-- The octets of the INTEGER 1 and of the INTEGER 2.
abbrev pub one : List ℕ
one = 2 ∷ 1 ∷ 1 ∷ []

abbrev pub two : List ℕ
two = 2 ∷ 1 ∷ 2 ∷ []

pub record WorkedDepartures : Type 0 where
  pub after_a_long_tag : after_identifier (159 ∷ 128 ∷ 31 ∷ 1 ∷ 255 ∷ []) ≡ 1 ∷ 255 ∷ []
  pub after_a_short_tag : after_identifier (30 ∷ 128 ∷ 31 ∷ []) ≡ 128 ∷ 31 ∷ []
  pub constructed : is_constructed (36 ∷ 0 ∷ []) ≡ true
  pub primitive : is_constructed (4 ∷ 0 ∷ []) ≡ false
  pub string_in_segments : (c : Constraints) (names : Vec NamedNumber Global) → IsFormFault (Leaf OctetString (in_universal 4) c names) true (Some (der_error ConstructedEncodingNotAllowed))
  pub string_at_once : (c : Constraints) (names : Vec NamedNumber Global) → IsFormFault (Leaf OctetString (in_universal 4) c names) false None
  pub segments_are_seen : (c : Constraints) (names : Vec NamedNumber Global) → IsFormFault (Leaf OctetString (in_universal 4) c names) true None → ⊥
  pub constructed_number : (c : Constraints) (names : Vec NamedNumber Global) → IsFormFault (Leaf Integer (in_universal 2) c names) true (Some (der_error ConstructedBitMismatch))
  pub falls : (s : Step) → s.octets.now ≡ two → IsOrderFault ByOctets one (Some s) (Some (der_error SetOfOutOfOrder))
  pub rises : (s : Step) → s.octets.now ≡ one → IsOrderFault ByOctets two (Some s) None
  pub equal_are_in_order : (s : Step) → s.octets.now ≡ one → IsOrderFault ByOctets one (Some s) None
  pub fall_is_seen : (s : Step) → s.octets.now ≡ two → IsOrderFault ByOctets one (Some s) None → ⊥
  pub any_order_of_a_sequence : (s : Step) → IsOrderFault Unordered one (Some s) None
  pub first_has_none_before : IsOrderFault ByOctets one None None
  pub at_its_place : (e : Span) → e.octets.now ≡ 48 ∷ 3 ∷ 1 ∷ 1 ∷ 1 ∷ [] → e.left ≡ 7 → IsFoundIn e (1 ∷ 1 ∷ 1 ∷ []) 5
  pub not_one_octet_before : (e : Span) → e.octets.now ≡ 48 ∷ 3 ∷ 1 ∷ 1 ∷ 1 ∷ [] → e.left ≡ 7 → IsFoundIn e (1 ∷ 1 ∷ 1 ∷ []) 6 → ⊥
  pub inside_a_sequence : LeadsInto (0 ∷ []) (48 ∷ 3 ∷ 1 ∷ 1 ∷ 1 ∷ []) (1 ∷ 1 ∷ 1 ∷ [])
  pub not_the_second_one : LeadsInto (1 ∷ []) (48 ∷ 3 ∷ 1 ∷ 1 ∷ 1 ∷ []) (1 ∷ 1 ∷ 1 ∷ []) → ⊥
  pub nothing_in_no_octets : HasAll [] []
  pub left_out : HasAll (48 ∷ 3 ∷ 1 ∷ 1 ∷ 1 ∷ []) [] → ⊥
  pub second_of_two_values : IsValueIn (1 ∷ 1 ∷ 255 ∷ 1 ∷ 1 ∷ 1 ∷ []) (1 ∷ 1 ∷ 1 ∷ [])
  pub not_a_front_of_a_value : IsValueIn (1 ∷ 1 ∷ 255 ∷ []) (1 ∷ 1 ∷ []) → ⊥
  pub no_values_in_no_octets : HasAllOfEach [] []
  pub value_left_out : HasAllOfEach (1 ∷ 1 ∷ 1 ∷ []) [] → ⊥
  pub formed_values : (e : Span) → e.octets.now ≡ 1 ∷ 1 ∷ 255 ∷ [] → AreFormed Examined (Unknown ∷ []) (e ∷ [])
  pub ill_formed_values : (e : Span) → e.id.0 ≡ 0 → e.octets.now ≡ 1 ∷ 1 ∷ 1 ∷ [] → AreFormed Examined (Unknown ∷ []) (e ∷ []) → ⊥
  pub ill_formed_values_are_listed : IsLint Examined (Unknown ∷ []) 0 (1 ∷ 1 ∷ 1 ∷ []) [] → ⊥
  pub of_the_header : aspect_of (der_error ConstructedBitMismatch).kind ≡ Header
  pub of_the_place : aspect_of (der_error SetOfOutOfOrder).kind ≡ Place
  pub not_of_the_contents : aspect_of (der_error SetOfOutOfOrder).kind ≡ Contents → ⊥
  pub bit_of_a_number : form_error Number true ≡ der_error ConstructedBitMismatch
  pub segments_of_octets : form_error Octets true ≡ der_error ConstructedEncodingNotAllowed
  pub padded_arc : arcs_error (42 ∷ 128 ∷ 3 ∷ []) ≡ der_error NonMinimalArc
  pub cut_arc_is_not_padded : arcs_error (42 ∷ 131 ∷ []) ≡ der_error NonMinimalArc → ⊥
  pub at_its_indices : (d : Departure) (v : Vec ℕ Global) → d.inner ≡ Some v → v.items ≡ 0 ∷ [] → HasOne (0 ∷ []) d.aspect (d ∷ [])
  pub not_at_others : (d : Departure) (v : Vec ℕ Global) → d.inner ≡ Some v → v.items ≡ 0 ∷ [] → HasOne (1 ∷ []) d.aspect (d ∷ []) → ⊥
  pub trail_of_the_next_part : (whole first second : Span) → whole.depth ≡ 0 → first.depth ≡ 1 → second.depth ≡ 1
      → trail_after (trail_after (trail_after [] whole) first) second ≡ step_of whole ∷ step_of second ∷ []
  pub nothing_without_an_error : (site : Site) → AreNoted site Header None []
  pub not_one_without_an_error : (site : Site) (d : Departure) → AreNoted site Header None (d ∷ []) → ⊥
  pub not_none_with_an_error : (site : Site) → AreNoted site Header (Some (der_error ConstructedBitMismatch)) [] → ⊥
