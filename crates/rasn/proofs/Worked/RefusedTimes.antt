-- Texts that were worked out by hand are refused as times, or aren't.
use Rattle.std.proofs.Common.{◌≡◌, ℕ, ◌<◌, ◌^◌, inl, inr, List, [], ◌∷◌, ◌++◌, length, Some, None, Result, Ok, Err, pos, refl, sym, ap, ◌∙◌, subst, arith, rules}
use Rattle.std.proofs.lemmas.Option.{same_Some}
use Rattle.rasn_types.specs.declared.ber.time.text.Clock.TheVariants.{Minutes, Seconds}
use Rattle.rasn_types.specs.declared.ber.time.text.Fields.{Fields}
use Rattle.rasn_types.specs.declared.ber.time.text.Zone.TheVariants.{Unnamed, Utc}
use Rattle.rasn_types.specs.declared.types.codec.Codec.{Codec}
use Rattle.rasn_types.specs.declared.types.codec.Codec.TheVariants.{Ber, Cer, Der}
use Rattle.rasn_types.specs.declared.types.tag.Tag.{Tag}
use Rattle.rasn_types.specs.declared.error.decode.BerDecodeErrorKind.TheVariants.{InvalidDate}
use Rattle.rasn_types.specs.Tags.{in_universal}
use Rattle.rasn_types.specs.Calendar.{IsDay, Moment, IsMoment}
use Rattle.rasn_types.specs.Grammar.{UtcText, GeneralizedText}
use Rattle.rasn_types.specs.Time.{fields_of, shown, stamp_of, century, short_form, long_form, canonical_form, both, GeneralUtc, GeneralGeneralized, DateText}
use Rattle.rasn_types.specs.TimeSpelling.{Spelling}
use Rattle.rasn_types.specs.TimeParsing.{two_at, four_at, clock_at, fraction_at, zone_at, fields_at, long_at, short_at, date_at}
use Rattle.rasn_types.proofs.Time.Dates.{date_none}
use Rattle.rasn_types.proofs.Time.Stamps.{utc_again, utc_unlike, generalized_unlike}
use Rattle.rasn_de.specs.Causes.{in_ber}
use Rattle.rasn_de.specs.Headers.{number128_at, tag_number_at, identifier_by, number256_at, long_at as length_long_at, length_at, header_by}
use Rattle.rasn_de.specs.Segments.{segments_at, string_of}
use Rattle.rasn_de.specs.OctetString.{octet_string_at}
use Rattle.rasn_de.specs.Time.{AtAnyOffset, DecodesTime}
use Rattle.rasn_de.specs.ValueErrors.{errors_of}
use Rattle.rasn.specs.WorkedKinds.{IsNotRefused, IsRefusedAsText, utc_errors, generalized_errors, date_errors, no_day, no_seconds, no_zone, hyphens}
use Rattle.rasn.proofs.OneRefusal.Calls.{no_memory}
use Rattle.rasn.proofs.OneRefusal.SettledLists.{vec_of}

-- A string whose text means nothing is refused, and one whose text means something isn't.
module _ {X : Type 0} (Means : List ℕ → X → Type 0) (rule : Codec) (tag : Tag) (input text rest : List ℕ) (framed : octet_string_at rule 128 tag input ≡ Ok (text, rest)) where
  text_refused : length text < 2 ^ 63 → ((x : X) → Means text x → ⊥) → IsRefusedAsText (errors_of (DecodesTime Means tag)) rule input text rest
  text_refused b none =
      let octets = vec_of text b in
      (in_ber (InvalidDate octets), (octets, refl, refl), (inr (text, framed, refl, none, inl (record { octets = octets; items = refl; is = refl })), λ e. cc))

  text_read : (x : X) → Means text x → IsNotRefused (errors_of (DecodesTime Means tag)) rule input
  text_read x m e new (inl (f, a, s, h, i), n) = let p = h (no_memory a n) in let z : ◌≡◌ {A = Result (List ℕ × List ℕ) _} (Ok (text, rest)) (Err f) = sym framed ∙ p in cc
  text_read x m e new (inr (other, p, s, none, c), n) =
      let z : (other, new.rest) ≡ (text, rest) = cc in none x (subst (λ l. Means l x) (sym (ap (λ (q : List ℕ × List ℕ). q.0) z)) m)

-- 990230120000Z.
no_day_framed : octet_string_at Ber 128 (in_universal 23) (23 ∷ 13 ∷ no_day ++ 9 ∷ []) ≡ Ok (no_day, 9 ∷ [])
unfolding number128_at tag_number_at identifier_by number256_at length_long_at length_at header_by string_of segments_at
no_day_framed = refl

abbrev last_of_february : Fields
last_of_february = record { month = 2; day = 30; hour = 12; clock = Seconds 0 0; fraction = None; zone = Utc }

no_day_parsed : short_at no_day ≡ Some (99, last_of_february)
unfolding short_at fields_at two_at clock_at fraction_at zone_at
no_day_parsed = refl

not_a_day : IsDay (record { year = pos 1999; month = 2; day = 30 }) → ⊥
not_a_day d = omega (arith, d.day_to)

no_day_means_nothing : (m : Moment) → AtAnyOffset (UtcText Ber) no_day m → ⊥
no_day_means_nothing m (offset, t) =
    let r = utc_again short_form no_day (record { moment = m; offset = offset }) t in
    let p : (r.year, r.fields) ≡ (99, last_of_february) = same_Some _ _ (sym r.is ∙ no_day_parsed) in
    not_a_day (subst (λ (x : ℕ × Fields). IsMoment (shown (pos (century x.0)) x.1)) p r.exists).day

pub day_not_in_month : IsRefusedAsText utc_errors Ber (23 ∷ 13 ∷ no_day ++ 9 ∷ []) no_day (9 ∷ [])
day_not_in_month = text_refused (AtAnyOffset (UtcText Ber)) Ber (in_universal 23) (23 ∷ 13 ∷ no_day ++ 9 ∷ []) no_day (9 ∷ []) no_day_framed (omega arith) no_day_means_nothing

-- 9902031200Z.
no_seconds_framed : (rule : Codec) → octet_string_at rule 128 (in_universal 23) (23 ∷ 11 ∷ no_seconds ++ 9 ∷ []) ≡ Ok (no_seconds, 9 ∷ [])
unfolding number128_at tag_number_at identifier_by number256_at length_long_at length_at header_by string_of segments_at
no_seconds_framed Ber = refl
no_seconds_framed Cer = refl
no_seconds_framed Der = refl

abbrev noon : Spelling
noon = record { month = 2; day = 3; hour = 12; clock = Minutes 0; fraction = None; zone = Utc }

no_seconds_parsed : short_at no_seconds ≡ Some (99, fields_of noon)
unfolding short_at fields_at two_at clock_at fraction_at zone_at
no_seconds_parsed = refl

pub seconds_left_out : IsRefusedAsText utc_errors Der (23 ∷ 11 ∷ no_seconds ++ 9 ∷ []) no_seconds (9 ∷ [])
seconds_left_out =
    text_refused (AtAnyOffset (UtcText Der)) Der (in_universal 23) (23 ∷ 11 ∷ no_seconds ++ 9 ∷ []) no_seconds (9 ∷ []) (no_seconds_framed Der) (omega arith)
    (λ m t. utc_unlike (both short_form canonical_form) no_seconds 99 (fields_of noon) no_seconds_parsed refl (record { moment = m; offset = t.0 }) t.1)

is_noon : IsMoment (shown (pos 1999) (fields_of noon))
is_noon = record {
  day = record { year_from = search rules; year_to = search rules; month_from = omega arith; month_to = omega arith; day_from = omega arith; day_to = omega arith };
  hour = omega arith;
  minute = omega arith;
  second = omega arith;
  nanosecond = omega arith;
  leap = λ h. absurd (omega (arith, h));
}

noon_meant : GeneralUtc no_seconds (stamp_of (pos 1999) (fields_of noon))
noon_meant = record {
  year = 99;
  rest = noon;
  below = omega arith;
  spelled = record { month = omega arith; day = omega arith; hour = omega arith; clock = omega arith; fraction = tt; zone = tt };
  allowed = refl;
  is = refl;
  exists = is_noon;
  meant = refl;
}

pub seconds_not_needed : IsNotRefused utc_errors Ber (23 ∷ 11 ∷ no_seconds ++ 9 ∷ [])
seconds_not_needed =
    text_read (AtAnyOffset (UtcText Ber)) Ber (in_universal 23) (23 ∷ 11 ∷ no_seconds ++ 9 ∷ []) no_seconds (9 ∷ []) (no_seconds_framed Ber) (stamp_of (pos 1999) (fields_of noon)).moment (pos 0, noon_meant)

-- 2020-01-02.
hyphens_framed : octet_string_at Der 128 (in_universal 31) (31 ∷ 31 ∷ 10 ∷ hyphens ++ 9 ∷ []) ≡ Ok (hyphens, 9 ∷ [])
unfolding number128_at tag_number_at identifier_by number256_at length_long_at length_at header_by string_of segments_at
hyphens_framed = refl

hyphens_unparsed : date_at hyphens ≡ None
unfolding date_at four_at two_at
hyphens_unparsed = refl

pub hyphens_kept : IsRefusedAsText date_errors Der (31 ∷ 31 ∷ 10 ∷ hyphens ++ 9 ∷ []) hyphens (9 ∷ [])
hyphens_kept = text_refused DateText Der (in_universal 31) (31 ∷ 31 ∷ 10 ∷ hyphens ++ 9 ∷ []) hyphens (9 ∷ []) hyphens_framed (omega arith) (date_none hyphens hyphens_unparsed)

-- 20200102120000.
no_zone_framed : (rule : Codec) → octet_string_at rule 128 (in_universal 24) (24 ∷ 14 ∷ no_zone ++ 9 ∷ []) ≡ Ok (no_zone, 9 ∷ [])
unfolding number128_at tag_number_at identifier_by number256_at length_long_at length_at header_by string_of segments_at
no_zone_framed Ber = refl
no_zone_framed Cer = refl
no_zone_framed Der = refl

abbrev local_noon : Spelling
local_noon = record { month = 1; day = 2; hour = 12; clock = Seconds 0 0; fraction = None; zone = Unnamed }

no_zone_parsed : long_at no_zone ≡ Some (2020, fields_of local_noon)
unfolding long_at fields_at four_at two_at clock_at fraction_at zone_at
no_zone_parsed = refl

pub zone_left_out : IsRefusedAsText generalized_errors Der (24 ∷ 14 ∷ no_zone ++ 9 ∷ []) no_zone (9 ∷ [])
zone_left_out =
    text_refused (GeneralizedText Der) Der (in_universal 24) (24 ∷ 14 ∷ no_zone ++ 9 ∷ []) no_zone (9 ∷ []) (no_zone_framed Der) (omega arith)
    (λ t r. generalized_unlike (both long_form canonical_form) no_zone 2020 (fields_of local_noon) no_zone_parsed refl t r.is)

is_local_noon : IsMoment (shown (pos 2020) (fields_of local_noon))
is_local_noon = record {
  day = record { year_from = search rules; year_to = search rules; month_from = omega arith; month_to = omega arith; day_from = omega arith; day_to = omega arith };
  hour = omega arith;
  minute = omega arith;
  second = omega arith;
  nanosecond = omega arith;
  leap = λ h. absurd (omega (arith, h));
}

local_noon_meant : GeneralGeneralized no_zone (stamp_of (pos 2020) (fields_of local_noon))
local_noon_meant = record {
  year = 2020;
  rest = local_noon;
  below = omega arith;
  spelled = record { month = omega arith; day = omega arith; hour = omega arith; clock = (omega arith, omega arith); fraction = tt; zone = tt };
  allowed = refl;
  is = refl;
  exists = is_local_noon;
  meant = refl;
}

pub zone_not_needed : IsNotRefused generalized_errors Ber (24 ∷ 14 ∷ no_zone ++ 9 ∷ [])
zone_not_needed =
    text_read (GeneralizedText Ber) Ber (in_universal 24) (24 ∷ 14 ∷ no_zone ++ 9 ∷ []) no_zone (9 ∷ []) (no_zone_framed Ber) (stamp_of (pos 2020) (fields_of local_noon)) local_noon_meant
