-- Times that were worked out by hand.
use Rattle.std.proofs.Common.{◌≡◌, ℕ, List, [], ◌∷◌, ◌++◌, Some, None, Result, Ok, pos, negsuc, refl, sym, ap, ◌∙◌, subst, arith, rules}
use Rattle.rasn_types.specs.declared.ber.time.text.Clock.TheVariants.{Seconds}
use Rattle.rasn_types.specs.declared.ber.time.text.Zone.TheVariants.{West}
use Rattle.rasn_types.specs.declared.types.codec.Codec.{Codec}
use Rattle.rasn_types.specs.declared.types.codec.Codec.TheVariants.{Ber, Der}
use Rattle.rasn_types.specs.Tags.{in_universal}
use Rattle.rasn_types.specs.Calendar.{Moment, IsMoment, Stamp, later}
use Rattle.rasn_types.specs.Time.{fields_of, shown, long_form, as_given, GeneralGeneralized}
use Rattle.rasn_types.specs.TimeSpelling.{Spelling, four}
use Rattle.rasn_types.specs.TimeParsing.{four_at}
use Rattle.rasn_types.proofs.Time.Spellings.{four_again, four_consumes}
use Rattle.rasn_types.proofs.Time.Stamps.{one_stamp}
use Rattle.rasn_de.specs.Headers.{number128_at, tag_number_at, identifier_by, number256_at, long_at as length_long_at, length_at, header_by}
use Rattle.rasn_de.specs.Segments.{segments_at, string_of}
use Rattle.rasn_de.specs.OctetString.{octet_string_at}
use Rattle.rasn_de.specs.State.{State, at}
use Rattle.rasn_dynamic.specs.WorkedTimes.{WorkedTimes, noon_in_the_west, its_instant, alone}

framed : octet_string_at Ber 128 (in_universal 24) (24 ∷ 19 ∷ noon_in_the_west) ≡ Ok (noon_in_the_west, [])
unfolding number128_at tag_number_at identifier_by number256_at length_long_at length_at header_by string_of segments_at
framed = refl

abbrev noon : Spelling
noon = record { month = 1; day = 2; hour = 12; clock = Seconds 0 0; fraction = None; zone = West 5 0 }

is_noon : IsMoment (shown (pos 2020) (fields_of noon))
is_noon = record {
  day = record { year_from = search rules; year_to = search rules; month_from = omega arith; month_to = omega arith; day_from = omega arith; day_to = omega arith };
  hour = omega arith;
  minute = omega arith;
  second = omega arith;
  nanosecond = omega arith;
  leap = λ h. absurd (omega (arith, h));
}

abbrev its_stamp : Stamp
its_stamp = record { moment = its_instant; offset = negsuc 299 }

meant : GeneralGeneralized noon_in_the_west its_stamp
unfolding later
meant = record {
  year = 2020;
  rest = noon;
  below = omega arith;
  spelled = record { month = omega arith; day = omega arith; hour = omega arith; clock = (omega arith, omega arith); fraction = tt; zone = (omega arith, omega arith) };
  allowed = refl;
  is = refl;
  exists = is_noon;
  meant = refl;
}

no_other : (t : Stamp) (rest text : List ℕ) → octet_string_at Ber 128 (in_universal 24) (24 ∷ 19 ∷ noon_in_the_west) ≡ Ok (text, rest) → GeneralGeneralized text t → t ≡ its_stamp
no_other t rest text p g =
    let same : ◌≡◌ {A = Result (List ℕ × List ℕ) _} (Ok (noon_in_the_west, [])) (Ok (text, rest)) = sym framed ∙ p in
    let pair : (noon_in_the_west, []) ≡ (text, rest) = cc in
    let e = ap (λ (q : List ℕ × List ℕ). q.0) pair in
    one_stamp four 10000 four_at four_again four_consumes as_given long_form text t its_stamp g (subst (λ l. GeneralGeneralized l its_stamp) e meant)

pub worked : WorkedTimes
worked = record {
  offset_of_the_text = (noon_in_the_west, framed, refl, meant);
  no_other_offset = λ m next h.
      let e : record { moment = m; offset = pos 0 } ≡ its_stamp = no_other (record { moment = m; offset = pos 0 }) next.rest h.0 h.1 h.3 in
      let o : pos 0 ≡ negsuc 299 = ap (λ (s : Stamp). s.offset) e in absurd cc;
  inside = (alone, at alone [], (refl, 21, (48 ∷ 21 ∷ [], [], refl, refl)), (noon_in_the_west, framed, refl, meant));
  utc_time = λ m old next. refl;
  no_utc_time = λ m old next h. absurd cc;
  contents_covered = (refl, 3, (48 ∷ 3 ∷ [], [], refl, refl));
  not_by_other_rules = λ h. let e : Ber ≡ Der = h.0 in absurd cc;
}
