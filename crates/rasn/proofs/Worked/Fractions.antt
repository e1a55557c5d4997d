-- A fraction with a tenth digit, which DER doesn't read.
use Rattle.std.proofs.Common.{rules, ◌≡◌, ℕ, inl, List, [], ◌∷◌, false, Some, refl, ap, subst, arith}
use Rattle.rasn_types.specs.declared.types.codec.Codec.TheVariants.{Ber, Der}
use Rattle.rasn_types.specs.Shapes.{instant, generalized_time}
use Rattle.rasn_types.specs.Grammar.{Reads, parts_of}
use Rattle.rasn_types.specs.Bytes.{Bytes, fields_of}
use Rattle.rasn_types.specs.Carried.{IsWithinLimits, Carried}
use Rattle.rasn_types.specs.Lawful.{IsLawful}
use Rattle.rasn.specs.Worked.{IsLenient, plain}
use Rattle.rasn.proofs.ReadBack.Headers.{no_eoc, octets_read, short_written}
use Rattle.rasn.proofs.Worked.Lenient.{lenient}
use Rattle.rasn.proofs.StrictDer.Time.{generalized_written}
use Rattle.rasn_types.specs.Calendar.{Moment}
use Rattle.rasn_types.specs.declared.ber.time.text.Clock.TheVariants.{Seconds}
use Rattle.rasn_types.specs.declared.ber.time.text.Zone.TheVariants.{Utc}
use Rattle.rasn_types.specs.TimeSpelling.{Spelling, parts}
use Rattle.rasn_types.specs.Time.{GeneralGeneralized, CarriedDay, at_utc}
use Rattle.rasn_types.specs.Time.{StrictGeneralized}
use Rattle.rasn.specs.Worked.{afternoon, nine_digits, ten_digits}

nine_spelling : Spelling
nine_spelling = record { month = 6; day = 13; hour = 12; clock = Seconds 29 59; fraction = Some (46, 1 ∷ 2 ∷ 3 ∷ 4 ∷ 5 ∷ 6 ∷ 7 ∷ 8 ∷ 9 ∷ []); zone = Utc }

ten_spelling : Spelling
ten_spelling = record { month = 6; day = 13; hour = 12; clock = Seconds 29 59; fraction = Some (46, 1 ∷ 2 ∷ 3 ∷ 4 ∷ 5 ∷ 6 ∷ 7 ∷ 8 ∷ 9 ∷ 1 ∷ []); zone = Utc }

nine_strict : StrictGeneralized nine_digits (at_utc afternoon)
unfolding parts nine_spelling
nine_strict = record {
  is = record {
    year = 2018;
    rest = nine_spelling;
    below = omega arith;
    spelled = record { month = omega arith; day = omega arith; hour = omega arith; clock = (omega arith, omega arith); fraction = (inl refl, (λ e. cc), (omega arith, (omega arith, (omega arith, (omega arith, (omega arith, (omega arith, (omega arith, (omega arith, (omega arith, tt)))))))))); zone = tt };
    allowed = refl;
    is = refl;
    exists = record {
      day = record { year_from = search rules; year_to = search rules; month_from = omega arith; month_to = omega arith; day_from = omega arith; day_to = omega arith };
      hour = omega arith;
      minute = omega arith;
      second = omega arith;
      nanosecond = omega arith;
      leap = λ h. omega arith;
    };
    meant = refl;
  };
  short = (omega arith, (λ e. omega arith));
}

ten_general : GeneralGeneralized ten_digits (at_utc afternoon)
unfolding parts ten_spelling
ten_general = record {
  year = 2018;
  rest = ten_spelling;
  below = omega arith;
  spelled = record { month = omega arith; day = omega arith; hour = omega arith; clock = (omega arith, omega arith); fraction = (inl refl, (λ e. cc), (omega arith, (omega arith, (omega arith, (omega arith, (omega arith, (omega arith, (omega arith, (omega arith, (omega arith, (omega arith, tt))))))))))); zone = tt };
  allowed = refl;
  is = refl;
  exists = (generalized_written nine_digits (at_utc afternoon) nine_strict).0;
  meant = refl;
}

pub time_lawful : IsLawful (plain generalized_time 24)
unfolding IsLawful
time_lawful = (no_eoc 24 (omega arith), refl)

nine_carried : Carried Der (plain generalized_time 24) (instant afternoon)
unfolding Bytes fields_of IsWithinLimits
nine_carried =
    let w = generalized_written nine_digits (at_utc afternoon) nine_strict in
    record {
      octets = 24 ∷ 25 ∷ nine_digits;
      is = (tt, (nine_digits, (afternoon, refl, w.0, w.1), inl ((λ z. absurd z), nine_digits, (refl, (omega arith, (omega arith, (omega arith, (omega arith, (omega arith, (omega arith, (omega arith, (omega arith, (omega arith, (omega arith, (omega arith, (omega arith, (omega arith, (omega arith, (omega arith, (omega arith, (omega arith, (omega arith, (omega arith, (omega arith, (omega arith, (omega arith, (omega arith, (omega arith, (omega arith, tt)))))))))))))))))))))))))), short_written 24 false nine_digits (omega arith) (omega arith))));
      within_limits = ((λ m e. subst CarriedDay (day_of m e) (record { year = 2018; same = refl; below = omega arith })), λ l e z. absurd z);
    }
  where
    day_of : (m : Moment) → instant afternoon ≡ instant m → afternoon.day ≡ m.day
    day_of m e = let f : afternoon ≡ m = cc in ap (λ (x : Moment). x.day) f

pub tenth_digit : IsLenient (plain generalized_time 24) (24 ∷ 26 ∷ ten_digits) (instant afternoon)
unfolding Reads parts_of nine_carried
tenth_digit = lenient (plain generalized_time 24) time_lawful (24 ∷ 26 ∷ ten_digits) (omega arith, (omega arith, (omega arith, (omega arith, (omega arith, (omega arith, (omega arith, (omega arith, (omega arith, (omega arith, (omega arith, (omega arith, (omega arith, (omega arith, (omega arith, (omega arith, (omega arith, (omega arith, (omega arith, (omega arith, (omega arith, (omega arith, (omega arith, (omega arith, (omega arith, (omega arith, (omega arith, (omega arith, tt)))))))))))))))))))))))))))) (instant afternoon)
    ((ten_digits, octets_read Ber 24 ten_digits [] 128 (omega arith) (omega arith) (omega arith), (at_utc afternoon, refl, ten_general)), tt) nine_carried
    (λ e. let f : ◌≡◌ {A = List ℕ} (25 ∷ nine_digits) (26 ∷ ten_digits) = cc in let g : ◌≡◌ {A = ℕ} 25 26 = cc in omega arith)
