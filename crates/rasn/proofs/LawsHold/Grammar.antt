-- The laws.
use Rattle.std.proofs.Common.{◌≡◌, ℕ, Bool, List, ap, subst}
use Rattle.rasn_types.specs.declared.ber.time.text.Fields.{Fields}
use Rattle.rasn_types.specs.Calendar.{Stamp}
use Rattle.rasn_types.specs.TimeSpelling.{two, four}
use Rattle.rasn_types.specs.Time.{TimeText, DateText, CanonicalUtc, CanonicalGeneralized, as_given, century, short_form, long_form, canonical_form, both, fields_of, at_utc, written_utc, written_generalized, written_date}
use Rattle.rasn.specs.TimeLaws.{OneMeaning, IncludedTexts, ReadBack, Distinct}
use Rattle.rasn_types.specs.TimeParsing.{two_at, four_at}
use Rattle.rasn_types.proofs.Time.Spellings.{two_again, two_consumes, four_again, four_consumes, both_true}
use Rattle.rasn_types.proofs.Time.Stamps.{one_stamp}
use Rattle.rasn_types.proofs.Time.Dates.{one_day}
use Rattle.rasn.proofs.ReadBack.Written.{utc_read_back, generalized_read_back, date_read_back}

utc_once : (form : Fields → Bool) (text : List ℕ) (t u : Stamp) → TimeText two 100 century form text t → TimeText two 100 century form text u → t ≡ u
utc_once form = one_stamp two 100 two_at two_again two_consumes century form

generalized_once : (form : Fields → Bool) (text : List ℕ) (t u : Stamp) → TimeText four 10000 as_given form text t → TimeText four 10000 as_given form text u → t ≡ u
generalized_once form = one_stamp four 10000 four_at four_again four_consumes as_given form

pub one_meaning : OneMeaning
one_meaning = record { utc = utc_once short_form; generalized = generalized_once long_form; date = one_day }

narrowed : (year_text : ℕ → List ℕ) (limit : ℕ) (year_of : ℕ → ℕ) (a b : Fields → Bool) (text : List ℕ) (t : Stamp) → TimeText year_text limit year_of (both a b) text t → TimeText year_text limit year_of a text t
narrowed year_text limit year_of a b text t r = record {
  year = r.year;
  rest = r.rest;
  below = r.below;
  spelled = r.spelled;
  allowed = (both_true (a (fields_of r.rest)) (b (fields_of r.rest)) r.allowed).0;
  is = r.is;
  exists = r.exists;
  meant = r.meant;
}

pub included : IncludedTexts
included = record { utc = narrowed two 100 century short_form canonical_form; generalized = narrowed four 10000 as_given long_form canonical_form }

pub read_back : ReadBack
read_back = record { utc = utc_read_back; generalized = generalized_read_back; date = date_read_back }

pub distinct : Distinct
distinct = record {
  utc = λ m n h k a b e.
      ap (λ (t : Stamp). t.moment) (utc_once (both short_form canonical_form) (written_utc n) (at_utc m) (at_utc n) (subst (λ x. CanonicalUtc x (at_utc m)) e (utc_read_back m h a)) (utc_read_back n k b));
  generalized = λ m n h k a b e.
      ap (λ (t : Stamp). t.moment) (generalized_once (both long_form canonical_form) (written_generalized n) (at_utc m) (at_utc n) (subst (λ x. CanonicalGeneralized x (at_utc m)) e (generalized_read_back m h a).is) (generalized_read_back n k b).is);
  date = λ d c h k a b e. one_day (written_date c) d c (subst (λ x. DateText x d) e (date_read_back d h a)) (date_read_back c k b);
}
