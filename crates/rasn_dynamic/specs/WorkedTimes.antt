-- Times that were worked out by hand, and what is none.
use Rattle.std.specs.Prelude.{List, ℕ, [], ◌∷◌, pos, negsuc}
use Rattle.rasn_types.specs.Calendar.{Moment}
use Rattle.rasn_types.specs.Tags.{in_universal}
use Rattle.rasn_types.specs.declared.types.codec.Codec.TheVariants.{Ber, Der}
use Rattle.rasn_de.specs.State.{State, at}
use Rattle.rasn_schema.specs.declared.types.LeafKind.TheVariants.{UtcTime, GeneralizedTime}
use Rattle.rasn_schema.specs.declared.value.Value.{Instant}
use Rattle.rasn_dynamic.specs.Faults.{start}
use Rattle.rasn_dynamic.specs.Times.{KeepsOffset, Covers, KeepsOffsetIn}
use Rattle.rasn_dynamic.specs.Worked.{one_element, inside_one}

-- 20200102120000-0500: 17:00 in UTC.
abbrev pub noon_in_the_west : List ℕ
noon_in_the_west = 50 ∷ 48 ∷ 50 ∷ 48 ∷ 48 ∷ 49 ∷ 48 ∷ 50 ∷ 49 ∷ 50 ∷ 48 ∷ 48 ∷ 48 ∷ 48 ∷ 45 ∷ 48 ∷ 53 ∷ 48 ∷ 48 ∷ []

abbrev pub its_instant : Moment
its_instant = record { day = record { year = pos 2020; month = 1; day = 2 }; hour = 17; minute = 0; second = 0; nanosecond = 0 }

-- It alone, as a GeneralizedTime, and in a SEQUENCE.
abbrev pub alone : State
alone = start Ber (24 ∷ 19 ∷ noon_in_the_west)

abbrev pub in_sequence : State
in_sequence = start Ber (48 ∷ 21 ∷ 24 ∷ 19 ∷ noon_in_the_west)

pub record WorkedTimes : Type 0 where
  pub offset_of_the_text : KeepsOffset GeneralizedTime (in_universal 24) alone (Instant (record { moment = its_instant; offset = negsuc 299 })) (at alone [])
  pub no_other_offset : (m : Moment) (next : State) → KeepsOffset GeneralizedTime (in_universal 24) alone (Instant (record { moment = m; offset = pos 0 })) next → ⊥
  pub inside : KeepsOffsetIn in_sequence GeneralizedTime (in_universal 24) (Instant (record { moment = its_instant; offset = negsuc 299 }))
  pub utc_time : (m : Moment) (old next : State) → KeepsOffset UtcTime (in_universal 23) old (Instant (record { moment = m; offset = pos 0 })) next
  pub no_utc_time : (m : Moment) (old next : State) → KeepsOffset UtcTime (in_universal 23) old (Instant (record { moment = m; offset = negsuc 299 })) next → ⊥
  pub contents_covered : Covers (start Ber one_element) inside_one
  pub not_by_other_rules : Covers (start Der one_element) inside_one → ⊥
