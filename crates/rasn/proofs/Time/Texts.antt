-- The texts of times under each rule: canonical ones, which are general ones too.
use Rattle.std.proofs.Common.{◌≡◌, List, ℕ, sym, ap, ◌∙◌, subst}
use Rattle.rasn_types.specs.declared.types.codec.Codec.{Codec}
use Rattle.rasn_types.specs.declared.types.codec.Codec.TheVariants.{Ber, Cer, Der}
use Rattle.rasn_types.specs.Calendar.{Stamp}
use Rattle.rasn_types.specs.Time.{GeneralUtc, CanonicalUtc, GeneralGeneralized, StrictGeneralized, DateText, at_utc}
use Rattle.rasn_types.specs.Shapes.{Tree, instant, on_day, utc_time, generalized_time, date}
use Rattle.rasn_types.specs.Grammar.{UtcText, GeneralizedText, Text}
use Rattle.rasn_types.specs.Bytes.{WritesText}
use Rattle.rasn_types.specs.Carried.{IsCarriedTime}
use Rattle.rasn.proofs.LawsHold.Grammar.{one_meaning, included, read_back}

utc_general : (rule : Codec) (l : List ℕ) (s : Stamp) → UtcText rule l s → GeneralUtc l s
utc_general Ber l s h = h
utc_general Cer l s h = included.utc l s h
utc_general Der l s h = included.utc l s h

generalized_general : (rule : Codec) (l : List ℕ) (s : Stamp) → GeneralizedText rule l s → GeneralGeneralized l s
generalized_general Ber l s h = h
generalized_general Cer l s h = included.generalized l s h
generalized_general Der l s h = included.generalized l s h.is

pub utc_in : (rule : Codec) (l : List ℕ) (t : Tree) → Text rule utc_time l t → Text Ber utc_time l t
utc_in rule l t (s, e, h) = (s, e, utc_general rule l s h)

pub generalized_in : (rule : Codec) (l : List ℕ) (t : Tree) → Text rule generalized_time l t → Text Ber generalized_time l t
generalized_in rule l t (s, e, h) = (s, e, generalized_general rule l s h)

pub utc_one : (rule : Codec) (l : List ℕ) (t u : Tree) → Text rule utc_time l t → Text rule utc_time l u → t ≡ u
utc_one rule l t u (r, e, h) (s, f, k) =
    e ∙ (ap (λ (x : Stamp). instant x.moment) (one_meaning.utc l r s (utc_general rule l r h) (utc_general rule l s k)) ∙ sym f)

pub generalized_one : (rule : Codec) (l : List ℕ) (t u : Tree) → Text rule generalized_time l t → Text rule generalized_time l u → t ≡ u
generalized_one rule l t u (r, e, h) (s, f, k) =
    e ∙ (ap (λ (x : Stamp). instant x.moment) (one_meaning.generalized l r s (generalized_general rule l r h) (generalized_general rule l s k)) ∙ sym f)

pub date_one : (rule : Codec) (l : List ℕ) (t u : Tree) → Text rule date l t → Text rule date l u → t ≡ u
date_one rule l t u (c, e, h) (d, f, k) = e ∙ (ap on_day (one_meaning.date l c d h k) ∙ sym f)

utc_of : (rule : Codec) (l : List ℕ) (s : Stamp) → CanonicalUtc l s → UtcText rule l s
utc_of Ber l s h = included.utc l s h
utc_of Cer l s h = h
utc_of Der l s h = h

pub generalized_of : (rule : Codec) (l : List ℕ) (s : Stamp) → StrictGeneralized l s → GeneralizedText rule l s
generalized_of Ber l s h = included.generalized l s h.is
generalized_of Cer l s h = h.is
generalized_of Der l s h = h

-- what is written of a carried one is read
pub utc_back : (rule : Codec) (l : List ℕ) (t : Tree) → IsCarriedTime utc_time t → WritesText utc_time l t → Text rule utc_time l t
utc_back rule l t carried (m, e, valid, w) =
    (at_utc m, e, utc_of rule l (at_utc m) (subst (λ x. CanonicalUtc x (at_utc m)) (sym w) (read_back.utc m valid (carried m e))))

pub generalized_back : (rule : Codec) (l : List ℕ) (t : Tree) → IsCarriedTime generalized_time t → WritesText generalized_time l t → Text rule generalized_time l t
generalized_back rule l t carried (m, e, valid, w) =
    (at_utc m, e, generalized_of rule l (at_utc m) (subst (λ x. StrictGeneralized x (at_utc m)) (sym w) (read_back.generalized m valid (carried m e))))

pub date_back : (rule : Codec) (l : List ℕ) (t : Tree) → IsCarriedTime date t → WritesText date l t → Text rule date l t
date_back rule l t carried (d, e, valid, w) = (d, e, subst (λ x. DateText x d) (sym w) (read_back.date d valid (carried d e)))
