-- The laws.
use Rattle.std.proofs.Common.{◌≡◌, ◌⊎◌, inl, inr, ℕ, List, [], ◌++◌, false, subst, append-nil, arith}
use Rattle.rasn_types.specs.declared.types.codec.Codec.TheVariants.{Der}
use Rattle.rasn_types.specs.Shapes.{Tree, Shape, IsAlwaysPresent}
use Rattle.rasn_types.specs.Grammar.{Reads, top}
use Rattle.rasn_types.specs.Bytes.{Same, Bytes}
use Rattle.rasn_types.specs.Carried.{Carried}
use Rattle.rasn_types.specs.Lawful.{IsLawful}
use Rattle.rasn.specs.Headline.{Identify}
use Rattle.rasn.specs.Laws.{OneReading, Included, ReadAgain, Canonical, WrittenOnce, ListedAlike, OneEncoding, EncodingSteps}
use Rattle.rasn_types.proofs.Encoding.Complete.{whole_one, whole_text_one, steps_twice}
pub use Rattle.rasn.proofs.OneReading.Shapes.{one_leaf, one_open, one_prefix, one_choice, one_open_choice, one_option, one_sequence, one_set, one_sorted_set, one_sequence_of, one_set_of, one_unknown}
use Rattle.rasn_types.proofs.SetOf.Same.{same_sym, same_trans}
use Rattle.rasn_types.proofs.Encoding.SameOctets.{once}
use Rattle.rasn_types.proofs.Encoding.Listed.{set_written_sorted, sorted_written_listed}
use Rattle.rasn_types.proofs.SortedSets.{set_sorted, sorted_listed}
use Rattle.rasn.proofs.OneReading.Shapes.{reads_one}
use Rattle.rasn.proofs.Included.IntoBer.{IsOptional, solid_of, included as into_ber}
use Rattle.rasn.proofs.ReadBack.Shapes.{carried_back, back}

pub one_reading : OneReading
one_reading s lawful rule depth closing input t u rest other h k = reads_one s lawful rule depth closing input t u rest other h k

pub included : Included
included s lawful rule depth input t rest h = into_ber s lawful rule depth input t rest h

pub read_again : ReadAgain
read_again s lawful rule t c = go (solid_of s lawful)
  where
    go : IsAlwaysPresent s ⊎ IsOptional s → (u : Tree) × Same t u × Reads rule s 128 (top rule) c.octets u []
        × (IsAlwaysPresent s → (rest : List ℕ) → Reads rule s 128 (top rule) (c.octets ++ rest) u rest)
    go (inl solid) =
        let r = back s solid lawful rule 128 t c.octets c.within_limits c.is in
        (r.0, r.1, subst (λ i. Reads rule s 128 (top rule) i r.0 []) (append-nil c.octets) (r.2 [] (top rule)), λ h rest. r.2 rest (top rule))
    go (inr (tag, v, e, solid)) =
        let r = carried_back s lawful rule t c (top rule) in
        (r.0, r.1, r.2, λ h rest. absurd (subst IsAlwaysPresent e h))

pub written_once : WrittenOnce
written_once s rule t u a b same h k = once s rule t u a b same h k

same_of : (s : Shape) → IsLawful s → (t u : Tree) (c : Carried Der s t) (d : Carried Der s u) → c.octets ≡ d.octets → Same t u
same_of s lawful t u c d e =
    let r = carried_back s lawful Der t c false in
    let w = carried_back s lawful Der u d false in
    let one = reads_one s lawful Der 128 false d.octets r.0 w.0 [] [] (subst (λ i. Reads Der s 128 false i r.0 []) e r.2) w.2 in
    same_trans t w.0 u (subst (Same t) one.0 r.1) (same_sym u w.0 w.1)

pub canonical : Canonical
canonical s lawful t u c d = (λ h. once s Der t u c.octets d.octets h c.is d.is, same_of s lawful t u c d)

pub identify : (s : Shape) (t : Tree) (octets : List ℕ) → Bytes Der s t octets → Identify s t octets
identify s t octets is lawful within_limits u c = canonical s lawful t u (record { octets = octets; is = is; within_limits = within_limits }) c

pub listed_alike : ListedAlike
unfolding IsLawful
listed_alike rule tag ps lawful = (
  λ depth closing input t rest. (set_sorted rule tag ps depth closing input t rest, sorted_listed rule tag ps depth closing input t rest),
  λ t b. (set_written_sorted rule tag ps lawful.1 t b, sorted_written_listed rule tag ps lawful.1 t b),
)

pub one_encoding : OneEncoding
one_encoding rule other a b x y v w e = let o = whole_one x y v w e in (whole_text_one x y v w e, o.0, o.1)

pub turns : EncodingSteps
turns rule text w = let t = steps_twice w in omega arith
