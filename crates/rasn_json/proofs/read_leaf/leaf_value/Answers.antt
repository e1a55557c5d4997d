use Rattle.std.proofs.Common.{◌≡◌, sym, ap, ◌∙◌, subst}
use Rattle.rasn_types.specs.BitString.{significant}
use Rattle.rasn_types.specs.CowBits.{cow_bits}
use Rattle.rasn_types.proofs.BitString.Significant.{significant_once}
use Rattle.rasn_schema.specs.Fitting.{BitsFit}
use Rattle.rasn_json.proofs.read_leaf.leaf_value.Goals as goal

pub returns-in_ok-named_bits-in-NamedBits-clause-fits : goal.returns-in_ok-named_bits-in-NamedBits-clause-fits
returns-in_ok-named_bits-in-NamedBits-clause-fits c =
    let h = c.in_ok-named_bits-in-NamedBits.ensures in
    subst (λ k. BitsFit k (cow_bits c.in_ok-named_bits-in-NamedBits.field-0)) (sym c.in-NamedBits.is) (ap significant h.2 ∙ (significant_once h.0 ∙ sym h.2))
