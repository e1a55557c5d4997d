use Rattle.std.proofs.Common.{refl, sym, subst, inr}
use Rattle.rasn_types.specs.declared.types.codec.Codec.TheVariants.{Ber}
use Rattle.rasn_types.specs.Framing.{NextTag}
use Rattle.rasn_types.specs.Tags.{form, eoc}
use Rattle.rasn_de.specs.State.{State}
use Rattle.rasn_c.proofs.LeafTags.{begins}
use Rattle.rasn_c.proofs.extent.first_tag.Goals as goal

pub returns-in_default : goal.returns-in_default
returns-in_default c =
    let e = begins Ber c.of.result c.args.octets.now c.new-decoder.result c.of.ensures c.new-decoder.ensures in
    record {
      tag = eoc;
      found = inr (λ t h. c.in_default.ensures.next t (subst (λ (z : State). NextTag (form z.rule) z.rest t) (sym e) h), refl, refl);
      class_is = refl;
      number_is = refl;
    }
