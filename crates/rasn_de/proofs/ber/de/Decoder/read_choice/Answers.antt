use Rattle.std.proofs.Common.{Err, inl, refl}
use Rattle.rasn_types.specs.Shapes.{choice_by, chosen}
use Rattle.rasn_de.proofs.Leaves.Returns.{residual}
use Rattle.rasn_de.proofs.Constructed.ValueErrors.{errors_by_tag}
use Rattle.rasn_de.proofs.Constructed.Choice.{choice_by_decodes}
use Rattle.rasn_de.proofs.OwnTypes.AlternativeTypes.{numbered_decodes, alternative_decodes, no_next_tag}
use Rattle.rasn_de.proofs.Leaves.Rules.{peek_rules}
use Rattle.rasn_de.proofs.ber.de.Decoder.read_choice.Goals as goal

pub returns-in_err-tag : goal.returns-in_err-tag
returns-in_err-tag g c =
    let ps = g.P.DecodeAlternatives.parts in
    let extensible = g.P.DecodeAlternatives.extensible in
    rw (residual _ c.from_residual.ensures.1) (record {
      exact = no_next_tag extensible ps (λ v. chosen (g.P.DecodeAlternatives.number v) (g.P.DecodeAlternatives.inner v)) _ c.args.self.now c.in_err-tag.field-0.0 c.in_err-tag.ensures.exact;
      reads = choice_by_decodes extensible (choice_by extensible ps) ps refl (λ v. chosen (g.P.DecodeAlternatives.number v) (g.P.DecodeAlternatives.inner v)) c.args.self.now (Err c.in_err-tag.field-0.0) c.args.self.now (inl (c.in_err-tag.ensures.exact, refl));
      errors = inl (c.in_err-tag.ensures.exact, refl);
      beyond = tt;
      rules = peek_rules c.args.self.now _ c.in_err-tag.ensures.exact;
    })

pub returns : goal.returns
returns g c =
    let k = numbered_decodes g.P.DecodeAlternatives.extensible _ _ _ _ _ _ c.decode_alternative.ensures.reads in
    record {
      exact = alternative_decodes g.P.DecodeAlternatives.extensible _ _ _ c.in_ok-tag.tag _ _ _ c.in_ok-tag.ensures.next k c.decode_alternative.ensures.fails;
      reads = k;
      errors = errors_by_tag g.P.DecodeAlternatives.errors c.in_ok-tag.tag _ _ c.decode_alternative.result c.in_ok-tag.ensures.next c.decode_alternative.ensures.errors;
      beyond = c.decode_alternative.ensures.beyond;
      rules = c.decode_alternative.ensures.rules;
    }
