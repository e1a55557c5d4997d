use Rattle.std.proofs.Common.{Some, None, Ok, Err, inl, inr, refl}
use Rattle.rasn_types.specs.Shapes.{prefix, one_tag, looked_for}
use Rattle.rasn_de.proofs.Constructed.Optional.{perhaps_decodes, parsed_out, parsed_there}
use Rattle.rasn_de.proofs.Leaves.Returns.{residual}
use Rattle.rasn_de.proofs.Leaves.Rules.{look_rules}
use Rattle.rasn_de.proofs.ber.de.Decoder.decode_optional_with_explicit_prefix.Goals as goal

pub returns-in_err-next_tag_is : goal.returns-in_err-next_tag_is
returns-in_err-next_tag_is g c =
    rw (residual _ c.from_residual.ensures.1) (record {
      exact = inl (c.in_err-next_tag_is.ensures, refl);
      reads = perhaps_decodes (prefix c.args.tag g.D.AsnType.shape) g.D.AsnType.tree c.args.tag c.args.self.now (Err c.in_err-next_tag_is.field-0.0) _ (inl (c.in_err-next_tag_is.ensures, refl));
      beyond = tt;
      rules = look_rules (one_tag (looked_for c.args.tag)) c.args.self.now _ c.in_err-next_tag_is.ensures;
    })

pub returns-then-not-branch : goal.returns-then-not-branch
returns-then-not-branch g c =
    let k = parsed_out (one_tag (looked_for c.args.tag)) c.args.self.now c.in_ok-next_tag_is.field-0 c.if-not-branch.true c.in_ok-next_tag_is.ensures in
    record { exact = (k, refl); reads = perhaps_decodes (prefix c.args.tag g.D.AsnType.shape) g.D.AsnType.tree c.args.tag c.args.self.now (Ok None) _ (k, refl); beyond = refl; rules = tt }

pub returns-in_err-value : goal.returns-in_err-value
returns-in_err-value g c =
    let k = parsed_there (one_tag (looked_for c.args.tag)) c.args.self.now c.in_ok-next_tag_is.field-0 c.if-not-branch.false c.in_ok-next_tag_is.ensures in
    rw (residual _ c.from_residual-in_err-value.ensures.1) (record {
      exact = inr (k, c.in_err-value.ensures.exact);
      reads = perhaps_decodes (prefix c.args.tag g.D.AsnType.shape) g.D.AsnType.tree c.args.tag c.args.self.now (Err c.in_err-value.field-0.0) _ (inr (k, c.in_err-value.ensures.reads));
      beyond = tt;
      rules = c.in_err-value.ensures.rules;
    })

pub returns : goal.returns
returns g c =
    let k = parsed_there (one_tag (looked_for c.args.tag)) c.args.self.now c.in_ok-next_tag_is.field-0 c.if-not-branch.false c.in_ok-next_tag_is.ensures in
    record { exact = (k, c.in_ok-value.ensures.exact); reads = perhaps_decodes (prefix c.args.tag g.D.AsnType.shape) g.D.AsnType.tree c.args.tag c.args.self.now (Ok (Some c.in_ok-value.value)) _ (k, c.in_ok-value.ensures.reads); beyond = c.in_ok-value.ensures.beyond; rules = tt }
