use Rattle.std.proofs.Common.{Err, refl}
use Rattle.rasn_types.specs.Shapes.{prefix, one_tag, looked_for}
use Rattle.rasn_de.specs.Decodes.{Decodes}
use Rattle.rasn_de.specs.Prefix.{DecodesPrefixBy}
use Rattle.rasn_de.specs.Optional.{no_look, no_read}
use Rattle.rasn_de.proofs.Constructed.Optional.{default_decodes, parsed_out, parsed_there, or_made, unless_default, unless_beyond, unless_rules}
use Rattle.rasn_de.proofs.OwnTypes.Parts.{call_keeps}
use Rattle.rasn_de.specs.Beyond.{got, BeyondPrefix}
use Rattle.rasn_de.proofs.Constructed.Beyond.{default_beyond}
use Rattle.rasn_de.proofs.Leaves.Returns.{residual, also_shaped}
use Rattle.rasn_de.proofs.Leaves.Rules.{look_rules, made_rules}
use Rattle.rasn_de.proofs.ber.de.Decoder.decode_default_with_explicit_prefix.Goals as goal

pub returns-in_err-next_tag_is : goal.returns-in_err-next_tag_is
returns-in_err-next_tag_is g c =
    rw (residual _ c.from_residual.ensures.1) (also_shaped (default_decodes (prefix c.args.tag g.D.AsnType.shape) g.D.AsnType.tree (goal.F-post g c.args.default) c.args.tag c.args.self.now (Err c.in_err-next_tag_is.field-0.0) _) (no_look c.in_err-next_tag_is.ensures refl) tt (look_rules (one_tag (looked_for c.args.tag)) c.args.self.now _ c.in_err-next_tag_is.ensures)
    (no_look c.in_err-next_tag_is.ensures refl))

pub returns-then-not-branch : goal.returns-then-not-branch
returns-then-not-branch g c =
    let t = parsed_out (one_tag (looked_for c.args.tag)) c.args.self.now c.in_ok-next_tag_is.field-0 c.if-not-branch.true c.in_ok-next_tag_is.ensures in
    also_shaped (default_decodes (prefix c.args.tag g.D.AsnType.shape) g.D.AsnType.tree (goal.F-post g c.args.default) c.args.tag c.args.self.now _ _) (or_made (DecodesPrefixBy g.D.AsnType.shape g.D.AsnType.tree (g.D.Decode.errors g.D.AsnType.TAG g.D.AsnType.CONSTRAINTS) c.args.tag) g.D.AsnType.tree (goal.F-post g c.args.default) (one_tag (looked_for c.args.tag)) c.args.self.now _ t c.default_value.ensures) (default_beyond (BeyondPrefix (got (g.D.Decode.beyond g.D.AsnType.TAG)) c.args.tag) c.args.self.now _) (made_rules (goal.F-post g c.args.default) c.args.self.now _ c.default_value.ensures)
    (or_made (Decodes (prefix c.args.tag g.D.AsnType.shape) g.D.AsnType.tree) g.D.AsnType.tree (goal.F-post g c.args.default) (one_tag (looked_for c.args.tag)) c.args.self.now _ t c.default_value.ensures)

pub returns-in_err-value : goal.returns-in_err-value
returns-in_err-value g c =
    let t = parsed_there (one_tag (looked_for c.args.tag)) c.args.self.now c.in_ok-next_tag_is.field-0 c.if-not-branch.false c.in_ok-next_tag_is.ensures in
    rw (residual _ c.from_residual-in_err-value.ensures.1) (also_shaped (default_decodes (prefix c.args.tag g.D.AsnType.shape) g.D.AsnType.tree (goal.F-post g c.args.default) c.args.tag c.args.self.now (Err c.in_err-value.field-0.0) _) (no_read t c.in_err-value.ensures.exact) tt c.in_err-value.ensures.rules
    (no_read t c.in_err-value.ensures.reads))

pub returns : goal.returns
returns g c =
    let tags = one_tag (looked_for c.args.tag) in
    let t = parsed_there tags c.args.self.now c.in_ok-next_tag_is.field-0 c.if-not-branch.false c.in_ok-next_tag_is.ensures in
    let k = call_keeps c.in_ok-value.ensures.reads in
    let is = c.unless_default.ensures in
    also_shaped (default_decodes (prefix c.args.tag g.D.AsnType.shape) g.D.AsnType.tree (goal.F-post g c.args.default) c.args.tag c.args.self.now _ _)
    (unless_default (DecodesPrefixBy g.D.AsnType.shape g.D.AsnType.tree (g.D.Decode.errors g.D.AsnType.TAG g.D.AsnType.CONSTRAINTS) c.args.tag) g.D.AsnType.tree (goal.F-post g c.args.default) tags c.args.self.now _ _ _ t c.in_ok-value.ensures.exact k is)
    (unless_beyond g.D.AsnType.tree (goal.F-post g c.args.default) _ _ (BeyondPrefix (got (g.D.Decode.beyond g.D.AsnType.TAG)) c.args.tag) c.args.self.now _ is c.in_ok-value.ensures.beyond)
    (unless_rules g.D.AsnType.tree (goal.F-post g c.args.default) _ _ c.args.self.now _ k is)
    (unless_default (Decodes (prefix c.args.tag g.D.AsnType.shape) g.D.AsnType.tree) g.D.AsnType.tree (goal.F-post g c.args.default) tags c.args.self.now _ _ _ t c.in_ok-value.ensures.reads k is)
