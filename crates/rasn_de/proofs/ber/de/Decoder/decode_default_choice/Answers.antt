use Rattle.std.proofs.Common.{Err, refl}
use Rattle.rasn_types.specs.Shapes.{first_tags, IsFirst, any_of}
use Rattle.rasn_de.specs.ValueErrors.{DecodesOr}
use Rattle.rasn_de.specs.Optional.{no_look, no_read}
use Rattle.rasn_de.proofs.Constructed.Optional.{parsed_out, parsed_there, or_made, unless_default, unless_beyond, unless_rules}
use Rattle.rasn_de.proofs.Constructed.ValueErrors.{sought_default_or}
use Rattle.rasn_de.proofs.OwnTypes.Parts.{call_keeps}
use Rattle.rasn_de.specs.Beyond.{got}
use Rattle.rasn_de.proofs.Constructed.Beyond.{default_beyond}
use Rattle.rasn_de.proofs.Leaves.Returns.{residual, also_beyond}
use Rattle.rasn_de.proofs.Leaves.Rules.{look_rules, made_rules}
use Rattle.rasn_de.proofs.ber.de.Decoder.decode_default_choice.Goals as goal

pub returns-in_err-next_is : goal.returns-in_err-next_is
returns-in_err-next_is g c =
    rw (residual _ c.from_residual.ensures.1) (also_beyond (sought_default_or g.D.AsnType.shape g.D.AsnType.tree (g.D.Decode.errors g.D.AsnType.TAG g.D.AsnType.CONSTRAINTS) first_tags (goal.F-post g c.args.default) (any_of (IsFirst g.D.AsnType.shape)) c.args.self.now (Err c.in_err-next_is.field-0.0) _) tt (look_rules (any_of (IsFirst g.D.AsnType.shape)) c.args.self.now _ c.in_err-next_is.ensures)
    (no_look c.in_err-next_is.ensures refl))

pub returns-then-not-branch : goal.returns-then-not-branch
returns-then-not-branch g c =
    also_beyond (sought_default_or g.D.AsnType.shape g.D.AsnType.tree (g.D.Decode.errors g.D.AsnType.TAG g.D.AsnType.CONSTRAINTS) first_tags (goal.F-post g c.args.default) (any_of (IsFirst g.D.AsnType.shape)) c.args.self.now _ _) (default_beyond (got (g.D.Decode.beyond g.D.AsnType.TAG)) c.args.self.now _) (made_rules (goal.F-post g c.args.default) c.args.self.now _ c.default_value.ensures)
    (or_made (DecodesOr g.D.AsnType.shape g.D.AsnType.tree (g.D.Decode.errors g.D.AsnType.TAG g.D.AsnType.CONSTRAINTS)) g.D.AsnType.tree (goal.F-post g c.args.default) (any_of (IsFirst g.D.AsnType.shape)) c.args.self.now _
    (parsed_out (any_of (IsFirst g.D.AsnType.shape)) c.args.self.now c.in_ok-next_is.field-0 c.if-not-branch.true c.in_ok-next_is.ensures) c.default_value.ensures)

pub returns-in_err-value : goal.returns-in_err-value
returns-in_err-value g c =
    rw (residual _ c.from_residual-in_err-value.ensures.1) (also_beyond (sought_default_or g.D.AsnType.shape g.D.AsnType.tree (g.D.Decode.errors g.D.AsnType.TAG g.D.AsnType.CONSTRAINTS) first_tags (goal.F-post g c.args.default) (any_of (IsFirst g.D.AsnType.shape)) c.args.self.now (Err c.in_err-value.field-0.0) _) tt c.in_err-value.ensures.rules
    (no_read (parsed_there (any_of (IsFirst g.D.AsnType.shape)) c.args.self.now c.in_ok-next_is.field-0 c.if-not-branch.false c.in_ok-next_is.ensures) (c.in_err-value.ensures.reads, c.in_err-value.ensures.errors)))

pub returns : goal.returns
returns g c =
    let t = parsed_there (any_of (IsFirst g.D.AsnType.shape)) c.args.self.now c.in_ok-next_is.field-0 c.if-not-branch.false c.in_ok-next_is.ensures in
    let k = call_keeps c.in_ok-value.ensures.reads in
    let is = c.unless_default.ensures in
    also_beyond (sought_default_or g.D.AsnType.shape g.D.AsnType.tree (g.D.Decode.errors g.D.AsnType.TAG g.D.AsnType.CONSTRAINTS) first_tags (goal.F-post g c.args.default) (any_of (IsFirst g.D.AsnType.shape)) c.args.self.now _ _)
    (unless_beyond g.D.AsnType.tree (goal.F-post g c.args.default) _ _ (got (g.D.Decode.beyond g.D.AsnType.TAG)) c.args.self.now _ is c.in_ok-value.ensures.beyond)
    (unless_rules g.D.AsnType.tree (goal.F-post g c.args.default) _ _ c.args.self.now _ k is)
    (unless_default (DecodesOr g.D.AsnType.shape g.D.AsnType.tree (g.D.Decode.errors g.D.AsnType.TAG g.D.AsnType.CONSTRAINTS)) g.D.AsnType.tree (goal.F-post g c.args.default) (any_of (IsFirst g.D.AsnType.shape)) c.args.self.now _ _ _
    t (c.in_ok-value.ensures.reads, tt) k is)
