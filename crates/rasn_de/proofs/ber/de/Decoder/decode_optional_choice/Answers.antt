use Rattle.std.proofs.Common.{Some, None, Ok, Err, inl, inr, refl}
use Rattle.rasn_types.specs.Shapes.{IsFirst, any_of}
use Rattle.rasn_de.proofs.Constructed.Optional.{parsed_out, parsed_there}
use Rattle.rasn_de.proofs.Constructed.ValueErrors.{sought_or}
use Rattle.rasn_de.proofs.Leaves.Returns.{residual, also_beyond}
use Rattle.rasn_de.proofs.Leaves.Rules.{look_rules}
use Rattle.rasn_de.proofs.ber.de.Decoder.decode_optional_choice.Goals as goal

pub returns-in_err-next_is : goal.returns-in_err-next_is
returns-in_err-next_is g c =
    let tags = any_of (IsFirst g.D.AsnType.shape) in
    rw (residual _ c.from_residual.ensures.1)
    (also_beyond (sought_or g.D.AsnType.shape g.D.AsnType.tree (g.D.Decode.errors g.D.AsnType.TAG g.D.AsnType.CONSTRAINTS) tags c.args.self.now (Err c.in_err-next_is.field-0.0) _) tt (look_rules tags c.args.self.now _ c.in_err-next_is.ensures) (inl (c.in_err-next_is.ensures, refl)))

pub returns-then-not-branch : goal.returns-then-not-branch
returns-then-not-branch g c =
    let tags = any_of (IsFirst g.D.AsnType.shape) in
    also_beyond (sought_or g.D.AsnType.shape g.D.AsnType.tree (g.D.Decode.errors g.D.AsnType.TAG g.D.AsnType.CONSTRAINTS) tags c.args.self.now (Ok None) _) refl tt
    (parsed_out tags c.args.self.now c.in_ok-next_is.field-0 c.if-not-branch.true c.in_ok-next_is.ensures, refl)

pub returns-in_err-value : goal.returns-in_err-value
returns-in_err-value g c =
    let tags = any_of (IsFirst g.D.AsnType.shape) in
    rw (residual _ c.from_residual-in_err-value.ensures.1)
    (also_beyond (sought_or g.D.AsnType.shape g.D.AsnType.tree (g.D.Decode.errors g.D.AsnType.TAG g.D.AsnType.CONSTRAINTS) tags c.args.self.now (Err c.in_err-value.field-0.0) _) tt c.in_err-value.ensures.rules
    (inr (parsed_there tags c.args.self.now c.in_ok-next_is.field-0 c.if-not-branch.false c.in_ok-next_is.ensures, (c.in_err-value.ensures.reads, c.in_err-value.ensures.errors))))

pub returns : goal.returns
returns g c =
    let tags = any_of (IsFirst g.D.AsnType.shape) in
    also_beyond (sought_or g.D.AsnType.shape g.D.AsnType.tree (g.D.Decode.errors g.D.AsnType.TAG g.D.AsnType.CONSTRAINTS) tags c.args.self.now (Ok (Some c.in_ok-value.value)) _) c.in_ok-value.ensures.beyond tt
    (parsed_there tags c.args.self.now c.in_ok-next_is.field-0 c.if-not-branch.false c.in_ok-next_is.ensures, (c.in_ok-value.ensures.reads, tt))
