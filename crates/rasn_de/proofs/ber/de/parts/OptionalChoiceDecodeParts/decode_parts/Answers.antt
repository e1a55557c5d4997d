use Rattle.rasn_de.proofs.OwnTypes.Parts.{refused, part_refused, after_part_refused, part_got}
use Rattle.std.proofs.Common.{inl, inr, ◌∙◌}
use Rattle.rasn_types.specs.Shapes.{IsFirst, any_of}
use Rattle.rasn_de.proofs.Constructed.ValueErrors.{sought_failed}
use Rattle.rasn_de.proofs.Leaves.Returns.{residual}
use Rattle.rasn_de.proofs.Leaves.Rules.{same_rules}
use Rattle.rasn_de.proofs.ber.de.parts.OptionalChoiceDecodeParts.decode_parts.Goals as goal

pub returns-in_err-value-clause-reads : goal.returns-in_err-value-clause-reads
returns-in_err-value-clause-reads g c = refused _ _ _ c.from_residual.ensures.1 (part_refused _ _ _ _ c.in_err-value.ensures.reads)

pub returns-in_err-rest-clause-reads : goal.returns-in_err-rest-clause-reads
returns-in_err-rest-clause-reads g c = refused _ _ _ c.from_residual-in_err-rest.ensures.1
    (after_part_refused _ _ _ _ c.in_ok-value.ensures.reads c.in_err-rest.ensures.reads)

pub returns-clause-reads : goal.returns-clause-reads
returns-clause-reads g c = part_got _ _ _ c.in_ok-value.ensures.reads c.in_ok-rest.ensures.reads

pub returns-in_err-value-clause-fails : goal.returns-in_err-value-clause-fails
returns-in_err-value-clause-fails g c = rw (residual _ c.from_residual.ensures.1) (inl (sought_failed g.A.AsnType.shape g.A.AsnType.tree (g.A.Decode.errors g.A.AsnType.TAG g.A.AsnType.CONSTRAINTS) (any_of (IsFirst g.A.AsnType.shape)) c.args.decoder.now c.in_err-value.field-0.0 _ c.in_err-value.ensures.exact))

pub returns-in_err-rest-clause-fails : goal.returns-in_err-rest-clause-fails
returns-in_err-rest-clause-fails g c =
    rw (residual _ c.from_residual-in_err-rest.ensures.1) (inr (_, _, c.in_ok-value.ensures.reads, c.in_err-rest.ensures.fails))

pub returns-in_err-rest-clause-rules : goal.returns-in_err-rest-clause-rules
returns-in_err-rest-clause-rules g c =
    rw (residual _ c.from_residual-in_err-rest.ensures.1) (c.in_err-rest.ensures.rules ∙ (same_rules c.in_ok-value.ensures.reads.stays))

pub returns-clause-beyond : goal.returns-clause-beyond
returns-clause-beyond g c = (_, c.in_ok-value.ensures.reads, c.in_ok-value.ensures.beyond, c.in_ok-rest.ensures.beyond)

pub returns-in_err-value-clause-errors : goal.returns-in_err-value-clause-errors
returns-in_err-value-clause-errors g c = rw (residual _ c.from_residual.ensures.1) (inl c.in_err-value.ensures.exact)

pub returns-in_err-rest-clause-errors : goal.returns-in_err-rest-clause-errors
returns-in_err-rest-clause-errors g c =
    rw (residual _ c.from_residual-in_err-rest.ensures.1) (inr (_, _, c.in_ok-value.ensures.reads, c.in_err-rest.ensures.errors))
