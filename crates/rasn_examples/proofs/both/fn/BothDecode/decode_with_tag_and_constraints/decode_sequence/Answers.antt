use Rattle.std.proofs.Common.{rules, inl, inr}
use Rattle.rasn_de.proofs.OwnTypes.Parts.{refused, part_refused, after_part_refused, part_got, no_parts}
use Rattle.rasn_de.proofs.Leaves.Returns.{residual}
use Rattle.rasn_de.proofs.Leaves.Rules.{after}
use Rattle.rasn_examples.proofs.BothErrors.{first_fails, second_fails}
use Rattle.rasn_examples.proofs.both.fn.BothDecode.decode_with_tag_and_constraints.decode_sequence.Goals as goal

pub returns-in_err-first : goal.returns-in_err-first
returns-in_err-first g c = record {
  reads = refused _ _ _ c.from_residual.ensures.1 (part_refused _ _ _ _ c.in_err-first.ensures.reads);
  beyond = rw (residual _ c.from_residual.ensures.1) tt;
  rules = search rules;
  exact = rw (residual _ c.from_residual.ensures.1) (first_fails g.A.AsnType.shape g.B.AsnType.shape g.A.AsnType.tree g.B.AsnType.tree (g.A.Decode.errors g.A.AsnType.TAG g.A.AsnType.CONSTRAINTS) (g.B.Decode.errors g.B.AsnType.TAG g.B.AsnType.CONSTRAINTS) _ _ _ c.in_err-first.ensures.reads c.in_err-first.ensures.errors);
}

pub returns-in_err-second : goal.returns-in_err-second
returns-in_err-second g c = record {
  reads = refused _ _ _ c.from_residual-in_err-second.ensures.1 (after_part_refused _ _ _ _ c.in_ok-first.ensures.reads (part_refused _ _ _ _ c.in_err-second.ensures.reads));
  beyond = rw (residual _ c.from_residual-in_err-second.ensures.1) tt;
  rules = rw (residual _ c.from_residual-in_err-second.ensures.1) (after c.in_ok-first.ensures.reads c.in_err-second.ensures.rules);
  exact = rw (residual _ c.from_residual-in_err-second.ensures.1) (second_fails g.A.AsnType.shape g.B.AsnType.shape g.A.AsnType.tree g.B.AsnType.tree (g.A.Decode.errors g.A.AsnType.TAG g.A.AsnType.CONSTRAINTS) (g.B.Decode.errors g.B.AsnType.TAG g.B.AsnType.CONSTRAINTS) _ _ _ _ _ c.in_ok-first.ensures.reads c.in_err-second.ensures.reads c.in_err-second.ensures.errors);
}

pub returns : goal.returns
returns g c =
    let reads = part_got _ _ _ c.in_ok-first.ensures.reads (part_got _ _ _ c.in_ok-second.ensures.reads no_parts) in
    record { reads = reads; beyond = (_, (c.in_ok-first.ensures.reads, c.in_ok-first.ensures.beyond), (c.in_ok-second.ensures.reads, c.in_ok-second.ensures.beyond)); rules = tt; exact = reads }
