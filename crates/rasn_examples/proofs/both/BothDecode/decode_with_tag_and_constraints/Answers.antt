use Rattle.std.proofs.Common.{subst, sym, inl, inr, true≢false}
use Rattle.rasn_de.specs.Constructed.{sequence_header}
use Rattle.rasn_de.specs.Beyond.{Held, BeyondInside}
use Rattle.rasn_de.proofs.OwnTypes.Beyond.{read_inside, ok_then}
use Rattle.rasn_de.specs.PartTypes.{DecodesInParts}
use Rattle.rasn_examples.specs.Both.{both_parts, both_tree, both_inside, both_part_errors}
use Rattle.rasn_examples.proofs.BothErrors.{inside_fails}
use Rattle.rasn_examples.proofs.both.BothDecode.decode_with_tag_and_constraints.Goals as goal

pub returns-clause-beyond : goal.returns-clause-beyond
returns-clause-beyond g c =
    let inside = both_inside (Held g.A.AsnType.shape g.A.AsnType.tree (g.A.Decode.beyond g.A.AsnType.TAG)) (Held g.B.AsnType.shape g.B.AsnType.tree (g.B.Decode.beyond g.B.AsnType.TAG)) in
    let header = sequence_header c.args.tag in
    ok_then (BeyondInside inside header c.args.decoder.now) c.decode_sequence.result (read_inside _ header c.args.decoder.now c.decode_sequence.result _ c.decode_sequence.ensures.exact)
    (λ v k. (k.0, k.1, k.2, elim k.3 [ inl a ↦ absurd a.1 | inr b ↦ subst (λ z. inside _ v z) b.1.leaves (subst (λ z. inside z v b.1.left.now) b.1.shows b.1.met.1.0) ]))

pub returns-clause-errors : goal.returns-clause-errors
returns-clause-errors g c =
    let read = DecodesInParts (both_parts g.A.AsnType.shape g.B.AsnType.shape) (both_tree g.A.AsnType.tree g.B.AsnType.tree)
    (both_part_errors g.A.AsnType.shape g.B.AsnType.shape (g.A.Decode.errors g.A.AsnType.TAG g.A.AsnType.CONSTRAINTS) (g.B.Decode.errors g.B.AsnType.TAG g.B.AsnType.CONSTRAINTS)) in
    inside_fails _ read (sequence_header c.args.tag) (λ o r n k. elim k [ inl a ↦ absurd (true≢false (sym a.0)) | inr b ↦ subst (λ z. read _ r z) b.1.leaves (subst (λ z. read z r b.1.left.now) b.1.shows b.1.met.1.1.1) ]) c.args.decoder.now c.decode_sequence.result _ c.decode_sequence.ensures.exact
