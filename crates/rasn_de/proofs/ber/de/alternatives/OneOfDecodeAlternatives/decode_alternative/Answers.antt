use Rattle.std.proofs.Common.{◌≡◌, rules, suc, arith, inl, inr}
use Rattle.rasn_types.specs.Shapes.{required}
use Rattle.rasn_de.proofs.OwnTypes.Parts.{refused}
use Rattle.rasn_de.proofs.OwnTypes.AlternativeTypes.{first_has, others_have_not, others_differ, own_tag, other_tag, first_got, first_refused, others_read, others_got, first_known, first_fails_by, others_fail_by}
use Rattle.rasn_de.proofs.Leaves.Returns.{residual}
use Rattle.rasn_de.proofs.ber.de.alternatives.OneOfDecodeAlternatives.decode_alternative.Goals as goal

pub decode_alternative-requires-clause-differ : goal.decode_alternative-requires-clause-differ
decode_alternative-requires-clause-differ g c = others_differ g.A.AsnType.shape g.A.AsnType.TAG g.R.DecodeAlternatives.parts g.R.DecodeAlternatives.tags_differ c.requires.differ

pub returns-in_err-value-clause-reads : goal.returns-in_err-value-clause-reads
returns-in_err-value-clause-reads g c =
    let own = first_has g.A.AsnType.shape g.A.AsnType.TAG g.R.DecodeAlternatives.parts g.R.DecodeAlternatives.tags_differ c.requires.differ in
    let others = others_have_not g.A.AsnType.shape g.A.AsnType.TAG g.R.DecodeAlternatives.parts g.R.DecodeAlternatives.tags_differ c.requires.differ in
    let i = c.if-eq.ensures in let j = c.eq.ensures in let t = c.TAG.ensures in let q = c.if-eq.true in
    let h : c.args.tag ≡ g.A.AsnType.TAG = first_of (search rules, search (rules, i, t), grind (arith, i, j, t, q)) in
    record { from = λ k. refused _ _ _ c.from_residual.ensures.1 (first_known required _ _ _ _ h own others g.R.DecodeAlternatives.extensible _ _ _ c.requires.next k (first_refused required _ _ _ _ h own others _ _ c.requires.next _ c.in_err-value.ensures.reads k)) }

pub returns-then-eq-clause-reads : goal.returns-then-eq-clause-reads
returns-then-eq-clause-reads g c =
    let own = first_has g.A.AsnType.shape g.A.AsnType.TAG g.R.DecodeAlternatives.parts g.R.DecodeAlternatives.tags_differ c.requires.differ in
    let others = others_have_not g.A.AsnType.shape g.A.AsnType.TAG g.R.DecodeAlternatives.parts g.R.DecodeAlternatives.tags_differ c.requires.differ in
    let h : c.args.tag ≡ g.A.AsnType.TAG = search rules in
    record { from = λ k. first_known required _ _ _ _ h own others g.R.DecodeAlternatives.extensible _ _ _ c.requires.next k (first_got required _ _ _ _ h own others _ _ c.requires.next _ c.in_ok-value.ensures.reads k) }

pub returns-in_err-other-clause-reads : goal.returns-in_err-other-clause-reads
returns-in_err-other-clause-reads g c =
    let own = first_has g.A.AsnType.shape g.A.AsnType.TAG g.R.DecodeAlternatives.parts g.R.DecodeAlternatives.tags_differ c.requires.differ in
    let h : c.args.tag ≡ g.A.AsnType.TAG → ⊥ = search rules in
    record { from = λ k. refused _ _ _ c.from_residual-in_err-other.ensures.1 (others_read _ _ _ _ _ h own _ _ c.requires.next g.R.DecodeAlternatives.extensible k _ (c.in_err-other.ensures.reads.from (suc k))) }

pub returns-clause-reads : goal.returns-clause-reads
returns-clause-reads g c =
    let own = first_has g.A.AsnType.shape g.A.AsnType.TAG g.R.DecodeAlternatives.parts g.R.DecodeAlternatives.tags_differ c.requires.differ in
    let h : c.args.tag ≡ g.A.AsnType.TAG → ⊥ = search rules in
    record { from = λ k. others_got _ _ _ _ _ h own _ _ c.requires.next g.R.DecodeAlternatives.extensible k _ _ (c.in_ok-other.ensures.reads.from (suc k)) }

pub returns-in_err-value-clause-fails : goal.returns-in_err-value-clause-fails
returns-in_err-value-clause-fails g c =
    let i = c.if-eq.ensures in let j = c.eq.ensures in let t = c.TAG.ensures in let q = c.if-eq.true in
    let h : c.args.tag ≡ g.A.AsnType.TAG = first_of (search rules, search (rules, i, t), grind (arith, i, j, t, q)) in
    rw (residual _ c.from_residual.ensures.1) (first_fails_by g.R.DecodeAlternatives.extensible required g.A.AsnType.shape g.R.DecodeAlternatives.parts _ c.args.tag _ _ _ (own_tag g.A.AsnType.shape c.args.tag g.A.AsnType.TAG h (first_has g.A.AsnType.shape g.A.AsnType.TAG g.R.DecodeAlternatives.parts g.R.DecodeAlternatives.tags_differ c.requires.differ)) c.in_err-value.ensures.reads)

pub returns-in_err-other-clause-fails : goal.returns-in_err-other-clause-fails
returns-in_err-other-clause-fails g c =
    let own = first_has g.A.AsnType.shape g.A.AsnType.TAG g.R.DecodeAlternatives.parts g.R.DecodeAlternatives.tags_differ c.requires.differ in
    let h : c.args.tag ≡ g.A.AsnType.TAG → ⊥ = search rules in
    rw (residual _ c.from_residual-in_err-other.ensures.1) (others_fail_by g.R.DecodeAlternatives.extensible required g.A.AsnType.shape g.R.DecodeAlternatives.parts _ c.args.tag _ _ _ (other_tag g.A.AsnType.shape c.args.tag g.A.AsnType.TAG h (first_has g.A.AsnType.shape g.A.AsnType.TAG g.R.DecodeAlternatives.parts g.R.DecodeAlternatives.tags_differ c.requires.differ)) c.in_err-other.ensures.fails)

pub returns-in_err-value-clause-errors : goal.returns-in_err-value-clause-errors
returns-in_err-value-clause-errors g c =
    let i = c.if-eq.ensures in let j = c.eq.ensures in let t = c.TAG.ensures in let q = c.if-eq.true in
    let h : c.args.tag ≡ g.A.AsnType.TAG = first_of (search rules, search (rules, i, t), grind (arith, i, j, t, q)) in
    rw (residual _ c.from_residual.ensures.1) (inl (h, c.in_err-value.ensures.errors))

pub returns-in_err-other-clause-errors : goal.returns-in_err-other-clause-errors
returns-in_err-other-clause-errors g c =
    let h : c.args.tag ≡ g.A.AsnType.TAG → ⊥ = search rules in
    rw (residual _ c.from_residual-in_err-other.ensures.1) (inr (h, c.in_err-other.ensures.errors))
