use Rattle.std.proofs.Common.{◌≡◌, rules, suc, arith, true, false, inl, inr, refl, ◌∙◌}
use Rattle.rasn_types.specs.Shapes.{required}
use Rattle.rasn_types.specs.Shapes.Parts.{none}
use Rattle.rasn_de.proofs.OwnTypes.Parts.{refused}
use Rattle.rasn_de.proofs.OwnTypes.AlternativeTypes.{first_has, others_have_not, own_tag, other_tag, first_got, first_refused, others_read, none_read}
use Rattle.rasn_de.proofs.Leaves.Returns.{residual}
use Rattle.rasn_de.proofs.ber.de.alternatives.LastDecodeAlternatives.decode_alternative.Goals as goal

pub returns-in_err-value-clause-reads : goal.returns-in_err-value-clause-reads
returns-in_err-value-clause-reads g c =
    let own = first_has g.A.AsnType.shape g.A.AsnType.TAG none true c.requires.differ in
    let others = others_have_not g.A.AsnType.shape g.A.AsnType.TAG none true c.requires.differ in
    let i = c.if-eq.ensures in let j = c.eq.ensures in let t = c.TAG.ensures in let q = c.if-eq.true in
    let h : c.args.tag ≡ g.A.AsnType.TAG = first_of (search rules, search (rules, i, t), grind (arith, i, j, t, q)) in
    record { from = λ k. refused _ _ _ c.from_residual.ensures.1 (first_refused required _ _ _ _ h own others _ _ c.requires.next _ c.in_err-value.ensures.reads k) }

pub returns-then-eq-clause-reads : goal.returns-then-eq-clause-reads
returns-then-eq-clause-reads g c =
    let own = first_has g.A.AsnType.shape g.A.AsnType.TAG none true c.requires.differ in
    let others = others_have_not g.A.AsnType.shape g.A.AsnType.TAG none true c.requires.differ in
    let h : c.args.tag ≡ g.A.AsnType.TAG = search rules in
    record { from = λ k. first_got required _ _ _ _ h own others _ _ c.requires.next _ c.in_ok-value.ensures.reads k }

pub returns-clause-reads : goal.returns-clause-reads
returns-clause-reads g c =
    let own = first_has g.A.AsnType.shape g.A.AsnType.TAG none true c.requires.differ in
    let h : c.args.tag ≡ g.A.AsnType.TAG → ⊥ = search rules in
    record { from = λ k. others_read _ _ _ _ _ h own _ _ c.requires.next false k _ (none_read (suc k) _) }

pub returns-in_err-value-clause-fails : goal.returns-in_err-value-clause-fails
returns-in_err-value-clause-fails g c =
    let i = c.if-eq.ensures in let j = c.eq.ensures in let t = c.TAG.ensures in let q = c.if-eq.true in
    let h : c.args.tag ≡ g.A.AsnType.TAG = first_of (search rules, search (rules, i, t), grind (arith, i, j, t, q)) in
    rw (residual _ c.from_residual.ensures.1) (inl (own_tag g.A.AsnType.shape c.args.tag g.A.AsnType.TAG h (first_has g.A.AsnType.shape g.A.AsnType.TAG none true c.requires.differ), c.in_err-value.ensures.reads))

pub returns-clause-fails : goal.returns-clause-fails
returns-clause-fails g c =
    let h : c.args.tag ≡ g.A.AsnType.TAG → ⊥ = search rules in
    inr (other_tag g.A.AsnType.shape c.args.tag g.A.AsnType.TAG h (first_has g.A.AsnType.shape g.A.AsnType.TAG none true c.requires.differ), (rw (← c.codec.ensures) c.no_valid_choice.ensures, refl))

pub returns-clause-rules : goal.returns-clause-rules
returns-clause-rules g c = c.no_valid_choice.ensures.0 ∙ c.codec.ensures

pub returns-in_err-value-clause-errors : goal.returns-in_err-value-clause-errors
returns-in_err-value-clause-errors g c =
    let i = c.if-eq.ensures in let j = c.eq.ensures in let t = c.TAG.ensures in let q = c.if-eq.true in
    let h : c.args.tag ≡ g.A.AsnType.TAG = first_of (search rules, search (rules, i, t), grind (arith, i, j, t, q)) in
    rw (residual _ c.from_residual.ensures.1) (inl (h, c.in_err-value.ensures.errors))

pub returns-clause-errors : goal.returns-clause-errors
returns-clause-errors g c =
    let h : c.args.tag ≡ g.A.AsnType.TAG → ⊥ = search rules in
    inr (h, tt)
