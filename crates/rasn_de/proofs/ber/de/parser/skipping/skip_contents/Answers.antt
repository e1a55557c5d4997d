use Rattle.std.proofs.Common.{◌≡◌, suc, ◌-◌, arith}
use Rattle.rasn_de.proofs.Headers.Results.{octets_all}
use Rattle.rasn_de.proofs.Any.Skipping.{passing_start, passing_at, passing_end, passing_close, passing_unparsable, passing_header, octets_left, header_smaller}
use Rattle.rasn_de.proofs.Headers.Extents.{extent_open, extent_definite}
use Rattle.rasn_de.proofs.Leaves.Returns.{residual}
use Rattle.rasn_de.proofs.ber.de.parser.skipping.skip_contents.Goals as goal
use Rattle.rasn_de.proofs.ber.de.parser.skipping.skip_contents.Goals.{in-Indefinite, in_default-contents}

pub values-init : goal.values-init
values-init c = passing_start c.args.rule c.args.input.now

pub returns-then-open-eq0-clause-exact : goal.returns-then-open-eq0-clause-exact
returns-then-open-eq0-clause-exact c =
    passing_end c.args.rule c.args.input.now c.values.turns c.in-Some.after.now
    (passing_at c.args.rule c.args.input.now c.values.open c.values.turns c.values.rest.now 0 _ c.values.invariant c.if-open-eq0.true c.in-Some.ensures)

pub values-preserved-in-Some : goal.values-preserved-in-Some
values-preserved-in-Some c =
    let e : c.values.open ≡ suc (c.values.open - 1) = let h = c.if-open-eq0.false in omega arith in
    passing_close c.args.rule c.args.input.now (c.values.open - 1) c.values.turns c.in-Some.after.now
    (passing_at c.args.rule c.args.input.now c.values.open c.values.turns c.values.rest.now _ _ c.values.invariant e c.in-Some.ensures)

pub returns-in_err-value-clause-exact : goal.returns-in_err-value-clause-exact
returns-in_err-value-clause-exact c =
    rw (residual _ c.from_residual.ensures.1) (passing_unparsable c.args.rule c.args.input.now c.values.open c.values.turns c.values.rest.now _
    (octets_left c.args.rule c.args.input.now c.values.open c.values.turns c.values.rest.now (octets_all c.args.input.now (λ i. omega (arith, c.type_inv.input i))) c.values.invariant)
    c.in_err-value.ensures.exact c.in_default.ensures c.values.invariant)

pub values-smaller : goal.values-smaller
values-smaller c =
    header_smaller c.args.rule c.values.rest.now _
    (octets_left c.args.rule c.args.input.now c.values.open c.values.turns c.values.rest.now (octets_all c.args.input.now (λ i. omega (arith, c.type_inv.input i))) c.values.invariant)
    c.in_ok-value.ensures.exact

pub values-preserved : goal.values-preserved
values-preserved c =
    let r = passing_header c.args.rule c.args.input.now c.values.open c.values.turns c.values.rest.now _ (octets_all c.args.input.now (λ i. omega (arith, c.type_inv.input i))) c.values.invariant c.in_ok-value.ensures.exact in
    elim c.match-value.branch [
      | in-Indefinite w ↦ rw w.open-is (r.0 (extent_open _ w.in-Indefinite.is))
      | in_default-contents w ↦ rw w.open-is (r.1 (extent_definite _ w.in_default-contents.not-Indefinite))
    ]
