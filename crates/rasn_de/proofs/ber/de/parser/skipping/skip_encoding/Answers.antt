use Rattle.std.proofs.Common.{◌<◌, length, ap, arith}
use Rattle.std.proofs.lemmas.Result.{IfOk-weaker}
use Rattle.rasn_de.proofs.Headers.Results.{octets_all}
use Rattle.rasn_de.proofs.Any.Skipping.{skipped_refused, skipped_plain, skipped_open, header_smaller}
use Rattle.rasn_de.specs.Skipping.{passed}
use Rattle.rasn_de.specs.ParserViews.{header, extent}
use Rattle.rasn_de.proofs.Leaves.Returns.{residual}
use Rattle.rasn_de.proofs.ber.de.parser.skipping.skip_encoding.Goals as goal

pub returns-in_err-value-clause-exact : goal.returns-in_err-value-clause-exact
returns-in_err-value-clause-exact c =
    rw (residual _ c.from_residual.ensures.1) (skipped_refused c.args.rule c.args.input.now _ (octets_all c.args.input.now (λ i. omega (arith, c.type_inv.input i))) c.in_err-value.ensures.exact)

pub returns-in-Definite-clause-exact : goal.returns-in-Definite-clause-exact
returns-in-Definite-clause-exact c =
    skipped_plain c.args.rule c.args.input.now (header (c.in_ok-value.value, c.in_ok-value.rest)) c.in-Definite.field-0.now (octets_all c.args.input.now (λ i. omega (arith, c.type_inv.input i))) c.in_ok-value.ensures.exact (ap extent c.in-Definite.is)

pub returns-in-Definite-clause-half : goal.returns-in-Definite-clause-half
returns-in-Definite-clause-half c =
    let h : length c.in_ok-value.rest.now < length c.args.input.now =
    header_smaller c.args.rule c.args.input.now (header (c.in_ok-value.value, c.in_ok-value.rest)) (octets_all c.args.input.now (λ i. omega (arith, c.type_inv.input i))) c.in_ok-value.ensures.exact in
    omega arith

pub returns-in-Indefinite-clause-exact : goal.returns-in-Indefinite-clause-exact
returns-in-Indefinite-clause-exact c =
    skipped_open c.args.rule c.args.input.now (header (c.in_ok-value.value, c.in_ok-value.rest)) (passed c.skip_contents.result) (octets_all c.args.input.now (λ i. omega (arith, c.type_inv.input i))) c.in_ok-value.ensures.exact (ap extent c.in-Indefinite.is) c.skip_contents.ensures.exact

pub returns-in-Indefinite-clause-half : goal.returns-in-Indefinite-clause-half
returns-in-Indefinite-clause-half c =
    let h : length c.in_ok-value.rest.now < length c.args.input.now =
    header_smaller c.args.rule c.args.input.now (header (c.in_ok-value.value, c.in_ok-value.rest)) (octets_all c.args.input.now (λ i. omega (arith, c.type_inv.input i))) c.in_ok-value.ensures.exact in
    IfOk-weaker c.skip_contents.result _ _ (λ p k. omega arith) c.skip_contents.ensures.half
