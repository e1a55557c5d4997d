use Rattle.std.proofs.Common.{ap, ◌∙◌, refl}
use Rattle.rasn_de.specs.State.{State}
use Rattle.rasn_c.proofs.skipping.skip.Goals as goal

pub returns-in-Ok : goal.returns-in-Ok
returns-in-Ok c =
    let e = c.in-Ok.ensures.exact in
    let whole = ap {A = State} (λ s. s.whole) e.1 ∙ ap {A = State} (λ s. s.whole) c.new-decoder.ensures in (
      c.in-Some.rule,
      c.in-Some.ensures,
      record {
        rest = c.skip_value.new.self.rest;
        consumed = rw whole at c.decoded_len.ensures;
        is = rw (c.new-decoder.ensures, c.of.ensures) at e.0;
      },
    )

pub returns-in-Err : goal.returns-in-Err
returns-in-Err c =
    let e = c.in-Err.ensures.exact in
    (c.in-Some.rule, c.in-Some.ensures, (e.0, rw (c.new-decoder.ensures, c.of.ensures) at e.1), refl)
