use Rattle.rasn_c.proofs.encoding.first_encoding.Goals as goal

pub returns-in-Err : goal.returns-in-Err
returns-in-Err c =
    let e = c.in-Err.ensures.exact in
    (e.0, rw (c.new-decoder.ensures, c.of.ensures) at e.1)
