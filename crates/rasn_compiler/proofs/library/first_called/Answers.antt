use Rattle.std.proofs.Common.{◌<◌, length, sym}
use Rattle.std.proofs.lemmas.Option.{slice_get_within, slice_get-get_or}
use Rattle.rasn_compiler.proofs.library.first_called.Goals as goal

pub returns : goal.returns
returns c =
    let p = c.in_ok-index.ensures.0 in
    let l = c.args.roots.now in
    let i = c.in_ok-index.index in
    let within : i < length l = slice_get_within l i p.0 (sym p.1) in
    (i, sym (slice_get-get_or l i _ within), c.in_ok-index.ensures)
