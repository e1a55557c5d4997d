use Rattle.std.proofs.Common.{◌≡◌, Ok}
use Rattle.rasn_de.specs.Segments.{end_at}
use Rattle.rasn_de.specs.ParserViews.{extent}
use Rattle.rasn_de.proofs.Constructed.Opening.{closed_end, closes_ok}
use Rattle.rasn_de.proofs.ber.de.Decoder.close.Goals as goal

pub advance-requires : goal.advance-requires
advance-requires c =
    let e : end_at (extent c.args.contents) c.args.self.now.rest c.args.left.now ≡ Ok c.in-Ok.rest.now = rw (← c.self.view_is) c.in-Ok.ensures in
    closed_end (extent c.args.contents) c.args.self.now.rest c.args.left.now _ c.requires e

pub returns-in-Ok : goal.returns-in-Ok
returns-in-Ok c =
    let e : end_at (extent c.args.contents) c.args.self.now.rest c.args.left.now ≡ Ok c.in-Ok.rest.now = rw (← c.self.view_is) c.in-Ok.ensures in
    closes_ok (extent c.args.contents) c.args.left.now c.args.self.now _ _ c.requires e c.advance.ensures
