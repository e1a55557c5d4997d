use Rattle.std.proofs.Common.{[]}
use Rattle.rasn_types.specs.Tags.{form, in_universal}
use Rattle.rasn_de.specs.declared.ber.de.parser.headers.Expected.TheVariants.{Tagged}
use Rattle.rasn_de.specs.Segments.{octets}
use Rattle.rasn_de.proofs.Headers.Frames.{spelled_by}
use Rattle.rasn_de.proofs.Strings.Ends.{octets_end}
use Rattle.rasn_de.proofs.Strings.Seen.{parts_seen}
use Rattle.rasn_de.proofs.Strings.SeenTimes.{time_taken, other_untaken}
use Rattle.rasn_de.proofs.ber.de.Decoder.take_time.Goals as goal

pub advance-requires : goal.advance-requires
advance-requires g c =
    let h = spelled_by (form c.self.inside.rules) _ c.of_rule.ensures (Tagged c.args.tag) c.self.inside.rest.now _ c.in-Ok.ensures.exact in
    let e = c.in-Ok-string_contents.ensures.exact in
    rw (← c.self.view_is) (octets_end c.self.inside.rules c.self.inside.depth c.args.tag c.self.inside.rest.now c.in-Ok.ensures.octets e.0 _
    (parts_seen c.self.inside.rules octets (in_universal 4) c.self.inside.depth c.args.tag c.self.inside.rest.now _ h _ e.1))

pub returns-then-is_time-clause-exact : goal.returns-then-is_time-clause-exact
returns-then-is_time-clause-exact g c =
    let h = spelled_by (form c.self.inside.rules) _ c.of_rule.ensures (Tagged c.args.tag) c.self.inside.rest.now _ c.in-Ok.ensures.exact in
    let e = c.in-Ok-string_contents.ensures.exact in
    let k = c.if-is_time.ensures in
    time_taken g.T.TimeText.means c.args.tag c.args.self.now _ c.in-Ok-string_contents.rest.now e.0 _ k.1
    (rw (← c.self.view_is) (parts_seen c.self.inside.rules octets (in_universal 4) c.self.inside.depth c.args.tag c.self.inside.rest.now _ h _ e.1)) ((e.2 [] c.new-text.ensures).1 k.0) (rw (← c.self.view_is) k.2) c.advance.ensures

pub returns-else-is_time-clause-exact : goal.returns-else-is_time-clause-exact
returns-else-is_time-clause-exact g c =
    let h = spelled_by (form c.self.inside.rules) _ c.of_rule.ensures (Tagged c.args.tag) c.self.inside.rest.now _ c.in-Ok.ensures.exact in
    let e = c.in-Ok-string_contents.ensures.exact in
    let text = c.string_contents.new.out in
    other_untaken g.T.TimeText.means c.args.tag c.args.self.now c.in-Ok-string_contents.rest.now e.0 text.octets text.len
    (rw (← c.self.view_is) (parts_seen c.self.inside.rules octets (in_universal 4) c.self.inside.depth c.args.tag c.self.inside.rest.now _ h _ e.1)) (e.2 [] c.new-text.ensures) (rw (← c.self.view_is) c.if-is_time.ensures)
