use Rattle.std.proofs.Common.{◌-◌, length}
use Rattle.rasn_de.specs.Segments.{octets_inside, segment_at, without_memory}
use Rattle.rasn_de.proofs.Strings.Segments.{Gathering}
use Rattle.rasn_de.proofs.Strings.Bare.{BareTo}
use Rattle.rasn_de.specs.ParserViews.{extent}
use Rattle.rasn_de.proofs.ber.de.parser.segments.+string_contents.Given as goal

abbrev pub decreases-string_contents : goal.decreases-string_contents
decreases-string_contents g l = l.depth

abbrev pub invariant-segments : goal.invariant-segments
invariant-segments g l =
    Gathering (segment_at l.rule (g.T.Segmented.segment l.rule) l.tag (l.depth - 1)) (octets_inside (extent l.value.contents) l.rest) l.left (g.T.Segmented.has_seen l.fn.out) (g.T.Segmented.has_seen l.out)
    × BareTo (segment_at l.rule (without_memory (g.T.Segmented.segment l.rule)) l.tag (l.depth - 1)) (octets_inside (extent l.value.contents) l.rest) l.left

abbrev pub decreases-segments : goal.decreases-segments
decreases-segments g l = length l.left
