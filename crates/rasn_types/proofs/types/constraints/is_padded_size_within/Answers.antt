use Rattle.std.proofs.lemmas.Bool.Decides.{leb_tells}
use Rattle.rasn_types.proofs.PaddedSize.{single_padded, open_padded, low_end, range_padded}
use Rattle.rasn_types.proofs.types.constraints.is_padded_size_within.Goals as goal

pub returns-in-Single : goal.returns-in-Single
returns-in-Single c = single_padded c.args.bounded _ c.in-Single.only c.args.size c.in-Single.is (leb_tells c.args.size c.in-Single.only)

pub returns-in-None-end : goal.returns-in-None-end
returns-in-None-end c = open_padded c.args.bounded c.in-Range.start c.in-Range.end c.args.size c.in-Range.is c.in-None-end.is

pub returns-then-size-high : goal.returns-then-size-high
returns-then-size-high c =
    range_padded c.args.bounded c.in-Range.start c.in-Range.end c.in-Some.high c.args.size c.in-Range.is c.in-Some.is _ c.unwrap_or.result
    (low_end c.in-Range.start c.unwrap_or.result c.unwrap_or.ensures) c.if-size-high.true (leb_tells c.unwrap_or.result c.in-Some.high)
