use Rattle.std.proofs.Common.{sym, subst}
use Rattle.std.specs.Option.{MatchOption}
use Rattle.rasn_schema.specs.RealParts.{IsCut, IsNoCut}
use Rattle.rasn_schema.proofs.RealNumbers.{head_split}
use Rattle.rasn_schema.proofs.real_binary.cut.Goals as goal

pub returns-in-len1-up : goal.returns-in-len1-up
returns-in-len1-up c =
    subst (λ z. MatchOption c.long_cut.result (IsNoCut c.args.form z) (λ r. IsCut c.args.form z r.0.now r.1.now)) (sym (head_split c.args.octets.now c.in-len1-up.len_at_least)) c.long_cut.ensures
