use Rattle.std.proofs.Common.{◌≡◌, length, sym, subst, arith}
use Rattle.std.specs.Prelude.{IfOk}
use Rattle.std.specs.Option.{MatchOption}
use Rattle.rasn_schema.specs.Reals.{IsRealOctets}
use Rattle.rasn_schema.proofs.RealNumbers.{head_split}
use Rattle.rasn_schema.proofs.RealMade.{empty_octets}
use Rattle.rasn_schema.proofs.real.canonical_real.Goals as goal

pub returns-in-empty : goal.returns-in-empty
returns-in-empty c = let n : length c.args.contents.now ≡ 0 = omega arith in empty_octets c.args.contents.now c.new.result.items n c.new.ensures.items

pub returns-in-len1-up : goal.returns-in-len1-up
returns-in-len1-up c =
    subst (λ l. IfOk c.canonical_after.result (λ found. MatchOption found ((octets : _) → IsRealOctets l octets → ⊥) (λ v. IsRealOctets l v.items)))
    (sym (head_split c.args.contents.now c.in-len1-up.len_at_least)) c.canonical_after.ensures
