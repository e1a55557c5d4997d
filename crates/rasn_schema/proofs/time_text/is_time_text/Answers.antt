use Rattle.std.proofs.Common.{◌≡◌, ◌≢◌, [], length, take, not, sym, subst, arith}
use Rattle.std.specs.Prelude.{All}
use Rattle.rasn_types.specs.Truth.{IsWhether}
use Rattle.rasn_types.specs.Contents.{IsTimeCharacter}
use Rattle.rasn_schema.proofs.RealTexts.{time_told}
use Rattle.rasn_schema.proofs.time_text.is_time_text.Goals as goal

pub returns : goal.returns
returns c =
    let l = c.args.octets.now in
    let e : c.loop-octet.octet-index ≡ length l = omega arith in
    let a : All IsTimeCharacter (take (length l) l) = subst (λ n. All IsTimeCharacter (take n l)) e c.loop-octet.invariant in
    subst (λ b. IsWhether (not b) ((l ≢ []) × All IsTimeCharacter l)) (sym c.is_empty.ensures) (time_told l a)
