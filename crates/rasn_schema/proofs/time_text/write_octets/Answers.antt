use Rattle.std.proofs.Common.{◌≡◌, ◌+◌, ◌++◌, take, sym, ap, ◌∙◌, rules, arith}
use Rattle.std.specs.Str.{encode_utf8_all}
use Rattle.std.specs.Char.{encode_utf8}
use Rattle.std.proofs.Output.{has_written_append, has_written_of_eq}
use Rattle.rasn_schema.proofs.LeafTexts.{octets_more}
use Rattle.rasn_schema.proofs.time_text.write_octets.Goals as goal

pub loop-octet-preserved : goal.loop-octet-preserved
loop-octet-preserved g c = λ p.
    let l = c.args.octets.now in
    let i = c.loop-octet.octet-index in
    let e : encode_utf8_all (take i l) ++ encode_utf8 c.from.result ≡ encode_utf8_all (take (i + 1) l) =
    ap (λ x. encode_utf8_all (take i l) ++ encode_utf8 x) c.from.ensures ∙ sym (octets_more l i (omega arith)) in
    has_written_of_eq _ _ _ _ _ e (has_written_append _ _ _ _ (encode_utf8 c.from.result) _ (c.loop-octet.invariant p) (search rules))
