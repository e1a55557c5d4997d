use Rattle.std.proofs.lemmas.Result.{on_ok_weaker}
use Rattle.rasn_types.specs.Bytes.{WrittenBits}
use Rattle.rasn_enc.proofs.Leaves.Segments.{appends_piece}
use Rattle.rasn_enc.proofs.ber.enc.Encoder.append_bits.Goals as goal

pub returns-clause-ok : goal.returns-clause-ok
returns-clause-ok c = on_ok_weaker c.leaf.result (λ p. appends_piece WrittenBits c.args.tag c.args.value.now p.0 _ _ p.1 p.2) c.leaf.ensures.ok
