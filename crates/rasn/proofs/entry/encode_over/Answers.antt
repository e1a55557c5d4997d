use Rattle.rasn_enc.proofs.Buffer.Output.{output_ok, output_refused}
use Rattle.rasn.proofs.entry.encode_over.Goals as goal

pub returns-clause-ok : goal.returns-clause-ok
returns-clause-ok g c = output_ok _ g.T.AsnType.shape (g.T.AsnType.tree c.args.value.now) _ _ c.over-encoder.ensures c.in_ok-encode.ensures.ok _ c.output.ensures.ok

pub returns-clause-fails : goal.returns-clause-fails
returns-clause-fails g c = output_refused _ g.T.AsnType.shape (g.T.AsnType.tree c.args.value.now) _ _ c.over-encoder.ensures c.in_ok-encode.ensures.ok _ c.output.ensures.fails
