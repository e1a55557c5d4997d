use Rattle.std.proofs.Common.{rules}
use Rattle.std.proofs.lemmas.Result.{on_ok_weaker}
use Rattle.rasn_enc.proofs.Buffer.Contents.{primitive_appended}
use Rattle.rasn_enc.proofs.ber.enc.writer.contents.append_primitive.Goals as goal

pub returns-clause-ok : goal.returns-clause-ok
returns-clause-ok g c = on_ok_weaker c.append_reserved.result (primitive_appended (g.T.Contents.IsWritten c.args.contents.now) c.args.tag c.count-count.result _ _ _ _ (search rules) (search rules)
    c.count-count.ensures (rw c.is_always_constructed.ensures at (rw c.reserve.ensures.items at c.write_identifier.ensures.items)) c.write_length.ensures.items) c.append_reserved.ensures.ok
