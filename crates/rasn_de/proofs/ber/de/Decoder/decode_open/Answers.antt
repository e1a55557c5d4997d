use Rattle.std.proofs.Common.{rules, Ok, Err}
use Rattle.rasn_de.proofs.Any.Reads.{borrowed_decodes}
use Rattle.rasn_de.proofs.Leaves.Memory.{borrowed_plain}
use Rattle.rasn_de.proofs.ber.de.Decoder.decode_open.Goals as goal

pub returns-in-Ok-clause-reads : goal.returns-in-Ok-clause-reads
returns-in-Ok-clause-reads c = borrowed_decodes c.args.tag c.args.self.now _ (Ok c.in-Ok.octets) (search rules)

pub returns-in-Err-clause-reads : goal.returns-in-Err-clause-reads
returns-in-Err-clause-reads c = borrowed_decodes c.args.tag c.args.self.now _ (Err c.error.result) (search rules)

pub returns-in-Err-clause-memory : goal.returns-in-Err-clause-memory
returns-in-Err-clause-memory c = borrowed_plain c.args.tag c.args.self.now c.args.self.now c.error.result (search rules)
