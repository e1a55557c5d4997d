use Rattle.rasn_types.specs.declared.types.codec.Codec.TheVariants.{Ber, Cer, Der}
use Rattle.rasn_c.proofs.Checked.{checked_by}
use Rattle.rasn_c.proofs.checking.check_by.Goals as goal

pub returns-in-Der : goal.returns-in-Der
returns-in-Der c = checked_by c.args.schema.now c.args.rule c.args.open_types c.args.octets.now c.in_ok-asked.asked.schema c.in_ok-asked.asked.root c.in_ok-asked.asked.rule Der c.in_ok-asked.ensures c.in-Der.is c.check_der.result c.check_der.ensures

pub returns-in-Ber : goal.returns-in-Ber
returns-in-Ber c = checked_by c.args.schema.now c.args.rule c.args.open_types c.args.octets.now c.in_ok-asked.asked.schema c.in_ok-asked.asked.root c.in_ok-asked.asked.rule Ber c.in_ok-asked.ensures c.in-Ber.is c.check_whole.result c.check_whole.ensures

pub returns : goal.returns
returns c = checked_by c.args.schema.now c.args.rule c.args.open_types c.args.octets.now c.in_ok-asked.asked.schema c.in_ok-asked.asked.root c.in_ok-asked.asked.rule Cer c.in_ok-asked.ensures c.in-Cer.is c.check_whole-in-Cer.result c.check_whole-in-Cer.ensures
