use Rattle.std.proofs.Common.{refl}
use Rattle.rasn_enc.proofs.Constructed.Enclosed.{inner, enclosed, dropped, enclosing_refused}
use Rattle.rasn_enc.proofs.ber.enc.Encoder.enclose.Goals as goal

pub close-requires : goal.close-requires
close-requires g c = (inner g.F.FnOnce c.args.contents c.args.keeps_tags c.args.self.now c.args.self.now _ _ _ c.run-outcome.result refl c.in_ok-open.ensures.ok c.run-outcome.ensures refl c.requires.keeps).some

pub returns-clause-ok : goal.returns-clause-ok
returns-clause-ok g c = enclosed _ _ _ _ _ _ _ (inner g.F.FnOnce c.args.contents c.args.keeps_tags c.args.self.now c.args.self.now _ _ _ c.run-outcome.result refl c.in_ok-open.ensures.ok c.run-outcome.ensures refl c.requires.keeps) _ c.args.tag c.close.ensures.accepted c.close.ensures.ok

pub returns-clause-err : goal.returns-clause-err
returns-clause-err g c = dropped _ c.run-outcome.new.encoder _ (inner g.F.FnOnce c.args.contents c.args.keeps_tags c.args.self.now c.args.self.now _ _ _ c.run-outcome.result refl c.in_ok-open.ensures.ok c.run-outcome.ensures refl c.requires.keeps).below _ c.close.ensures.err

pub returns-clause-refused : goal.returns-clause-refused
returns-clause-refused g c = enclosing_refused _ _ _ _ _ c.close.new.self _ (inner g.F.FnOnce c.args.contents c.args.keeps_tags c.args.self.now c.args.self.now _ _ _ c.run-outcome.result refl c.in_ok-open.ensures.ok c.run-outcome.ensures refl c.requires.keeps) _ c.close.ensures.refused
