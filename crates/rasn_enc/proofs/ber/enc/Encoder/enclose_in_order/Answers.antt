use Rattle.std.proofs.Common.{refl, true}
use Rattle.rasn_enc.proofs.Constructed.Enclosed.{inner, dropped, enclosed_in_order, enclosing_in_order_refused}
use Rattle.rasn_enc.proofs.ber.enc.Encoder.enclose_in_order.Goals as goal

pub close-requires : goal.close-requires
close-requires g c = (inner g.F.FnOnce c.args.contents true c.args.self.now c.args.self.now _ _ _ c.run-outcome.result refl c.in_ok-open.ensures.ok c.run-outcome.ensures refl c.requires.keeps).some

pub returns-clause-ok : goal.returns-clause-ok
returns-clause-ok g c = enclosed_in_order _ _ _ _ _ _ (inner g.F.FnOnce c.args.contents true c.args.self.now c.args.self.now _ _ _ c.run-outcome.result refl c.in_ok-open.ensures.ok c.run-outcome.ensures refl c.requires.keeps) _ _ c.args.tag c.in_order-ordered.ensures.ok c.close.ensures.accepted c.close.ensures.ok

pub returns-clause-err : goal.returns-clause-err
returns-clause-err g c = dropped _ c.run-outcome.new.encoder _ (inner g.F.FnOnce c.args.contents true c.args.self.now c.args.self.now _ _ _ c.run-outcome.result refl c.in_ok-open.ensures.ok c.run-outcome.ensures refl c.requires.keeps).below _ c.close.ensures.err

pub returns-clause-refused : goal.returns-clause-refused
returns-clause-refused g c = enclosing_in_order_refused _ _ _ _ c.close.new.self _ (inner g.F.FnOnce c.args.contents true c.args.self.now c.args.self.now _ _ _ c.run-outcome.result refl c.in_ok-open.ensures.ok c.run-outcome.ensures refl c.requires.keeps) _ _ c.in_order-ordered.ensures.refused c.close.ensures.refused
