use Rattle.std.proofs.Common.{refl}
use Rattle.rasn_c.proofs.Checked.{refused_at}
use Rattle.rasn_c.proofs.checking.unread_stop.Goals as goal

pub returns-in-Some : goal.returns-in-Some
returns-in-Some c = refused_at _ _ _ _ c.in-Some.refusal c.of_refusal.result c.in-Some.ensures _ refl c.of_refusal.ensures
