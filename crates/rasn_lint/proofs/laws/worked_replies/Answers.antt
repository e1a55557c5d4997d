use Rattle.rasn_lint.proofs.WorkedReplies.{worked_replies}
use Rattle.rasn_lint.proofs.laws.worked_replies.Goals as goal

pub returns : goal.returns
returns c = worked_replies
