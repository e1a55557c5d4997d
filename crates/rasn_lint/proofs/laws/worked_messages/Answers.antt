use Rattle.rasn_lint.proofs.WorkedMessages.{worked_messages}
use Rattle.rasn_lint.proofs.laws.worked_messages.Goals as goal

pub returns : goal.returns
returns c = worked_messages
