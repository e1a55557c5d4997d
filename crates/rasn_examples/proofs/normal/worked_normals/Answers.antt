use Rattle.rasn_examples.proofs.WorkedNormals.{worked_normals as law}
use Rattle.rasn_examples.proofs.normal.worked_normals.Goals as goal

pub returns : goal.returns
returns c = law
