use Rattle.rasn_json.proofs.ReadBack.{means_the_same, gives_the_octets}
use Rattle.rasn_json.proofs.laws.read_back.Goals as goal

pub returns-clause-same : goal.returns-clause-same
returns-clause-same c = means_the_same

pub returns-clause-octets : goal.returns-clause-octets
returns-clause-octets c = gives_the_octets
