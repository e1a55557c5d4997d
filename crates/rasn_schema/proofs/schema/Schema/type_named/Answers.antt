use Rattle.rasn_schema.proofs.NamedTypes.{named_in}
use Rattle.rasn_schema.proofs.schema.Schema.type_named.Goals as goal

pub returns-in-Some : goal.returns-in-Some
returns-in-Some c = named_in c.type_named.result c.in-Some.names c.deref.result.now c.args.name.now c.args.self.now.names c.in-Some.is c.deref.ensures.value c.type_named.ensures
