use Rattle.std.proofs.Common.{List, ℕ}
use Rattle.rasn_schema.specs.Named.{IsNamed}
use Rattle.rasn_schema.specs.declared.type_id.TypeId.{TypeId}
use Rattle.rasn_compiler.proofs.resolver.emit.push_names.Given as goal

abbrev pub invariant-loop-index : goal.invariant-loop-index
invariant-loop-index l = (other : List ℕ) (id : TypeId) → IsNamed l.initial.names.items other id → IsNamed l.names.items other id
