use Rattle.std.proofs.Common.{◌≡◌, sym, subst}
use Rattle.rasn_schema.specs.Trees.{tree_of}
use Rattle.rasn_schema.specs.declared.value.Value.{Items}
use Rattle.rasn_schema.specs.Statics.{static_tree}
use Rattle.rasn_schema.proofs.Copied.{empty_made}
use Rattle.rasn_schema.proofs.constants.made.value_of.Goals as goal

pub returns-in-Empty : goal.returns-in-Empty
returns-in-Empty c = subst (λ v. tree_of (Items c.new.result) ≡ static_tree v) (sym c.in-Empty.is) (empty_made c.new.result c.new.ensures.items)
