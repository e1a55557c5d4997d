use Rattle.std.proofs.Common.{◌≡◌, ◌<◌, ℕ, inl, sym, subst}
use Rattle.rasn_types.specs.Shapes.{Same}
use Rattle.rasn_schema.specs.declared.types.Presence.{Presence}
use Rattle.rasn_schema.specs.declared.types.Presence.TheVariants.{Default}
use Rattle.rasn_schema.specs.declared.value.Value.{Value}
use Rattle.rasn_schema.specs.Trees.{tree_of}
use Rattle.rasn_schema.specs.Shapes.{presence_of}
use Rattle.rasn_schema.specs.Equals.{same_itself}
use Rattle.rasn_schema.specs.Fitting.{IsLeftOutAs, ComponentFits, Fits}
use Rattle.rasn_json.proofs.Levels.{if_ok, or_ok}
use Rattle.rasn_json.proofs.reader.absent_value.Goals as goal

default_left : (p : Presence) (v d : Value) → p ≡ Default d → tree_of v ≡ tree_of d → IsLeftOutAs (presence_of p) (tree_of v)
default_left p v d e t = subst (λ q. IsLeftOutAs (presence_of q) (tree_of v)) (sym e) (subst (Same (tree_of v)) t (same_itself v))

pub returns-in-Default-clause-fits : goal.returns-in-Default-clause-fits
returns-in-Default-clause-fits c =
    let P : Value → Type 0 = λ v. (levels : ℕ) → 0 < levels → ComponentFits (Fits c.args.types.now levels) c.args.component.now v in
    or_ok P c.or_memory.result c.kept.result c.kept.ensures.ok (or_ok P c.try_clone.result c.or_memory.result c.or_memory.ensures.ok
    (if_ok _ _ c.try_clone.result (λ v e. λ levels some. inl (default_left c.args.component.now.presence v _ c.in-Default.is e)) c.try_clone.ensures.means))
