use Rattle.std.proofs.Common.{sym, subst, ℕ, List}
use Rattle.rasn_types.specs.declared.types.codec.Codec.{Codec}
use Rattle.rasn_schema.specs.declared.types.«Type».{«Type»}
use Rattle.rasn_schema.specs.Shapes.{shape_of_type, IsReadable}
use Rattle.rasn_schema.specs.Schemas.{HaveFitDefaults}
use Rattle.rasn_schema.specs.Depth.{AreDeep, AreReadAlike}
use Rattle.rasn_schema.proofs.Schemas.{schema_readable}
use Rattle.rasn_schema.proofs.Depth.{read_alike}
use Rattle.rasn_schema.proofs.schema.Schema.types.Goals as goal

pub returns-clause-readable : goal.returns-clause-readable
returns-clause-readable c = subst (λ (l : List «Type»). (levels : ℕ) (id : ℕ) → IsReadable (shape_of_type l levels id)) (sym c.as_slice.ensures.value) (schema_readable c.args.self.now.types.items c.args.self.now.lawful)

AllDeep : List «Type» → Type 0
AllDeep l = (rule : Codec) (i j depth id : ℕ) → AreDeep l depth i → AreDeep l depth j → AreReadAlike rule depth (shape_of_type l i id) (shape_of_type l j id)

pub returns-clause-deep : goal.returns-clause-deep
unfolding AllDeep
returns-clause-deep c = subst AllDeep (sym c.as_slice.ensures.value) (λ rule i j depth id a b. read_alike c.args.self.now.types.items c.args.self.now.lawful rule i j depth id a b)

pub returns-clause-defaults : goal.returns-clause-defaults
returns-clause-defaults c = subst HaveFitDefaults (sym c.as_slice.ensures.value) c.args.self.now.lawful.1
