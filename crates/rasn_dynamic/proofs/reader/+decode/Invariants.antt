use Rattle.std.proofs.Common.{◌≡◌, ℕ, ◌+◌, ◌*◌, ◌++◌, map, length, List, [], Option, None, true, false}
use Rattle.rasn_schema.specs.declared.types.Component.{Component}
use Rattle.rasn_dynamic.specs.Faults.{ComponentsInTurn}
use Rattle.rasn_types.specs.Tags.{IsStrict}
use Rattle.rasn_types.specs.Order.{IsLess, AreAscending}
use Rattle.rasn_types.proofs.SetOf.Ascending.{EndsBy}
use Rattle.rasn_types.specs.Shapes.{Tree}
use Rattle.rasn_de.specs.SequenceOf.{DecodesInTurn, DecodesInTurnFrom}
use Rattle.rasn_de.proofs.OwnTypes.SetPartTypes.{ReadTo}
use Rattle.rasn_schema.specs.Trees.{tree_of}
use Rattle.rasn_schema.specs.Shapes.{shape_of_type, components_by, AreReadable}
use Rattle.rasn_dynamic.specs.Inside.{DecodesTree}
use Rattle.rasn_dynamic.specs.Calls.{names_of, HoldsSlots}
use Rattle.rasn_schema.specs.Fitting.{EachFits, AreOctets}
use Rattle.rasn_de.specs.State.{State}
use Rattle.rasn_dynamic.specs.Times.{Covers, FitsFrom}
use Rattle.rasn_dynamic.specs.Sets.{HoldsUnknown}
use Rattle.rasn_dynamic.specs.Found.{FoundFit}
use Rattle.rasn_dynamic.specs.Listed.{Lists, Inside, InTurn, PartListed, ComponentAt, MemberListed}
use Rattle.rasn_dynamic.proofs.Contents.{PartsSoFar}
use Rattle.rasn_dynamic.proofs.FitsRead.{FitSoFar}
use Rattle.rasn_dynamic.proofs.reader.+decode.Given as goal

abbrev pub decreases-decode_at : goal.decreases-decode_at
decreases-decode_at g l = 32 * l.types.now.levels

abbrev pub decreases-decode_part : goal.decreases-decode_part
decreases-decode_part g l = 32 * l.types.now.levels + 2

abbrev pub decreases-decode_compared : goal.decreases-decode_compared
decreases-decode_compared g l = 32 * l.types.now.levels + 3

abbrev pub decreases-decode_type : goal.decreases-decode_type
decreases-decode_type g l = 32 * l.types.now.levels + 24

abbrev pub decreases-decode_choice : goal.decreases-decode_choice
decreases-decode_choice g l = 32 * l.types.now.levels + 22

abbrev pub decreases-decode_alternative : goal.decreases-decode_alternative
decreases-decode_alternative g l = 32 * l.part.levels + 5

abbrev pub decreases-decode_nested : goal.decreases-decode_nested
decreases-decode_nested g l = 32 * l.part.levels + 4

abbrev pub decreases-decode_innermost : goal.decreases-decode_innermost
decreases-decode_innermost g l = 32 * l.nested.now.part.levels + 3

abbrev pub decreases-decode_components : goal.decreases-decode_components
decreases-decode_components g l = 32 * l.types.now.levels + 18

abbrev pub decreases-decode_elements : goal.decreases-decode_elements
decreases-decode_elements g l = 32 * l.types.now.levels + 14

abbrev pub decreases-decode_elements_in_order : goal.decreases-decode_elements_in_order
decreases-decode_elements_in_order g l = 32 * l.types.now.levels + 14

abbrev pub decreases-decode_component : goal.decreases-decode_component
decreases-decode_component g l = 32 * l.types.now.levels + 17

abbrev pub decreases-decode_present : goal.decreases-decode_present
decreases-decode_present g l = 32 * l.types.now.levels + 16

abbrev pub decreases-decode_set_components : goal.decreases-decode_set_components
decreases-decode_set_components g l = 32 * l.types.now.levels + 18

abbrev pub decreases-decode_set_component : goal.decreases-decode_set_component
decreases-decode_set_component g l = 32 * l.types.now.levels + 17

abbrev pub invariant-decode_elements-loop-element : goal.invariant-decode_elements-loop-element
invariant-decode_elements-loop-element g l = ((ts : List Tree) × (g.M.Made.KEEP ≡ true → map tree_of l.values.items ≡ ts) × (l.count ≡ length ts) × DecodesInTurn (DecodesTree (shape_of_type l.types.list.now l.types.levels l.element.0)) l.fn.decoder ts l.decoder)
    × (g.M.Made.KEEP ≡ true → (s : State) → Covers s l.fn.decoder → EachFits (FitsFrom s l.types.list.now l.types.levels l.element.0) l.values.items) × (l.walk.fault ≡ None)
    × Lists (λ b es. InTurn (λ k. PartListed (shape_of_type l.types.list.now l.types.levels) l.types.levels (Inside l.types.list.now l.types.levels) l.element.0 k b) l.count l.fn.decoder l.decoder es) l.fn.walk.spans l.walk.spans

abbrev pub decreases-decode_elements-loop-element : goal.decreases-decode_elements-loop-element
decreases-decode_elements-loop-element g l = length l.decoder.rest

abbrev pub invariant-decode_elements_in_order-loop-last : goal.invariant-decode_elements_in_order-loop-last
invariant-decode_elements_in_order-loop-last g l = ((ts : List Tree) × (bs : List (List ℕ)) × (g.M.Made.KEEP ≡ true → map tree_of l.values.items ≡ ts) × (l.count ≡ length ts)
    × DecodesInTurnFrom (DecodesTree (shape_of_type l.types.list.now l.types.levels l.element.0)) l.fn.decoder ts bs l.decoder × (IsStrict l.fn.decoder.rule → AreAscending IsLess bs) × EndsBy bs l.last)
    × (g.M.Made.KEEP ≡ true → (s : State) → Covers s l.fn.decoder → EachFits (FitsFrom s l.types.list.now l.types.levels l.element.0) l.values.items) × (l.walk.fault ≡ None)
    × Lists (λ b es. InTurn (λ k. PartListed (shape_of_type l.types.list.now l.types.levels) l.types.levels (Inside l.types.list.now l.types.levels) l.element.0 k b) l.count l.fn.decoder l.decoder es) l.fn.walk.spans l.walk.spans

abbrev pub decreases-decode_elements_in_order-loop-last : goal.decreases-decode_elements_in_order-loop-last
decreases-decode_elements_in_order-loop-last g l = length l.decoder.rest

abbrev pub invariant-decode_components-loop-rest : goal.invariant-decode_components-loop-rest
invariant-decode_components-loop-rest g l = ((ts : List Tree) × (g.M.Made.KEEP ≡ true → map tree_of l.values.items ≡ ts)
    × PartsSoFar (components_by (shape_of_type l.types.list.now l.types.levels) l.components) (components_by (shape_of_type l.types.list.now l.types.levels) l.rest) ts l.fn.decoder l.decoder)
    × AreReadable (components_by (shape_of_type l.types.list.now l.types.levels) l.rest) × (g.M.Made.KEEP ≡ true → (s : State) → Covers s l.fn.decoder → FitSoFar (FitsFrom s l.types.list.now l.types.levels) l.components l.rest l.values.items) × (l.walk.fault ≡ None)
    × (done : List Component) × (l.components ≡ done ++ l.rest) × ComponentsInTurn (shape_of_type l.types.list.now l.types.levels) done l.fn.decoder l.decoder
    × Lists (λ b es. InTurn (ComponentAt (shape_of_type l.types.list.now l.types.levels) l.types.levels (Inside l.types.list.now l.types.levels) l.components b) (length done) l.fn.decoder l.decoder es) l.fn.walk.spans l.walk.spans

abbrev pub decreases-decode_components-loop-rest : goal.decreases-decode_components-loop-rest
decreases-decode_components-loop-rest g l = length l.rest

abbrev pub invariant-decode_set_components-loop-last : goal.invariant-decode_set_components-loop-last
invariant-decode_set_components-loop-last g l = ((slots : List (Option Tree)) × (us : List Tree) × HoldsSlots g.M.Made.KEEP l.found.items slots × HoldsUnknown g.M.Made.KEEP l.unknown.items us
    × ReadTo l.members.extensible (components_by (shape_of_type l.types.list.now l.types.levels) l.members.components.now) (names_of l.members.components.now) l.fn.decoder l.decoder l.last l.twice slots us × (l.members.extensible ≡ false → us ≡ []))
    × ((s : State) → Covers s l.fn.decoder → FoundFit (λ k v. g.M.Made.KEEP ≡ true → FitsFrom s l.types.list.now l.types.levels k v) l.members.components.now l.found.items) × (g.M.Made.KEEP ≡ true → EachFits AreOctets l.unknown.items) × (l.walk.fault ≡ None)
    × (n : ℕ) × Lists (λ b es. InTurn (λ k. MemberListed (shape_of_type l.types.list.now l.types.levels) l.types.levels (Inside l.types.list.now l.types.levels) l.members.extensible l.members.components.now l.members.other_id.0 b) n l.fn.decoder l.decoder es) l.fn.walk.spans l.walk.spans

abbrev pub decreases-decode_set_components-loop-last : goal.decreases-decode_set_components-loop-last
decreases-decode_set_components-loop-last g l = length l.decoder.rest

abbrev pub decreases-put_elements : goal.decreases-put_elements
decreases-put_elements g l = 32 * l.types.now.levels + 20

abbrev pub decreases-put_elements_in_order : goal.decreases-put_elements_in_order
decreases-put_elements_in_order g l = 32 * l.types.now.levels + 20

abbrev pub decreases-put_components : goal.decreases-put_components
decreases-put_components g l = 32 * l.types.now.levels + 20

abbrev pub decreases-put_set_components : goal.decreases-put_set_components
decreases-put_set_components g l = 32 * l.types.now.levels + 20

abbrev pub decreases-decode_enclosed : goal.decreases-decode_enclosed
decreases-decode_enclosed g l = 32 * l.types.now.levels + 23

abbrev pub decreases-decode_inside : goal.decreases-decode_inside
decreases-decode_inside g l = 32 * l.types.now.levels + 22
