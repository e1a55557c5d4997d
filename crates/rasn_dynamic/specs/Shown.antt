-- Errors and places as text.
use Rattle.std.specs.Prelude.{ℕ, List, [], ◌∷◌, ◌++◌, length, ◌&&◌, ◌==◌, Bool, true, false, if◌then◌else◌, Option, Some, None, option_map, option_and_then, slice_get, codes}
use Rattle.std.specs.Fmt.{decimal, ◌++?◌}
use Rattle.std.specs.List.{flat_map}
use Rattle.rasn_types.specs.ErrorText.{shown_decode_error, shown_encode_error}
use Rattle.rasn_schema.specs.declared.type_id.TypeId.{TypeId}
use Rattle.rasn_schema.specs.declared.types.«Type».{«Type»}
use Rattle.rasn_schema.specs.declared.types.«Type».TheVariants.{Tagged, SequenceOf, SetOf}
use Rattle.rasn_schema.specs.Held.{is_unknown_found, part_type, part_name}
use Rattle.rasn_dynamic.specs.declared.entry.WriteError.{WriteError}
use Rattle.rasn_dynamic.specs.declared.entry.WriteError.TheVariants.{Unfit, Encode}
use Rattle.rasn_dynamic.specs.declared.refusal.Refusal.{Refusal}
use Rattle.rasn_dynamic.specs.declared.refusal.NamedRefusal.{NamedRefusal}
use Rattle.rasn_dynamic.specs.Paths.{path_text}

-- The path of the part that isn't of its type, or the text of the encoder's error.
abbrev pub shown_write_error : WriteError → Option (List ℕ)
shown_write_error (Unfit path) = Some (codes "the value doesn't fit its type at " ++ path_text path.indices.items)
shown_write_error (Encode error) = shown_encode_error error

-- The offset, and the text of the error.
abbrev pub shown_refusal : Refusal → Option (List ℕ)
shown_refusal r = Some (codes "byte ") ++? Some (decimal r.offset) ++? Some (codes ": ") ++? shown_decode_error r.error

-- ---- the names on the way to a part

-- A name follows a point, unless it is the first.
abbrev pub name_text : Bool → Option (List ℕ) → List ℕ
name_text first None = []
name_text first (Some name) = (if first then [] else codes ".") ++ name

abbrev pub bracketed : ℕ → List ℕ
bracketed k = codes "[" ++ (decimal k ++ codes "]")

-- The step to part k of a value of the type: a name, the index of an element in brackets, or nothing for what an explicit tag holds.
abbrev pub step_text : Bool → «Type» → ℕ → List ℕ
step_text first (Tagged tag inner) k = []
step_text first (SequenceOf tag element c) k = bracketed k
step_text first (SetOf tag element c) k = bracketed k
step_text first ty k = name_text first (part_name ty k)

-- The same, where the type of the part is this one. Of unknown values it is their index in brackets, since they have no name.
abbrev pub part_text : Bool → «Type» → ℕ → Option «Type» → List ℕ
part_text first ty k part = if is_unknown_found part then bracketed k else step_text first ty k

-- Whether the next name is the first one still.
abbrev pub stays_first : Bool → «Type» → Bool
stays_first first (Tagged tag inner) = first
stays_first first _ = false

-- The type with number id, and the number of the type of its part k.
abbrev pub step_from : List «Type» → ℕ → ℕ → Option («Type» × TypeId)
step_from types id k = option_and_then (λ ty. option_map (λ next. (ty, next)) (part_type ty k)) (slice_get types id)

-- The indices in brackets, and a comma after them and the names.
abbrev pub comma_text : Bool → List ℕ
comma_text none = if none then [] else codes ", "

abbrev pub end_text : List ℕ → Bool → List ℕ
end_text inner first = flat_map bracketed inner ++ comma_text (first && (length inner == 0))

abbrev pub after_step : List «Type» → List ℕ → Bool → ℕ → (Bool → ℕ → List ℕ) → Option («Type» × TypeId) → List ℕ
after_step types inner first k more None = end_text inner first
after_step types inner first k more (Some s) = part_text first s.0 k (slice_get types s.1.0) ++ more (stays_first first s.0) s.1.0

-- The steps from the type with number id, as far as they lead to parts, and then the inner indices.
unfoldable pub way_text : List «Type» → List ℕ → Bool → ℕ → List ℕ → List ℕ
way_text types inner first id [] = end_text inner first
way_text types inner first id (k ∷ steps) = after_step types inner first k (λ f n. way_text types inner f n steps) (step_from types id k)

-- The names on the way, unless some are missing, and the refusal.
abbrev pub shown_way : Bool → List ℕ → Option (List ℕ) → Option (List ℕ)
shown_way true way refusal = refusal
shown_way false way refusal = Some way ++? refusal

abbrev pub shown_named : NamedRefusal → Option (List ℕ)
shown_named n = shown_way n.refusal.now.is_cut (way_text n.schema.now.types.items n.inner.now true n.id.0 n.refusal.now.steps.items) (shown_refusal n.refusal.now)
