-- Values and types that were worked out by hand: which are values of which.
use Rattle.std.specs.Prelude.{◌≡◌, ℕ, pos, negsuc, Box, Vec, String, List, [], ◌∷◌, true, false}
use Rattle.std.specs.Global.{Global}
use Rattle.rasn_types.specs.Tags.{eoc}
use Rattle.rasn_types.specs.Shapes.{number, absent, required, optional_by, default_by, own_tag}
use Rattle.rasn_schema.specs.declared.types.LeafKind.TheVariants.{Boolean as BooleanKind, NamedBits, BitString, FixedOctetString, Signed32, Unsigned32, Numeric, Utf8}
use Rattle.rasn_schema.specs.declared.types.Presence.TheVariants.{Required}
use Rattle.rasn_schema.specs.declared.types.Component.{Component}
use Rattle.rasn_schema.specs.declared.types.«Type».{«Type»}
use Rattle.rasn_schema.specs.declared.types.«Type».TheVariants.{Any, Set, Unknown}
use Rattle.rasn_schema.specs.declared.value.Value.{Value, Boolean, Null, Integer, Octets, Chosen}
use Rattle.rasn_schema.specs.Copies.{IsChosenBy}
use Rattle.rasn_schema.specs.Reach.{Reaches}
use Rattle.rasn_schema.specs.Fitting.{NumberFits, OctetsFit, BitsFit, FitsLeaf, IsNumber, IsListOf, IsNoList, IsChosen, IsLeftOutAs, ComponentsFit, EachFits, Fits}

-- Unknown values, and a SET.
abbrev pub unknown_and_set : String Global → Vec Component Global → List «Type»
unknown_and_set name ps = Unknown ∷ (Set name eoc ps ∷ [])

pub record WorkedFitting : Type 0 where
  pub most_of_32_bits : NumberFits Signed32 (pos 2147483647)
  pub past_32_bits : NumberFits Signed32 (pos 2147483648) → ⊥
  pub nothing_below_zero : NumberFits Unsigned32 (negsuc 0) → ⊥
  pub digits : OctetsFit Numeric (49 ∷ (32 ∷ []))
  pub no_letter : OctetsFit Numeric (65 ∷ []) → ⊥
  pub two_octets : OctetsFit (FixedOctetString 2) (1 ∷ (2 ∷ []))
  pub not_one_octet : OctetsFit (FixedOctetString 2) (1 ∷ []) → ⊥
  pub a_bit : BitsFit NamedBits (true ∷ [])
  pub no_trailing_0_bit : BitsFit NamedBits (false ∷ []) → ⊥
  pub trailing_0_bit_without_names : BitsFit BitString (false ∷ [])
  pub truth : FitsLeaf BooleanKind (Boolean true)
  pub no_number_is_a_truth : FitsLeaf BooleanKind (Integer (pos 1)) → ⊥
  pub octets_are_no_text : (o : _) → FitsLeaf Utf8 (Octets o) → ⊥
  pub listed : IsNumber (pos 1 ∷ (pos 3 ∷ [])) (Integer (pos 3))
  pub not_listed : IsNumber (pos 1 ∷ (pos 3 ∷ [])) (Integer (pos 2)) → ⊥
  pub null_is_no_list : IsNoList Null
  pub null_is_no_list_of : (vs : List Value) → IsListOf vs Null → ⊥
  pub nothing_is_chosen : IsChosen (λ i v. Unit {0}) Null → ⊥
  pub left_out : IsLeftOutAs (optional_by own_tag) absent
  pub never_left_out : IsLeftOutAs required absent → ⊥
  pub default_left_out : IsLeftOutAs (default_by own_tag (number (pos 5))) (number (pos 5))
  pub not_left_out : IsLeftOutAs (default_by own_tag (number (pos 5))) (number (pos 6)) → ⊥
  pub no_components : ComponentsFit (λ k v. Unit {0}) [] []
  pub not_one_value_more : (v : Value) → ComponentsFit (λ k v. Unit {0}) [] (v ∷ []) → ⊥
  pub not_one_value_less : (p : Component) → ComponentsFit (λ k v. Unit {0}) (p ∷ []) [] → ⊥
  pub each_truth : EachFits (FitsLeaf BooleanKind) (Boolean true ∷ [])
  pub not_each : EachFits (FitsLeaf BooleanKind) (Boolean true ∷ (Null ∷ [])) → ⊥
  pub open_value : (o : _) → Fits (Any eoc ∷ []) 1 0 (Octets o)
  pub no_open_null : (levels : ℕ) → Fits (Any eoc ∷ []) levels 0 Null → ⊥
  pub unknown_in_a_set : (name : String Global) (ps : Vec Component Global) (c : Component) (v w : Value) (o : _) → ps.items ≡ c ∷ [] → c.presence ≡ Required → c.type_id.0 ≡ 0
      → IsListOf (w ∷ []) v → IsListOf (Octets o ∷ []) w → Fits (unknown_and_set name ps) 2 1 v
  pub only_octets_are_unknown : (name : String Global) (ps : Vec Component Global) (c : Component) (v w : Value) → ps.items ≡ c ∷ [] → c.presence ≡ Required → c.type_id.0 ≡ 0
      → IsListOf (w ∷ []) v → IsListOf (Null ∷ []) w → Fits (unknown_and_set name ps) 2 1 v → ⊥
  pub nothing_of_a_missing_type : (levels : ℕ) (v : Value) → Fits [] levels 0 v → ⊥
  pub nothing_at_no_level : (types : List «Type») (v : Value) → Fits types 0 0 v → ⊥
  pub reaches_itself : (v : Value) → Reaches (Any eoc ∷ []) 1 0 v 0 (Any eoc) v
  pub reaches_no_other : (v w : Value) → (w ≡ v → ⊥) → Reaches (Any eoc ∷ []) 1 0 v 0 (Any eoc) w → ⊥
  pub chosen_by_nothing : (v : Value) → IsChosenBy [] v v
  pub chosen_by_its_index : (b : Box Value Global) → IsChosenBy (2 ∷ []) b.value (Chosen 2 b)
  pub not_by_another : (b : Box Value Global) → IsChosenBy (3 ∷ []) b.value (Chosen 2 b) → ⊥
  pub null_is_not_chosen : (w : Value) → IsChosenBy (2 ∷ []) w Null → ⊥
