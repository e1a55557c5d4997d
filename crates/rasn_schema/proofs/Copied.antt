-- What is made of a constant has its shapes.
use Rattle.std.proofs.Common.{Bor, Vec, String, Global, ◌≡◌, ℕ, zero, suc, ◌+◌, ◌<◌, List, [], ◌∷◌, ◌++◌, map, length, take, get_or, refl, sym, ap, ap₂, ◌∙◌, subst}
use Rattle.std.specs.Prelude.{slice_get}
use Rattle.std.proofs.lemmas.List.{take_more}
use Rattle.rasn_types.specs.Order.{Each}
use Rattle.rasn_types.specs.Shapes.{Shape, done, leaf, enumerated, prefix, seq, list, set_of, Parts, part, Key, own_tag, required, addition, optional_by, default_by, Presence, looked_for}
use Rattle.rasn_types.specs.Shapes.Parts.{none}
use Rattle.rasn_types.specs.declared.types.tag.Tag.{Tag}
use Rattle.rasn_types.specs.Trees.{unconstrained, list_tree}
use Rattle.rasn_types.proofs.SetTrees.{each_append}
use Rattle.rasn_schema.specs.Shapes.{numbers_of, components_by, alternatives_by, presence_by, presence_of, key_of, choice_among, set_among, nothing, found_by, tag_found, shape_of_type}
use Rattle.rasn_schema.specs.declared.types.Presence.{Presence as ComponentPresence}
use Rattle.rasn_schema.specs.declared.types.Presence.TheVariants.{Required, Optional, Addition, Default}
use Rattle.rasn_schema.specs.declared.types.NamedNumber.{NamedNumber}
use Rattle.rasn_schema.specs.declared.types.Alternative.{Alternative}
use Rattle.rasn_schema.specs.declared.types.Component.{Component}
use Rattle.rasn_schema.specs.declared.types.«Type».{«Type»}
use Rattle.rasn_schema.specs.declared.types.«Type».TheVariants.{Enumerated as TypeEnumerated, Sequence as TypeSequence, Set as TypeSet, Choice as TypeChoice}
use Rattle.rasn_schema.specs.declared.value.Value.{Value, Items}
use Rattle.rasn_schema.specs.Trees.{tree_of}
use Rattle.rasn_schema.proofs.Values.{tree_items}
use Rattle.rasn_schema.specs.declared.constants.types.StaticType.{StaticType}
use Rattle.rasn_schema.specs.declared.constants.types.StaticType.TheVariants.{Leaf, Enumerated, Any, Tagged, Choice, Sequence, Set, SequenceOf, SetOf, Unknown}
use Rattle.rasn_schema.specs.declared.constants.types.StaticPresence.{StaticPresence}
use Rattle.rasn_schema.specs.declared.constants.types.StaticPresence.TheVariants.{Required as StaticRequired, Optional as StaticOptional, Addition as StaticAddition, Default as StaticDefault}
use Rattle.rasn_schema.specs.Statics.{Named, Held, Placed, static_numbers, static_presence, static_components, static_alternatives, static_by, static_tag_found, static_found, static_shape, number_in, static_number, type_in, static_type, component_in, static_component, IsMade}

-- ---- numbers, alternatives and components

numbers_listed : (ms : List NamedNumber) → numbers_of ms ≡ map number_in ms
numbers_listed [] = refl
numbers_listed (m ∷ ms) = ap (λ l. m.number ∷ l) (numbers_listed ms)

static_listed : (ns : List Named) → static_numbers ns ≡ map static_number ns
static_listed [] = refl
static_listed (n ∷ ns) = ap (λ l. n.1 ∷ l) (static_listed ns)

pub numbers_made : (ms : List NamedNumber) (ns : List Named) → map number_in ms ≡ map static_number ns → numbers_of ms ≡ static_numbers ns
numbers_made ms ns e = numbers_listed ms ∙ e ∙ sym (static_listed ns)

module _ (f : ℕ → Shape) where
  abbrev alternatives_from : List ℕ → Parts
  alternatives_from [] = none
  alternatives_from (k ∷ ks) = part required (f k) (alternatives_from ks)

  alternatives_listed : (ks : List Alternative) → alternatives_by f ks ≡ alternatives_from (map type_in ks)
  alternatives_listed [] = refl
  alternatives_listed (a ∷ ks) = ap (part required (f a.type_id.0)) (alternatives_listed ks)

  static_alternatives_listed : (ks : List Held) → static_alternatives f ks ≡ alternatives_from (map static_type ks)
  static_alternatives_listed [] = refl
  static_alternatives_listed (a ∷ ks) = ap (part required (f a.1)) (static_alternatives_listed ks)

  pub alternatives_made : (ms : List Alternative) (ks : List Held) → map type_in ms ≡ map static_type ks → alternatives_by f ms ≡ static_alternatives f ks
  alternatives_made ms ks e = alternatives_listed ms ∙ ap alternatives_from e ∙ sym (static_alternatives_listed ks)

-- A presence ks it is recognized by another key.
abbrev rekeyed : Key → Presence → Presence
rekeyed key required = required
rekeyed key addition = addition
rekeyed key (optional_by k) = optional_by key
rekeyed key (default_by k d) = default_by key d

presence_rekeyed : (key : Key) (p : ComponentPresence) → presence_by key p ≡ rekeyed key (presence_of p)
presence_rekeyed key Required = refl
presence_rekeyed key Optional = refl
presence_rekeyed key Addition = refl
presence_rekeyed key (Default v) = refl

static_rekeyed : (key : Key) (p : StaticPresence) → static_presence key p ≡ rekeyed key (static_presence own_tag p)
static_rekeyed key StaticRequired = refl
static_rekeyed key StaticOptional = refl
static_rekeyed key StaticAddition = refl
static_rekeyed key (StaticDefault v) = refl

module _ (f : ℕ → Shape) where
  abbrev components_from : List (Presence × ℕ) → Parts
  components_from [] = none
  components_from (p ∷ ps) = part (rekeyed (key_of (f p.1)) p.0) (f p.1) (components_from ps)

  components_listed : (ps : List Component) → components_by f ps ≡ components_from (map component_in ps)
  components_listed [] = refl
  components_listed (p ∷ ps) = ap₂ (λ presence rest. part presence (f p.type_id.0) rest) (presence_rekeyed (key_of (f p.type_id.0)) p.presence) (components_listed ps)

  static_components_listed : (ps : List Placed) → static_components f ps ≡ components_from (map static_component ps)
  static_components_listed [] = refl
  static_components_listed (p ∷ ps) = ap₂ (λ presence rest. part presence (f p.2) rest) (static_rekeyed (key_of (f p.2)) p.1) (static_components_listed ps)

  pub components_made : (ms : List Component) (ps : List Placed) → map component_in ms ≡ map static_component ps → components_by f ms ≡ static_components f ps
  components_made ms ps e = components_listed ms ∙ ap components_from e ∙ sym (static_components_listed ps)

-- ---- lists of types

-- one more type, in a loop
pub one_more : (ss : List StaticType) (ts us : List «Type») (i : ℕ) (s : StaticType) (t : «Type») → i < length ss → us ≡ ts ++ (t ∷ []) → Each IsMade (take i ss) ts → IsMade (get_or ss i s) t → Each IsMade (take (i + 1) ss) us
one_more ss ts us i s t h e k m = subst (Each IsMade (take (i + 1) ss)) (sym e) (subst (λ l. Each IsMade l (ts ++ (t ∷ []))) (sym (take_more ss i s h)) (each_append IsMade (take i ss) (get_or ss i s ∷ []) ts (t ∷ []) k (t, [], refl, m, refl)))

-- ---- shapes, where f and g give the same ones

module _ (f g : ℕ → Shape) (h : (k : ℕ) → f k ≡ g k) where
  alternatives_alike : (ks : List Held) → static_alternatives f ks ≡ static_alternatives g ks
  alternatives_alike [] = refl
  alternatives_alike (a ∷ ks) = ap₂ (part required) (h a.1) (alternatives_alike ks)

  components_alike : (ps : List Placed) → static_components f ps ≡ static_components g ps
  components_alike [] = refl
  components_alike (p ∷ ps) = ap₂ (λ s rest. part (static_presence (key_of s) p.1) s rest) (h p.2) (components_alike ps)

  alike : (s : StaticType) → static_by f s ≡ static_by g s
  alike (Leaf kind tag c names) = refl
  alike (Enumerated tag ns) = refl
  alike (Any tag) = refl
  alike (Tagged tag k) = ap (prefix tag) (h k)
  alike (Choice name ks) = ap choice_among (alternatives_alike ks.now)
  alike (Sequence tag ps) = ap (seq tag) (components_alike ps.now)
  alike (Set name tag ps) = ap (set_among tag) (components_alike ps.now)
  alike (SequenceOf tag k c) = ap (λ s. list tag s c.size) (h k)
  alike (SetOf tag k c) = ap (λ s. set_of tag s c.size) (h k)
  alike Unknown = refl

  found_made : (ss : List StaticType) (ts : List «Type») (k : ℕ) → Each IsMade ss ts → found_by f (slice_get ts k) ≡ static_found g (slice_get ss k)
  found_made [] ts k e = ap (λ l. found_by f (slice_get l k)) e
  found_made (s ∷ ss) ts zero (t, more, e, m, rest) = ap (λ l. found_by f (slice_get l zero)) e ∙ m.shape f ∙ alike s
  found_made (s ∷ ss) ts (suc k) (t, more, e, m, rest) = ap (λ l. found_by f (slice_get l (suc k))) e ∙ found_made ss more k rest

tag_made : (ss : List StaticType) (ts : List «Type») (k : ℕ) → Each IsMade ss ts → tag_found (slice_get ts k) ≡ static_tag_found (slice_get ss k)
tag_made [] ts k e = ap (λ l. tag_found (slice_get l k)) e
tag_made (s ∷ ss) ts zero (t, more, e, m, rest) = ap (λ l. tag_found (slice_get l zero)) e ∙ m.tag
tag_made (s ∷ ss) ts (suc k) (t, more, e, m, rest) = ap (λ l. tag_found (slice_get l (suc k))) e ∙ tag_made ss more k rest

pub shapes_made : (ss : List StaticType) (ts : List «Type») → Each IsMade ss ts → (levels id : ℕ) → shape_of_type ts levels id ≡ static_shape ss levels id
unfolding shape_of_type
shapes_made ss ts e zero k = ap (λ tag. nothing (looked_for tag)) (tag_made ss ts k e)
shapes_made ss ts e (suc levels) k = found_made (shape_of_type ts levels) (static_shape ss levels) (shapes_made ss ts e levels) ss ts k e

-- ---- one type

pub empty_made : (vs : Vec Value Global) → vs.items ≡ [] → tree_of (Items vs) ≡ done
empty_made vs e = tree_items vs ∙ ap (list_tree tree_of) e

module _ (tag : Tag) where
  pub enumerated_made : (ms : Vec NamedNumber Global) (ns : Bor (List Named)) → map number_in ms.items ≡ map static_number ns.now → IsMade (Enumerated tag ns) (TypeEnumerated tag ms)
  enumerated_made ms ns e = record { tag = refl; shape = λ f. ap (λ l. leaf (enumerated l) tag unconstrained) (numbers_made ms.items ns.now e) }

  pub sequence_made : (ms : Vec Component Global) (ps : Bor (List Placed)) → map component_in ms.items ≡ map static_component ps.now → IsMade (Sequence tag ps) (TypeSequence tag ms)
  sequence_made ms ps e = record { tag = refl; shape = λ f. ap (seq tag) (components_made f ms.items ps.now e) }

  pub set_made : (name : String Global) (other : Bor (List ℕ)) (ms : Vec Component Global) (ps : Bor (List Placed)) → map component_in ms.items ≡ map static_component ps.now → IsMade (Set other tag ps) (TypeSet name tag ms)
  set_made name other ms ps e = record { tag = refl; shape = λ f. ap (set_among tag) (components_made f ms.items ps.now e) }

pub choice_made : (name : String Global) (other : Bor (List ℕ)) (ms : Vec Alternative Global) (ks : Bor (List Held)) → map type_in ms.items ≡ map static_type ks.now → IsMade (Choice other ks) (TypeChoice name ms)
choice_made name other ms ks e = record { tag = refl; shape = λ f. ap choice_among (alternatives_made f ms.items ks.now e) }
