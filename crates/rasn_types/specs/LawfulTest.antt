-- A test of lawful shapes that computes. First tags are a list, or `None` if every tag is a first tag.
use Rattle.std.specs.Prelude.{Bool, true, false, not, ◌&&◌, ◌||◌, nat_eq, nat_lt, List, [], ◌∷◌, ◌++◌, Option, Some, None}
use Rattle.std.specs.List.{list_all, list_any}
use Rattle.rasn_types.specs.Tags.{tag_bit, Tag, rank, is_eoc}
use Rattle.rasn_types.specs.Shapes.{Shape, leaf, any, prefix, choice, open_choice, option, seq, set, sorted_set, list, set_of, unknown, Parts, part, own, Key, own_tag, first_tags, Presence, required, addition, optional_by, default_by}
use Rattle.rasn_types.specs.Shapes.Parts.{none}
use Rattle.rasn_types.specs.Grammar.{Family, plain_family, bit_family, named_family, text_family, family}

abbrev pub is_same_tag : Tag → Tag → Bool
is_same_tag s t = nat_eq (rank s.class) (rank t.class) && nat_eq s.value t.value

abbrev pub is_other_tag : Tag → Tag → Bool
is_other_tag s t = not (is_same_tag s t)

abbrev pub is_tag_below : Tag → Tag → Bool
is_tag_below s t = nat_lt (rank s.class) (rank t.class) || (nat_eq (rank s.class) (rank t.class) && nat_lt s.value t.value)

abbrev pub Firsts : Type 0
Firsts = Option (List Tag)

abbrev pub either_first : Firsts → Firsts → Firsts
either_first None b = None
either_first (Some a) None = None
either_first (Some a) (Some b) = Some (a ++ b)

abbrev mutual
  pub firsts : Shape → Firsts
  firsts (leaf kind tag bounds) = Some (tag ∷ [])
  firsts (any None) = None
  firsts (any (Some tag)) = Some (tag ∷ [])
  firsts (prefix tag s) = Some (tag ∷ [])
  firsts (choice ps) = firsts_of ps
  firsts (open_choice ps) = None
  firsts (option tag s) = firsts s
  firsts (seq tag ps) = Some (tag ∷ [])
  firsts (set tag ps) = Some (tag ∷ [])
  firsts (sorted_set extensible tag ps) = Some (tag ∷ [])
  firsts (list tag s size) = Some (tag ∷ [])
  firsts (set_of tag s size) = Some (tag ∷ [])
  firsts unknown = Some []

  pub firsts_of : Parts → Firsts
  firsts_of none = Some []
  firsts_of (part presence s ps) = either_first (firsts s) (firsts_of ps)

abbrev pub firsts_behind : Parts → Firsts
firsts_behind none = Some []
firsts_behind (part required s ps) = firsts s
firsts_behind (part addition s ps) = firsts s
firsts_behind (part (optional_by key) s ps) = either_first (firsts s) (firsts_behind ps)
firsts_behind (part (default_by key d) s ps) = either_first (firsts s) (firsts_behind ps)

abbrev pub is_first : Firsts → Tag → Bool
is_first None n = true
is_first (Some tags) n = list_any (is_same_tag n) tags

-- The test holds of each tag of the one list and each of the other. If every tag is a first tag on one side, there must
-- be none on the other, since no test used here holds of a tag and itself.
abbrev pub holds_between : (Tag → Tag → Bool) → Firsts → Firsts → Bool
holds_between test (Some a) (Some b) = list_all (λ s. list_all (test s) b) a
holds_between test (Some []) None = true
holds_between test (Some (s ∷ a)) None = false
holds_between test None (Some []) = true
holds_between test None (Some (t ∷ b)) = false
holds_between test None None = false

abbrev pub are_distinguished : Parts → Bool
are_distinguished none = true
are_distinguished (part presence s ps) = holds_between is_other_tag (firsts s) (firsts_of ps) && are_distinguished ps

abbrev pub is_none : Parts → Bool
is_none none = true
is_none (part presence s ps) = false

abbrev pub has_tag : Shape → Bool
has_tag (leaf kind tag bounds) = true
has_tag (any None) = false
has_tag (any (Some tag)) = true
has_tag (prefix tag s) = true
has_tag (choice ps) = true
has_tag (open_choice ps) = false
has_tag (option tag s) = true
has_tag (seq tag ps) = true
has_tag (set tag ps) = true
has_tag (sorted_set extensible tag ps) = true
has_tag (list tag s size) = true
has_tag (set_of tag s size) = true
has_tag unknown = false

abbrev pub is_unknown : Shape → Bool
is_unknown unknown = true
is_unknown s = false

abbrev pub is_distinguished : Option Tag → Parts → Bool
is_distinguished (Some tag) ps = not (is_first (firsts_behind ps) tag)
is_distinguished None ps = is_none ps

abbrev pub is_every : Firsts → Bool
is_every None = true
is_every (Some tags) = false

abbrev pub is_recognized : Key → Shape → Parts → Bool
is_recognized own_tag s ps = is_distinguished (own s) ps
is_recognized first_tags s ps = has_tag s && (not (is_every (firsts_behind ps)) && holds_between is_other_tag (firsts s) (firsts_behind ps))

abbrev pub may_be_left_out : Presence → Shape → Parts → Bool
may_be_left_out required s ps = true
may_be_left_out addition s ps = true
may_be_left_out (optional_by key) s ps = is_recognized key s ps
may_be_left_out (default_by key d) s ps = is_recognized key s ps

abbrev pub is_bit_free : Family → Tag → Bool
is_bit_free plain_family tag = true
is_bit_free bit_family tag = not (tag_bit tag)
is_bit_free named_family tag = not (tag_bit tag)
is_bit_free text_family tag = not (tag_bit tag)

abbrev mutual
  pub is_always_present : Shape → Bool
  is_always_present (leaf kind tag bounds) = true
  is_always_present (any tag) = true
  is_always_present (prefix tag s) = true
  is_always_present (choice ps) = are_always_present ps
  is_always_present (open_choice ps) = are_always_present ps
  is_always_present (option tag s) = false
  is_always_present (seq tag ps) = true
  is_always_present (set tag ps) = true
  is_always_present (sorted_set extensible tag ps) = true
  is_always_present (list tag s size) = true
  is_always_present (set_of tag s size) = true
  is_always_present unknown = false

  pub are_always_present : Parts → Bool
  are_always_present none = true
  are_always_present (part presence s ps) = is_always_present s && are_always_present ps

abbrev pub is_required : Presence → Bool
is_required required = true
is_required addition = false
is_required (optional_by key) = false
is_required (default_by key d) = false

abbrev pub ends_unknown : Presence → Shape → Parts → Bool
ends_unknown presence s ps = is_required presence && (is_unknown s && is_none ps)

abbrev pub is_addition : Presence → Bool
is_addition required = false
is_addition addition = true
is_addition (optional_by key) = false
is_addition (default_by key d) = false

abbrev pub is_same_own : Option Tag → Option Tag → Bool
is_same_own None None = true
is_same_own None (Some t) = false
is_same_own (Some s) None = false
is_same_own (Some s) (Some t) = is_same_tag s t

abbrev mutual
  pub is_lawful : Shape → Bool
  is_lawful (leaf kind tag bounds) = not (is_eoc tag) && is_bit_free (family kind) tag
  is_lawful (any None) = true
  is_lawful (any (Some tag)) = not (is_eoc tag)
  is_lawful (prefix tag s) = not (is_eoc tag) && (is_always_present s && is_lawful s)
  is_lawful (choice ps) = are_alternatives ps && are_distinguished ps
  is_lawful (open_choice ps) = are_alternatives ps && are_distinguished ps
  is_lawful (option tag s) = is_same_own tag (own s) && (is_always_present s && is_lawful s)
  is_lawful (seq tag ps) = not (is_eoc tag) && are_lawful_in_order ps
  is_lawful (set tag ps) = not (is_eoc tag) && are_lawful_by_tag ps
  is_lawful (sorted_set extensible tag ps) = not (is_eoc tag) && (are_components ps && are_distinguished ps)
  is_lawful (list tag s size) = not (is_eoc tag) && (is_always_present s && is_lawful s)
  is_lawful (set_of tag s size) = not (is_eoc tag) && (is_always_present s && is_lawful s)
  is_lawful unknown = false

  pub are_alternatives : Parts → Bool
  are_alternatives none = true
  are_alternatives (part presence s ps) = is_required presence && (has_tag s && (is_always_present s && (is_lawful s && are_alternatives ps)))

  pub are_lawful_in_order : Parts → Bool
  are_lawful_in_order none = true
  are_lawful_in_order (part presence s ps) = ends_unknown presence s ps || (is_always_present s && (is_lawful s && (may_be_left_out presence s ps && are_lawful_in_order ps)))

  pub are_lawful_by_tag : Parts → Bool
  are_lawful_by_tag none = true
  are_lawful_by_tag (part presence s ps) = not (is_addition presence) && (has_tag s && (is_always_present s && (is_lawful s
      && (holds_between is_tag_below (firsts s) (firsts_of ps) && are_lawful_by_tag ps))))

  pub are_components : Parts → Bool
  are_components none = true
  are_components (part presence s ps) = not (is_addition presence) && (has_tag s && (is_always_present s && (is_lawful s && are_components ps)))
