-- The test for shapes of which every value that DER reads is carried.
use Rattle.std.specs.Prelude.{Bool, true, false, not, ◌&&◌, ◌||◌, Some, None}
use Rattle.rasn_types.specs.Shapes.{Tree, number, bits, numbers, instant, on_day, done, joined, set_elements, chosen, absent, Shape, leaf, any, prefix, choice, open_choice, option, seq, set, sorted_set, list, set_of, unknown, Parts, part, Presence, required, addition, optional_by, default_by}
use Rattle.rasn_types.specs.Shapes.Parts.{none}
use Rattle.rasn_types.specs.Described.{has_required, has_addition}

abbrev pub is_list : Tree → Bool
is_list (number z) = false
is_list (bits bs) = false
is_list (numbers ns) = false
is_list (instant m) = false
is_list (on_day d) = false
is_list done = true
is_list (joined t ts) = is_list ts
is_list (set_elements ts) = false
is_list (chosen k t) = false
is_list absent = false

-- The tree is the same as itself: set elements are a list.
abbrev pub is_same_as_itself : Tree → Bool
is_same_as_itself (number z) = true
is_same_as_itself (bits bs) = true
is_same_as_itself (numbers ns) = true
is_same_as_itself (instant m) = true
is_same_as_itself (on_day d) = true
is_same_as_itself done = true
is_same_as_itself (joined t ts) = is_same_as_itself t && is_same_as_itself ts
is_same_as_itself (set_elements ts) = is_list ts && is_same_as_itself ts
is_same_as_itself (chosen k t) = is_same_as_itself t
is_same_as_itself absent = true

abbrev pub is_own_default : Presence → Bool
is_own_default required = true
is_own_default (optional_by key) = true
is_own_default addition = true
is_own_default (default_by key d) = is_same_as_itself d

-- False for an open type with a tag, whose contents need not be one encoding; for a SEQUENCE that has additions and no
-- required part, since empty contents leave the additions out; and for a default that isn't the same as itself.
abbrev mutual
  pub carries_all : Shape → Bool
  carries_all (leaf kind tag bounds) = true
  carries_all (any None) = true
  carries_all (any (Some tag)) = false
  carries_all (prefix tag s) = carries_all s
  carries_all (choice ps) = all_carry ps
  carries_all (open_choice ps) = all_carry ps
  carries_all (option tag s) = carries_all s
  carries_all (seq tag ps) = (has_required ps || not (has_addition ps)) && all_carry ps
  carries_all (set tag ps) = all_carry ps
  carries_all (sorted_set extensible tag ps) = all_carry ps
  carries_all (list tag s size) = carries_all s
  carries_all (set_of tag s size) = carries_all s
  carries_all unknown = true

  pub all_carry : Parts → Bool
  all_carry none = true
  all_carry (part presence s ps) = is_own_default presence && (carries_all s && all_carry ps)
