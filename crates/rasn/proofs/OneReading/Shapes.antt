-- A lawful shape is read in one way.
use Rattle.std.proofs.Common.{◌≡◌, ℕ, ◌-◌, ◌⊎◌, inl, inr, Bool, Option, Some, None, sym, ap, ◌∙◌, subst, arith}
use Rattle.rasn_types.specs.Tags.{form, IsTagBelow}
use Rattle.rasn_types.specs.declared.types.codec.Codec.{Codec}
use Rattle.rasn_types.specs.declared.types.tag.Tag.{Tag}
use Rattle.rasn_types.specs.Shapes.{Tree, items, set_elements, absent, Shape, leaf, any, prefix, choice, open_choice, option, seq, set, sorted_set, list, set_of, unknown, Parts, part, count, IsFirstOf, one_tag, presences}
use Rattle.rasn_types.specs.declared.types.constraints.Bound.{Bound}
use Rattle.rasn_types.specs.Shapes.Parts.{none}
use Rattle.rasn_types.specs.Readings.{Reading, ReadsSeq, ReadsChoice, ReadsSet, ReadsSortedSet}
use Rattle.rasn_types.specs.Grammar.{Reads, parts_of, ReadsAny, ReadsOpenChoice, ReadsList, ReadsSetOf}
use Rattle.rasn_types.specs.Lawful.{AreDistinguished, IsLawful, AreAlternatives, AreLawfulInOrder, AreLawfulByTag, AreComponents}
use Rattle.rasn.proofs.OneReading.Joined.{IsOne, inside_one, many_one, perhaps_one, EachPart, ReadsOne, seq_one, IsFirstIn, AreApart, choice_one, open_choice_one, set_one, sorted_set_one}
use Rattle.rasn.proofs.OneReading.Leaves.{leaf_one}
use Rattle.rasn.proofs.OneReading.Any.{any_one, open_one}
use Rattle.rasn.specs.Laws.{IsReadOnce, AreReadOnce, OneLeaf, OneOpen, OnePrefix, OneChoice, OneOption, OneSequence, OneSet, OneSortedSet, OneOpenChoice, OneSequenceOf, OneSetOf, OneUnknown}

first_in : (rule : Codec) (ps : Parts) (depth : ℕ) (closing : Bool) (n : Tag) → IsFirstIn (parts_of rule ps depth closing) n → IsFirstOf ps n
unfolding Reads parts_of
first_in rule none depth closing n h = h
first_in rule (part presence s ps) depth closing n (inl h) = inl h
first_in rule (part presence s ps) depth closing n (inr h) = inr (first_in rule ps depth closing n h)

apart : (rule : Codec) (ps : Parts) (depth : ℕ) (closing : Bool) → AreDistinguished ps → AreApart (parts_of rule ps depth closing)
unfolding Reads parts_of
apart rule none depth closing h = tt
apart rule (part presence s ps) depth closing h = (λ n p q. h.0 n p (first_in rule ps depth closing n q), apart rule ps depth closing h.1)

parts_one : (rule : Codec) (ps : Parts) → AreReadOnce rule ps → (depth : ℕ) (closing : Bool) → EachPart ReadsOne (parts_of rule ps depth closing)
unfolding Reads parts_of
parts_one rule none one depth closing = tt
parts_one rule (part presence s ps) one depth closing = (one.0 depth closing, parts_one rule ps one.1 depth closing)

list_one : (size : Option (Bound ℕ)) (reads : Bool → Reading Tree) → ((c : Bool) → IsOne (reads c)) → (c : Bool) → IsOne (ReadsList size (reads c) c)
list_one size reads one c input t u r s h k =
    let o = many_one (reads c) (one c) c input h.0 k.0 r s h.3 k.3 in (h.1 ∙ (ap items o.0 ∙ sym k.1), o.1)

set_of_one : (rule : Codec) (size : Option (Bound ℕ)) (reads : Bool → Reading Tree) → ((c : Bool) → IsOne (reads c)) → (c : Bool) → IsOne (ReadsSetOf rule size (reads c) c)
set_of_one rule size reads one c input t u r s h k =
    let o = many_one (reads c) (one c) c input h.0 k.0 r s h.3 k.3 in (h.1 ∙ (ap (λ ts. set_elements (items ts)) o.0 ∙ sym k.1), o.1)

pub one_leaf : OneLeaf
unfolding Reads parts_of
one_leaf rule kind tag bounds depth closing = leaf_one rule kind tag bounds depth

pub one_open : OneOpen
unfolding Reads parts_of
one_open rule None depth closing = any_one rule
one_open rule (Some tag) depth closing = open_one rule tag

pub one_prefix : OnePrefix
unfolding Reads parts_of
one_prefix rule tag s one depth closing = λ input t u r o h k.
    inside_one (λ c. Reads rule s (depth - 1) c) (λ c. one (depth - 1) c) input t u r o h.3 k.3

pub one_choice : OneChoice
unfolding Reads parts_of
one_choice rule ps one told depth closing = choice_one rule (parts_of rule ps depth closing) (parts_one rule ps one depth closing) (apart rule ps depth closing told) 0

pub one_open_choice : OneOpenChoice
unfolding Reads parts_of
one_open_choice rule ps one told depth closing =
    open_choice_one rule (parts_of rule ps depth closing) (IsFirstOf ps) (count ps) (ReadsAny rule) (first_in rule ps depth closing) (one_choice rule ps one told depth closing) (any_one rule)

pub one_option : OneOption
unfolding Reads parts_of
one_option rule tag s one depth closing = perhaps_one (form rule) (one_tag tag) absent (Reads rule s depth closing) (one depth closing) closing

pub one_sequence : OneSequence
unfolding Reads parts_of
one_sequence rule tag ps one depth closing = λ input t u r o h k.
    inside_one (λ c. ReadsSeq rule (parts_of rule ps (depth - 1) c) c)
    (λ c. seq_one rule (parts_of rule ps (depth - 1) c) (parts_one rule ps one (depth - 1) c) c) input t u r o h.1 k.1

pub one_set : OneSet
unfolding Reads parts_of
one_set rule tag ps one told depth closing = λ input t u r o h k.
    inside_one (λ c. ReadsSet rule (presences ps) (ReadsChoice rule 0 (parts_of rule ps (depth - 1) c)) c)
    (λ c. set_one rule (presences ps) (ReadsChoice rule 0 (parts_of rule ps (depth - 1) c))
    (choice_one rule (parts_of rule ps (depth - 1) c) (parts_one rule ps one (depth - 1) c) (apart rule ps (depth - 1) c told) 0) c) input t u r o h.1 k.1

pub one_sorted_set : OneSortedSet
unfolding Reads parts_of
one_sorted_set rule extensible tag ps one told depth closing = λ input t u r o h k.
    inside_one (λ c. ReadsSortedSet rule extensible (presences ps) (count ps) (ReadsOpenChoice rule (IsFirstOf ps) (count ps) (ReadsChoice rule 0 (parts_of rule ps (depth - 1) c))) c)
    (λ c. sorted_set_one rule extensible (presences ps) (count ps) (ReadsOpenChoice rule (IsFirstOf ps) (count ps) (ReadsChoice rule 0 (parts_of rule ps (depth - 1) c))) (one_open_choice rule ps one told (depth - 1) c) c)
    input t u r o h.1 k.1

pub one_sequence_of : OneSequenceOf
unfolding Reads parts_of
one_sequence_of rule tag s size one depth closing = λ input t u r o h k.
    inside_one (λ c. ReadsList size (Reads rule s (depth - 2) c) c)
    (list_one size (λ c. Reads rule s (depth - 2) c) (λ c. one (depth - 2) c)) input t u r o h.1 k.1

pub one_set_of : OneSetOf
unfolding Reads parts_of
one_set_of rule tag s size one depth closing = λ input t u r o h k.
    inside_one (λ c. ReadsSetOf rule size (Reads rule s (depth - 2) c) c)
    (set_of_one rule size (λ c. Reads rule s (depth - 2) c) (λ c. one (depth - 2) c)) input t u r o h.1 k.1

pub one_unknown : OneUnknown
unfolding Reads parts_of
one_unknown rule depth closing = list_one None (λ c. ReadsAny rule) (λ c. any_one rule) closing

-- The parts of lawful shapes are lawful or unknown values, and distinguished where they have to be.
abbrev pub EachLawful : Parts → Type 0
EachLawful none = Unit {0}
EachLawful (part presence s ps) = (IsLawful s ⊎ (s ≡ unknown)) × EachLawful ps

alternatives_lawful : (ps : Parts) → AreAlternatives ps → EachLawful ps
unfolding IsLawful
alternatives_lawful none h = tt
alternatives_lawful (part presence s ps) h = (inl h.3, alternatives_lawful ps h.4)

in_order_lawful : (ps : Parts) → AreLawfulInOrder ps → EachLawful ps
unfolding IsLawful
in_order_lawful none h = tt
in_order_lawful (part presence s ps) (inl h) = (inr h.1, subst EachLawful (sym h.2) tt)
in_order_lawful (part presence s ps) (inr h) = (inl h.1, in_order_lawful ps h.3)

not_below_itself : (n : Tag) → IsTagBelow n n → ⊥
not_below_itself n (inl h) = omega arith
not_below_itself n (inr h) = omega (arith, h.1)

by_tag_lawful : (ps : Parts) → AreLawfulByTag ps → EachLawful ps × AreDistinguished ps
unfolding IsLawful
by_tag_lawful none h = (tt, tt)
by_tag_lawful (part presence s ps) h = let r = by_tag_lawful ps h.5 in ((inl h.3, r.0), (λ n p q. not_below_itself n (h.4 n n p q), r.1))

components_lawful : (ps : Parts) → AreComponents ps → EachLawful ps
unfolding IsLawful
components_lawful none h = tt
components_lawful (part presence s ps) h = (inl h.3, components_lawful ps h.4)

mutual
  unfolding IsLawful

  pub reads_one : (s : Shape) → IsLawful s → (rule : Codec) → IsReadOnce rule s
  reads_one (leaf kind tag bounds) lawful rule = one_leaf rule kind tag bounds
  reads_one (any tag) lawful rule = one_open rule tag
  reads_one (prefix tag s) lawful rule = one_prefix rule tag s (reads_one s lawful.2 rule)
  reads_one (choice ps) lawful rule = one_choice rule ps (each_one ps (alternatives_lawful ps lawful.0) rule) lawful.1
  reads_one (open_choice ps) lawful rule = one_open_choice rule ps (each_one ps (alternatives_lawful ps lawful.0) rule) lawful.1
  reads_one (option tag s) lawful rule = one_option rule tag s (reads_one s lawful.2 rule)
  reads_one (seq tag ps) lawful rule = one_sequence rule tag ps (each_one ps (in_order_lawful ps lawful.1) rule)
  reads_one (set tag ps) lawful rule = let l = by_tag_lawful ps lawful.1 in one_set rule tag ps (each_one ps l.0 rule) l.1
  reads_one (sorted_set extensible tag ps) lawful rule = one_sorted_set rule extensible tag ps (each_one ps (components_lawful ps lawful.1) rule) lawful.2
  reads_one (list tag s size) lawful rule = one_sequence_of rule tag s size (reads_one s lawful.2 rule)
  reads_one (set_of tag s size) lawful rule = one_set_of rule tag s size (reads_one s lawful.2 rule)
  reads_one unknown lawful rule = absurd lawful

  each_one : (ps : Parts) → EachLawful ps → (rule : Codec) → AreReadOnce rule ps
  each_one none lawful rule = tt
  each_one (part presence s ps) (inl lawful, rest) rule = (reads_one s lawful rule, each_one ps rest rule)
  each_one (part presence s ps) (inr e, rest) rule = (subst (IsReadOnce rule) (sym e) (one_unknown rule), each_one ps rest rule)
