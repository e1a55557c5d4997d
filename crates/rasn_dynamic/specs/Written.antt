-- The contents of a value that holds others, as they are written.
use Rattle.std.specs.Prelude.{◌≡◌, ◌⊎◌, ◌≤◌, ℕ, List, ◌++◌, Bool, length, Result, Err, OnOk, OnErr, IfErr}
use Rattle.rasn_types.specs.declared.types.codec.Codec.{Codec}
use Rattle.rasn_types.specs.declared.types.tag.Tag.{Tag}
use Rattle.rasn_types.specs.declared.error.encode.EncodeError.{EncodeError}
use Rattle.rasn_types.specs.Errors.{IsEncodeOutOfMemory}
use Rattle.rasn_types.specs.Tags.{IsTagBelow}
use Rattle.rasn_types.specs.Contents.{joined_lists}
use Rattle.rasn_types.specs.Shapes.{Tree, items, joined, IsSetTree, set_elements, count, Presence, required, Shape, leaf, any, prefix, choice, open_choice, option, seq, set, sorted_set, list, set_of, unknown, Parts, part, Admits}
use Rattle.rasn_types.specs.Bytes.{Bytes, fields_of, PartsWritten, NoneUntaggedOpen, TagsOf, Component, ComponentsOf, UnknownComponents, ComesBefore, contents_of, Each, AreAscending, AreInOrder, IsReordered, IsLess}
use Rattle.rasn_enc.specs.View.{View, LeavesOthers}
use Rattle.rasn_enc.specs.Encoding.{AppendsPart, EncodePartFails}
use Rattle.rasn_enc.specs.Sequence.{EncodesParts}
use Rattle.rasn_enc.specs.SortedSet.{HoldsParts, FailsAtComponents}
use Rattle.rasn_enc.specs.declared.ber.enc.set_parts.SetComponent.{SetComponent}
use Rattle.rasn_schema.specs.Shapes.{ends_unknown, known_parts}
use Rattle.rasn_enc.specs.SequenceOf.{AppendsElements, AppendsSetOf, FailsAtElement, FailsAtElements}

-- The outcome is an error that names these rules.
abbrev pub IsFormError : Codec → Result (Unit {0}) EncodeError → Type 0
IsFormError rule r = (e : EncodeError) × (r ≡ Err e) × (e.codec ≡ rule)

unfoldable pub WritesInside : Codec → Shape → Tree → List ℕ → Type 0
WritesInside rule (leaf kind tag bounds) t c = ⊥
WritesInside rule (any tag) t c = ⊥
WritesInside rule (prefix tag s) t c = Bytes rule s t c
WritesInside rule (choice ps) t c = ⊥
WritesInside rule (open_choice ps) t c = ⊥
WritesInside rule (option tag s) t c = ⊥
WritesInside rule (seq tag ps) t c = (ts : List Tree) × (bs : List (List ℕ)) × (t ≡ items ts) × PartsWritten (fields_of rule ps) ts bs × (c ≡ joined_lists bs)
WritesInside rule (set tag ps) t c = (ts : List Tree) × (bs : List (List ℕ)) × (tags : List Tag) × (t ≡ items ts) × PartsWritten (fields_of rule ps) ts bs
    × NoneUntaggedOpen (fields_of rule ps) ts bs × TagsOf bs tags × AreAscending IsTagBelow tags × (c ≡ joined_lists bs)
WritesInside rule (sorted_set extensible tag ps) t c = (ts : List Tree) × (us : List Tree) × (bs : List (List ℕ)) × (cs : List Component) × (es : List Component) × (ds : List Component)
    × IsSetTree extensible ts us t × PartsWritten (fields_of rule ps) ts bs × ComponentsOf rule 0 ps bs cs × UnknownComponents (count ps) us es
    × IsReordered (cs ++ es) ds × AreInOrder ComesBefore ds × (c ≡ contents_of ds)
WritesInside rule (list tag s size) t c = (ts : List Tree) × (bs : List (List ℕ)) × (t ≡ items ts) × Admits ◌≤◌ size (length ts) × Each (Bytes rule s) ts bs × (c ≡ joined_lists bs)
WritesInside rule unknown t c = ⊥
WritesInside rule (set_of tag s size) t c = (ts : List Tree) × (bs : List (List ℕ)) × (t ≡ set_elements (items ts)) × Admits ◌≤◌ size (length ts) × Each (Bytes rule s) ts bs
    × AreAscending IsLess bs × (c ≡ joined_lists bs)

-- The tag of a value that holds others.
abbrev pub IsEnclosed : Shape → Tag → Type 0
IsEnclosed (leaf kind tag bounds) u = ⊥
IsEnclosed (any tag) u = ⊥
IsEnclosed (prefix tag s) u = u ≡ tag
IsEnclosed (choice ps) u = ⊥
IsEnclosed (open_choice ps) u = ⊥
IsEnclosed (option tag s) u = ⊥
IsEnclosed (seq tag ps) u = u ≡ tag
IsEnclosed (set tag ps) u = u ≡ tag
IsEnclosed (sorted_set extensible tag ps) u = u ≡ tag
IsEnclosed (list tag s size) u = u ≡ tag
IsEnclosed (set_of tag s size) u = u ≡ tag
IsEnclosed unknown u = ⊥

-- The shape of a value that holds others, whose contents are written between its header and its end.
abbrev pub HoldsOthers : Shape → Type 0
HoldsOthers (leaf kind tag bounds) = ⊥
HoldsOthers (any tag) = ⊥
HoldsOthers (prefix tag s) = Unit {0}
HoldsOthers (choice ps) = ⊥
HoldsOthers (open_choice ps) = ⊥
HoldsOthers (option tag s) = ⊥
HoldsOthers (seq tag ps) = Unit {0}
HoldsOthers (set tag ps) = Unit {0}
HoldsOthers (sorted_set extensible tag ps) = Unit {0}
HoldsOthers (list tag s size) = Unit {0}
HoldsOthers (set_of tag s size) = Unit {0}
HoldsOthers unknown = ⊥

-- What a call that writes a component returns, and the encoder's state after it.
pub record EncodesPart (p : Presence) (s : Shape) (t : Tree) (v : View) (r : Result (Unit {0}) EncodeError) (w : View) : Type 0 where
  pub ok : OnOk r (AppendsPart p s t v w)
  pub refused : IfErr r (EncodePartFails p s t v)

-- The same of a value.
abbrev pub Encodes : Shape → Tree → View → Result (Unit {0}) EncodeError → View → Type 0
Encodes = EncodesPart required

-- What a call that writes the contents of an open value returns, and the encoder's state after it.
pub record EncodesInside (s : Shape) (t : Tree) (v : View) (r : Result (Unit {0}) EncodeError) (w : View) : Type 0 where
  pub ok : OnOk r (WritesInside v.rule s t w.last.octets)
  pub refused : IfErr r (λ e. IsEncodeOutOfMemory e.kind ⊎ ((c : List ℕ) → WritesInside v.rule s t c → ⊥))

-- The same of elements, one after the other, and of those of a SET OF.
pub record EncodesElements (s : Shape) (ts : List Tree) (v : View) (r : Result (Unit {0}) EncodeError) (w : View) : Type 0 where
  pub ok : OnOk r (AppendsElements s ts v w)
  pub refused : IfErr r (FailsAtElement s ts v.rule)

pub record EncodesSetOf (s : Shape) (ts : List Tree) (v : View) (r : Result (Unit {0}) EncodeError) (w : View) : Type 0 where
  pub ok : OnOk r (AppendsSetOf s ts v w)
  pub refused : IfErr r (FailsAtElements s ts v.rule)

-- Only a value that fits is written, and of one that fits the call does this. Its error names these rules, and what is kept holds always.
pub record OnlyFitting (Fitting Does Kept : Type 0) (rule : Codec) (r : Result (Unit {0}) EncodeError) : Type 0 where
  pub fits : OnOk r Fitting
  pub does : Fitting → Does
  pub keeps : Kept
  pub rules : IfErr r (λ e. e.codec ≡ rule)

-- A component or a value that isn't written leaves the encoder as it was.
abbrev pub EncodesPartIf : Type 0 → Presence → Shape → Tree → View → Result (Unit {0}) EncodeError → View → Type 0
EncodesPartIf F p s t v r w = OnlyFitting F (EncodesPart p s t v r w) (OnErr r (w ≡ v)) v.rule r

abbrev pub EncodesIf : Type 0 → Shape → Tree → View → Result (Unit {0}) EncodeError → View → Type 0
EncodesIf F s t v r w = OnlyFitting F (Encodes s t v r w) (OnErr r (w ≡ v)) v.rule r

-- What is written inside a value leaves the lists below it as they were.
abbrev pub EncodesInsideIf : Type 0 → Shape → Tree → View → Result (Unit {0}) EncodeError → View → Type 0
EncodesInsideIf F s t v r w = OnlyFitting F (EncodesInside s t v r w) (LeavesOthers v w) v.rule r

abbrev pub EncodesPartsIf : Type 0 → Parts → Tree → View → Result (Unit {0}) EncodeError → View → Type 0
EncodesPartsIf F ps t v r w = OnlyFitting F (EncodesParts ps t v r w) (LeavesOthers v w) v.rule r

abbrev pub EncodesElementsIf : Type 0 → Shape → List Tree → View → Result (Unit {0}) EncodeError → View → Type 0
EncodesElementsIf F s ts v r w = OnlyFitting F (EncodesElements s ts v r w) (LeavesOthers v w) v.rule r

abbrev pub EncodesSetOfIf : Type 0 → Shape → List Tree → View → Result (Unit {0}) EncodeError → View → Type 0
EncodesSetOfIf F s ts v r w = OnlyFitting F (EncodesSetOf s ts v r w) (LeavesOthers v w) v.rule r

-- ---- the components of a SET, each of which is written alone

-- The writer holds the components of a SET in the order of their tags.
abbrev pub HoldsSet : Parts → Tree → Codec → List SetComponent → Type 0
HoldsSet ps tree rule xs = HoldsParts (ends_unknown ps) (known_parts ps) tree rule xs

abbrev pub FailsAtSet : Parts → Tree → Codec → EncodeError → Type 0
FailsAtSet ps tree rule e = FailsAtComponents (ends_unknown ps) (known_parts ps) tree rule e

-- One more part is put among those after it, or is left out.
abbrev pub AddsPart : Presence → Shape → Tree → Codec → List SetComponent → List SetComponent → Type 0
AddsPart p s t rule xs ys = (extensible : Bool) (ps : Parts) (tree : Tree) → HoldsParts extensible ps tree rule xs → HoldsParts extensible (part p s ps) (joined t tree) rule ys

-- This part isn't written, whatever is after it.
abbrev pub FailsAtPart : Presence → Shape → Tree → Codec → EncodeError → Type 0
FailsAtPart p s t rule e = (extensible : Bool) (ps : Parts) (tree : Tree) → FailsAtComponents extensible (part p s ps) (joined t tree) rule e
