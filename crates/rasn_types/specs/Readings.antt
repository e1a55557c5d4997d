-- How readings are combined. A reading relates an input to the value at its front, and to the rest.
use Rattle.std.specs.Prelude.{◌≡◌, ℕ, suc, ◌⊎◌, ◌≢◌, List, [], ◌∷◌, ◌++◌, Bool, true, false, Some, None}
use Rattle.rasn_types.specs.Tags.{Form, form, IsStrict, Codec, Tag, IsTagBelow}
use Rattle.rasn_types.specs.Framing.{Frame, definite, indefinite, Begins, NextTag, Ended}
use Rattle.rasn_types.specs.Shapes.{Tree, items, IsSetTree, chosen, absent, Same, Presence, required, addition, optional_by, default_by, Sought, one_tag, any_of}
use Rattle.rasn_types.specs.Order.{Each, AreAscending}

abbrev pub Reading : Type 0 → Type 1
Reading X = List ℕ → X → List ℕ → Type 0

-- The contents of one value: all of the definite form, or those up to the end-of-contents octets. The argument of
-- `inner` is `closing`.
pub data ReadsContents {X : Type 0} (rule : Codec) (tag : Tag) (bit : Bool) (inner : Bool → Reading X) (input : List ℕ) (x : X) (rest : List ℕ) : Type 0 where
  definite_form : (contents : List ℕ) → Frame (form rule) input tag bit rest (definite contents) → inner false contents x [] → ReadsContents rule tag bit inner input x rest
  indefinite_form : (body : List ℕ) → Frame (form rule) input tag bit body indefinite → inner true body x (0 ∷ 0 ∷ rest) → ReadsContents rule tag bit inner input x rest

-- Values, one after another, up to the end of the contents.
abbrev pub ReadsMany : {X : Type 0} → Reading X → Bool → List ℕ → List X → List ℕ → Type 0
ReadsMany reads closing input [] rest = Ended closing input × (rest ≡ input)
ReadsMany reads closing input (x ∷ xs) rest = (Ended closing input → ⊥) × (middle : List ℕ) × reads input x middle × ReadsMany reads closing middle xs rest

-- The octets from which each of these values is read.
abbrev pub ReadsFrom : {X : Type 0} → Reading X → List ℕ → List X → List ℕ → List (List ℕ) → Type 0
ReadsFrom reads input [] rest bs = (bs ≡ []) × (rest ≡ input)
ReadsFrom reads input (x ∷ xs) rest bs = (b : List ℕ) × (more : List (List ℕ)) × (middle : List ℕ) × (bs ≡ b ∷ more) × (input ≡ b ++ middle)
    × reads input x middle × ReadsFrom reads middle xs rest more

-- A value that may be left out is left out: the contents end, or another tag follows.
abbrev pub IsLeftOut : Form → Sought → Bool → List ℕ → Type 0
IsLeftOut spelling (one_tag (Some tag)) closing input = Ended closing input ⊎ ((next : Tag) × NextTag spelling input next × (next ≢ tag))
IsLeftOut spelling (one_tag None) closing input = Ended closing input
IsLeftOut spelling (any_of P) closing input = Ended closing input ⊎ ((next : Tag) × NextTag spelling input next × (P next → ⊥))

-- A value that may be left out is present: the contents don't end, and its tag or one of its tags follows, if it has
-- any.
abbrev pub IsPresent : Form → Sought → Bool → List ℕ → Type 0
IsPresent spelling (one_tag (Some tag)) closing input = (Ended closing input → ⊥) × NextTag spelling input tag
IsPresent spelling (one_tag None) closing input = Ended closing input → ⊥
IsPresent spelling (any_of P) closing input = (Ended closing input → ⊥) × (next : Tag) × NextTag spelling input next × P next

abbrev pub ReadsOptional : {X : Type 0} → Form → Sought → X → Reading X → Bool → Reading X
ReadsOptional spelling tags without reads closing input x rest =
    (IsLeftOut spelling tags closing input × (x ≡ without) × (rest ≡ input))
    ⊎ (IsPresent spelling tags closing input × reads input x rest)

-- A part of a SEQUENCE or SET, or an alternative of a CHOICE.
pub record Part : Type 1 where
  pub presence : Presence
  pub sought : Sought
  pub IsFirst : Tag → Type 0
  pub reads : Reading Tree

-- A part that is present isn't its default (11.5).
abbrev pub IsNoDefault : Presence → Tree → Type 0
IsNoDefault (default_by key d) t = Same t d → ⊥
IsNoDefault presence t = Unit {0}

abbrev pub ReadsPart : Codec → Presence → Sought → Reading Tree → Bool → Reading Tree
ReadsPart rule required tags reads closing = reads
ReadsPart rule addition tags reads closing = reads
ReadsPart rule (optional_by key) tags reads closing = ReadsOptional (form rule) tags absent reads closing
ReadsPart rule (default_by key d) tags reads closing =
    ReadsOptional (form rule) tags d (λ input t rest. reads input t rest × (IsStrict rule → IsNoDefault (default_by key d) t)) closing

-- The parts in order.
abbrev pub ReadsInOrder : Codec → List Part → Bool → List ℕ → List Tree → List ℕ → Type 0
ReadsInOrder rule [] closing input ts rest = (ts ≡ []) × (rest ≡ input)
ReadsInOrder rule (p ∷ ps) closing input ts rest = (t : Tree) × (us : List Tree) × (middle : List ℕ) × (ts ≡ t ∷ us)
    × ReadsPart rule p.presence p.sought p.reads closing input t middle × ReadsInOrder rule ps closing middle us rest

-- The tree of a part that is missing.
abbrev pub IsMissing : Presence → Tree → Type 0
IsMissing required t = ⊥
IsMissing (optional_by key) t = t ≡ absent
IsMissing addition t = t ≡ absent
IsMissing (default_by key d) t = t ≡ d

abbrev pub presences_in : List Part → List Presence
presences_in [] = []
presences_in (p ∷ ps) = p.presence ∷ presences_in ps

-- The trees of parts that are all missing.
abbrev pub AllMissing : List Presence → List Tree → Type 0
AllMissing [] ts = ts ≡ []
AllMissing (p ∷ ps) ts = (t : Tree) × (us : List Tree) × (ts ≡ t ∷ us) × IsMissing p t × AllMissing ps us

abbrev pub HasRequired : List Part → Type 0
HasRequired [] = ⊥
HasRequired (p ∷ ps) = (p.presence ≡ required) ⊎ HasRequired ps

-- All parts are left out: the contents are empty and in the definite form, and no part is required.
abbrev pub AreAllLeftOut : List Part → Bool → List ℕ → Type 0
AreAllLeftOut ps closing input = (HasRequired ps → ⊥) × (closing ≡ false) × (input ≡ [])

-- The contents of a SEQUENCE.
abbrev pub ReadsSeq : Codec → List Part → Bool → Reading Tree
ReadsSeq rule ps closing input t rest = (ts : List Tree) × (t ≡ items ts)
    × ((AreAllLeftOut ps closing input × AllMissing (presences_in ps) ts × (rest ≡ input)) ⊎ ((AreAllLeftOut ps closing input → ⊥) × ReadsInOrder rule ps closing input ts rest))

-- The alternative that has the next tag among its first tags. The first alternative has the number k. The alternatives
-- of a CHOICE are all required; of the parts of a SET, one with a default isn't its default under DER.
abbrev pub ReadsChoice : Codec → ℕ → List Part → Reading Tree
ReadsChoice rule k [] input t rest = ⊥
ReadsChoice rule k (p ∷ ps) input t rest =
    ((u : Tree) × (t ≡ chosen k u) × (next : Tag) × NextTag (form rule) input next × p.IsFirst next × p.reads input u rest × (IsStrict rule → IsNoDefault p.presence u))
    ⊎ ReadsChoice rule (suc k) ps input t rest

-- `NoneOf`: none of the readings is of part k. `OneOf`: exactly one is.
abbrev pub NoneOf : ℕ → List Tree → Type 0
NoneOf k [] = Unit {0}
NoneOf k (r ∷ rs) = ((u : Tree) → r ≢ chosen k u) × NoneOf k rs

pub record OneOf (k : ℕ) (t : Tree) (readings : List Tree) : Type 0 where
  pub before : List Tree
  pub after : List Tree
  pub is : readings ≡ before ++ (chosen k t ∷ after)
  pub none_before : NoneOf k before
  pub none_after : NoneOf k after

-- The readings, in any order, are these trees in the order of the parts: no part is read twice, and each required one
-- is read. The first part has the number k.
abbrev pub ByPart : ℕ → List Presence → List Tree → List Tree → Type 0
ByPart k [] readings ts = ts ≡ []
ByPart k (p ∷ ps) readings ts = (t : Tree) × (us : List Tree) × (ts ≡ t ∷ us)
    × (OneOf k t readings ⊎ (NoneOf k readings × IsMissing p t)) × ByPart (suc k) ps readings us

-- The tags that the lists begin with are in ascending order (9.3, 10.3).
abbrev pub AreInTagOrder : List (List ℕ) → Type 0
AreInTagOrder bs = (tags : List Tag) × Each Begins bs tags × AreAscending IsTagBelow tags

-- An unknown value, by a reading of any value: P holds of the first tags of the k parts, and not of its tag.
abbrev pub ReadsUnknown : Codec → (Tag → Type 0) → ℕ → Reading Tree → Reading Tree
ReadsUnknown rule P k reads input t rest = (u : Tree) × (t ≡ chosen k u) × (next : Tag) × NextTag (form rule) input next × (P next → ⊥) × reads input u rest

-- The contents of a SET whose parts have these presences: components, each of which is read as one of the parts.
abbrev pub ReadsSet : Codec → List Presence → Reading Tree → Bool → Reading Tree
ReadsSet rule ps reads closing input t rest = (readings : List Tree) × (ts : List Tree) × (t ≡ items ts)
    × ReadsMany reads closing input readings rest × ByPart 0 ps readings ts
    × (IsStrict rule → (bs : List (List ℕ)) × ReadsFrom reads input readings rest bs × AreInTagOrder bs)

-- The trees of the readings of part k, in their order.
abbrev pub AllOf : ℕ → List Tree → List Tree → Type 0
AllOf k [] us = us ≡ []
AllOf k (r ∷ rs) us = ((u : Tree) × (more : List Tree) × (r ≡ chosen k u) × (us ≡ u ∷ more) × AllOf k rs more) ⊎ (((u : Tree) → r ≢ chosen k u) × AllOf k rs us)

-- The contents of a SET that may have an extension marker: unknown components are anywhere among the others, and have
-- the number k, after those of the parts. Their trees are in the order in which they are read.
abbrev pub ReadsSortedSet : Codec → Bool → List Presence → ℕ → Reading Tree → Bool → Reading Tree
ReadsSortedSet rule extensible ps k reads closing input t rest = (readings : List Tree) × (ts : List Tree) × (us : List Tree) × IsSetTree extensible ts us t
    × ReadsMany reads closing input readings rest × ByPart 0 ps readings ts × AllOf k readings us
    × (IsStrict rule → (bs : List (List ℕ)) × ReadsFrom reads input readings rest bs × AreInTagOrder bs)
