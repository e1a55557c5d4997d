-- RELATIVE-OID (X.680 33, X.690 8.20), whose values are those of an OBJECT IDENTIFIER: the first two arcs hold the first one.
use Rattle.std.specs.Prelude.{◌≡◌, ◌≢◌, ℕ, ◌+◌, ◌-◌, ◌*◌, ◌/◌, min, All, List, [], ◌∷◌, ◌++◌}
use Rattle.std.specs.List.{flat_map}
use Rattle.std.specs.Fmt.{decimal}
use Rattle.rasn_types.specs.Contents.{Arcs, IsObjectIdentifier}
use Rattle.rasn_types.specs.Text.{point_and_arc, dotted, IsSmall}

-- Contents octets: arcs, one after another, of which there is at least one.
abbrev pub IsRelativeOid : List ℕ → List ℕ → Type 0
IsRelativeOid l arcs = (arcs ≢ []) × Arcs l arcs

-- The arcs of an OBJECT IDENTIFIER whose first subidentifier is the first arc (X.690 8.19.4).
abbrev pub held_arcs : List ℕ → List ℕ
held_arcs [] = []
held_arcs (s ∷ ns) = min 2 (s / 40) ∷ (s - 40 * min 2 (s / 40)) ∷ ns

-- These are the same octets.
abbrev pub AreTheSameOctets : Type 0
AreTheSameOctets = ((l arcs : List ℕ) → IsRelativeOid l arcs → IsObjectIdentifier l (held_arcs arcs))
    × ((l held : List ℕ) → IsObjectIdentifier l held → (arcs : List ℕ) × IsRelativeOid l arcs × (held ≡ held_arcs arcs))

abbrev pub first_arc : List ℕ → ℕ
first_arc (x ∷ y ∷ l) = 40 * x + y
first_arc l = 0

-- The arcs that are held, in decimal with a point between each two.
abbrev pub relative_text : List ℕ → List ℕ
relative_text (x ∷ y ∷ l) = decimal (40 * x + y) ++ flat_map point_and_arc l
relative_text l = decimal 0

abbrev pub IsRelativeText : List ℕ → List ℕ → Type 0
IsRelativeText text held = (arcs : List ℕ) × (arcs ≢ []) × All IsSmall arcs × (text ≡ dotted arcs) × (held ≡ held_arcs arcs)
