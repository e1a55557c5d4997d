-- Segments are strings, one after another.
use Rattle.std.proofs.Common.{◌≡◌, ℕ, List, [], ◌∷◌, ◌++◌, Bool, refl, sym, ap, ◌∙◌, subst}
use Rattle.rasn_types.specs.declared.types.tag.Tag.{Tag}
use Rattle.rasn_types.specs.declared.types.codec.Codec.{Codec}
use Rattle.rasn_types.specs.Readings.{ReadsMany}
use Rattle.rasn_types.specs.Contents.{joined_lists, ReadsString, ReadsSegments}

pub segments_many : {X : Type 0} {rule : Codec} {segment : List ℕ → List X → Type 0} {inner : Tag} {depth : ℕ} {closing : Bool} {input : List ℕ} {xs : List X} {rest : List ℕ}
    → ReadsSegments rule segment inner depth closing input xs rest → (parts : List (List X)) × (xs ≡ joined_lists parts) × ReadsMany (ReadsString rule segment inner depth inner) closing input parts rest
segments_many (ReadsSegments.none e) = ([], refl, (e, refl))
segments_many (ReadsSegments.one_more first others middle n s more is) =
    let m = segments_many more in (first ∷ m.0, is ∙ ap (λ l. first ++ l) m.1, (n, middle, s, m.2))

pub many_segments : {X : Type 0} {rule : Codec} {segment : List ℕ → List X → Type 0} {inner : Tag} {depth : ℕ} {closing : Bool} (input : List ℕ) (parts : List (List X)) (rest : List ℕ)
    → ReadsMany (ReadsString rule segment inner depth inner) closing input parts rest → ReadsSegments rule segment inner depth closing input (joined_lists parts) rest
many_segments {rule = rule} {segment} {inner} {depth} {closing} input [] rest (e, f) = subst (λ l. ReadsSegments rule segment inner depth closing input [] l) (sym f) (ReadsSegments.none e)
many_segments input (x ∷ xs) rest (n, middle, s, m) = ReadsSegments.one_more x (joined_lists xs) middle n s (many_segments middle xs rest m) refl
