-- What a string's function returns.
use Rattle.std.proofs.Common.{◌≡◌, ℕ, List, Result, Ok, Err, refl, subst, ◌∙◌}
use Rattle.std.specs.Prelude.{IfErr}
use Rattle.std.specs.Borrow.{Bor}
use Rattle.rasn_de.specs.declared.ber.de.parser.ParseError.{ParseError}
use Rattle.rasn_de.specs.declared.ber.de.parser.ParseError.TheVariants.{OutOfMemory}
use Rattle.rasn_types.specs.Framing.{Extent}
use Rattle.rasn_de.specs.Segments.{end_at, octets_inside, segments_in}
use Rattle.rasn_de.proofs.Strings.Segments.{segments, segments_in_parsed, segments_in_fault}
use Rattle.rasn_de.specs.ParserViews.{ParsesAs, ParsesSegments, SeesMore}
use Rattle.rasn_de.proofs.Headers.Memory.{NoMemory}
use Rattle.rasn_de.proofs.Strings.Bare.{end_none}

pub appends_finished : {X : Type 0} (read : List ℕ → Result (List X × List ℕ) ParseError) (whole bare : Result (List X × List ℕ) ParseError) (x : Extent) (rest left : List ℕ) (Old New : List X → Type 0) (xs : List X) (result : Result (Bor (List ℕ)) ParseError)
    → whole ≡ segments_in read x rest → segments read (octets_inside x rest) ≡ Ok (xs, left) → SeesMore xs Old New → ParsesAs (λ r. r.now) result (end_at x rest left) → ParsesSegments whole bare Old New result
appends_finished read whole bare x rest left Old New xs (Ok r) e f g h =
    let k = segments_in_parsed read x rest left xs f in
    (xs, e ∙ (k ∙ rw h refl), g)
appends_finished read whole bare x rest left Old New xs (Err d) e f g h =
    let k = segments_in_parsed read x rest left xs f in
    ((λ n. e ∙ (k ∙ rw h refl)), (λ m. absurd (subst NoMemory h (end_none x rest left) m)))

-- The end is refused for another reason than memory.
pub finished_plain : (A : Type 0) (x : Extent) (rest left : List ℕ) (result : Result (Bor (List ℕ)) ParseError) → ParsesAs (λ r. r.now) result (end_at x rest left) → IfErr result (λ e. e ≡ OutOfMemory → A)
finished_plain A x rest left (Ok r) h = tt
finished_plain A x rest left (Err d) h = λ m. absurd (subst NoMemory h (end_none x rest left) m)

pub appends_fault : {X : Type 0} (read : List ℕ → Result (List X × List ℕ) ParseError) (whole : Result (List X × List ℕ) ParseError) (x : Extent) (rest : List ℕ) (d : ParseError)
    → whole ≡ segments_in read x rest → segments read (octets_inside x rest) ≡ Err d → whole ≡ Err d
appends_fault read whole x rest d e f = e ∙ segments_in_fault read x rest d f
