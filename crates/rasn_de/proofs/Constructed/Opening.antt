-- The steps by which values are opened and closed.
use Rattle.std.proofs.Common.{◌≡◌, ◌≢◌, ℕ, true, false, ◌&&◌, not, List, [], ◌∷◌, Result, Ok, Err, refl, sym, ap, ◌∙◌, subst, arith}
use Rattle.std.specs.Prelude.{nat_eq}
use Rattle.std.proofs.lemmas.Bool.Decides.{nat_tests}
use Rattle.rasn_types.specs.declared.types.codec.Codec.{Codec}
use Rattle.rasn_types.specs.declared.error.decode.DecodeError.{DecodeError}
use Rattle.rasn_types.specs.Framing.{Extent, definite, indefinite}
use Rattle.rasn_de.specs.declared.ber.de.parser.ParseError.{ParseError}
use Rattle.rasn_de.specs.declared.ber.de.parser.ParseError.TheVariants.{ExceedsMaxParseDepth, InvalidConstructedIdentifier}
use Rattle.rasn_de.specs.declared.ber.de.parser.Value.{Value}
use Rattle.rasn_de.specs.declared.ber.de.parser.headers.Expected.{Expected}
use Rattle.rasn_de.specs.Headers.{Header, header_at}
use Rattle.rasn_de.specs.Segments.{end_at, definite_end}
use Rattle.rasn_de.specs.ParserViews.{header_with}
use Rattle.rasn_de.specs.State.{State, at, IsEnd}
use Rattle.rasn_de.specs.Steps.{IsErrorOf, Consumes}
use Rattle.rasn_types.specs.Tags.{form}
use Rattle.rasn_de.specs.declared.ber.de.constructed.ConstructedHeader.{ConstructedHeader}
use Rattle.rasn_de.specs.Constructed.{expected_header, constructed_header_at, through, contents_state, Keeps, ConsumesOpening, ConsumesEnd}
use Rattle.rasn_de.proofs.Headers.Ends.{IsEnd-refl, IsEnd-trans, IsEnd-zeros}
use Rattle.rasn_de.proofs.Strings.Reads.{closed_parsed}

pub kept : (old : State) → Keeps old old
kept old = record { stays = refl; end = IsEnd-refl old.rest }

pub kept_same : (old new : State) → new ≡ old → Keeps old new
kept_same old new e = subst (Keeps old) (sym e) (kept old)

pub kept_at : (old new : State) (r : List ℕ) → new ≡ at old r → IsEnd old.rest r → Keeps old new
kept_at old new r e p = subst (Keeps old) (sym e) (record { stays = refl; end = p })

deep_enough : (depth : ℕ) → depth ≢ 0 → nat_eq depth 0 ≡ false
deep_enough depth n = grind (arith, nat_tests)

constructed_header_through : (d : ConstructedHeader) (rule : Codec) (depth : ℕ) (l : List ℕ) (r : Result Header ParseError) → depth ≢ 0 → header_at (form rule) (expected_header d rule) l ≡ r → constructed_header_at d rule depth l ≡ through d.must_be_constructed l r
constructed_header_through d rule depth l r n e = rw (deep_enough depth n, e) refl

-- the header that is asked for
expected_there : (d : ConstructedHeader) (old : State) (x : Expected) (r : Result Header ParseError) → x ≡ expected_header d old.rule → header_at (form old.rule) x old.rest ≡ r → header_at (form old.rule) (expected_header d old.rule) old.rest ≡ r
expected_there d old x r q h = subst (λ z. header_at (form old.rule) z old.rest ≡ r) q h

pub opens_deep : (d : ConstructedHeader) (old : State) (e : DecodeError) → old.depth ≡ 0 → IsErrorOf ExceedsMaxParseDepth old e → ConsumesOpening d old (Err e) old
opens_deep d old e z k = (ExceedsMaxParseDepth, rw z refl, k, kept old)

pub opens_none : (d : ConstructedHeader) (old new : State) (e : DecodeError) → old.depth ≢ 0 → (x : Expected) → x ≡ expected_header d old.rule → Consumes x old (Err e) new → ConsumesOpening d old (Err e) new
opens_none d old new e n x q (f, h, k, s) =
    (f, constructed_header_through d old.rule old.depth old.rest (Err f) n (expected_there d old x (Err f) q h) ∙ ap (λ (z : State). Err (f, z.rest)) (sym s), k, kept_same old new s)

pub opens_primitive : (d : ConstructedHeader) (old new : State) (v : Value) (e : DecodeError) → old.depth ≢ 0 → (x : Expected) → x ≡ expected_header d old.rule → Consumes x old (Ok v) new → d.must_be_constructed && not v.is_constructed ≡ true → IsErrorOf InvalidConstructedIdentifier new e → ConsumesOpening d old (Err e) new
opens_primitive d old new v e n x q (h, s, p) b k =
    (InvalidConstructedIdentifier, constructed_header_through d old.rule old.depth old.rest (Ok (header_with v new.rest)) n (expected_there d old x (Ok (header_with v new.rest)) q h) ∙ rw b refl, k ∙ ap (λ c. record { kind = Rattle.rasn_de.specs.Causes.error_kind InvalidConstructedIdentifier; codec = c }) (ap (λ (x : State). x.rule) s), record { stays = s; end = p })

pub opens_value : (d : ConstructedHeader) (old new inner : State) (v : Value) → old.depth ≢ 0 → (x : Expected) → x ≡ expected_header d old.rule → Consumes x old (Ok v) new → d.must_be_constructed && not v.is_constructed ≡ false
    → inner ≡ contents_state d old (header_with v new.rest) → ConsumesOpening d old (Ok (inner, v.contents)) new
opens_value d old new inner v n x q (h, s, p) b i =
    (header_with v new.rest, constructed_header_through d old.rule old.depth old.rest (Ok (header_with v new.rest)) n (expected_there d old x (Ok (header_with v new.rest)) q h) ∙ rw b refl, i, refl, s, record { stays = s; end = p })

-- Where a value is closed, an end of what is left is.
used_up_rest : (rest left r : List ℕ) → definite_end rest left ≡ Ok r → r ≡ rest
used_up_rest rest [] r e = cc
used_up_rest rest (b ∷ l) r e = cc

pub closed_end : (x : Extent) (rest left r : List ℕ) → (x ≡ indefinite → IsEnd rest left) → end_at x rest left ≡ Ok r → IsEnd rest r
closed_end (definite c) rest left r h e = subst (IsEnd rest) (sym (used_up_rest rest left r e)) (IsEnd-refl rest)
closed_end indefinite rest left r h e = IsEnd-trans rest left r (h refl) (IsEnd-zeros left r (closed_parsed left r e))

pub closes_ok : (x : Extent) (left : List ℕ) (old new : State) (r : List ℕ) → (x ≡ indefinite → IsEnd old.rest left) → end_at x old.rest left ≡ Ok r → new ≡ at old r → ConsumesEnd x left old (Ok tt) new
closes_ok x left old new r h e s =
    let P : State → Type 0 = λ n. ConsumesEnd x left old (Ok tt) n in
    subst P (sym s) (e, record { stays = refl; end = closed_end x old.rest left r h e })

pub closes_left : (left : List ℕ) (old new : State) (f : ParseError) (e : DecodeError) → IsEnd old.rest left → end_at indefinite old.rest left ≡ Err f → new ≡ at old left → IsErrorOf f new e → ConsumesEnd indefinite left old (Err e) new
closes_left left old new f e h k s m =
    let P : State → Type 0 = λ n. IsErrorOf f n e → ConsumesEnd indefinite left old (Err e) n in
    subst P (sym s) (λ m. (f, k, m, refl, record { stays = refl; end = h })) m

pub closes_contents : (x : Extent) (left : List ℕ) (old : State) (f : ParseError) (e : DecodeError) → x ≢ indefinite → end_at x old.rest left ≡ Err f → IsErrorOf f old e → ConsumesEnd x left old (Err e) old
closes_contents (definite c) left old f e n k m = (f, k, m, refl, kept old)
closes_contents indefinite left old f e n k m = absurd (n refl)
