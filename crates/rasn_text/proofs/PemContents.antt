-- The lines of a text, and those of a block.
use Rattle.std.proofs.Common.{◌≡◌, ◌≢◌, ◌++◌, ◌∷◌, [], ℕ, Bool, true, false, Bor, List, Vec, Result, Ok, Err, ap, arith, drop, get_or, length, map, nat_eq, subst, sym, take, ◌-◌, ◌≤◌, ◌∙◌, ◌↔◌}
use Rattle.std.specs.Global.{Global}
use Rattle.std.specs.List.{All, filter, flat_map}
use Rattle.std.proofs.lemmas.List.{append_assoc, drop_more, flat_map_more, length-drop, take_all}
use Rattle.std.proofs.lemmas.List.Elements.{filter-append, All-append, All-cons, All-nil}
use Rattle.std.specs.Cmp.Lexicographic.{pointwise}
use Rattle.std.proofs.lemmas.Bool.Decides.{Decides-eqb}
use Rattle.std.proofs.lemmas.Slice.Eq.{starts_is}
use Rattle.base64.specs.Engines.{standard}
use Rattle.base64.specs.GeneralPurpose.{IsBytes, IsDecodeFailure, decode_of, encode_of}
use Rattle.base64.specs.declared.decode.DecodeError.{DecodeError}
use Rattle.base64.specs.declared.decode.DecodeAllocError.{DecodeAllocError}
use Rattle.base64.specs.declared.decode.DecodeAllocError.TheVariants.{DecodeError as Failed}
use Rattle.rasn_text.specs.declared.pem.PemError.{PemError}
use Rattle.rasn_text.specs.declared.pem.PemError.TheVariants.{End, Base64}
use Rattle.rasn_text.specs.Pem.{dashes, is_symbol, AreLines, IsInside, IsEnded, IsContents, IsDecoded}

more_flat : {X A : Type 0} (f : X → List A) (xs : List X) (x : X) → flat_map f xs ++ f x ≡ flat_map f (xs ++ x ∷ [])
more_flat f xs x = flat_map_more f [] xs x

-- ---- lines

pub more_lines : (text : List ℕ) (xs : List (List ℕ)) (line after rest : List ℕ) → text ≡ flat_map (λ l. l ++ 10 ∷ []) xs ++ rest → rest ≡ line ++ 10 ∷ after
    → text ≡ flat_map (λ l. l ++ 10 ∷ []) (xs ++ line ∷ []) ++ after
more_lines text xs line after rest e g =
    let f : List ℕ → List ℕ = λ l. l ++ 10 ∷ [] in
    e ∙ (ap (λ z. flat_map f xs ++ z) (g ∙ sym (append_assoc line (10 ∷ []) after)) ∙ (sym (append_assoc (flat_map f xs) (line ++ 10 ∷ []) after) ∙ ap (λ z. z ++ after) (more_flat f xs line)))

pub one_more : (xs : List (List ℕ)) (line : List ℕ) → All (All (λ c. c ≢ 10)) xs → All (λ c. c ≢ 10) line → All (All (λ c. c ≢ 10)) (xs ++ line ∷ [])
one_more xs line a b = All-append (All (λ c. c ≢ 10)) xs (line ∷ []) a (All-cons (All (λ c. c ≢ 10)) line [] b (All-nil (All (λ c. c ≢ 10))))

pub are_lines : (text : List ℕ) (all xs : List (List ℕ)) (last : List ℕ) → all ≡ xs ++ last ∷ [] → text ≡ flat_map (λ l. l ++ 10 ∷ []) xs ++ last → All (All (λ c. c ≢ 10)) xs → All (λ c. c ≢ 10) last → AreLines text all
are_lines text all xs last is e a b = record { front = xs; last = last; are = is; text_is = e; none_has = rw is (one_more xs last a b) }

-- ---- a block

pub body_grows : (lines body after : List (List ℕ)) (line : List ℕ) → lines ≡ body ++ line ∷ after → lines ≡ (body ++ line ∷ []) ++ after
body_grows lines body after line e = e ∙ sym (append_assoc body (line ∷ []) after)

pub symbols_grow : (symbols line : List ℕ) (body : List (List ℕ)) → symbols ≡ filter is_symbol (flat_map (λ l. l) body) → symbols ++ filter is_symbol line ≡ filter is_symbol (flat_map (λ l. l) (body ++ line ∷ []))
symbols_grow symbols line body e =
    ap (λ z. z ++ filter is_symbol line) e ∙ (sym (filter-append is_symbol (flat_map (λ l. l) body) line) ∙ ap (filter is_symbol) (more_flat (λ l. l) body line))

pub inside_grows : (body : List (List ℕ)) (line : List ℕ) → All IsInside body → IsInside line → All IsInside (body ++ line ∷ [])
inside_grows body line a b = All-append IsInside body (line ∷ []) a (All-cons IsInside line [] b (All-nil IsInside))

pub ended : (label symbols : List ℕ) (lines body after : List (List ℕ)) (r : Result (Vec ℕ Global) PemError) → IsDecoded symbols r → symbols ≡ filter is_symbol (flat_map (λ l. l) body) → IsEnded label lines body after → IsContents label lines r after
ended label symbols lines body after (Ok octets) d s e = (body, e, sym s ∙ d)
ended label symbols lines body after (Err (Base64 x)) d s e = (body, e, λ o a i. d o a (s ∙ i))
ended label symbols lines body after (Err End) d s e = absurd d

-- A line that doesn't begin with dashes is inside.
pub not_dashes : (line : List ℕ) (r : Bool) → r ≡ pointwise nat_eq dashes (take (length dashes) line) → r ≡ false → IsInside line
not_dashes line r value is rest e = let t : r ≡ true = (starts_is Decides-eqb line dashes r value).1 rest e in cc

-- The first of the lines, and those after it.
pub first_rest : (xs : List (Bor (List ℕ))) (d : Bor (List ℕ)) → 1 ≤ length xs → xs ≡ get_or xs 0 d ∷ take (length xs - 1) (drop 1 xs)
first_rest xs d h = drop_more xs 0 d h ∙ ap (λ z. get_or xs 0 d ∷ z) (sym (take_all (length xs - 1) (drop 1 xs) (omega (arith, length-drop 1 xs))))

-- The body goes on by a line that is inside.
pub goes_on : (lines rest more : List (Bor (List ℕ))) (line : Bor (List ℕ)) (symbols grown : List ℕ) → rest ≡ line ∷ more → IsInside line.now → grown ≡ symbols ++ filter is_symbol line.now
    → (length rest ≤ length lines) × (body : List (List ℕ)) × (map (λ x. x.now) lines ≡ body ++ map (λ x. x.now) rest) × All IsInside body × (symbols ≡ filter is_symbol (flat_map (λ x. x) body))
    → (length more ≤ length lines) × (body : List (List ℕ)) × (map (λ x. x.now) lines ≡ body ++ map (λ x. x.now) more) × All IsInside body × (grown ≡ filter is_symbol (flat_map (λ x. x) body))
goes_on lines rest more line symbols grown e i g (fewer, body, are, inside, s) =
    let f : List (Bor (List ℕ)) → List (List ℕ) = λ z. map (λ x. x.now) z in
    (omega (arith, ap length e), body ++ line.now ∷ [], body_grows (f lines) body (f more) line.now (are ∙ ap (λ z. body ++ f z) e), inside_grows body line.now inside i, g ∙ symbols_grow symbols line.now body s)

-- ---- results

abbrev IsGood : {A B : Type 0} → Result A B → Type 0
IsGood (Ok a) = Unit {0}
IsGood (Err b) = ⊥

pub other_result : {A B : Type 0} {a : A} {b : B} → Ok a ≡ Err b → ⊥
other_result {A} {B} e = subst (λ (r : Result A B). IsGood r) e tt

-- What base64 refuses is the base64 of no octets.
pub undecodable : (symbols : List ℕ) (failure : DecodeAllocError) (error : DecodeError) → failure ≡ Failed error → IsDecodeFailure standard symbols failure
    → ((octets : List ℕ) → IsBytes octets → (decode_of standard symbols ≡ Ok octets) ↔ (symbols ≡ encode_of standard octets))
    → (octets : List ℕ) → IsBytes octets → symbols ≢ encode_of standard octets
undecodable symbols failure error is failed strict octets a e =
    let refused : decode_of standard symbols ≡ Err error = subst (IsDecodeFailure standard symbols) is failed in
    other_result (sym ((strict octets a).1 e) ∙ refused)
