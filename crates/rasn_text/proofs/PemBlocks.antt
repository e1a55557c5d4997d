-- Blocks of PEM, one after the other.
use Rattle.std.proofs.Common.{◌≡◌, ◌≢◌, ◌++◌, ◌∷◌, [], ℕ, Bool, true, false, List, Option, Some, None, Bor, MatchBool, MatchOption, Result, Ok, Err, Vec, ap, drop, get_or, length, map, refl, subst, sym, take, ◌+◌, ◌-◌, ◌<◌, ◌≤◌, ◌∙◌, arith}
use Rattle.std.specs.Prelude.{option_to_list}
use Rattle.std.proofs.lemmas.List.Elements.{All-nil, All-cons}
use Rattle.std.proofs.lemmas.List.{append_assoc, append-nil, drop_all, drop_at, drop_more, drop-map, length-append, length-drop, length-map, take-append-drop, take_all}
use Rattle.std.proofs.Math.Seq.{drop-append_seam, take-append_seam}
use Rattle.rasn_types.specs.Truth.{IsWhether}
use Rattle.std.specs.Global.{Global}
use Rattle.rasn_text.specs.declared.pem.Block.{Block}
use Rattle.rasn_text.specs.declared.pem.PemError.{PemError}
use Rattle.rasn_text.specs.declared.pem.PemError.TheVariants.{End, Base64}
use Rattle.rasn_text.specs.Pem.{begin, dashes, end, trimmed, IsBoundary, IsNoBoundary, IsContents, IsNextBlock, AreBlocks}

-- ---- what begins and ends a block

cancel : (w x y : List ℕ) → w ++ x ≡ w ++ y → x ≡ y
cancel w x y e = sym (drop-append_seam w x) ∙ (ap (drop (length w)) e ∙ drop-append_seam w y)

pub boundary : (words label line text behind : List ℕ) → text ≡ trimmed line → text ≡ words ++ behind → behind ≡ label ++ dashes → IsBoundary words label line
boundary words label line text behind e f g = sym e ∙ (f ∙ ap (λ z. words ++ z) g)

pub other_words : (words line text : List ℕ) → text ≡ trimmed line → ((rest : List ℕ) → text ≢ words ++ rest) → IsNoBoundary words line
other_words words line text e other label is = other (label ++ dashes) (e ∙ is)

pub no_dashes : (words line text behind : List ℕ) → text ≡ trimmed line → text ≡ words ++ behind → ((front : List ℕ) → behind ≢ front ++ dashes) → IsNoBoundary words line
no_dashes words line text behind e f other label is = other label (cancel words behind (label ++ dashes) (sym f ∙ (e ∙ is)))

pub label_of : (words line text behind : List ℕ) (r : Option (Bor (List ℕ))) → text ≡ trimmed line → text ≡ words ++ behind
    → MatchOption r ((front : List ℕ) → behind ≢ front ++ dashes) (λ x. behind ≡ x.now ++ dashes) → MatchOption r (IsNoBoundary words line) (λ label. IsBoundary words label.now line)
label_of words line text behind None e f q = no_dashes words line text behind e f q
label_of words line text behind (Some x) e f q = boundary words x.now line text behind e f q

-- The label of a line is the only one.
cancel_back : (x y z : List ℕ) → x ++ z ≡ y ++ z → x ≡ y
cancel_back x y z e =
    let l : length x ≡ length y = omega (arith, sym (length-append x z) ∙ (ap length e ∙ length-append y z)) in
    sym (take-append_seam x z) ∙ (ap (take (length x)) e ∙ (ap (λ n. take n (y ++ z)) l ∙ take-append_seam y z))

pub whether_last : (line last label : List ℕ) (b : Bool) → IsBoundary end last line → MatchBool b (last ≡ label) (last ≢ label) → IsWhether b (IsBoundary end label line)
whether_last line last label true bound is = subst (λ z. IsBoundary end z line) is bound
whether_last line last label false bound other = λ is. other (cancel_back last label dashes (cancel end (last ++ dashes) (label ++ dashes) (sym bound ∙ is)))

-- ---- blocks

-- A line that begins no block is skipped.
skip : (count : ℕ) (l : List ℕ) (ls : List (List ℕ)) (bs : List Block) → IsNoBoundary begin l → AreBlocks count ls bs → AreBlocks count (l ∷ ls) bs
skip count l ls [] n all = All-cons (IsNoBoundary begin) l ls n all
skip count l ls (b ∷ bs) n (before, first, more, after, is, none, bound, contents, number, rest) = (l ∷ before, first, more, after, ap (λ z. l ∷ z) is, All-cons (IsNoBoundary begin) l before n none, bound, contents, number, rest)

-- A line that begins one is its first.
block : (count : ℕ) (l : List ℕ) (more after : List (List ℕ)) (b : Block) (bs : List Block) → IsBoundary begin b.label.now l → IsContents b.label.now more b.contents after → b.line + length more ≡ count → AreBlocks count after bs → AreBlocks count (l ∷ more) (b ∷ bs)
block count l more after b bs bound contents number rest = ([], l, more, after, refl, All-nil (IsNoBoundary begin), bound, contents, number, rest)

pub onward : (count number : ℕ) (lines : List (List ℕ)) (blocks : List Block) (line : List ℕ) (following remaining : List (List ℕ)) (found : Option Block) → number + length following ≡ count
    → ((bs : List Block) → AreBlocks count (line ∷ following) bs → AreBlocks count lines (blocks ++ bs)) → IsNextBlock number line following found remaining
    → (bs : List Block) → AreBlocks count remaining bs → AreBlocks count lines ((blocks ++ option_to_list found) ++ bs)
onward count number lines blocks line following remaining None k h n bs a = subst (λ z. AreBlocks count lines (z ++ bs)) (sym (append-nil blocks)) (h bs (skip count line following bs n.0 (subst (λ z. AreBlocks count z bs) n.1 a)))
onward count number lines blocks line following remaining (Some b) k h n bs a =
    subst (λ z. AreBlocks count lines z) (sym (append_assoc blocks (b ∷ []) bs)) (h (b ∷ bs) (block count line following remaining b bs n.0 n.1 (ap (λ z. z + length following) n.2 ∙ k) a))

-- The lines after a block are the last of those after its first.
pub after_contents : (label : List ℕ) (lines after : List (List ℕ)) (r : Result (Vec ℕ Global) PemError) → IsContents label lines r after → (front : List (List ℕ)) × (lines ≡ front ++ after)
after_contents label lines after (Ok octets) (body, (last, is, inside, bound), encode) = (body ++ last ∷ [], is ∙ sym (append_assoc body (last ∷ []) after))
after_contents label lines after (Err (Base64 e)) (body, (last, is, inside, bound), none) = (body ++ last ∷ [], is ∙ sym (append_assoc body (last ∷ []) after))
after_contents label lines after (Err End) (body, is, inside, over) = (body, is)

after_next : (number : ℕ) (line : List ℕ) (following remaining : List (List ℕ)) (found : Option Block) → IsNextBlock number line following found remaining → (front : List (List ℕ)) × (following ≡ front ++ remaining)
after_next number line following remaining None n = ([], sym n.1)
after_next number line following remaining (Some b) n = after_contents b.label.now following remaining b.contents n.1

-- The lines that are left are those from where they begin.
left_over : (lines front remaining : List (List ℕ)) (n : ℕ) → lines ≡ front ++ remaining → n ≡ length lines - length remaining → drop n lines ≡ remaining
left_over lines front remaining n e is = rw e (drop_at front remaining n (omega (arith, is, ap length e, length-append front remaining)))

-- What is found in the lines that are left goes on what was found before.
pub found_at : (lines more : List (Bor (List ℕ))) (place : ℕ) (line : List ℕ) (following : List (List ℕ)) (blocks grown : List Block) (found : Option Block) → place < length lines → drop place (map (λ x. x.now) lines) ≡ line ∷ following
    → ((bs : List Block) → AreBlocks (length lines) (drop place (map (λ x. x.now) lines)) bs → AreBlocks (length lines) (map (λ x. x.now) lines) (blocks ++ bs))
    → IsNextBlock (place + 1) line following found (map (λ x. x.now) more) → grown ≡ blocks ++ option_to_list found
    → (length lines - length more ≤ length lines) × ((bs : List Block) → AreBlocks (length lines) (drop (length lines - length more) (map (λ x. x.now) lines)) bs → AreBlocks (length lines) (map (λ x. x.now) lines) (grown ++ bs))
found_at lines more place line following blocks grown found below e h next g =
    let all : List (List ℕ) = map (λ x. x.now) lines in
    let rest : List (List ℕ) = map (λ x. x.now) more in
    let (front, is) = after_next (place + 1) line following rest found next in
    let whole : all ≡ (take place all ++ line ∷ front) ++ rest = sym (take-append-drop place all) ∙ (ap (λ z. take place all ++ z) (e ∙ ap (λ z. line ∷ z) is) ∙ sym (append_assoc (take place all) (line ∷ front) rest)) in
    let begins : drop (length lines - length more) all ≡ rest = left_over all (take place all ++ line ∷ front) rest (length lines - length more) whole (omega (arith, length-map lines (λ x. x.now), length-map more (λ x. x.now))) in
    let counted : place + 1 + length following ≡ length lines = omega (arith, below, ap length e, length-drop place all, length-map lines (λ x. x.now)) in
    (omega arith, λ bs a. rw g (onward (length lines) (place + 1) all blocks line following rest found counted (λ b z. h b (rw e z)) next bs (subst (λ z. AreBlocks (length lines) z bs) begins a)))

-- A line, and those after it.
pub line_and_rest : (lines : List (Bor (List ℕ))) (place : ℕ) (d : Bor (List ℕ)) → place < length lines
    → drop place (map (λ x. x.now) lines) ≡ (get_or lines place d).now ∷ map (λ x. x.now) (take (length lines - (place + 1)) (drop (place + 1) lines))
line_and_rest lines place d h =
    let f : List (Bor (List ℕ)) → List (List ℕ) = λ z. map (λ x. x.now) z in
    drop-map (λ x. x.now) place lines ∙ (ap f (drop_more lines place d h) ∙ ap (λ z. (get_or lines place d).now ∷ f z) (sym (take_all (length lines - (place + 1)) (drop (place + 1) lines) (omega (arith, length-drop (place + 1) lines)))))

-- Where no line is left, all blocks are found.
pub all_found : (count : ℕ) (lines : List (List ℕ)) (place : ℕ) (blocks : List Block) → length lines ≤ place
    → ((bs : List Block) → AreBlocks count (drop place lines) bs → AreBlocks count lines (blocks ++ bs)) → AreBlocks count lines blocks
all_found count lines place blocks past h = subst (λ z. AreBlocks count lines z) (append-nil blocks) (h [] (rw (drop_all place lines past) (All-nil (IsNoBoundary begin))))
