-- Strings whose segments are seen.
use Rattle.std.proofs.Common.{◌≡◌, ◌≢◌, ◌≤◌, ◌<◌, ◌^◌, ℕ, inl, inr, ◌⊎◌, false, List, [], ◌++◌, length, Result, Ok, Err, refl, sym, ap, ◌∙◌, subst, arith, append_assoc}
use Rattle.std.specs.Prelude.{Some, None, IfErr}
use Rattle.std.specs.Borrow.{Bor}
use Rattle.std.proofs.lemmas.List.Elements.{All-nil}
use Rattle.std.proofs.lemmas.List.{length-append}
use Rattle.rasn_types.specs.declared.types.tag.Tag.{Tag}
use Rattle.rasn_types.specs.declared.types.codec.Codec.{Codec}
use Rattle.rasn_types.specs.declared.types.constraints.Constraints.{Constraints}
use Rattle.rasn_types.specs.declared.types.strings.alphabet.Alphabet.{Alphabet}
use Rattle.rasn_types.specs.CharacterString.{IsAdmitted}
use Rattle.rasn_types.specs.declared.error.decode.DecodeError.{DecodeError}
use Rattle.rasn_types.specs.Errors.{IsOutOfMemory}
use Rattle.rasn_types.specs.Framing.{AreOctets, definite}
use Rattle.rasn_types.specs.Tags.{form, in_universal}
use Rattle.rasn_types.specs.Shapes.{Kind, leaf, numbers}
use Rattle.rasn_de.specs.declared.ber.de.parser.ParseError.{ParseError}
use Rattle.rasn_de.specs.declared.ber.de.parser.ParseError.TheVariants.{OutOfMemory}
use Rattle.rasn_de.specs.declared.ber.de.parser.headers.Expected.TheVariants.{Tagged}
use Rattle.rasn_de.specs.Headers.{Header, header_at}
use Rattle.rasn_de.specs.Causes.{error_kind}
use Rattle.rasn_de.specs.Segments.{string_of, string_at, octets}
use Rattle.rasn_de.specs.ParserViews.{SeesMore}
use Rattle.rasn_de.specs.OctetString.{octet_string_at}
use Rattle.rasn_de.specs.CharacterString.{StringCheck, StringAt}
use Rattle.rasn_de.specs.Checks.{SeesString, Counts, Checks, ChecksText, IsAnyEncoding, ScansAlphabet, DecodesPrimitiveOctets}
use Rattle.rasn_de.specs.State.{State, at, IsEnd}
use Rattle.rasn_de.specs.Steps.{IsErrorOf}
use Rattle.rasn_de.proofs.Headers.NextTag.{kind_memory, memory_or}
use Rattle.rasn_de.proofs.Leaves.Errors.{refuses_fault}
use Rattle.rasn_de.proofs.Strings.CharacterString.{Fits, Borrows, borrows, borrowed_ungathered}
use Rattle.rasn_de.proofs.Strings.Ends.{string_ends}
use Rattle.rasn_de.proofs.Strings.Lengths.{items_fit}
use Rattle.rasn_de.proofs.Strings.Reads.{Reads, string_parsed}
use Rattle.rasn_de.proofs.Strings.Segments.{string_plain, string_plain_fault}

-- What follows a string ends the input.
pub seen_end : {X : Type 0} (rule : Codec) (segment : List ℕ → Result (List X) ParseError) (inner : Tag) (d : ℕ) (tag : Tag) (l : List ℕ) → AreOctets l
    → (xs : List X) (rest : List ℕ) → string_at rule segment inner d tag l ≡ Ok (xs, rest) → IsEnd l rest
seen_end rule segment inner d tag l o xs rest e = string_ends rule (Reads segment) inner d tag l xs rest (string_parsed rule segment inner d tag l (xs, rest) o e).0

-- ---- what a header and its contents tell
module _ {X : Type 0} (rule : Codec) (segment : List ℕ → Result (List X) ParseError) (inner : Tag) (d : ℕ) (tag : Tag) (l : List ℕ) where
  pub unseen : (f : ParseError) → header_at (form rule) (Tagged tag) l ≡ Err f → string_at rule segment inner d tag l ≡ Err f
  unseen f e = rw e refl

  module _ (h : Header) (e : header_at (form rule) (Tagged tag) l ≡ Ok h) where
    pub whole_seen : (c : List ℕ) (xs : List X) → (h.bit ≡ false) × (h.extent ≡ definite c) → segment c ≡ Ok xs → string_at rule segment inner d tag l ≡ Ok (xs, h.rest)
    whole_seen c xs (b, x) s = rw e (string_plain rule segment inner d h c xs b x s)

    pub whole_refused : (c : List ℕ) (f : ParseError) → (h.bit ≡ false) × (h.extent ≡ definite c) → segment c ≡ Err f → string_at rule segment inner d tag l ≡ Err f
    whole_refused c f (b, x) s = rw e (string_plain_fault rule segment inner d h c f b x s)

    pub parts_seen : (r : Result (List X × List ℕ) ParseError) → string_of rule segment inner d h ≡ r → string_at rule segment inner d tag l ≡ r
    parts_seen r w = rw e w

-- ---- what a call sees
pub seen_all : {X : Type 0} (segment : Codec → List ℕ → Result (List X) ParseError) (inner tag : Tag) (Old New : List X → Type 0) (old new : State) (rest : List ℕ) (xs : List X)
    → string_at old.rule (segment old.rule) inner old.depth tag old.rest ≡ Ok (xs, rest) → SeesMore xs Old New → new ≡ at old rest → SeesString segment inner tag Old New old (Ok tt) new
seen_all segment inner tag Old New old new rest xs h m e =
    let P : State → Type 0 = λ n. SeesString segment inner tag Old New old (Ok tt) n in
    subst P (sym e) (xs, h, refl, m)

-- The error of a fault is one of memory only if the fault is.
pub asks_memory : (A : Type 0) (old : State) (f : ParseError) (e : DecodeError) → IsErrorOf f old e → (f ≡ OutOfMemory → A) → IsOutOfMemory e.kind → A
asks_memory A old f e x g m = go (memory_or f)
  where
    go : (f ≡ OutOfMemory) ⊎ (f ≢ OutOfMemory) → A
    go (inl k) = g k
    go (inr n) = absurd {A = A} (kind_memory f n (sym (ap (λ (y : DecodeError). y.kind) x) ∙ m))

-- ---- what a call ensures that checks octets
module _ {kind : Kind} {bounds : Constraints} {Told : StringCheck} (fits : Fits kind bounds Told) (tag : Tag) (old new : State) (o : AreOctets old.rest) where
  abbrev pub Checked : Result (Unit {0}) DecodeError → Type 0
  Checked result = record {
    reads : Checks (leaf kind tag bounds) old result new;
    exact : ChecksText Told tag old result new;
    memory : IfErr result (λ e. IsOutOfMemory e.kind → ⊥);
    rules : IfErr result (λ e. e.codec ≡ old.rule);
  }

  refused : (e : DecodeError) → (IsOutOfMemory e.kind → ⊥) → Borrows fits (λ (l : List ℕ). l) IsAnyEncoding tag old new o (Err e) → Checked (Err e)
  refused e n g = record { reads = g.reads; exact = g.exact; memory = n; rules = g.rules }

  -- a string that can't be read
  pub check_unseen : (e : DecodeError) → SeesString (λ rule. octets) (in_universal 4) tag (λ (l : List ℕ). Unit {0}) (λ (l : List ℕ). Unit {0}) old (Err e) new → (IsOutOfMemory e.kind → ⊥) → Checked (Err e)
  check_unseen e (f, x, k, read) n =
      let plain : f ≢ OutOfMemory = λ m. n (ap (λ (y : DecodeError). y.kind) x ∙ ap error_kind m) in
      refused e n (borrowed_ungathered fits (λ (l : List ℕ). l) IsAnyEncoding tag old new o e (f, x, k, read, λ m. absurd (plain m)))

  module _ (xs : List ℕ) (h : octet_string_at old.rule old.depth tag old.rest ≡ Ok (xs, new.rest)) (s : new ≡ at old new.rest) where
    -- octets that pass the check
    pub check_passed : (ns : List ℕ) → Told xs (Ok ns) → Checked (Ok tt)
    check_passed ns a =
        let g = borrows fits (λ (l : List ℕ). l) IsAnyEncoding tag old new o (Ok ns) (((xs, h, a), s), tt) in
        record { reads = (numbers ns, g.reads); exact = (ns, g.exact); memory = tt; rules = tt }

    -- octets that don't
    pub check_failed : (f : ParseError) (e : DecodeError) → Told xs (Err f) → IsErrorOf f new e → Checked (Err e)
    check_failed f e a x =
        let n : IsOutOfMemory e.kind → ⊥ = λ m. kind_memory f (fits.plain xs f a) (sym (ap (λ (y : DecodeError). y.kind) x) ∙ m) in
        refused e n (borrows fits (λ (l : List ℕ). l) IsAnyEncoding tag old new o (Err e) (inr (n, refuses_fault (StringAt Told old.rule old.depth tag old.rest) old new f e (inr (xs, f, h, a, refl)) s x)))

-- ---- octets that are counted
pub octets_fit : (rule : Codec) (d : ℕ) (tag : Tag) (l : List ℕ) → AreOctets l → (xs rest : List ℕ) → octet_string_at rule d tag l ≡ Ok (xs, rest) → length xs ≤ length l
octets_fit rule d tag l o xs rest e =
    items_fit (λ c. length c) (λ a b. length-append a b) rule octets (λ c ys h. fits c ys h) (in_universal 4) d tag l o xs rest e
  where
    fits : (c ys : List ℕ) → Reads octets c ys → length ys ≤ length c
    fits c ys h = let m : c ≡ ys = cc in let k : length c ≡ length ys = ap length m in omega arith

-- The number of octets that were seen is right.
pub octets_counted : (old new : State) (tag : Tag) (first last : ℕ) → AreOctets old.rest → length old.rest < 2 ^ 64
    → (t : SeesString (λ rule. octets) (in_universal 4) tag (Counts {X = ℕ} (2 ^ 64) first) (Counts {X = ℕ} (2 ^ 64) last) old (Ok tt) new) → first ≡ 0 → last ≡ length t.0
octets_counted old new tag first last o b t z =
    let k = octets_fit old.rule old.depth tag old.rest o t.0 new.rest t.1 in
    t.3 [] (λ m. z) (omega (arith, k, b))

-- Of no octets there is nothing to know.
pub scanned_nothing : (a : Alphabet) → ScansAlphabet a 0 None []
scanned_nothing a b = (refl, All-nil (IsAdmitted a))

-- Octets that were read of a primitive string.
pub primitive_read : (tag : Tag) (old new : State) (s : Bor (List ℕ)) (rest : List ℕ) → octet_string_at old.rule old.depth tag old.rest ≡ Ok (s.now, rest) → new ≡ at old rest → DecodesPrimitiveOctets tag old (Ok (Some s)) new
primitive_read tag old new s rest h e =
    let P : State → Type 0 = λ n. DecodesPrimitiveOctets tag old (Ok (Some s)) n in
    subst P (sym e) (h, refl)

pub check_unread : {kind : Kind} {bounds : Constraints} {Told : StringCheck} (fits : Fits kind bounds Told) (tag : Tag) (old new : State) (o : AreOctets old.rest) (e : DecodeError) → DecodesPrimitiveOctets tag old (Err e) new
    → Checked fits tag old new o (Err e)
check_unread fits tag old new o e (f, x, k, read, plain) =
    check_unseen fits tag old new o e (f, x, k, λ n. read) (λ m. kind_memory f plain (sym (ap (λ (y : DecodeError). y.kind) x) ∙ m))

-- What is seen one after the other.
pub sees_both : {X : Type 0} (xs ys all : List X) (Old Mid New : List X → Type 0) → SeesMore xs Old Mid → SeesMore ys Mid New → all ≡ xs ++ ys → SeesMore all Old New
sees_both xs ys all Old Mid New f g e seen h = subst New (append_assoc seen xs ys ∙ ap (λ z. seen ++ z) (sym e)) (g (seen ++ xs) (f seen h))
