-- A BOOLEAN is read exactly where the grammar has one.
use Rattle.std.proofs.Common.{◌≡◌, ◌≢◌, ℕ, ◌⊎◌, inl, inr, Bool, true, false, cond, List, [], ◌∷◌, Result, Ok, Err, refl, ap, ◌∙◌, subst, arith}
use Rattle.std.specs.Prelude.{nat_eq, pos, IfErr}
use Rattle.std.proofs.lemmas.Bool.Decides.{nat_tests}
use Rattle.rasn_types.specs.declared.types.tag.Tag.{Tag}
use Rattle.rasn_types.specs.declared.types.codec.Codec.{Codec}
use Rattle.rasn_types.specs.declared.types.codec.Codec.TheVariants.{Ber, Cer, Der}
use Rattle.rasn_types.specs.declared.error.decode.DecodeError.{DecodeError}
use Rattle.rasn_types.specs.Errors.{IsOutOfMemory}
use Rattle.rasn_types.specs.Framing.{AreOctets}
use Rattle.rasn_types.specs.Tags.{IsStrict}
use Rattle.rasn_types.specs.Shapes.{Tree, number, leaf, boolean}
use Rattle.rasn_types.specs.Trees.{truth, bool_tree, unconstrained}
use Rattle.rasn_types.specs.Contents.{Contents, IsBool}
use Rattle.rasn_types.specs.Grammar.{Reads}
use Rattle.rasn_de.specs.declared.ber.de.parser.ParseError.{ParseError}
use Rattle.rasn_de.specs.declared.ber.de.parser.ParseError.TheVariants.{InvalidBool}
use Rattle.rasn_de.specs.Causes.{Cause}
use Rattle.rasn_de.specs.Leaves.{as_cause, is_ber, bool_in, BoolAt, DecodesLeaf}
use Rattle.rasn_de.specs.State.{State}
use Rattle.rasn_de.specs.Decodes.{Decodes}
use Rattle.rasn_de.proofs.Headers.Results.{chosen}
use Rattle.rasn_de.proofs.Leaves.Outcomes.{plain_agrees, decoded_answers}
use Rattle.rasn_de.proofs.Leaves.Memory.{bool_plain, decoded_plain}
use Rattle.rasn_de.proofs.Leaves.Rules.{leaf_rules}

-- how contents are read
abbrev pub reads_bool : Codec → List ℕ → Result Bool Cause → Type 0
reads_bool rule c r = as_cause (bool_in rule c) ≡ r

cause_ok : {X : Type 0} (r : Result X ParseError) (x : X) → as_cause r ≡ Ok x → r ≡ Ok x
cause_ok (Ok y) x e = cc
cause_ok (Err f) x e = cc

one_parsed : (rule : Codec) (b : ℕ) (x : Bool) → bool_in rule (b ∷ []) ≡ Ok x → IsBool rule (b ∷ []) (truth x)
one_parsed rule b x e = zero_case (chosen (nat_eq b 0) _ _ _ e)
  where
    ok_is : (y : Bool) → ◌≡◌ {A = Result Bool ParseError} (Ok y) (Ok x) → y ≡ x
    ok_is y e = cc

    at_zero : (r : Codec) → b ≡ 0 → IsBool r (b ∷ []) (pos 0)
    at_zero Ber e = (b, refl, inl (e, refl))
    at_zero Cer e = inl (ap (λ z. z ∷ []) e, refl)
    at_zero Der e = inl (ap (λ z. z ∷ []) e, refl)

    at_full : (r : Codec) → b ≡ 255 → IsBool r (b ∷ []) (pos 1)
    at_full Ber e = (b, refl, inr (omega arith, refl))
    at_full Cer e = inr (ap (λ z. z ∷ []) e, refl)
    at_full Der e = inr (ap (λ z. z ∷ []) e, refl)

    other : (r : Codec) → b ≢ 0 → cond (is_ber r) (Ok true) (Err (InvalidBool b)) ≡ Ok x → IsBool r (b ∷ []) (truth x)
    other Ber n e = let y : true ≡ x = cc in subst (λ z. IsBool Ber (b ∷ []) (truth z)) y (b, refl, inr (n, refl))
    other Cer n e = cc
    other Der n e = cc

    full_case : b ≢ 0 → ((nat_eq b 255 ≡ true) × (◌≡◌ {A = Result Bool ParseError} (Ok true) (Ok x))) ⊎ ((nat_eq b 255 ≡ false) × (cond (is_ber rule) (Ok true) (Err (InvalidBool b)) ≡ Ok x)) → IsBool rule (b ∷ []) (truth x)
    full_case n (inl (t, f)) = let k : b ≡ 255 = grind (arith, nat_tests) in subst (λ z. IsBool rule (b ∷ []) (truth z)) (ok_is true f) (at_full rule k)
    full_case n (inr (t, f)) = other rule n f

    zero_case : ((nat_eq b 0 ≡ true) × (◌≡◌ {A = Result Bool ParseError} (Ok false) (Ok x))) ⊎ ((nat_eq b 0 ≡ false) × (cond (nat_eq b 255) (Ok true) (cond (is_ber rule) (Ok true) (Err (InvalidBool b))) ≡ Ok x)) → IsBool rule (b ∷ []) (truth x)
    zero_case (inl (t, f)) = let k : b ≡ 0 = grind (arith, nat_tests) in subst (λ z. IsBool rule (b ∷ []) (truth z)) (ok_is false f) (at_zero rule k)
    zero_case (inr (t, f)) = let k : b ≢ 0 = grind (arith, nat_tests) in full_case k (chosen (nat_eq b 255) _ _ _ f)

bool_parsed : (rule : Codec) (c : List ℕ) (x : Bool) → AreOctets c → as_cause (bool_in rule c) ≡ Ok x → Contents rule boolean c (bool_tree x) × (IsStrict rule → Unit {0}) × Unit {0}
bool_parsed rule [] x o e = cc
bool_parsed rule (b ∷ []) x o e = ((truth x, refl, one_parsed rule b x (cause_ok (bool_in rule (b ∷ [])) x e)), (λ s. tt), tt)
bool_parsed rule (b ∷ d ∷ l) x o e = cc

bool_ber : (b : ℕ) → b ≢ 0 → bool_in Ber (b ∷ []) ≡ Ok true
bool_ber b n = go (nat_eq b 0) refl (nat_eq b 255)
  where
    go : (s : Bool) → nat_eq b 0 ≡ s → (t : Bool) → cond {A = Result Bool ParseError} s (Ok false) (cond t (Ok true) (Ok true)) ≡ Ok true
    go true e t = let k : b ≡ 0 = grind (arith, nat_tests) in absurd (n k)
    go false e true = refl
    go false e false = refl

bool_spelled : (rule : Codec) (c : List ℕ) (t : Tree) → AreOctets c → Contents rule boolean c t → Unit {0} → (x : Bool) × (as_cause (bool_in rule c) ≡ Ok x) × (t ≡ bool_tree x)
bool_spelled Ber c t o (z, e, (b, f, inl (g, h))) u = (false, rw (f, g) refl, e ∙ ap number h)
bool_spelled Ber c t o (z, e, (b, f, inr (g, h))) u = (true, rw f (ap as_cause (bool_ber b g)), e ∙ ap number h)
bool_spelled Cer c t o (z, e, inl (f, h)) u = (false, rw f refl, e ∙ ap number h)
bool_spelled Cer c t o (z, e, inr (f, h)) u = (true, rw f refl, e ∙ ap number h)
bool_spelled Der c t o (z, e, inl (f, h)) u = (false, rw f refl, e ∙ ap number h)
bool_spelled Der c t o (z, e, inr (f, h)) u = (true, rw f refl, e ∙ ap number h)

bool_only : (rule : Codec) (c : List ℕ) (x : Bool) (t : Tree) → AreOctets c → as_cause (bool_in rule c) ≡ Ok x → Contents rule boolean c t → Unit {0} → t ≡ bool_tree x
bool_only rule c x t o e k u = let s = bool_spelled rule c t o k u in let f = s.1 in let z : s.0 ≡ x = cc in s.2 ∙ ap bool_tree z

bool_none : (rule : Codec) (c : List ℕ) (e : Cause) (t : Tree) → AreOctets c → as_cause (bool_in rule c) ≡ Err e → Contents rule boolean c t → (IsStrict rule → Unit {0}) → Unit {0} → ⊥
bool_none rule c e t o f k n u = let s = bool_spelled rule c t o k u in let g = s.1 in cc

bool_decodes : (tag : Tag) (old new : State) (result : Result Bool DecodeError) → AreOctets old.rest → DecodesLeaf (λ b. b) (BoolAt old.rule tag old.rest) old result new → Decodes (leaf boolean tag unconstrained) bool_tree old result new
unfolding Reads
bool_decodes tag old new result o g =
    decoded_answers (λ rule. Reads rule (leaf boolean tag unconstrained)) bool_tree (λ b. b) _ old new result
    (plain_agrees old.rule tag old.rest o boolean old.depth (λ t. Unit {0}) bool_tree (reads_bool old.rule) (bool_parsed old.rule) (bool_only old.rule) (bool_none old.rule)) g

-- What `decode_bool` ensures follows from its exact clause.
pub bool_ensured : (tag : Tag) (old new : State) (result : Result Bool DecodeError) → AreOctets old.rest → DecodesLeaf (λ b. b) (BoolAt old.rule tag old.rest) old result new
    → record { reads : Decodes (leaf boolean tag unconstrained) bool_tree old result new; exact : DecodesLeaf (λ b. b) (BoolAt old.rule tag old.rest) old result new; memory : IfErr result (λ e. IsOutOfMemory e.kind → ⊥); rules : IfErr result (λ e. e.codec ≡ old.rule) }
bool_ensured tag old new result o g = record { reads = bool_decodes tag old new result o g; exact = g; memory = decoded_plain (λ b. b) (reads_bool old.rule) (bool_plain old.rule) tag old new result g; rules = leaf_rules (λ b. b) (BoolAt old.rule tag old.rest) old new result g }
