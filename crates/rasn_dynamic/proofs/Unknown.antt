-- Unknown values, as they are read and as they are copied to be written.
use Rattle.std.proofs.Common.{◌≡◌, ◌<◌, ◌+◌, ℕ, Bool, true, List, [], ◌∷◌, ◌++◌, map, length, Option, Some, None, Vec, Global, Ok, Err, inr, refl, sym, ap, ◌∙◌, subst, arith, append_assoc, length-append}
use Rattle.std.specs.Prelude.{MatchOption}
use Rattle.std.proofs.lemmas.List.{append-nil, map-append, map-id}
use Rattle.rasn_types.specs.Shapes.{Tree, items, numbers, any, unknown}
use Rattle.rasn_types.specs.Grammar.{Reads}
use Rattle.rasn_types.proofs.Encoding.Complete.{steps_twice}
use Rattle.rasn_types.specs.declared.types.codec.Codec.{Codec}
use Rattle.rasn_types.specs.declared.error.decode.DecodeError.{DecodeError}
use Rattle.rasn_types.specs.Framing.{Ended}
use Rattle.rasn_de.specs.declared.ber.de.parser.ParseError.TheVariants.{OutOfMemory}
use Rattle.rasn_de.specs.State.{State}
use Rattle.rasn_de.specs.Steps.{IsErrorOf}
use Rattle.rasn_de.specs.Causes.{error_kind}
use Rattle.rasn_de.specs.Outcomes.{Got}
use Rattle.rasn_de.specs.Decodes.{DecodesExactly}
use Rattle.rasn_de.specs.SequenceOf.{DecodesInTurn, FailsAtElement}
use Rattle.rasn_de.proofs.Any.Unknown.{elements_unknown}
use Rattle.rasn_de.proofs.Leaves.Errors.{rule_is}
use Rattle.rasn_schema.specs.declared.value.Value.{Value, Items}
use Rattle.rasn_schema.specs.Trees.{tree_of}
use Rattle.rasn_schema.specs.Fitting.{AreOctets, EachFits}
use Rattle.rasn_dynamic.specs.Inside.{DecodesTree}
use Rattle.rasn_dynamic.specs.Making.{Making, these}
use Rattle.rasn_dynamic.proofs.Making.{items_made}
use Rattle.rasn_dynamic.proofs.FitsRead.{each_more}

-- A value of an open type without a tag has octets.
pub value_shorter : (old new : State) (t : Tree) → DecodesTree (any None) old (Ok t) new → length new.rest < length old.rest
unfolding Reads
value_shorter old new t d =
    let w = d.exact.0 in
    let n : length old.rest ≡ length w.0 + length new.rest = ap length w.3 ∙ length-append w.0 new.rest in
    omega (arith, n, steps_twice w.2)

-- No memory for it: nothing else is read.
pub not_kept : (here new : State) (t : Tree) (e : DecodeError) → DecodesTree (any None) here (Ok t) new → IsErrorOf OutOfMemory new e → FailsAtElement (DecodesTree (any None)) here e new
not_kept here new t e r is = inr (t, r, inr (subst (λ (z : Codec). e ≡ record { kind = error_kind OutOfMemory; codec = z }) (rule_is here new r.stays) is))

-- All values, up to the end.
pub values_read : (keep : Bool) (old new : State) (vs : Vec Value Global) (ts : List Tree) → (keep ≡ true → map tree_of vs.items ≡ ts) → DecodesInTurn (DecodesTree (any None)) old ts new → Ended new.closing new.rest
    → Making keep tree_of (DecodesTree unknown) old (Ok (Items vs)) new
values_read keep old new vs ts k p e = (
  items ts,
  items_made keep vs ts k,
  subst (λ l. DecodesExactly (λ rule. Reads rule unknown) old (Got (items l) new.rest) new) (map-id ts) (elements_unknown (λ (t : Tree). t) these old (Ok ts) new (p, e)),
)

-- Or the error of the first that can't be read.
pub values_stop : (keep : Bool) (old here new : State) (ts : List Tree) (x : DecodeError) → DecodesInTurn (DecodesTree (any None)) old ts here → (Ended here.closing here.rest → ⊥) → FailsAtElement (DecodesTree (any None)) here x new
    → Making keep tree_of (DecodesTree unknown) old (Err x) new
values_stop keep old here new ts x p n f = elements_unknown (λ (t : Tree). t) these old (Err x) new (ts, here, p, n, f)

-- The octets of the first values are copied, and the others are left.
pub record CopiedSoFar (all rest : List Value) (copies : List (List ℕ)) : Type 0 where
  pub done : List Value
  pub is : all ≡ done ++ rest
  pub octets : EachFits AreOctets done
  pub same : map numbers copies ≡ map tree_of done

pub copied_start : (all : List Value) → CopiedSoFar all all []
copied_start all = record { done = []; is = refl; octets = tt; same = refl }

module _ (all rest after : List Value) (copies : List (List ℕ)) (v : Value) (k : CopiedSoFar all rest copies) (e : rest ≡ v ∷ after) where
  pub copied_more : (more : List (List ℕ)) (a : List ℕ) → more ≡ copies ++ a ∷ [] → AreOctets v → numbers a ≡ tree_of v → CopiedSoFar all after more
  copied_more more a m o s = record {
    done = k.done ++ v ∷ [];
    is = k.is ∙ ap (λ l. k.done ++ l) e ∙ sym (append_assoc k.done (v ∷ []) after);
    octets = each_more AreOctets k.done (k.done ++ v ∷ []) v refl k.octets o;
    same = ap (map numbers) m ∙ map-append numbers copies (a ∷ []) ∙ ap (λ l. l ++ numbers a ∷ []) k.same ∙ ap (λ t. map tree_of k.done ++ t ∷ []) s ∙ sym (map-append tree_of k.done (v ∷ []));
  }

  pub copied_not : (AreOctets v → ⊥) → EachFits AreOctets all → ⊥
  copied_not n h = n (go k.done (subst (EachFits AreOctets) (k.is ∙ ap (λ l. k.done ++ l) e) h))
    where
      go : (l : List Value) → EachFits AreOctets (l ++ (v ∷ after)) → AreOctets v
      go [] h = h.0
      go (w ∷ l) h = go l h.1

pub copied_end : (all rest : List Value) (copies : List (List ℕ)) → CopiedSoFar all rest copies → rest ≡ [] → EachFits AreOctets all × (map numbers copies ≡ map tree_of all)
copied_end all rest copies k e =
    let q : all ≡ k.done = k.is ∙ ap (λ l. k.done ++ l) e ∙ append-nil k.done in
    (subst (EachFits AreOctets) (sym q) k.octets, k.same ∙ ap (map tree_of) (sym q))

-- What is said of an option that is some value, and of one that is none.
pub some_told : {X : Type 0} (A : Type 0) (P : X → Type 0) (o : Option X) (x : X) → MatchOption o A P → o ≡ Some x → P x
some_told A P o x h e = subst (λ z. MatchOption z A P) e h

pub none_told : {X A : Type 0} (P : X → Type 0) (o : Option X) → MatchOption o A P → ((x : X) → o ≡ Some x → ⊥) → A
none_told P None h n = h
none_told P (Some x) h n = absurd (n x refl)
