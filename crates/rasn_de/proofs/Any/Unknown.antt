-- Unknown values are read one by one, each as an open type, up to the end of the contents.
use Rattle.std.proofs.Common.{◌≡◌, ◌≢◌, ◌<◌, ◌*◌, ◌+◌, ◌≤◌, ℕ, inl, inr, List, [], ◌∷◌, ◌++◌, length, Result, Ok, Err, None, Some, refl, sym, ap, ◌∙◌, subst, arith, length-append}
use Rattle.rasn_types.specs.declared.types.codec.Codec.{Codec}
use Rattle.rasn_types.specs.declared.types.any.Any.{Any}
use Rattle.rasn_types.specs.declared.types.unknown.Unknown.{Unknown}
use Rattle.rasn_types.specs.declared.error.decode.DecodeError.{DecodeError}
use Rattle.rasn_types.specs.Tags.{eoc}
use Rattle.rasn_types.specs.Framing.{steps_in}
use Rattle.rasn_types.specs.Shapes.{Tree, numbers, any, unknown}
use Rattle.rasn_types.specs.Trees.{list_tree}
use Rattle.rasn_types.specs.Grammar.{Reads}
use Rattle.rasn_types.proofs.Encoding.Complete.{steps_twice}
use Rattle.rasn_de.specs.declared.ber.de.parser.ParseError.TheVariants.{OutOfMemory}
use Rattle.rasn_de.specs.State.{State}
use Rattle.rasn_de.specs.Steps.{IsErrorOf}
use Rattle.rasn_de.specs.Causes.{error_kind}
use Rattle.rasn_de.proofs.Leaves.Errors.{rule_is}
use Rattle.rasn_de.specs.Outcomes.{outcome}
use Rattle.rasn_de.specs.Decodes.{Decodes}
use Rattle.rasn_de.specs.Any.{OpenAt, DecodesOpenType}
use Rattle.rasn_de.specs.SequenceOf.{ReadsElements, DecodesElement, DecodesInTurn, FailsAtElement, DecodesElements}
use Rattle.rasn_de.specs.Unknown.{DecodesUnknown}
use Rattle.rasn_de.proofs.Any.Reads.{open_decodes}
use Rattle.rasn_de.proofs.Constructed.Reads.{Exact-same}
use Rattle.rasn_de.proofs.Constructed.SetOfElements.{each_decodes}
use Rattle.rasn_de.proofs.Constructed.NextElement.{turn_rules}

-- An open type without a tag has octets.
pub open_shorter : (old new : State) (a : Any) → DecodesOpenType eoc old (Ok a) new → length new.rest < length old.rest
open_shorter old new a (((text, e, w, is), one), s) =
    let n : length old.rest ≡ length text + length new.rest = ap length is ∙ length-append text new.rest in
    omega (arith, n, steps_twice w)

-- One more value is read.
pub pushed : (old new : State) (vs all : List Any) (v : Any) → DecodesOpenType eoc old (Ok v) new → all ≡ vs ++ (v ∷ []) → DecodesElement (DecodesOpenType eoc) old vs (Ok tt) new all
pushed old new vs all v r e = (v, e, r, λ n. absurd (omega (arith, open_shorter old new v r, n)))

pub not_pushed : (old new : State) (vs all : List Any) (v : Any) (e : DecodeError) → DecodesOpenType eoc old (Ok v) new → IsErrorOf OutOfMemory new e → DecodesElement (DecodesOpenType eoc) old vs (Err e) new all
not_pushed old new vs all v e r is = inr (v, r, inr (subst (λ (z : Codec). e ≡ record { kind = error_kind OutOfMemory; codec = z }) (rule_is old new r.1) is))

in_turn : (old : State) (vs : List Any) (here : State) → DecodesInTurn (DecodesOpenType eoc) old vs here → DecodesInTurn (Decodes (any None) numbers) old vs here
in_turn old [] here e = e
in_turn old (v ∷ vs) here (next, n, r, l, p) = (next, n, open_decodes eoc old next (Ok v) r, l, in_turn next vs here p)

fails : (here : State) (e : DecodeError) (new : State) → FailsAtElement (DecodesOpenType eoc) here e new → FailsAtElement (Decodes (any None) numbers) here e new
fails here e new (inl r) = inl (open_decodes eoc here new (Err e) r)
fails here e new (inr (v, r, w)) = inr (v, open_decodes eoc here new (Ok v) r, w)

as_elements : (old : State) (r : Result Unknown DecodeError) (new : State) → DecodesUnknown old r new → DecodesElements (Decodes (any None) numbers) (λ (u : Unknown). u.values.items) old r new
as_elements old (Ok u) new (p, e) = (in_turn old u.values.items new p, e)
as_elements old (Err e) new (vs, here, p, n, f) = (vs, here, in_turn old vs here p, n, fails here e new f)

-- Values that are read as open types without a tag, up to the end, are unknown values of the grammar.
pub elements_unknown : {D L : Type 0} (tree : D → Tree) (elements : L → List D) (old : State) (r : Result L DecodeError) (new : State)
    → DecodesElements (Decodes (any None) tree) elements old r new → Decodes unknown (λ l. list_tree tree (elements l)) old r new
unfolding Reads ReadsElements
elements_unknown tree elements old r new k =
    let w = each_decodes (any None) tree elements old r new k in
    record {
      stays = w.stays;
      end = w.end;
      exact = Exact-same (ReadsElements (any None) old.rule old.depth old.closing) (Reads old.rule unknown old.depth old.closing) old.rest (outcome (λ l. list_tree tree (elements l)) r new.rest)
          (λ t rest h. (h.0, h.1, tt, h.2)) (λ t rest h. (h.0, h.1, h.3)) w.exact;
    }

pub unknown_decodes : (old : State) (r : Result Unknown DecodeError) (new : State) → DecodesUnknown old r new → Decodes unknown (λ (u : Unknown). list_tree numbers u.values.items) old r new
unknown_decodes old r new k = elements_unknown numbers (λ (u : Unknown). u.values.items) old r new (as_elements old r new k)

pub turn_is_by_rules : (old here : State) (vs : List Any) → DecodesInTurn (DecodesOpenType eoc) old vs here → here.rule ≡ old.rule
turn_is_by_rules old here vs p = turn_rules (any None) numbers old here vs (in_turn old vs here p)
