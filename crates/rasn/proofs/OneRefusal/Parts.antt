-- Parts in order, and a SEQUENCE of them, are refused in one way if each part is.
use Rattle.std.proofs.Common.{◌≡◌, ℕ, inl, inr, List, true, Result, Ok, Err, refl, sym, ap, ◌∙◌, subst}
use Rattle.rasn_types.specs.declared.types.tag.Tag.{Tag}
use Rattle.rasn_types.specs.declared.error.decode.DecodeError.{DecodeError}
use Rattle.rasn_types.specs.Framing.{AreOctets}
use Rattle.rasn_types.specs.Shapes.{Tree, items, Shape, seq, Parts, part, Presence, required, addition, optional_by, default_by, sought_by}
use Rattle.rasn_types.specs.Shapes.Parts.{none}
use Rattle.rasn_types.specs.Readings.{ReadsInOrder}
use Rattle.rasn_types.specs.Grammar.{parts_of}
use Rattle.rasn_de.specs.State.{State, at}
use Rattle.rasn_de.specs.Outcomes.{Got, refusal}
use Rattle.rasn_de.specs.Decodes.{DecodesExactly, DecodesParts, ReadsParts}
use Rattle.rasn_de.specs.Constructed.{Keeps, sequence_header}
use Rattle.rasn_de.specs.Optional.{OnePart}
use Rattle.rasn_de.specs.PartTypes.{needs_no_initializer, FailsAtOnePart, FailsAtPart, IsErrorOfParts, DecodesInParts, DecodesSequenceParts}
use Rattle.rasn_de.specs.ValueErrors.{Errors, errors_of}
use Rattle.rasn_de.proofs.Constructed.Optional.{sought_decodes, sought_default_decodes}
use Rattle.rasn_de.proofs.OwnTypes.Parts.{part_refused, after_part_refused, keeps_then, call_keeps}
use Rattle.rasn_de.proofs.OwnTypes.PartTypes.{parts_decode}
use Rattle.rasn.specs.OneRefusal.{Refuses, ReadsShape, IsRefusedOnce, AreApart}
use Rattle.rasn.proofs.OneRefusal.Calls.{octets_end, exactly_apart, IsExactCall, exactly_determined}
use Rattle.rasn.proofs.OneRefusal.Inside.{inside_determined}

-- What can't be read as a part, or as parts, isn't related to anything.
one_part_fails : (p : Presence) (s : Shape) (old : State) (e : DecodeError) (new : State) → FailsAtOnePart p s old e new → DecodesExactly (OnePart p s) old (refusal e.kind) new
one_part_fails required s old e new a = record { stays = a.stays; end = a.end; exact = a.exact }
one_part_fails addition s old e new a = record { stays = a.stays; end = a.end; exact = a.exact }
one_part_fails (optional_by key) s old e new a = sought_decodes s (λ (t : Tree). t) (sought_by key s) old (Err e) new a
one_part_fails (default_by key d) s old e new a = sought_default_decodes key s (λ (t : Tree). t) _ (sought_by key s) old (Err e) new a d (λ v q. q)

pub parts_fail : (ps : Parts) (old : State) (e : DecodeError) (new : State) → FailsAtPart ps old e new → DecodesExactly (ReadsParts ps) old (refusal e.kind) new
parts_fail none old e new a = absurd a
parts_fail (part p s ps) old e new (inl a) = part_refused p s ps e.kind (one_part_fails p s old e new a)
parts_fail (part p s ps) old e new (inr (t, here, d, a)) = after_part_refused p s ps e.kind d (parts_fail ps here e new a)

-- No parts are never refused.
pub no_parts_apart : AreApart (λ _ _ _. ⊥) (ReadsParts none)
no_parts_apart = record { unread = λ old o e new r. absurd r.0; once = λ old o e f new other r s. absurd r.0; kept = λ old o e new r. absurd r.0 }

module _ (p : Presence) (s : Shape) (ps : Parts) (first others : Errors) (one : AreApart first (OnePart p s)) (rest : AreApart others (ReadsParts ps)) where
  -- The part is read in one way.
  same_part : (old : State) (t u : Tree) (here there : State) → DecodesExactly (OnePart p s) old (Got t here.rest) here → DecodesExactly (OnePart p s) old (Got u there.rest) there → here ≡ there
  same_part old t u here there a b = a.stays ∙ (ap (at old) (sym (a.exact.1 u there.rest b.exact.0).1) ∙ sym b.stays)

  parts_once : IsRefusedOnce (IsErrorOfParts p s first others)
  parts_once old o e f new other (inl a, m) (inl b, n) = one.once old o e f new other (a, m) (b, n)
  parts_once old o e f new other (inl a, m) (inr (t, here, d, b), n) = absurd (one.unread old o e new (a, m) t here.rest d.exact.0)
  parts_once old o e f new other (inr (t, here, d, a), m) (inl b, n) = absurd (one.unread old o f other (b, n) t here.rest d.exact.0)
  parts_once old o e f new other (inr (t, here, d, a), m) (inr (u, there, g, b), n) =
      rest.once there (octets_end o g.end) e f new other (subst (λ (x : State). others x e new) (same_part old t u here there d g) a, m) (b, n)

  parts_unread : (old : State) → AreOctets old.rest → (e : DecodeError) (new : State) → Refuses (IsErrorOfParts p s first others) old e new → (t : Tree) (end : List ℕ) → ReadsParts (part p s ps) old.rule old.depth old.closing old.rest t end → ⊥
  unfolding ReadsParts parts_of
  parts_unread old o e new (inl a, m) t end (ts, q, (u, us, middle, r, x, y)) = one.unread old o e new (a, m) u middle x
  parts_unread old o e new (inr (v, here, d, a), m) t end (ts, q, (u, us, middle, r, x, y)) =
      let g = d.exact.1 u middle x in
      let at_end = subst (λ l. ReadsInOrder old.rule (parts_of old.rule ps old.depth old.closing) old.closing l us end) g.1 y in
      rest.unread here (octets_end o d.end) e new (a, m) (items us) end
      (subst (λ (z : State). ReadsParts ps z.rule z.depth z.closing here.rest (items us) end) (sym d.stays) (us, refl, at_end))

  parts_apart : AreApart (IsErrorOfParts p s first others) (ReadsParts (part p s ps))
  parts_apart = record { unread = parts_unread; once = parts_once; kept = kept }
    where
      kept : (old : State) → AreOctets old.rest → (e : DecodeError) (new : State) → Refuses (IsErrorOfParts p s first others) old e new → Keeps old new
      kept old o e new (inl a, m) = one.kept old o e new (a, m)
      kept old o e new (inr (t, here, d, a), m) = keeps_then (call_keeps d) (rest.kept here (octets_end o d.end) e new (a, m))

pub part_apart : (p : Presence) (s : Shape) (ps : Parts) (first others : Errors) → AreApart first (OnePart p s) → AreApart others (ReadsParts ps) → AreApart (IsErrorOfParts p s first others) (ReadsParts (part p s ps))
part_apart p s ps first others one rest = parts_apart p s ps first others one rest

-- A SEQUENCE.
module _ {D : Type 0} (ps : Parts) (tree : D → Tree) (errors : Errors) where
  pub in_parts_exact : (old : State) (r : Result D DecodeError) (new : State) → DecodesInParts ps tree errors old r new → DecodesParts ps tree old r new
  in_parts_exact old (Ok v) new a = a
  in_parts_exact old (Err e) new (f, a) = parts_fail ps old e new f

  pub sequence_exact : needs_no_initializer ps ≡ true → (tag : Tag) → IsExactCall (DecodesSequenceParts ps tree errors tag) (ReadsShape (seq tag ps)) tree
  sequence_exact plain tag old o r new a = parts_decode ps plain tree (DecodesInParts ps tree errors) tag old (λ _. o) in_parts_exact r new a

  module _ (once : IsRefusedOnce errors) where
    in_parts_once : IsRefusedOnce (errors_of (DecodesInParts ps tree errors))
    in_parts_once old o e f new other (a, m) (b, n) = once old o e f new other (a.1, m) (b.1, n)

    pub sequence_apart : needs_no_initializer ps ≡ true → (tag : Tag) → AreApart (errors_of (DecodesSequenceParts ps tree errors tag)) (ReadsShape (seq tag ps))
    sequence_apart plain tag = exactly_apart _ (ReadsShape (seq tag ps)) (λ old o e new a. sequence_exact plain tag old o (Err e) new a)
        (inside_determined (DecodesInParts ps tree errors) (exactly_determined (DecodesInParts ps tree errors) (ReadsParts ps) tree (λ old o r new a. in_parts_exact old r new a) in_parts_once) (sequence_header tag)).once
