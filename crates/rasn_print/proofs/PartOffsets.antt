-- What the parts of a message say of its octets.
use Rattle.std.proofs.Common.{◌≡◌, inr, ℕ, List, [], ◌-◌, length, drop, refl, sym, ap, ◌∙◌, subst}
use Rattle.std.proofs.Math.Seq.{drop-append_seam}
use Rattle.rasn.specs.Headline.{IsExtraData}
use Rattle.rasn_dynamic.specs.declared.message.MessageParts.{MessageParts}
use Rattle.rasn_dynamic.specs.declared.refusal.Refusal.{Refusal}
use Rattle.rasn_dynamic.specs.Entry.{shape_of}
use Rattle.rasn_dynamic.specs.Faults.{start}
use Rattle.rasn_dynamic.specs.Walk.{ArePartsOf}
use Rattle.rasn_dynamic.proofs.Checked.{read_first}
use Rattle.rasn_lint.specs.Lint.{rest_after}
use Rattle.rasn_print.specs.declared.types.MessageType.{MessageType}
use Rattle.rasn_print.specs.Reading.{IsRead, IsMessage, IsAtFault}

module _ (m : MessageType) (octets rest : List ℕ) (ps : MessageParts) (are : ArePartsOf m.schema.now.types.items m.rule m.root.0 octets ps)
    (at : rest ≡ rest_after ps.list.items octets) where
  last_is : rest ≡ are.last.rest
  last_is =
      let l = are.listed in
      at ∙ (ap (λ z. rest_after z octets) l.is ∙ (ap (λ z. drop (length l.part.octets.now) z) l.octets ∙ drop-append_seam l.part.octets.now are.last.rest))

  read : IsRead m octets are.listed.tree rest
  read = (read_first m.rule (shape_of m.schema.now.types.items m.root.0) octets (start m.rule octets) refl are.listed.tree are.last rest (sym last_is) are.listed.reads).0

  -- Without octets after them they are those of the whole message.
  pub whole : rest ≡ [] → IsMessage m octets
  whole e = (are.listed.tree, subst (λ z. IsRead m octets are.listed.tree z) e read)

  -- Octets after them are at fault.
  pub followed : (r : Refusal) → IsExtraData m.rule rest r.error → r.offset ≡ length octets - length rest → IsAtFault m octets r
  followed r x o = inr (are.listed.tree, rest, read, x, o)
