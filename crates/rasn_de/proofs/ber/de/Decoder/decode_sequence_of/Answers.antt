use Rattle.std.proofs.Common.{Ok, Err, inl, Vec, vec_len, Global, ◌∙◌}
use Rattle.rasn_de.specs.ValueErrors.{DecodesOr}
use Rattle.rasn_de.specs.SequenceOf.{DecodesElements}
use Rattle.rasn_de.proofs.Constructed.Steps.{closure_leaves, closure_inside, closure_rules}
use Rattle.rasn_de.proofs.Constructed.ValueErrors.{each_or_leaves, sequence_of_or}
use Rattle.rasn_de.proofs.Leaves.Returns.{residual, also_beyond}
use Rattle.std.specs.Prelude.{IfOk}
use Rattle.rasn_de.specs.Constructed.{list_header}
use Rattle.rasn_de.specs.Beyond.{Held, BeyondElements}
use Rattle.rasn_de.proofs.Constructed.Beyond.{inside_beyond}
use Rattle.rasn_de.proofs.Constructed.Sized.{unsized}
use Rattle.rasn_de.proofs.Leaves.Rules.{codec_is, same_rules}
use Rattle.rasn_de.proofs.ber.de.Decoder.decode_sequence_of.Goals as goal

pub inside-requires-clause-leaves : goal.inside-requires-clause-leaves
inside-requires-clause-leaves g c =
    closure_leaves _ _ (DecodesElements (DecodesOr g.D.AsnType.shape g.D.AsnType.tree (g.D.Decode.errors g.D.AsnType.TAG g.D.AsnType.CONSTRAINTS)) (λ (v : Vec g.row.D.Denot Global). v.items)) (λ p r q m. m.0) (each_or_leaves g.D.AsnType.shape g.D.AsnType.tree (g.D.Decode.errors g.D.AsnType.TAG g.D.AsnType.CONSTRAINTS) (λ (v : Vec g.row.D.Denot Global). v.items))

pub returns-in_err-values : goal.returns-in_err-values
returns-in_err-values g c =
    let read = DecodesElements (DecodesOr g.D.AsnType.shape g.D.AsnType.tree (g.D.Decode.errors g.D.AsnType.TAG g.D.AsnType.CONSTRAINTS)) (λ (v : Vec g.row.D.Denot Global). v.items) in
    let k = closure_inside _ _ read (λ p r q m. m.0) _ _ c.list.ensures c.args.self.now (Err c.in_err-values.field-0.0) c.inside.new.self c.in_err-values.ensures.exact in
    rw (residual _ c.from_residual.ensures.1) (also_beyond (sequence_of_or g.D.AsnType.shape g.D.AsnType.tree (g.D.Decode.errors g.D.AsnType.TAG g.D.AsnType.CONSTRAINTS) c.args.tag c.args.constraints.now c.args.self.now c.inside.ensures.octets (Err c.in_err-values.field-0.0) _) tt (closure_rules c.args.self.now _ _ (λ p r q m same. m.1.0) _ (Err c.in_err-values.field-0.0) _ c.in_err-values.ensures.exact) (inl k))

pub returns-in-Ok : goal.returns-in-Ok
returns-in-Ok g c =
    let read = DecodesElements (DecodesOr g.D.AsnType.shape g.D.AsnType.tree (g.D.Decode.errors g.D.AsnType.TAG g.D.AsnType.CONSTRAINTS)) (λ (v : Vec g.row.D.Denot Global). v.items) in
    let k = closure_inside _ _ read (λ p r q m. m.0) _ _ c.list.ensures c.args.self.now (Ok c.in_ok-values.values) c.inside.new.self c.in_ok-values.ensures.exact in
    also_beyond (sequence_of_or g.D.AsnType.shape g.D.AsnType.tree (g.D.Decode.errors g.D.AsnType.TAG g.D.AsnType.CONSTRAINTS) c.args.tag c.args.constraints.now c.args.self.now c.inside.ensures.octets (Ok c.in_ok-values.values) _)
    (inside_beyond (λ o (v : Vec g.row.D.Denot Global) n. BeyondElements (Held g.D.AsnType.shape g.D.AsnType.tree (g.D.Decode.beyond g.D.AsnType.TAG)) o v.items n) (list_header c.args.tag) c.args.self.now (Ok c.in_ok-values.values) c.inside.new.self
    (closure_inside _ _ (λ o r n. IfOk r (λ (v : Vec g.row.D.Denot Global). BeyondElements (Held g.D.AsnType.shape g.D.AsnType.tree (g.D.Decode.beyond g.D.AsnType.TAG)) o v.items n)) (λ p r q m. m.1.1) _ _ c.list.ensures c.args.self.now (Ok c.in_ok-values.values) c.inside.new.self c.in_ok-values.ensures.exact))
    tt (rw (← c.len.ensures) c.in-Ok.ensures, k)

pub returns-in-Err : goal.returns-in-Err
returns-in-Err g c =
    let read = DecodesElements (DecodesOr g.D.AsnType.shape g.D.AsnType.tree (g.D.Decode.errors g.D.AsnType.TAG g.D.AsnType.CONSTRAINTS)) (λ (v : Vec g.row.D.Denot Global). v.items) in
    let k = closure_inside _ _ read (λ p r q m. m.0) _ _ c.list.ensures c.args.self.now (Ok c.in_ok-values.values) c.inside.new.self c.in_ok-values.ensures.exact in
    also_beyond (sequence_of_or g.D.AsnType.shape g.D.AsnType.tree (g.D.Decode.errors g.D.AsnType.TAG g.D.AsnType.CONSTRAINTS) c.args.tag c.args.constraints.now c.args.self.now c.inside.ensures.octets (Err c.error.result) _) tt (codec_is c.error.ensures ∙ same_rules k.0.stays)
    (unsized read (λ (v : Vec g.row.D.Denot Global). vec_len v) c.args.tag c.args.constraints.now c.args.self.now _ c.in_ok-values.values _ _ k (rw (← c.len.ensures) c.in-Err.ensures) c.error.ensures)
