use Rattle.std.proofs.Common.{Vec, Global, sym, subst}
use Rattle.std.specs.Prelude.{IfOk}
use Rattle.rasn_de.specs.Decodes.{Decodes}
use Rattle.rasn_de.specs.ValueErrors.{DecodesOr}
use Rattle.rasn_de.specs.Constructed.{sequence_header}
use Rattle.rasn_de.specs.Beyond.{Held, BeyondMade}
use Rattle.rasn_de.proofs.Constructed.Beyond.{inside_beyond}
use Rattle.rasn_de.specs.Set.{DecodesComponents, DecodesSetContents, MakesByRules}
use Rattle.rasn_de.proofs.Constructed.Set.{set_decodes, collects_leaves}
use Rattle.rasn_de.proofs.Constructed.Steps.{closure_leaves, closure_inside, closure_rules, inside_by}
use Rattle.rasn_de.proofs.Constructed.ValueErrors.{contents_by, or_decodes}
use Rattle.rasn_de.proofs.ber.de.Decoder.decode_set.Goals as goal

pub inside-requires-clause-leaves : goal.inside-requires-clause-leaves
inside-requires-clause-leaves g c =
    let elements = λ (v : Vec g.row.FIELDS.Denot Global). v.items in
    let read = DecodesSetContents (DecodesComponents (DecodesOr g.FIELDS.AsnType.shape g.FIELDS.AsnType.tree (g.FIELDS.Decode.errors g.FIELDS.AsnType.TAG g.FIELDS.AsnType.CONSTRAINTS)) elements) (goal.F-post g c.args.f) in
    closure_leaves _ _ read (λ p r q m. m.0)
    (λ o r n k. collects_leaves g.FIELDS.AsnType.shape g.FIELDS.AsnType.tree elements (goal.F-post g c.args.f) o r n (contents_by (DecodesOr g.FIELDS.AsnType.shape g.FIELDS.AsnType.tree (g.FIELDS.Decode.errors g.FIELDS.AsnType.TAG g.FIELDS.AsnType.CONSTRAINTS)) (Decodes g.FIELDS.AsnType.shape g.FIELDS.AsnType.tree) (or_decodes g.FIELDS.AsnType.shape g.FIELDS.AsnType.tree (g.FIELDS.Decode.errors g.FIELDS.AsnType.TAG g.FIELDS.AsnType.CONSTRAINTS)) elements (goal.F-post g c.args.f) o r n k))

pub returns : goal.returns
returns g c =
    let elements = λ (v : Vec g.row.FIELDS.Denot Global). v.items in
    let read = DecodesSetContents (DecodesComponents (DecodesOr g.FIELDS.AsnType.shape g.FIELDS.AsnType.tree (g.FIELDS.Decode.errors g.FIELDS.AsnType.TAG g.FIELDS.AsnType.CONSTRAINTS)) elements) (goal.F-post g c.args.f) in
    let k = closure_inside _ _ read (λ p r q m. m.0) _ _ c.sequence.ensures _ _ _ c.inside.ensures.exact in
    let held = BeyondMade (Held g.FIELDS.AsnType.shape g.FIELDS.AsnType.tree (g.FIELDS.Decode.beyond g.FIELDS.AsnType.TAG)) (goal.F-post g c.args.f) in
    record {
      exact = k;
      reads = λ same h. set_decodes g.FIELDS.AsnType.shape g.SET.Constructed.parts same g.FIELDS.AsnType.tree g.SET.AsnType.tree elements _ c.args.tag c.args.self.now c.inside.ensures.octets h _ _
          (inside_by read (DecodesSetContents (DecodesComponents (Decodes g.FIELDS.AsnType.shape g.FIELDS.AsnType.tree) elements) (goal.F-post g c.args.f)) (sequence_header c.args.tag) c.args.self.now _ _ k (contents_by (DecodesOr g.FIELDS.AsnType.shape g.FIELDS.AsnType.tree (g.FIELDS.Decode.errors g.FIELDS.AsnType.TAG g.FIELDS.AsnType.CONSTRAINTS)) (Decodes g.FIELDS.AsnType.shape g.FIELDS.AsnType.tree) (or_decodes g.FIELDS.AsnType.shape g.FIELDS.AsnType.tree (g.FIELDS.Decode.errors g.FIELDS.AsnType.TAG g.FIELDS.AsnType.CONSTRAINTS)) elements (goal.F-post g c.args.f)));
      rules = λ made. closure_rules c.args.self.now _ _ (λ p r q m same. m.1.0 (subst (λ z. MakesByRules z (goal.F-post g c.args.f)) (sym same) made)) _ _ _ c.inside.ensures.exact;
      beyond = inside_beyond held (sequence_header c.args.tag) c.args.self.now _ _
          (closure_inside _ _ (λ o r n. IfOk r (λ v. held o v n)) (λ p r q m. m.1.1) _ _ c.sequence.ensures _ _ _ c.inside.ensures.exact);
    }
