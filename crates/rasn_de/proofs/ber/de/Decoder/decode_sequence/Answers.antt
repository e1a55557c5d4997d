use Rattle.std.specs.Fn.{FnOnceReturnsAtMut}
use Rattle.rasn_de.specs.Sequence.{is_read_by_initializer, MakesInitial, DecodesContents}
use Rattle.rasn_de.proofs.Constructed.Steps.{closure_leaves, closure_inside, inside_rules}
use Rattle.rasn_de.proofs.Constructed.Sequence.{sequence_decodes, fills_leaves, fills_rules, initial_rules}
use Rattle.rasn_de.proofs.ber.de.Decoder.decode_sequence.Goals as goal

pub inside-requires-clause-leaves : goal.inside-requires-clause-leaves
inside-requires-clause-leaves g c =
    let starts = is_read_by_initializer g.row.RC g.D.Constructed.IS_EXTENSIBLE g.D.Constructed.HAS_REQUIRED_FIELDS in
    let initializer_value = MakesInitial (goal.DF-post g) c.args.default in
    let called = FnOnceReturnsAtMut g.F.FnOnce c.args.f in
    closure_leaves _ _ (DecodesContents starts initializer_value called) (λ p r q m. m) (fills_leaves starts initializer_value called c.requires.leaves)

pub returns : goal.returns
returns g c =
    let starts = is_read_by_initializer g.row.RC g.D.Constructed.IS_EXTENSIBLE g.D.Constructed.HAS_REQUIRED_FIELDS in
    let read = DecodesContents starts (MakesInitial (goal.DF-post g) c.args.default) (FnOnceReturnsAtMut g.F.FnOnce c.args.f) in
    let k = closure_inside _ _ read (λ p r q m. m) _ _ c.sequence.ensures _ _ _ c.inside.ensures.exact in
    record {
      exact = k;
      reads = λ h b.
          sequence_decodes g.row.RC g.row.EC g.D.Constructed.IS_EXTENSIBLE g.D.Constructed.HAS_REQUIRED_FIELDS g.D.Constructed.parts g.D.Constructed.described g.D.AsnType.tree (goal.DF-post g) c.args.default _ c.args.tag c.args.self.now c.inside.ensures.octets h b _ _ k;
      rules = λ names. inside_rules c.args.self.now read (λ o r n h same. fills_rules starts (MakesInitial (goal.DF-post g) c.args.default) (FnOnceReturnsAtMut g.F.FnOnce c.args.f) (initial_rules (goal.DF-post g) c.args.default) names o r n h) _ _ _ k;
    }
