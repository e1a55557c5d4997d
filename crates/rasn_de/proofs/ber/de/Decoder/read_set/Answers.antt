use Rattle.std.proofs.Common.{List, map}
use Rattle.rasn_types.specs.Shapes.{Tree, choice_by}
use Rattle.std.specs.Prelude.{IfOk}
use Rattle.rasn_de.specs.Constructed.{sequence_header}
use Rattle.rasn_de.specs.SetPartTypes.{text, MakesOfReadings, DecodesSetPartContents, DecodesNamedContents, BeyondSet}
use Rattle.rasn_de.proofs.Constructed.Beyond.{inside_beyond}
use Rattle.rasn_de.proofs.Constructed.Set.{collects_leaves}
use Rattle.rasn_de.proofs.Constructed.SetContents.{slots_collected}
use Rattle.rasn_de.specs.Decodes.{Decodes}
use Rattle.rasn_de.proofs.Constructed.Steps.{closure_leaves, closure_inside, closure_rules}
use Rattle.rasn_de.proofs.OwnTypes.SortedSetParts.{sorted_parts_decode, set_parts_decode}
use Rattle.rasn_de.proofs.ber.de.Decoder.read_set.Goals as goal

pub inside-requires-clause-leaves : goal.inside-requires-clause-leaves
inside-requires-clause-leaves g c =
    let extensible = g.P.DecodeSetParts.extensible in
    let ps = g.P.DecodeSetParts.parts in
    let tree = g.P.DecodeSetParts.tree in
    let names = map text c.args.names.now in
    closure_leaves _ _ (DecodesSetPartContents extensible ps tree names) (λ p r q m. m.0)
    (λ old r new k.
    let made = MakesOfReadings extensible ps tree names old.rule in
    collects_leaves (choice_by extensible ps) (λ (t : Tree). t) (λ (l : List Tree). l) made old r new (slots_collected (Decodes (choice_by extensible ps) (λ (t : Tree). t)) made old r new k))

pub returns : goal.returns
returns g c =
    let extensible = g.P.DecodeSetParts.extensible in
    let ps = g.P.DecodeSetParts.parts in
    let tree = g.P.DecodeSetParts.tree in
    let names = map text c.args.names.now in
    let k = closure_inside _ _ (DecodesSetPartContents extensible ps tree names) (λ p r q m. m.0) _ _ c.sequence.ensures _ _ _ c.inside.ensures.exact in
    let d = sorted_parts_decode extensible ps tree names c.args.tag c.args.self.now c.inside.ensures.octets _ _ k in
    record {
      exact = k;
      fails = closure_inside _ _ (DecodesNamedContents extensible ps tree c.args.name.now names g.P.DecodeSetParts.errors) (λ p r q m. m.1.0) _ _ c.sequence.ensures _ _ _ c.inside.ensures.exact;
      reads = set_parts_decode extensible ps tree c.args.tag c.args.self.now _ _ d;
      sorted = d;
      rules = closure_rules c.args.self.now _ _ (λ p r q m same. m.1.1.0) _ _ _ c.inside.ensures.exact;
      beyond = inside_beyond (BeyondSet extensible ps g.P.DecodeSetParts.beyond) (sequence_header c.args.tag) c.args.self.now _ _
          (closure_inside _ _ (λ o r n. IfOk r (λ v. BeyondSet extensible ps g.P.DecodeSetParts.beyond o v n)) (λ p r q m. m.1.1.1) _ _ c.sequence.ensures _ _ _ c.inside.ensures.exact);
    }
