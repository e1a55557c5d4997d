-- Normal encodings that were worked out by hand.
use Rattle.std.proofs.Common.{◌≡◌, ℕ, List, [], ◌∷◌, refl, sym, ◌∙◌, subst}
use Rattle.rasn_types.specs.declared.types.codec.Codec.{Codec}
use Rattle.rasn_types.specs.declared.types.codec.Codec.TheVariants.{Ber, Der}
use Rattle.rasn_types.specs.Shapes.{Shape, Tree, numbers, items, set_elements}
use Rattle.rasn_types.specs.Bytes.{Bytes}
use Rattle.rasn_types.specs.Lawful.{IsLawful}
use Rattle.rasn_types.specs.Grammar.{top}
use Rattle.rasn_types.proofs.Encoding.SameAsItself.{one_writing}
use Rattle.rasn_types.proofs.Lawful.{lawful}
use Rattle.rasn.specs.WorkedShapes.{named, octets_in_set_of}
use Rattle.rasn.specs.Worked.{smith as smith_tree}
use Rattle.rasn.proofs.LawsHold.Written.{one_reading, read_again}
use Rattle.rasn.proofs.Worked.Octets.{worked}
use Rattle.rasn.specs.Normal.{IsNormal, IsCarriedIn}
use Rattle.rasn_examples.specs.WorkedNormals.{smith_in_segments, smith, falling_set_of, WorkedNormals}

-- The octets of a carried value are its normal encoding.
normal : (rule : Codec) (s : Shape) → IsLawful s → (input : List ℕ) (t : Tree) (c : IsCarriedIn rule s input t) → IsNormal rule s input c.carried.octets
normal rule s lawful input t c =
    let r = read_again s lawful Der t c.carried in
    record {
      value = t;
      means = (c.reads, λ u rest h. let e = one_reading s lawful rule 128 (top rule) input u t rest [] h c.reads in (e.0, e.1));
      written = c.carried.is;
      again = r.0;
      read_again = (r.2, λ u rest h. let e = one_reading s lawful Der 128 (top Der) c.carried.octets u r.0 rest [] h r.2 in (e.0, e.1));
      same = r.1;
    }

joined : IsNormal Ber named smith_in_segments smith
joined =
    let c = worked.smith_in_der in
    subst (IsNormal Ber named smith_in_segments) c.1 (normal Ber named (lawful named refl) smith_in_segments smith_tree (record { reads = worked.smith_in_segments; carried = c.0 }))

not_kept : IsNormal Ber named smith_in_segments smith_in_segments → ⊥
not_kept n =
    let k = joined in
    let e : smith_in_segments ≡ smith = one_writing named Der k.value smith_in_segments smith
    (subst (λ z. Bytes Der named z smith_in_segments) (k.means.1 n.value [] n.means.0).0 n.written) k.written in
    cc

falls : (octets : List ℕ) → IsNormal Ber octets_in_set_of falling_set_of octets → ⊥
falls octets n =
    worked.set_of_not_written Der octets (subst (λ z. Bytes Der octets_in_set_of z octets) (sym (n.means.1 _ [] (worked.set_of_out_of_order Ber (λ z. z))).0) n.written)

pub worked_normals : WorkedNormals
worked_normals = record { joined = joined; not_kept = not_kept; falls = falls }
