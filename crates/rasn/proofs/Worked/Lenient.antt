-- What BER reads and DER doesn't, since it is written otherwise.
use Rattle.std.proofs.Common.{◌≡◌, ◌≢◌, List, ◌++◌, [], ℕ, true, false, sym, ap, ◌∙◌, subst, append-nil}
use Rattle.rasn_types.specs.declared.types.codec.Codec.TheVariants.{Ber, Der}
use Rattle.rasn_types.specs.Framing.{AreOctets}
use Rattle.rasn_types.specs.Shapes.{Tree, Shape}
use Rattle.rasn_types.specs.Grammar.{Reads}
use Rattle.rasn_types.specs.Carried.{Carried}
use Rattle.rasn_types.specs.Lawful.{IsLawful}
use Rattle.rasn.specs.Worked.{IsRefusedBy, IsLenient}
use Rattle.rasn.proofs.LawsHold.Written.{included, one_reading}
use Rattle.rasn.proofs.StrictDer.Carried.{all_told}

-- What BER reads as a carried tree, and DER writes otherwise, DER doesn't read.
refused : (s : Shape) → IsLawful s → (input : List ℕ) → AreOctets input → (t : Tree) → Reads Ber s 128 true input t [] → (c : Carried Der s t) → c.octets ≢ input → IsRefusedBy Der s input
refused s lawful input o t h c other u rest r =
    let e = one_reading s lawful Ber 128 true input t u [] rest h (included s lawful Der 128 input u rest r) in
    let k : Reads Der s 128 false input t rest = subst (λ x. Reads Der s 128 false input x rest) (sym e.0) r in
    let f : input ≡ c.octets ++ rest = all_told s lawful 128 false input t rest c.octets o k c.is c.within_limits in
    other (sym (f ∙ (ap (λ l. c.octets ++ l) (sym e.1) ∙ append-nil c.octets)))

pub lenient : (s : Shape) → IsLawful s → (input : List ℕ) → AreOctets input → (t : Tree) → Reads Ber s 128 true input t [] → (c : Carried Der s t) → c.octets ≢ input → IsLenient s input t
lenient s lawful input o t h c other = (h, refused s lawful input o t h c other)
