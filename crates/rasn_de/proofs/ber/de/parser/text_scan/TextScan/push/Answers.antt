use Rattle.std.proofs.Common.{ℕ, [], ◌∷◌, ◌++◌, subst, arith}
use Rattle.rasn_de.specs.declared.ber.de.parser.text_scan.Held.{Held}
use Rattle.rasn_de.specs.declared.ber.de.parser.text_scan.Held.TheVariants.{Nothing, One, Two, Three, Unfit}
use Rattle.rasn_de.specs.TextScan.{ScansText}
use Rattle.rasn_de.proofs.Strings.SeenText.{settled, text_unfit, unfit_held}
use Rattle.rasn_de.proofs.ber.de.parser.text_scan.TextScan.push.Goals as goal

pub returns-in-Nothing : goal.returns-in-Nothing
returns-in-Nothing c seen h =
    let k = subst (λ (x : Held). ScansText c.args.self.now.count x seen) c.in-Nothing.is h in
    settled c.args.self.now.count [] seen k c.args.octet (One c.args.octet) c.settle.new.self.count c.settle.new.self.held c.settle.ensures (λ g. g)

pub returns-in-One : goal.returns-in-One
returns-in-One c seen h =
    let k = subst (λ (x : Held). ScansText c.args.self.now.count x seen) c.in-One.is h in
    settled c.args.self.now.count (c.in-One.a ∷ []) seen k c.args.octet (Two c.in-One.a c.args.octet) c.settle-in-One.new.self.count c.settle-in-One.new.self.held c.settle-in-One.ensures (λ g. g)

pub returns-in-Two : goal.returns-in-Two
returns-in-Two c seen h =
    let k = subst (λ (x : Held). ScansText c.args.self.now.count x seen) c.in-Two.is h in
    settled c.args.self.now.count (c.in-Two.a ∷ c.in-Two.b ∷ []) seen k c.args.octet (Three c.in-Two.a c.in-Two.b c.args.octet) c.settle-in-Two.new.self.count c.settle-in-Two.new.self.held c.settle-in-Two.ensures (λ g. g)

pub returns-in-Three : goal.returns-in-Three
returns-in-Three c seen h =
    let held = c.in-Three.a ∷ c.in-Three.b ∷ c.in-Three.c ∷ [] in
    let k = subst (λ (x : Held). ScansText c.args.self.now.count x seen) c.in-Three.is h in
    settled c.args.self.now.count held seen k c.args.octet Unfit c.settle-in-Three.new.self.count c.settle-in-Three.new.self.held c.settle-in-Three.ensures
    (λ g. text_unfit c.args.self.now.count (held ++ c.args.octet ∷ []) (seen ++ c.args.octet ∷ []) g (omega arith))

pub returns-in-Unfit : goal.returns-in-Unfit
returns-in-Unfit c seen h = unfit_held c.args.self.now.held c.in-Unfit.is c.args.self.now.count seen (c.args.octet ∷ []) h
