-- What a value's contents are as an extent.
use Rattle.std.proofs.Common.{◌≡◌, ◌≢◌, refl, ap}
use Rattle.rasn_types.specs.Framing.{indefinite}
use Rattle.rasn_de.specs.declared.ber.de.parser.Contents.{Contents}
use Rattle.rasn_de.specs.declared.ber.de.parser.Contents.TheVariants.{Definite, Indefinite}
use Rattle.rasn_de.specs.ParserViews.{extent}

pub extent_open : (c : Contents) → c ≡ Indefinite → extent c ≡ indefinite
extent_open c e = ap extent e

pub extent_definite : (c : Contents) → c ≢ Indefinite → extent c ≢ indefinite
extent_definite (Definite s) n e = cc
extent_definite Indefinite n e = absurd (n refl)
