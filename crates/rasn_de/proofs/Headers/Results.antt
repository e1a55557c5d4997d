-- Readings that bind and choose.
use Rattle.std.proofs.Common.{◌≡◌, ℕ, suc, ◌<◌, ◌⊎◌, inl, inr, Bool, true, false, cond, List, [], ◌∷◌, ◌++◌, Result, Ok, Err, refl}
use Rattle.std.proofs.Common.{get_or}
pub use Rattle.rasn_types.specs.Framing.{AreOctets}
use Rattle.rasn_de.specs.declared.ber.de.parser.ParseError.{ParseError}
use Rattle.rasn_de.specs.Headers.{◌>>=◌}

pub bind_ok : {A B : Type 0} (r : Result A ParseError) (f : A → Result B ParseError) (y : B) → r >>= f ≡ Ok y → (x : A) × (r ≡ Ok x) × (f x ≡ Ok y)
bind_ok (Ok x) f y e = (x, refl, e)
bind_ok (Err d) f y e = cc

pub chosen : {A : Type 0} (b : Bool) (x y z : A) → cond b x y ≡ z → ((b ≡ true) × (x ≡ z)) ⊎ ((b ≡ false) × (y ≡ z))
chosen true x y z e = inl (refl, e)
chosen false x y z e = inr (refl, e)

pub guarded : {A : Type 0} (b : Bool) (d : ParseError) (r : Result A ParseError) (y : A) → cond b (Err d) r ≡ Ok y → (b ≡ false) × (r ≡ Ok y)
guarded true d r y e = cc
guarded false d r y e = (refl, e)

pub octets_back : (a b : List ℕ) → AreOctets (a ++ b) → AreOctets b
octets_back [] b h = h
octets_back (x ∷ a) b h = octets_back a b h.1

pub octets_front : (a b : List ℕ) → AreOctets (a ++ b) → AreOctets a
octets_front [] b h = tt
octets_front (x ∷ a) b h = (h.0, octets_front a b h.1)

pub octets_all : (l : List ℕ) → ((i : ℕ) → get_or l i 0 < 256) → AreOctets l
octets_all [] h = tt
octets_all (b ∷ l) h = (h 0, octets_all l (λ i. h (suc i)))
