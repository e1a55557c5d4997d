-- Calls that write only values that fit.
use Rattle.std.proofs.Common.{◌≡◌, Result, Ok, Err, OnOk, IfErr}
use Rattle.std.proofs.lemmas.Result.{on_ok_weaker}
use Rattle.rasn_types.specs.declared.types.codec.Codec.{Codec}
use Rattle.rasn_types.specs.declared.error.encode.EncodeError.{EncodeError}
use Rattle.rasn_dynamic.specs.Written.{OnlyFitting}

module _ {F D K : Type 0} {rule : Codec} where
  -- A value of another form is refused.
  pub form_refused : (e : EncodeError) → (F → ⊥) → K → e.codec ≡ rule → OnlyFitting F D K rule (Err e)
  form_refused e n k m = record { fits = tt; does = λ f. absurd (n f); keeps = k; rules = m }

  -- The call was made on a value that fits.
  pub fitted : (r : Result (Unit {0}) EncodeError) → F → D → K → IfErr r (λ e. e.codec ≡ rule) → OnlyFitting F D K rule r
  fitted r f d k m = record { fits = there r; does = λ g. d; keeps = k; rules = m }
    where
      there : (q : Result (Unit {0}) EncodeError) → OnOk q F
      there (Ok x) = f
      there (Err e) = tt

  -- The same of another way to say that the value fits, and of what follows.
  pub fits_as : {G E : Type 0} (r : Result (Unit {0}) EncodeError) → (F → G) → (G → F) → (D → E) → OnlyFitting F D K rule r → OnlyFitting G E K rule r
  fits_as r to from on h = record { fits = on_ok_weaker r to h.fits; does = λ g. on (h.does (from g)); keeps = h.keeps; rules = h.rules }
