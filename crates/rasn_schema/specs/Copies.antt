-- Copies of values.
use Rattle.std.specs.Prelude.{◌≡◌, ℕ, List, [], ◌∷◌}
use Rattle.std.specs.Cow.{cow_slice_items, cow_str_bytes}
use Rattle.rasn_types.specs.CowBits.{cow_bits}
use Rattle.rasn_schema.specs.declared.value.Value.{Value, Bits, Octets, Text, Items', Elements', Chosen', Row_of-Value, end_of-Value, more_of-Value}
use Rattle.rasn_schema.specs.Fitting.{AreItems, AreElements, IsChosen}

abbrev mutual
  -- The second value is the first, whoever owns the memory of its bits, octets and characters.
  pub IsCopy : Value → Value → Type 0
  IsCopy (Bits b) v = (c : _) × (v ≡ Bits c) × (cow_bits c ≡ cow_bits b)
  IsCopy (Octets o) v = (p : _) × (v ≡ Octets p) × (cow_slice_items p ≡ cow_slice_items o)
  IsCopy (Text s) v = (t : _) × (v ≡ Text t) × (cow_str_bytes t ≡ cow_str_bytes s)
  IsCopy (Items' _ row) v = AreItems (AreCopies row) v
  IsCopy (Elements' _ row) v = AreElements (AreCopies row) v
  IsCopy (Chosen' k _ w) v = IsChosen (λ i u. (i ≡ k) × IsCopy w u) v
  IsCopy w v = v ≡ w

  -- So is each value of a list.
  pub AreCopies : {n : _} → Row_of-Value n → List Value → Type 0
  AreCopies end_of-Value vs = vs ≡ []
  AreCopies (more_of-Value w rest) vs = (v : Value) × (more : List Value) × (vs ≡ v ∷ more) × IsCopy w v × AreCopies rest more

-- The value is that of a CHOICE whose alternatives, in one another, have these indices, the last of which has the value w.
abbrev pub IsChosenBy : List ℕ → Value → Value → Type 0
IsChosenBy [] w v = v ≡ w
IsChosenBy (k ∷ ks) w v = IsChosen (λ i u. (i ≡ k) × IsChosenBy ks w u) v
