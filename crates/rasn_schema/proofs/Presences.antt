-- What a component is recognized by makes no difference to what it is if it is absent, nor to whether it may be.
use Rattle.std.proofs.Common.{◌≡◌, ◌≢◌, refl}
use Rattle.rasn_types.specs.Shapes.{Key, Tree, required, addition}
use Rattle.rasn_types.specs.Readings.{IsMissing, IsNoDefault}
use Rattle.rasn_schema.specs.declared.types.Presence.{Presence as ComponentPresence}
use Rattle.rasn_schema.specs.declared.types.Presence.TheVariants.{Required, Optional, Addition, Default}
use Rattle.rasn_schema.specs.Shapes.{presence_by, presence_of}
use Rattle.rasn_schema.specs.FirstTags.{IsAlwaysThere}
use Rattle.rasn_schema.specs.Fitting.{IsLeftOutAs}

module _ (key other : Key) where
  pub missing_by : (p : ComponentPresence) (t : Tree) → IsMissing (presence_by key p) t → IsMissing (presence_by other p) t
  missing_by Required t m = m
  missing_by Optional t m = m
  missing_by Addition t m = m
  missing_by (Default v) t m = m

  pub no_default_by : (p : ComponentPresence) (t : Tree) → IsNoDefault (presence_by key p) t → IsNoDefault (presence_by other p) t
  no_default_by Required t m = m
  no_default_by Optional t m = m
  no_default_by Addition t m = m
  no_default_by (Default v) t m = m

  pub left_out_by : (p : ComponentPresence) (t : Tree) → IsLeftOutAs (presence_by key p) t → IsLeftOutAs (presence_by other p) t
  left_out_by Required t m = m
  left_out_by Optional t m = m
  left_out_by Addition t m = m
  left_out_by (Default v) t m = m

  pub always_by : (p : ComponentPresence) → IsAlwaysThere (presence_by key p) → IsAlwaysThere (presence_by other p)
  always_by Required a = a
  always_by Optional a = a
  always_by Addition a = a
  always_by (Default v) a = a

  pub required_by : (p : ComponentPresence) → presence_by key p ≡ required → presence_by other p ≡ required
  required_by Required e = refl
  required_by Optional e = cc
  required_by Addition e = cc
  required_by (Default v) e = cc

pub no_addition_by : (key : Key) (p : ComponentPresence) → presence_of p ≢ addition → presence_by key p ≢ addition
no_addition_by key Required n e = cc
no_addition_by key Optional n e = cc
no_addition_by key Addition n e = n refl
no_addition_by key (Default v) n e = cc
