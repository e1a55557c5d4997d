-- A place in rendered octets, and the octets from it on.
use Rattle.std.specs.Prelude.{ℕ, ◌≡◌, ◌≤◌, List, [], ◌∷◌, ◌++◌, length, drop}
use Rattle.rasn_enc.specs.Buffer.DeferredHeaders.{rest_octets, rendered, Rising}
use Rattle.rasn_enc.specs.declared.ber.enc.writer.deferred_headers.DeferredHeader.{DeferredHeader}
use Rattle.rasn_enc.specs.declared.ber.enc.writer.cursors.Cursor.{Cursor}

-- The octets from a place on: what remains of a deferred header, then the gathered octets from `at` on with the
-- deferred headers from number `first` on.
abbrev pub ahead : List ℕ → List DeferredHeader → Cursor → List ℕ
ahead xs ms c = drop c.inside (rest_octets c.rest) ++ rendered xs c.at (drop c.first ms)

pub record Placed (xs : List ℕ) (ms : List DeferredHeader) (c : Cursor) : Type 0 where
  pub inside : c.inside ≤ length (rest_octets c.rest)
  pub below : c.first ≤ length ms
  pub rising : Rising c.at (drop c.first ms) (length xs)

-- The next deferred header isn't at this place.
abbrev pub Away : ℕ → List DeferredHeader → Type 0
Away at [] = Unit {0}
Away at (m ∷ ms) = ¬ (at ≡ m.at)
