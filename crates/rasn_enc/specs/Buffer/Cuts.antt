-- Lists of gathered octets and deferred headers.
use Rattle.std.specs.Prelude.{ℕ, ◌≡◌, ◌≤◌, List, ◌++◌, length, drop, take}
use Rattle.rasn_enc.specs.Buffer.DeferredHeaders.{rendered, Rising}
use Rattle.rasn_enc.specs.declared.ber.enc.writer.deferred_headers.DeferredHeader.{DeferredHeader}

-- The octets of a list that begins at `start`, with the deferred headers from number `first` on.
abbrev pub list_from : List ℕ → List DeferredHeader → ℕ → ℕ → List ℕ
list_from xs ms start first = rendered xs start (drop first ms)

-- The list begins within the gathered octets and the deferred headers, the places of its deferred headers ascend, and
-- `measured` is its length.
pub record Sound (xs : List ℕ) (ms : List DeferredHeader) (start first measured : ℕ) : Type 0 where
  pub start_within : start ≤ length xs
  pub first_within : first ≤ length ms
  pub rising : Rising start (drop first ms) (length xs)
  pub measure : measured ≡ length (list_from xs ms start first)

-- The list that begins at `start`, with the deferred headers from number `first` on, is cut to its first `m` octets.
-- What is before the list stays as it is.
pub record Cut (xs : List ℕ) (ms : List DeferredHeader) (start first m : ℕ) (ys : List ℕ) (ns : List DeferredHeader) : Type 0 where
  pub front : take start xs ≡ take start ys
  pub headers_front : take first ms ≡ take first ns
  pub sound : Sound ys ns start first m
  pub rest : List ℕ
  pub list : list_from xs ms start first ≡ list_from ys ns start first ++ rest
