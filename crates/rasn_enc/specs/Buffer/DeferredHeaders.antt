-- The octets that gathered octets and deferred headers render.
use Rattle.std.specs.Prelude.{ℕ, ◌≡◌, ◌+◌, ◌≤◌, true, List, [], ◌∷◌, ◌++◌, length, take, drop}
use Rattle.rasn_types.specs.declared.types.codec.Codec.{Codec}
use Rattle.rasn_types.specs.declared.types.codec.Codec.TheVariants.{Ber, Cer, Der}
use Rattle.rasn_types.specs.declared.types.tag.Tag.{Tag}
use Rattle.rasn_enc.specs.Headers.{id_octets, length_octets, definite, closed}
pub use Rattle.rasn_enc.specs.Buffer.HeaderRest.{rest_octets}
use Rattle.rasn_enc.specs.declared.ber.enc.writer.deferred_headers.HeaderForm.{HeaderForm}
use Rattle.rasn_enc.specs.declared.ber.enc.writer.deferred_headers.HeaderForm.TheVariants.{Definite, Indefinite}
use Rattle.rasn_enc.specs.declared.ber.enc.writer.deferred_headers.DeferredHeader.{DeferredHeader}

-- The octets of a header.
abbrev pub header_octets : HeaderForm → List ℕ
header_octets (Definite t n) = id_octets t true ++ length_octets n
header_octets (Indefinite t) = id_octets t true ++ 128 ∷ []

-- The octets that a deferred header inserts.
abbrev pub deferred_octets : DeferredHeader → List ℕ
deferred_octets m = rest_octets m.rest

-- The gathered octets from `from` on, with the octets of each deferred header inserted at its place.
abbrev pub rendered : List ℕ → ℕ → List DeferredHeader → List ℕ
rendered xs from [] = drop from xs
rendered xs from (m ∷ ms) = drop from (take m.at xs) ++ (deferred_octets m ++ rendered xs m.at ms)

-- The places of the deferred headers ascend from `from` to `end`.
abbrev pub Rising : ℕ → List DeferredHeader → ℕ → Type 0
Rising from [] end = from ≤ end
Rising from (m ∷ ms) end = (from ≤ m.at) × Rising m.at ms end

-- The number of octets that the deferred headers insert.
abbrev pub header_octets_count : List DeferredHeader → ℕ
header_octets_count [] = 0
header_octets_count (m ∷ ms) = length (deferred_octets m) + header_octets_count ms

-- The header of a constructed value of n contents octets.
abbrev pub head_of : Codec → Tag → ℕ → HeaderForm
head_of Ber t n = Definite t n
head_of Cer t n = Indefinite t
head_of Der t n = Definite t n

-- The octets after the contents of a constructed value: end-of-contents octets under CER.
abbrev pub back : Codec → List ℕ
back Ber = []
back Cer = 0 ∷ 0 ∷ []
back Der = []

-- The octets of a constructed value.
abbrev pub constructed : Codec → Tag → List ℕ → List ℕ
constructed Ber t c = definite t true c
constructed Cer t c = closed t c
constructed Der t c = definite t true c

-- The number of gathered octets before the first deferred header, out of n.
abbrev pub front_run : List DeferredHeader → ℕ → ℕ
front_run [] n = n
front_run (m ∷ ms) n = m.at

-- The deferred headers insert the octets `rest` at the place `at`: there is no header and no octet, or one header.
abbrev pub Defers : ℕ → List ℕ → List DeferredHeader → Type 0
Defers at rest [] = rest ≡ []
Defers at rest (m ∷ []) = (m.at ≡ at) × (deferred_octets m ≡ rest)
Defers at rest (m ∷ n ∷ ms) = ⊥

-- The first two octets of the header fill the room at `at`, and a deferred header inserts the others. The contents
-- follow the room, with the deferred headers from number `index` on, and `tail` follows the contents.
pub record Encloses (at index : ℕ) (head tail xs : List ℕ) (ms : List DeferredHeader) (ys : List ℕ) (ns : List DeferredHeader) : Type 0 where
  pub deferred : List DeferredHeader
  pub defers : Defers (at + 2) (drop 2 head) deferred
  pub octets : ys ≡ take at xs ++ (take 2 head ++ (drop (at + 2) xs ++ tail))
  pub headers : ns ≡ take index ms ++ (deferred ++ drop index ms)
