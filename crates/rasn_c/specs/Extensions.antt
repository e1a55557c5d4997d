-- The octets of an extension by its identifier, in a buffer.
use Rattle.std.specs.Prelude.{◌≡◌, ◌≢◌, ◌≤◌, ◌<◌, ℕ, List, ◌∷◌, ◌++◌, [], length, None}
use Rattle.std.specs.List.{All}
use Rattle.rasn_types.specs.declared.types.codec.Codec.{Codec}
use Rattle.rasn_types.specs.Tags.{in_universal}
use Rattle.rasn_types.specs.Shapes.{Shape, list}
use Rattle.rasn_types.specs.Trees.{list_tree}
use Rattle.rasn_types.specs.Text.{dotted}
use Rattle.rasn_types.specs.Grammar.{Reads, top}
use Rattle.rasn_pkix.specs.declared.extension.Extension.{Extension}
use Rattle.rasn_pkix.specs.contracts.extension.ExtensionAsnType.TheImpl.{ghosts as extension_ghosts}
use Rattle.rasn_c.specs.Rules.{rule_number, IsUnknownRule}
use Rattle.rasn_c.specs.Whole.{IsNoWhole}
use Rattle.rasn_c.specs.Buffers.{written_over}
use Rattle.rasn_c.specs.Leaves.{IsUnwritten}
use Rattle.rasn_c.specs.declared.status.Status.{Status}
use Rattle.rasn_c.specs.declared.status.Status.TheVariants.{Ok, Refused, OutOfMemory, BufferTooSmall, UnknownRule, Absent}

-- Extensions ::= SEQUENCE OF Extension (RFC 5280, 4.1, which requires at least one).
abbrev pub extensions_shape : Shape
extensions_shape = list (in_universal 16) extension_ghosts.shape None

-- All of the octets are these Extensions.
abbrev pub AreExtensions : Codec → List ℕ → List Extension → Type 0
AreExtensions rule octets es = Reads rule extensions_shape 128 (top rule) octets (list_tree extension_ghosts.tree es) []

-- They are none; or there is no memory for them.
abbrev pub AreNoExtensions : Codec → List ℕ → Status → Type 0
AreNoExtensions rule octets status = IsNoWhole rule extensions_shape octets status

-- The identifier of the extension has another text.
abbrev pub HasOther : List ℕ → Extension → Type 0
HasOther identifier e = identifier ≢ dotted e.extn_id

-- The first extension whose identifier has this text.
pub record IsFirstWith (identifier : List ℕ) (es : List Extension) (e : Extension) : Type 0 where
  pub before : List Extension
  pub after : List Extension
  pub are : es ≡ before ++ e ∷ after
  pub others : All (HasOther identifier) before
  pub is : identifier ≡ dotted e.extn_id

-- The octets are Extensions, and these are those of the first one with the identifier.
pub record IsHeld (code : ℕ) (octets identifier value : List ℕ) : Type 0 where
  pub rule : Codec
  pub rule_is : code ≡ rule_number rule
  pub extensions : List Extension
  pub are : AreExtensions rule octets extensions
  pub extension : Extension
  pub first : IsFirstWith identifier extensions extension
  pub value_is : extension.extn_value ≡ value

abbrev pub AnswersExtension : ℕ → List ℕ → List ℕ → List ℕ → List ℕ → ℕ → Status → Type 0
AnswersExtension code octets identifier old new needed Ok = (value : List ℕ) × IsHeld code octets identifier value × (needed ≡ length value) × (needed ≤ length old) × (new ≡ written_over value old)
AnswersExtension code octets identifier old new needed BufferTooSmall = (value : List ℕ) × IsHeld code octets identifier value × (needed ≡ length value) × (length old < needed) × (new ≡ old)
AnswersExtension code octets identifier old new needed Absent =
    (rule : Codec) × (code ≡ rule_number rule) × (es : List Extension) × AreExtensions rule octets es × All (HasOther identifier) es × IsUnwritten old new needed
AnswersExtension code octets identifier old new needed UnknownRule = IsUnknownRule code × IsUnwritten old new needed
AnswersExtension code octets identifier old new needed status = (rule : Codec) × (code ≡ rule_number rule) × AreNoExtensions rule octets status × IsUnwritten old new needed
