-- The blocks of PEM of a text: where each is, and its octets, in a buffer.
use Rattle.std.specs.Prelude.{◌≡◌, ◌+◌, ◌≤◌, ◌<◌, ℕ, List, ◌++◌, length, slice_get, Some, None, Result, Ok as Made, Err, Vec}
use Rattle.std.specs.Global.{Global}
use Rattle.rasn_text.specs.declared.pem.Block.{Block}
use Rattle.rasn_text.specs.declared.pem.PemError.{PemError}
use Rattle.rasn_text.specs.Pem.{AreBlocksOf, AreBefore, begin}
use Rattle.rasn_c.specs.Buffers.{written_over, IsFilled}
use Rattle.rasn_c.specs.Leaves.{IsUnwritten}
use Rattle.rasn_c.specs.declared.blocks.BlockPlace.{BlockPlace}
use Rattle.rasn_c.specs.declared.status.Status.{Status}
use Rattle.rasn_c.specs.declared.status.Status.TheVariants.{Ok, Refused, OutOfMemory, BufferTooSmall, Absent}

-- The block with this index.
abbrev pub IsBlockAt : List ℕ → ℕ → Block → Type 0
IsBlockAt text index b = (bs : List Block) × AreBlocksOf text bs × (slice_get bs index ≡ Some b)

-- After the lines before it, the text goes on with `-----BEGIN ` and the label.
pub record IsPlaceOf (text : List ℕ) (b : Block) (p : BlockPlace) : Type 0 where
  pub front : List (List ℕ)
  pub before : List ℕ
  pub after : List ℕ
  pub lines : AreBefore text front (begin ++ (b.label.now ++ after))
  pub text_is : text ≡ before ++ (b.label.now ++ after)
  pub label : p.label ≡ length before
  pub label_length : p.label_length ≡ length b.label.now
  pub line : p.line ≡ length front + 1

abbrev pub no_place : BlockPlace
no_place = record { label = 0; label_length = 0; line = 0 }

-- The octets of a block are written to the buffer if they fit; a block without octets leaves it as it was.
abbrev pub AreContentsPut : Result (Vec ℕ Global) PemError → List ℕ → List ℕ → ℕ → Status → Type 0
AreContentsPut (Made octets) old new needed status = IsFilled octets.items old new needed status
AreContentsPut (Err e) old new needed status = (status ≡ Refused) × IsUnwritten old new needed

-- The block, where it is, and what its lines encode.
abbrev pub Holds : List ℕ → ℕ → BlockPlace → Result (Vec ℕ Global) PemError → Type 0
Holds text index p contents = (b : Block) × IsBlockAt text index b × IsPlaceOf text b p × (b.contents ≡ contents)

abbrev pub AnswersBlock : List ℕ → ℕ → BlockPlace → List ℕ → List ℕ → ℕ → Status → Type 0
AnswersBlock text index p old new needed Ok = (octets : Vec ℕ Global) × Holds text index p (Made octets) × (needed ≡ length octets.items) × (needed ≤ length old) × (new ≡ written_over octets.items old)
AnswersBlock text index p old new needed BufferTooSmall = (octets : Vec ℕ Global) × Holds text index p (Made octets) × (needed ≡ length octets.items) × (length old < needed) × (new ≡ old)
AnswersBlock text index p old new needed Refused = (e : PemError) × Holds text index p (Err e) × IsUnwritten old new needed
AnswersBlock text index p old new needed Absent = (bs : List Block) × AreBlocksOf text bs × (slice_get bs index ≡ None) × (p ≡ no_place) × IsUnwritten old new needed
AnswersBlock text index p old new needed OutOfMemory = (p ≡ no_place) × IsUnwritten old new needed
AnswersBlock text index p old new needed _ = ⊥
