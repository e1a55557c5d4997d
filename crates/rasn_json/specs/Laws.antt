-- Values that are written as JSON and read again.
use Rattle.std.specs.Prelude.{◌≡◌, ℕ, List, Ok}
use Rattle.rasn_types.specs.declared.types.codec.Codec.TheVariants.{Der}
use Rattle.rasn_types.specs.Framing.{AreOctets}
use Rattle.rasn_types.specs.Bytes.{Same}
use Rattle.rasn_types.specs.Carried.{Carried}
use Rattle.rasn_types.specs.Lawful.{IsLawful}
use Rattle.rasn.specs.Headline.{AnsweredAlone}
use Rattle.rasn_schema.specs.declared.types.«Type».{«Type»}
use Rattle.rasn_schema.specs.declared.value.Value.{Value}
use Rattle.rasn_schema.specs.Schemas.{IsSchema}
use Rattle.rasn_schema.specs.Trees.{tree_of}
use Rattle.rasn_dynamic.specs.Entry.{IsEncoded, shape_of}
use Rattle.rasn_json.specs.Names.{HaveDistinctNames}
use Rattle.rasn_json.specs.Entry.{HasJson, IsReadAs}

-- A text that is JSON of a value is read as no value that means another. The order of the elements of a SET OF doesn't count where a
-- default is left out.
abbrev pub MeansTheSame : Type 0
MeansTheSame = (types : List «Type») (id : ℕ) (text : List ℕ) (v w : Value) → IsSchema types → HaveDistinctNames types
    → HasJson types id v text → IsReadAs types id text w → Same (tree_of v) (tree_of w)

-- Of octets that DER reads as a carried value of a lawful type, JSON is encoded as these octets.
abbrev pub GivesTheOctets : Type 0
GivesTheOctets = (types : List «Type») (id : ℕ) (input text octets : List ℕ) (v w : Value) → IsSchema types → HaveDistinctNames types
    → IsLawful (shape_of types id) → AreOctets input → AnsweredAlone Der (shape_of types id) tree_of input (Ok v)
    → Carried Der (shape_of types id) (tree_of v) → HasJson types id v text → IsReadAs types id text w
    → IsEncoded Der types id w octets → octets ≡ input
