-- What the private steps of a decoder take.
use Rattle.std.proofs.Common.{◌≡◌, ℕ, List, Ok, refl, sym, subst}
use Rattle.rasn_types.specs.declared.types.tag.Tag.{Tag}
use Rattle.rasn_types.specs.Framing.{AreOctets}
use Rattle.rasn_types.specs.Tags.{form}
use Rattle.rasn_de.specs.declared.ber.de.parser.headers.Expected.{Expected}
use Rattle.rasn_de.specs.declared.ber.de.parser.Value.{Value}
use Rattle.rasn_de.specs.Headers.{header_at}
use Rattle.rasn_de.specs.ParserViews.{header_with}
use Rattle.rasn_de.specs.State.{State, at}
use Rattle.rasn_de.specs.Steps.{Consumes}
use Rattle.std.specs.Cow.{cow_slice_items}
use Rattle.std.specs.declared.alloc.Global.{Global}
use Rattle.std.specs.declared.borrow.CowSlice.{CowSlice}
use Rattle.rasn_de.specs.OctetString.{octet_string_at, IsBorrowedIfPrimitive, DecodesOctets}
use Rattle.rasn_de.proofs.Headers.Ends.{IsEnd-header}

pub taken : (expected : Expected) (old new : State) (v : Value) (rest : List ℕ) → AreOctets old.rest → header_at (form old.rule) expected old.rest ≡ Ok (header_with v rest) → new ≡ at old rest → Consumes expected old (Ok v) new
taken expected old new v rest o h e =
    let P : State → Type 0 = λ n. Consumes expected old (Ok v) n in
    subst P (sym e) (h, refl, IsEnd-header (form old.rule) expected old.rest (header_with v rest) o h)

pub gathered : (tag : Tag) (old new : State) (s : CowSlice ℕ Global) (rest : List ℕ) → octet_string_at old.rule old.depth tag old.rest ≡ Ok (cow_slice_items s, rest) → IsBorrowedIfPrimitive old.rule tag old.rest s → new ≡ at old rest
    → DecodesOctets tag old (Ok s) new
gathered tag old new s rest h f e =
    let P : State → Type 0 = λ n. DecodesOctets tag old (Ok s) n in
    subst P (sym e) (h, refl, f)
