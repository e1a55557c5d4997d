-- What the private steps of a decoder consume.
use Rattle.std.specs.Prelude.{◌≡◌, MatchResult, IfErr, Result, Ok, Err}
use Rattle.rasn_types.specs.declared.types.tag.Tag.{Tag}
use Rattle.rasn_types.specs.Framing.{NextTag}
use Rattle.rasn_types.specs.Tags.{form}
use Rattle.rasn_types.specs.declared.error.decode.DecodeError.{DecodeError}
use Rattle.rasn_de.specs.declared.ber.de.parser.ParseError.{ParseError}
use Rattle.rasn_de.specs.declared.ber.de.parser.Value.{Value}
use Rattle.rasn_de.specs.declared.ber.de.parser.headers.Expected.{Expected}
use Rattle.rasn_de.specs.Headers.{header_at}
use Rattle.rasn_de.specs.ParserViews.{header_with, peeked_tag}
use Rattle.rasn_de.specs.Causes.{error_kind}
use Rattle.rasn_de.specs.State.{State, at, IsEnd, Call}

-- The error that reports a fault, with the decoder's rules.
abbrev pub IsErrorOf : ParseError → State → DecodeError → Type 0
IsErrorOf f s e = e ≡ record { kind = error_kind f; codec = s.rule }

-- An error names the decoder's rules.
abbrev pub NamesRules : {D : Type 0} → Call D
NamesRules old result new = IfErr result (λ e. e.codec ≡ old.rule)

-- The header of a value is consumed, with its contents if their length is definite. An error consumes nothing.
abbrev pub Consumes : Expected → State → Result Value DecodeError → State → Type 0
Consumes expected old (Ok v) new = (header_at (form old.rule) expected old.rest ≡ Ok (header_with v new.rest)) × (new ≡ at old new.rest) × IsEnd old.rest new.rest
Consumes expected old (Err e) new = (f : ParseError) × (header_at (form old.rule) expected old.rest ≡ Err f) × IsErrorOf f old e × (new ≡ old)

-- The tag of the next value, or an error if no value follows.
abbrev pub IsNextTag : State → Result Tag DecodeError → Type 0
IsNextTag s result = MatchResult result (λ t. NextTag (form s.rule) s.rest t) (λ e. (t : Tag) → NextTag (form s.rule) s.rest t → ⊥)

-- The next tag, or the first fault of its identifier.
abbrev pub PeeksTag : State → Result Tag DecodeError → Type 0
PeeksTag s (Ok t) = peeked_tag (form s.rule) s.rest ≡ Ok t
PeeksTag s (Err e) = (f : ParseError) × (peeked_tag (form s.rule) s.rest ≡ Err f) × IsErrorOf f s e
