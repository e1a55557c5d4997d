-- The next tag.
use Rattle.std.proofs.Common.{◌≡◌, ◌≢◌, ◌⊎◌, inl, inr, ℕ, Bool, List, Ok, Err, refl, ap, ◌∙◌, subst}
use Rattle.rasn_types.specs.declared.types.tag.Tag.{Tag}
use Rattle.rasn_types.specs.Framing.{AreOctets, NextTag}
use Rattle.rasn_types.specs.Tags.{Form}
use Rattle.rasn_types.specs.Errors.{IsOutOfMemory}
use Rattle.rasn_de.specs.declared.ber.de.parser.ParseError.{ParseError}
use Rattle.rasn_de.specs.declared.ber.de.parser.ParseError.TheVariants as fault
use Rattle.rasn_de.specs.Headers.{spelled, Identified, identifier_by, identifier_at}
use Rattle.rasn_de.specs.Causes.{error_kind}
use Rattle.rasn_de.specs.declared.ber.de.parser.headers.Spelling.{Spelling}
use Rattle.rasn_de.proofs.Headers.Identifiers.{identifier_parsed, identifier_spelled}
use Rattle.rasn_de.proofs.Headers.Memory.{NoMemory, identifier_none}

pub next_parsed : (spelling : Form) (l : List ℕ) (i : Identified) → AreOctets l → identifier_at spelling l ≡ Ok i → NextTag spelling l i.tag
next_parsed spelling l i o e =
    let s = identifier_parsed spelling l i o e in
    record { begins = record { id = s.front; bit = i.bit; more = i.rest; spells = s.spells.spells; is = s.is }; is_one = s.spells.is_one; shortest = s.shortest }

pub next_none : (spelling : Form) (l : List ℕ) (f : ParseError) → identifier_at spelling l ≡ Err f → (t : Tag) → NextTag spelling l t → ⊥
next_none spelling l f e t n =
    let b = n.begins in
    let k = identifier_spelled spelling b.id b.more t b.bit (record { spells = b.spells; is_one = n.is_one }) n.shortest in
    let h : identifier_at spelling l ≡ Ok (record { tag = t; bit = b.bit; rest = b.more }) = ap (identifier_at spelling) b.is ∙ k in
    cc

-- the same of the spelling that the code has
pub next_read : (spelling : Form) (s : Spelling) → s ≡ spelled spelling → (l : List ℕ) (i : Identified) → AreOctets l → identifier_by s.shortest l ≡ Ok i → NextTag spelling l i.tag
next_read spelling s e l i o f = next_parsed spelling l i o (subst (λ (z : Spelling). identifier_by z.shortest l ≡ Ok i) e f)

pub next_unread : (spelling : Form) (s : Spelling) → s ≡ spelled spelling → (l : List ℕ) (f : ParseError) → identifier_by s.shortest l ≡ Err f → (t : Tag) → NextTag spelling l t → ⊥
next_unread spelling s e l f g = next_none spelling l f (subst (λ (z : Spelling). identifier_by z.shortest l ≡ Err f) e g)

pub next_memory : (shortest : Bool) (l : List ℕ) (f : ParseError) → identifier_by shortest l ≡ Err f → f ≢ fault.OutOfMemory
next_memory shortest l f e = subst NoMemory e (identifier_none shortest l)

-- A fault other than a failed allocation isn't reported as one.
pub kind_memory : (f : ParseError) → f ≢ fault.OutOfMemory → IsOutOfMemory (error_kind f) → ⊥
kind_memory fault.OutOfMemory n e = n refl
kind_memory _ n e = cc

pub memory_or : (f : ParseError) → (f ≡ fault.OutOfMemory) ⊎ (f ≢ fault.OutOfMemory)
memory_or fault.OutOfMemory = inl refl
memory_or _ = inr (λ e. cc)
