-- The encoding at the start of octets.
use Rattle.std.specs.Prelude.{◌≡◌, ℕ, List, ◌++◌, Bool}
use Rattle.std.specs.Borrow.{Bor}
use Rattle.rasn_types.specs.declared.types.codec.Codec.TheVariants.{Der}
use Rattle.rasn_types.specs.declared.types.tag.Tag.{Tag}
use Rattle.rasn_types.specs.Framing.{Frame, definite}
use Rattle.rasn_types.specs.Grammar.{top}
use Rattle.rasn_types.specs.Tags.{der_form}
use Rattle.rasn_de.specs.State.{State}
use Rattle.rasn_lint.specs.declared.der.encoding.Encoding.{Encoding}

-- The state of a decoder at the start of the octets, under DER.
abbrev pub start : List ℕ → State
start l = record { rule = Der; depth = 128; closing = top Der; whole = l; rest = l }

-- The octets don't begin with an encoding that has a header of DER: of any tag, and of this one.
abbrev pub HasNoFrame : List ℕ → Type 0
HasNoFrame l = (tag : Tag) (bit : Bool) (contents rest : List ℕ) → Frame der_form l tag bit rest (definite contents) → ⊥

abbrev pub HasNoFrameOf : List ℕ → Tag → Bool → Type 0
HasNoFrameOf l tag bit = (contents rest : List ℕ) → Frame der_form l tag bit rest (definite contents) → ⊥

-- The contents of the encoding with this tag at the start of the octets, and what follows it.
abbrev pub IsFrameOf : List ℕ → Tag → Bool → Bor (List ℕ) × Bor (List ℕ) → Type 0
IsFrameOf l tag bit p = Frame der_form l tag bit p.1.now (definite p.0.now)

pub record IsFirstEncoding (l : List ℕ) (e : Encoding) : Type 0 where
  pub frame : Frame der_form l e.tag e.is_constructed e.rest.now (definite e.contents.now)
  pub octets : l ≡ e.octets.now ++ e.rest.now
