-- What `decode_octet_string` ensures.
use Rattle.std.proofs.Common.{◌≡◌, ◌≤◌, ℕ, inl, inr, length, Result, Ok, Err, refl}
use Rattle.std.specs.Prelude.{IfErr}
use Rattle.std.specs.Cow.{cow_slice_items}
use Rattle.std.specs.declared.alloc.Global.{Global}
use Rattle.std.specs.declared.borrow.CowSlice.{CowSlice}
use Rattle.rasn_types.specs.declared.types.tag.Tag.{Tag}
use Rattle.rasn_types.specs.declared.types.constraints.Constraints.{Constraints}
use Rattle.rasn_types.specs.declared.error.decode.DecodeError.{DecodeError}
use Rattle.rasn_types.specs.Errors.{IsOutOfMemory}
use Rattle.rasn_types.specs.Framing.{AreOctets}
use Rattle.rasn_types.specs.Shapes.{leaf, octet_string, Admits}
use Rattle.rasn_de.specs.declared.ber.de.parser.ParseError.{ParseError}
use Rattle.rasn_de.specs.OctetString.{DecodesOctets, IsPrimitive, cow_tree}
use Rattle.rasn_de.specs.CharacterString.{BySize, IsOutOfSize, DecodesOctetString, DecodesString}
use Rattle.rasn_de.specs.State.{State}
use Rattle.rasn_de.specs.Steps.{IsErrorOf}
use Rattle.rasn_de.specs.Decodes.{Decodes}
use Rattle.rasn_de.proofs.Leaves.Memory.{primitive_plain}
use Rattle.rasn_de.proofs.Strings.CharacterString.{string_decodes, ungathered, untold}
use Rattle.rasn_de.proofs.Strings.Checks.{by_size}
use Rattle.rasn_de.proofs.Leaves.Rules.{octets_rules}

module _ (tag : Tag) (bounds : Constraints) (old new : State) (o : AreOctets old.rest) where
  abbrev pub Ensured : Result (CowSlice ℕ Global) DecodeError → Type 0
  Ensured result = record {
    reads : Decodes (leaf octet_string tag bounds) cow_tree old result new;
    exact : DecodesOctetString tag bounds old result new;
    memory : IsPrimitive old.rule tag old.rest → IfErr result (λ e. IsOutOfMemory e.kind → ⊥);
    rules : IfErr result (λ e. e.codec ≡ old.rule);
  }

  reads : (result : Result (CowSlice ℕ Global) DecodeError) → DecodesString cow_slice_items (BySize bounds.size) tag old result new → Decodes (leaf octet_string tag bounds) cow_tree old result new
  reads result g = string_decodes (by_size bounds) cow_slice_items tag old new result o g

  ensured : (e : DecodeError) → DecodesOctetString tag bounds old (Err e) new → Ensured (Err e)
  ensured e (inl g) = record { reads = reads (Err e) (inl g); exact = inl g; memory = primitive_plain tag bounds old new e (inl g); rules = octets_rules tag bounds old new e (inl g) }
  ensured e (inr g) = record { reads = reads (Err e) (inr (inr g)); exact = inr g; memory = primitive_plain tag bounds old new e (inr g); rules = octets_rules tag bounds old new e (inr g) }

  -- octets that weren't gathered
  pub octets_ungathered : (e : DecodeError) → DecodesOctets tag old (Err e) new → Ensured (Err e)
  octets_ungathered e g = ensured e (ungathered (BySize bounds.size) tag old new e g)

  module _ (s : CowSlice ℕ Global) (g : DecodesOctets tag old (Ok s) new) where
    -- octets whose size is within bounds
    pub octets_given : Admits ◌≤◌ bounds.size (length (cow_slice_items s)) → Ensured (Ok s)
    octets_given a =
        let h : DecodesString cow_slice_items (BySize bounds.size) tag old (Ok s) new = ((cow_slice_items s, g.0, (refl, a)), g.1) in
        record { reads = reads (Ok s) h; exact = (h, g.2); memory = λ p. tt; rules = tt }

    -- octets whose size isn't
    pub octets_unsized : (f : ParseError) (e : DecodeError) → IsOutOfSize bounds.size (length (cow_slice_items s)) f → IsErrorOf f new e → Ensured (Err e)
    octets_unsized f e n x = ensured e (inr (untold (by_size bounds) tag old new s g f e n x))
