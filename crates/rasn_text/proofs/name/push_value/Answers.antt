use Rattle.std.proofs.Common.{string_bytes, subst, inl, inr}
use Rattle.rasn_types.specs.CharacterString.{AreAdmitted, printable_ascii, ia5_ascii}
use Rattle.rasn_types.specs.declared.types.strings.alphabet.Alphabet.TheVariants.{Printable, Ia5}
use Rattle.rasn_text.proofs.ValueTexts.{on_ok, own_characters, string_text}
use Rattle.rasn_text.proofs.name.push_value.Goals as goal

pub returns-in-Some-2 : goal.returns-in-Some-2
returns-in-Some-2 c =
    on_ok c.push_escaped-in-Some-2.result _ _
    (string_text c.args.octets.now c.in-Some-2.value c.as_str-in-Some-2.result.now (string_bytes c.args.text.now) (string_bytes c.push_escaped-in-Some-2.new.text) (inr (inl (rw c.in-Some-2.is at c.in_ok-value-2.ensures)))
    (own_characters Printable printable_ascii c.in-Some-2.value (subst (AreAdmitted Printable) c.value.view_is c.value.invariant)) c.as_str-in-Some-2.ensures) c.push_escaped-in-Some-2.ensures

pub returns-in-Some-3 : goal.returns-in-Some-3
returns-in-Some-3 c =
    on_ok c.push_escaped-in-Some-3.result _ _
    (string_text c.args.octets.now c.in-Some-3.value c.as_str-in-Some-3.result.now (string_bytes c.args.text.now) (string_bytes c.push_escaped-in-Some-3.new.text) (inr (inr (rw c.in-Some-3.is at c.in_ok-value-3.ensures)))
    (own_characters Ia5 ia5_ascii c.in-Some-3.value (subst (AreAdmitted Ia5) c.value-in-Some-3.view_is c.value-in-Some-3.invariant)) c.as_str-in-Some-3.ensures) c.push_escaped-in-Some-3.ensures
