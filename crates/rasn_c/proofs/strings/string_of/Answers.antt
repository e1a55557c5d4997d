use Rattle.std.proofs.Common.{ℕ, refl, inl, inr, ap, sym, subst}
use Rattle.std.specs.Prelude.{Vec, IsUtf8, chars}
use Rattle.std.specs.Global.{Global}
use Rattle.std.proofs.lemmas.Str.{IsUtf8-string_bytes}
use Rattle.rasn_types.specs.Shapes.{numeric, printable, ia5, visible, utf8, numbers}
use Rattle.rasn_c.specs.Leaves.{IsLeaf}
use Rattle.rasn_c.proofs.NoStrings.{no_octets}
use Rattle.rasn_c.proofs.strings.string_of.Goals as goal

pub returns-in-Ok : goal.returns-in-Ok
returns-in-Ok c =
    let octets = ap (λ (v : Vec ℕ Global). v.items) c.into_bytes.ensures.value in
    inl (c.in-12.is, subst IsUtf8 (sym octets) (IsUtf8-string_bytes c.in-Ok.text), subst (λ t. IsLeaf c.args.rule utf8 c.args.octets.now (numbers (chars t))) (sym octets) c.in-Ok.ensures)

pub returns-in-Err-leaf_of : goal.returns-in-Err-leaf_of
returns-in-Err-leaf_of c = no_octets _ _ _ numeric (inl (c.in-18.is, refl)) _ c.in-Err-leaf_of.ensures

pub returns-in-Err-leaf_of-2 : goal.returns-in-Err-leaf_of-2
returns-in-Err-leaf_of-2 c = no_octets _ _ _ printable (inr (inl (c.in-19.is, refl))) _ c.in-Err-leaf_of-2.ensures

pub returns-in-Err-leaf_of-3 : goal.returns-in-Err-leaf_of-3
returns-in-Err-leaf_of-3 c = no_octets _ _ _ ia5 (inr (inr (inl (c.in-22.is, refl)))) _ c.in-Err-leaf_of-3.ensures

pub returns-in-Err-leaf_of-4 : goal.returns-in-Err-leaf_of-4
returns-in-Err-leaf_of-4 c = no_octets _ _ _ visible (inr (inr (inr (c.in-26.is, refl)))) _ c.in-Err-leaf_of-4.ensures
