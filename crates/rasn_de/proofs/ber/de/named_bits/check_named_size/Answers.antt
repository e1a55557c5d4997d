use Rattle.std.proofs.Common.{◌≡◌, ◌⊎◌, inl, inr, sym, ◌∙◌, true}
use Rattle.rasn_de.specs.Leaves.{is_ber}
use Rattle.rasn_de.proofs.Strings.NamedBits.{named_all, named_none}
use Rattle.rasn_de.proofs.ber.de.named_bits.check_named_size.Goals as goal
use Rattle.rasn_de.proofs.ber.de.named_bits.check_named_size.Goals.{else-size-len-via-then-size-len+else-not-is_basic, else-size-len-via-else-size-len}

pub returns-then-admits_padded_size : goal.returns-then-admits_padded_size
returns-then-admits_padded_size c bs s l =
    let h : (c.args.size ≡ c.args.len) ⊎ (is_ber c.args.rules ≡ true) = elim c.else-size-len.branch [
      | else-size-len-via-then-size-len+else-not-is_basic w ↦ inr (sym c.is_ber-is_basic.ensures ∙ w.if-not-is_basic.false)
      | else-size-len-via-else-size-len w ↦ inl w.if-size-len.false
    ] in
    named_all c.args.rules c.args.constraints.now bs c.args.size c.args.len s l h c.if-admits_padded_size.ensures

pub returns : goal.returns
returns c bs s l =
    let h : (c.args.size ≡ c.args.len) ⊎ (is_ber c.args.rules ≡ true) = elim c.else-size-len.branch [
      | else-size-len-via-then-size-len+else-not-is_basic w ↦ inr (sym c.is_ber-is_basic.ensures ∙ w.if-not-is_basic.false)
      | else-size-len-via-else-size-len w ↦ inl w.if-size-len.false
    ] in
    rw c.size_bounds-expected.ensures (named_none c.args.rules c.args.constraints.now bs c.args.size c.args.len s l h c.if-admits_padded_size.ensures)
