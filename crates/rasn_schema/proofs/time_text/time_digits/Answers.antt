use Rattle.std.proofs.Common.{◌≡◌, ◌≤◌, length, ap, sym, ◌∙◌, arith, rules}
use Rattle.std.specs.Str.{encode_utf8_all}
use Rattle.rasn_schema.specs.TimeTexts.{shown_digits}
use Rattle.rasn_schema.proofs.LeafTexts.{digits_found, digits_lost, read_same, read_other}
use Rattle.rasn_schema.proofs.time_text.time_digits.Goals.{else-len-count-via-then-len-count+in_ok-format+else-eq, else-len-count-via-else-len-count}
use Rattle.rasn_schema.proofs.time_text.time_digits.Goals as goal

pub returns-then-eq : goal.returns-then-eq
returns-then-eq c =
    let text = c.args.text.now in
    let digits = c.loop-octet.digits.items in
    let h : length text ≤ c.loop-octet.octet-index = omega arith in
    let n : length digits ≡ c.args.count = omega arith in
    let s : c.as_str.result.now ≡ text = read_same c.eq.result c.as_str.result.now text c.eq.ensures c.if-eq.true in
    let shown = c.as_str.ensures.value ∙ (c.in_ok-format.ensures.ok ∙ ap (λ l. encode_utf8_all (shown_digits l)) c.deref.ensures.value) in
    digits_found text digits c.loop-octet.octet-index c.args.count (search rules) h n (sym shown ∙ s)

pub returns : goal.returns
returns c =
    let text = c.args.text.now in
    let digits = c.loop-octet.digits.items in
    let h : length text ≤ c.loop-octet.octet-index = omega arith in
    digits_lost text digits c.loop-octet.octet-index c.args.count (search rules) h (λ n s. elim c.else-len-count.branch [
      | else-len-count-via-then-len-count+in_ok-format+else-eq w ↦
          let shown = w.as_str.ensures.value ∙ (w.in_ok-format.ensures.ok ∙ ap (λ l. encode_utf8_all (shown_digits l)) c.deref.ensures.value) in
          read_other w.eq.result w.as_str.result.now text w.eq.ensures w.if-eq.false (shown ∙ s)
      | else-len-count-via-else-len-count w ↦ absurd (omega arith)
    ])
