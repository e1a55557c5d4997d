use Rattle.std.proofs.Common.{arith, sym, ◌∙◌, ap, length, true≢false}
use Rattle.std.proofs.lemmas.Fmt.{parse-decimal}
use Rattle.std.proofs.lemmas.Str.Pattern.{starts_char}
use Rattle.rasn_dynamic.proofs.PathTexts.{no_bracket, are_digits, parts_are, no_plus, no_zero, one_long, is_index}
use Rattle.rasn_dynamic.proofs.path_text.first_index.Goals as goal
use Rattle.rasn_dynamic.proofs.path_text.first_index.Goals.{else-starts_with-2-via-then-starts_with-2+else-digits-gt1, else-starts_with-2-via-else-starts_with-2}

pub returns-in_err-digits : goal.returns-in_err-digits
returns-in_err-digits c = rw c.from_residual.ensures (no_bracket c.args.text.now c.split_once.result c.split_once.ensures.cases c.in_err-digits.was)

pub returns-then-starts_with : goal.returns-then-starts_with
returns-then-starts_with c = λ index rest f.
    let d = are_digits c.args.text.now c.split_once.result c.in_ok-digits.digits c.in_ok-digits.rest c.split_once.ensures.cases c.in_ok-digits.was index rest f in
    let s = starts_char 43 c.in_ok-digits.digits.now c.starts_with.result c.starts_with.ensures.cases (omega arith) (omega arith) in
    no_plus index f.fits (rw d at (s.0 c.if-starts_with.true))

pub returns-then-digits-gt1 : goal.returns-then-digits-gt1
returns-then-digits-gt1 c = λ index rest f.
    let d = are_digits c.args.text.now c.split_once.result c.in_ok-digits.digits c.in_ok-digits.rest c.split_once.ensures.cases c.in_ok-digits.was index rest f in
    let s = starts_char 48 c.in_ok-digits.digits.now c.starts_with-2.result c.starts_with-2.ensures.cases (omega arith) (omega arith) in
    let one = no_zero index f.fits (rw d at (s.0 c.if-starts_with-2.true)) in
    let n = ap length d in
    omega (arith, one, n, c.if-digits-gt1.true)

pub returns-in_default : goal.returns-in_default
returns-in_default c = λ index rest f.
    let d = are_digits c.args.text.now c.split_once.result c.in_ok-digits.digits c.in_ok-digits.rest c.split_once.ensures.cases c.in_ok-digits.was index rest f in
    let p = parse-decimal 64 index c.in_ok-digits.digits.now c.parse.result f.fits f.fits d c.parse.ensures.value.0 in
    let e = c.in_default.is in
    cc

pub returns : goal.returns
returns c =
    let digits = c.in_ok-digits.digits.now in
    let t = parts_are c.args.text.now c.split_once.result c.in_ok-digits.digits c.in_ok-digits.rest c.split_once.ensures.cases c.in_ok-digits.was in
    let plus = starts_char 43 digits c.starts_with.result c.starts_with.ensures.cases (omega arith) (omega arith) in
    let zero_first = starts_char 48 digits c.starts_with-2.result c.starts_with-2.ensures.cases (omega arith) (omega arith) in
    let i = is_index digits c.in-Ok.index c.parse.result c.parse.ensures.value.0 c.in-Ok.is (λ e. true≢false (sym (plus.1 e) ∙ c.if-starts_with.false)) (λ e. elim c.else-starts_with-2.branch [
      | else-starts_with-2-via-then-starts_with-2+else-digits-gt1 w ↦ one_long digits w.if-digits-gt1.false e
      | else-starts_with-2-via-else-starts_with-2 w ↦ absurd (true≢false (sym (zero_first.1 e) ∙ w.if-starts_with-2.false))
    ]) in
    record {
      fits = i.0;
      text_is = rw i.1 t;
    }
