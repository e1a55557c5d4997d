use Rattle.std.proofs.Common.{◌++◌, string_bytes, length, ap, ◌∙◌}
use Rattle.std.specs.Prelude.{◌==◌}
use lib.Utf8.{encode}
use Rattle.rasn_text.proofs.NameTexts.{name_more, separator}
use Rattle.rasn_text.proofs.name.relatives_text.Goals as goal

pub loop-relative-preserved : goal.loop-relative-preserved
unfolding encode
loop-relative-preserved c =
    let (done, e, text) = c.loop-relative.invariant in
    name_more c.args.sequence.now.items c.loop-relative.rest.now c.in-Some.earlier.now c.in-Some.relative.now done (string_bytes c.loop-relative.text) (string_bytes c.push_mark.new.text) (string_bytes c.push_relative.new.text)
    e c.in-Some.ensures.cases.0 text (c.in_ok-push_mark.ensures ∙ ap (λ l. string_bytes c.loop-relative.text ++ separator 44 (length c.loop-relative.rest.now == length l)) c.as_slice-relatives.ensures.value) c.in_ok-push_relative.ensures
