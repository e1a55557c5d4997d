use Rattle.std.proofs.Common.{string_bytes}
use lib.Utf8.{encode}
use Rattle.rasn_text.proofs.NameTexts.{relative_more}
use Rattle.rasn_text.proofs.name.push_relative.Goals as goal

pub loop-place-preserved : goal.loop-place-preserved
unfolding encode
loop-place-preserved c =
    relative_more c.as_slice-attributes.result.now c.loop-place.place c.index-attributes-place.result (string_bytes c.args.text.now) (string_bytes c.loop-place.text) (string_bytes c.push_mark.new.text) (string_bytes c.push_attribute.new.text)
    c.loop-place-test.true c.index-attributes-place.is c.loop-place.invariant c.in_ok-push_mark.ensures c.in_ok-push_attribute.ensures
