use Rattle.std.proofs.Common.{string_bytes}
use lib.Utf8.{encode}
use Rattle.rasn_text.proofs.ValueTexts.{on_ok, named, numbered}
use Rattle.rasn_text.proofs.name.push_attribute.Goals as goal

pub returns-in_ok-push-in-Some : goal.returns-in_ok-push-in-Some
unfolding encode
returns-in_ok-push-in-Some c =
    on_ok c.push_value.result _ _
    (named c.args.attribute.now c.arcs.result.now c.as_bytes-value.result.now c.in-Some.name.now (string_bytes c.args.text.now) (string_bytes c.push_str.new.self) (string_bytes c.push.new.self) (string_bytes c.push_value.new.text)
    c.arcs.ensures.arcs c.as_bytes-value.ensures c.in-Some.ensures c.in_ok-push_str-in-Some.ensures.bytes c.in_ok-push-in-Some.ensures.bytes) c.push_value.ensures

pub returns-in_ok-write-in-None : goal.returns-in_ok-write-in-None
returns-in_ok-write-in-None c =
    on_ok c.push_octets.result _ _
    (numbered c.args.attribute.now c.arcs.result.now c.as_bytes-value.result.now (string_bytes c.args.text.now) (string_bytes c.write.new.self) (string_bytes c.push_octets.new.text) c.arcs.ensures.arcs c.as_bytes-value.ensures c.in-None.ensures
    c.in_ok-write-in-None.ensures.bytes) c.push_octets.ensures
