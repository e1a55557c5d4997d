use Rattle.std.proofs.Common.{chars, string_bytes, ap, sym, subst, ◌∙◌}
use Rattle.std.specs.Char.{IsScalar}
use Rattle.std.proofs.lemmas.Str.{chars-nil, IsUtf8-string_bytes}
use Rattle.rasn_schema.proofs.Characters.{ReadSoFar, read_start, not_read, too_few, some_length, pushed, read_four, not_four}
use Rattle.rasn_schema.proofs.universal.universal_text.Goals as goal

pub loop-rest-init : goal.loop-rest-init
loop-rest-init c = subst (λ z. ReadSoFar c.args.octets.now c.args.octets.now z) (sym (ap chars c.new-text.ensures.bytes ∙ chars-nil)) (read_start c.args.octets.now)

pub returns-else-is_empty : goal.returns-else-is_empty
returns-else-is_empty c =
    not_read c.args.octets.now c.loop-rest.rest.now (chars (string_bytes c.loop-rest.text)) c.loop-rest.invariant
    (too_few c.loop-rest.rest.now (some_length c.is_empty.result c.loop-rest.rest.now c.is_empty.ensures c.if-is_empty.false) c.in_default.len_below)

pub returns-in_default-from_u32 : goal.returns-in_default-from_u32
returns-in_default-from_u32 c =
    not_four c.args.octets.now c.loop-rest.rest.now (chars (string_bytes c.loop-rest.text)) c.number_of.result c.loop-rest.invariant c.in-len4-up.len_at_least c.number_of.ensures c.in_default-from_u32.ensures.cases

pub loop-rest-preserved : goal.loop-rest-preserved
loop-rest-preserved c =
    let v = c.in-Some.ensures.value in
    read_four c.args.octets.now c.loop-rest.rest.now (chars (string_bytes c.loop-rest.text)) (chars (string_bytes c.push.new.self)) c.number_of.result c.in-Some.character c.loop-rest.invariant c.in-len4-up.len_at_least
    c.number_of.ensures c.in-Some.ensures.cases v.1
    (pushed (string_bytes c.loop-rest.text) (string_bytes c.push.new.self) c.in-Some.character (IsUtf8-string_bytes c.loop-rest.text) (subst IsScalar (sym v.1) v.0) c.in_ok-push.ensures.bytes)
