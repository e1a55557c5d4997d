use Rattle.std.proofs.Common.{inl, refl, Ok, Err}
use Rattle.rasn_types.specs.Time.{DateText}
use Rattle.rasn_de.proofs.Leaves.Returns.{residual, with_rules}
use Rattle.rasn_de.proofs.Strings.Time.{date_decodes, time_decoded, time_refused}
use Rattle.rasn_de.proofs.Leaves.Rules.{time_rules}
use Rattle.rasn_de.proofs.ber.de.Decoder.decode_date.Goals as goal

pub returns-in_err-text : goal.returns-in_err-text
returns-in_err-text c =
    rw (residual _ c.from_residual.ensures.1) (with_rules (date_decodes c.args.tag c.args.self.now _ (Err c.in_err-text.field-0.0) c.octets.ensures.octets) (time_rules DateText c.args.tag c.args.self.now _ (Err c.in_err-text.field-0.0)) (inl c.in_err-text.ensures.exact))

pub returns-in-Some : goal.returns-in-Some
returns-in-Some c =
    with_rules (date_decodes c.args.tag c.args.self.now _ (Ok c.in-Some.day) c.octets.ensures.octets) (time_rules DateText c.args.tag c.args.self.now _ (Ok c.in-Some.day))
    (time_decoded (λ rule. DateText) c.args.tag c.args.self.now _ c.in_ok-text.text c.args.self.now.rule _ c.in-Some.day c.in_ok-text.ensures.exact refl c.deref.ensures.value c.in-Some.ensures)

pub returns-in-None : goal.returns-in-None
returns-in-None c =
    with_rules (date_decodes c.args.tag c.args.self.now _ (Err c.invalid_date.result) c.octets.ensures.octets) (time_rules DateText c.args.tag c.args.self.now _ (Err c.invalid_date.result))
    (time_refused (λ rule. DateText) c.args.tag c.args.self.now _ c.in_ok-text.text c.args.self.now.rule _ c.invalid_date.result c.in_ok-text.ensures.exact refl c.deref.ensures.value c.in-None.ensures c.invalid_date.ensures)
