use Rattle.std.proofs.Common.{inl, Ok, Err}
use Rattle.rasn_types.specs.Grammar.{GeneralizedText}
use Rattle.rasn_de.proofs.Leaves.Returns.{residual, with_rules}
use Rattle.rasn_de.proofs.Strings.Time.{generalized_decodes, time_decoded, time_refused}
use Rattle.rasn_de.proofs.Leaves.Rules.{time_rules}
use Rattle.rasn_de.proofs.ber.de.Decoder.decode_generalized_time.Goals as goal

pub returns-in_err-text : goal.returns-in_err-text
returns-in_err-text c =
    rw (residual _ c.from_residual.ensures.1) (with_rules (generalized_decodes c.args.tag c.args.self.now _ (Err c.in_err-text.field-0.0) c.octets.ensures.octets) (time_rules (GeneralizedText c.args.self.now.rule) c.args.tag c.args.self.now _ (Err c.in_err-text.field-0.0)) (inl c.in_err-text.ensures.exact))

pub returns-in-Some : goal.returns-in-Some
returns-in-Some c =
    with_rules (generalized_decodes c.args.tag c.args.self.now _ (Ok c.in-Some.time) c.octets.ensures.octets) (time_rules (GeneralizedText c.args.self.now.rule) c.args.tag c.args.self.now _ (Ok c.in-Some.time))
    (time_decoded GeneralizedText c.args.tag c.args.self.now _ c.in_ok-text.text _ _ c.in-Some.time c.in_ok-text.ensures.exact c.codec-rules.ensures c.deref.ensures.value c.in-Some.ensures)

pub returns-in-None : goal.returns-in-None
returns-in-None c =
    with_rules (generalized_decodes c.args.tag c.args.self.now _ (Err c.invalid_date.result) c.octets.ensures.octets) (time_rules (GeneralizedText c.args.self.now.rule) c.args.tag c.args.self.now _ (Err c.invalid_date.result))
    (time_refused GeneralizedText c.args.tag c.args.self.now _ c.in_ok-text.text _ _ c.invalid_date.result c.in_ok-text.ensures.exact c.codec-rules.ensures c.deref.ensures.value c.in-None.ensures c.invalid_date.ensures)
