use Rattle.std.proofs.Common.{Vec, ℕ, ap, ◌∙◌, subst}
use Rattle.std.proofs.lemmas.Str.{IsUtf8-string_bytes}
use Rattle.rasn_json.specs.Texts.{IsCarriedInstant}
use Rattle.rasn_json.proofs.times.text_of_instant.Goals as goal

pub returns-in-Ok : goal.returns-in-Ok
returns-in-Ok c =
    let octets = c.in_ok-octets_of_instant.ensures in
    (octets.exists, subst (IsCarriedInstant c.args.kind) c.utc.ensures c.if-not-is_carried.ensures, IsUtf8-string_bytes c.in-Ok.text, ap (λ (v : Vec ℕ _). v.items) c.in-Ok.ensures.ok ∙ octets.written)
