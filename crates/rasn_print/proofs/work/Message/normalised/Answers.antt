use Rattle.std.proofs.Common.{◌≡◌, rules, None, subst}
use Rattle.rasn_types.specs.declared.types.codec.Codec.TheVariants.{Ber}
use Rattle.rasn_lint.specs.LocalTimes.{IsFirstIn}
use Rattle.rasn_print.specs.Verdicts.{HasNoLocalTime}
use Rattle.rasn_print.proofs.Verdicts.{any_ok, zoned}
use Rattle.rasn_print.proofs.work.Message.normalised.Goals as goal

pub returns-in-Ok-None : goal.returns-in-Ok-None
returns-in-Ok-None c = λ ber utc.
    let m = c.args.self.now.wanted.now in
    let none : c.in-Ok-None.field-0 ≡ None = search rules in
    let h = subst (IsFirstIn m.schema.now.types.items Ber m.root.0 c.args.self.now.octets.now) none (c.in-Ok-None.ensures ber utc) in
    any_ok (HasNoLocalTime m c.args.self.now.octets.now) c.normal.result (zoned m c.args.self.now.octets.now h)
