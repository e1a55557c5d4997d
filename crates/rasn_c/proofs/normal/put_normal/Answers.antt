use Rattle.std.proofs.Common.{refl}
use Rattle.rasn_c.proofs.Unwritten.{refused}
use Rattle.rasn_c.proofs.normal.put_normal.Goals as goal

pub returns-in-Some-Err : goal.returns-in-Some-Err
returns-in-Some-Err c =
    let of_type = rw (c.in-Some-Err.is, c.in-Some-Err.field-0-is) at c.answer_of.ensures in
    refused c.args.octets.now c.in-Some-Err.error c.refusal.result c.refusal.ensures (record { shape_is = of_type.1; rule_is = c.in-Some.ensures }) of_type.2 (record { same = refl; none = refl })
