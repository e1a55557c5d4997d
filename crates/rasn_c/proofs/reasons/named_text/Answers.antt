use Rattle.std.proofs.Common.{rules}
use Rattle.std.specs.Prelude.{string_bytes}
use Rattle.rasn_c.proofs.reasons.named_text.Goals as goal

pub returns : goal.returns
returns c = record {
  shown = search rules;
  own = string_bytes c.in_ok-own.own;
  shown_own = search rules;
  path = search rules;
}
