use Rattle.std.proofs.Common.{◌≡◌, ◌++◌, length, true}
use Rattle.std.specs.List.{AllByRecursion}
use Rattle.std.specs.Str.{IsUtf8}
use Rattle.rasn_dynamic.specs.PathText.{IsPlain, steps_text}
use Rattle.rasn_dynamic.proofs.PathTexts.{GoesOn}
use Rattle.rasn_dynamic.proofs.path_text.steps_of.Given as goal

abbrev pub invariant-loop-rest : goal.invariant-loop-rest
invariant-loop-rest l = record {
  utf8 : IsUtf8 l.rest;
  plain : AllByRecursion IsPlain l.steps.items;
  text_is : l.text ≡ steps_text true l.steps.items ++ l.rest;
  goes_on : GoesOn l.text l.steps.items l.rest;
}

abbrev pub decreases-loop-rest : goal.decreases-loop-rest
decreases-loop-rest l = length l.rest
