use Rattle.std.proofs.Common.{◌≡◌, map, take}
use Rattle.std.specs.List.{AllWithin}
use Rattle.rasn_c.specs.Compiling.{IsText, source_parts, text_parts}
use Rattle.rasn_c.proofs.compiling.sources_of.Given as goal

abbrev pub invariant-loop-text : goal.invariant-loop-text
invariant-loop-text l = record {
  are : AllWithin IsText l.texts 0 l.text-index;
  made : map source_parts l.sources.items ≡ map text_parts (take l.text-index l.texts);
}
