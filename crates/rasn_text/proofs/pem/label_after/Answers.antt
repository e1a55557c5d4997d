use Rattle.std.proofs.Common.{None, Some}
use Rattle.std.proofs.lemmas.Str.Ascii.{trim_ascii_end_is}
use Rattle.std.proofs.lemmas.Bool.Decides.{Decides-eqb}
use Rattle.std.proofs.lemmas.Slice.Eq.{strip_prefix_is, strip_suffix_is}
use Rattle.rasn_text.specs.Pem.{dashes}
use Rattle.rasn_text.proofs.PemBlocks.{other_words, label_of}
use Rattle.rasn_text.proofs.pem.label_after.Goals as goal

pub returns-in-None : goal.returns-in-None
returns-in-None c = other_words _ _ _ (trim_ascii_end_is _ _ c.trim_ascii_end-text.ensures.value) (strip_prefix_is Decides-eqb _ _ None c.in-None.ensures.cases)

pub returns-in-Some : goal.returns-in-Some
returns-in-Some c =
    label_of _ _ _ c.in-Some.behind.now c.strip_suffix.result (trim_ascii_end_is _ _ c.trim_ascii_end-text.ensures.value)
    (strip_prefix_is Decides-eqb _ _ (Some c.in-Some.behind) c.in-Some.ensures.cases)
    (strip_suffix_is Decides-eqb _ dashes c.strip_suffix.result c.strip_suffix.ensures.cases)
