use Rattle.std.specs.Prelude.{◌≡◌, Bool, Result, Ok, Err, OnOk, OnErr}
use Rattle.std.proofs.Common.{ap}
use Rattle.rasn_types.specs.declared.types.tag.Tag.{Tag}
use Rattle.rasn_types.specs.declared.error.encode.EncodeError.{EncodeError}
use Rattle.rasn_enc.specs.View.{View, LeavesOthers}
use Rattle.rasn_enc.specs.Closures.{EncodeClosure, AppendsEnclosed}
use Rattle.rasn_enc.proofs.OwnTypes.Sequence.{call_keeps}
use Rattle.rasn_tests.proofs.sequence.lengths.+fn-nest-encode_sequence+nest.Goals as goal

-- A value that encloses others leaves the lists below alone, and so does one that is refused.
enclosed_keeps : {F : Type 0} (g : EncodeClosure F (Unit {0})) (f : F) (keeps : Bool) (tag : Tag) {v w : View} (r : Result (Unit {0}) EncodeError)
    → OnOk r (AppendsEnclosed g f keeps tag v w) → OnErr r (w ≡ v) → LeavesOthers v w
enclosed_keeps g f keeps tag (Ok x) a e = record { rule = ap (λ (u : View). u.rule) a.appends.appended; below = ap (λ (u : View). u.below) a.appends.appended }
enclosed_keeps g f keeps tag (Err x) a e = record { rule = ap (λ (u : View). u.rule) e; below = ap (λ (u : View). u.below) e }

pub returns-then-levels-eq0 : goal.returns-then-levels-eq0
returns-then-levels-eq0 t c = call_keeps _ _ _ c.encode_octet_string.ensures.ok c.encode_octet_string.ensures.err

pub returns : goal.returns
returns t c = enclosed_keeps _ _ _ _ _ c.encode_sequence.ensures.ok c.encode_sequence.ensures.err
