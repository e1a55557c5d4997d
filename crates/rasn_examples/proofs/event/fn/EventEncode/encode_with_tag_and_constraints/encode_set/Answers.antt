use Rattle.std.proofs.Common.{rules}
use Rattle.std.proofs.lemmas.Result.{on_ok_weaker, IfErr-weaker}
use Rattle.rasn_enc.proofs.OwnTypes.Sequence.{part_refused, part_appended, last_part, optional_encoded, optional_refused}
use Rattle.rasn_examples.specs.Event.{level_tree}
use Rattle.rasn_examples.proofs.event.fn.EventEncode.encode_with_tag_and_constraints.encode_set.Goals as goal

pub returns-in_err-encode : goal.returns-in_err-encode
returns-in_err-encode c =
    record { writes = part_refused _ _ _ _ _ _ _ _ c.in_err-encode.ensures.refused c.in_err-encode.ensures.err c.from_residual.ensures.1; rules = search rules }

pub returns-in_err-encode_default_with_tag : goal.returns-in_err-encode_default_with_tag
returns-in_err-encode_default_with_tag c =
    let put = c.in_err-encode_default_with_tag.ensures.writes (level_tree 7) (λ d m. search rules) in
    record {
      writes = part_appended _ _ _ _ _ _ _ _ c.in_ok-encode.ensures.ok
          (part_refused _ _ _ _ _ _ _ _ put.1 c.in_err-encode_default_with_tag.ensures.err c.from_residual-in_err-encode_default_with_tag.ensures.1);
      rules = search rules;
    }

pub returns : goal.returns
returns c =
    let put = c.in_ok-encode_default_with_tag.ensures.writes (level_tree 7) (λ d m. search rules) in
    record {
      writes = part_appended _ _ _ _ _ _ _ _ c.in_ok-encode.ensures.ok (part_appended _ _ _ _ _ _ _ _ put.0
          (last_part _ _ _ _ _ (on_ok_weaker _ (λ a. optional_encoded _ _ _ _ a) c.encode_with_tag.ensures.ok) c.encode_with_tag.ensures.err
          (IfErr-weaker _ _ _ (λ e h. optional_refused _ _ _ _ h) c.encode_with_tag.ensures.refused)));
      rules = search rules;
    }
