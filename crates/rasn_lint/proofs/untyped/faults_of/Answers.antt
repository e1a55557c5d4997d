use Rattle.std.specs.Prelude.{MatchOption}
use Rattle.std.proofs.Common.{◌≡◌, false, refl, subst}
use Rattle.rasn_lint.specs.Refusals.{form_error, IsContentsError}
use Rattle.rasn_lint.specs.Universal.{rule_of}
use Rattle.rasn_lint.specs.Untyped.{HasNoForm, HasWrongContents}
use Rattle.rasn_lint.specs.WellFormed.{AllowsEncoding}
use Rattle.rasn_lint.proofs.untyped.faults_of.Goals as goal

pub returns : goal.returns
returns c = record {
  order = refl;
  default = refl;
  by_tag = c.tag_fault.ensures;
  by_form = subst (λ b. MatchOption c.form_fault.result (HasNoForm (rule_of c.args.tag) b → ⊥) (λ e. HasNoForm (rule_of c.args.tag) b × (e ≡ form_error (rule_of c.args.tag) b))) c.is_constructed-bit.ensures
      (subst (λ z. MatchOption c.form_fault.result (HasNoForm z c.is_constructed-bit.result → ⊥) (λ e. HasNoForm z c.is_constructed-bit.result × (e ≡ form_error z c.is_constructed-bit.result))) c.rule_of.ensures c.form_fault.ensures);
  by_length = c.in_ok-length.ensures;
  in_contents = subst (λ b. MatchOption c.in_ok-contents.contents (HasWrongContents c.args.tag b c.args.contents.now → ⊥) (λ e. AllowsEncoding false c.args.tag b c.args.contents.now × IsContentsError (rule_of c.args.tag) c.args.tag b c.args.contents.now e)) c.is_constructed-bit.ensures c.in_ok-contents.ensures;
}
