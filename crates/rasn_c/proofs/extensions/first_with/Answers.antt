use Rattle.rasn_c.proofs.FirstWith.{holds, fails, found, passed, all_passed}
use Rattle.rasn_c.proofs.extensions.first_with.Goals as goal

pub returns-then-branch : goal.returns-then-branch
returns-then-branch c =
    found c.args.identifier.now c.args.extensions.now c.loop-extension.extension-index c.extension-item.result c.loop-extension-test.true c.extension-item.is c.loop-extension.invariant
    (holds c.in_ok-has_identifier.field-0 _ c.in_ok-has_identifier.ensures c.if-branch.true)

pub loop-extension-preserved : goal.loop-extension-preserved
loop-extension-preserved c =
    passed c.args.identifier.now c.args.extensions.now c.loop-extension.extension-index c.extension-item.result c.loop-extension-test.true c.extension-item.is c.loop-extension.invariant
    (fails c.in_ok-has_identifier.field-0 _ c.in_ok-has_identifier.ensures c.if-branch.false)

pub returns : goal.returns
returns c = all_passed c.args.identifier.now c.args.extensions.now c.loop-extension.extension-index c.loop-extension-test.false c.loop-extension.invariant
