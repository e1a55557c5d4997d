use Rattle.rasn_schema.proofs.Lists.{read_at, so_far_end, so_far_more}
use Rattle.rasn_c.proofs.FirstWith.{fails, holds}
use Rattle.rasn_c.proofs.compiling.first_with.Goals as goal

pub returns-then-has_type_called : goal.returns-then-has_type_called
returns-then-has_type_called c = (
  c.loop-module.module-index,
  read_at c.args.modules.now c.loop-module.module-index c.module-item.result c.loop-module-test.true c.module-item.is,
  holds c.has_type_called.result _ c.has_type_called.ensures c.if-has_type_called.true,
  c.loop-module.invariant,
)

pub loop-module-preserved : goal.loop-module-preserved
loop-module-preserved c =
    so_far_more _ c.args.modules.now c.loop-module.module-index c.module-item.result (read_at c.args.modules.now c.loop-module.module-index c.module-item.result c.loop-module-test.true c.module-item.is)
    (fails c.has_type_called.result _ c.has_type_called.ensures c.if-has_type_called.false) c.loop-module.invariant

pub returns : goal.returns
returns c = so_far_end _ c.args.modules.now c.loop-module.module-index c.loop-module-test.false c.loop-module.invariant
