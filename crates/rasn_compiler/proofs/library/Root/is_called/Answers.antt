use Rattle.std.proofs.Common.{rules, ◌≡◌}
use Rattle.std.specs.Prelude.{codes}
use Rattle.rasn_types.specs.Truth.{IsWhether}
use Rattle.rasn_compiler.proofs.Called.{is_dotted, not_after_dot, stripped}
use Rattle.rasn_compiler.proofs.library.Root.is_called.Goals as goal

pub returns-in-Some-strip_prefix : goal.returns-in-Some-strip_prefix
returns-in-Some-strip_prefix c =
    let rest = c.in-Some.rest.now in
    let own : c.args.self.now.name.now ≡ c.args.name.now → ⊥ = search rules in
    let more = c.in-Some-strip_prefix.rest.now in
    let same : IsWhether c.eq-in-Some-strip_prefix.result (more ≡ c.args.self.now.name.now) = search rules in
    is_dotted c.args.self.now c.args.name.now rest more _ own (stripped c.args.self.now.module.now c.args.name.now rest c.in-Some.ensures.cases) (stripped (codes ".") rest more c.in-Some-strip_prefix.ensures.cases) same

pub returns-in-None : goal.returns-in-None
returns-in-None c =
    let rest = c.in-Some.rest.now in
    let own : c.args.self.now.name.now ≡ c.args.name.now → ⊥ = search rules in
    not_after_dot c.args.self.now c.args.name.now rest own (stripped c.args.self.now.module.now c.args.name.now rest c.in-Some.ensures.cases) (c.in-None.ensures.cases _)
