use Rattle.std.proofs.Common.{ℕ, MatchResult, inl, inr, subst}
use Rattle.std.specs.Prelude.{Vec}
use Rattle.std.specs.Global.{Global}
use Rattle.rasn_compiler.specs.Sources.{AreOf}
use Rattle.rasn_c.specs.Compiling.{IsNotCompiled, IsSchemaOf, IsNoSchema}
use Rattle.rasn_c.specs.declared.reasons.CallStop.{CallStop}
use Rattle.rasn_c.specs.declared.status.Status.TheVariants.{UnknownType}
use Rattle.rasn_c.proofs.Compiled.{compiled}
use Rattle.rasn_c.proofs.Ends.{by_status, ended_at}
use Rattle.rasn_c.proofs.compiling.schema_octets.Goals as goal

pub returns-in_default : goal.returns-in_default
returns-in_default c =
    by_status (IsNotCompiled c.args.texts.now c.args.name.now c.stop_of.result) c.stop_of.result UnknownType c.stop_of.ensures (c.in-Ok.ensures.0, inl c.in_default.ensures.cases.0) tt

pub returns-in-Some : goal.returns-in-Some
returns-in-Some c =
    ended_at (IsNotCompiled c.args.texts.now c.args.name.now c.faults_stop.result) _ _ c.faults_stop.result c.faults_stop.ensures (λ e placed. inr (c.in-Ok.ensures.0, inl (c.in-Ok-from_utf8.ensures.cases.1, (c.in-Some.first.now, placed)))) tt

pub returns : goal.returns
returns c =
    let modules = c.in-Ok-parse.read.modules.items in
    let are = subst (λ s. AreOf s modules) c.as_slice.ensures.value c.in-Ok-parse.ensures in
    compiled c.args.texts.now c.args.name.now modules c.in-Ok.ensures.0 c.in-Ok-from_utf8.ensures.cases.1 (c.in-Ok.sources.items, c.in-Ok.ensures.1, are) c.schema_of.result
    (subst (λ n. MatchResult c.schema_of.result (λ (v : Vec ℕ Global). IsSchemaOf modules n v.items) (λ (stop : CallStop). IsNoSchema modules n stop stop.status)) c.in-Ok-from_utf8.ensures.cases.0 c.schema_of.ensures)
