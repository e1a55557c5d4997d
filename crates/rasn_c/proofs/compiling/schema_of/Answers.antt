use Rattle.std.proofs.Common.{inl, subst}
use Rattle.std.specs.Prelude.{option_copied}
use Rattle.rasn_c.specs.Compiling.{HasNoTypeCalled, IsFirstWith, IsNoSchema}
use Rattle.rasn_c.specs.declared.status.Status.TheVariants.{UnknownType}
use Rattle.rasn_c.proofs.Compiled.{schema_made}
use Rattle.rasn_c.proofs.Ends.{by_status, ended_at}
use Rattle.rasn_c.proofs.compiling.schema_of.Goals as goal

pub returns-in_default : goal.returns-in_default
returns-in_default c =
    by_status (IsNoSchema c.args.read.now.modules.items c.args.name.now c.stop_of.result) c.stop_of.result UnknownType c.stop_of.ensures (option_copied c.names_in.result.0, c.names_in.result.1.now, c.names_in.ensures, subst (λ ms. HasNoTypeCalled ms (option_copied c.names_in.result.0) c.names_in.result.1.now) c.as_slice.ensures.value c.in_default.ensures) tt

pub returns-in-Ok : goal.returns-in-Ok
returns-in-Ok c = schema_made c.args.read.now.modules.items c.args.name.now c.in-Ok.resolved.schema c.in-Ok.resolved.root c.in-Ok.resolved.unchecked c.names_in.result.1.now (record {
  module_name = option_copied c.names_in.result.0;
  name_is = c.names_in.ensures;
  first = c.in-Some.module.now;
  is = subst (λ ms. IsFirstWith ms (option_copied c.names_in.result.0) c.names_in.result.1.now c.in-Some.module.now) c.as_slice.ensures.value c.in-Some.ensures;
}) (record {
  within = c.in-Ok.ensures.root;
  names = c.in-Ok.ensures.named.0;
  names_are = c.in-Ok.ensures.named.1;
  named = c.in-Ok.ensures.named.2;
}) c.octets_of.result c.octets_of.ensures

pub returns-in-Err-Fault : goal.returns-in-Err-Fault
returns-in-Err-Fault c =
    ended_at (IsNoSchema c.args.read.now.modules.items c.args.name.now c.faults_stop.result) _ _ c.faults_stop.result c.faults_stop.ensures (λ e placed. (
      (
        c.names_in.result.1.now,
        record {
          module_name = option_copied c.names_in.result.0;
          name_is = c.names_in.ensures;
          first = c.in-Some.module.now;
          is = subst (λ ms. IsFirstWith ms (option_copied c.names_in.result.0) c.names_in.result.1.now c.in-Some.module.now) c.as_slice.ensures.value c.in-Some.ensures;
        },
      ),
      inl (c.in-Err-Fault.fault, placed),
    )) tt
