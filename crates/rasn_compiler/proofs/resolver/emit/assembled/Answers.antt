use Rattle.std.proofs.Common.{◌≡◌, ℕ, length, ap, sym, subst, arith}
use Rattle.rasn_compiler.specs.Libraries.{AreNamed}
use Rattle.rasn_compiler.proofs.resolver.emit.assembled.Goals as goal

pub returns-in-Ok : goal.returns-in-Ok
returns-in-Ok c =
    let types = c.check_rules.new.types in
    let held = c.in_ok-collected.collected in
    let taken : length types.items ≡ length c.in-Ok.schema.types.items = ap (λ v. length v.items) (sym c.in-Ok.ensures.ok) in
    let same : c.len.result ≡ length c.in-Ok.schema.types.items = omega (arith, taken, c.len.ensures, types.ok.0) in
    c.library_of.ensures (subst (λ (n : ℕ). AreNamed n held.names.items held.roots.items) same c.in_ok-collected.ensures)
