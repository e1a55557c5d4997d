use Rattle.std.proofs.Common.{rules, Ok, Err, inl, refl, ap}
use Rattle.rasn_types.specs.declared.error.decode.DecodeError.{DecodeError}
use Rattle.rasn_de.proofs.Any.Reads.{open_decodes}
use Rattle.rasn_de.proofs.ber.de.Decoder.decode_any.Goals as goal

pub returns-in-Ok-owned-clause-reads : goal.returns-in-Ok-owned-clause-reads
returns-in-Ok-owned-clause-reads c = open_decodes c.args.tag c.args.self.now _ (Ok c.new.result) (search rules)

pub returns-in-Err-owned-clause-exact : goal.returns-in-Err-owned-clause-exact
returns-in-Err-owned-clause-exact c =
    let k = c.error.ensures in
    (inl (ap (λ (x : DecodeError). x.kind) k, ap (λ (x : DecodeError). x.codec) k, (c.in-Ok.octets.now, c.in-Ok.rest.now), rw (← c.self.view_is) c.in-Ok.ensures.exact, λ n. let some = c.in-Err-owned.ensures.empty n in cc), refl)

pub returns-in-Err-clause-reads : goal.returns-in-Err-clause-reads
returns-in-Err-clause-reads c = open_decodes c.args.tag c.args.self.now _ (Err c.error-in-Err.result) (search rules)
