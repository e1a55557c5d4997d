use Rattle.std.proofs.Common.{refl, ◌∷◌, []}
use Rattle.rasn_enc.proofs.ber.enc.writer.deferred_headers.defer_rest.Goals as goal

pub returns-in-Ok-clause-ok : goal.returns-in-Ok-clause-ok
returns-in-Ok-clause-ok c = (record { at = c.args.at; rest = c.args.rest } ∷ [], (refl, refl), c.in-Ok.ensures.items)
