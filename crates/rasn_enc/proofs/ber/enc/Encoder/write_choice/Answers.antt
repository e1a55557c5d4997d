use Rattle.std.proofs.lemmas.Result.{on_ok_weaker, IfErr-weaker}
use Rattle.rasn_enc.proofs.OwnTypes.Choice.{chosen_by_encoded, chosen_by_refused}
use Rattle.rasn_enc.proofs.ber.enc.Encoder.write_choice.Goals as goal

pub returns-clause-ok : goal.returns-clause-ok
returns-clause-ok g c = on_ok_weaker _ (λ h. chosen_by_encoded g.P.EncodeAlternative.extensible g.P.EncodeAlternative.parts _ _ _ (g.met.P.EncodeAlternative.stands c.args.value) _ _ h) c.encode_alternative.ensures.ok

pub returns-clause-refused : goal.returns-clause-refused
returns-clause-refused g c =
    IfErr-weaker _ _ _ (λ e h. chosen_by_refused g.P.EncodeAlternative.extensible g.P.EncodeAlternative.parts _ _ _ (g.met.P.EncodeAlternative.stands c.args.value) c.args.self.now e h) c.encode_alternative.ensures.refused
