use Rattle.std.proofs.Common.{Vec, Global, inl}
use Rattle.rasn_de.specs.Beyond.{Held}
use Rattle.rasn_de.specs.ValueErrors.{DecodesOr}
use Rattle.rasn_de.proofs.Constructed.Beyond.{made_beyond}
use Rattle.rasn_de.proofs.Constructed.Set.{collects_called}
use Rattle.rasn_de.proofs.Leaves.Returns.{residual}
use Rattle.rasn_de.proofs.ber.de.fn.Decoder.decode_set.inside.Goals as goal

pub returns : goal.returns
returns g c = record {
  exact = collects_called (DecodesOr g.FIELDS.AsnType.shape g.FIELDS.AsnType.tree (g.FIELDS.Decode.errors g.FIELDS.AsnType.TAG g.FIELDS.AsnType.CONSTRAINTS)) (λ (v : Vec g.row.FIELDS.Denot Global). v.items) (goal.F-post g c.captures.f) _ c.in_ok-fields.fields _ _ c.in_ok-fields.ensures.exact c.f.ensures;
  rules = λ made. made c.in_ok-fields.fields c.f.result c.f.ensures;
  beyond = made_beyond (Held g.FIELDS.AsnType.shape g.FIELDS.AsnType.tree (g.FIELDS.Decode.beyond g.FIELDS.AsnType.TAG)) (goal.F-post g c.captures.f) _ _ c.in_ok-fields.fields c.f.result c.in_ok-fields.ensures.beyond c.f.ensures;
}

pub returns-in_err-fields : goal.returns-in_err-fields
returns-in_err-fields g c = rw (residual _ c.from_residual.ensures.1) (record {
  exact = inl c.in_err-fields.ensures.exact;
  rules = λ made. c.in_err-fields.ensures.rules;
  beyond = tt;
})
