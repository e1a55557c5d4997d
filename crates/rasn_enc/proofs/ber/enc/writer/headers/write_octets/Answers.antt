use Rattle.std.proofs.Common.{◌≡◌, ◌++◌, ◌∷◌, ◌-◌, arith, ap, sym, ◌∙◌}
use Rattle.std.proofs.lemmas.List.{append-nil}
use Rattle.rasn_enc.specs.Headers.{digits}
use Rattle.rasn_enc.proofs.Headers.Places.{octets_step, octets_none, moves}
use Rattle.rasn_enc.proofs.ber.enc.writer.headers.write_octets.Goals as goal

pub loop-left-preserved : goal.loop-left-preserved
loop-left-preserved c = record {
  few = omega arith;
  room = omega arith;
  capacity = c.push_reserved.ensures.capacity ∙ c.loop-left.invariant.capacity;
  written = moves c.loop-left.out.items _ _ _ (digits 256 (c.loop-left.left - 1) c.args.number) _
      (octets_step c.loop-left.left c.args.number c.loop-left-test.true ∙ ap (λ z. z ∷ digits 256 (c.loop-left.left - 1) c.args.number) (sym c.octet_at.ensures))
      c.loop-left.invariant.written c.push_reserved.ensures.items;
}

pub returns-clause-items : goal.returns-clause-items
returns-clause-items c =
    let e : c.loop-left.left ≡ 0 = omega arith in
    sym (append-nil c.loop-left.out.items) ∙ (ap (λ l. c.loop-left.out.items ++ l) (sym (octets_none c.loop-left.left c.args.number e)) ∙ c.loop-left.invariant.written)
