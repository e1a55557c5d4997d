use Rattle.std.proofs.Common.{◌≡◌, refl, sym, ◌∙◌, true, false, inl, inr}
use Rattle.rasn_de.specs.Sequence.{is_read_by_initializer}
use Rattle.rasn_de.proofs.ber.de.fn.Decoder.decode_sequence.inside.Goals as goal

pub returns-then-reads_initially : goal.returns-then-reads_initially
returns-then-reads_initially g c =
    let s : is_read_by_initializer g.row.RC g.D.Constructed.IS_EXTENSIBLE g.D.Constructed.HAS_REQUIRED_FIELDS c.args.inner.now.rest ≡ true =
    rw (← c.IS_EXTENSIBLE.ensures, ← c.HAS_REQUIRED_FIELDS.ensures, ← c.remaining.ensures.value) (sym c.reads_initially.ensures ∙ c.if-reads_initially.true) in
    inl (s, c.initializer_value.ensures, refl)

pub returns : goal.returns
returns g c =
    let s : is_read_by_initializer g.row.RC g.D.Constructed.IS_EXTENSIBLE g.D.Constructed.HAS_REQUIRED_FIELDS c.args.inner.now.rest ≡ false =
    rw (← c.IS_EXTENSIBLE.ensures, ← c.HAS_REQUIRED_FIELDS.ensures, ← c.remaining.ensures.value) (sym c.reads_initially.ensures ∙ c.if-reads_initially.false) in
    inr (s, record { shown = _; shows = refl; left = _; met = c.f.ensures; leaves = refl })
