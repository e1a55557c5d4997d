use Rattle.std.proofs.Common.{◌≡◌, length, Ok, Err, subst, sym, ap, ◌∙◌, arith}
use Rattle.rasn_types.specs.declared.error.decode.DecodeError.{DecodeError}
use Rattle.rasn_de.specs.State.{State}
use Rattle.rasn_schema.specs.Trees.{tree_of}
use Rattle.rasn_dynamic.specs.Entry.{shape_of}
use Rattle.rasn_dynamic.specs.Inside.{DecodesTree}
use Rattle.rasn_dynamic.specs.Making.{Making}
use Rattle.rasn_dynamic.specs.Faults.{IsFault, start}
use Rattle.rasn_dynamic.specs.Listed.{Lists, PartsInside}
use Rattle.rasn_dynamic.specs.Times.{Covers}
use Rattle.rasn_dynamic.proofs.Times.{covers_itself}
use Rattle.rasn_dynamic.proofs.Checked.{same_error}
use Rattle.rasn_dynamic.proofs.Faults.{fault_short, located}
use Rattle.rasn_dynamic.proofs.locate.read_first.Goals as goal

pub refusal_of-requires : goal.refusal_of-requires
refusal_of-requires g c = λ f q.
    let t = c.in-Err.ensures.told in
    let e : c.new-decoder.result ≡ start c.args.rule c.args.input.now = c.new-decoder.ensures ∙ ap (λ z. start z c.args.input.now) c.of.ensures in
    let same : t.0 ≡ f = cc in
    let i = subst (λ z. IsFault c.types.result.now 18446744073709551615 c.args.id.0 c.new-decoder.result c.decode_at.new.walk.error z) same t.2 in
    rw c.octets_left-len.ensures (fault_short c.types.result.now _ _ c.new-decoder.result _ f i)

pub returns-clause-located : goal.returns-clause-located
returns-clause-located g c =
    let t = c.in-Err.ensures.told in
    let e : c.new-decoder.result ≡ start c.args.rule c.args.input.now = c.new-decoder.ensures ∙ ap (λ z. start z c.args.input.now) c.of.ensures in
    rw (← c.types.ensures.types)
    (located c.types.result.now c.args.rule c.args.id.0 c.args.input.now c.decode_at.new.walk.error _ _ (c.octets_left-len.ensures ∙ ap (λ (z : State). length z.rest) e) _
    (t.0, t.1, subst (λ z. IsFault c.types.result.now 18446744073709551615 c.args.id.0 z c.decode_at.new.walk.error t.0) e t.2) c.refusal_of.ensures)

pub returns-clause-read : goal.returns-clause-read
returns-clause-read g c =
    let e : c.new-decoder.result ≡ start c.args.rule c.args.input.now = c.new-decoder.ensures ∙ ap (λ z. start z c.args.input.now) c.of.ensures in
    let s = shape_of c.types.result.now c.args.id.0 in
    let last = c.decode_at.new.decoder in
    rw (← c.types.ensures.types)
    (last, subst (λ (x : DecodeError). DecodesTree s (start c.args.rule c.args.input.now) (Err x) last) (sym (same_error _ _ _ _ c.refusal_of.ensures)) (subst (λ z. DecodesTree s z (Err c.decode_at.new.walk.error) last) e c.in-Err.ensures.reads))

pub returns-in-Ok-clause-read : goal.returns-in-Ok-clause-read
returns-in-Ok-clause-read g c =
    let e : c.new-decoder.result ≡ start c.args.rule c.args.input.now = c.new-decoder.ensures ∙ ap (λ z. start z c.args.input.now) c.of.ensures in
    let s = shape_of c.types.result.now c.args.id.0 in
    let last = c.decode_at.new.decoder in
    rw (← c.types.ensures.types) (last, sym c.remaining.ensures.value, subst (λ z. Making g.M.Made.KEEP tree_of (DecodesTree s) z (Ok c.decode_at.new.out) last) e c.in-Ok.ensures.reads)

pub returns-in-Ok-clause-times : goal.returns-in-Ok-clause-times
returns-in-Ok-clause-times g c =
    let e : c.new-decoder.result ≡ start c.args.rule c.args.input.now = c.new-decoder.ensures ∙ ap (λ z. start z c.args.input.now) c.of.ensures in
    rw (← c.types.ensures.types) (λ k. c.in-Ok.ensures.fits k (start c.args.rule c.args.input.now) (subst (Covers (start c.args.rule c.args.input.now)) (sym e) (covers_itself (start c.args.rule c.args.input.now))))

pub returns-in-Ok-clause-listed : goal.returns-in-Ok-clause-listed
returns-in-Ok-clause-listed g c =
    let e : c.new-decoder.result ≡ start c.args.rule c.args.input.now = c.new-decoder.ensures ∙ ap (λ z. start z c.args.input.now) c.of.ensures in
    rw (← c.types.ensures.types)
    (subst (λ o. Lists (λ b es. PartsInside c.types.result.now 18446744073709551615 c.args.id.0 b (start c.args.rule c.args.input.now) es) o c.decode_at.new.walk.spans) (c.new_walk-walk.ensures.spans ∙ c.replace.ensures.value)
    (subst (λ z. Lists (λ b es. PartsInside c.types.result.now 18446744073709551615 c.args.id.0 b z es) c.new_walk-walk.result.spans c.decode_at.new.walk.spans) e c.in-Ok.ensures.listed))

pub returns-clause-short : goal.returns-clause-short
returns-clause-short g c =
    let e : c.new-decoder.result ≡ start c.args.rule c.args.input.now = c.new-decoder.ensures ∙ ap (λ z. start z c.args.input.now) c.of.ensures in
    let n = ap (λ (z : State). length z.rest) e in
    omega (arith, n, c.octets_left-len.ensures, c.octets_left-len.type_inv)

pub returns-in-Ok-clause-short : goal.returns-in-Ok-clause-short
returns-in-Ok-clause-short g c =
    let e : c.new-decoder.result ≡ start c.args.rule c.args.input.now = c.new-decoder.ensures ∙ ap (λ z. start z c.args.input.now) c.of.ensures in
    let n = ap (λ (z : State). length z.rest) e in
    omega (arith, n, c.octets_left-len.ensures, c.octets_left-len.type_inv)
