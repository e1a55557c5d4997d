use Rattle.std.proofs.Common.{inr, subst}
use Rattle.std.specs.Prelude.{IfOk}
use Rattle.rasn_types.specs.declared.types.codec.Codec.TheVariants.{Der}
use Rattle.rasn_types.specs.Framing.{AreOctets}
use Rattle.rasn_types.specs.Truth.{IsWhether}
use Rattle.rasn_types.specs.Errors.{IsOutOfMemory}
use Rattle.rasn_types.specs.Bytes.{Bytes}
use Rattle.rasn.specs.Headline.{AnsweredAlone}
use Rattle.rasn.proofs.Normalised.{was_ok, normal, read_otherwise, not_read, not_read_back}
use Rattle.rasn.proofs.normal.convert.Goals as goal
use Rattle.rasn.proofs.normal.convert.Goals.{in_default-via-in-Ok+else-means_same, in_default-via-in-Err+else-is_out_of_memory}

pub returns-in-Ok-clause-normal : goal.returns-in-Ok-clause-normal
returns-in-Ok-clause-normal g c =
    let read = was_ok _ _ c.decode.result c.in_ok-value.value c.in_ok-value.ensures.cases c.in_ok-value.ensures.variant in
    let wrote = was_ok _ _ c.encode.result c.in_ok-octets.octets c.in_ok-octets.ensures.cases c.in_ok-octets.ensures.variant in
    normal (g.T.AsnType.tree c.in_ok-value.value) (g.T.AsnType.tree c.in-Ok.again)
    (subst (AnsweredAlone c.args.rule g.T.AsnType.shape g.T.AsnType.tree c.args.input.now) read c.decode.ensures.exact)
    (subst (λ r. IfOk r (λ octets. Bytes Der g.T.AsnType.shape (g.T.AsnType.tree c.in_ok-value.value) octets.items)) wrote c.encode.ensures.ok)
    c.deref.ensures.value c.in-Ok.ensures.exact c.means_same.ensures c.if-means_same.true

pub returns-clause-fails : goal.returns-clause-fails
returns-clause-fails g c =
    let read = was_ok _ _ c.decode.result c.in_ok-value.value c.in_ok-value.ensures.cases c.in_ok-value.ensures.variant in
    let wrote = was_ok _ _ c.encode.result c.in_ok-octets.octets c.in_ok-octets.ensures.cases c.in_ok-octets.ensures.variant in
    let means = subst (AnsweredAlone c.args.rule g.T.AsnType.shape g.T.AsnType.tree c.args.input.now) read c.decode.ensures.exact in
    let is = subst (λ r. IfOk r (λ octets. Bytes Der g.T.AsnType.shape (g.T.AsnType.tree c.in_ok-value.value) octets.items)) wrote c.encode.ensures.ok in
    elim c.in_default.branch [
      | in_default-via-in-Ok+else-means_same w ↦
          read_otherwise (g.T.AsnType.tree c.in_ok-value.value) (g.T.AsnType.tree w.in-Ok.again) means is c.deref.ensures.value w.in-Ok.ensures.exact w.means_same.ensures w.if-means_same.false
      | in_default-via-in-Err+else-is_out_of_memory w ↦
          not_read (g.T.AsnType.tree c.in_ok-value.value) w.in-Err.error means is c.deref.ensures.value w.in-Err.ensures.exact (subst (λ b. IsWhether b (IsOutOfMemory w.in-Err.error.kind)) w.if-is_out_of_memory.false w.is_out_of_memory.ensures)
    ]

pub returns-in-Ok-clause-octets : goal.returns-in-Ok-clause-octets
returns-in-Ok-clause-octets g c = subst AreOctets c.deref.ensures.value c.in-Ok.ensures.octets

pub returns-in-Err-clause-errors : goal.returns-in-Err-clause-errors
returns-in-Err-clause-errors g c =
    let read = was_ok _ _ c.decode.result c.in_ok-value.value c.in_ok-value.ensures.cases c.in_ok-value.ensures.variant in
    let wrote = was_ok _ _ c.encode.result c.in_ok-octets.octets c.in_ok-octets.ensures.cases c.in_ok-octets.ensures.variant in
    let means = subst (AnsweredAlone c.args.rule g.T.AsnType.shape g.T.AsnType.tree c.args.input.now) read c.decode.ensures.exact in
    let is = subst (λ r. IfOk r (λ octets. Bytes Der g.T.AsnType.shape (g.T.AsnType.tree c.in_ok-value.value) octets.items)) wrote c.encode.ensures.ok in
    inr (not_read_back (g.T.AsnType.tree c.in_ok-value.value) c.in-Err.error means is c.deref.ensures.value c.in-Err.ensures.errors c.is_out_of_memory.ensures c.if-is_out_of_memory.true)
