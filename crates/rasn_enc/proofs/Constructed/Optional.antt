-- Values that may be absent.
use Rattle.std.proofs.Common.{◌≡◌, ◌≢◌, [], refl, Option, Result, OnOk, IfErr, inl, inr}
use Rattle.std.proofs.lemmas.Result.{on_ok_weaker, IfErr-weaker}
use Rattle.rasn_types.specs.Shapes.{Shape, Tree, option, absent}
use Rattle.rasn_types.specs.Bytes.{Bytes, IsUntaggedOpen}
use Rattle.rasn_types.specs.declared.types.tag.Tag.{Tag}
use Rattle.rasn_types.specs.declared.error.encode.EncodeError.{EncodeError}
use Rattle.rasn_enc.specs.View.{View}
use Rattle.rasn_enc.specs.Encoding.{AppendsEncoding, EncodeFails}
use Rattle.rasn_enc.proofs.OwnTypes.Sequence.{appended-nil}

module _ (s : Shape) (t u : Tree) (v : View) (r : Result (Unit {0}) EncodeError) (e : t ≡ u) (n : u ≢ absent) where
  -- One that is there is written as such.
  pub there_encoded : (g : Option Tag) (w : View) → OnOk r (AppendsEncoding s u v w) → OnOk r (AppendsEncoding (option g s) t v w)
  unfolding Bytes IsUntaggedOpen
  there_encoded g w h = rw e (on_ok_weaker r (λ a. record { octets = a.octets; defined = inr (n, a.defined); tags = a.tags; heads = a.heads; tagged = a.tagged; appended = a.appended }) h)

  pub there_refused : (g : Option Tag) → IfErr r (EncodeFails s u v) → IfErr r (EncodeFails (option g s) t v)
  unfolding Bytes IsUntaggedOpen
  there_refused g h = rw e (IfErr-weaker r _ _ (λ x k. record {
    why = elim k.why [
      | inl m ↦ inl m
      | inr (inl y) ↦ inr (inl (record { none = λ o b. elim b [ inl p ↦ n p.0 | inr p ↦ y.none o p.1 ] }))
      | inr (inr y) ↦ inr (inr (record { bare = y.bare; some = λ o b. elim b [ inl p ↦ absurd (n p.0) | inr p ↦ y.some o p.1 ]; keeps = y.keeps }))
    ];
  }) h)

-- An absent one has no octets.
pub left_out : {g : Option Tag} (s : Shape) (t : Tree) (v : View) → t ≡ absent → AppendsEncoding (option g s) t v v
unfolding Bytes
left_out s t v e = record { octets = []; defined = inl (e, refl); tags = []; heads = λ k. refl; tagged = λ k b. refl; appended = appended-nil v }
