-- A tag and constraints that are handed in to a type that is under others already.
use Rattle.std.proofs.Common.{◌≡◌, sym, subst, Result, OnOk, IfErr}
use Rattle.rasn_types.specs.Shapes.{Shape, Tree, tagged_as}
use Rattle.rasn_types.specs.Tagging.{tagged_again}
use Rattle.rasn_types.specs.declared.types.tag.Tag.{Tag}
use Rattle.rasn_types.specs.declared.types.constraints.Constraints.{Constraints}
use Rattle.rasn_types.specs.declared.error.encode.EncodeError.{EncodeError}
use Rattle.rasn_enc.specs.View.{View}
use Rattle.rasn_enc.specs.Encoding.{AppendsEncoding, EncodeFails}

module _ (t : Tag) (c : Constraints) (u : Tag) (d : Constraints) (s : Shape) (x y : Tree) (same : x ≡ y) (v : View) (r : Result (Unit {0}) EncodeError) where
  pub tagged_encoded : (w : View) → OnOk r (AppendsEncoding (tagged_as t c s) x v w) → OnOk r (AppendsEncoding (tagged_as t c (tagged_as u d s)) y v w)
  tagged_encoded w h = subst (λ z. OnOk r (AppendsEncoding (tagged_as t c (tagged_as u d s)) z v w)) same (subst (λ z. OnOk r (AppendsEncoding z x v w)) (sym (tagged_again t c u d s)) h)

  pub tagged_refused : IfErr r (EncodeFails (tagged_as t c s) x v) → IfErr r (EncodeFails (tagged_as t c (tagged_as u d s)) y v)
  tagged_refused h = subst (λ z. IfErr r (EncodeFails (tagged_as t c (tagged_as u d s)) z v)) same (subst (λ z. IfErr r (EncodeFails z x v)) (sym (tagged_again t c u d s)) h)
