use Rattle.std.proofs.Common.{◌≡◌, ℕ, ◌+◌, ◌<◌, List, [], ◌∷◌, ◌++◌, length, get_or, take, map, refl, ap, ◌∙◌}
use Rattle.std.proofs.lemmas.List.{take_more, map-append, take_all}
use Rattle.rasn_types.specs.Shapes.{items}
use Rattle.rasn_types.proofs.types.sequence_of.VecTryClone.try_clone.Goals as goal

-- One more value that means the same.
alike_more : {X Y : Type 0} (f : X → Y) (xs : List X) (i : ℕ) (x y : X) (old new : List X) → i < length xs → x ≡ get_or xs i x → f y ≡ f x → new ≡ old ++ y ∷ []
    → map f old ≡ map f (take i xs) → map f new ≡ map f (take (i + 1) xs)
alike_more f xs i x y old new h at e is so_far =
    rw (is, take_more xs i x h, map-append f old (y ∷ []), map-append f (take i xs) (get_or xs i x ∷ []), so_far, e, ← at) refl

pub loop-value-preserved : goal.loop-value-preserved
loop-value-preserved g c =
    let list = c.deref-value-items.ensures.value in
    let less = c.loop-value-test.true in
    let at = c.value-item.is in
    alike_more g.T.AsnType.tree c.args.self.now.items c.loop-value.value-index c.value-item.result c.in_ok-try_clone.field-0 c.loop-value.copies.items c.push.new.self.items (rw list at less) (rw list at at)
    c.in_ok-try_clone.ensures c.in_ok-push.ensures.items c.loop-value.invariant

pub returns : goal.returns
returns g c =
    let list = c.deref-value-items.ensures.value in
    let all = c.loop-value-test.false in
    ap items (c.loop-value.invariant ∙ ap (map g.T.AsnType.tree) (take_all c.loop-value.value-index c.args.self.now.items (rw list at all)))
