-- What is made of the components of a SET, with unknown ones among them, once all are read.
use Rattle.std.proofs.Common.{◌≡◌, ℕ, zero, suc, inl, inr, Bool, true, false, List, [], ◌∷◌, ◌++◌, map, Vec, Global, Option, Some, None, Ok, Err, refl, sym, ap, ◌∙◌, subst}
use Rattle.std.specs.Borrow.{Bor}
use Rattle.rasn_types.specs.declared.types.tag.Tag.{Tag}
use Rattle.rasn_types.specs.declared.error.decode.DecodeError.{DecodeError}
use Rattle.rasn_types.specs.Framing.{Ended}
use Rattle.rasn_types.specs.Shapes.{Shape, Tree, items, IsSetTree, choice_by, Parts, Presence, presences}
use Rattle.rasn_de.specs.State.{State}
use Rattle.rasn_de.specs.Constructed.{Keeps}
use Rattle.rasn_schema.specs.declared.types.Component.{Component}
use Rattle.rasn_schema.specs.Shapes.{components_by}
use Rattle.rasn_dynamic.specs.Calls.{names_of}
use Rattle.rasn_dynamic.specs.Faults.{StopsInSet}
use Rattle.rasn_de.specs.NamedErrors.{IsNamedError, IsDuplicateField}
use Rattle.rasn_de.specs.SetPartTypes.{text, LacksSlot, IsLackOf, HasGap, IsRequiredOrDefault, AreGathered, DecodesNext, DecodesSetPartContents}
use Rattle.rasn_de.proofs.Constructed.SetOfElements.{came}
use Rattle.rasn_de.proofs.OwnTypes.SetPartTypes.{ReadTo, all_once, all_made, made_twice}
use Rattle.rasn_schema.specs.declared.value.Value.{Value, Items}
use Rattle.rasn_schema.specs.Trees.{tree_of}
use Rattle.rasn_dynamic.specs.Typed.{MayRunOut}
use Rattle.rasn_dynamic.specs.Sets.{HoldsUnknown}
use Rattle.rasn_dynamic.proofs.Making.{one_made, items_made}
use Rattle.rasn_dynamic.proofs.Members.{none_passed}

-- The trees of these parts and, if there may be some, of the list of the unknown values.
abbrev pub set_trees : Bool → List Tree → List Tree → List Tree
set_trees true ts us = ts ++ items us ∷ []
set_trees false ts us = ts

set_tree : (extensible : Bool) (ts us : List Tree) → (extensible ≡ false → us ≡ []) → IsSetTree extensible ts us (items (set_trees extensible ts us))
set_tree true ts us n = refl
set_tree false ts us n = (n refl, refl)

-- The values have these trees, if they are kept.
pub all_trees : (extensible keep : Bool) (vs ws : List Value) (ts us : List Tree) (unknown : Vec Value Global) → (keep ≡ true → map tree_of vs ≡ ts) → HoldsUnknown keep unknown.items us
    → (extensible ≡ true → keep ≡ true → ws ≡ vs ++ Items unknown ∷ []) → (extensible ≡ false → ws ≡ vs) → keep ≡ true → map tree_of ws ≡ set_trees extensible ts us
all_trees true keep vs ws ts us unknown e g a b k = one_made keep vs ws ts (Items unknown) (items us) e (items_made keep unknown us g) (a refl) k
all_trees false keep vs ws ts us unknown e g a b k = ap (map tree_of) (b refl) ∙ e k

lacks_gap : (ps : List Presence) (held : List (Option Tree)) (k : ℕ) → LacksSlot ps held k → HasGap ps held
lacks_gap [] held k l = l
lacks_gap (p ∷ ps) [] k l = l
lacks_gap (p ∷ ps) (h ∷ held) zero (e, n) = inl (subst IsRequiredOrDefault (sym e) tt, n)
lacks_gap (p ∷ ps) (h ∷ held) (suc k) (f, l) = inr (lacks_gap ps held k l)

module _ (extensible : Bool) (ps : Parts) (names : List (List ℕ)) where
  -- Without an extension marker no component is unknown.
  pub none_unknown : (slots others : List (Option Tree)) (us vs : List Tree) (old new : State) (r : Option (Bor (List ℕ))) → DecodesNext extensible ps names slots us old (Ok r) new others vs → (extensible ≡ false → us ≡ []) → extensible ≡ false → vs ≡ []
  none_unknown slots others us vs old new None (inl (k, u, c, e, d)) n x = e ∙ n x
  none_unknown slots others us vs old new None (inr (u, c, e, (d, l))) n x = none_passed extensible ps old new x (vs ≡ []) (u, d)
  none_unknown slots others us vs old new (Some repeated) (k, u, c, f, e, m, d) n x = e ∙ n x

  module _ (old here : State) (last : Option Tag) (held : List (Option Tree)) (us : List Tree) where
    pub members_keep : (twice : Option (Bor (List ℕ))) → ReadTo extensible ps names old here last twice held us → Keeps old here
    members_keep twice k = let c = (came (choice_by extensible ps) (λ (t : Tree). t) old here k.0 k.1 k.2).come in record { stays = c.0; end = c.1 }

    module _ (n : Ended here.closing here.rest) (k : ReadTo extensible ps names old here last None held us) where
      pub members_lack : (e : DecodeError) → IsLackOf ps names here.rule held e → MayRunOut (DecodesSetPartContents extensible ps items names) old (Err e) here
      members_lack e (inl m) = inr (m, members_keep None k)
      members_lack e (inr w) = inl (all_once extensible ps names items old here last held us n k (Err e) (inr w) (λ o. lacks_gap (presences ps) held w.0 w.1))

      pub members_made : (ts : List Tree) → AreGathered (presences ps) held ts → (extensible ≡ false → us ≡ []) → DecodesSetPartContents extensible ps items names old (Ok (set_trees extensible ts us)) here
      members_made ts g x = all_once extensible ps names items old here last held us n k (Ok (set_trees extensible ts us)) (ts, set_tree extensible ts us x, g) tt

-- ---- what stops the reading of a SET once all of its components are read

module _ (f : ℕ → Shape) (name : List ℕ) (extensible : Bool) (cs : List Component) (old here : State) (last : Option Tag) (held : List (Option Tree)) (us : List Tree) (n : Ended here.closing here.rest) where
  pub lacks_member : ReadTo extensible (components_by f cs) (names_of cs) old here last None held us → (e : DecodeError) → IsLackOf (components_by f cs) (names_of cs) here.rule held e → StopsInSet f name extensible cs old e
  lacks_member k e (inl m) = inl m
  lacks_member k e (inr w) =
      let made = all_made extensible (components_by f cs) (names_of cs) items old here last held us n k (Err e) (inr w) (λ o. lacks_gap (presences (components_by f cs)) held w.0 w.1) in
      inr (inr (made.0, here, made.1, made.2.0))

  pub repeats_member : (x : Bor (List ℕ)) → ReadTo extensible (components_by f cs) (names_of cs) old here last (Some x) held us → (e : DecodeError) → IsNamedError (IsDuplicateField (text x)) here.rule e
      → StopsInSet f name extensible cs old e
  repeats_member x k e w =
      let made = made_twice extensible (components_by f cs) (names_of cs) items old here last held us n x k e w in
      inr (inr (made.0, here, made.1, made.2.0))
