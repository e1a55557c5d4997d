-- An OCTET STRING of so many octets is an OCTET STRING of this size.
use Rattle.std.proofs.Common.{◌≡◌, ◌≤◌, ℕ, ◌⊎◌, inl, inr, List, length, Ok, Err, sym, ap, ◌∙◌, subst}
use Rattle.std.specs.Cow.{cow_slice_items}
use Rattle.std.specs.declared.alloc.Global.{Global}
use Rattle.std.specs.declared.borrow.CowSlice.{CowSlice}
use Rattle.rasn_types.specs.declared.types.tag.Tag.{Tag}
use Rattle.rasn_types.specs.declared.types.constraints.Constraints.{Constraints}
use Rattle.rasn_types.specs.declared.error.decode.DecodeError.{DecodeError}
use Rattle.rasn_types.specs.declared.error.decode.DecodeErrorKind.{DecodeErrorKind}
use Rattle.rasn_types.specs.Shapes.{Tree, numbers, leaf, octet_string, fixed, Admits}
use Rattle.rasn_types.specs.Trees.{unconstrained}
use Rattle.rasn_types.specs.Grammar.{Reads, IsBounded}
use Rattle.rasn_de.specs.State.{State}
use Rattle.rasn_de.specs.OctetString.{cow_tree}
use Rattle.rasn_de.specs.Outcomes.{Got, refusal}
use Rattle.rasn_de.specs.Decodes.{Decodes, DecodesExactly}
use Rattle.rasn_de.proofs.Leaves.Outcomes.{Exact-none, Exact-refusal}

module _ (tag : Tag) (n : ℕ) (bounds : Constraints) (old new : State) where
  abbrev Fixed : Tree → List ℕ → Type 0
  Fixed t r = Reads old.rule (leaf (fixed n) tag bounds) old.depth old.closing old.rest t r

  abbrev Plain : Tree → List ℕ → Type 0
  Plain t r = Reads old.rule (leaf octet_string tag unconstrained) old.depth old.closing old.rest t r

  as_plain : (t : Tree) (r : List ℕ) → Fixed t r → Plain t r × ((o : List ℕ) × (t ≡ numbers o) × (length o ≡ n) × Admits ◌≤◌ bounds.size (length o))
  unfolding Reads
  as_plain t r ((o, s, (e, l)), b) = (((o, s, e), subst (IsBounded octet_string unconstrained) (sym e) tt), (o, e, l, subst (IsBounded (fixed n) bounds) e b))

  as_fixed : (o : List ℕ) (r : List ℕ) → Plain (numbers o) r → length o ≡ n → Admits ◌≤◌ bounds.size n → Fixed (numbers o) r
  unfolding Reads
  as_fixed o r ((p, s, e), b) l a = ((p, s, (e, let same : p ≡ o = cc in ap length same ∙ l)), subst (Admits ◌≤◌ bounds.size) (sym l) a)

  module _ (s : CowSlice ℕ Global) (d : Decodes (leaf octet_string tag unconstrained) cow_tree old (Ok s) new) where
    pub fixed_got : length (cow_slice_items s) ≡ n → Admits ◌≤◌ bounds.size n → DecodesExactly (λ rule. Reads rule (leaf (fixed n) tag bounds)) old (Got (cow_tree s) new.rest) new
    fixed_got l a = record { stays = d.stays; end = d.end; exact = (as_fixed (cow_slice_items s) new.rest d.exact.0 l a, λ u r h. d.exact.1 u r (as_plain u r h).0) }

    pub fixed_refused : ((length (cow_slice_items s) ≡ n → ⊥) ⊎ (Admits ◌≤◌ bounds.size n → ⊥)) → (kind : DecodeErrorKind) → DecodesExactly (λ rule. Reads rule (leaf (fixed n) tag bounds)) old (refusal kind) new
    fixed_refused c kind = record { stays = d.stays; end = d.end; exact = Exact-none kind (Reads old.rule (leaf (fixed n) tag bounds) old.depth old.closing) old.rest (λ u r h. none u r h c) }
      where
        none : (u : Tree) (r : List ℕ) → Fixed u r → ((length (cow_slice_items s) ≡ n → ⊥) ⊎ (Admits ◌≤◌ bounds.size n → ⊥)) → ⊥
        none u r h (inl f) =
            let w = as_plain u r h in
            let e : numbers w.1.0 ≡ numbers (cow_slice_items s) = sym w.1.1 ∙ (d.exact.1 u r w.0).0 in
            let same : w.1.0 ≡ cow_slice_items s = cc in
            f (ap length (sym same) ∙ w.1.2)
        none u r h (inr f) = let w = as_plain u r h in f (subst (Admits ◌≤◌ bounds.size) w.1.2 w.1.3)

  pub fixed_unread : (e : DecodeError) → Decodes {T = CowSlice ℕ Global} (leaf octet_string tag unconstrained) cow_tree old (Err e) new → DecodesExactly (λ rule. Reads rule (leaf (fixed n) tag bounds)) old (refusal e.kind) new
  fixed_unread e d = record {
    stays = d.stays;
    end = d.end;
    exact = Exact-refusal e.kind (Reads old.rule (leaf octet_string tag unconstrained) old.depth old.closing) (Reads old.rule (leaf (fixed n) tag bounds) old.depth old.closing) old.rest old.rest
        (λ nothing u r h. nothing u r (as_plain u r h).0) d.exact;
  }
