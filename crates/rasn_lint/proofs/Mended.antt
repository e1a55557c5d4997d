-- Contents that are written after a header of DER.
use Rattle.std.proofs.Common.{◌≡◌, List, ℕ, Option, Some, None, Result, Ok, Err, Vec, Global, sym, subst}
use Rattle.std.specs.Prelude.{IfOk, MatchOption}
use Rattle.std.specs.declared.alloc.AllocError.{AllocError}
use Rattle.rasn_types.specs.declared.types.codec.Codec.TheVariants.{Ber, Der}
use Rattle.rasn_types.specs.declared.types.tag.Tag.{Tag}
use Rattle.rasn_types.specs.declared.error.decode.DecodeError.{DecodeError}
use Rattle.rasn_types.specs.declared.error.encode.EncodeError.{EncodeError}
use Rattle.rasn_types.specs.Errors.{IsOutOfMemory}
use Rattle.rasn_types.specs.Shapes.{Tree}
use Rattle.rasn_types.specs.Grammar.{Reads, top}
use Rattle.rasn_types.specs.Bytes.{Bytes}
use Rattle.rasn_de.specs.Decodes.{Decodes}
use Rattle.rasn_de.specs.State.{State}
use Rattle.rasn_dynamic.specs.Faults.{start}
use Rattle.rasn_lint.specs.declared.leaf.Segments.{Segments}
use Rattle.rasn_lint.specs.Leaf.{found_shape, written_shape, Finds, IsMended}
use Rattle.rasn_lint.proofs.Unread.{not_read}

-- What is returned of the contents, or of none.
abbrev pub IsMendedOrNone : Segments → Tag → List ℕ → Option (Vec ℕ Global) → Type 0
IsMendedOrNone segments tag octets found = MatchOption found ((t : Tree) (rest : List ℕ) → Finds segments tag octets t rest → ⊥) (λ v. IsMended segments tag octets v.items)

module _ {T : Type 0} (segments : Segments) (tag : Tag) (octets : List ℕ) (tree : T → Tree) (s new : State) (at : s ≡ start Ber octets) where
  pub mended_kept : (x : T) → Decodes (found_shape segments tag) tree s (Ok x) new → (t : Tree) → t ≡ tree x → (w : Result (Vec ℕ Global) EncodeError) → IfOk w (λ v. Bytes Der (written_shape segments tag) t v.items)
      → (r : Result (Option (Vec ℕ Global)) AllocError) → IfOk r (λ found. (v : Vec ℕ Global) × (w ≡ Ok v) × (found ≡ Some v)) → IfOk r (IsMendedOrNone segments tag octets)
  mended_kept x d t e w b (Err a) k = tt
  mended_kept x d t e w b (Ok found) (v, p, q) =
      let read = subst (λ (z : State). Reads z.rule (found_shape segments tag) z.depth z.closing z.rest (tree x) new.rest) at d.exact.0 in
      let written : Bytes Der (written_shape segments tag) t v.items = subst (λ z. IfOk z (λ (u : Vec ℕ Global). Bytes Der (written_shape segments tag) t u.items)) p b in
      subst (IsMendedOrNone segments tag octets) (sym q) (tree x, new.rest, read, subst (λ z. Bytes Der (written_shape segments tag) z v.items) e written)

  pub none_mended : (e : DecodeError) → Decodes (found_shape segments tag) tree s (Err e) new → (r : Result (Option (Vec ℕ Global)) AllocError)
      → IfOk r (λ found. (found ≡ None) × (IsOutOfMemory e.kind → ⊥)) → IfOk r (IsMendedOrNone segments tag octets)
  none_mended e d (Err a) k = tt
  none_mended e d (Ok found) (q, n) =
      let exact = subst (λ (z : State). Decodes (found_shape segments tag) tree z (Err e) new) at d in
      subst (IsMendedOrNone segments tag octets) (sym q) (not_read e.kind (Reads Ber (found_shape segments tag) 128 (top Ber)) octets exact.exact n)
