-- A UniversalString is an OCTET STRING of characters of four octets each.
use Rattle.std.proofs.Common.{◌≡◌, ◌+◌, ◌*◌, ◌/◌, ◌≤◌, ℕ, List, [], ◌∷◌, length, inl, inr, Ok, Err, Result, OnOk, IfErr, refl, sym, ap, ap₂, ◌∙◌, subst, arith}
use Rattle.std.proofs.lemmas.Result.{on_ok_weaker, IfErr-weaker}
use Rattle.std.specs.Cow.{cow_slice_items}
use Rattle.std.specs.declared.alloc.Global.{Global}
use Rattle.std.specs.declared.borrow.CowSlice.{CowSlice}
use Rattle.rasn_types.specs.declared.types.tag.Tag.{Tag}
use Rattle.rasn_types.specs.declared.types.constraints.Constraints.{Constraints}
use Rattle.rasn_types.specs.declared.error.decode.DecodeError.{DecodeError}
use Rattle.rasn_types.specs.declared.error.decode.DecodeErrorKind.{DecodeErrorKind}
use Rattle.rasn_types.specs.declared.error.encode.EncodeError.{EncodeError}
use Rattle.rasn_types.specs.Shapes.{Tree, numbers, leaf, octet_string, universal, Admits}
use Rattle.rasn_types.specs.Trees.{unconstrained}
use Rattle.rasn_types.specs.Grammar.{Reads, IsBounded, quads}
use Rattle.rasn_types.specs.Bytes.{Bytes, IsUntaggedOpen}
use Rattle.rasn_de.specs.State.{State}
use Rattle.rasn_de.specs.OctetString.{cow_tree}
use Rattle.rasn_de.specs.Outcomes.{Got, refusal}
use Rattle.rasn_de.specs.Decodes.{Decodes, DecodesExactly}
use Rattle.rasn_de.proofs.Leaves.Outcomes.{Exact-none, Exact-refusal}
use Rattle.rasn_enc.specs.View.{View}
use Rattle.rasn_enc.specs.Encoding.{AppendsEncoding, EncodeFails}
use Rattle.rasn_enc.specs.Errors.{FailsAtSize, FailsAtString}
use Rattle.rasn_enc.specs.Primitive.{IsAllocError}

-- ---- characters

-- Octets are the characters of one list at most.
pub quads_one : (l ms ns : List ℕ) → quads l ms → quads l ns → ms ≡ ns
quads_one [] ms ns h i = h ∙ sym i
quads_one (a ∷ []) ms ns h i = absurd h
quads_one (a ∷ b ∷ []) ms ns h i = absurd h
quads_one (a ∷ b ∷ c ∷ []) ms ns h i = absurd h
quads_one (a ∷ b ∷ c ∷ d ∷ l) ms ns (m, x, e, p, f, h) (n, y, g, q, k, i) = f ∙ (ap₂ ◌∷◌ (e ∙ sym g) (quads_one l x y h i) ∙ sym k)

-- There are four octets a character.
pub quads_length : (l ns : List ℕ) → quads l ns → length l ≡ 4 * length ns
quads_length [] ns h = rw h refl
quads_length (a ∷ []) ns h = absurd h
quads_length (a ∷ b ∷ []) ns h = absurd h
quads_length (a ∷ b ∷ c ∷ []) ns h = absurd h
quads_length (a ∷ b ∷ c ∷ d ∷ l) ns (n, ms, e, p, f, h) = let k = quads_length l ms h in rw f (omega (arith, k))

pub quads_counted : (l ns : List ℕ) (n : ℕ) → quads l ns → n ≡ length l → n / 4 ≡ length ns
quads_counted l ns n h e = let k = quads_length l ns h in omega (arith, k, e)

-- ---- reading

module _ (tag : Tag) (bounds : Constraints) (old new : State) where
  abbrev Wide : Tree → List ℕ → Type 0
  Wide t r = Reads old.rule (leaf universal tag bounds) old.depth old.closing old.rest t r

  abbrev Plain : Tree → List ℕ → Type 0
  Plain t r = Reads old.rule (leaf octet_string tag unconstrained) old.depth old.closing old.rest t r

  as_plain : (t : Tree) (r : List ℕ) → Wide t r → (o : List ℕ) × (ns : List ℕ) × Plain (numbers o) r × (t ≡ numbers ns) × quads o ns × Admits ◌≤◌ bounds.size (length ns)
  unfolding Reads
  as_plain t r ((o, s, (ns, e, q)), b) = (o, ns, ((o, s, refl), tt), e, q, subst (IsBounded universal bounds) e b)

  as_wide : (o ns : List ℕ) (r : List ℕ) → Plain (numbers o) r → quads o ns → Admits ◌≤◌ bounds.size (length ns) → Wide (numbers ns) r
  unfolding Reads
  as_wide o ns r ((p, s, e), b) q a = let same : o ≡ p = cc in ((p, s, (ns, refl, subst (λ l. quads l ns) same q)), a)

  module _ (s : CowSlice ℕ Global) (d : Decodes (leaf octet_string tag unconstrained) cow_tree old (Ok s) new) where
    same_octets : (o r : List ℕ) → Plain (numbers o) r → (o ≡ cow_slice_items s) × (r ≡ new.rest)
    same_octets o r h = let e = d.exact.1 (numbers o) r h in ((let k : numbers o ≡ numbers (cow_slice_items s) = e.0 in cc), e.1)

    pub universal_refused : (kind : DecodeErrorKind) → ((ns : List ℕ) → quads (cow_slice_items s) ns → Admits ◌≤◌ bounds.size (length ns) → ⊥) → DecodesExactly (λ rule. Reads rule (leaf universal tag bounds)) old (refusal kind) new
    universal_refused kind none = record {
      stays = d.stays;
      end = d.end;
      exact = Exact-none kind (Reads old.rule (leaf universal tag bounds) old.depth old.closing) old.rest (λ u r h. nothing u r (as_plain u r h));
    }
      where
        nothing : (u : Tree) (r : List ℕ) → (o : List ℕ) × (ms : List ℕ) × Plain (numbers o) r × (u ≡ numbers ms) × quads o ms × Admits ◌≤◌ bounds.size (length ms) → ⊥
        nothing u r (o, ms, p, e, h, b) = none ms (subst (λ l. quads l ms) (same_octets o r p).0 h) b

    module _ (ns : List ℕ) (size : ℕ) (q : quads (cow_slice_items s) ns) (counted : size ≡ length ns) where
      pub universal_got : Admits ◌≤◌ bounds.size size → DecodesExactly (λ rule. Reads rule (leaf universal tag bounds)) old (Got (numbers ns) new.rest) new
      universal_got a = record {
        stays = d.stays;
        end = d.end;
        exact = (as_wide (cow_slice_items s) ns new.rest d.exact.0 q (subst (λ n. Admits ◌≤◌ bounds.size n) counted a), λ u r h. only u r (as_plain u r h));
      }
        where
          only : (u : Tree) (r : List ℕ) → (o : List ℕ) × (ms : List ℕ) × Plain (numbers o) r × (u ≡ numbers ms) × quads o ms × Admits ◌≤◌ bounds.size (length ms) → (u ≡ numbers ns) × (r ≡ new.rest)
          only u r (o, ms, p, e, h, b) = let k = same_octets o r p in (e ∙ ap numbers (quads_one (cow_slice_items s) ms ns (subst (λ l. quads l ms) k.0 h) q), k.1)

      -- The size isn't admitted.
      pub universal_out : (kind : DecodeErrorKind) → (Admits ◌≤◌ bounds.size size → ⊥) → DecodesExactly (λ rule. Reads rule (leaf universal tag bounds)) old (refusal kind) new
      universal_out kind out = universal_refused kind (λ ms h b. out (subst (λ n. Admits ◌≤◌ bounds.size n) (ap length (quads_one (cow_slice_items s) ms ns h q) ∙ sym counted) b))

  pub universal_unread : (e : DecodeError) → Decodes {T = CowSlice ℕ Global} (leaf octet_string tag unconstrained) cow_tree old (Err e) new → DecodesExactly (λ rule. Reads rule (leaf universal tag bounds)) old (refusal e.kind) new
  universal_unread e d = record {
    stays = d.stays;
    end = d.end;
    exact = Exact-refusal e.kind (Reads old.rule (leaf octet_string tag unconstrained) old.depth old.closing) (Reads old.rule (leaf universal tag bounds) old.depth old.closing) old.rest old.rest
        (λ nothing u r h. let w = as_plain u r h in nothing (numbers w.0) r w.2) d.exact;
  }

-- ---- writing

module _ {R : Type 0} (r : Result R EncodeError) (tag : Tag) (c : Constraints) (xs ns : List ℕ) (v w : View) where
  -- Octets that are written as an OCTET STRING are so as characters.
  pub universal_encoded : quads xs ns → Admits ◌≤◌ c.size (length ns) → OnOk r (AppendsEncoding (leaf octet_string tag unconstrained) (numbers xs) v w) → OnOk r (AppendsEncoding (leaf universal tag c) (numbers ns) v w)
  unfolding Bytes IsUntaggedOpen
  universal_encoded q a h = on_ok_weaker r (λ k. record {
    octets = k.octets;
    defined = written k.octets k.defined;
    tags = k.tags;
    heads = k.heads;
    tagged = k.tagged;
    appended = k.appended;
  }) h
    where
      written : (octets : List ℕ) → Bytes v.rule (leaf octet_string tag unconstrained) (numbers xs) octets → Bytes v.rule (leaf universal tag c) (numbers ns) octets
      written octets (m, (l, e, d)) = (a, (l, (ns, refl, (let same : xs ≡ l = cc in subst (λ k. quads k ns) same q)), d))

-- Without a constraint, memory alone may be wanting.
pub universal_unwritten : {R : Type 0} (r : Result R EncodeError) (tag : Tag) (c : Constraints) (n : ℕ) (ns : List ℕ) (v : View) → IfErr r (FailsAtString unconstrained n v.rule) → IfErr r (EncodeFails (leaf universal tag c) (numbers ns) v)
universal_unwritten r tag c n ns v h = IfErr-weaker r _ _ (λ e. elim [
  | inl k ↦ absurd (k.unmet tt)
  | inr m ↦ record { why = inl (ap (λ (x : EncodeError). x.kind) m.memory) }
]) h
