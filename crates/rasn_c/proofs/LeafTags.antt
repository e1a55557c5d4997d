-- A value that holds no others is read with the tag that the octets begin with, or with none.
use Rattle.std.proofs.Common.{ℕ, ◌≡◌, List, [], Bool, refl, sym, ap, ◌∙◌, subst}
use Rattle.rasn_types.specs.declared.types.codec.Codec.{Codec}
use Rattle.rasn_types.specs.declared.types.tag.Tag.{Tag}
use Rattle.rasn_types.specs.declared.types.constraints.Constraints.{Constraints}
use Rattle.rasn_types.specs.declared.error.decode.DecodeErrorKind.{DecodeErrorKind}
use Rattle.rasn_types.specs.declared.error.decode.DecodeErrorKind.TheVariants.{OutOfMemory}
use Rattle.rasn_types.specs.Errors.{IsOutOfMemory}
use Rattle.rasn_types.specs.Tags.{form}
use Rattle.rasn_types.specs.Framing.{NextTag}
use Rattle.rasn_types.specs.Shapes.{Kind, Tree, leaf}
use Rattle.rasn_types.specs.Trees.{unconstrained}
use Rattle.rasn_types.specs.Contents.{ReadsString, primitive, segments, closed_segments}
use Rattle.rasn_types.specs.Grammar.{Reads, ReadsIn, Family, plain_family, bit_family, named_family, text_family, family, top}
use Rattle.rasn_types.specs.Readings.{Reading}
use Rattle.rasn_types.proofs.Headers.Frames.{next_one, frame_next}
use Rattle.rasn_de.specs.State.{State}
use Rattle.rasn_de.specs.Outcomes.{Exact, Got, refusal}
use Rattle.rasn_de.specs.Decodes.{DecodesExactly}
use Rattle.rasn_c.specs.Leaves.{IsLeaf}

string_next : {X : Type 0} {rule : Codec} {segment : List ℕ → List X → Type 0} {inner : Tag} {depth : ℕ} {tag : Tag} {input : List ℕ} {xs : List X} {rest : List ℕ} → ReadsString rule segment inner depth tag input xs rest → NextTag (form rule) input tag
string_next (primitive contents f s) = frame_next f
string_next (segments contents n f s) = frame_next f
string_next (closed_segments body n f s) = frame_next f

in_next : (f : Family) (rule : Codec) (kind : Kind) (tag : Tag) (depth : ℕ) (input : List ℕ) (t : Tree) (rest : List ℕ) → ReadsIn f rule kind tag depth input t rest → NextTag (form rule) input tag
in_next plain_family rule kind tag depth input t rest (bit, contents, f, c, more) = frame_next f
in_next bit_family rule kind tag depth input t rest (bs, e, l, s) = string_next s
in_next named_family rule kind tag depth input t rest (bs, e, l, s, c) = string_next s
in_next text_family rule kind tag depth input t rest (octets, s, x) = string_next s

-- A value begins with its tag.
reads_next : (rule : Codec) (kind : Kind) (tag : Tag) (c : Constraints) (depth : ℕ) (closing : Bool) (input : List ℕ) (t : Tree) (rest : List ℕ) → Reads rule (leaf kind tag c) depth closing input t rest → NextTag (form rule) input tag
unfolding Reads
reads_next rule kind tag c depth closing input t rest h = in_next (family kind) rule kind tag depth input t rest h.0

memory_or_none : (k : DecodeErrorKind) (R : Reading Tree) (input : List ℕ) → (IsOutOfMemory k → ⊥) → Exact R input (refusal k) → (t : Tree) (rest : List ℕ) → R input t rest → ⊥
memory_or_none OutOfMemory R input n h = absurd (n refl)
memory_or_none _ R input n h = h

abbrev pub start : Codec → List ℕ → State
start rule octets = record { rule = rule; depth = 128; closing = top rule; whole = octets; rest = octets }

pub begins : (rule other : Codec) (octets : List ℕ) (s : State) → other ≡ rule → s ≡ start other octets → s ≡ start rule octets
begins rule other octets s b e = e ∙ ap (λ r. start r octets) b

module _ {rule : Codec} {octets : List ℕ} (kind : Kind) (s : State) (e : s ≡ start rule octets) where
  -- No identifier follows.
  pub none_next : ((t : Tag) → NextTag (form s.rule) s.rest t → ⊥) → (u : Tree) → IsLeaf rule kind octets u → ⊥
  none_next n u (tag, r) = n tag (subst (λ (z : State). NextTag (form z.rule) z.rest tag) (sym e) (reads_next rule kind tag unconstrained 128 (top rule) octets u [] r))

  module _ (tag : Tag) (n : NextTag (form s.rule) s.rest tag) where
    abbrev R : Codec → ℕ → Bool → Reading Tree
    R rule = Reads rule (leaf kind tag unconstrained)

    here : (u : Tree) → IsLeaf rule kind octets u → R s.rule s.depth s.closing s.rest u []
    here u (w, r) =
        let m = subst (λ (z : State). NextTag (form z.rule) z.rest tag) e n in
        let k : w ≡ tag = next_one octets w tag (reads_next rule kind w unconstrained 128 (top rule) octets u [] r) m in
        subst (λ (z : State). R z.rule z.depth z.closing z.rest u []) (sym e) (subst (λ z. Reads rule (leaf kind z unconstrained) 128 (top rule) octets u []) k r)

    -- The value that is read is all of the octets, or octets follow it.
    pub is_read : (t : Tree) (new : State) → DecodesExactly R s (Got t new.rest) new → new.rest ≡ [] → IsLeaf rule kind octets t
    is_read t new d x = (tag, subst (λ (z : State). R z.rule z.depth z.closing z.rest t []) e (subst (λ l. R s.rule s.depth s.closing s.rest t l) x d.exact.0))

    pub is_followed : (t : Tree) (new : State) → DecodesExactly R s (Got t new.rest) new → (new.rest ≡ [] → ⊥) → (u : Tree) → IsLeaf rule kind octets u → ⊥
    is_followed t new d x u l = x (sym (d.exact.1 u [] (here u l)).1)

    -- It is refused.
    pub is_refused : (k : DecodeErrorKind) (new : State) → DecodesExactly R s (refusal k) new → (IsOutOfMemory k → ⊥) → (u : Tree) → IsLeaf rule kind octets u → ⊥
    is_refused k new d x u l = memory_or_none k (R s.rule s.depth s.closing) s.rest x d.exact u [] (here u l)
