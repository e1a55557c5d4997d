-- A NULL is read exactly where the grammar has one.
use Rattle.std.proofs.Common.{◌≡◌, ℕ, List, Result, Ok, Err, refl, sym, subst}
use Rattle.std.specs.Prelude.{pos, IfErr}
use Rattle.rasn_types.specs.declared.types.tag.Tag.{Tag}
use Rattle.rasn_types.specs.declared.types.codec.Codec.{Codec}
use Rattle.rasn_types.specs.declared.error.decode.DecodeError.{DecodeError}
use Rattle.rasn_types.specs.Errors.{IsOutOfMemory}
use Rattle.rasn_types.specs.Framing.{AreOctets}
use Rattle.rasn_types.specs.Tags.{IsStrict}
use Rattle.rasn_types.specs.Shapes.{Tree, number, leaf, null}
use Rattle.rasn_types.specs.Trees.{unconstrained}
use Rattle.rasn_types.specs.Contents.{Contents}
use Rattle.rasn_types.specs.Grammar.{Reads}
use Rattle.rasn_de.specs.Causes.{Cause}
use Rattle.rasn_de.specs.Leaves.{DecodesLeaf}
use Rattle.rasn_de.specs.Enumerated.{NullIn, NullAt}
use Rattle.rasn_de.specs.State.{State}
use Rattle.rasn_de.specs.Decodes.{Decodes}
use Rattle.rasn_de.proofs.Leaves.Outcomes.{plain_agrees, decoded_answers}
use Rattle.rasn_de.proofs.Leaves.Memory.{IsPlainCause, decoded_plain}
use Rattle.rasn_de.proofs.Leaves.Rules.{leaf_rules}

null_parsed : (rule : Codec) (c : List ℕ) (u : Unit {0}) → AreOctets c → NullIn c (Ok u) → Contents rule null c (number (pos 0)) × (IsStrict rule → Unit {0}) × Unit {0}
null_parsed rule c u o e = ((refl, e), (λ s. tt), tt)

null_only : (rule : Codec) (c : List ℕ) (u : Unit {0}) (t : Tree) → AreOctets c → NullIn c (Ok u) → Contents rule null c t → Unit {0} → t ≡ number (pos 0)
null_only rule c u t o e k b = k.0

null_none : (rule : Codec) (c : List ℕ) (e : Cause) (t : Tree) → AreOctets c → NullIn c (Err e) → Contents rule null c t → (IsStrict rule → Unit {0}) → Unit {0} → ⊥
null_none rule c e t o h k s b = h.0 k.1

null_decodes : (tag : Tag) (old new : State) (result : Result (Unit {0}) DecodeError) → AreOctets old.rest → DecodesLeaf (λ u. u) (NullAt old.rule tag old.rest) old result new → Decodes (leaf null tag unconstrained) (λ _. number (pos 0)) old result new
unfolding Reads
null_decodes tag old new result o g =
    decoded_answers (λ rule. Reads rule (leaf null tag unconstrained)) (λ u. number (pos 0)) (λ u. u) _ old new result
    (plain_agrees old.rule tag old.rest o null old.depth (λ t. Unit {0}) (λ u. number (pos 0)) NullIn (null_parsed old.rule) (null_only old.rule) (null_none old.rule)) g

null_plain : (c : List ℕ) (e : Cause) → NullIn c (Err e) → IsPlainCause e
null_plain c e (n, f) = subst IsPlainCause (sym f) (λ h. cc)

-- What `decode_null` ensures follows from its exact clause.
pub null_ensured : (tag : Tag) (old new : State) (result : Result (Unit {0}) DecodeError) → AreOctets old.rest → DecodesLeaf (λ u. u) (NullAt old.rule tag old.rest) old result new
    → record { reads : Decodes (leaf null tag unconstrained) (λ _. number (pos 0)) old result new; exact : DecodesLeaf (λ u. u) (NullAt old.rule tag old.rest) old result new; memory : IfErr result (λ e. IsOutOfMemory e.kind → ⊥); rules : IfErr result (λ e. e.codec ≡ old.rule) }
null_ensured tag old new result o g = record { reads = null_decodes tag old new result o g; exact = g; memory = decoded_plain (λ u. u) NullIn null_plain tag old new result g; rules = leaf_rules (λ u. u) (NullAt old.rule tag old.rest) old new result g }
