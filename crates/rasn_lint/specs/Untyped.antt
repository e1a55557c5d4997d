-- Encodings whose type isn't known, and what departs of one of them, whatever departs inside it.
use Rattle.std.specs.Prelude.{◌≡◌, ◌⊎◌, ℕ, zero, suc, List, [], ◌∷◌, ◌++◌, Bool, true, false, Some, None, Ok, MatchOption}
use Rattle.rasn_types.specs.declared.types.codec.Codec.TheVariants.{Ber}
use Rattle.rasn_types.specs.declared.types.tag.Tag.{Tag}
use Rattle.rasn_types.specs.declared.error.decode.DecodeError.{DecodeError}
use Rattle.rasn_types.specs.Contents.{joined_lists}
use Rattle.rasn_types.specs.Shapes.{looked_for}
use Rattle.rasn_types.specs.Tags.{form}
use Rattle.rasn_de.specs.Any.{OpenAt}
use Rattle.rasn_de.specs.ParserViews.{peeked_tag}
use Rattle.rasn_de.specs.Skipping.{Skipped}
use Rattle.rasn_lint.specs.declared.departure.Aspect.{Aspect}
use Rattle.rasn_lint.specs.declared.departure.Aspect.TheVariants.{Header, Contents, Place}
use Rattle.rasn_lint.specs.declared.der.universal.ContentsRule.{ContentsRule}
use Rattle.rasn_lint.specs.declared.der.universal.ContentsRule.TheVariants.{Set}
use Rattle.rasn_lint.specs.declared.judge.Faults.{Faults}
use Rattle.rasn_lint.specs.Contents.{AllowsContents}
use Rattle.rasn_lint.specs.Header.{is_constructed, IsTagFault, IsLengthFault}
use Rattle.rasn_lint.specs.Order.{IsInOrder}
use Rattle.rasn_lint.specs.Refusals.{form_error, IsContentsError, IsUnreadable}
use Rattle.rasn_lint.specs.Universal.{rule_of}
use Rattle.rasn_lint.specs.WellFormed.{AllowsParts, AreWellFormed, AreEncodings, AllowsEncoding}

-- The octets of a value of an open type, as BER finds them.
abbrev pub HasOpen : Tag → List ℕ → List ℕ → Type 0
HasOpen tag octets inside = (rest : List ℕ) × OpenAt Ber (looked_for tag) octets (Ok (inside, rest))

-- The tag and the contents of the encoding at the start of the octets, as BER finds them; or there is none.
abbrev pub HasContents : Tag → List ℕ → List ℕ → Type 0
HasContents tag octets contents = (peeked_tag (form Ber) octets ≡ Ok tag) × HasOpen tag octets contents

abbrev pub HasNoContents : List ℕ → Type 0
HasNoContents octets = (tag : Tag) (contents : List ℕ) → HasContents tag octets contents → ⊥

-- BER skips the encoding at the start of the octets, and these follow it; or it skips none.
abbrev pub IsFollowedBy : List ℕ → List ℕ → Type 0
IsFollowedBy octets rest = (steps : ℕ) × Skipped Ber octets steps rest

abbrev pub IsUnread : List ℕ → Type 0
IsUnread octets = (rest : List ℕ) → IsFollowedBy octets rest → ⊥

-- So many encodings, one after the other, are before the rest.
abbrev pub FollowsAfter : ℕ → List ℕ → List ℕ → Type 0
FollowsAfter zero octets rest = rest ≡ octets
FollowsAfter (suc n) octets rest = (more : List ℕ) × IsFollowedBy octets more × FollowsAfter n more rest

-- This is one of the encodings, one after the other, that BER reads from the octets.
abbrev pub IsValueIn : List ℕ → List ℕ → Type 0
IsValueIn octets first = (k : ℕ) × (there : List ℕ) × (more : List ℕ) × FollowsAfter k octets there × (there ≡ first ++ more) × IsFollowedBy there more

-- The encoding at the start of the octets is constructed, and of the encodings in its contents the one with the index k is
-- at the start of those there.
pub record HoldsAt (k : ℕ) (octets there : List ℕ) : Type 0 where
  pub constructed : is_constructed octets ≡ true
  pub tag : Tag
  pub contents : List ℕ
  pub has : HasContents tag octets contents
  pub follows : FollowsAfter k contents there

-- The indices lead from the encoding at the start of the octets to the one at the start of those there: each is that of an
-- encoding in the contents of the one before.
abbrev pub LeadsInto : List ℕ → List ℕ → List ℕ → Type 0
LeadsInto [] octets there = there ≡ octets
LeadsInto (k ∷ ks) octets there = (first : List ℕ) × HoldsAt k octets first × LeadsInto ks first there

-- No encoding that follows the rule has this form.
abbrev pub HasNoForm : ContentsRule → Bool → Type 0
HasNoForm rule false = (contents : List ℕ) → AllowsContents rule contents → ⊥
HasNoForm rule true = (parts : List (List ℕ)) → AllowsParts rule parts → ⊥

-- The contents are those of a SET. If they are well-formed encodings, these aren't in order.
abbrev pub IsUnordered : ContentsRule → List ℕ → Type 0
IsUnordered rule contents = (rule ≡ Set) × ((parts : List (List ℕ)) → contents ≡ joined_lists parts → AreWellFormed parts → IsInOrder parts → ⊥)

-- The contents aren't allowed for the tag, although the form is. Those of a constructed encoding are well formed: else what
-- departs is inside them.
abbrev pub HasWrongContents : Tag → Bool → List ℕ → Type 0
HasWrongContents tag bit contents = (HasNoForm (rule_of tag) bit → ⊥) × (bit ≡ true → AreEncodings contents) × AllowsEncoding false tag bit contents

-- The errors of an encoding with this tag and these contents, of which nothing is said in its place. There is one of the
-- form, and of the contents, exactly if they aren't allowed, and each is the reader's.
pub record AreUntypedFaults (tag : Tag) (contents octets : List ℕ) (f : Faults) : Type 0 where
  pub order : f.order ≡ None
  pub default : f.default ≡ None
  pub by_tag : IsTagFault octets f.tag
  pub by_form : MatchOption f.form (HasNoForm (rule_of tag) (is_constructed octets) → ⊥) (λ e. HasNoForm (rule_of tag) (is_constructed octets) × (e ≡ form_error (rule_of tag) (is_constructed octets)))
  pub by_length : IsLengthFault octets f.length
  pub in_contents : MatchOption f.contents (HasWrongContents tag (is_constructed octets) contents → ⊥) (λ e. AllowsEncoding false tag (is_constructed octets) contents × IsContentsError (rule_of tag) tag (is_constructed octets) contents e)

-- Of what the octets begin with the identifier or length octets depart, or the form isn't that of the tag, or BER doesn't
-- read it; and the error is that of the reader.
abbrev pub DepartsInHeader : List ℕ → DecodeError → Type 0
DepartsInHeader octets e = (IsTagFault octets (Some e) ⊎ IsLengthFault octets (Some e))
    ⊎ (((tag : Tag) × (contents : List ℕ) × HasContents tag octets contents × HasNoForm (rule_of tag) (is_constructed octets) × (e ≡ form_error (rule_of tag) (is_constructed octets)))
    ⊎ ((HasNoContents octets ⊎ IsUnread octets) × IsUnreadable octets e))

-- Of the encoding that the octets begin with the contents aren't allowed for its tag, even if they are well-formed
-- encodings; and the error is that of the reader.
abbrev pub DepartsInContents : List ℕ → DecodeError → Type 0
DepartsInContents octets e = (tag : Tag) × (contents : List ℕ) × HasContents tag octets contents × AllowsEncoding false tag (is_constructed octets) contents × IsContentsError (rule_of tag) tag (is_constructed octets) contents e

abbrev pub Departs : Aspect → List ℕ → DecodeError → Type 0
Departs Header octets e = DepartsInHeader octets e
Departs Contents octets e = DepartsInContents octets e
Departs Place octets e = ⊥
