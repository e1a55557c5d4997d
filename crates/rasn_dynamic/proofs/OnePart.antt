-- A component of a SEQUENCE is read, or is absent.
use Rattle.std.proofs.Common.{Bool, ◌≡◌, inl, inr, true, false, Option, Some, None, Result, Ok, Err, refl, sym, ◌∙◌, subst}
use Rattle.std.specs.Prelude.{IfOk, IfErr}
use Rattle.std.specs.declared.alloc.AllocError.{AllocError}
use Rattle.rasn_types.specs.declared.types.tag.Tag.{Tag}
use Rattle.rasn_types.specs.declared.error.decode.DecodeError.{DecodeError}
use Rattle.rasn_types.specs.declared.error.decode.DerDecodeErrorKind.TheVariants.{DefaultValuePresent}
use Rattle.rasn_types.specs.Errors.{IsOutOfMemory}
use Rattle.rasn_types.specs.Tags.{IsStrict}
use Rattle.rasn_types.specs.Shapes.{Tree, absent, Same, Shape, Key, own_tag, first_tags, own, looked_for, Presence, required, addition, optional_by, default_by, one_tag, sought_by, sought_in}
use Rattle.rasn_types.specs.Readings.{IsNoDefault, IsMissing}
use Rattle.rasn_types.specs.Trees.{option_tree}
use Rattle.rasn_de.specs.declared.ber.de.parser.ParseError.TheVariants.{Der, OutOfMemory}
use Rattle.rasn_de.specs.State.{State}
use Rattle.rasn_de.specs.Steps.{IsErrorOf}
use Rattle.rasn_de.specs.Outcomes.{Got, refusal, outcome}
use Rattle.rasn_de.specs.Decodes.{Decodes, DecodesExactly}
use Rattle.rasn_de.specs.Optional.{NextIs, DecodesIfSought, DecodesSoughtOrDefault, no_look, no_default, no_read, present}
use Rattle.rasn_de.specs.PartTypes.{FailsAtOnePart}
use Rattle.rasn_de.proofs.Constructed.Steps.{rules_same}
use Rattle.rasn_de.proofs.Leaves.Outcomes.{alloc_failed}
use Rattle.rasn_de.proofs.Headers.Ends.{IsEnd-refl}
use Rattle.rasn_de.proofs.Constructed.Optional.{sought_decodes, sought_default_decodes}
use Rattle.rasn_de.proofs.OwnTypes.Parts.{OnePart, call_keeps}
use Rattle.rasn_schema.specs.declared.types.Presence.{Presence as PartPresence}
use Rattle.rasn_schema.specs.declared.types.Presence.TheVariants.{Required, Optional, Addition, Default}
use Rattle.rasn_schema.specs.declared.value.Value.{Value}
use Rattle.rasn_schema.specs.Trees.{tree_of}
use Rattle.rasn_schema.specs.Shapes.{presence_by, presence_of}
use Rattle.rasn_schema.specs.FirstTags.{IsAlwaysThere}
use Rattle.rasn_dynamic.specs.Inside.{DecodesTree, DecodesComponent}
use Rattle.rasn_dynamic.specs.Making.{Making}
use Rattle.rasn_dynamic.specs.Calls.{is_required, IsDefaultOf, HasDefault, IsMade, DecodesPresent}

abbrev itself : Tree → Tree
itself t = t

-- the value of a default
abbrev Made : Tree → Result Tree AllocError → Type 0
Made d r = IfOk r (λ t. t ≡ d)

ran_out : (s : State) (x : DecodeError) → IsErrorOf OutOfMemory s x → IsOutOfMemory x.kind
ran_out s x w = subst (λ (z : DecodeError). IsOutOfMemory z.kind) (sym w) refl

module _ (s : Shape) (old : State) where
  abbrev Read : Result Tree DecodeError → State → Type 0
  Read r n = Decodes s itself old r n

  perhaps : (key : Key) (r : Result (Option Tree) DecodeError) (new : State) → DecodesIfSought (Decodes s itself) (sought_by key s) old r new
      → DecodesExactly (OnePart (optional_by key) s) old (outcome (option_tree itself) r new.rest) new
  perhaps key r new k = sought_decodes s itself (sought_by key s) old r new k

  defaulted : (key : Key) (d : Tree) (r : Result Tree DecodeError) (new : State) → DecodesSoughtOrDefault (Decodes s itself) itself (Made d) (sought_by key s) old r new
      → DecodesExactly (OnePart (default_by key d) s) old (outcome itself r new.rest) new
  defaulted key d r new k = sought_default_decodes key s itself (Made d) (sought_by key s) old r new k d (λ t m. m)

  -- The component is always there.
  pub always : (p : Presence) → IsAlwaysThere p → (r : Result Tree DecodeError) (new : State) → DecodesPresent p s old r new → DecodesExactly (OnePart p s) old (outcome itself r new.rest) new
  always required a (Ok v) new k = k.0
  always required a (Err x) new (inl k) = k
  always required a (Err x) new (inr (v, k, st, n, w)) = absurd n
  always addition a (Ok v) new k = k.0
  always addition a (Err x) new (inl k) = k
  always addition a (Err x) new (inr (v, k, st, n, w)) = absurd n
  always (optional_by key) a r new k = absurd a
  always (default_by key d) a r new k = absurd a

  -- It is there.
  pub looked : (p : Presence) → (IsAlwaysThere p → ⊥) → NextIs (sought_in p s) old (Ok true) → (r : Result Tree DecodeError) (new : State) → DecodesPresent p s old r new → DecodesExactly (OnePart p s) old (outcome itself r new.rest) new
  looked required a l r new k = absurd (a tt)
  looked addition a l r new k = absurd (a tt)
  looked (optional_by key) a l (Ok v) new k = perhaps key (Ok (Some v)) new (l, k.0)
  looked (optional_by key) a l (Err x) new (inl k) = perhaps key (Err x) new (inr (l, k))
  looked (optional_by key) a l (Err x) new (inr (v, k, st, n, w)) = absurd n
  looked (default_by key d) a l (Ok v) new k = defaulted key d (Ok v) new (inr (l, k.0, λ strict. (d, refl, k.1 strict)))
  looked (default_by key d) a l (Err x) new (inl k) = defaulted key d (Err x) new (no_read l k)
  looked (default_by key d) a l (Err x) new (inr (v, k, st, n, w)) = defaulted key d (Err x) new (present l v k st d refl n w)

  -- It is absent.
  left : (p : Presence) → (IsAlwaysThere p → ⊥) → NextIs (sought_in p s) old (Ok false) → (v : Tree) → IsMissing p v → DecodesExactly (OnePart p s) old (Got v old.rest) old
  left required a l v m = absurd (a tt)
  left addition a l v m = absurd (a tt)
  left (optional_by key) a l v m = subst (λ t. DecodesExactly (OnePart (optional_by key) s) old (Got t old.rest) old) (sym m) (perhaps key (Ok None) old (l, refl))
  left (default_by key d) a l v m = defaulted key d (Ok v) old (inl (l, m, refl))

  unmade : (p : Presence) (x : DecodeError) → IsOutOfMemory x.kind → DecodesExactly (OnePart p s) old (refusal x.kind) old
  unmade p x m = alloc_failed (OnePart p s) itself old old x m refl (IsEnd-refl old.rest)

  -- the tree of a component that is absent
  missing : (p : Presence) → (IsAlwaysThere p → ⊥) → (t : Tree) × IsMissing p t
  missing required a = absurd (a tt)
  missing addition a = absurd (a tt)
  missing (optional_by key) a = (absent, refl)
  missing (default_by key d) a = (d, refl)

  one_missing : (p : Presence) (t u : Tree) → IsMissing p t → IsMissing p u → t ≡ u
  one_missing required t u m n = absurd m
  one_missing addition t u m n = m ∙ sym n
  one_missing (optional_by key) t u m n = m ∙ sym n
  one_missing (default_by key d) t u m n = m ∙ sym n

  pub made : (keep : Bool) (p : Presence) → (IsAlwaysThere p → ⊥) → NextIs (sought_in p s) old (Ok false) → (r : Result Value DecodeError) → IsMade keep p old r → Making keep tree_of (DecodesComponent p s) old r old
  made keep p a l (Ok v) m = let t = missing p a in (t.0, (λ k. one_missing p (tree_of v) t.0 (m k) t.1), left p a l t.0 t.1)
  made keep p a l (Err x) (h, w) = unmade p x (ran_out old x w)

  -- The next tag is refused.
  pub unread : (p : Presence) → (IsAlwaysThere p → ⊥) → (x : DecodeError) → NextIs (sought_in p s) old (Err x) → DecodesExactly (OnePart p s) old (refusal x.kind) old
  unread required a x k = absurd (a tt)
  unread addition a x k = absurd (a tt)
  unread (optional_by key) a x k = perhaps key (Err x) old (inl (k, refl))
  unread (default_by key d) a x k = defaulted key d (Err x) old (no_look k refl)

  -- ---- why a component isn't read

  always_there : (p : Presence) → IsAlwaysThere p → (x : DecodeError) (new : State) → DecodesPresent p s old (Err x) new → FailsAtOnePart p s old x new
  always_there required a x new (inl k) = k
  always_there required a x new (inr (v, k, st, n, w)) = absurd n
  always_there addition a x new (inl k) = k
  always_there addition a x new (inr (v, k, st, n, w)) = absurd n
  always_there (optional_by key) a x new k = absurd a
  always_there (default_by key d) a x new k = absurd a

  pub always_fails : (p : Presence) → IsAlwaysThere p → (r : Result Tree DecodeError) (new : State) → DecodesPresent p s old r new → IfErr r (λ x. FailsAtOnePart p s old x new)
  always_fails p a (Ok v) new k = tt
  always_fails p a (Err x) new k = always_there p a x new k

  looked_there : (p : Presence) → (IsAlwaysThere p → ⊥) → NextIs (sought_in p s) old (Ok true) → (x : DecodeError) (new : State) → DecodesPresent p s old (Err x) new → FailsAtOnePart p s old x new
  looked_there required a l x new k = absurd (a tt)
  looked_there addition a l x new k = absurd (a tt)
  looked_there (optional_by key) a l x new (inl k) = inr (l, k)
  looked_there (optional_by key) a l x new (inr (v, k, st, n, w)) = absurd n
  looked_there (default_by key d) a l x new (inl k) = no_read l k
  looked_there (default_by key d) a l x new (inr (v, k, st, n, w)) = present l v k st d refl n w

  pub looked_fails : (p : Presence) → (IsAlwaysThere p → ⊥) → NextIs (sought_in p s) old (Ok true) → (r : Result Tree DecodeError) (new : State) → DecodesPresent p s old r new → IfErr r (λ x. FailsAtOnePart p s old x new)
  looked_fails p a l (Ok v) new k = tt
  looked_fails p a l (Err x) new k = looked_there p a l x new k

  not_made : (p : Presence) → (IsAlwaysThere p → ⊥) → NextIs (sought_in p s) old (Ok false) → (x : DecodeError) → HasDefault p × IsErrorOf OutOfMemory old x → FailsAtOnePart p s old x old
  not_made required a l x (h, w) = absurd h
  not_made addition a l x (h, w) = absurd h
  not_made (optional_by key) a l x (h, w) = absurd h
  not_made (default_by key d) a l x (h, w) = no_default l (record {}, tt, w) refl

  pub made_fails : (keep : Bool) (p : Presence) → (IsAlwaysThere p → ⊥) → NextIs (sought_in p s) old (Ok false) → (r : Result Value DecodeError) → IsMade keep p old r → IfErr r (λ x. FailsAtOnePart p s old x old)
  made_fails keep p a l (Ok v) k = tt
  made_fails keep p a l (Err x) k = not_made p a l x k

  pub unread_fails : (p : Presence) → (IsAlwaysThere p → ⊥) → (x : DecodeError) → NextIs (sought_in p s) old (Err x) → FailsAtOnePart p s old x old
  unread_fails required a x k = absurd (a tt)
  unread_fails addition a x k = absurd (a tt)
  unread_fails (optional_by key) a x k = inl (k, refl)
  unread_fails (default_by key d) a x k = no_look k refl

-- A component without a default is read as its shape.
pub plain : (key : Key) (s : Shape) (q : PartPresence) (old new : State) → ((v : Value) → q ≡ Default v → ⊥) → (r : Result Tree DecodeError) → DecodesTree s old r new → DecodesPresent (presence_by key q) s old r new
plain key s Required old new n (Ok v) k = (k, λ strict. tt)
plain key s Optional old new n (Ok v) k = (k, λ strict. tt)
plain key s Addition old new n (Ok v) k = (k, λ strict. tt)
plain key s (Default d) old new n (Ok v) k = absurd (n d refl)
plain key s q old new n (Err e) k = inl k

-- What is asked of a component with a default.
module _ (key : Key) (s : Shape) (q : PartPresence) (d : Value) (e : q ≡ Default d) (old new : State) (t : Tree) (k : DecodesTree s old (Ok t) new) where
  pub differs : (Same t (tree_of d) → ⊥) → DecodesPresent (presence_by key q) s old (Ok t) new
  differs n = (k, λ strict. subst (λ z. IsNoDefault (presence_by key z) t) (sym e) n)

  pub default_is_written : IsStrict old.rule → Same t (tree_of d) → (x : DecodeError) → IsErrorOf (Der DefaultValuePresent) new x → DecodesPresent (presence_by key q) s old (Err x) new
  default_is_written st n x w =
      let a = call_keeps k in
      inr (t, k, st, subst (λ z. IsDefaultOf (presence_by key z) t) (sym e) n, rules_same old new (Der DefaultValuePresent) x a w)

-- Where the rules aren't strict, a default may be written.
pub loose : (key : Key) (s : Shape) (q : PartPresence) (old new : State) → (IsStrict old.rule → ⊥) → (r : Result Tree DecodeError) → DecodesTree s old r new → DecodesPresent (presence_by key q) s old r new
loose key s q old new n (Ok t) k = (k, λ strict. absurd (n strict))
loose key s q old new n (Err e) k = inl k

pub not_required : (q : PartPresence) → (IsAlwaysThere (presence_of q) → ⊥) → is_required q ≡ false
not_required Required n = absurd (n tt)
not_required Optional n = refl
not_required Addition n = refl
not_required (Default v) n = refl

-- What a component is recognized by is the key of its shape, whatever it is if it is absent.
pub next_of : (key : Key) (s : Shape) (q : PartPresence) (old : State) (r : Result Bool DecodeError) → (IsAlwaysThere (presence_of q) → ⊥) → NextIs (sought_by key s) old r
    → NextIs (sought_in (presence_by key q) s) old r
next_of key s Required old r n k = absurd (n tt)
next_of key s Optional old r n k = k
next_of key s Addition old r n k = absurd (n tt)
next_of key s (Default v) old r n k = k

-- A shape that isn't recognized by its first tags is by its own.
pub next_by_own : (key : Key) (s : Shape) (tag : Tag) (old : State) (r : Result Bool DecodeError) → (key ≡ first_tags → ⊥) → own s ≡ looked_for tag → NextIs (one_tag (looked_for tag)) old r → NextIs (sought_by key s) old r
next_by_own own_tag s tag old r n e k = subst (λ o. NextIs (one_tag o) old r) (sym e) k
next_by_own first_tags s tag old r n e k = absurd (n refl)

pub made_of : (keep : Bool) (key : Key) (q : PartPresence) (old : State) (r : Result Value DecodeError) → IsMade keep (presence_of q) old r → IsMade keep (presence_by key q) old r
made_of keep key Required old r m = m
made_of keep key Optional old r m = m
made_of keep key Addition old r m = m
made_of keep key (Default v) old r m = m
