-- The errors of calls name the rules of their decoder.
use Rattle.std.proofs.Common.{◌≡◌, ◌≢◌, ◌⊎◌, inl, inr, ℕ, ℤ, Bool, List, [], Option, Result, Ok, Err, ap, ◌∙◌}
use Rattle.std.specs.Prelude.{IfErr}
use Rattle.std.specs.declared.alloc.AllocError.{AllocError}
use Rattle.rasn_types.specs.declared.types.codec.Codec.{Codec}
use Rattle.rasn_types.specs.declared.types.tag.Tag.{Tag}
use Rattle.rasn_types.specs.declared.types.any.Any.{Any}
use Rattle.rasn_types.specs.declared.types.constraints.Constraints.{Constraints}
use Rattle.rasn_types.specs.declared.error.decode.DecodeError.{DecodeError}
use Rattle.rasn_types.specs.declared.error.decode.DecodeErrorKind.{DecodeErrorKind}
use Rattle.rasn_types.specs.Shapes.{Tree, Sought}
use Rattle.rasn_types.specs.Readings.{Reading}
use Rattle.rasn_de.specs.State.{State}
use Rattle.rasn_de.specs.Outcomes.{Outcome}
use Rattle.rasn_de.specs.Decodes.{DecodesExactly}
use Rattle.rasn_de.specs.Steps.{PeeksTag}
use Rattle.rasn_de.specs.Leaves.{Readings, DecodesLeaf, DecodesInteger}
use Rattle.rasn_de.specs.BitString.{DecodesBitString}
use Rattle.rasn_de.specs.CharacterString.{StringCheck, DecodesString, DecodesOctetString}
use Rattle.rasn_de.specs.ObjectIdentifier.{DecodesObjectIdentifier}
use Rattle.rasn_de.specs.Time.{IsInvalidDate, IsAllocError, DecodesTime}
use Rattle.rasn_de.specs.OctetString.{IsPrimitive}
use Rattle.rasn_de.specs.Any.{DecodesOpenType}
use Rattle.rasn_de.specs.Set.{PeeksInOrder}
use Rattle.rasn_de.specs.Optional.{NextIs, MakesValue}

-- what an error is tells its rules
pub codec_is : {kind : DecodeErrorKind} {rule : Codec} {e : DecodeError} → e ≡ record { kind = kind; codec = rule } → e.codec ≡ rule
codec_is k = ap (λ (x : DecodeError). x.codec) k

-- What a call leaves has the same rules.
pub same_rules : {here new : State} → new ≡ here → new.rule ≡ here.rule
same_rules s = ap (λ (x : State). x.rule) s

-- The error of a call that follows one that has read.
pub after : {R : Codec → ℕ → Bool → Reading Tree} {o : Outcome} {old here : State} {rule : Codec} → DecodesExactly R old o here → rule ≡ here.rule → rule ≡ old.rule
after a k = k ∙ same_rules a.stays

pub leaf_rules : {X Y : Type 0} (see : X → Y) (Is : Readings Y) (old new : State) (r : Result X DecodeError) → DecodesLeaf see Is old r new → IfErr r (λ e. e.codec ≡ old.rule)
leaf_rules see Is old new (Ok v) k = tt
leaf_rules see Is old new (Err e) k = k.3

pub integer_rules : {X : Type 0} (see : X → ℤ) (Takes : ℤ → Type 0) (tag : Tag) (Is : Readings ℤ) (old new : State) (r : Result X DecodeError) → DecodesInteger see Takes tag Is old r new → IfErr r (λ e. e.codec ≡ old.rule)
integer_rules see Takes tag Is old new (Ok v) k = tt
integer_rules see Takes tag Is old new (Err e) (inl k) = k.1
integer_rules see Takes tag Is old new (Err e) (inr k) = k.3

pub object_rules : (tag : Tag) (old new : State) (r : Result (List ℕ) DecodeError) → DecodesObjectIdentifier tag old r new → IfErr r (λ e. e.codec ≡ old.rule)
object_rules tag old new (Ok v) k = tt
object_rules tag old new (Err e) (inl k) = k.1
object_rules tag old new (Err e) (inr (n, k)) = k.3

pub bits_rules : (tag : Tag) (c : Constraints) (old new : State) (r : Result (List Bool) DecodeError) → DecodesBitString tag c old r new → IfErr r (λ e. e.codec ≡ old.rule)
bits_rules tag c old new (Ok v) k = tt
bits_rules tag c old new (Err e) (inl k) = k.1
bits_rules tag c old new (Err e) (inr (inl k)) = k.1
bits_rules tag c old new (Err e) (inr (inr (n, k))) = k.3

pub string_rules : {X : Type 0} (see : X → List ℕ) (Told : StringCheck) (tag : Tag) (old new : State) (r : Result X DecodeError) → DecodesString see Told tag old r new → IfErr r (λ e. e.codec ≡ old.rule)
string_rules see Told tag old new (Ok v) k = tt
string_rules see Told tag old new (Err e) (inl k) = k.1
string_rules see Told tag old new (Err e) (inr (inl k)) = k.1
string_rules see Told tag old new (Err e) (inr (inr (n, k))) = k.3

pub octets_rules : (tag : Tag) (c : Constraints) (old new : State) (e : DecodeError) → DecodesOctetString tag c old (Err e) new → e.codec ≡ old.rule
octets_rules tag c old new e (inl k) = k.1
octets_rules tag c old new e (inr (n, k)) = k.3

date_told : (text : List ℕ) (rule : Codec) (e : DecodeError) (P : Type 0) → IsInvalidDate text rule e ⊎ (IsAllocError rule e × P × (text ≢ [])) → e.codec ≡ rule
date_told text rule e P (inl k) = codec_is k.is
date_told text rule e P (inr k) = codec_is k.0

pub time_rules : {X : Type 0} (Means : List ℕ → X → Type 0) (tag : Tag) (old new : State) (r : Result X DecodeError) → DecodesTime Means tag old r new → IfErr r (λ e. e.codec ≡ old.rule)
time_rules Means tag old new (Ok v) k = tt
time_rules Means tag old new (Err e) (inl k) = codec_is k.1
time_rules Means tag old new (Err e) (inr (text, a, s, n, k)) = date_told text old.rule e (IsPrimitive old.rule tag old.rest) k

pub open_rules : (tag : Tag) (old new : State) (r : Result Any DecodeError) → DecodesOpenType tag old r new → IfErr r (λ e. e.codec ≡ old.rule)
open_rules tag old new (Ok v) k = tt
open_rules tag old new (Err e) (inl k, s) = k.1
open_rules tag old new (Err e) (inr k, s) = codec_is k.2

-- the look at the next tag, and a default that finds no memory
pub peek_rules : (s : State) (e : DecodeError) → PeeksTag s (Err e) → e.codec ≡ s.rule
peek_rules s e k = codec_is k.2

pub look_rules : (tags : Sought) (s : State) (e : DecodeError) → NextIs tags s (Err e) → e.codec ≡ s.rule
look_rules tags s e (l, d, k) = peek_rules s e k

pub order_rules : (last : Option Tag) (s : State) (e : DecodeError) → PeeksInOrder last s (Err e) → e.codec ≡ s.rule
order_rules last s e (h, inl k) = peek_rules s e k
order_rules last s e (h, inr k) = codec_is k.3

pub made_rules : {D : Type 0} (made : Result D AllocError → Type 0) (s : State) (r : Result D DecodeError) → MakesValue made s r → IfErr r (λ e. e.codec ≡ s.rule)
made_rules made s (Ok v) k = tt
made_rules made s (Err e) k = codec_is k.2
