-- What is required of a closure that writes the parts of a value, and what its call returns.
use Rattle.std.specs.Prelude.{◌≡◌, ◌⊎◌, ℕ, List, Result, Ok, Err, Bool, true, false}
use Rattle.std.specs.Fn.{FnOnceReturnsAtMut, Once}
use Rattle.std.specs.Borrow.{MutBor}
use Rattle.rasn_types.specs.Bytes.{ConstructedEncoding}
use Rattle.rasn_types.specs.declared.types.codec.Codec.{Codec}
use Rattle.rasn_types.specs.declared.types.tag.Tag.{Tag}
use Rattle.rasn_types.specs.declared.error.encode.EncodeError.{EncodeError}
use Rattle.rasn_enc.specs.View.{View, LeavesOthers, Extends, opened, started, AreTagsInOrder}
use Rattle.rasn_enc.specs.Primitive.{Appends, IsAllocError, IsOrderError}

-- A closure that takes an encoder.
abbrev pub EncodeClosure : Type 0 → Type 0 → Type 1
EncodeClosure F T = Once F (MutBor View × Unit {0}) (Result T EncodeError × (MutBor View × Unit {0}))

-- Whatever `f` returns, it leaves the rule and the lists below the last one as they are.
abbrev pub KeepsOtherLists : {F T : Type 0} → EncodeClosure F T → F → View → Type 0
KeepsOtherLists {F} {T} g f v = (r : Result T EncodeError) (w : View) → FnOnceReturnsAtMut g f v r w → LeavesOthers v w

-- Whatever `f` returns, it only appends to the last list.
abbrev pub OnlyAppends : {F T : Type 0} → EncodeClosure F T → F → View → Type 0
OnlyAppends {F} {T} g f v = (r : Result T EncodeError) (w : View) → FnOnceReturnsAtMut g f v r w → Extends v w

-- `f` may succeed and leave the view `w`.
abbrev pub MaySucceed : {F T : Type 0} → EncodeClosure F T → F → View → View → Type 0
MaySucceed {F} {T} g f v w = (x : T) × FnOnceReturnsAtMut g f v (Ok x) w

-- `f` may fail with `e`.
abbrev pub MayFail : {F T : Type 0} → EncodeClosure F T → F → View → EncodeError → Type 0
MayFail g f v e = (w : View) × FnOnceReturnsAtMut g f v (Err e) w

-- A constructed value of this tag is appended to the last list. Its contents are what `f` may write if it succeeds.
pub record AppendsEnclosed {F : Type 0} (g : EncodeClosure F (Unit {0})) (f : F) (keeps : Bool) (tag : Tag) (v w : View) : Type 0 where
  pub inner : View
  pub ran : FnOnceReturnsAtMut g f (opened v keeps) (Ok tt) inner
  pub appends : Appends (ConstructedEncoding v.rule tag inner.last.octets) tag v w

-- A constructed value of this tag is appended to the last list, and the outermost tags of what `f` wrote inside it are
-- in ascending order.
pub record AppendsEnclosedInOrder {F : Type 0} (g : EncodeClosure F (Unit {0})) (f : F) (tag : Tag) (v w : View) : Type 0 where
  pub inner : View
  pub ran : FnOnceReturnsAtMut g f (opened v true) (Ok tt) inner
  pub order : AreTagsInOrder inner
  pub appends : Appends (ConstructedEncoding v.rule tag inner.last.octets) tag v w

-- Why a constructed value isn't written: an allocation fails, or `f` fails.
abbrev pub FailsInside : {F : Type 0} → EncodeClosure F (Unit {0}) → F → Bool → View → EncodeError → Type 0
FailsInside g f keeps v e = IsAllocError v.rule e ⊎ MayFail g f (opened v keeps) e

-- The tags that the last list keeps are out of order.
abbrev pub FailsAtTags : View → EncodeError → Type 0
FailsAtTags v e = (AreTagsInOrder v → ⊥) × IsOrderError v.rule e

-- `f` may succeed, and the tags of what it wrote are out of order.
pub record FailsInTagOrder {F : Type 0} (g : EncodeClosure F (Unit {0})) (f : F) (v : View) (e : EncodeError) : Type 0 where
  pub inner : View
  pub ran : FnOnceReturnsAtMut g f (opened v true) (Ok tt) inner
  pub falls : AreTagsInOrder inner → ⊥
  pub told : IsOrderError v.rule e

-- Why a constructed value whose tags have to be in ascending order isn't written: an allocation fails, `f` fails, or
-- `f` succeeds and the tags are out of order.
abbrev pub FailsAtEnclosed : {F : Type 0} → EncodeClosure F (Unit {0}) → F → View → EncodeError → Type 0
FailsAtEnclosed g f v e = IsAllocError v.rule e ⊎ (MayFail g f (opened v true) e ⊎ FailsInTagOrder g f v e)

-- `f` may succeed and have written these octets to an output that was empty.
pub record WritesOutput {F T : Type 0} (g : EncodeClosure F T) (f : F) (rule : Codec) (octets : List ℕ) : Type 0 where
  pub inner : View
  pub ran : MaySucceed g f (started rule false) inner
  pub is : octets ≡ inner.last.octets
