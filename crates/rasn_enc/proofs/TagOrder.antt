-- The order of tags that sorts them is that of X.680 8.6.
use Rattle.std.proofs.Common.{◌≡◌, ℕ, Bool, true, false, ◌||◌, ◌&&◌, if◌then◌else◌, nat_lt, nat_eq, refl}
use Rattle.std.specs.Ordering.{is_lt, nat_cmp}
use Rattle.std.specs.declared.cmp.Ordering.{Ordering}
use Rattle.std.specs.declared.cmp.Ordering.TheVariants.{Less, Equal, Greater}
use Rattle.rasn_types.specs.Tags.{rank}
use Rattle.rasn_types.specs.LawfulTest.{is_tag_below}
use Rattle.rasn_types.specs.declared.types.tag.Tag.{Tag}
use Rattle.rasn_types.specs.declared.types.tag.Class.{Class}
use Rattle.rasn_types.specs.declared.types.tag.Class.TheVariants.{Universal, Application, Context, Private}
use Rattle.rasn_types.specs.contracts.types.tag.TagOrd.TheImpl as tag_ord

abbrev pub tag_cmp : Tag → Tag → Ordering
tag_cmp = (tag_ord.ghosts).cmp

less_is : (b e : Bool) → is_lt (if b then Less else (if e then Equal else Greater)) ≡ b
less_is true e = refl
less_is false true = refl
less_is false false = refl

less : (m n : ℕ) → is_lt (nat_cmp m n) ≡ nat_lt m n
less m n = less_is (nat_lt m n) (nat_eq m n)

by_class : (c d : Class) (m n : ℕ) → is_lt (tag_cmp (record { class = c; value = m }) (record { class = d; value = n })) ≡ (nat_lt (rank c) (rank d) || (nat_eq (rank c) (rank d) && nat_lt m n))
by_class Universal Universal m n = less m n
by_class Universal Application m n = refl
by_class Universal Context m n = refl
by_class Universal Private m n = refl
by_class Application Universal m n = refl
by_class Application Application m n = less m n
by_class Application Context m n = refl
by_class Application Private m n = refl
by_class Context Universal m n = refl
by_class Context Application m n = refl
by_class Context Context m n = less m n
by_class Context Private m n = refl
by_class Private Universal m n = refl
by_class Private Application m n = refl
by_class Private Context m n = refl
by_class Private Private m n = less m n

pub same_order : (s t : Tag) → is_lt (tag_cmp s t) ≡ is_tag_below s t
same_order s t = by_class s.class t.class s.value t.value
