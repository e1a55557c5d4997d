-- Octets of a schema within limits are read, unless memory runs out or the types break a rule.
use Rattle.std.proofs.Common.{◌≡◌, ◌⊎◌, inl, inr, ℕ, ◌<◌, ◌≤◌, List, [], ◌∷◌, ◌++◌, length, map, Option, Some, None, Vec, Global, refl, sym, ap, ◌∙◌, subst, arith}
use Rattle.std.proofs.lemmas.List.{length-map}
use Rattle.rasn_types.specs.declared.types.codec.Codec.TheVariants.{Der}
use Rattle.rasn_types.specs.declared.types.tag.Tag.{Tag}
use Rattle.rasn_types.specs.declared.types.constraints.Bounded.{Bounded}
use Rattle.rasn_types.specs.declared.types.constraints.Bounded.TheVariants.{None as Free, Single, Range}
use Rattle.rasn_types.specs.declared.types.constraints.Bound.{Bound}
use Rattle.rasn_types.specs.declared.types.constraints.Constraints.{Constraints}
use Rattle.rasn_types.specs.Carried.{IsWithinLimits}
use Rattle.rasn_types.specs.Grammar.{Reads, top}
use Rattle.rasn_types.specs.Shapes.{Tree, Same, number, bits, numbers, instant, on_day, done, joined, set_elements, chosen, absent, items}
use Rattle.rasn_types.specs.Trees.{option_tree, list_tree}
use Rattle.rasn.proofs.LawsHold.Written.{one_reading, read_again}
use Rattle.rasn_schema.specs.declared.schema.Schema.{Schema}
use Rattle.rasn_schema.specs.declared.type_id.TypeId.{TypeId}
use Rattle.rasn_schema.specs.declared.named.TypeName.{TypeName}
use Rattle.rasn_schema.specs.declared.types.LeafKind.{LeafKind}
use Rattle.rasn_schema.specs.declared.types.LeafKind.TheVariants.{Boolean as BooleanKind, Null as NullKind, ObjectIdentifier, BitString, NamedBits, OctetString, FixedOctetString, Integer as IntegerKind, Signed32, Signed64, Unsigned32, Unsigned64, Numeric, Printable, Visible, Ia5, AnyOctets, Bmp, Utf8, UtcTime, GeneralizedTime, Date, Universal, RelativeOid, Real, Time, Duration, TimeOfDay, DateTime}
use Rattle.rasn_schema.specs.declared.types.Component.{Component}
use Rattle.rasn_schema.specs.declared.types.Presence.{Presence}
use Rattle.rasn_schema.specs.declared.types.Presence.TheVariants.{Required, Optional, Addition, Default}
use Rattle.rasn_schema.specs.declared.types.«Type».{«Type»}
use Rattle.rasn_schema.specs.declared.types.«Type».TheVariants.{Leaf, Enumerated, Any, Tagged, Choice, Sequence, Set, SequenceOf, SetOf, Unknown}
use Rattle.rasn_schema.specs.declared.value.Value.{Value, Boolean, Null, Integer, Bits, Octets, Text, Units, Arcs, Instant, Day, Absent, Items', Elements', Chosen', Row_of-Value, end_of-Value, more_of-Value}
use Rattle.rasn_schema_octets.specs.declared.fault.ReadFault.{ReadFault}
use Rattle.rasn_schema_octets.specs.declared.fault.ReadFault.TheVariants.{OutOfMemory, Octets as BadOctets, Version, NoRoot, Default as SpoiltDefault, Rule}
use Rattle.rasn_schema_octets.specs.Kinds.{kind_tree}
use Rattle.rasn_schema_octets.specs.Defaults.{nodes_of, nodes_in}
use Rattle.rasn_schema_octets.specs.Octets.{schema_tree, IsSchemaOctets, IsRead, IsNoValue, IsUnread, IsWrong, IsReadFault, IsRefused, HasNoSchema, form_of}
use Rattle.rasn_schema_octets.specs.Shapes.{octets_shape}
use Rattle.rasn_schema_octets.specs.Trees.{index_tree, bound_tree, range_tree, constraints_tree, number_tree, alternative_tree, type_name_tree, presence_tree, component_tree, type_tree, names_tree}
use Rattle.rasn_schema_octets.proofs.Said.{first, others, same_list}
use Rattle.rasn_schema_octets.proofs.Whole.{octets_lawful}

-- ---- trees without set elements

abbrev SetFree : Tree → Type 0
SetFree (joined t ts) = SetFree t × SetFree ts
SetFree (set_elements ts) = ⊥
SetFree (chosen k t) = SetFree t
SetFree _ = Unit {0}

same_is : (t u : Tree) → SetFree t → Same t u → u ≡ t
same_is (number z) u f s = s
same_is (bits b) u f s = s
same_is (numbers l) u f s = s
same_is (instant m) u f s = s
same_is (on_day d) u f s = s
same_is done u f s = s
same_is (joined t ts) u f (v, vs, e, p, q) = e ∙ (ap (λ x. joined x vs) (same_is t v f.0 p) ∙ ap (joined t) (same_is ts vs f.1 q))
same_is (set_elements ts) u f s = absurd f
same_is (chosen k t) u f (v, e, p) = e ∙ ap (chosen k) (same_is t v f p)
same_is absent u f s = s

list_free : {T : Type 0} (f : T → Tree) → ((x : T) → SetFree (f x)) → (xs : List T) → SetFree (list_tree f xs)
list_free f h [] = tt
list_free f h (x ∷ xs) = (h x, list_free f h xs)

option_free : {T : Type 0} (f : T → Tree) → ((x : T) → SetFree (f x)) → (o : Option T) → SetFree (option_tree f o)
option_free f h None = tt
option_free f h (Some x) = h x

appended_free : (l m : List Tree) → SetFree (items l) → SetFree (items m) → SetFree (items (l ++ m))
appended_free [] m h k = k
appended_free (t ∷ l) m h k = (h.0, appended_free l m h.1 k)

mutual
  nodes_free : (v : Value) → SetFree (items (nodes_of v))
  nodes_free (Boolean b) = (tt, tt)
  nodes_free Null = (tt, tt)
  nodes_free (Integer n) = (tt, tt)
  nodes_free (Bits b) = (tt, tt)
  nodes_free (Octets o) = (tt, tt)
  nodes_free (Text s) = (tt, tt)
  nodes_free (Units u) = (tt, tt)
  nodes_free (Arcs a) = (tt, tt)
  nodes_free (Instant t) = (tt, tt)
  nodes_free (Day d) = (tt, tt)
  nodes_free (Items' _ row) = (tt, rows_free _ row)
  nodes_free (Elements' _ row) = (tt, rows_free _ row)
  nodes_free (Chosen' k _ v) = (tt, nodes_free v)
  nodes_free Absent = (tt, tt)

  rows_free : (n : _) (row : Row_of-Value n) → SetFree (items (nodes_in row))
  rows_free n end_of-Value = tt
  rows_free n (more_of-Value v rest) = appended_free (nodes_of v) (nodes_in rest) (nodes_free v) (rows_free _ rest)

kind_free : (k : LeafKind) → SetFree (kind_tree k)
kind_free BooleanKind = tt
kind_free NullKind = tt
kind_free ObjectIdentifier = tt
kind_free BitString = tt
kind_free NamedBits = tt
kind_free OctetString = tt
kind_free (FixedOctetString n) = tt
kind_free IntegerKind = tt
kind_free Signed32 = tt
kind_free Signed64 = tt
kind_free Unsigned32 = tt
kind_free Unsigned64 = tt
kind_free Numeric = tt
kind_free Printable = tt
kind_free Visible = tt
kind_free Ia5 = tt
kind_free AnyOctets = tt
kind_free Bmp = tt
kind_free Utf8 = tt
kind_free UtcTime = tt
kind_free GeneralizedTime = tt
kind_free Date = tt
kind_free Universal = tt
kind_free RelativeOid = tt
kind_free Real = tt
kind_free Time = tt
kind_free Duration = tt
kind_free TimeOfDay = tt
kind_free DateTime = tt

range_free : {T : Type 0} (f : T → Tree) → ((x : T) → SetFree (f x)) → (b : Bounded T) → SetFree (range_tree f b)
range_free f h Free = tt
range_free f h (Single x) = h x
range_free f h (Range start end) = (option_free f h start, (option_free f h end, tt))

bound_free : {T : Type 0} (f : T → Tree) → ((x : T) → SetFree (f x)) → (b : Bound T) → SetFree (bound_tree f b)
bound_free f h b = (tt, (range_free f h b.constraint, tt))

constraints_free : (c : Constraints) → SetFree (constraints_tree c)
constraints_free c = (option_free (bound_tree number) (bound_free number (λ z. tt)) c.value, (option_free (bound_tree index_tree) (bound_free index_tree (λ n. tt)) c.size, tt))

presence_free : (p : Presence) → SetFree (presence_tree p)
presence_free Required = tt
presence_free Optional = tt
presence_free Addition = tt
presence_free (Default v) = nodes_free v

component_free : (c : Component) → SetFree (component_tree c)
component_free c = (tt, (tt, (presence_free c.presence, tt)))

type_free : (ty : «Type») → SetFree (type_tree ty)
type_free (Leaf kind tag c names) = (kind_free kind, (tt, (constraints_free c, (list_free number_tree (λ n. (tt, (tt, tt))) names.items, tt))))
type_free (Enumerated tag ns) = (tt, (list_free number_tree (λ n. (tt, (tt, tt))) ns.items, tt))
type_free (Any tag) = tt
type_free (Tagged tag inner) = (tt, (tt, tt))
type_free (Choice name ks) = (tt, (list_free alternative_tree (λ a. (tt, (tt, tt))) ks.items, tt))
type_free (Sequence tag ps) = (tt, (list_free component_tree component_free ps.items, tt))
type_free (Set name tag ps) = (tt, (tt, (list_free component_tree component_free ps.items, tt)))
type_free (SequenceOf tag element c) = (tt, (tt, (constraints_free c, tt)))
type_free (SetOf tag element c) = (tt, (tt, (constraints_free c, tt)))
type_free Unknown = tt

schema_free : (s : Schema) (root : TypeId) (unchecked : ℕ) → SetFree (schema_tree s root unchecked)
schema_free s root unchecked = (tt, (tt, (tt, (option_free _ (λ (ns : Vec TypeName Global). list_free type_name_tree (λ n. (tt, (tt, tt))) ns.items) s.names, (list_free type_tree type_free s.types.items, tt)))))

-- ---- schemas that are read

-- DER reads octets of a schema within limits as what the schema says.
schema_read : (s : Schema) (root : TypeId) (unchecked : ℕ) (octets : List ℕ) → IsWithinLimits Der octets_shape 128 (schema_tree s root unchecked) → IsSchemaOctets s root unchecked octets
    → Reads Der octets_shape 128 (top Der) octets (schema_tree s root unchecked) []
schema_read s root unchecked octets w b =
    let r = read_again octets_shape octets_lawful Der (schema_tree s root unchecked) (record { octets = octets; is = b; within_limits = w }) in
    subst (λ t. Reads Der octets_shape 128 (top Der) octets t []) (same_is (schema_tree s root unchecked) r.0 (schema_free s root unchecked) r.1) r.2

one_tree : (octets : List ℕ) (t u : Tree) → Reads Der octets_shape 128 (top Der) octets t [] → Reads Der octets_shape 128 (top Der) octets u [] → t ≡ u
one_tree octets t u r q = (one_reading octets_shape octets_lawful Der 128 (top Der) octets t u [] [] r q).0

wrong_has_none : (octets : List ℕ) (t : Tree) (e : ReadFault) → IsRead octets t → IsWrong t e → IsRefused octets e
wrong_has_none octets t OutOfMemory r w = tt
wrong_has_none octets t (BadOctets part offset d) r w = absurd w
wrong_has_none octets t (Version v) r (n, (root, unchecked, names, types, e)) = λ s id u below shallow limits b.
    let k : schema_tree s id u ≡ form_of v root unchecked names types = one_tree octets _ _ (schema_read s id u octets limits b) r.0 ∙ e in
    n (let f = ap first k in cc)
wrong_has_none octets t (NoRoot root n) r (above, (unchecked, names, types, l, e)) = λ s id u below shallow limits b.
    let k : schema_tree s id u ≡ form_of 1 root.0 unchecked names types = one_tree octets _ _ (schema_read s id u octets limits b) r.0 ∙ e in
    let i : id.0 ≡ root.0 = (let f = ap (λ x. first (others x)) k in cc) in
    let m : length (map type_tree s.types.items) ≡ n = ap length (same_list (map type_tree s.types.items) types (ap (λ x. first (others (others (others (others x))))) k)) ∙ l in
    let c : length (map type_tree s.types.items) ≡ length s.types.items = length-map s.types.items type_tree in
    absurd (omega (arith, above, below, i, m, c))
wrong_has_none octets t (SpoiltDefault id i) r w = λ s root u below shallow limits b.
    w root.0 u s.names s.types.items shallow (one_tree octets _ _ (schema_read s root u octets limits b) r.0)
wrong_has_none octets t (Rule e) r w = tt

unread_has_none : (octets : List ℕ) → IsNoValue octets → HasNoSchema octets
unread_has_none octets none s root u below shallow limits b = none _ (schema_read s root u octets limits b)

pub fault_refuses : (octets : List ℕ) (e : ReadFault) → IsReadFault octets e → IsRefused octets e
fault_refuses octets OutOfMemory h = tt
fault_refuses octets (BadOctets part offset d) (inl u) = unread_has_none octets u.0
fault_refuses octets (BadOctets part offset d) (inr (t, r, w)) = absurd w
fault_refuses octets (Version v) (inl u) = unread_has_none octets u.0
fault_refuses octets (Version v) (inr (t, r, w)) = wrong_has_none octets t (Version v) r w
fault_refuses octets (NoRoot root n) (inl u) = absurd u
fault_refuses octets (NoRoot root n) (inr (t, r, w)) = wrong_has_none octets t (NoRoot root n) r w
fault_refuses octets (SpoiltDefault id i) (inl u) = absurd u
fault_refuses octets (SpoiltDefault id i) (inr (t, r, w)) = wrong_has_none octets t (SpoiltDefault id i) r w
fault_refuses octets (Rule e) h = tt
