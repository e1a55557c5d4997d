-- The octets of a schema, and what is wrong with octets, worked out by hand.
use Rattle.std.proofs.Common.{◌≡◌, inl, inr, ℕ, pos, List, [], ◌∷◌, ◌++◌, length, true, None, refl, sym, subst, ap, arith}
use Rattle.rasn_types.specs.declared.types.codec.Codec.TheVariants.{Der}
use Rattle.rasn_types.specs.declared.types.tag.Class.TheVariants.{Universal, Context}
use Rattle.rasn_types.specs.Bytes.{Bytes, fields_of}
use Rattle.rasn_types.specs.Carried.{IsWithinLimits}
use Rattle.rasn_types.specs.Contents.{joined_lists}
use Rattle.rasn_types.specs.Framing.{SpellsAnyIdentifier}
use Rattle.rasn_types.specs.Tags.{in_universal}
use Rattle.rasn_types.specs.Shapes.{Tree, number, items, absent}
use Rattle.rasn_types.specs.Trees.{unsigned_range}
use Rattle.rasn.proofs.ReadBack.Headers.{short_written, tag_written}
use Rattle.rasn.proofs.ReadBack.Taken.{none_taken}
use Rattle.rasn.proofs.Worked.Values.{integer_written}
use Rattle.rasn_schema.specs.declared.schema.Schema.{Schema}
use Rattle.rasn_schema.specs.declared.types.«Type».TheVariants.{Any, Unknown}
use Rattle.rasn_schema_octets.specs.Octets.{IsSchemaOctets, schema_tree}
use Rattle.rasn_schema_octets.specs.Shallow.{Every, IsShallowType}
use Rattle.rasn_schema_octets.specs.Shapes.{context, tag_shape, list_of, type_shape, octets_parts, octets_shape}
use Rattle.rasn_schema_octets.specs.Trees.{index_tree, tag_tree, type_tree, octets_tree}
use Rattle.rasn_schema_octets.specs.Worked.{first, one_open_type, Worked}

tag_is_written : Bytes Der tag_shape (tag_tree (context 0)) (130 ∷ 1 ∷ 0 ∷ [])
unfolding Bytes fields_of
tag_is_written = inr (inr (inl (number (pos 0), refl, integer_written Der Context 2 (unsigned_range 32) 0 (omega arith) (omega arith) refl (omega arith, omega arith))))

type_is_written : Bytes Der type_shape (type_tree (Any (context 0))) (162 ∷ 3 ∷ 130 ∷ 1 ∷ 0 ∷ [])
unfolding Bytes fields_of
type_is_written = inr (inr (inl (tag_tree (context 0), refl, (130 ∷ 1 ∷ 0 ∷ [], tag_is_written, tag_written Context 2 true (130 ∷ 1 ∷ 0 ∷ []) (omega arith) (omega arith)))))

types_written : Bytes Der (list_of type_shape) (items (type_tree (Any (context 0)) ∷ [])) (48 ∷ 5 ∷ 162 ∷ 3 ∷ 130 ∷ 1 ∷ 0 ∷ [])
unfolding Bytes fields_of
types_written = (
  type_tree (Any (context 0)) ∷ [],
  (162 ∷ 3 ∷ 130 ∷ 1 ∷ 0 ∷ []) ∷ [],
  refl,
  tt,
  (162 ∷ 3 ∷ 130 ∷ 1 ∷ 0 ∷ [], [], refl, type_is_written, refl),
  short_written 16 true (162 ∷ 3 ∷ 130 ∷ 1 ∷ 0 ∷ []) (omega arith) (omega arith),
)

whole_written : Bytes Der octets_shape (octets_tree 1 0 0 None (Any (context 0) ∷ [])) one_open_type
unfolding Bytes fields_of
whole_written = (
  index_tree 1 ∷ index_tree 0 ∷ index_tree 0 ∷ absent ∷ items (type_tree (Any (context 0)) ∷ []) ∷ [],
  (2 ∷ 1 ∷ 1 ∷ []) ∷ (2 ∷ 1 ∷ 0 ∷ []) ∷ (2 ∷ 1 ∷ 0 ∷ []) ∷ [] ∷ (48 ∷ 5 ∷ 162 ∷ 3 ∷ 130 ∷ 1 ∷ 0 ∷ []) ∷ [],
  refl,
  (
    _,
    _,
    _,
    _,
    refl,
    refl,
    integer_written Der Universal 2 (unsigned_range 32) 1 (omega arith) (omega arith) refl (omega arith, omega arith),
    (
      _,
      _,
      _,
      _,
      refl,
      refl,
      integer_written Der Universal 2 (unsigned_range 64) 0 (omega arith) (omega arith) refl (omega arith, omega arith),
      (
        _,
        _,
        _,
        _,
        refl,
        refl,
        integer_written Der Universal 2 (unsigned_range 64) 0 (omega arith) (omega arith) refl (omega arith, omega arith),
        (
          _,
          _,
          _,
          _,
          refl,
          refl,
          inl (refl, refl),
          (_, _, _, _, refl, refl, types_written, (refl, refl)),
        ),
      ),
    ),
  ),
  short_written 16 true (2 ∷ 1 ∷ 1 ∷ 2 ∷ 1 ∷ 0 ∷ 2 ∷ 1 ∷ 0 ∷ 48 ∷ 5 ∷ 162 ∷ 3 ∷ 130 ∷ 1 ∷ 0 ∷ []) (omega arith) (omega arith),
)

written : (s : Schema) → s.types.items ≡ Any (context 0) ∷ [] → s.names ≡ None → IsSchemaOctets s first 0 one_open_type
written s t n =
    subst (λ ts. Bytes Der octets_shape (octets_tree 1 0 0 s.names ts) one_open_type) (sym t)
    (subst (λ ns. Bytes Der octets_shape (octets_tree 1 0 0 ns (Any (context 0) ∷ [])) one_open_type) (sym n) whole_written)

no_octets : (t : Tree) → Bytes Der octets_shape t [] → ⊥
unfolding Bytes fields_of
no_octets t (ts, bs, e, w, f) = some f.id f.id_spells f.is
  where
    some : (id : List ℕ) → SpellsAnyIdentifier id (in_universal 16) true → [] ≡ id ++ (f.len ++ joined_lists bs) → ⊥
    some [] s q = absurd s
    some (x ∷ id) s q = cc

type_within : IsWithinLimits Der type_shape 125 (type_tree (Any (context 0)))
unfolding IsWithinLimits
type_within = inr (inr (inl (tag_tree (context 0), refl, (omega arith, inr (inr (inl (number (pos 0), refl, tt)))))))

whole_within : IsWithinLimits Der octets_shape 128 (octets_tree 1 0 0 None (Any (context 0) ∷ []))
unfolding IsWithinLimits
whole_within = (
  omega arith,
  index_tree 1 ∷ index_tree 0 ∷ index_tree 0 ∷ absent ∷ items (type_tree (Any (context 0)) ∷ []) ∷ [],
  refl,
  (
    _,
    _,
    refl,
    tt,
    (_, _, refl, tt, (_, _, refl, tt, (_, _, refl, inl refl, (_, _, refl, (omega arith, type_tree (Any (context 0)) ∷ [], refl, (type_within, tt)), refl)))),
  ),
  none_taken Der octets_parts (index_tree 1 ∷ index_tree 0 ∷ index_tree 0 ∷ absent ∷ items (type_tree (Any (context 0)) ∷ []) ∷ []) refl,
)

limits : (s : Schema) → s.types.items ≡ Any (context 0) ∷ [] → s.names ≡ None → IsWithinLimits Der octets_shape 128 (schema_tree s first 0)
limits s t n =
    subst (λ ts. IsWithinLimits Der octets_shape 128 (octets_tree 1 0 0 s.names ts)) (sym t)
    (subst (λ ns. IsWithinLimits Der octets_shape 128 (octets_tree 1 0 0 ns (Any (context 0) ∷ []))) (sym n) whole_within)

pub worked : Worked
worked = record {
  written = written;
  not_nothing = λ s root unchecked. no_octets (schema_tree s root unchecked);
  is_of_a_schema = λ s t n h. h s first 0 (omega (arith, ap length t)) (subst (Every IsShallowType) (sym t) (tt, tt)) (limits s t n) (written s t n);
  second_version = ((λ e. cc), (0, 0, absent, [], refl));
  not_first_version = λ t h. h.0 refl;
  second_of_one = (omega arith, (0, absent, type_tree Unknown ∷ [], refl, refl));
  not_first_of_one = λ t h. omega (arith, h.0);
}
