-- What the type of a line means: that of OptionalBool may be absent, and each other is a type of the schema.
use Rattle.std.proofs.Common.{◌≡◌, ◌≢◌, inl, inr, ℕ, zero, suc, List, [], Option, Some, None, Ok, Err, true, false, Bool, slice_get, refl, sym, subst}
use Rattle.rasn_types.specs.declared.types.codec.Codec.{Codec}
use Rattle.rasn_types.specs.declared.types.codec.Codec.TheVariants.{Der}
use Rattle.rasn_types.specs.declared.types.tag.Tag.{Tag}
use Rattle.rasn_types.specs.declared.error.decode.DecodeError.{DecodeError}
use Rattle.rasn_types.specs.declared.error.encode.EncodeError.{EncodeError}
use Rattle.rasn_types.specs.Tags.{Form, form, in_universal}
use Rattle.rasn_types.specs.Shapes.{Tree, absent, Sought, one_tag}
use Rattle.rasn_types.specs.Readings.{Reading, ReadsOptional, IsLeftOut, IsPresent}
use Rattle.rasn_types.specs.Grammar.{Reads, top}
use Rattle.rasn_types.specs.Bytes.{Bytes}
use Rattle.rasn_de.specs.State.{State}
use Rattle.rasn_de.specs.Outcomes.{Exact, Outcome, Got, Refused, AllocFailed, refusal}
use Rattle.rasn_de.proofs.Constructed.Optional.{apart, perhaps_decodes}
use Rattle.rasn.specs.Headline.{EncodingFails}
use Rattle.rasn_schema.specs.declared.value.Value.{Value, Absent}
use Rattle.rasn_schema.specs.declared.types.«Type».{«Type»}
use Rattle.rasn_schema.specs.declared.types.«Type».TheVariants.{Leaf, Enumerated, Any, Tagged, Choice, Sequence, Set, SequenceOf, SetOf, Unknown}
use Rattle.rasn_schema.specs.Trees.{tree_of}
use Rattle.rasn_dynamic.specs.Entry.{shape_of, IsNotEncoded}
use Rattle.rasn_dynamic.specs.declared.entry.WriteError.TheVariants.{Encode as Written}
use Rattle.rasn_schema.specs.Fitting.{Fits, FitsBy, FitsFound}
use Rattle.rasn_bench.specs.declared.line.ValueType.{ValueType}
use Rattle.rasn_bench.specs.declared.line.ValueType.TheVariants.{OptionalBool}
use Rattle.rasn_schema_vectors.specs.LineShapes.{type_number, line_shape, LooksAhead, FitsLine}

-- ---- an absent value fits no type

absent_fits_by : (g : ℕ → Value → Type 0) → ((k : ℕ) → g k Absent → ⊥) → (ty : «Type») → FitsBy g ty Absent → ⊥
absent_fits_by g none (Leaf kind tag c names) h = h
absent_fits_by g none (Enumerated tag ns) h = h
absent_fits_by g none (Any tag) h = h
absent_fits_by g none Unknown h = h
absent_fits_by g none (Tagged tag k) h = none k.0 h
absent_fits_by g none (Choice name ks) h = h
absent_fits_by g none (Sequence tag ps) h = h
absent_fits_by g none (Set name tag ps) h = h
absent_fits_by g none (SequenceOf tag k c) h = h
absent_fits_by g none (SetOf tag k c) h = h

absent_fits_found : (g : ℕ → Value → Type 0) → ((k : ℕ) → g k Absent → ⊥) → (o : Option «Type») → FitsFound g o Absent → ⊥
absent_fits_found g none None h = h
absent_fits_found g none (Some ty) h = absent_fits_by g none ty h

pub absent_fits : (types : List «Type») (levels k : ℕ) → Fits types levels k Absent → ⊥
unfolding Fits
absent_fits types zero k h = h
absent_fits types (suc levels) k h = absent_fits_found (λ j w. Fits types levels j w) (λ j. absent_fits types levels j) (slice_get types k) h

-- ---- what is read

module _ (spelling : Form) (tag : Sought) (R : Reading Tree) (closing : Bool) (input : List ℕ) where
  left_out : IsLeftOut spelling tag closing input → Exact (ReadsOptional spelling tag absent R closing) input (Got absent input)
  left_out a = (inl (a, refl, refl), only)
    where
      only : (u : Tree) (s : List ℕ) → ReadsOptional spelling tag absent R closing input u s → (u ≡ absent) × (s ≡ input)
      only u s (inl (b, e, f)) = (e, f)
      only u s (inr (t, k)) = absurd (apart spelling tag closing input a t)

  there : IsPresent spelling tag closing input → (o : Outcome) → Exact R input o → Exact (ReadsOptional spelling tag absent R closing) input o
  there t (Got v r) x = (inr (t, x.0), only)
    where
      only : (u : Tree) (s : List ℕ) → ReadsOptional spelling tag absent R closing input u s → (u ≡ v) × (s ≡ r)
      only u s (inl (b, e, f)) = absurd (apart spelling tag closing input b t)
      only u s (inr (b, k)) = x.1 u s k
  there t Refused x = none
    where
      none : (u : Tree) (s : List ℕ) → ReadsOptional spelling tag absent R closing input u s → ⊥
      none u s (inl (b, e, f)) = apart spelling tag closing input b t
      none u s (inr (b, k)) = x u s k
  there t AllocFailed x = tt

abbrev looking : Codec → List ℕ → State
looking rule input = record { rule = rule; depth = 128; closing = top rule; whole = input; rest = input }

module _ (types : List «Type») (rule : Codec) (input : List ℕ) where
  pub there_exact : (kind : ValueType) (o : Outcome) → LooksAhead rule kind input (Ok true) → Exact (Reads rule (shape_of types (type_number kind)) 128 (top rule)) input o
      → Exact (Reads rule (line_shape types kind) 128 (top rule)) input o
  unfolding Reads
  there_exact OptionalBool o t x = there (form rule) (one_tag (Some (in_universal 1))) (Reads rule (shape_of types (type_number OptionalBool)) 128 (top rule)) (top rule) input t o x
  there_exact _ o t x = x

  pub absent_exact : (kind : ValueType) → LooksAhead rule kind input (Ok false) → Exact (Reads rule (line_shape types kind) 128 (top rule)) input (Got absent input)
  unfolding Reads
  absent_exact OptionalBool a = left_out (form rule) (one_tag (Some (in_universal 1))) (Reads rule (shape_of types (type_number OptionalBool)) 128 (top rule)) (top rule) input a
  absent_exact _ a = cc

  pub unseen_exact : (kind : ValueType) (e : DecodeError) → LooksAhead rule kind input (Err e) → Exact (Reads rule (line_shape types kind) 128 (top rule)) input (refusal e.kind)
  unseen_exact OptionalBool e a = (perhaps_decodes {D = Value} (shape_of types (type_number OptionalBool)) tree_of (in_universal 1) (looking rule input) (Err e) (looking rule input) (inl (a, refl))).exact
  unseen_exact _ e a = absurd a

  pub absent_line : (kind : ValueType) → LooksAhead rule kind input (Ok false) → FitsLine types kind Absent
  absent_line OptionalBool a = inl (refl, refl)
  absent_line _ a = cc

-- ---- what is written

module _ (types : List «Type») where
  pub absent_bytes : (kind : ValueType) → FitsLine types kind Absent → Bytes Der (line_shape types kind) absent []
  unfolding Bytes
  absent_bytes kind (inl (e, f)) = subst (λ k. Bytes Der (line_shape types k) absent []) (sym e) (inl (refl, refl))
  absent_bytes kind (inr h) = absurd (absent_fits types 18446744073709551615 (type_number kind) h)

  pub there_bytes : (kind : ValueType) (t : Tree) (octets : List ℕ) → t ≢ absent → Bytes Der (shape_of types (type_number kind)) t octets → Bytes Der (line_shape types kind) t octets
  unfolding Bytes
  there_bytes OptionalBool t octets n b = inr (n, b)
  there_bytes _ t octets n b = b

  of_there : (kind : ValueType) (t : Tree) (octets : List ℕ) → t ≢ absent → Bytes Der (line_shape types kind) t octets → Bytes Der (shape_of types (type_number kind)) t octets
  unfolding Bytes
  of_there OptionalBool t octets n (inl a) = absurd (n a.0)
  of_there OptionalBool t octets n (inr b) = b.1
  of_there _ t octets n b = b

  pub there_fails : (kind : ValueType) (t : Tree) (e : EncodeError) → t ≢ absent → EncodingFails Der (shape_of types (type_number kind)) t e → EncodingFails Der (line_shape types kind) t e
  there_fails kind t e n (inl m) = inl m
  there_fails kind t e n (inr x) = inr (record { none = λ octets b. x.none octets (of_there kind t octets n b) })

pub written_fails : (types : List «Type») (k : ℕ) (v : Value) (e : EncodeError) → IsNotEncoded Der types k v (Written e) → EncodingFails Der (shape_of types k) (tree_of v) e
written_fails types k v e (inl m) = inl m
written_fails types k v e (inr p) = inr p.1
