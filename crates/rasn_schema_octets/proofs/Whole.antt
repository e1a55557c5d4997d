-- Whole schemas, as they are read and written.
use Rattle.std.proofs.Common.{◌≡◌, ◌⊎◌, inl, inr, ℕ, List, [], ◌∷◌, map, Option, Some, None, Result, Ok, Err, IfOk, IfErr, Vec, Global, refl, sym, ap, ◌∙◌, subst}
use Rattle.std.specs.Result.{IsErrAnd}
use Rattle.std.proofs.lemmas.Result.{err_from_is_err_and}
use Rattle.rasn_types.specs.declared.types.codec.Codec.TheVariants.{Der}
use Rattle.rasn_types.specs.declared.error.decode.DecodeError.{DecodeError}
use Rattle.rasn_types.specs.Bytes.{Bytes}
use Rattle.rasn_types.specs.Framing.{AreOctets}
use Rattle.rasn_types.specs.Lawful.{IsLawful}
use Rattle.rasn_types.specs.Shapes.{Tree, items, absent}
use Rattle.rasn_types.proofs.Lawful.{lawful}
use Rattle.rasn.specs.Headline.{AnsweredAlone}
use Rattle.rasn.proofs.WholeMessages.{carried_as_written}
use Rattle.rasn_schema.specs.declared.types.«Type».{«Type»}
use Rattle.rasn_schema.specs.declared.named.TypeName.{TypeName}
use Rattle.rasn_schema_octets.specs.declared.fault.Stop.{Stop}
use Rattle.rasn_schema_octets.specs.declared.fault.Stop.TheVariants.{OutOfMemory, Default}
use Rattle.rasn_schema_octets.specs.declared.fault.ReadFault.{ReadFault}
use Rattle.rasn_schema_octets.specs.declared.fault.ReadFault.TheVariants as fault
use Rattle.rasn_schema_octets.specs.declared.form.SchemaForm.{SchemaForm}
use Rattle.rasn_schema_octets.specs.declared.name.NameForm.{NameForm}
use Rattle.rasn_schema_octets.specs.Forms.{name_form_tree, names_form_tree, type_form_tree, schema_form_tree}
use Rattle.rasn_schema_octets.specs.Octets.{HasError, IsRead, IsWrongOr}
use Rattle.rasn_schema_octets.specs.Shallow.{Every, IsShallowType}
use Rattle.rasn_schema_octets.specs.Shapes.{octets_shape}
use Rattle.rasn_schema_octets.specs.Stops.{IsMemory, IsReadStop}
use Rattle.rasn_schema_octets.specs.Trees.{type_name_tree, names_tree, type_tree, octets_tree}
use Rattle.rasn_schema_octets.proofs.Said.{NoneAre, first, others, same_list, every_one}

pub octets_lawful : IsLawful octets_shape
octets_lawful = lawful octets_shape refl

-- What DER reads has these octets.
pub read_ok : (input : List ℕ) → AreOctets input → (r : Result SchemaForm DecodeError) → AnsweredAlone Der octets_shape schema_form_tree input r → IfOk r (λ f. IsRead input (schema_form_tree f))
read_ok input o (Ok f) a =
    let k = carried_as_written octets_shape refl schema_form_tree input o (Ok f) a in
    (a.0, subst (Bytes Der octets_shape (schema_form_tree f)) (sym k.1) k.0.is)
read_ok input o (Err e) a = tt

-- ---- names

items_present : (l : List Tree) → absent ≡ items l → ⊥
items_present [] e = cc
items_present (t ∷ l) e = cc

pub names_refused : {M : Type 0} (forms read : Vec NameForm Global) → read ≡ forms → M ⊎ NoneAre type_name_tree (λ n. Unit {0}) (map name_form_tree read.items)
    → M ⊎ ((made : Option (Vec TypeName Global)) → names_tree made ≡ names_form_tree (Some forms) → ⊥)
names_refused forms read e (inl m) = inl m
names_refused {M = M} forms read e (inr f) = inr none
  where
    none : (made : Option (Vec TypeName Global)) → names_tree made ≡ names_form_tree (Some forms) → ⊥
    none None k = items_present (map name_form_tree forms.items) k
    none (Some ns) k = f ns.items (every_one ns.items) (same_list (map type_name_tree ns.items) (map name_form_tree forms.items) k ∙ ap (λ v. map name_form_tree v.items) (sym e))

-- ---- why no schema is read

abbrev pub NoSchema : Tree → Type 0
NoSchema t = (root unchecked : ℕ) (names : Option (Vec TypeName Global)) (types : List «Type») → Every IsShallowType types → octets_tree 1 root unchecked names types ≡ t → ⊥

pub stop_is_wrong : {T : Type 0} (r : Result T ReadFault) (e : Stop) (t : Tree) → IsErrAnd r (IsReadStop e) → IsMemory e ⊎ NoSchema t → IfErr r (IsWrongOr t)
stop_is_wrong r e t h k = let p = err_from_is_err_and r h in subst (λ x. IfErr x (IsWrongOr t)) (sym p.1) (go e p.0 p.2 k)
  where
    go : (e : Stop) (f : ReadFault) → IsReadStop e f → IsMemory e ⊎ NoSchema t → IsWrongOr t f
    go OutOfMemory f i k = subst (IsWrongOr t) (sym i) tt
    go (Default id n) f i (inl m) = absurd m
    go (Default id n) f i (inr none) = subst (IsWrongOr t) (sym i) none

pub types_refused : {M : Type 0} (f : SchemaForm) → M ⊎ NoneAre type_tree IsShallowType (map type_form_tree f.types.items) → M ⊎ NoSchema (schema_form_tree f)
types_refused f (inl m) = inl m
types_refused f (inr k) = inr (λ root unchecked names types h e. k types h (same_list (map type_tree types) (map type_form_tree f.types.items) (ap (λ t. first (others (others (others (others t))))) e)))

pub whole_names_refused : {M : Type 0} (f : SchemaForm) → M ⊎ ((made : Option (Vec TypeName Global)) → names_tree made ≡ names_form_tree f.names → ⊥) → M ⊎ NoSchema (schema_form_tree f)
whole_names_refused f (inl m) = inl m
whole_names_refused f (inr k) = inr (λ root unchecked names types h e. k names (ap (λ t. first (others (others (others t)))) e))

-- ---- the error of octets that aren't read

pub has_error : (Is : DecodeError → Type 0) (e : DecodeError) → Is e → (f : ReadFault) → HasError (λ d. d ≡ e) f → HasError Is f
has_error Is e i fault.OutOfMemory k = tt
has_error Is e i (fault.Octets part offset d) k = subst Is (sym k) i
has_error Is e i (fault.Version v) k = tt
has_error Is e i (fault.NoRoot root n) k = tt
has_error Is e i (fault.Default id n) k = tt
has_error Is e i (fault.Rule r) k = tt

-- Where the value of the form is wrong, the octets are read.
pub no_error : (Is : DecodeError → Type 0) (t : Tree) (f : ReadFault) → IsWrongOr t f → HasError Is f
no_error Is t fault.OutOfMemory w = tt
no_error Is t (fault.Octets part offset d) w = absurd w
no_error Is t (fault.Version v) w = tt
no_error Is t (fault.NoRoot root n) w = tt
no_error Is t (fault.Default id n) w = tt
no_error Is t (fault.Rule r) w = tt

pub none_has : {T : Type 0} (Is : DecodeError → Type 0) (t : Tree) (r : Result T ReadFault) → IfErr r (IsWrongOr t) → IfErr r (HasError Is)
none_has Is t (Ok v) w = tt
none_has Is t (Err f) w = no_error Is t f w
