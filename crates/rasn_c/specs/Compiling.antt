-- The schema of a type of modules.
use Rattle.std.specs.Prelude.{◌≡◌, ◌⊎◌, ◌++◌, ◌<◌, ℕ, List, map, length, slice_get, Option, Some, None, Vec, codes, All, Contains, IsUtf8}
use Rattle.std.specs.Global.{Global}
use Rattle.rasn_schema.specs.declared.schema.Schema.{Schema}
use Rattle.rasn_schema.specs.declared.type_id.TypeId.{TypeId}
use Rattle.rasn_schema.specs.declared.named.TypeName.{TypeName}
use Rattle.rasn_schema.specs.Named.{IsNamed}
use Rattle.rasn_schema_octets.specs.Octets.{IsSchemaOctets}
use Rattle.rasn_compiler.specs.Sources.{AreOf}
use Rattle.rasn_compiler.specs.declared.fault.Fault.{Fault}
use Rattle.rasn_compiler.specs.declared.modules.Source.{Source}
use Rattle.rasn_compiler.specs.declared.tree.Module.{Module}
use Rattle.rasn_compiler.specs.declared.tree.Assignment.{Assignment}
use Rattle.rasn_compiler.specs.declared.tree.Assigned.{Assigned}
use Rattle.rasn_compiler.specs.declared.tree.Assigned.TheVariants.{«Type» as OfType}
use Rattle.rasn_c.specs.Reasons.{Delivers, IsPlaced}
use Rattle.rasn_c.specs.declared.compiling.Texts.{Texts}
use Rattle.rasn_c.specs.declared.reasons.Reason.{Reason}
use Rattle.rasn_c.specs.declared.reasons.CallStop.{CallStop}
use Rattle.rasn_c.specs.declared.status.Status.{Status}
use Rattle.rasn_c.specs.declared.status.Status.TheVariants.{Refused, OutOfMemory, UnknownType}

-- The text and its name are UTF-8; those of all texts are.
abbrev pub IsText : Texts → Type 0
IsText text = IsUtf8 text.name.now × IsUtf8 text.text.now

abbrev pub AreTexts : List Texts → Type 0
AreTexts texts = All IsText texts

abbrev pub text_parts : Texts → List ℕ × List ℕ
text_parts text = (text.name.now, text.text.now)

abbrev pub source_parts : Source → List ℕ × List ℕ
source_parts source = (source.name.now, source.text.now)

-- The sources are these texts, each with its name.
abbrev pub AreSources : List Texts → List Source → Type 0
AreSources texts sources = map source_parts sources ≡ map text_parts texts

-- The modules are of these texts.
abbrev pub AreModulesOf : List Texts → List Module → Type 0
AreModulesOf texts modules = (sources : List Source) × AreSources texts sources × AreOf sources modules

-- The text has no point, whose octet is 46.
abbrev pub HasNoPoint : List ℕ → Type 0
HasNoPoint text = Contains text 46 → ⊥

-- The name is that of the type; or, up to its first point, that of a module, and after it that of the type.
abbrev pub IsNameOf : List ℕ → Option (List ℕ) → List ℕ → Type 0
IsNameOf name None type_name = HasNoPoint name × (name ≡ type_name)
IsNameOf name (Some module_name) type_name = HasNoPoint module_name × (name ≡ module_name ++ (codes "." ++ type_name))

abbrev pub IsType : Assigned → Type 0
IsType (OfType index) = Unit {0}
IsType _ = ⊥

-- A type is assigned to the name (X.680 16.1), without parameters (X.683 8).
abbrev pub IsTypeCalled : List ℕ → Assignment → Type 0
IsTypeCalled name a = (a.name.now ≡ name) × (a.parameters ≡ None) × IsType a.assigned

abbrev pub AssignsType : List ℕ → List Assignment → Type 0
AssignsType name assignments = (j : ℕ) × (a : Assignment) × (Some a ≡ slice_get assignments j) × IsTypeCalled name a

-- The module has such a type, and has the name of the module that is asked for, if one is.
abbrev pub HasTypeCalled : Option (List ℕ) → List ℕ → Module → Type 0
HasTypeCalled None type_name m = AssignsType type_name m.assignments.items
HasTypeCalled (Some module_name) type_name m = (m.name.now ≡ module_name) × AssignsType type_name m.assignments.items

-- It is the first of the modules that has it.
abbrev pub IsFirstWith : List Module → Option (List ℕ) → List ℕ → Module → Type 0
IsFirstWith modules module_name type_name m = (k : ℕ) × (Some m ≡ slice_get modules k) × HasTypeCalled module_name type_name m
    × ((i : ℕ) (other : Module) → i < k → Some other ≡ slice_get modules i → HasTypeCalled module_name type_name other → ⊥)

-- None has it.
abbrev pub HasNoTypeCalled : List Module → Option (List ℕ) → List ℕ → Type 0
HasNoTypeCalled modules module_name type_name = (i : ℕ) (other : Module) → Some other ≡ slice_get modules i → HasTypeCalled module_name type_name other → ⊥

-- The name is one of a type that one of the modules has, and this is the first of them.
pub record IsTypeAsked (modules : List Module) (name type_name : List ℕ) : Type 0 where
  pub module_name : Option (List ℕ)
  pub name_is : IsNameOf name module_name type_name
  pub first : Module
  pub is : IsFirstWith modules module_name type_name first

-- The octets are those of a schema in which this type has its name.
pub record IsSchemaOf (modules : List Module) (name made : List ℕ) : Type 0 where
  pub type_name : List ℕ
  pub asked : IsTypeAsked modules name type_name
  pub schema : Schema
  pub root : TypeId
  pub within : root.0 < length schema.types.items
  pub unchecked : ℕ
  pub octets : IsSchemaOctets schema root unchecked made
  pub names : Vec TypeName Global
  pub names_are : schema.names ≡ Some names
  pub named : IsNamed names.items type_name root

-- The place is that of a fault.
abbrev pub IsFaulty : CallStop → Type 0
IsFaulty stop = (fault : Fault) × IsPlaced fault.position.line fault.position.column stop

-- A module has the type, and what it is made of has a fault, or the schema is refused as octets. Or no module has it, or memory runs out.
abbrev pub IsNoSchema : List Module → List ℕ → CallStop → Status → Type 0
IsNoSchema modules name stop Refused = ((type_name : List ℕ) × IsTypeAsked modules name type_name) × (IsFaulty stop ⊎ IsPlaced 0 0 stop)
IsNoSchema modules name stop UnknownType = (module_name : Option (List ℕ)) × (type_name : List ℕ) × IsNameOf name module_name type_name × HasNoTypeCalled modules module_name type_name
IsNoSchema modules name stop OutOfMemory = Unit {0}
IsNoSchema modules name stop _ = ⊥

-- A text isn't UTF-8, or memory runs out.
abbrev pub AreNoTexts : List Texts → Status → Type 0
AreNoTexts texts Refused = AreTexts texts → ⊥
AreNoTexts texts OutOfMemory = Unit {0}
AreNoTexts texts _ = ⊥

-- The texts and the name are UTF-8, and the octets are those of a schema of a type of their modules.
abbrev pub IsCompiled : List Texts → List ℕ → List ℕ → Type 0
IsCompiled texts name made = AreTexts texts × IsUtf8 name × (modules : List Module) × AreModulesOf texts modules × IsSchemaOf modules name made

-- The modules of the texts have no schema for the name.
abbrev pub HaveNoSchema : List Texts → List ℕ → CallStop → Status → Type 0
HaveNoSchema texts name stop status = IsUtf8 name × (modules : List Module) × AreModulesOf texts modules × IsNoSchema modules name stop status

-- A text isn't UTF-8; or the texts and the name are, and the modules have a fault, or the type. Or the texts are, and the name isn't, or no module has such a type.
abbrev pub IsNotCompiled : List Texts → List ℕ → CallStop → Status → Type 0
IsNotCompiled texts name stop Refused = (AreTexts texts → ⊥) ⊎ (AreTexts texts × ((IsUtf8 name × IsFaulty stop) ⊎ HaveNoSchema texts name stop Refused))
IsNotCompiled texts name stop UnknownType = AreTexts texts × ((IsUtf8 name → ⊥) ⊎ HaveNoSchema texts name stop UnknownType)
IsNotCompiled texts name stop OutOfMemory = Unit {0}
IsNotCompiled texts name stop _ = ⊥

-- What a call leaves that compiles a schema.
abbrev pub AnswersCompile : List Texts → List ℕ → Reason → List ℕ → List ℕ → List ℕ → List ℕ → ℕ → Status → Type 0
AnswersCompile texts name reason old_text new_text old new needed status = Delivers (IsCompiled texts name) (λ stop. IsNotCompiled texts name stop stop.status) reason old_text new_text old new needed status
