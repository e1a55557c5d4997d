-- Rows of parts that are gone over in turn.
use Rattle.std.proofs.Common.{ℕ, ◌≡◌, ◌⊎◌, inl, inr, ◌+◌, ◌≤◌, ◌++◌, ◌∷◌, [], List, length, length-append, drop, get_or, Some, append_assoc, refl, sym, ap, ◌∙◌, subst}
use Rattle.std.specs.Prelude.{slice_get, Vec}
use Rattle.std.specs.Global.{Global}
use Rattle.std.proofs.lemmas.List.{append-nil, drop_more, drop_all}
use Rattle.std.proofs.lemmas.Option.{slice_get_within, get_or_from_slice_get}
use Rattle.rasn_types.specs.declared.types.codec.Codec.{Codec}
use Rattle.rasn_types.specs.Errors.{IsOutOfMemory}
use Rattle.rasn_schema.specs.declared.schema.Schema.{Schema}
use Rattle.rasn_schema.specs.declared.type_id.TypeId.{TypeId}
use Rattle.rasn_schema.specs.declared.types.«Type».{«Type»}
use Rattle.rasn_dynamic.specs.declared.refusal.Refusal.{Refusal}
use Rattle.rasn_dynamic.specs.Faults.{IsLocated}
use Rattle.rasn_dynamic.specs.declared.message.MessageParts.{MessageParts}
use Rattle.rasn_dynamic.specs.declared.part.Part.{Part}
use Rattle.rasn_dynamic.specs.declared.span.Span.{Span}
use Rattle.rasn_dynamic.specs.Walk.{IsNextOf, path_after}
use Rattle.rasn_c.specs.Extents.{IsExtentOf}
use Rattle.rasn_c.specs.Schemas.{IsAsked}
use Rattle.rasn_c.specs.Reasons.{IsStopBy}
use Rattle.rasn_c.specs.Listing.{IsRowOf, IsNameOn, IsNamePlaced, AreRows, IsNoListingBy, ended}
use Rattle.rasn_c.specs.declared.listing.ListedPart.{ListedPart}
use Rattle.rasn_c.specs.declared.reasons.CallStop.{CallStop}
use Rattle.rasn_c.specs.declared.status.Status.{Status}
use Rattle.rasn_c.specs.declared.status.Status.TheVariants.{Ok, Refused, OutOfMemory, BufferTooSmall, UnknownType, UnknownRule, BadSchema, UnknownPath, Absent}

drop_at : {X : Type 0} (xs : List X) (i : ℕ) (x : X) → slice_get xs i ≡ Some x → drop i xs ≡ x ∷ drop (i + 1) xs
drop_at xs i x e = drop_more xs i x (slice_get_within xs i x e) ∙ ap (λ z. z ∷ drop (i + 1) xs) (get_or_from_slice_get xs i x x e)

-- What the rows and the names of the parts from the next one on would complete.
abbrev pub Completes : List «Type» → ℕ → List ℕ → List Span → ℕ → List ℕ → List ListedPart → List ℕ → Type 0
Completes types root input list i path rows names =
    (rest : List ListedPart) (more : List ℕ) → AreRows types root input path (length names) (drop i list) rest more → AreRows types root input [] 0 list (rows ++ rest) (names ++ more)

pub none_yet : (types : List «Type») (root : ℕ) (input : List ℕ) (list : List Span) (i : ℕ) (path : List ℕ) (rows : List ListedPart) (names : List ℕ) → i ≡ 0 → path ≡ [] → rows ≡ [] → names ≡ [] → Completes types root input list i path rows names
none_yet types root input list i path rows names z p e n =
    subst (λ k. Completes types root input list k path rows names) (sym z) (subst (λ q. Completes types root input list 0 q rows names) (sym p)
    (subst (λ l. Completes types root input list 0 [] l names) (sym e) (subst (Completes types root input list 0 [] []) (sym n) (λ rest more h. h))))

pub one_more : (types : List «Type») (root : ℕ) (input : List ℕ) (list : List Span) (path : List ℕ) (rows : List ListedPart) (names name : List ℕ) (i : ℕ) (e : Span) (r : ListedPart) → Some e ≡ slice_get list i → IsRowOf types input e r
    → IsNameOn types root (path_after path e) name → IsNamePlaced (length names) name r → Completes types root input list i path rows names → Completes types root input list (i + 1) (path_after path e) (rows ++ r ∷ []) (names ++ ended name)
unfolding AreRows
one_more types root input list path rows names name i e r s row named placed c rest more h =
    let below : AreRows types root input (path_after path e) (length names + length (ended name)) (drop (i + 1) list) rest more = subst (λ z. AreRows types root input (path_after path e) z (drop (i + 1) list) rest more) (length-append names (ended name)) h in
    let here : AreRows types root input path (length names) (drop i list) (r ∷ rest) (ended name ++ more) = subst (λ z. AreRows types root input path (length names) z (r ∷ rest) (ended name ++ more)) (sym (drop_at list i e (sym s))) (row, name, named, placed, more, refl, below) in
    subst (λ z. AreRows types root input [] 0 list z ((names ++ ended name) ++ more)) (sym (append_assoc rows (r ∷ []) rest))
    (subst (AreRows types root input [] 0 list (rows ++ r ∷ rest)) (sym (append_assoc names (ended name) more)) (c (r ∷ rest) (ended name ++ more) here))

-- The row of the part to which the walk goes on.
pub go_on : (types : List «Type») (root : ℕ) (old new : MessageParts) (p : Part) (s : Span) (rows more : List ListedPart) (r : ListedPart) (names longer name : List ℕ) → IsNextOf old (Some p) new → new.list ≡ old.list → new.input.now ≡ old.input.now → s ≡ get_or old.list.items old.next s
    → IsExtentOf types p r.part → r.depth ≡ s.depth → r.index ≡ s.index → more ≡ rows ++ r ∷ [] → IsNameOn types root new.path.items name → IsNamePlaced (length names) name r → longer ≡ names ++ ended name
    → Completes types root old.input.now old.list.items old.next old.path.items rows names → Completes types root new.input.now new.list.items new.next new.path.items more longer
go_on types root old new p s rows more r names longer name n list input at extent depth index m named placed l c =
    let same : s ≡ n.0 = at ∙ get_or_from_slice_get old.list.items old.next n.0 s (sym n.1) in
    let row : IsRowOf types old.input.now n.0 r = record {
      part = p;
      of_type = n.2;
      octets = n.3;
      offset = n.4;
      header = n.5;
      extent = extent;
      depth = depth ∙ ap (λ (z : Span). z.depth) same;
      index = index ∙ ap {A = Span} (λ z. z.index) same;
    } in
    let path : new.path.items ≡ path_after old.path.items n.0 = n.7 in
    let here : Completes types root old.input.now old.list.items (old.next + 1) (path_after old.path.items n.0) (rows ++ r ∷ []) (names ++ ended name) =
    one_more types root old.input.now old.list.items old.path.items rows names name old.next n.0 r n.1 row (subst (λ z. IsNameOn types root z name) path named) placed c in
    let moved : Completes types root old.input.now old.list.items new.next new.path.items (rows ++ r ∷ []) (names ++ ended name) =
    subst (λ z. Completes types root old.input.now old.list.items z new.path.items (rows ++ r ∷ []) (names ++ ended name)) (sym n.6)
    (subst (λ z. Completes types root old.input.now old.list.items (old.next + 1) z (rows ++ r ∷ []) (names ++ ended name)) (sym path) here) in
    let there : Completes types root old.input.now old.list.items new.next new.path.items more longer =
    subst (λ z. Completes types root old.input.now old.list.items new.next new.path.items z longer) (sym m) (subst (Completes types root old.input.now old.list.items new.next new.path.items (rows ++ r ∷ [])) (sym l) moved) in
    subst (λ z. Completes types root z new.list.items new.next new.path.items more longer) (sym input) (subst (λ (z : Vec Span Global). Completes types root old.input.now z.items new.next new.path.items more longer) (sym list) there)

pub all_rows : (types : List «Type») (root : ℕ) (input : List ℕ) (list : List Span) (path : List ℕ) (rows : List ListedPart) (names : List ℕ) (i : ℕ) → length list ≤ i → Completes types root input list i path rows names → AreRows types root input [] 0 list rows names
unfolding AreRows
all_rows types root input list path rows names i h c =
    let none : AreRows types root input path (length names) (drop i list) [] [] = subst (λ z. AreRows types root input path (length names) z [] []) (sym (drop_all i list h)) refl in
    subst (λ z. AreRows types root input [] 0 list z names) (append-nil rows) (subst (AreRows types root input [] 0 list (rows ++ [])) (append-nil names) (c [] [] none))

-- A message whose parts aren't listed.
pub unlisted : (octets : List ℕ) (number : ℕ) (message : List ℕ) (stop : CallStop) (schema : Schema) (root : TypeId) (rule : Codec) (refusal : Refusal) → IsAsked octets number schema root rule
    → IsOutOfMemory refusal.error.kind ⊎ IsLocated schema.types.items rule root.0 message refusal → (status : Status) → stop.status ≡ status → IsStopBy schema root [] refusal stop status → IsNoListingBy octets number message stop status
unlisted octets number message stop schema root rule refusal a l Refused e h = record {
  schema = schema;
  root = root;
  rule = rule;
  asked = a;
  refusal = refusal;
  located = elim l [
    | inl m ↦ absurd (h.memory m)
    | inr at ↦ at
  ];
  stops = subst (IsStopBy schema root [] refusal stop) (sym e) h;
}
unlisted octets number message stop schema root rule refusal a l OutOfMemory e h = tt
unlisted octets number message stop schema root rule refusal a l Ok e h = absurd h
unlisted octets number message stop schema root rule refusal a l BufferTooSmall e h = absurd h
unlisted octets number message stop schema root rule refusal a l UnknownType e h = absurd h
unlisted octets number message stop schema root rule refusal a l UnknownRule e h = absurd h
unlisted octets number message stop schema root rule refusal a l BadSchema e h = absurd h
unlisted octets number message stop schema root rule refusal a l UnknownPath e h = absurd h
unlisted octets number message stop schema root rule refusal a l Absent e h = absurd h
