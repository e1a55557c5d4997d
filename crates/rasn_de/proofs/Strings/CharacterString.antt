-- A character string is read exactly where the grammar has one.
use Rattle.std.proofs.Common.{◌≡◌, ◌≢◌, ℕ, ◌⊎◌, inl, inr, true, false, List, [], ◌∷◌, Result, Ok, Err, refl, sym, ap, ◌∙◌, subst, arith}
use Rattle.std.specs.Prelude.{IfErr}
use Rattle.std.specs.Cow.{cow_slice_items, IsOwnedSlice, IsOwnedStr}
use Rattle.std.specs.declared.alloc.Global.{Global}
use Rattle.std.specs.declared.borrow.CowSlice.{CowSlice}
use Rattle.std.specs.declared.borrow.CowSlice.TheVariants.{Borrowed, Owned}
use Rattle.std.specs.declared.borrow.CowStr.{CowStr}
use Rattle.std.specs.declared.borrow.CowStr.TheVariants as text
use Rattle.rasn_types.specs.declared.types.tag.Tag.{Tag}
use Rattle.rasn_types.specs.declared.types.codec.Codec.{Codec}
use Rattle.rasn_types.specs.declared.types.constraints.Constraints.{Constraints}
use Rattle.rasn_types.specs.declared.error.decode.DecodeError.{DecodeError}
use Rattle.rasn_types.specs.declared.types.strings.alphabet.Alphabet.{Alphabet}
use Rattle.rasn_types.specs.CharacterString.{AreAdmitted, ArePaired, units_of}
use Rattle.rasn_types.specs.Errors.{IsOutOfMemory}
use Rattle.rasn_types.specs.Framing.{AreOctets}
use Rattle.rasn_types.specs.Shapes.{Tree, numbers, Kind, leaf}
use Rattle.rasn_types.specs.Grammar.{Reads, ReadsIn, ReadsLeaf, IsBounded, Text, family, text_family}
use Rattle.rasn_de.specs.declared.ber.de.parser.ParseError.{ParseError}
use Rattle.rasn_de.specs.declared.ber.de.parser.ParseError.TheVariants as fault_is
use Rattle.rasn_de.specs.Causes.{Cause, fault, error_kind}
use Rattle.rasn_de.specs.OctetString.{DecodesOctets, CollectsOctets, IsBorrowedIfPrimitive, IsPrimitive}
use Rattle.rasn_de.specs.Leaves.{FailsAs}
use Rattle.rasn_de.specs.CharacterString.{StringCheck, StringAt, AllocFailsCollecting, IsTextBorrowedIfPrimitive, DecodesString, DecodesBorrowed, DecodesRestricted}
use Rattle.rasn_de.specs.State.{State, IsEnd, at}
use Rattle.rasn_de.specs.Outcomes.{Got}
use Rattle.rasn_de.specs.Steps.{IsErrorOf}
use Rattle.rasn_de.specs.Decodes.{Decodes, DecodesExactly}
use Rattle.rasn_de.proofs.Leaves.Outcomes.{Agrees, decoded_answers, alloc_failed, alloc_failed_before}
use Rattle.rasn_de.proofs.Headers.Ends.{IsEnd-refl}
use Rattle.rasn_de.proofs.Headers.NextTag.{kind_memory, memory_or}
use Rattle.rasn_de.proofs.Leaves.Errors.{refuses_fault, same_at, rule_is}
use Rattle.rasn_de.proofs.Strings.Ends.{octets_there, octets_only, octets_end}
use Rattle.rasn_de.proofs.Leaves.Rules.{string_rules}

-- What is reported of octets is what the kind says of them.
pub record Fits (kind : Kind) (bounds : Constraints) (Told : StringCheck) : Type 0 where
  pub is_text : family kind ≡ text_family
  pub found : (rule : Codec) (xs ns : List ℕ) → Told xs (Ok ns) → Text rule kind xs (numbers ns) × IsBounded kind bounds (numbers ns)
  pub only : (rule : Codec) (xs ns : List ℕ) (t : Tree) → Told xs (Ok ns) → Text rule kind xs t → t ≡ numbers ns
  pub none : (rule : Codec) (xs : List ℕ) (f : ParseError) (t : Tree) → Told xs (Err f) → Text rule kind xs t → IsBounded kind bounds t → ⊥
  pub plain : (xs : List ℕ) (f : ParseError) → Told xs (Err f) → f ≢ fault_is.OutOfMemory

module _ {kind : Kind} {bounds : Constraints} {Told : StringCheck} (fits : Fits kind bounds Told) where
  into_leaf : (rule : Codec) (depth : ℕ) (tag : Tag) (l : List ℕ) (t : Tree) (r : List ℕ) → ReadsIn text_family rule kind tag depth l t r → ReadsIn (family kind) rule kind tag depth l t r
  into_leaf rule depth tag l t r h = subst (λ f. ReadsIn f rule kind tag depth l t r) (sym fits.is_text) h

  from_leaf : (rule : Codec) (depth : ℕ) (tag : Tag) (l : List ℕ) (t : Tree) (r : List ℕ) → ReadsIn (family kind) rule kind tag depth l t r → ReadsIn text_family rule kind tag depth l t r
  from_leaf rule depth tag l t r h = subst (λ f. ReadsIn f rule kind tag depth l t r) fits.is_text h

  agrees : (rule : Codec) (depth : ℕ) (tag : Tag) (l : List ℕ) → AreOctets l → (r : Result (List ℕ × List ℕ) (Cause × List ℕ)) → StringAt Told rule depth tag l r
      → Agrees (ReadsLeaf rule kind tag bounds depth) numbers l r
  agrees rule depth tag l o (Ok p) (xs, e, a) =
      let k = fits.found rule xs p.0 a in
      (((into_leaf rule depth tag l (numbers p.0) p.1 (xs, octets_there rule depth tag l o xs p.1 e, k.0), k.1), λ t r w. same t r (from_leaf rule depth tag l t r w.0)), octets_end rule depth tag l o xs p.1 e)
    where
      same : (t : Tree) (r : List ℕ) → ReadsIn text_family rule kind tag depth l t r → (t ≡ numbers p.0) × (r ≡ p.1)
      same t r (ys, s, f) =
          let k = octets_only rule depth tag l o ys r s in
          let m : (ys, r) ≡ (xs, p.1) = cc in
          (fits.only rule xs p.0 t a (subst (λ z. Text rule kind z t) (ap (λ (z : List ℕ × List ℕ). z.0) m) f), ap (λ (z : List ℕ × List ℕ). z.1) m)
  agrees rule depth tag l o (Err e) (inl (f, h, g)) =
      ((λ t r w. none t r (from_leaf rule depth tag l t r w.0)), subst (λ (z : Cause × List ℕ). IsEnd l z.1) (sym g) (IsEnd-refl l))
    where
      none : (t : Tree) (r : List ℕ) → ReadsIn text_family rule kind tag depth l t r → ⊥
      none t r (ys, s, j) = let k = octets_only rule depth tag l o ys r s in cc
  agrees rule depth tag l o (Err e) (inr (xs, f, h, a, g)) =
      ((λ t r w. none t r (from_leaf rule depth tag l t r w.0) w.1), octets_end rule depth tag l o xs e.1 h)
    where
      none : (t : Tree) (r : List ℕ) → ReadsIn text_family rule kind tag depth l t r → IsBounded kind bounds t → ⊥
      none t r (ys, s, j) b =
          let k = octets_only rule depth tag l o ys r s in
          let q : (ys, r) ≡ (xs, e.1) = cc in
          let m : ys ≡ xs = ap (λ (z : List ℕ × List ℕ). z.0) q in
          fits.none rule xs f t a (subst (λ z. Text rule kind z t) m j) b

  pub string_decodes : {X : Type 0} (see : X → List ℕ) (tag : Tag) (old new : State) (result : Result X DecodeError) → AreOctets old.rest → DecodesString see Told tag old result new
      → Decodes (leaf kind tag bounds) (λ x. numbers (see x)) old result new
  unfolding Reads
  string_decodes see tag old new (Ok v) o g =
      decoded_answers (λ rule. Reads rule (leaf kind tag bounds)) numbers see (StringAt Told old.rule old.depth tag old.rest) old new (Ok v) (agrees old.rule old.depth tag old.rest o) g
  string_decodes see tag old new (Err e) o (inl (m, c, s, k)) = alloc_failed_before (λ rule. Reads rule (leaf kind tag bounds)) (λ x. numbers (see x)) old new e m s
  string_decodes see tag old new (Err e) o (inr (inl (m, c, s, k, p, (xs, h, a), r, n))) =
      alloc_failed (λ rule. Reads rule (leaf kind tag bounds)) (λ x. numbers (see x)) old new e m s (subst (IsEnd old.rest) r (octets_end old.rule old.depth tag old.rest o xs p.1 h))
  string_decodes {X} see tag old new (Err e) o (inr (inr g)) =
      decoded_answers {X = List ℕ} {Y = X} (λ rule. Reads rule (leaf kind tag bounds)) numbers see (StringAt Told old.rule old.depth tag old.rest) old new (Err e) (agrees old.rule old.depth tag old.rest o) g.1

  -- octets that are refused
  pub untold : (tag : Tag) (old new : State) (s : CowSlice ℕ Global) → DecodesOctets tag old (Ok s) new → (f : ParseError) (e : DecodeError) → Told (cow_slice_items s) (Err f) → IsErrorOf f new e
      → (IsOutOfMemory e.kind → ⊥) × FailsAs (StringAt Told old.rule old.depth tag old.rest) old e new
  untold tag old new s (h, k, w) f e a x = (
    (λ m. kind_memory f (fits.plain (cow_slice_items s) f a) (sym (ap (λ (y : DecodeError). y.kind) x) ∙ m)),
    refuses_fault (StringAt Told old.rule old.depth tag old.rest) old new f e (inr (cow_slice_items s, f, h, a, refl)) k x,
  )

-- octets that weren't gathered
pub ungathered : (Told : StringCheck) (tag : Tag) (old new : State) (e : DecodeError) → DecodesOctets tag old (Err e) new
    → AllocFailsCollecting CollectsOctets tag old e new ⊎ ((IsOutOfMemory e.kind → ⊥) × FailsAs (StringAt Told old.rule old.depth tag old.rest) old e new)
ungathered Told tag old new e (f, k, s, read, memory) = go (memory_or f)
  where
    kind_is : e.kind ≡ error_kind f
    kind_is = ap (λ (x : DecodeError). x.kind) k

    codec_is : e.codec ≡ old.rule
    codec_is = ap (λ (x : DecodeError). x.codec) k

    go : (f ≡ fault_is.OutOfMemory) ⊎ (f ≢ fault_is.OutOfMemory) → AllocFailsCollecting CollectsOctets tag old e new ⊎ ((IsOutOfMemory e.kind → ⊥) × FailsAs (StringAt Told old.rule old.depth tag old.rest) old e new)
    go (inl m) = inl (kind_is ∙ ap error_kind m, codec_is, s, memory m)
    go (inr n) =
        let r : new.rest ≡ old.rest = ap (λ (x : State). x.rest) s in
        inr ((λ h. kind_memory f n (sym kind_is ∙ h)), (fault f, inl (f, read n, ap (λ z. (fault f, z)) r), kind_is, codec_is, same_at old new s))

lent : (rule : Codec) (tag : Tag) (l : List ℕ) (s : CowSlice ℕ Global) → (IsOwnedSlice s → false ≡ true) → IsBorrowedIfPrimitive rule tag l s → IsPrimitive rule tag l
lent rule tag l (Borrowed x) n h = h
lent rule tag l (Owned v) n h = let k = n tt in cc

-- What a function that reads a string ensures: `reads` follows from the exact clause.
module _ {kind : Kind} {bounds : Constraints} {Told : StringCheck} (fits : Fits kind bounds Told) {X : Type 0} (see : X → List ℕ) (tag : Tag) (old new : State) (o : AreOctets old.rest) where
  abbrev pub Ensured : Result X DecodeError → Type 0
  Ensured result = record { reads : Decodes (leaf kind tag bounds) (λ x. numbers (see x)) old result new; exact : DecodesString see Told tag old result new; rules : IfErr result (λ e. e.codec ≡ old.rule) }

  ensured : (result : Result X DecodeError) → DecodesString see Told tag old result new → Ensured result
  ensured result g = record { reads = string_decodes fits see tag old new result o g; exact = g; rules = string_rules see Told tag old new result g }

  -- octets that weren't gathered
  pub string_ungathered : (e : DecodeError) → DecodesOctets tag old (Err e) new → Ensured (Err e)
  string_ungathered e g = ensured (Err e) (elim (ungathered Told tag old new e g) [ inl r ↦ inl r | inr r ↦ inr (inr r) ])

  module _ (s : CowSlice ℕ Global) (g : DecodesOctets tag old (Ok s) new) where
    -- octets that are refused
    pub string_refused : (f : ParseError) (e : DecodeError) → Told (cow_slice_items s) (Err f) → IsErrorOf f new e → Ensured (Err e)
    string_refused f e a x = ensured (Err e) (inr (inr (untold fits tag old new s g f e a x)))

    -- octets in order, some of them, that aren't copied
    pub string_alloc_failed : (ns : List ℕ) (e : DecodeError) → Told (cow_slice_items s) (Ok ns) → (IsOwnedSlice s → false ≡ true) → ns ≢ [] → IsErrorOf fault_is.OutOfMemory new e → Ensured (Err e)
    string_alloc_failed ns e a n m x =
        ensured (Err e) (inr (inl (
          ap (λ (y : DecodeError). y.kind) x,
          ap (λ (y : DecodeError). y.codec) x ∙ rule_is old new g.1,
          g.1,
          lent old.rule tag old.rest s n g.2,
          (ns, new.rest),
          (cow_slice_items s, g.0, a),
          refl,
          m,
        )))

    -- octets in order
    pub string_given : (v : X) → Told (cow_slice_items s) (Ok (see v)) → Ensured (Ok v)
    string_given v a = ensured (Ok v) ((cow_slice_items s, g.0, a), g.1)

-- What a function that borrows a primitive string ensures.
module _ {kind : Kind} {bounds : Constraints} {Told : StringCheck} (fits : Fits kind bounds Told) {X : Type 0} (see : X → List ℕ) (borrowed : Codec → Tag → List ℕ → X → Type 0) (tag : Tag) (old new : State) (o : AreOctets old.rest) where
  abbrev pub Borrows : Result X DecodeError → Type 0
  Borrows result = record { reads : Decodes (leaf kind tag bounds) (λ x. numbers (see x)) old result new; exact : DecodesBorrowed see borrowed Told tag old result new; rules : IfErr result (λ e. e.codec ≡ old.rule) }

  pub borrows : (result : Result X DecodeError) → DecodesBorrowed see borrowed Told tag old result new → Borrows result
  borrows (Ok v) g = record { reads = string_decodes fits see tag old new (Ok v) o g.0; exact = g; rules = tt }
  borrows (Err e) (inl g) = record { reads = string_decodes fits see tag old new (Err e) o (inl g); exact = inl g; rules = string_rules see Told tag old new (Err e) (inl g) }
  borrows (Err e) (inr g) = record { reads = string_decodes fits see tag old new (Err e) o (inr (inr g)); exact = inr g; rules = string_rules see Told tag old new (Err e) (inr (inr g)) }

  pub borrowed_ungathered : (e : DecodeError) → DecodesOctets tag old (Err e) new → Borrows (Err e)
  borrowed_ungathered e g = borrows (Err e) (ungathered Told tag old new e g)

  module _ (s : CowSlice ℕ Global) (g : DecodesOctets tag old (Ok s) new) where
    pub borrowed_refused : (f : ParseError) (e : DecodeError) → Told (cow_slice_items s) (Err f) → IsErrorOf f new e → Borrows (Err e)
    borrowed_refused f e a x = borrows (Err e) (inr (untold fits tag old new s g f e a x))

    pub borrowed_given : (v : X) → Told (cow_slice_items s) (Ok (see v)) → borrowed old.rule tag old.rest v → Borrows (Ok v)
    borrowed_given v a b = borrows (Ok v) (((cow_slice_items s, g.0, a), g.1), b)

-- What a function that copies such a string ensures.
module _ (kind : Kind) (bounds : Constraints) (Told : StringCheck) {X : Type 0} (see : X → List ℕ) (borrowed : Codec → Tag → List ℕ → X → Type 0) (tag : Tag) (old new : State) where
  abbrev pub IsBorrowed : Result X DecodeError → Type 0
  IsBorrowed result = record { reads : Decodes (leaf kind tag bounds) (λ x. numbers (see x)) old result new; exact : DecodesBorrowed see borrowed Told tag old result new; rules : IfErr result (λ e. e.codec ≡ old.rule) }

  module _ {Y : Type 0} (seen : Y → List ℕ) where
    abbrev pub Copies : Result Y DecodeError → Type 0
    Copies result = record { reads : Decodes (leaf kind tag bounds) (λ y. numbers (seen y)) old result new; exact : DecodesString seen Told tag old result new; rules : IfErr result (λ e. e.codec ≡ old.rule) }

    pub copy_refused : (e : DecodeError) → IsBorrowed (Err e) → Copies (Err e)
    copy_refused e g = record { reads = g.reads; exact = elim g.exact [ inl r ↦ inl r | inr r ↦ inr (inr r) ]; rules = g.rules }

    module _ (v : X) (g : IsBorrowed (Ok v)) where
      pub copied : (w : Y) → seen w ≡ see v → Copies (Ok w)
      copied w e = record {
        reads = subst (λ l. DecodesExactly (λ rule. Reads rule (leaf kind tag bounds)) old (Got (numbers l) new.rest) new) (sym e) g.reads;
        exact = subst (λ l. StringAt Told old.rule old.depth tag old.rest (Ok (l, new.rest)) × (new ≡ at old new.rest)) (sym e) g.exact.0;
        rules = tt;
      }

      pub not_copied : IsPrimitive old.rule tag old.rest → (see v ≡ [] → false ≡ true) → (e : DecodeError) → IsErrorOf fault_is.OutOfMemory new e → Copies (Err e)
      not_copied p some e x =
          let m : IsOutOfMemory e.kind = ap (λ (y : DecodeError). y.kind) x in
          let s : new ≡ at old new.rest = g.exact.0.1 in
          let c : e.codec ≡ old.rule = ap (λ (y : DecodeError). y.codec) x ∙ rule_is old new s in
          record {
            reads = alloc_failed (λ rule. Reads rule (leaf kind tag bounds)) (λ y. numbers (seen y)) old new e m s g.reads.end;
            exact = inr (inl (m, c, s, p, (see v, new.rest), g.exact.0.0, refl, λ n. let k = some n in cc));
            rules = c;
          }

-- What isn't owned is borrowed from a primitive string.
pub slice_primitive : (rule : Codec) (tag : Tag) (l : List ℕ) (s : CowSlice ℕ Global) → (IsOwnedSlice s → false ≡ true) → IsBorrowedIfPrimitive rule tag l s → IsPrimitive rule tag l
slice_primitive rule tag l s n b = lent rule tag l s n b

pub text_primitive : (rule : Codec) (tag : Tag) (l : List ℕ) (s : CowStr Global) → (IsOwnedStr s → false ≡ true) → IsTextBorrowedIfPrimitive rule tag l s → IsPrimitive rule tag l
text_primitive rule tag l (text.Borrowed x) n h = h
text_primitive rule tag l (text.Owned v) n h = let k = n tt in cc

-- Text is owned if its octets are.
pub text_borrowed : (rule : Codec) (tag : Tag) (l : List ℕ) (s : CowSlice ℕ Global) (t : CowStr Global) → (IsOwnedSlice s → IsOwnedStr t) → (IsOwnedStr t → IsOwnedSlice s) → IsBorrowedIfPrimitive rule tag l s
    → IsTextBorrowedIfPrimitive rule tag l t
text_borrowed rule tag l (Borrowed x) (text.Borrowed y) f g h = h
text_borrowed rule tag l (Borrowed x) (text.Owned y) f g h = absurd (g tt)
text_borrowed rule tag l (Owned x) (text.Borrowed y) f g h = absurd (f tt)
text_borrowed rule tag l (Owned x) (text.Owned y) f g h = h

-- The octets of a string that is read are in its alphabet.
pub restricted_admitted : (a : Alphabet) (tag : Tag) (bounds : Constraints) (old new : State) (s : CowSlice ℕ Global) → DecodesRestricted a tag bounds old (Ok s) new → AreAdmitted a (cow_slice_items s)
restricted_admitted a tag bounds old new s g = subst (AreAdmitted a) (sym g.0.0.2.0) g.0.0.2.2

-- What has no 16-bit units has no octets.
pub some_units : (l : List ℕ) → ArePaired l → (l ≡ [] → false ≡ true) → units_of l ≡ [] → ⊥
some_units [] h n e = let k = n refl in cc
some_units (a ∷ []) h n e = absurd (omega arith)
some_units (a ∷ b ∷ l) h n e = cc
