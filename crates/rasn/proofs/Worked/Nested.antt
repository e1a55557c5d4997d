-- SEQUENCE, SET and prefixes nested as deep as they may be, and one deeper.
use Rattle.std.proofs.Common.{◌≡◌, ℕ, zero, suc, ◌-◌, ◌<◌, ◌≤◌, inl, inr, List, [], ◌∷◌, ◌++◌, Bool, true, false, pos, refl, sym, subst, arith, append_assoc, append-nil}
use Rattle.rasn_types.specs.Tags.{basic_form, in_universal}
use Rattle.rasn_types.specs.declared.types.tag.Class.TheVariants.{Context}
use Rattle.rasn_types.specs.declared.types.codec.Codec.TheVariants.{Ber}
use Rattle.rasn_types.specs.Framing.{Frame, without_length, indefinite, Ended}
use Rattle.rasn_types.specs.Shapes.{Tree, number, chosen, null, part, required, IsFirst}
use Rattle.rasn_types.specs.Shapes.Parts.{none}
use Rattle.rasn_types.specs.Readings.{definite_form, indefinite_form, ReadsSeq, ReadsChoice, ReadsSet}
use Rattle.rasn_types.specs.Grammar.{Reads, parts_of}
use Rattle.rasn_types.proofs.Headers.Frames.{frame_next}
use Rattle.rasn.specs.Worked.{IsReadAs, IsRefusedBy, contextual}
use Rattle.rasn.specs.WorkedDepths.{nested_in, sequences, sets, prefixes, empty_in}
use Rattle.rasn.proofs.ReadBack.Headers.{spelled, context_apart, without, going, plain_read}

sequences_read : (n depth : ℕ) (c : Bool) (rest : List ℕ) → n < depth → Reads Ber (sequences n) depth c (nested_in 48 [] (suc n) ++ rest) (empty_in n) rest
unfolding Reads parts_of sequences nested_in empty_in
sequences_read zero depth c rest h =
    (omega (arith, h), indefinite_form (0 ∷ 0 ∷ rest) (without 16 _ tt (omega arith) (omega arith)) ([], refl, inr ((λ b. let e = b.1 in cc), (refl, refl))))
sequences_read (suc n) depth c rest h = (
  omega (arith, h),
  indefinite_form _ (without 16 _ tt (omega arith) (omega arith)) (
      subst (λ l. ReadsSeq Ber (parts_of Ber (part required (sequences n) none) (depth - 1) true) true l (empty_in (suc n)) (0 ∷ 0 ∷ rest)) (sym (append_assoc (nested_in 48 [] (suc n)) (0 ∷ 0 ∷ []) rest))
      (empty_in n ∷ [], refl, inr ((λ b. b.0 (inl refl)), (empty_in n, [], 0 ∷ 0 ∷ rest, refl, sequences_read n (depth - 1) true (0 ∷ 0 ∷ rest) (omega (arith, h)), (refl, refl))))
      ),
)

sequences_deep : (n depth : ℕ) (c : Bool) (input : List ℕ) (t : Tree) (rest : List ℕ) → Reads Ber (sequences n) depth c input t rest → n < depth
unfolding Reads parts_of sequences
sequences_deep zero depth c input t rest h = h.0
sequences_deep (suc n) depth c input t rest (deep, definite_form b f (ts, e, inl (bare, m, same))) = absurd (bare.0 (inl refl))
sequences_deep (suc n) depth c input t rest (deep, definite_form b f (ts, e, inr (full, (u, us, middle, g, r, more)))) =
    let i = sequences_deep n (depth - 1) false b u middle r in omega (arith, i)
sequences_deep (suc n) depth c input t rest (deep, indefinite_form b f (ts, e, inl (bare, m, same))) = absurd (bare.0 (inl refl))
sequences_deep (suc n) depth c input t rest (deep, indefinite_form b f (ts, e, inr (full, (u, us, middle, g, r, more)))) =
    let i = sequences_deep n (depth - 1) true b u middle r in omega (arith, i)

pub sequences_128 : IsReadAs Ber (sequences 127) (nested_in 48 [] 128) (empty_in 127) []
sequences_128 = subst (λ l. Reads Ber (sequences 127) 128 true l (empty_in 127) []) (append-nil (nested_in 48 [] 128)) (sequences_read 127 128 true [] (omega arith))

pub sequences_129 : IsRefusedBy Ber (sequences 128) (nested_in 48 [] 129)
sequences_129 t rest h = let i = sequences_deep 128 128 true (nested_in 48 [] 129) t rest h in omega (arith, i)

sets_first : (n : ℕ) → IsFirst (sets n) (in_universal 17)
unfolding sets
sets_first zero = refl
sets_first (suc n) = refl

-- The frame of nested sets.
sets_frame : (n : ℕ) (rest : List ℕ) → Frame basic_form (nested_in 49 [] (suc n) ++ rest) (in_universal 17) true ((nested_in 49 [] n ++ (0 ∷ 0 ∷ [])) ++ rest) indefinite
unfolding nested_in
sets_frame n rest = without 17 _ tt (omega arith) (omega arith)

sets_going : (n : ℕ) (rest : List ℕ) → Ended true (nested_in 49 [] (suc n) ++ rest) → ⊥
unfolding nested_in
sets_going n rest e = going true 49 _ (omega arith) e

sets_read : (n depth : ℕ) (c : Bool) (rest : List ℕ) → n < depth → Reads Ber (sets n) depth c (nested_in 49 [] (suc n) ++ rest) (empty_in n) rest
unfolding Reads parts_of sets nested_in empty_in
sets_read zero depth c rest h =
    (omega (arith, h), indefinite_form (0 ∷ 0 ∷ rest) (without 17 _ tt (omega arith) (omega arith)) ([], [], refl, (inr (refl, rest, refl), refl), refl, λ s. absurd s))
sets_read (suc n) depth c rest h = (
  omega (arith, h),
  indefinite_form _ (without 17 _ tt (omega arith) (omega arith)) (
      subst (λ l. ReadsSet Ber (required ∷ []) (ReadsChoice Ber 0 (parts_of Ber (part required (sets n) none) (depth - 1) true)) true l (empty_in (suc n)) (0 ∷ 0 ∷ rest)) (sym (append_assoc (nested_in 49 [] (suc n)) (0 ∷ 0 ∷ []) rest)) (
        chosen 0 (empty_in n) ∷ [],
        empty_in n ∷ [],
        refl,
        (
          sets_going n (0 ∷ 0 ∷ rest),
          0 ∷ 0 ∷ rest,
          inl (empty_in n, refl, in_universal 17, frame_next (sets_frame n (0 ∷ 0 ∷ rest)), sets_first n, sets_read n (depth - 1) true (0 ∷ 0 ∷ rest) (omega (arith, h)), λ s. absurd s),
          (inr (refl, rest, refl), refl),
        ),
        (empty_in n, [], refl, inl (record { before = []; after = []; is = refl; none_before = tt; none_after = tt }), refl),
        λ s. absurd s,
      )
      ),
)

no_reading : (t : Tree) (before after : List Tree) → [] ≡ before ++ (chosen 0 t ∷ after) → ⊥
no_reading t [] after e = cc
no_reading t (x ∷ before) after e = cc

-- A SET of one required part has a reading of it.
inner_deep : (n depth : ℕ) (c : Bool) (input : List ℕ) (t : Tree) (rest : List ℕ) → ((u : Tree) (l m : List ℕ) → Reads Ber (sets n) depth c l u m → n < depth)
    → ReadsSet Ber (required ∷ []) (ReadsChoice Ber 0 (parts_of Ber (part required (sets n) none) depth c)) c input t rest → n < depth
unfolding parts_of
inner_deep n depth c input t rest deep ([], ts, e, m, (u, us, f, inl one, g), s) = absurd (no_reading u one.before one.after one.is)
inner_deep n depth c input t rest deep ([], ts, e, m, (u, us, f, inr (out, d), g), s) = absurd d
inner_deep n depth c input t rest deep (r ∷ rs, ts, e, (more_there, middle, inl (u, f, next, k, first, reads, z), more), p, s) = deep u input middle reads
inner_deep n depth c input t rest deep (r ∷ rs, ts, e, (more_there, middle, inr other, more), p, s) = absurd other

sets_deep : (n depth : ℕ) (c : Bool) (input : List ℕ) (t : Tree) (rest : List ℕ) → Reads Ber (sets n) depth c input t rest → n < depth
unfolding Reads parts_of sets
sets_deep zero depth c input t rest h = h.0
sets_deep (suc n) depth c input t rest (deep, definite_form b f s) =
    let i = inner_deep n (depth - 1) false b t [] (λ u l m r. sets_deep n (depth - 1) false l u m r) s in omega (arith, i)
sets_deep (suc n) depth c input t rest (deep, indefinite_form b f s) =
    let i = inner_deep n (depth - 1) true b t (0 ∷ 0 ∷ rest) (λ u l m r. sets_deep n (depth - 1) true l u m r) s in omega (arith, i)

pub sets_128 : IsReadAs Ber (sets 127) (nested_in 49 [] 128) (empty_in 127) []
sets_128 = subst (λ l. Reads Ber (sets 127) 128 true l (empty_in 127) []) (append-nil (nested_in 49 [] 128)) (sets_read 127 128 true [] (omega arith))

pub sets_129 : IsRefusedBy Ber (sets 128) (nested_in 49 [] 129)
sets_129 t rest h = let i = sets_deep 128 128 true (nested_in 49 [] 129) t rest h in omega (arith, i)

context_without : (rest : List ℕ) → Frame basic_form (160 ∷ 128 ∷ rest) (contextual 0) true rest indefinite
context_without rest = without_length (160 ∷ []) (record { spells = spelled Context 0 true (omega arith); is_one = context_apart 0 }) refl tt refl

prefixes_read : (n depth : ℕ) (c : Bool) (rest : List ℕ) → n ≤ depth → Reads Ber (prefixes n) depth c (nested_in 160 (5 ∷ 0 ∷ []) n ++ rest) (number (pos 0)) rest
unfolding Reads parts_of prefixes nested_in
prefixes_read zero depth c rest h = (plain_read Ber null 5 [] rest (number (pos 0)) depth (omega arith) (omega arith) (omega arith) (refl, refl) (λ s. absurd s), tt)
prefixes_read (suc n) depth c rest h = (
  omega (arith, h),
  true,
  (λ s. absurd s),
  indefinite_form _ (context_without _) (
      subst (λ l. Reads Ber (prefixes n) (depth - 1) true l (number (pos 0)) (0 ∷ 0 ∷ rest)) (sym (append_assoc (nested_in 160 (5 ∷ 0 ∷ []) n) (0 ∷ 0 ∷ []) rest))
      (prefixes_read n (depth - 1) true (0 ∷ 0 ∷ rest) (omega (arith, h)))
      ),
)

prefixes_deep : (n depth : ℕ) (c : Bool) (input : List ℕ) (t : Tree) (rest : List ℕ) → Reads Ber (prefixes n) depth c input t rest → n ≤ depth
unfolding Reads parts_of prefixes
prefixes_deep zero depth c input t rest h = omega arith
prefixes_deep (suc n) depth c input t rest (deep, bit, s, definite_form b f r) = let i = prefixes_deep n (depth - 1) false b t [] r in omega (arith, i, deep)
prefixes_deep (suc n) depth c input t rest (deep, bit, s, indefinite_form b f r) = let i = prefixes_deep n (depth - 1) true b t (0 ∷ 0 ∷ rest) r in omega (arith, i, deep)

pub prefixes_128 : IsReadAs Ber (prefixes 128) (nested_in 160 (5 ∷ 0 ∷ []) 128) (number (pos 0)) []
prefixes_128 = subst (λ l. Reads Ber (prefixes 128) 128 true l (number (pos 0)) []) (append-nil (nested_in 160 (5 ∷ 0 ∷ []) 128)) (prefixes_read 128 128 true [] (omega arith))

pub prefixes_129 : IsRefusedBy Ber (prefixes 129) (nested_in 160 (5 ∷ 0 ∷ []) 129)
prefixes_129 t rest h = let i = prefixes_deep 129 128 true (nested_in 160 (5 ∷ 0 ∷ []) 129) t rest h in omega (arith, i)
