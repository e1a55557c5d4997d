use Rattle.rasn_schema_octets.proofs.kind.PlainKindEnumerated.from_discriminant.Goals as goal
use Rattle.std.proofs.Common.{arith, pos, neg_ℤ, ℤ, ◌≡◌, List, [], ◌∷◌, refl}
use Rattle.std.proofs.lemmas.Int.{ints}
use Rattle.std.proofs.lemmas.List.Elements.{All-contains, All-cons, All-nil}

-- The number is none of those that have a kind: each of them, from the last one on, is another.
pub returns-in_default : goal.returns-in_default
returns-in_default c = λ h.
    let P : ℤ → Type 0 = λ k. c.args.discriminant ≡ k → ⊥ in
    let from28 : List ℤ = [] in
    let none28 = All-nil P in
    let from27 : List ℤ = pos 27 ∷ from28 in
    let none27 = All-cons P (pos 27) from28 (λ e. omega (arith, ints, e)) none28 in
    let from26 : List ℤ = pos 26 ∷ from27 in
    let none26 = All-cons P (pos 26) from27 (λ e. omega (arith, ints, e)) none27 in
    let from25 : List ℤ = pos 25 ∷ from26 in
    let none25 = All-cons P (pos 25) from26 (λ e. omega (arith, ints, e)) none26 in
    let from24 : List ℤ = pos 24 ∷ from25 in
    let none24 = All-cons P (pos 24) from25 (λ e. omega (arith, ints, e)) none25 in
    let from23 : List ℤ = pos 23 ∷ from24 in
    let none23 = All-cons P (pos 23) from24 (λ e. omega (arith, ints, e)) none24 in
    let from22 : List ℤ = pos 22 ∷ from23 in
    let none22 = All-cons P (pos 22) from23 (λ e. omega (arith, ints, e)) none23 in
    let from21 : List ℤ = pos 21 ∷ from22 in
    let none21 = All-cons P (pos 21) from22 (λ e. omega (arith, ints, e)) none22 in
    let from20 : List ℤ = pos 20 ∷ from21 in
    let none20 = All-cons P (pos 20) from21 (λ e. omega (arith, ints, e)) none21 in
    let from19 : List ℤ = pos 19 ∷ from20 in
    let none19 = All-cons P (pos 19) from20 (λ e. omega (arith, ints, e)) none20 in
    let from18 : List ℤ = pos 18 ∷ from19 in
    let none18 = All-cons P (pos 18) from19 (λ e. omega (arith, ints, e)) none19 in
    let from17 : List ℤ = pos 17 ∷ from18 in
    let none17 = All-cons P (pos 17) from18 (λ e. omega (arith, ints, e)) none18 in
    let from16 : List ℤ = pos 16 ∷ from17 in
    let none16 = All-cons P (pos 16) from17 (λ e. omega (arith, ints, e)) none17 in
    let from15 : List ℤ = pos 15 ∷ from16 in
    let none15 = All-cons P (pos 15) from16 (λ e. omega (arith, ints, e)) none16 in
    let from14 : List ℤ = pos 14 ∷ from15 in
    let none14 = All-cons P (pos 14) from15 (λ e. omega (arith, ints, e)) none15 in
    let from13 : List ℤ = pos 13 ∷ from14 in
    let none13 = All-cons P (pos 13) from14 (λ e. omega (arith, ints, e)) none14 in
    let from12 : List ℤ = pos 12 ∷ from13 in
    let none12 = All-cons P (pos 12) from13 (λ e. omega (arith, ints, e)) none13 in
    let from11 : List ℤ = pos 11 ∷ from12 in
    let none11 = All-cons P (pos 11) from12 (λ e. omega (arith, ints, e)) none12 in
    let from10 : List ℤ = pos 10 ∷ from11 in
    let none10 = All-cons P (pos 10) from11 (λ e. omega (arith, ints, e)) none11 in
    let from9 : List ℤ = pos 9 ∷ from10 in
    let none9 = All-cons P (pos 9) from10 (λ e. omega (arith, ints, e)) none10 in
    let from8 : List ℤ = pos 8 ∷ from9 in
    let none8 = All-cons P (pos 8) from9 (λ e. omega (arith, ints, e)) none9 in
    let from7 : List ℤ = pos 7 ∷ from8 in
    let none7 = All-cons P (pos 7) from8 (λ e. omega (arith, ints, e)) none8 in
    let from6 : List ℤ = pos 6 ∷ from7 in
    let none6 = All-cons P (pos 6) from7 (λ e. omega (arith, ints, e)) none7 in
    let from5 : List ℤ = pos 5 ∷ from6 in
    let none5 = All-cons P (pos 5) from6 (λ e. omega (arith, ints, e)) none6 in
    let from4 : List ℤ = pos 4 ∷ from5 in
    let none4 = All-cons P (pos 4) from5 (λ e. omega (arith, ints, e)) none5 in
    let from3 : List ℤ = pos 3 ∷ from4 in
    let none3 = All-cons P (pos 3) from4 (λ e. omega (arith, ints, e)) none4 in
    let from2 : List ℤ = pos 2 ∷ from3 in
    let none2 = All-cons P (pos 2) from3 (λ e. omega (arith, ints, e)) none3 in
    let from1 : List ℤ = pos 1 ∷ from2 in
    let none1 = All-cons P (pos 1) from2 (λ e. omega (arith, ints, e)) none2 in
    let from0 : List ℤ = pos 0 ∷ from1 in
    let none0 = All-cons P (pos 0) from1 (λ e. omega (arith, ints, e)) none1 in
    All-contains P from0 c.args.discriminant none0 h refl
