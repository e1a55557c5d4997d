-- What the clauses of `der` say of a whole message: the same, without a premise.
use Rattle.std.proofs.Common.{◌≡◌, ◌≢◌, ◌⊎◌, inl, inr, ℕ, Bool, true, not, List, [], ◌++◌, Result, Ok, Err, IfOk, ◌∙◌, refl, sym, ap, true≢false}
use Rattle.std.specs.Bool.{Decides}
use Rattle.std.proofs.lemmas.Bool.Decides.{Decides-and}
use Rattle.std.proofs.lemmas.List.{append-nil}
use Rattle.std.specs.Global.{Vec}
use Rattle.rasn_types.specs.declared.types.codec.Codec.{Codec}
use Rattle.rasn_types.specs.declared.types.codec.Codec.TheVariants.{Ber, Cer, Der}
use Rattle.rasn_types.specs.declared.error.encode.EncodeError.{EncodeError}
use Rattle.rasn_types.specs.declared.error.decode.DecodeError.{DecodeError}
use Rattle.rasn_types.specs.Framing.{AreOctets}
use Rattle.rasn_types.specs.Shapes.{Shape, Tree, IsAlwaysPresent}
use Rattle.rasn_types.specs.Grammar.{Reads, top}
use Rattle.rasn_types.specs.Bytes.{Bytes}
use Rattle.rasn_types.specs.Lawful.{IsLawful}
use Rattle.rasn_types.specs.LawfulTest.{is_lawful}
use Rattle.rasn_types.proofs.Lawful.{lawful}
use Rattle.rasn.specs.Carries.{carries_all}
use Rattle.rasn.specs.Headline.{AnsweredAlone, Identify, IsCarriedAsWritten, Identifies}
use Rattle.rasn.specs.Messages.{is_optional, is_whole, IsReadBack}
use Rattle.rasn.proofs.Included.IntoBer.{IsOptional, solid_of}
use Rattle.rasn.proofs.LawsHold.Written.{included, read_again}
use Rattle.rasn.proofs.StrictDer.AllCarried.{all_carried}

is_true : (b : Bool) → Decides b (b ≡ true)
is_true b = (λ e. e, λ e. e)

pub whole_parts : (s : Shape) → is_whole s ≡ true → (is_lawful s ≡ true) × ((carries_all s ≡ true) × (not (is_optional s) ≡ true))
whole_parts s e = (Decides-and _ _ (is_true (is_lawful s)) (Decides-and _ _ (is_true (carries_all s)) (is_true (not (is_optional s))))).0 e

pub whole_lawful : (s : Shape) → is_whole s ≡ true → IsLawful s
whole_lawful s e = lawful s (whole_parts s e).0

whole_present : (s : Shape) → is_whole s ≡ true → IsAlwaysPresent s
whole_present s e = go (solid_of s (whole_lawful s e))
  where
    go : IsAlwaysPresent s ⊎ IsOptional s → IsAlwaysPresent s
    go (inl present) = present
    go (inr (tag, u, is, present)) = absurd (true≢false (sym (whole_parts s e).1.1 ∙ ap (λ k. not (is_optional k)) is))

pub carried_as_written : {T : Type 0} (s : Shape) → is_whole s ≡ true → (tree : T → Tree) (input : List ℕ) → AreOctets input → (r : Result T DecodeError)
    → AnsweredAlone Der s tree input r → IsCarriedAsWritten s tree input r
carried_as_written s e tree input o (Ok v) a =
    let k = all_carried s (whole_lawful s e) (whole_parts s e).1.0 input o (tree v) [] a.0 in (k.0, k.1 ∙ append-nil k.0.octets)
carried_as_written s e tree input o (Err f) a = tt

pub identifies : (s : Shape) → is_whole s ≡ true → (t : Tree) (r : Result (Vec ℕ) EncodeError) → IfOk r (λ octets. Identify s t octets.items)
    → IfOk r (λ octets. Identifies s t octets.items)
identifies s e t (Ok octets) h = h (whole_lawful s e)
identifies s e t (Err f) h = tt

by_rule : (s : Shape) → IsLawful s → (rule : Codec) → rule ≢ Cer → (input : List ℕ) (t : Tree) (rest : List ℕ)
    → Reads Der s 128 (top Der) input t rest → Reads rule s 128 (top rule) input t rest
by_rule s l Ber n input t rest r = included s l Der 128 input t rest r
by_rule s l Cer n input t rest r = absurd (n refl)
by_rule s l Der n input t rest r = r

pub is_read_back : (s : Shape) → is_whole s ≡ true → (t : Tree) (r : Result (Vec ℕ) EncodeError) → IfOk r (λ octets. Bytes Der s t octets.items)
    → IfOk r (λ octets. IsReadBack s t octets.items)
is_read_back s e t (Ok octets) b = λ limits rule n rest.
    let l = whole_lawful s e in
    let k = read_again s l Der t (record { octets = octets.items; is = b; within_limits = limits }) in
    (k.0, k.1, by_rule s l rule n (octets.items ++ rest) k.0 rest (k.3 (whole_present s e) rest))
is_read_back s e t (Err f) b = tt
