-- Octets that were worked out by hand are refused as an open type and as unknown values, or aren't.
use Rattle.std.proofs.Common.{◌≡◌, ◌≢◌, ◌<◌, ℕ, inl, inr, List, [], ◌∷◌, length, None, false, Ok, Err, refl, arith}
use Rattle.rasn_types.specs.Tags.{loose, eoc}
use Rattle.rasn_types.specs.declared.types.tag.Class.TheVariants.{Universal}
use Rattle.rasn_types.specs.declared.types.codec.Codec.TheVariants.{Ber}
use Rattle.rasn_types.specs.Framing.{AreOctets, definite}
use Rattle.rasn_de.specs.declared.ber.de.parser.ParseError.TheVariants as parse
use Rattle.rasn_de.specs.declared.ber.de.parser.headers.Expected.TheVariants.{AnyTag}
use Rattle.rasn_de.specs.Causes.{error_kind}
use Rattle.rasn_de.specs.Headers.{Header, header_at, number128_at, tag_number_at, identifier_by, number256_at, long_at, length_at, header_by}
use Rattle.rasn_de.specs.Any.{OpenAt, DecodesOpenType}
use Rattle.rasn_de.specs.State.{at}
use Rattle.rasn_types.specs.Shapes.{any, numbers}
use Rattle.rasn_de.proofs.Any.Reads.{encoding_open, encoding_refused, open_decodes}
use Rattle.rasn_de.proofs.Any.Skipping.{skipped_plain, skipped_refused}
use Rattle.rasn.specs.Headline.{front}
use Rattle.rasn.specs.OneRefusal.{ReadsShape}
use Rattle.rasn.specs.WorkedKinds.{IsRefusedWith, IsNotRefused, open_errors, unknown_errors}
use Rattle.rasn.proofs.OneRefusal.Calls.{not_both}
use Rattle.rasn.proofs.ReadBack.Headers.{going}

-- An identifier without a length.
cut : header_at (loose Ber) AnyTag (5 ∷ []) ≡ Err (parse.Incomplete 1)
unfolding number128_at tag_number_at identifier_by number256_at long_at length_at header_by
cut = refl

cut_refused : OpenAt Ber None (5 ∷ []) (Err (parse.Incomplete 1))
cut_refused = encoding_refused Ber (5 ∷ []) (parse.Incomplete 1) (skipped_refused Ber (5 ∷ []) (parse.Incomplete 1) (omega arith, tt) cut)

pub open_type_cut : IsRefusedWith open_errors Ber (5 ∷ []) (error_kind (parse.Incomplete 1)) (5 ∷ [])
open_type_cut = ((inr (parse.Incomplete 1, cut_refused, refl), refl), λ w. cc)

-- A NULL before other octets.
abbrev header_of : List ℕ → Header
header_of rest = record { tag = record { class = Universal; value = 5 }; bit = false; extent = definite []; rest = rest }

before_nine : header_at (loose Ber) AnyTag (5 ∷ 0 ∷ 9 ∷ []) ≡ Ok (header_of (9 ∷ []))
unfolding number128_at tag_number_at identifier_by number256_at long_at length_at header_by
before_nine = refl

before_five : header_at (loose Ber) AnyTag (5 ∷ 0 ∷ 5 ∷ []) ≡ Ok (header_of (5 ∷ []))
unfolding number128_at tag_number_at identifier_by number256_at long_at length_at header_by
before_five = refl

octets : (n : ℕ) → n < 256 → AreOctets (5 ∷ 0 ∷ n ∷ [])
octets n h = (omega arith, (omega arith, (h, tt)))

opened : (n : ℕ) → n < 256 → header_at (loose Ber) AnyTag (5 ∷ 0 ∷ n ∷ []) ≡ Ok (header_of (n ∷ [])) → OpenAt Ber None (5 ∷ 0 ∷ n ∷ []) (Ok (5 ∷ 0 ∷ [], n ∷ []))
opened n h e = encoding_open Ber (5 ∷ 0 ∷ n ∷ []) 0 (n ∷ []) (skipped_plain Ber (5 ∷ 0 ∷ n ∷ []) (header_of (n ∷ [])) [] (octets n h) e refl)

pub open_type_read : IsNotRefused open_errors Ber (5 ∷ 0 ∷ 9 ∷ [])
open_type_read e new (a, n) =
    not_both (DecodesOpenType eoc) (ReadsShape (any None)) numbers (λ old o r new a. open_decodes eoc old new r a) (front Ber (5 ∷ 0 ∷ 9 ∷ [])) (octets 9 (omega arith)) (5 ∷ 0 ∷ []) e
    (at (front Ber (5 ∷ 0 ∷ 9 ∷ [])) (9 ∷ [])) new (opened 9 (omega arith) before_nine, refl) a n

fewer : length {A = ℕ} (5 ∷ []) ≢ length {A = ℕ} (5 ∷ 0 ∷ 5 ∷ [])
fewer e = cc

pub second_unknown_cut : IsRefusedWith unknown_errors Ber (5 ∷ 0 ∷ 5 ∷ []) (error_kind (parse.Incomplete 1)) (5 ∷ [])
second_unknown_cut =
    let old = front Ber (5 ∷ 0 ∷ 5 ∷ []) in (
      (
        (5 ∷ 0 ∷ []) ∷ [],
        at old (5 ∷ []),
        (at old (5 ∷ []), going old.closing 5 (0 ∷ 5 ∷ []) (omega arith), (opened 5 (omega arith) before_five, refl), fewer, refl),
        going old.closing 5 [] (omega arith),
        inl (inr (parse.Incomplete 1, cut_refused, refl), refl),
      ),
      λ w. cc,
    )
