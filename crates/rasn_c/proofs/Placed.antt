-- A block of PEM with its place.
use Rattle.std.proofs.Common.{◌≡◌, ◌++◌, ◌∷◌, [], ℕ, ◌+◌, ◌-◌, List, Some, Result, Ok as Made, Err, Vec, ◌<◌, get_or, length, subst, refl, sym, ap, ◌∙◌, append_assoc, arith, length-append}
use Rattle.std.specs.Global.{Global}
use Rattle.std.specs.List.{flat_map}
use Rattle.std.specs.Prelude.{slice_get}
use Rattle.std.proofs.lemmas.Option.{slice_get_read}
use Rattle.rasn_text.specs.declared.pem.Block.{Block}
use Rattle.rasn_text.specs.declared.pem.PemError.{PemError}
use Rattle.rasn_text.specs.Pem.{AreBefore, AreBlocksOf, begin}
use Rattle.rasn_text.proofs.PemPlaces.{begins_at}
use Rattle.rasn_c.specs.Buffers.{IsFilled}
use Rattle.rasn_c.specs.Blocks.{IsPlaceOf, AreContentsPut, Holds, AnswersBlock}
use Rattle.rasn_c.specs.declared.blocks.BlockPlace.{BlockPlace}
use Rattle.rasn_c.specs.declared.status.Status.{Status}
use Rattle.rasn_c.specs.declared.status.Status.TheVariants.{Ok, Refused, OutOfMemory, BufferTooSmall, UnknownType, UnknownRule, BadSchema, UnknownPath, Absent}

pub placed : (text : List ℕ) (bs : List Block) (index : ℕ) (b : Block) (p : BlockPlace) → AreBlocksOf text bs → slice_get bs index ≡ Some b
    → ((front : List (List ℕ)) (rest : List ℕ) → AreBefore text front rest → length front + 1 ≡ b.line → p.label ≡ length text - length rest + 11)
    → p.label_length ≡ length b.label.now → p.line ≡ b.line → IsPlaceOf text b p
placed text bs index b p are at starts l n =
    let (front, after, lines, k) = begins_at text bs index b are at in
    let fed : List ℕ = flat_map (λ l. l ++ 10 ∷ []) front in
    let rest : List ℕ = begin ++ (b.label.now ++ after) in
    let eleven : length begin ≡ 11 = refl in
    let all : length text ≡ length fed + length rest = ap length lines.text_is ∙ length-append fed rest in
    record {
      front = front;
      before = fed ++ begin;
      after = after;
      lines = lines;
      text_is = lines.text_is ∙ sym (append_assoc fed begin (b.label.now ++ after));
      label = omega (arith, starts front rest lines k, all, length-append fed begin, eleven);
      label_length = l;
      line = n ∙ sym k;
    }

pub filled : (text : List ℕ) (index : ℕ) (p : BlockPlace) (octets : Vec ℕ Global) (old new : List ℕ) (needed : ℕ) (status : Status) → Holds text index p (Made octets) → IsFilled octets.items old new needed status
    → AnswersBlock text index p old new needed status
filled text index p octets old new needed Ok h f = (octets, h, f.0, f.1, f.2)
filled text index p octets old new needed BufferTooSmall h f = (octets, h, f.0, f.1, f.2)
filled text index p octets old new needed Refused h f = absurd f
filled text index p octets old new needed OutOfMemory h f = absurd f
filled text index p octets old new needed UnknownType h f = absurd f
filled text index p octets old new needed UnknownRule h f = absurd f
filled text index p octets old new needed BadSchema h f = absurd f
filled text index p octets old new needed UnknownPath h f = absurd f
filled text index p octets old new needed Absent h f = absurd f

pub answered : (text : List ℕ) (index : ℕ) (p : BlockPlace) (contents : Result (Vec ℕ Global) PemError) (old new : List ℕ) (needed : ℕ) (status : Status) → Holds text index p contents
    → AreContentsPut contents old new needed status → AnswersBlock text index p old new needed status
answered text index p (Made octets) old new needed status h f = filled text index p octets old new needed status h f
answered text index p (Err e) old new needed status h f = subst (λ s. AnswersBlock text index p old new needed s) (sym f.0) (e, h, f.1)

-- The block that is found is the one with the index.
pub held : (text : List ℕ) (found slice : List Block) (index : ℕ) (b : Block) (p : BlockPlace) → AreBlocksOf text found → slice ≡ found → index < length slice → b ≡ get_or slice index b
    → ((front : List (List ℕ)) (rest : List ℕ) → AreBefore text front rest → length front + 1 ≡ b.line → p.label ≡ length text - length rest + 11)
    → p.label_length ≡ length b.label.now → p.line ≡ b.line → Holds text index p b.contents
held text found slice index b p are same within at starts l n =
    let is : slice_get found index ≡ Some b = subst (λ z. slice_get z index ≡ Some b) same (slice_get_read slice (length slice) index b refl within at) in
    (b, (found, are, is), placed text found index b p are is starts l n, refl)
