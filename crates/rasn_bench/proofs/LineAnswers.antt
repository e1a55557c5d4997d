-- Results for octets, from what was read, written and normalised.
use Rattle.std.proofs.Common.{◌≡◌, ◌⊎◌, inl, inr, ℕ, List, Vec, Result, Ok, Err, length, sym, subst, refl}
use Rattle.std.specs.Prelude.{IfOk, IfErr}
use Rattle.std.specs.Global.{Global}
use Rattle.rasn_types.specs.declared.types.codec.Codec.{Codec}
use Rattle.rasn_types.specs.declared.types.codec.Codec.TheVariants.{Der}
use Rattle.rasn_types.specs.declared.error.decode.DecodeError.{DecodeError}
use Rattle.rasn_types.specs.declared.error.decode.DecodeErrorKind.{DecodeErrorKind}
use Rattle.rasn_types.specs.declared.error.decode.DecodeErrorKind.TheVariants.{OutOfMemory}
use Rattle.rasn_types.specs.declared.error.encode.EncodeError.{EncodeError}
use Rattle.rasn_types.specs.Errors.{IsOutOfMemory}
use Rattle.rasn_types.specs.Shapes.{Tree, Shape}
use Rattle.rasn_types.specs.Readings.{Reading}
use Rattle.rasn_types.specs.Grammar.{Reads, top}
use Rattle.rasn_types.specs.Bytes.{Bytes}
use Rattle.rasn_de.specs.Outcomes.{Exact, refusal}
use Rattle.rasn.specs.Headline.{EncodingFails}
use Rattle.rasn.specs.Normal.{IsNormal, IsNoNormal}
use Rattle.rasn.specs.declared.normal.NormaliseError.{NormaliseError}
use Rattle.rasn.proofs.Normalised.{no_normal}
use Rattle.rasn_bench.specs.declared.answer.Answer.{Answer}
use Rattle.rasn_bench.specs.declared.answer.Answer.TheVariants.{Read, NotWritten, Refused, Malformed}
use Rattle.rasn_bench.specs.declared.normal_answer.NormalAnswer.{NormalAnswer}
use Rattle.rasn_bench.specs.declared.normal_answer.NormalAnswer.TheVariants.{Normal, Refused as NormalRefused, Malformed as NormalMalformed}
use Rattle.rasn_bench.specs.declared.line.ValueType.{ValueType}
use Rattle.rasn_bench.specs.Lines.{Asks, type_word}
use Rattle.rasn_bench.specs.Answers.{IsAnswer, IsAnswerBy, IsRefusal, IsWrittenAnswer}
use Rattle.rasn_bench.specs.NormalAnswers.{IsNormalAnswer, IsNormalAnswerBy, IsNormalisedAnswer}

memory_or_none : (k : DecodeErrorKind) (R : Reading Tree) (input : List ℕ) → Exact R input (refusal k) → IsOutOfMemory k ⊎ ((t : Tree) (rest : List ℕ) → R input t rest → ⊥)
memory_or_none OutOfMemory R input h = inl refl
memory_or_none _ R input h = inr h

-- Nothing is read.
pub refused_answer : (rule : Codec) (s : Shape) (kind input : List ℕ) (e : DecodeError) (a : Answer) → Exact (Reads rule s 128 (top rule)) input (refusal e.kind)
    → IsRefusal (IsOutOfMemory e.kind) a → IsAnswer rule s kind input a
refused_answer rule s kind input e (Refused cause) x says = elim (memory_or_none e.kind (Reads rule s 128 (top rule)) input x) [
  | inl m ↦ inl (says m)
  | inr n ↦ inr n
]
refused_answer rule s kind input e (Read name n o) x says = absurd says
refused_answer rule s kind input e (NotWritten name n cause) x says = absurd says
refused_answer rule s kind input e Malformed x says = absurd says

-- A value is read, and is written or not.
pub written_answer : (rule : Codec) (s : Shape) (kind input rest : List ℕ) (t : Tree) (w : Result (Vec ℕ Global) EncodeError) (a : Answer) → Reads rule s 128 (top rule) input t rest
    → IfOk w (λ octets. Bytes Der s t octets.items) → IfErr w (EncodingFails Der s t) → IsWrittenAnswer kind (length rest) w a → IsAnswer rule s kind input a
written_answer rule s kind input rest t (Ok octets) (Read name n written) reads ok fails (e, f, g) =
    (e, (t, record { rest = rest; reads = reads; count_is = sym f }, subst (λ (o : Vec ℕ Global). Bytes Der s t o.items) (sym g) ok))
written_answer rule s kind input rest t (Ok octets) (NotWritten name n cause) reads ok fails says = absurd says
written_answer rule s kind input rest t (Ok octets) (Refused cause) reads ok fails says = absurd says
written_answer rule s kind input rest t (Ok octets) Malformed reads ok fails says = absurd says
written_answer rule s kind input rest t (Err e) (NotWritten name n cause) reads ok fails (f, g, h) =
    (f, (t, record { rest = rest; reads = reads; count_is = sym g }, elim fails [ inl m ↦ inl (h m) | inr n ↦ inr n.none ]))
written_answer rule s kind input rest t (Err e) (Read name n written) reads ok fails says = absurd says
written_answer rule s kind input rest t (Err e) (Refused cause) reads ok fails says = absurd says
written_answer rule s kind input rest t (Err e) Malformed reads ok fails says = absurd says

-- All of the input is normalised, or not.
pub normalised_answer : (rule : Codec) (s : Shape) (input : List ℕ) (r : Result (Vec ℕ Global) NormaliseError) (a : NormalAnswer) → IfOk r (λ octets. IsNormal rule s input octets.items)
    → IfErr r (IsNoNormal rule s input) → IsNormalisedAnswer r a → IsNormalAnswer rule s input a
normalised_answer rule s input (Ok octets) (Normal written) normal fails says = subst (λ (o : Vec ℕ Global). IsNormal rule s input o.items) (sym says) normal
normalised_answer rule s input (Ok octets) (NormalRefused cause) normal fails says = absurd says
normalised_answer rule s input (Ok octets) NormalMalformed normal fails says = absurd says
normalised_answer rule s input (Err e) (NormalRefused cause) normal fails says = elim (no_normal {rule = rule} {s = s} {input = input} e fails) [
  | inl m ↦ inl (says m)
  | inr n ↦ inr n
]
normalised_answer rule s input (Err e) (Normal written) normal fails says = absurd says
normalised_answer rule s input (Err e) NormalMalformed normal fails says = absurd says

-- The answer to what a line asks.
pub line_answer : (shape : ValueType → Shape) (line : List ℕ) (rule : Codec) (kind : ValueType) (octets : List ℕ) (a : Answer) → Asks line rule kind octets
    → IsAnswer rule (shape kind) (type_word kind) octets a → IsAnswerBy shape line a
line_answer shape line rule kind octets (Read name n o) asks is = (rule, kind, octets, asks, is)
line_answer shape line rule kind octets (NotWritten name n cause) asks is = (rule, kind, octets, asks, is)
line_answer shape line rule kind octets (Refused cause) asks is = (rule, kind, octets, asks, is)
line_answer shape line rule kind octets Malformed asks is = absurd is

pub normal_line : (shape : ValueType → Shape) (line : List ℕ) (rule : Codec) (kind : ValueType) (octets : List ℕ) (a : NormalAnswer) → Asks line rule kind octets
    → IsNormalAnswer rule (shape kind) octets a → IsNormalAnswerBy shape line a
normal_line shape line rule kind octets (Normal o) asks is = (rule, kind, octets, asks, is)
normal_line shape line rule kind octets (NormalRefused cause) asks is = (rule, kind, octets, asks, is)
normal_line shape line rule kind octets NormalMalformed asks is = absurd is
