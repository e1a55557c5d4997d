-- Refusals of contents that were taken.
use Rattle.std.proofs.Common.{◌≡◌, ℕ, List, Result, Ok, Err, refl, sym, ap, ◌∙◌, subst}
use Rattle.rasn_types.specs.declared.types.tag.Tag.{Tag}
use Rattle.rasn_types.specs.declared.error.decode.DecodeError.{DecodeError}
use Rattle.rasn_types.specs.Framing.{indefinite}
use Rattle.rasn_de.specs.declared.ber.de.parser.ParseError.{ParseError}
use Rattle.rasn_de.specs.declared.ber.de.parser.ParseError.TheVariants.{IndefiniteLengthNotAllowed}
use Rattle.rasn_de.specs.declared.ber.de.parser.Value.{Value}
use Rattle.rasn_de.specs.declared.ber.de.parser.headers.Expected.{Expected}
use Rattle.rasn_de.specs.declared.ber.de.parser.Contents.TheVariants.{Indefinite}
use Rattle.rasn_types.specs.Tags.{form, tag_bit}
use Rattle.rasn_de.specs.Headers.{header_at, as_written}
use Rattle.rasn_de.specs.ParserViews.{extent, header_with}
use Rattle.rasn_de.specs.Causes.{Cause, fault}
use Rattle.rasn_de.specs.Leaves.{definite_at, Readings, FromContents, LeafAt, FailsAs, DecodesLeaf}
use Rattle.rasn_de.specs.State.{State, at}
use Rattle.rasn_de.specs.Steps.{IsErrorOf, Consumes}

pub rule_is : (old new : State) → new ≡ at old new.rest → new.rule ≡ old.rule
rule_is old new s = ap (λ (x : State). x.rule) s

-- the error of a fault of the decoder, which has the same rules as before
pub refuses_fault : {X : Type 0} (Is : Readings X) (old new : State) (f : ParseError) (e : DecodeError) → Is (Err (fault f, new.rest)) → new ≡ at old new.rest → IsErrorOf f new e → FailsAs Is old e new
refuses_fault Is old new f e r s k = (fault f, r, ap (λ (x : DecodeError). x.kind) k, ap (λ (x : DecodeError). x.codec) k ∙ rule_is old new s, s)

-- an indefinite form where it has none
pub indefinite_refused : (tag : Tag) (old new : State) (v : Value) (e : DecodeError) (x : Expected) → x ≡ as_written old.rule tag (tag_bit tag) → header_at (form old.rule) x old.rest ≡ Ok (header_with v new.rest) → v.contents ≡ Indefinite → new ≡ at old new.rest
    → IsErrorOf IndefiniteLengthNotAllowed new e → FailsAs (λ r. definite_at old.rule tag old.rest ≡ r) old e new
indefinite_refused tag old new v e x q g i s k =
    let h = subst (λ z. header_at (form old.rule) z old.rest ≡ Ok (header_with v new.rest)) q g in
    let y : extent v.contents ≡ indefinite = ap extent i in
    refuses_fault (λ r. definite_at old.rule tag old.rest ≡ r) old new IndefiniteLengthNotAllowed e (rw (h, y) refl) s k

-- where the contents are refused, the value is
pub leaf_refused : {X : Type 0} (read : List ℕ → Result X Cause → Type 0) (tag : Tag) (old new : State) (e : DecodeError) → FailsAs (λ r. definite_at old.rule tag old.rest ≡ r) old e new
    → FailsAs (LeafAt read old.rule tag old.rest) old e new
leaf_refused {X} read tag old new e (cause, f, t, c, s) = (cause, subst (λ d. FromContents read d (Err (cause, new.rest))) (sym f) refl, t, c, s)

-- contents that aren't a value's
pub contents_refused : {X : Type 0} (read : List ℕ → Result X Cause → Type 0) (tag : Tag) (old new : State) (c : List ℕ) (f : ParseError) (e : DecodeError) → definite_at old.rule tag old.rest ≡ Ok (c, new.rest) → read c (Err (fault f))
    → new ≡ at old new.rest → IsErrorOf f new e → FailsAs (LeafAt read old.rule tag old.rest) old e new
contents_refused read tag old new c f e h r s k =
    refuses_fault (LeafAt read old.rule tag old.rest) old new f e (subst (λ d. FromContents read d (Err (fault f, new.rest))) (sym h) (r, refl)) s k

-- contents that are a value's
pub contents_read : {X Y : Type 0} (see : Y → X) (read : List ℕ → Result X Cause → Type 0) (tag : Tag) (old new : State) (c : List ℕ) (y : Y) → definite_at old.rule tag old.rest ≡ Ok (c, new.rest) → read c (Ok (see y))
    → new ≡ at old new.rest → DecodesLeaf see (LeafAt read old.rule tag old.rest) old (Ok y) new
contents_read see read tag old new c y h r s = (subst (λ d. FromContents read d (Ok (see y, new.rest))) (sym h) (r, refl), s)

pub same_at : (old new : State) → new ≡ old → new ≡ at old new.rest
same_at old new s = s ∙ ap (λ r. at old r) (sym (ap (λ (x : State). x.rest) s))

-- where no header is, no contents are
pub header_refused : (tag : Tag) (old new : State) (e : DecodeError) (x : Expected) → x ≡ as_written old.rule tag (tag_bit tag) → Consumes x old (Err e) new → FailsAs (λ r. definite_at old.rule tag old.rest ≡ r) old e new
header_refused tag old new e x q (f, g, k, s) =
    let h = subst (λ z. header_at (form old.rule) z old.rest ≡ Err f) q g in
    let r : new.rest ≡ old.rest = ap (λ (x : State). x.rest) s in
    (fault f, rw (h, r) refl, ap (λ (x : DecodeError). x.kind) k, ap (λ (x : DecodeError). x.codec) k, same_at old new s)
