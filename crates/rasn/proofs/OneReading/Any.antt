-- Open octets are read in one way.
use Rattle.std.proofs.Common.{◌≡◌, ℕ, ◌⊎◌, inl, inr, List, ◌∷◌, ◌++◌, sym, ap, ◌∙◌}
use Rattle.std.proofs.lemmas.List.{append_cancel_right}
use Rattle.rasn_types.specs.Tags.{form}
use Rattle.rasn_types.specs.declared.types.codec.Codec.{Codec}
use Rattle.rasn_types.specs.declared.types.tag.Tag.{Tag}
use Rattle.rasn_types.specs.Framing.{definite, indefinite, Frame, CompleteEncodings}
use Rattle.rasn_types.specs.Shapes.{numbers}
use Rattle.rasn_types.specs.Grammar.{ReadsOpen, ReadsAny}
use Rattle.rasn_types.proofs.Headers.Frames.{frame_one}
use Rattle.rasn_types.proofs.Encoding.Complete.{whole_one, wholes_one, whole_text_one}
use Rattle.rasn.proofs.OneReading.Joined.{IsOne}

pub any_one : (rule : Codec) → IsOne (ReadsAny rule)
any_one rule input t u r s h k =
    let e : h.0 ++ r ≡ k.0 ++ s = sym h.3 ∙ k.3 in
    (h.1 ∙ (ap numbers (whole_text_one r s h.2 k.2 e) ∙ sym k.1), (whole_one r s h.2 k.2 e).0)

pub open_one : (rule : Codec) (tag : Tag) → IsOne (ReadsOpen rule tag)
open_one rule tag input t u r s h k = go h.4 k.4
  where
    go : Frame (form rule) input tag h.0 r (definite h.1) ⊎ ((body : List ℕ) × Frame (form rule) input tag h.0 body indefinite × CompleteEncodings rule h.1 × (body ≡ h.1 ++ (0 ∷ 0 ∷ r)))
        → Frame (form rule) input tag k.0 s (definite k.1) ⊎ ((body : List ℕ) × Frame (form rule) input tag k.0 body indefinite × CompleteEncodings rule k.1 × (body ≡ k.1 ++ (0 ∷ 0 ∷ s)))
        → (t ≡ u) × (r ≡ s)
    go (inl f) (inl g) =
        let o = frame_one input f g in let e = o.extent in let p : h.1 ≡ k.1 = cc in (h.2 ∙ (ap numbers p ∙ sym k.2), o.rest)
    go (inl f) (inr g) = let e = (frame_one input f g.1).extent in cc
    go (inr f) (inl g) = let e = (frame_one input f.1 g).extent in cc
    go (inr f) (inr g) =
        let o = (frame_one input f.1 g.1).rest in
        let e : h.1 ++ (0 ∷ 0 ∷ r) ≡ k.1 ++ (0 ∷ 0 ∷ s) = sym f.3 ∙ (o ∙ g.3) in
        let q : r ≡ s = (wholes_one r s f.2 g.2 e).0 in
        let p : h.1 ≡ k.1 = append_cancel_right h.1 k.1 (0 ∷ 0 ∷ r) (e ∙ ap (λ l. k.1 ++ (0 ∷ 0 ∷ l)) (sym q)) in
        (h.2 ∙ (ap numbers p ∙ sym k.2), q)
