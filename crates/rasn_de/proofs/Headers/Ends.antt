-- Ends of lists.
use Rattle.std.proofs.Common.{◌≡◌, ℕ, Bool, List, [], ◌∷◌, ◌++◌, Ok, refl, sym, ap, ◌∙◌, append_assoc}
use Rattle.rasn_types.specs.declared.types.tag.Tag.{Tag}
use Rattle.rasn_de.specs.declared.ber.de.parser.headers.Expected.{Expected}
use Rattle.rasn_types.specs.Tags.{Form}
use Rattle.rasn_types.specs.Framing.{AreOctets, Extent, Frame, with_length, without_length}
use Rattle.rasn_de.specs.Headers.{Header, header_at}
use Rattle.rasn_de.specs.State.{IsEnd}
use Rattle.rasn_de.proofs.Headers.Frames.{header_parsed}

pub IsEnd-refl : (a : List ℕ) → IsEnd a a
IsEnd-refl a = ([], refl)

pub IsEnd-trans : (a b c : List ℕ) → IsEnd a b → IsEnd b c → IsEnd a c
IsEnd-trans a b c p q = (p.0 ++ q.0, p.1 ∙ ap (λ x. p.0 ++ x) q.1 ∙ sym (append_assoc p.0 q.0 c))

pub IsEnd-zeros : (a b : List ℕ) → a ≡ 0 ∷ 0 ∷ b → IsEnd a b
IsEnd-zeros a b e = (0 ∷ 0 ∷ [], e)

-- What follows a frame ends the list.
pub IsEnd-frame : {spelling : Form} (input : List ℕ) {tag : Tag} {bit : Bool} {rest : List ℕ} {x : Extent} → Frame spelling input tag bit rest x → IsEnd input rest
IsEnd-frame input {rest = rest} (with_length id len contents s a strict e) =
    (id ++ (len ++ contents), e ∙ ap (λ z. id ++ z) (sym (append_assoc len contents rest)) ∙ sym (append_assoc id (len ++ contents) rest))
IsEnd-frame input {rest = rest} (without_length id s b h e) = (id ++ (128 ∷ []), e ∙ sym (append_assoc id (128 ∷ []) rest))

pub IsEnd-header : (spelling : Form) (expected : Expected) (input : List ℕ) (h : Header) → AreOctets input → header_at spelling expected input ≡ Ok h → IsEnd input h.rest
IsEnd-header spelling expected input h o e = IsEnd-frame input (header_parsed spelling expected input h o e).0
