-- What calls of the reader return at the start of octets.
use Rattle.std.proofs.Common.{◌≡◌, List, ℕ, Some, Ok, Err, subst}
use Rattle.rasn_types.specs.declared.types.tag.Tag.{Tag}
use Rattle.rasn_types.specs.declared.types.codec.Codec.TheVariants.{Ber}
use Rattle.rasn_types.specs.declared.error.decode.DecodeError.{DecodeError}
use Rattle.rasn_types.specs.Tags.{form}
use Rattle.rasn_de.specs.declared.ber.de.constructed.ConstructedHeader.{ConstructedHeader}
use Rattle.rasn_de.specs.Constructed.{sequence_header, ConsumesOpening}
use Rattle.rasn_de.specs.ParserViews.{peeked_tag}
use Rattle.rasn_de.specs.State.{State}
use Rattle.rasn_de.specs.Steps.{PeeksTag}
use Rattle.rasn_dynamic.specs.Faults.{start as start_by}
use Rattle.rasn_lint.specs.Encoding.{start}
use Rattle.rasn_lint.specs.Header.{ReadsHeader}

pub refused_header : (tag : Tag) (octets : List ℕ) (d : ConstructedHeader) (s new : State) (e : DecodeError) → s ≡ start octets → d ≡ sequence_header tag → ConsumesOpening d s (Err e) new → ReadsHeader tag octets (Some e)
refused_header tag octets d s new e p q h =
    let k : ConsumesOpening d (start octets) (Err e) new = subst (λ z. ConsumesOpening d z (Err e) new) p h in
    let j : ConsumesOpening (sequence_header tag) (start octets) (Err e) new = subst (λ z. ConsumesOpening z (start octets) (Err e) new) q k in
    (j.0, new.rest, j.1, j.2)

pub peeked : (octets : List ℕ) (s : State) (t : Tag) → s ≡ start_by Ber octets → PeeksTag s (Ok t) → peeked_tag (form Ber) octets ≡ Ok t
peeked octets s t p h = subst (λ (z : State). peeked_tag (form z.rule) z.rest ≡ Ok t) p h

pub not_peeked : (octets : List ℕ) (s : State) (e : DecodeError) → s ≡ start_by Ber octets → PeeksTag s (Err e) → (t : Tag) → peeked_tag (form Ber) octets ≡ Ok t → ⊥
not_peeked octets s e p h t q =
    let k = subst (λ z. PeeksTag z (Err e)) p h in
    let f = k.0 in
    let r : peeked_tag (form Ber) octets ≡ Err f = k.1 in
    cc
