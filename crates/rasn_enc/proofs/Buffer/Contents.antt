-- Primitive values after octets, header first.
use Rattle.std.proofs.Common.{◌≡◌, ℕ, ◌<◌, List, ◌++◌, length, ◌∙◌}
use Rattle.std.proofs.lemmas.List.{append_assoc}
use Rattle.rasn_types.specs.Tags.{tag_bit}
use Rattle.rasn_types.specs.declared.types.tag.Tag.{Tag}
use Rattle.rasn_enc.specs.Headers.{id_octets, length_octets, definite}
use Rattle.rasn_enc.specs.Buffer.Contents.{AppendsOctets, AppendsPrimitiveOctets}
use Rattle.rasn_enc.proofs.Headers.Spellings.{definite_is}

-- A header that tells how many octets follow, and those.
pub primitive_appended : (IsWritten : List ℕ → Type 0) (tag : Tag) (count : ℕ) (g a b c : List ℕ) → tag.value < 0x1_0000_0000 → count < 0x1_0000_0000_0000_0000
    → ((l : List ℕ) → IsWritten l → length l ≡ count) → a ≡ g ++ id_octets tag (tag_bit tag) → b ≡ a ++ length_octets count → AppendsOctets IsWritten b c
    → AppendsPrimitiveOctets IsWritten tag g c
unfolding definite
primitive_appended IsWritten tag count g a b c low few counts h k p =
    let n : length p.octets ≡ count = counts p.octets p.written in
    record {
      contents = p.octets;
      written = p.written;
      octets = definite tag (tag_bit tag) p.octets;
      encoded = definite_is tag (tag_bit tag) p.octets low (rw n few);
      is = p.is ∙ rw (n, k, h) (simp append_assoc);
    }
