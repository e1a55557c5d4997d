-- The view of a list that octets were taken off.
use Rattle.std.proofs.Common.{◌≡◌, ◌≤◌, ◌++◌, ℕ, List, take, map, length, refl, ap, sym, ◌∙◌, arith, Option, Some, None, option_map}
use Rattle.std.proofs.lemmas.List.{length-append}
use Rattle.std.proofs.Math.Seq.{take-append_seam}
use Rattle.rasn_types.specs.declared.types.codec.Codec.{Codec}
use Rattle.rasn_types.specs.declared.types.tag.Tag.{Tag}
use Rattle.rasn_enc.specs.View.{View, appended}
use Rattle.rasn_enc.specs.Buffer.Lists.{IsEndOf, count_of}
use Rattle.rasn_enc.specs.Buffer.Cuts.{list_from, Sound, Cut}
use Rattle.rasn_enc.specs.Buffer.OpenValues.{frame_in, Chain}
use Rattle.rasn_enc.specs.declared.ber.enc.writer.deferred_headers.DeferredHeader.{DeferredHeader}
use Rattle.rasn_enc.specs.declared.ber.enc.writer.Open.{Open}
use Rattle.rasn_enc.specs.declared.ber.enc.writer.ListEnd.{ListEnd}
use Rattle.rasn_enc.proofs.Buffer.OpenValues.{shown, frames-same, chain-same}

same_front : (a b x y : List ℕ) → a ++ x ≡ b ++ y → length a ≡ length b → a ≡ b
same_front a b x y e l = sym (take-append_seam a x) ∙ (ap (take (length a)) e ∙ (ap (λ n. take n (b ++ y)) l ∙ take-append_seam b y))

tags_back : (o : Option (List Tag)) (tags : List Tag) (n : ℕ) → n ≡ count_of o → option_map (take n) (option_map (λ kept. kept ++ tags) o) ≡ o
tags_back None tags n e = refl
tags_back (Some kept) tags n e = ap (λ l. Some l) (ap (λ z. take z (kept ++ tags)) e ∙ take-append_seam kept tags)

module _ (r : Codec) (xs : List ℕ) (ms : List DeferredHeader) (s f n : ℕ) (os : List Open) (h : Sound xs ms s f n) (k : Chain xs ms 0 0 os s f) (t : Option (List Tag)) where
  module _ (end : ListEnd) (v : View) (octets : List ℕ) (tags : List Tag) (m : IsEndOf v.last end) (e : shown r xs ms s f t os ≡ appended v octets tags) where
    octets_were : list_from xs ms s f ≡ v.last.octets ++ octets
    octets_were = ap (λ (x : View). x.last.octets) e

    pub end_within : end.octets ≤ n
    end_within = let l = ap length octets_were in let a = m.octets in let b = h.measure in omega (arith, l, a, b, length-append v.last.octets octets)

    pub cut_view : (ys : List ℕ) (ns : List DeferredHeader) (c : Cut xs ms s f end.octets ys ns) (t2 : Option (List Tag)) → t2 ≡ option_map (take end.tags) t → shown r ys ns s f t2 os ≡ v
    cut_view ys ns c t2 g =
        let rule : r ≡ v.rule = ap (λ (x : View). x.rule) e in
        let below : map (frame_in ys ns) os ≡ v.below = sym (frames-same xs ys ms ns 0 0 os s f k c.front c.headers_front) ∙ ap (λ (x : View). x.below) e in
        let l : length (list_from ys ns s f) ≡ length v.last.octets = sym c.sound.measure ∙ m.octets in
        let o : list_from ys ns s f ≡ v.last.octets = same_front (list_from ys ns s f) v.last.octets c.rest octets (sym c.list ∙ octets_were) l in
        let u : t2 ≡ v.last.tags = g ∙ (ap (option_map (take end.tags)) (ap (λ (x : View). x.last.tags) e) ∙ tags_back v.last.tags tags end.tags m.tags) in
        rw (rule, below, o, u) refl

  pub cut_chained : (m : ℕ) (ys : List ℕ) (ns : List DeferredHeader) → Cut xs ms s f m ys ns → Chain ys ns 0 0 os s f
  cut_chained m ys ns c = chain-same xs ys ms ns 0 0 os s f k c.front c.headers_front c.sound.start_within c.sound.first_within
