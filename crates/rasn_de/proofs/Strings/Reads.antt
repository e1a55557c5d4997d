-- A string is read exactly if there is one.
use Rattle.std.proofs.Common.{◌≡◌, ℕ, zero, suc, ◌≤◌, ◌⊎◌, inl, inr, Bool, true, false, ◌&&◌, cond, List, [], ◌∷◌, ◌++◌, length, Result, Ok, Err, refl, sym, ap, ◌∙◌, subst, arith}
use Rattle.std.specs.Prelude.{nat_eq}
use Rattle.std.proofs.lemmas.Bool.Decides.{nat_tests}
use Rattle.rasn_types.specs.declared.types.tag.Tag.{Tag}
use Rattle.rasn_types.specs.declared.types.codec.Codec.{Codec}
use Rattle.rasn_types.specs.declared.types.codec.Codec.TheVariants.{Ber, Cer, Der}
use Rattle.rasn_de.specs.declared.ber.de.parser.ParseError.{ParseError}
use Rattle.rasn_de.specs.declared.ber.de.parser.ParseError.TheVariants.{Incomplete, MissingEndOfContents}
use Rattle.rasn_types.specs.Framing.{Extent, definite, indefinite, Frame, with_length, without_length, Ended}
use Rattle.rasn_types.specs.Tags.{Form, form, IsStrict}
use Rattle.rasn_types.specs.Readings.{ReadsMany}
use Rattle.rasn_types.specs.Contents.{joined_lists, ReadsString, primitive, segments, closed_segments, ReadsSegments}
use Rattle.rasn_de.specs.declared.ber.de.parser.headers.Expected.TheVariants.{Tagged}
use Rattle.rasn_de.specs.Headers.{◌>>=◌, header_at, is_der}
use Rattle.rasn_de.specs.Segments.{ends, segments_at, end_of_contents_at, octets_inside, definite_end, string_in, too_deep, segments_in, string_of, segment_at, string_at}
use Rattle.rasn_types.proofs.CharacterString.Segments.{many_segments, segments_many}
use Rattle.rasn_types.proofs.Time.Spellings.{both_true}
use Rattle.rasn_de.proofs.Headers.Results.{bind_ok, chosen, guarded, AreOctets, octets_back, octets_front}
use Rattle.rasn_de.proofs.Headers.Frames.{header_parsed, header_spelled}
use Rattle.rasn_de.proofs.Headers.Fronts.{frame_not_zero, frame_bit, frame_shorter}
use Rattle.rasn_de.proofs.Strings.Segments.{AllShorten, segment_shorter, with_front, string_plain}

ended_ends : (closing : Bool) (l : List ℕ) → Ended closing l → ends l ≡ true
ended_ends closing l (inl e) = rw e refl
ended_ends closing l (inr (c, more, e)) = rw e refl

-- one step of many: the segments that are read are many
pub many_parsed : {X : Type 0} (read : List ℕ → Result (List X × List ℕ) ParseError) (reads : List ℕ → List X → List ℕ → Type 0)
    → ((l : List ℕ) (p : List X × List ℕ) → AreOctets l → read l ≡ Ok p → reads l p.0 p.1 × AreOctets p.1)
    → (closing : Bool) (n : ℕ) (l : List ℕ) (q : List X × List ℕ) → AreOctets l → segments_at read n l ≡ Ok q → Ended closing q.1
    → (parts : List (List X)) × (q.0 ≡ joined_lists parts) × ReadsMany reads closing l parts q.1 × AreOctets q.1
unfolding segments_at
many_parsed read reads s closing zero l q o e h =
    let m0 : [] ≡ q.0 = cc in let m1 : l ≡ q.1 = cc in ([], sym m0, (subst (Ended closing) (sym m1) h, sym m1), subst AreOctets m1 o)
many_parsed {X} read reads s closing (suc n) l q o e h = go (λ p r k f. many_parsed read reads s closing n p r k f) (chosen (ends l) _ _ _ e)
  where
    go : ((p : List ℕ) (r : List X × List ℕ) → AreOctets p → segments_at read n p ≡ Ok r → Ended closing r.1 → (parts : List (List X)) × (r.0 ≡ joined_lists parts) × ReadsMany reads closing p parts r.1 × AreOctets r.1)
        → ((ends l ≡ true) × (◌≡◌ {A = Result (List X × List ℕ) ParseError} (Ok ([], l)) (Ok q))) ⊎ ((ends l ≡ false) × ((read l >>= λ p. with_front p.0 (segments_at read n p.1)) ≡ Ok q))
        → (parts : List (List X)) × (q.0 ≡ joined_lists parts) × ReadsMany reads closing l parts q.1 × AreOctets q.1
    go more (inl (t, f)) = let m0 : [] ≡ q.0 = cc in let m1 : l ≡ q.1 = cc in ([], sym m0, (subst (Ended closing) (sym m1) h, sym m1), subst AreOctets m1 o)
    go more (inr (t, f)) =
        let p = bind_ok (read l) _ q f in
        let r = bind_ok (segments_at read n p.0.1) _ q p.2 in
        let g = r.2 in
        let m0 : p.0.0 ++ r.0.0 ≡ q.0 = cc in
        let m1 : r.0.1 ≡ q.1 = cc in
        let a = s l p.0 o p.1 in
        let k = more p.0.1 r.0 a.1 r.1 (subst (Ended closing) (sym m1) h) in
        (p.0.0 ∷ k.0, sym m0 ∙ ap (λ z. p.0.0 ++ z) k.1, ((λ ended. let x = ended_ends closing l ended in let y = t in cc), p.0.1, a.0, subst (λ z. ReadsMany reads closing p.0.1 k.0 z) m1 k.2), subst AreOctets m1 k.3)

pub many_spelled : {X : Type 0} (read : List ℕ → Result (List X × List ℕ) ParseError) (reads : List ℕ → List X → List ℕ → Type 0) → AllShorten read
    → ((l : List ℕ) (xs : List X) (rest : List ℕ) → AreOctets l → reads l xs rest → (read l ≡ Ok (xs, rest)) × AreOctets rest × (ends l ≡ false))
    → (closing : Bool) (n : ℕ) (parts : List (List X)) (l rest : List ℕ) → AreOctets l → length l ≤ n → ReadsMany reads closing l parts rest → segments_at read n l ≡ Ok (joined_lists parts, rest)
unfolding segments_at
many_spelled read reads s w closing zero [] l rest o h (e, f) = rw f refl
many_spelled read reads s w closing (suc n) [] l rest o h (e, f) = let t = ended_ends closing l e in rw (t, f) refl
many_spelled read reads s w closing zero (x ∷ xs) [] rest o h (e, m, r, k) = let t = (w [] x m o r).2 in cc
many_spelled read reads s w closing zero (x ∷ xs) (b ∷ l) rest o h (e, m, r, k) = absurd (omega arith)
many_spelled read reads s w closing (suc n) (x ∷ xs) l rest o h (e, m, r, k) =
    let a = w l x m o r in
    let t = a.2 in
    let p = a.0 in
    let i = many_spelled read reads s w closing n xs m rest a.1 (omega (arith, s l (x, m) a.0)) k in
    rw (t, p, i) refl

pub frame_octets : {spelling : Form} (input : List ℕ) {tag : Tag} {bit : Bool} {rest : List ℕ} {x : Extent} → AreOctets input → Frame spelling input tag bit rest x → AreOctets rest × AreOctets (octets_inside x rest)
frame_octets input {rest = rest} o (with_length id len contents s a strict e) =
    let k = octets_back len (contents ++ rest) (octets_back id (len ++ (contents ++ rest)) (subst AreOctets e o)) in (octets_back contents rest k, octets_front contents rest k)
frame_octets input {rest = rest} o (without_length id s b h e) = let k = (octets_back id (128 ∷ rest) (subst AreOctets e o)).1 in (k, k)

used_up_parsed : (rest left r : List ℕ) → definite_end rest left ≡ Ok r → (left ≡ []) × (r ≡ rest)
used_up_parsed rest [] r e = (refl, cc)
used_up_parsed rest (b ∷ l) r e = cc

pub closed_parsed : (left r : List ℕ) → end_of_contents_at left ≡ Ok r → left ≡ 0 ∷ 0 ∷ r
unfolding end_of_contents_at
closed_parsed [] r e = cc
closed_parsed (a ∷ []) r e = go (nat_eq a 0) e
  where
    go : (t : Bool) → ◌≡◌ {A = Result (List ℕ) ParseError} (cond t (Err (Incomplete 1)) (Err MissingEndOfContents)) (Ok r) → a ∷ [] ≡ 0 ∷ 0 ∷ r
    go true e = cc
    go false e = cc
closed_parsed (a ∷ b ∷ l) r e = go (chosen (nat_eq a 0 && nat_eq b 0) _ _ _ e)
  where
    go : ((nat_eq a 0 && nat_eq b 0 ≡ true) × (◌≡◌ {A = Result (List ℕ) ParseError} (Ok l) (Ok r))) ⊎ ((nat_eq a 0 && nat_eq b 0 ≡ false) × (◌≡◌ {A = Result (List ℕ) ParseError} (Err MissingEndOfContents) (Ok r))) → a ∷ b ∷ l ≡ 0 ∷ 0 ∷ r
    go (inl (t, f)) =
        let k = both_true (nat_eq a 0) (nat_eq b 0) t in
        let k0 = k.0 in let k1 = k.1 in
        let x : a ≡ 0 = grind (arith, nat_tests) in
        let y : b ≡ 0 = grind (arith, nat_tests) in
        let z : l ≡ r = cc in
        rw (x, y, z) refl
    go (inr (t, f)) = cc

not_der : (rule : Codec) → is_der rule ≡ false → IsStrict rule → ⊥
not_der Ber e = λ s. s
not_der Cer e = λ s. s
not_der Der e = cc

der_not : (rule : Codec) → (IsStrict rule → ⊥) → is_der rule ≡ false
der_not Ber h = refl
der_not Cer h = refl
der_not Der h = absurd (h tt)

-- what reads one segment's contents
abbrev pub Reads : {X : Type 0} → (List ℕ → Result (List X) ParseError) → List ℕ → List X → Type 0
Reads segment c xs = segment c ≡ Ok xs

abbrev pub Found : {X : Type 0} → Codec → (List ℕ → Result (List X) ParseError) → Tag → ℕ → Type 0
Found {X} rule segment inner_tag d = (tag : Tag) (l : List ℕ) (p : List X × List ℕ) → AreOctets l → string_at rule segment inner_tag d tag l ≡ Ok p → ReadsString rule (Reads segment) inner_tag d tag l p.0 p.1 × AreOctets p.1

segments_parsed : {X : Type 0} {rule : Codec} {segment : List ℕ → List X → Type 0} {octets_inside : Tag} {depth : ℕ} {closing : Bool} {input rest : List ℕ} (xs : List X) (parts : List (List X))
    → xs ≡ joined_lists parts → ReadsMany (ReadsString rule segment octets_inside depth octets_inside) closing input parts rest → ReadsSegments rule segment octets_inside depth closing input xs rest
segments_parsed {rule = rule} {segment} {octets_inside} {depth} {closing} {input} {rest} xs parts e m =
    subst (λ ys. ReadsSegments rule segment octets_inside depth closing input ys rest) (sym e) (many_segments input parts rest m)

nested_parsed : {X : Type 0} (rule : Codec) (segment : List ℕ → Result (List X) ParseError) (inner_tag : Tag) (d : ℕ) → Found rule segment inner_tag d
    → (tag : Tag) (l : List ℕ) (rest : List ℕ) (x : Extent) (p : List X × List ℕ) → AreOctets l → Frame (form rule) l tag true rest x → is_der rule ≡ false → segments_in (segment_at rule segment inner_tag d) x rest ≡ Ok p
    → ReadsString rule (Reads segment) inner_tag (suc d) tag l p.0 p.1 × AreOctets p.1
nested_parsed {X} rule segment inner_tag d s tag l rest (definite c) p o f w e =
    let q = bind_ok (segments_at (segment_at rule segment inner_tag d) (length c) c) _ p e in
    let r = bind_ok (definite_end rest q.0.1) _ p q.2 in
    let g = r.2 in
    let m0 : q.0.0 ≡ p.0 = cc in
    let m1 : r.0 ≡ p.1 = cc in
    let u = used_up_parsed rest q.0.1 r.0 r.1 in
    let v = frame_octets l o f in
    let k = many_parsed (segment_at rule segment inner_tag d) (ReadsString rule (Reads segment) inner_tag d inner_tag) (s inner_tag) false (length c) c q.0 v.1 q.1 (inl u.0) in (
      segments c (not_der rule w) (subst (λ z. Frame (form rule) l tag true z (definite c)) (sym u.1 ∙ m1) f)
          (segments_parsed p.0 k.0 (sym m0 ∙ k.1) (subst (λ z. ReadsMany (ReadsString rule (Reads segment) inner_tag d inner_tag) false c k.0 z) u.0 k.2)),
      subst AreOctets (sym u.1 ∙ m1) v.0,
    )
nested_parsed {X} rule segment inner_tag d s tag l rest indefinite p o f w e =
    let q = bind_ok (segments_at (segment_at rule segment inner_tag d) (length rest) rest) _ p e in
    let r = bind_ok (end_of_contents_at q.0.1) _ p q.2 in
    let g = r.2 in
    let m0 : q.0.0 ≡ p.0 = cc in
    let m1 : r.0 ≡ p.1 = cc in
    let u : q.0.1 ≡ 0 ∷ 0 ∷ p.1 = closed_parsed q.0.1 r.0 r.1 ∙ ap (λ z. 0 ∷ 0 ∷ z) m1 in
    let v = frame_octets l o f in
    let k = many_parsed (segment_at rule segment inner_tag d) (ReadsString rule (Reads segment) inner_tag d inner_tag) (s inner_tag) true (length rest) rest q.0 v.1 q.1 (inr (refl, p.1, u)) in (
      closed_segments rest (not_der rule w) f (segments_parsed p.0 k.0 (sym m0 ∙ k.1) (subst (λ z. ReadsMany (ReadsString rule (Reads segment) inner_tag d inner_tag) true rest k.0 z) u k.2)),
      (subst AreOctets u k.3).1.1,
    )

string_case : {X : Type 0} (rule : Codec) (segment : List ℕ → Result (List X) ParseError) (inner_tag : Tag) (d : ℕ) → Found rule segment inner_tag d
    → (tag : Tag) (l rest : List ℕ) (bit : Bool) (x : Extent) (p : List X × List ℕ) → AreOctets l → Frame (form rule) l tag bit rest x
    → string_in rule segment (segments_in (segment_at rule segment inner_tag d)) bit x rest ≡ Ok p → ReadsString rule (Reads segment) inner_tag (suc d) tag l p.0 p.1 × AreOctets p.1
string_case rule segment inner_tag d s tag l rest false (definite c) p o f e =
    let q = bind_ok (segment c) _ p e in
    let g = q.2 in
    let m0 : q.0 ≡ p.0 = cc in
    let m1 : rest ≡ p.1 = cc in
    (primitive c (subst (λ z. Frame (form rule) l tag false z (definite c)) m1 f) (q.1 ∙ ap Ok m0), subst AreOctets m1 (frame_octets l o f).0)
string_case rule segment inner_tag d s tag l rest false indefinite p o f e = let b = frame_bit f in cc
string_case rule segment inner_tag d s tag l rest true x p o f e =
    let g = guarded (is_der rule) _ _ p e in nested_parsed rule segment inner_tag d s tag l rest x p o f g.0 g.1

string_last : {X : Type 0} (rule : Codec) (segment : List ℕ → Result (List X) ParseError) (inner_tag : Tag)
    (tag : Tag) (l rest : List ℕ) (bit : Bool) (x : Extent) (p : List X × List ℕ) → AreOctets l → Frame (form rule) l tag bit rest x
    → string_in rule segment too_deep bit x rest ≡ Ok p → ReadsString rule (Reads segment) inner_tag zero tag l p.0 p.1 × AreOctets p.1
string_last rule segment inner_tag tag l rest false (definite c) p o f e =
    let q = bind_ok (segment c) _ p e in
    let g = q.2 in
    let m0 : q.0 ≡ p.0 = cc in
    let m1 : rest ≡ p.1 = cc in
    (primitive c (subst (λ z. Frame (form rule) l tag false z (definite c)) m1 f) (q.1 ∙ ap Ok m0), subst AreOctets m1 (frame_octets l o f).0)
string_last rule segment inner_tag tag l rest false indefinite p o f e = let b = frame_bit f in cc
string_last rule segment inner_tag tag l rest true x p o f e = let g = (guarded (is_der rule) _ _ p e).1 in cc

-- What is read is a string.
pub string_parsed : {X : Type 0} (rule : Codec) (segment : List ℕ → Result (List X) ParseError) (inner_tag : Tag) (d : ℕ) → Found rule segment inner_tag d
unfolding string_of
string_parsed rule segment inner_tag zero tag l p o e =
    let h = bind_ok (header_at (form rule) (Tagged tag) l) _ p e in
    let f = header_parsed (form rule) (Tagged tag) l h.0 o h.1 in
    string_last rule segment inner_tag tag l h.0.rest h.0.bit h.0.extent p o (subst (λ z. Frame (form rule) l z h.0.bit h.0.rest h.0.extent) f.1 f.0) h.2
string_parsed rule segment inner_tag (suc d) tag l p o e =
    let h = bind_ok (header_at (form rule) (Tagged tag) l) _ p e in
    let f = header_parsed (form rule) (Tagged tag) l h.0 o h.1 in
    string_case rule segment inner_tag d (string_parsed rule segment inner_tag d) tag l h.0.rest h.0.bit h.0.extent p o (subst (λ z. Frame (form rule) l z h.0.bit h.0.rest h.0.extent) f.1 f.0) h.2

frame_not_ends : {spelling : Form} (l : List ℕ) {tag : Tag} {bit : Bool} {rest : List ℕ} {x : Extent} → Frame spelling l tag bit rest x → ends l ≡ false
frame_not_ends [] f = absurd (omega (arith, frame_shorter f))
frame_not_ends (a ∷ []) f = refl
frame_not_ends {spelling} (a ∷ b ∷ l) {tag} {bit} {rest} {x} f = go (nat_eq a 0) refl
  where
    go : (t : Bool) → nat_eq a 0 ≡ t → t && nat_eq b 0 ≡ false
    go true e = let z : a ≡ 0 = grind (arith, nat_tests) in absurd (frame_not_zero (b ∷ l) f (ap (λ y. y ∷ b ∷ l) z))
    go false e = refl

abbrev pub Spelled : {X : Type 0} → Codec → (List ℕ → Result (List X) ParseError) → Tag → ℕ → Type 0
Spelled {X} rule segment inner_tag d = (tag : Tag) (l : List ℕ) (xs : List X) (rest : List ℕ) → AreOctets l → ReadsString rule (Reads segment) inner_tag d tag l xs rest → string_at rule segment inner_tag d tag l ≡ Ok (xs, rest)

string_not_ends : {X : Type 0} (rule : Codec) (segment : List ℕ → Result (List X) ParseError) (inner_tag : Tag) (d : ℕ) (l : List ℕ) (p : List X × List ℕ) → AreOctets l → string_at rule segment inner_tag d inner_tag l ≡ Ok p → ends l ≡ false
string_not_ends rule segment inner_tag d l p o e =
    let h = bind_ok (header_at (form rule) (Tagged inner_tag) l) _ p e in frame_not_ends l (header_parsed (form rule) (Tagged inner_tag) l h.0 o h.1).0

part_spelled : {X : Type 0} (rule : Codec) (segment : List ℕ → Result (List X) ParseError) (inner_tag : Tag) (d : ℕ) → Spelled rule segment inner_tag d
    → (l : List ℕ) (xs : List X) (rest : List ℕ) → AreOctets l → ReadsString rule (Reads segment) inner_tag d inner_tag l xs rest → (segment_at rule segment inner_tag d l ≡ Ok (xs, rest)) × AreOctets rest × (ends l ≡ false)
part_spelled rule segment inner_tag d s l xs rest o r =
    let e = s inner_tag l xs rest o r in
    (e, (string_parsed rule segment inner_tag d inner_tag l (xs, rest) o e).1, string_not_ends rule segment inner_tag d l (xs, rest) o e)

plain_spelled : {X : Type 0} (rule : Codec) (segment : List ℕ → Result (List X) ParseError) (inner_tag : Tag) (d : ℕ) (tag : Tag) (l : List ℕ) (xs : List X) (rest c : List ℕ) → AreOctets l
    → Frame (form rule) l tag false rest (definite c) → segment c ≡ Ok xs → string_at rule segment inner_tag d tag l ≡ Ok (xs, rest)
plain_spelled rule segment inner_tag d tag l xs rest c o f g =
    let h = header_spelled (form rule) (Tagged tag) l tag false rest (definite c) o refl f in
    rw h (string_plain rule segment inner_tag d (record { tag = tag; bit = false; extent = definite c; rest = rest }) c xs refl refl g)

-- A string is read.
pub string_spelled : {X : Type 0} (rule : Codec) (segment : List ℕ → Result (List X) ParseError) (inner_tag : Tag) (d : ℕ) → Spelled rule segment inner_tag d
unfolding string_of end_of_contents_at
string_spelled rule segment inner_tag d tag l xs rest o (primitive c f g) = plain_spelled rule segment inner_tag d tag l xs rest c o f g
string_spelled rule segment inner_tag (suc d) tag l xs rest o (segments c i f m) =
    let h = header_spelled (form rule) (Tagged tag) l tag true rest (definite c) o refl f in
    let p = segments_many m in
    let k = many_spelled (segment_at rule segment inner_tag d) (ReadsString rule (Reads segment) inner_tag d inner_tag) (segment_shorter rule segment inner_tag d)
    (part_spelled rule segment inner_tag d (string_spelled rule segment inner_tag d)) false (length c) p.0 c [] (frame_octets l o f).1 (omega arith) p.2 in
    let n = der_not rule i in
    rw h (rw (n, k) (ap (λ ys. Ok (ys, rest)) (sym p.1)))
string_spelled rule segment inner_tag (suc d) tag l xs rest o (closed_segments body i f m) =
    let h = header_spelled (form rule) (Tagged tag) l tag true body indefinite o refl f in
    let p = segments_many m in
    let k = many_spelled (segment_at rule segment inner_tag d) (ReadsString rule (Reads segment) inner_tag d inner_tag) (segment_shorter rule segment inner_tag d)
    (part_spelled rule segment inner_tag d (string_spelled rule segment inner_tag d)) true (length body) p.0 body (0 ∷ 0 ∷ rest) (frame_octets l o f).0 (omega arith) p.2 in
    let n = der_not rule i in
    rw h (rw (n, k) (ap (λ ys. Ok (ys, rest)) (sym p.1)))

-- Segments that are read in one way are read in another that holds of all of them.
mutual
  pub string_map : {X : Type 0} (rule : Codec) (R S : List ℕ → List X → Type 0) → ((l : List ℕ) (xs : List X) → R l xs → S l xs)
      → (inner_tag : Tag) (d : ℕ) (tag : Tag) (l : List ℕ) (xs : List X) (rest : List ℕ) → ReadsString rule R inner_tag d tag l xs rest → ReadsString rule S inner_tag d tag l xs rest
  string_map rule R S f inner_tag d tag l xs rest (primitive c g h) = primitive c g (f c xs h)
  string_map rule R S f inner_tag (suc d) tag l xs rest (segments c i g m) = segments c i g (segments_map rule R S f inner_tag d false c xs [] m)
  string_map rule R S f inner_tag (suc d) tag l xs rest (closed_segments body i g m) = closed_segments body i g (segments_map rule R S f inner_tag d true body xs (0 ∷ 0 ∷ rest) m)

  segments_map : {X : Type 0} (rule : Codec) (R S : List ℕ → List X → Type 0) → ((l : List ℕ) (xs : List X) → R l xs → S l xs)
      → (inner_tag : Tag) (d : ℕ) (closing : Bool) (l : List ℕ) (xs : List X) (rest : List ℕ) → ReadsSegments rule R inner_tag d closing l xs rest → ReadsSegments rule S inner_tag d closing l xs rest
  segments_map rule R S f inner_tag d closing l xs rest (ReadsSegments.none e) = ReadsSegments.none e
  segments_map rule R S f inner_tag d closing l xs rest (ReadsSegments.one_more first others middle n s more is) =
      ReadsSegments.one_more first others middle n (string_map rule R S f inner_tag d inner_tag l first middle s) (segments_map rule R S f inner_tag d closing middle others rest more) is
