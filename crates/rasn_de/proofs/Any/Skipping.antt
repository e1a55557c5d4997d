-- The steps of one who passes whole encodings with a count of those that are open.
use Rattle.std.proofs.Common.{◌≡◌, ◌≢◌, ℕ, zero, suc, ◌+◌, ◌*◌, ◌<◌, ◌≤◌, inl, inr, Bool, true, List, [], ◌∷◌, ◌++◌, length, Result, Ok, Err, refl, sym, ap, ◌∙◌, subst, arith, append_assoc, append-nil}
use Rattle.rasn_types.specs.declared.types.tag.Tag.{Tag}
use Rattle.rasn_types.specs.declared.types.codec.Codec.{Codec}
use Rattle.rasn_de.specs.declared.ber.de.parser.ParseError.{ParseError}
use Rattle.rasn_types.specs.Tags.{Form, loose}
use Rattle.rasn_types.specs.Framing.{AreOctets, Extent, definite, indefinite, Frame, with_length, without_length, CompleteEncoding, plain, closed, CompleteEncodings, none, one_more, steps_in, steps_of}
use Rattle.rasn_types.proofs.Headers.Frames.{frame_one}
use Rattle.rasn_types.proofs.Encoding.Complete.{frame_more}
use Rattle.rasn_de.specs.declared.ber.de.parser.headers.Expected.TheVariants.{AnyTag}
use Rattle.rasn_de.specs.Headers.{Header, header_at}
use Rattle.rasn_de.specs.Skipping.{Skipped, EncodingsToEnd, IsNestedIn, IsUnparsable, IsFault, Exactly}
use Rattle.rasn_de.proofs.Headers.Results.{octets_back}
use Rattle.rasn_de.proofs.Headers.Fronts.{frame_not_zero, frame_bit, frame_shorter}
use Rattle.rasn_de.proofs.Headers.Frames.{header_spelled, header_parsed}

-- What is left, read as so many levels that are still to be closed, takes so many steps and leaves rest.
abbrev pub Levels : Codec → ℕ → List ℕ → ℕ → List ℕ → Type 0
Levels rule zero input t rest = (input ≡ rest) × (t ≡ 0)
Levels rule (suc n) input t rest = (middle : List ℕ) × (s : ℕ) × (u : ℕ) × EncodingsToEnd rule input s middle × Levels rule n middle u rest × (t ≡ s + u)

-- the front of a whole encoding is a frame
whole_frame : {rule : Codec} {text : List ℕ} (more : List ℕ) → CompleteEncoding rule text → (tag : Tag) × (bit : Bool) × (rest : List ℕ) × (extent : Extent) × Frame (loose rule) (text ++ more) tag bit rest extent
whole_frame more (plain tag bit contents f) = (tag, bit, more, definite contents, frame_more more f)
whole_frame more (closed tag bit body nested f inside is) = (tag, bit, body ++ more, indefinite, frame_more more f)

-- A closing pair is passed.
pub close_on : (rule : Codec) (n : ℕ) (after : List ℕ) (t : ℕ) (rest : List ℕ) → Levels rule n after t rest → Levels rule (suc n) (0 ∷ 0 ∷ after) (1 + t) rest
close_on rule n after t rest h = (after, 1, t, record { nested = []; inside = none; is = refl; steps_are = refl }, h, refl)

no_front : {rule : Codec} (y front back m : List ℕ) → CompleteEncoding rule front → 0 ∷ y ≡ (front ++ back) ++ m → ⊥
no_front y front back m w e = let f = whole_frame (back ++ m) w in frame_not_zero y f.4 (sym (append_assoc front back m) ∙ sym e)

close_nested : (rule : Codec) (after nested middle : List ℕ) (inside : CompleteEncodings rule nested) → 0 ∷ 0 ∷ after ≡ nested ++ (0 ∷ 0 ∷ middle) → (steps_of inside ≡ 0) × (middle ≡ after)
close_nested rule after nested middle none e = (refl, cc)
close_nested rule after nested middle (one_more front back w ws f) e = absurd (no_front (0 ∷ after) front back (0 ∷ 0 ∷ middle) w (e ∙ ap (λ z. z ++ (0 ∷ 0 ∷ middle)) f))

pub close_back : (rule : Codec) (n : ℕ) (after : List ℕ) (t : ℕ) (rest : List ℕ) → Levels rule (suc n) (0 ∷ 0 ∷ after) t rest → (u : ℕ) × (t ≡ 1 + u) × Levels rule n after u rest
close_back rule n after t rest (middle, s, u, c, h, e) =
    let r = close_nested rule after c.nested middle c.inside c.is in
    let k = c.steps_are in
    (u, omega arith, subst (λ z. Levels rule n z u rest) r.1 h)

-- A definite value is passed.
definite_text : {spelling : Form} {input : List ℕ} {tag : Tag} {bit : Bool} {rest contents : List ℕ} → Frame spelling input tag bit rest (definite contents)
    → (front : List ℕ) × Frame spelling front tag bit [] (definite contents) × (input ≡ front ++ rest)
definite_text {rest = rest} (with_length id len contents s a z e) =
    (id ++ (len ++ contents), with_length id len contents s a z (ap (λ z. id ++ (len ++ z)) (sym (append-nil contents))), e ∙ simp append_assoc)

pub pass_on : (rule : Codec) (n : ℕ) (input : List ℕ) (tag : Tag) (bit : Bool) (contents after : List ℕ) (t : ℕ) (rest : List ℕ)
    → Frame (loose rule) input tag bit after (definite contents) → Levels rule (suc n) after t rest → Levels rule (suc n) input (1 + t) rest
pass_on rule n input tag bit contents after t rest f (middle, s, u, c, h, e) =
    let d = definite_text f in (
      middle,
      1 + s,
      u,
      record {
        nested = d.0 ++ c.nested;
        inside = one_more d.0 c.nested (plain tag bit contents d.1) c.inside refl;
        is = d.2 ∙ (ap (λ z. d.0 ++ z) c.is ∙ simp append_assoc);
        steps_are = let k = c.steps_are in omega arith;
      },
      h,
      omega arith,
    )

-- whole encodings one after the other: the first of them
data First (rule : Codec) (input : List ℕ) (s : ℕ) (middle : List ℕ) : Type 0 where
  definite_first : (tag : Tag) (bit : Bool) (contents after : List ℕ) (v : ℕ) → Frame (loose rule) input tag bit after (definite contents) → EncodingsToEnd rule after v middle → s ≡ 1 + v → First rule input s middle
  open_first : (tag : Tag) (bit : Bool) (after between : List ℕ) (v w : ℕ) → Frame (loose rule) input tag bit after indefinite → EncodingsToEnd rule after v between → EncodingsToEnd rule between w middle → s ≡ 1 + (v + w) → First rule input s middle
  closed_first : input ≡ 0 ∷ 0 ∷ middle → s ≡ 1 → First rule input s middle

first_whole : (rule : Codec) (front back middle : List ℕ) (w : CompleteEncoding rule front) (ws : CompleteEncodings rule back) → First rule (front ++ (back ++ (0 ∷ 0 ∷ middle))) (1 + ((1 + steps_in w) + steps_of ws)) middle
first_whole rule front back middle (plain tag bit contents f) ws =
    definite_first tag bit contents (back ++ (0 ∷ 0 ∷ middle)) (1 + steps_of ws) (frame_more (back ++ (0 ∷ 0 ∷ middle)) f)
    (record { nested = back; inside = ws; is = refl; steps_are = refl }) (omega arith)
first_whole rule front back middle (closed tag bit body nested f inside is) ws =
    open_first tag bit (body ++ (back ++ (0 ∷ 0 ∷ middle))) (back ++ (0 ∷ 0 ∷ middle)) (1 + steps_of inside) (1 + steps_of ws) (frame_more (back ++ (0 ∷ 0 ∷ middle)) f)
    (record { nested = nested; inside = inside; is = ap (λ z. z ++ (back ++ (0 ∷ 0 ∷ middle))) is ∙ simp append_assoc; steps_are = refl })
    (record { nested = back; inside = ws; is = refl; steps_are = refl }) (omega arith)

first_nested : (rule : Codec) (nested middle : List ℕ) (ws : CompleteEncodings rule nested) → First rule (nested ++ (0 ∷ 0 ∷ middle)) (1 + steps_of ws) middle
first_nested rule nested middle none = closed_first refl refl
first_nested rule nested middle (one_more front back w ws e) =
    subst (λ z. First rule z (1 + ((1 + steps_in w) + steps_of ws)) middle) (sym (ap (λ z. z ++ (0 ∷ 0 ∷ middle)) e ∙ append_assoc front back (0 ∷ 0 ∷ middle))) (first_whole rule front back middle w ws)

first_of_closed : (rule : Codec) (input : List ℕ) (s : ℕ) (middle : List ℕ) → EncodingsToEnd rule input s middle → First rule input s middle
first_of_closed rule input s middle c =
    subst (λ z. First rule z s middle) (sym c.is) (subst (λ z. First rule (c.nested ++ (0 ∷ 0 ∷ middle)) z middle) (sym c.steps_are) (first_nested rule c.nested middle c.inside))

definite_one : (a b : List ℕ) → definite a ≡ indefinite → ⊥
definite_one a b e = cc

pub pass_back : (rule : Codec) (n : ℕ) (input : List ℕ) (tag : Tag) (bit : Bool) (contents after : List ℕ) (t : ℕ) (rest : List ℕ) → AreOctets input
    → Frame (loose rule) input tag bit after (definite contents) → Levels rule (suc n) input t rest → (u : ℕ) × (t ≡ 1 + u) × Levels rule (suc n) after u rest
pass_back rule n input tag bit contents after t rest o f (middle, s, u, c, h, e) = go (first_of_closed rule input s middle c)
  where
    go : First rule input s middle → (u : ℕ) × (t ≡ 1 + u) × Levels rule (suc n) after u rest
    go (definite_first a b k l v g d w) =
        let r = (frame_one input f g).rest in
        (v + u, omega arith, (middle, v, u, subst (λ z. EncodingsToEnd rule z v middle) (sym r) d, h, refl))
    go (open_first a b l m v w g d q x) = absurd (definite_one contents [] (frame_one input f g).extent)
    go (closed_first x y) = absurd (frame_not_zero (0 ∷ middle) f x)

-- A header of indefinite length is passed.
pub enter_on : (rule : Codec) (n : ℕ) (input : List ℕ) (tag : Tag) (bit : Bool) (after : List ℕ) (t : ℕ) (rest : List ℕ)
    → Frame (loose rule) input tag bit after indefinite → Levels rule (suc (suc n)) after t rest → Levels rule (suc n) input (1 + t) rest
enter_on rule n input tag bit after t rest (without_length id p q r i) (middle, s, u, c, (back, v, w, d, h, f), e) =
    let text : List ℕ = id ++ (128 ∷ (c.nested ++ (0 ∷ 0 ∷ []))) in
    let whole : CompleteEncoding rule text = closed tag bit (c.nested ++ (0 ∷ 0 ∷ [])) c.nested (without_length id p q r refl) c.inside refl in
    let k = c.steps_are in let l = d.steps_are in (
      back,
      1 + (s + v),
      w,
      record {
        nested = text ++ d.nested;
        inside = one_more text d.nested whole d.inside refl;
        is = i ∙ (ap (λ z. id ++ (128 ∷ z)) (c.is ∙ ap (λ z. c.nested ++ (0 ∷ 0 ∷ z)) d.is) ∙ simp append_assoc);
        steps_are = omega arith;
      },
      h,
      omega arith,
    )

pub enter_back : (rule : Codec) (n : ℕ) (input : List ℕ) (tag : Tag) (bit : Bool) (after : List ℕ) (t : ℕ) (rest : List ℕ) → AreOctets input
    → Frame (loose rule) input tag bit after indefinite → Levels rule (suc n) input t rest → (u : ℕ) × (t ≡ 1 + u) × Levels rule (suc (suc n)) after u rest
enter_back rule n input tag bit after t rest o f (middle, s, u, c, h, e) = go (first_of_closed rule input s middle c)
  where
    go : First rule input s middle → (u : ℕ) × (t ≡ 1 + u) × Levels rule (suc (suc n)) after u rest
    go (definite_first a b k l v g d w) = absurd (definite_one k [] (sym (frame_one input f g).extent))
    go (open_first a b l m v w g d q x) =
        let r = (frame_one input f g).rest in
        (v + (w + u), omega arith, (m, v, w + u, subst (λ z. EncodingsToEnd rule z v m) (sym r) d, (middle, w, u, q, h, refl), refl))
    go (closed_first x y) = absurd (frame_not_zero (0 ∷ middle) f x)

-- If neither a value nor end-of-contents octets follow, nothing is completed.
pub unparsable_back : (rule : Codec) (n : ℕ) (input : List ℕ) (t : ℕ) (rest : List ℕ) (fault : ParseError) → AreOctets input → header_at (loose rule) AnyTag input ≡ Err fault
    → ((more : List ℕ) → input ≡ 0 ∷ 0 ∷ more → ⊥) → Levels rule (suc n) input t rest → ⊥
unparsable_back rule n input t rest fault o x y (middle, s, u, c, h, e) = go (first_of_closed rule input s middle c)
  where
    no : (tag : Tag) (bit : Bool) (after : List ℕ) (extent : Extent) → Frame (loose rule) input tag bit after extent → ⊥
    no tag bit after extent f = let p = header_spelled (loose rule) AnyTag input tag bit after extent o tt f in let q = x in cc

    go : First rule input s middle → ⊥
    go (definite_first a b k l v g d w) = no a b l (definite k) g
    go (open_first a b l m v w g d q z) = no a b l indefinite g
    go (closed_first z w) = y middle z

-- One level that is closed.
pub level_one : (rule : Codec) (input : List ℕ) (t : ℕ) (rest : List ℕ) → Levels rule 1 input t rest → EncodingsToEnd rule input t rest
level_one rule input t rest (middle, s, u, c, (e, f), g) =
    let h : s ≡ t = omega arith in subst (λ z. EncodingsToEnd rule input t z) e (subst (λ z. EncodingsToEnd rule input z middle) h c)

pub one_level : (rule : Codec) (input : List ℕ) (t : ℕ) (rest : List ℕ) → EncodingsToEnd rule input t rest → Levels rule 1 input t rest
one_level rule input t rest c = (rest, t, 0, c, (refl, refl), omega arith)

-- Where the steps lead, in the input.
wholes_end : {rule : Codec} {nested text : List ℕ} → CompleteEncodings rule nested → CompleteEncoding rule text → CompleteEncodings rule (nested ++ text)
wholes_end {text = text} none w = one_more text [] w none (sym (append-nil text))
wholes_end {text = text} (one_more front back w ws e) v = one_more front (back ++ text) w (wholes_end ws v) (ap (λ z. z ++ text) e ∙ append_assoc front back text)

pub stand_start : (rule : Codec) (input : List ℕ) → IsNestedIn rule 0 input input
stand_start rule input = ([], none, refl)

pub stand_pass : (rule : Codec) (m : ℕ) (input l : List ℕ) (tag : Tag) (bit : Bool) (contents after : List ℕ) → Frame (loose rule) l tag bit after (definite contents)
    → IsNestedIn rule m input l → IsNestedIn rule m input after
stand_pass rule zero input l tag bit contents after f (nested, ws, e) =
    let d = definite_text f in
    (nested ++ d.0, wholes_end ws (plain tag bit contents d.1), e ∙ (ap (λ z. nested ++ z) d.2 ∙ simp append_assoc))
stand_pass rule (suc m) input l tag bit contents after f (nested, back, t, body, ws, e, g, h) =
    (nested, back, t, body, ws, e, g, stand_pass rule m body l tag bit contents after f h)

pub stand_enter : (rule : Codec) (m : ℕ) (input l : List ℕ) (tag : Tag) (after : List ℕ) → Frame (loose rule) l tag true after indefinite
    → IsNestedIn rule m input l → IsNestedIn rule (suc m) input after
stand_enter rule zero input l tag after f (nested, ws, e) = (nested, l, tag, after, ws, e, f, ([], none, refl))
stand_enter rule (suc m) input l tag after f (nested, back, t, body, ws, e, g, h) =
    (nested, back, t, body, ws, e, g, stand_enter rule m body l tag after f h)

closed_text : {rule : Codec} {back : List ℕ} {tag : Tag} {body : List ℕ} (nested after : List ℕ) → Frame (loose rule) back tag true body indefinite → CompleteEncodings rule nested → body ≡ nested ++ (0 ∷ 0 ∷ after)
    → (text : List ℕ) × CompleteEncoding rule text × (back ≡ text ++ after)
closed_text {tag = tag} nested after (without_length id p q r i) ws e = (
  id ++ (128 ∷ (nested ++ (0 ∷ 0 ∷ []))),
  closed tag true (nested ++ (0 ∷ 0 ∷ [])) nested (without_length id p q r refl) ws refl,
  i ∙ (ap (λ z. id ++ (128 ∷ z)) e ∙ simp append_assoc),
)

pub stand_close : (rule : Codec) (m : ℕ) (input after : List ℕ) → IsNestedIn rule (suc m) input (0 ∷ 0 ∷ after) → IsNestedIn rule m input after
stand_close rule zero input after (nested, back, tag, body, ws, e, f, (inner, vs, g)) =
    let c = closed_text inner after f vs g in
    (nested ++ c.0, wholes_end ws c.1, e ∙ (ap (λ z. nested ++ z) c.2 ∙ simp append_assoc))
stand_close rule (suc m) input after (nested, back, tag, body, ws, e, f, h) =
    (nested, back, tag, body, ws, e, f, stand_close rule m body after h)

-- What a count of open values, and of steps so far, says of the input.
pub record Passing (rule : Codec) (input : List ℕ) (count turned : ℕ) (left : List ℕ) : Type 0 where
  pub there : IsNestedIn rule count input left
  pub on : (t : ℕ) (rest : List ℕ) → Levels rule (suc count) left t rest → Levels rule 1 input (turned + t) rest
  pub back : (t : ℕ) (rest : List ℕ) → Levels rule 1 input t rest → (u : ℕ) × (t ≡ turned + u) × Levels rule (suc count) left u rest
  pub twice : 2 * turned + length left ≤ length input
  pub fewer : count ≤ turned

pub passing_start : (rule : Codec) (input : List ℕ) → Passing rule input 0 0 input
passing_start rule input = record {
  there = stand_start rule input;
  on = λ t rest h. subst (λ z. Levels rule 1 input z rest) (omega arith) h;
  back = λ t rest h. (t, omega arith, h);
  twice = omega arith;
  fewer = omega arith;
}

steps_more : (turned t : ℕ) → turned + (1 + t) ≡ (turned + 1) + t
steps_more turned t = omega arith

pub passing_definite : (rule : Codec) (input : List ℕ) (count turned : ℕ) (left : List ℕ) (tag : Tag) (bit : Bool) (contents after : List ℕ) → AreOctets left
    → Frame (loose rule) left tag bit after (definite contents) → Passing rule input count turned left → Passing rule input count (turned + 1) after
passing_definite rule input count turned left tag bit contents after o f p = record {
  there = stand_pass rule count input left tag bit contents after f p.there;
  on = λ t rest h. subst (λ z. Levels rule 1 input z rest) (steps_more turned t) (p.on (1 + t) rest (pass_on rule count left tag bit contents after t rest f h));
  back = λ t rest h. let q = p.back t rest h in let r = pass_back rule count left tag bit contents after q.0 rest o f q.2 in (r.0, q.1 ∙ (ap (λ z. turned + z) r.1 ∙ steps_more turned r.0), r.2);
  twice = let q = p.twice in omega (arith, frame_shorter f);
  fewer = let q = p.fewer in omega arith;
}

pub passing_open : (rule : Codec) (input : List ℕ) (count turned : ℕ) (left : List ℕ) (tag : Tag) (bit : Bool) (after : List ℕ) → AreOctets left
    → Frame (loose rule) left tag bit after indefinite → Passing rule input count turned left → Passing rule input (suc count) (turned + 1) after
passing_open rule input count turned left tag bit after o f p = record {
  there = stand_enter rule count input left tag after (subst (λ z. Frame (loose rule) left tag z after indefinite) (frame_bit f) f) p.there;
  on = λ t rest h. subst (λ z. Levels rule 1 input z rest) (steps_more turned t) (p.on (1 + t) rest (enter_on rule count left tag bit after t rest f h));
  back = λ t rest h. let q = p.back t rest h in let r = enter_back rule count left tag bit after q.0 rest o f q.2 in (r.0, q.1 ∙ (ap (λ z. turned + z) r.1 ∙ steps_more turned r.0), r.2);
  twice = let q = p.twice in omega (arith, frame_shorter f);
  fewer = let q = p.fewer in omega arith;
}

pub passing_close : (rule : Codec) (input : List ℕ) (count turned : ℕ) (after : List ℕ)
    → Passing rule input (suc count) turned (0 ∷ 0 ∷ after) → Passing rule input count (turned + 1) after
passing_close rule input count turned after p = record {
  there = stand_close rule count input after p.there;
  on = λ t rest h. subst (λ z. Levels rule 1 input z rest) (steps_more turned t) (p.on (1 + t) rest (close_on rule (suc count) after t rest h));
  back = λ t rest h. let q = p.back t rest h in let r = close_back rule (suc count) after q.0 rest q.2 in (r.0, q.1 ∙ (ap (λ z. turned + z) r.1 ∙ steps_more turned r.0), r.2);
  twice = let q = p.twice in omega arith;
  fewer = let q = p.fewer in omega arith;
}

-- The last closing pair.
pub passing_end : (rule : Codec) (input : List ℕ) (turned : ℕ) (after : List ℕ) → Passing rule input 0 turned (0 ∷ 0 ∷ after)
    → EncodingsToEnd rule input (turned + 1) after × ((t : ℕ) (rest : List ℕ) → EncodingsToEnd rule input t rest → (t ≡ turned + 1) × (rest ≡ after))
passing_end rule input turned after p = (
  level_one rule input (turned + 1) after (p.on 1 after (close_on rule 0 after 0 after (refl, refl))),
  λ t rest h. let q = p.back t rest (one_level rule input t rest h) in let r = close_back rule 0 after q.0 rest q.2 in
      let u = r.2.1 in let v = q.1 in let w = r.1 in (omega arith, sym r.2.0),
)

pub passing_unparsable : (rule : Codec) (input : List ℕ) (count turned : ℕ) (left : List ℕ) (fault : ParseError) → AreOctets left → header_at (loose rule) AnyTag left ≡ Err fault
    → ((more : List ℕ) → left ≡ 0 ∷ 0 ∷ more → ⊥) → Passing rule input count turned left
    → ((t : ℕ) (rest : List ℕ) → EncodingsToEnd rule input t rest → ⊥) × IsUnparsable rule input fault
passing_unparsable rule input count turned left fault o e z p = (
  λ t rest h. let q = p.back t rest (one_level rule input t rest h) in unparsable_back rule count left q.0 rest fault o e z q.2,
  record { levels = count; left = left; there = p.there; open_there = z; refused = e },
)

-- The whole encoding round what is closed.
pub skipped_definite : (rule : Codec) (input : List ℕ) (tag : Tag) (bit : Bool) (contents after : List ℕ) → AreOctets input → Frame (loose rule) input tag bit after (definite contents)
    → Skipped rule input 0 after × ((t : ℕ) (rest : List ℕ) → Skipped rule input t rest → (t ≡ 0) × (rest ≡ after))
skipped_definite rule input tag bit contents after o f = (one, other)
  where
    one : Skipped rule input 0 after
    one = let d = definite_text f in record { text = d.0; whole = plain tag bit contents d.1; is = d.2; steps_are = refl }

    go : (t : ℕ) (rest text : List ℕ) (w : CompleteEncoding rule text) → input ≡ text ++ rest → t ≡ steps_in w → (t ≡ 0) × (rest ≡ after)
    go t rest text (plain a b k g) e h = (h, sym ((frame_one input f (subst (λ z. Frame (loose rule) z a b rest (definite k)) (sym e) (frame_more rest g))).rest))
    go t rest text (closed a b body nested g ws i) e h =
        absurd (definite_one contents [] (frame_one input f (subst (λ z. Frame (loose rule) z a b (body ++ rest) indefinite) (sym e) (frame_more rest g))).extent)

    other : (t : ℕ) (rest : List ℕ) → Skipped rule input t rest → (t ≡ 0) × (rest ≡ after)
    other t rest s = go t rest s.text s.whole s.is s.steps_are

pub skipped_closed : (rule : Codec) (input : List ℕ) (tag : Tag) (bit : Bool) (body : List ℕ) (t : ℕ) (rest : List ℕ) → Frame (loose rule) input tag bit body indefinite → EncodingsToEnd rule body t rest → Skipped rule input t rest
skipped_closed rule input tag bit body t rest (without_length id p q r i) c = record {
  text = id ++ (128 ∷ (c.nested ++ (0 ∷ 0 ∷ [])));
  whole = closed tag bit (c.nested ++ (0 ∷ 0 ∷ [])) c.nested (without_length id p q r refl) c.inside refl;
  is = i ∙ (ap (λ z. id ++ (128 ∷ z)) c.is ∙ simp append_assoc);
  steps_are = c.steps_are;
}

pub closed_skipped : (rule : Codec) (input : List ℕ) (tag : Tag) (bit : Bool) (body : List ℕ) (t : ℕ) (rest : List ℕ) → AreOctets input → Frame (loose rule) input tag bit body indefinite → Skipped rule input t rest → EncodingsToEnd rule body t rest
closed_skipped rule input tag bit body t rest o f s = go s.text s.whole s.is s.steps_are
  where
    go : (text : List ℕ) (w : CompleteEncoding rule text) → input ≡ text ++ rest → t ≡ steps_in w → EncodingsToEnd rule body t rest
    go text (plain a b k g) e h = absurd (definite_one k [] (sym ((frame_one input f (subst (λ z. Frame (loose rule) z a b rest (definite k)) (sym e) (frame_more rest g))).extent)))
    go text (closed a b l nested g ws i) e h =
        let r = (frame_one input f (subst (λ z. Frame (loose rule) z a b (l ++ rest) indefinite) (sym e) (frame_more rest g))).rest in
        record { nested = nested; inside = ws; is = r ∙ (ap (λ z. z ++ rest) i ∙ simp append_assoc); steps_are = h }

pub skipped_none : (rule : Codec) (input : List ℕ) (fault : ParseError) → AreOctets input → header_at (loose rule) AnyTag input ≡ Err fault → (t : ℕ) (rest : List ℕ) → Skipped rule input t rest → ⊥
skipped_none rule input fault o x t rest s = go s.text s.whole s.is
  where
    no : (tag : Tag) (bit : Bool) (after : List ℕ) (extent : Extent) → Frame (loose rule) input tag bit after extent → ⊥
    no tag bit after extent f = let p = header_spelled (loose rule) AnyTag input tag bit after extent o tt f in let q = x in cc

    go : (text : List ℕ) → CompleteEncoding rule text → input ≡ text ++ rest → ⊥
    go text w e = let f = whole_frame rest w in no f.0 f.1 f.2 f.3 (subst (λ z. Frame (loose rule) z f.0 f.1 f.2 f.3) (sym e) f.4)

pub stands_end : (rule : Codec) (m : ℕ) (input l : List ℕ) → IsNestedIn rule m input l → (front : List ℕ) × (input ≡ front ++ l)
stands_end rule zero input l (nested, ws, e) = (nested, e)
stands_end rule (suc m) input l (nested, back, tag, body, ws, e, without_length id p q r i, h) =
    let k = stands_end rule m body l h in
    (nested ++ (id ++ (128 ∷ k.0)), e ∙ (ap (λ z. nested ++ z) (i ∙ ap (λ z. id ++ (128 ∷ z)) k.1) ∙ simp append_assoc))

pub octets_left : (rule : Codec) (input : List ℕ) (count turned : ℕ) (left : List ℕ) → AreOctets input → Passing rule input count turned left → AreOctets left
octets_left rule input count turned left o p = let k = stands_end rule count input left p.there in octets_back k.0 left (subst AreOctets k.1 o)

pub passing_at : (rule : Codec) (input : List ℕ) (count turned : ℕ) (left : List ℕ) (d : ℕ) (l : List ℕ) → Passing rule input count turned left → count ≡ d → left ≡ l → Passing rule input d turned l
passing_at rule input count turned left d l p e f = subst (λ z. Passing rule input z turned l) e (subst (λ z. Passing rule input count turned z) f p)

-- A header is passed.
pub passing_header : (rule : Codec) (input : List ℕ) (count turned : ℕ) (left : List ℕ) (h : Header) → AreOctets input → Passing rule input count turned left → header_at (loose rule) AnyTag left ≡ Ok h
    → (h.extent ≡ indefinite → Passing rule input (count + 1) (turned + 1) h.rest) × (h.extent ≢ indefinite → Passing rule input count (turned + 1) h.rest)
passing_header rule input count turned left h o p e = go h.extent ((header_parsed (loose rule) AnyTag left h k e).0)
  where
    k : AreOctets left
    k = octets_left rule input count turned left o p

    go : (x : Extent) → Frame (loose rule) left h.tag h.bit h.rest x → (x ≡ indefinite → Passing rule input (count + 1) (turned + 1) h.rest) × (x ≢ indefinite → Passing rule input count (turned + 1) h.rest)
    go (definite c) f = (λ e. cc, λ e. passing_definite rule input count turned left h.tag h.bit c h.rest k f p)
    go indefinite f = (λ e. subst (λ z. Passing rule input z (turned + 1) h.rest) (omega arith) (passing_open rule input count turned left h.tag h.bit h.rest k f p), λ e. absurd (e refl))

pub header_shorter : (rule : Codec) (input : List ℕ) (h : Header) → AreOctets input → header_at (loose rule) AnyTag input ≡ Ok h → length h.rest + 2 ≤ length input
header_shorter rule input h o e = frame_shorter ((header_parsed (loose rule) AnyTag input h o e).0)

pub Closed-turns : (rule : Codec) (input : List ℕ) (t : ℕ) (rest : List ℕ) → EncodingsToEnd rule input t rest → 1 ≤ t
Closed-turns rule input t rest c = let e = c.steps_are in omega arith

-- the whole encoding whose header this is
pub skipped_open : (rule : Codec) (input : List ℕ) (h : Header) (r : Result (ℕ × List ℕ) ParseError) → AreOctets input → header_at (loose rule) AnyTag input ≡ Ok h → h.extent ≡ indefinite
    → Exactly (EncodingsToEnd rule h.rest) (IsUnparsable rule h.rest) r → Exactly (Skipped rule input) (IsFault rule input) r
skipped_open rule input h r o e x = go r
  where
    f : Frame (loose rule) input h.tag h.bit h.rest indefinite
    f = subst (λ z. Frame (loose rule) input h.tag h.bit h.rest z) x ((header_parsed (loose rule) AnyTag input h o e).0)

    go : (r : Result (ℕ × List ℕ) ParseError) → Exactly (EncodingsToEnd rule h.rest) (IsUnparsable rule h.rest) r → Exactly (Skipped rule input) (IsFault rule input) r
    go (Ok p) (c, one) = (skipped_closed rule input h.tag h.bit h.rest p.0 p.1 f c, λ t rest s. one t rest (closed_skipped rule input h.tag h.bit h.rest t rest o f s))
    go (Err d) (never, unparsable) = (λ t rest s. never t rest (closed_skipped rule input h.tag h.bit h.rest t rest o f s), inr (h.tag, h.rest, subst (λ z. Frame (loose rule) input h.tag z h.rest indefinite) (frame_bit f) f, unparsable))

pub skipped_plain : (rule : Codec) (input : List ℕ) (h : Header) (contents : List ℕ) → AreOctets input → header_at (loose rule) AnyTag input ≡ Ok h → h.extent ≡ definite contents
    → Exactly (Skipped rule input) (IsFault rule input) (Ok (0, h.rest))
skipped_plain rule input h contents o e x =
    skipped_definite rule input h.tag h.bit contents h.rest o (subst (λ z. Frame (loose rule) input h.tag h.bit h.rest z) x ((header_parsed (loose rule) AnyTag input h o e).0))

pub skipped_refused : (rule : Codec) (input : List ℕ) (fault : ParseError) → AreOctets input → header_at (loose rule) AnyTag input ≡ Err fault
    → Exactly (Skipped rule input) (IsFault rule input) (Err fault)
skipped_refused rule input fault o e = (skipped_none rule input fault o e, inl e)

pub header_smaller : (rule : Codec) (input : List ℕ) (h : Header) → AreOctets input → header_at (loose rule) AnyTag input ≡ Ok h → length h.rest < length input
header_smaller rule input h o e = let k = header_shorter rule input h o e in omega arith
