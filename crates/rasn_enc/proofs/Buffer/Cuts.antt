-- Octets taken off the back of a list.
use Rattle.std.proofs.Common.{◌≡◌, ◌≤◌, ◌<◌, ◌+◌, ◌-◌, ◌++◌, ℕ, suc, [], ◌∷◌, List, drop, take, set, get_or, length, refl, ap, arith, ◌∙◌, sym, append_assoc}
use Rattle.std.proofs.lemmas.List.{append-nil, length-append, length-drop, take-append-le, take-append-drop, take-take, drop-append-le, drop_all, length-take-le, set_split}
use Rattle.std.proofs.Math.Seq.{drop-cons, take-length}
use Rattle.rasn_enc.specs.Buffer.DeferredHeaders.{deferred_octets, rendered, Rising}
use Rattle.rasn_enc.specs.Buffer.Cuts.{list_from, Cut}
use Rattle.rasn_enc.specs.declared.ber.enc.writer.deferred_headers.DeferredHeader.{DeferredHeader}
use Rattle.rasn_enc.proofs.Buffer.Rendered.{rising-below, rising-front, rising-back, rising-append, rendered-append, rendered-more, drop-all}

module _ (xs : List ℕ) (ms : List DeferredHeader) (start first m : ℕ) (ys : List ℕ) (ns : List DeferredHeader) (h : Cut xs ms start first m ys ns) where
  -- gathered octets, from place q on
  pub cut_octets : (q n : ℕ) → q ≤ length ys → Rising start (drop first ns) q → n + (length ys - q) ≡ m → Cut xs ms start first n (take q ys) ns
  cut_octets q n w r e =
      let l : length (take q ys) ≡ q = length-take-le q ys w in
      let r2 : Rising start (drop first ns) (length (take q ys)) = rw l r in
      let s : list_from ys ns start first ≡ list_from (take q ys) ns start first ++ drop q ys =
      ap (λ z. rendered z start (drop first ns)) (sym (take-append-drop q ys)) ∙ rendered-more (take q ys) (drop q ys) start (drop first ns) r2 in
      let b : start ≤ q = rising-below start (drop first ns) q r in
      let k = ap length s in
      let me = h.sound.measure in
      record {
        front = h.front ∙ sym (take-take start q ys b);
        headers_front = h.headers_front;
        sound = record {
          start_within = omega (arith, b, l);
          first_within = h.sound.first_within;
          rising = r2;
          measure = omega (arith, k, me, e, w, length-append (list_from (take q ys) ns start first) (drop q ys), length-drop q ys);
        };
        rest = drop q ys ++ h.rest;
        list = h.list ∙ (ap (λ z. z ++ h.rest) s ∙ append_assoc (list_from (take q ys) ns start first) (drop q ys) h.rest);
      }

  -- there is a last header
  module _ (ps : List DeferredHeader) (header : DeferredHeader) (is : ns ≡ ps ++ header ∷ []) (fw : first ≤ length ps) where
    headers : drop first ns ≡ drop first ps ++ header ∷ []
    headers = rw is (drop-append-le first ps (header ∷ []) fw)

    all_rising : Rising start (drop first ps ++ header ∷ []) (length ys)
    all_rising = rw headers at h.sound.rising

    front_rising : Rising start (drop first ps) header.at
    front_rising = rising-front start (drop first ps) header [] (length ys) all_rising

    pub last_within : header.at ≤ length ys
    last_within = rising-back start (drop first ps) header [] (length ys) all_rising

    pub stop_rising : (q : ℕ) → header.at ≤ q → Rising start (drop first ns) q
    stop_rising q k = rw headers (rising-append start (drop first ps) header [] q front_rising k)

    fronts : take first ns ≡ take first ps
    fronts = rw is (take-append-le first ps (header ∷ []) fw)

    -- what a last header shows if it follows all octets
    shows_last : (n : DeferredHeader) → n.at ≡ header.at → header.at ≡ length ys → rendered ys start (drop first ps ++ n ∷ []) ≡ list_from ys ps start first ++ deferred_octets n
    shows_last n same at_end =
        let r : Rising start (drop first ps) n.at = rw same front_rising in
        let z : n.at ≡ length ys = same ∙ at_end in
        rendered-append ys start (drop first ps) n [] r ∙ rw (z, take-length ys, drop-all ys, append-nil) refl

    module _ (at_end : header.at ≡ length ys) where
      before : list_from ys ns start first ≡ list_from ys ps start first ++ deferred_octets header
      before = ap (rendered ys start) headers ∙ shows_last header refl at_end

      -- the last header
      pub cut_header : (n : ℕ) → n + length (deferred_octets header) ≡ m → Cut xs ms start first n ys ps
      cut_header n e =
          let k = ap length before in
          let me = h.sound.measure in
          record {
            front = h.front;
            headers_front = h.headers_front ∙ fronts;
            sound = record {
              start_within = h.sound.start_within;
              first_within = fw;
              rising = rw (← at_end) front_rising;
              measure = omega (arith, k, me, e, length-append (list_from ys ps start first) (deferred_octets header));
            };
            rest = deferred_octets header ++ h.rest;
            list = h.list ∙ (ap (λ z. z ++ h.rest) before ∙ append_assoc (list_from ys ps start first) (deferred_octets header) h.rest);
          }

      -- some octets of the last header
      pub cut_head : (n k : ℕ) (part : DeferredHeader) → part.at ≡ header.at → k ≤ length (deferred_octets header) → deferred_octets part ≡ take k (deferred_octets header) → n + (length (deferred_octets header) - k) ≡ m
          → Cut xs ms start first n ys (ps ++ part ∷ [])
      cut_head n k part same few e f =
          let here : drop first (ps ++ part ∷ []) ≡ drop first ps ++ part ∷ [] = drop-append-le first ps (part ∷ []) fw in
          let after : list_from ys (ps ++ part ∷ []) start first ≡ list_from ys ps start first ++ deferred_octets part = ap (rendered ys start) here ∙ shows_last part same at_end in
          let split : deferred_octets header ≡ deferred_octets part ++ drop k (deferred_octets header) = sym (take-append-drop k (deferred_octets header)) ∙ ap (λ z. z ++ drop k (deferred_octets header)) (sym e) in
          let both : list_from ys ns start first ≡ list_from ys (ps ++ part ∷ []) start first ++ drop k (deferred_octets header) =
          before ∙ (ap (λ z. list_from ys ps start first ++ z) split ∙ (sym (append_assoc (list_from ys ps start first) (deferred_octets part) (drop k (deferred_octets header))) ∙ ap (λ z. z ++ drop k (deferred_octets header)) (sym after))) in
          let l = ap length both in
          let me = h.sound.measure in
          record {
            front = h.front;
            headers_front = h.headers_front ∙ (fronts ∙ sym (take-append-le first ps (part ∷ []) fw));
            sound = record {
              start_within = h.sound.start_within;
              first_within = omega (arith, fw, length-append ps (part ∷ []));
              rising = rw here (rising-append start (drop first ps) part [] (length ys) (rw same front_rising) (omega (arith, same, at_end)));
              measure = omega (arith, l, me, f, few, length-append (list_from ys (ps ++ part ∷ []) start first) (drop k (deferred_octets header)), length-drop k (deferred_octets header));
            };
            rest = drop k (deferred_octets header) ++ h.rest;
            list = h.list ∙ (ap (λ z. z ++ h.rest) both ∙ append_assoc (list_from ys (ps ++ part ∷ []) start first) (drop k (deferred_octets header)) h.rest);
          }

-- The last header of some.
pub last_split : (ns : List DeferredHeader) (last : ℕ) (header d : DeferredHeader) → suc last ≡ length ns → header ≡ get_or ns last d → ns ≡ take last ns ++ header ∷ []
last_split ns last header d e g =
    let n : drop (suc last) ns ≡ [] = drop_all (suc last) ns (omega (arith, e)) in
    sym (take-append-drop last ns) ∙ ap (λ z. take last ns ++ z) (drop-cons ns last d (omega (arith, e)) ∙ rw (n, g) refl)

pub last_set : (ns : List DeferredHeader) (last : ℕ) (part : DeferredHeader) → suc last ≡ length ns → set ns last part ≡ take last ns ++ part ∷ []
last_set ns last part e =
    set_split ns last part (omega (arith, e)) ∙ ap (λ z. take last ns ++ part ∷ z) (drop_all (suc last) ns (omega (arith, e)))

-- No header is left.
module _ (xs : List ℕ) (ms : List DeferredHeader) (start first m : ℕ) (ys : List ℕ) (ns : List DeferredHeader) (h : Cut xs ms start first m ys ns) (none : length ns ≤ first) where
  no_headers : drop first ns ≡ []
  no_headers = drop_all first ns none

  pub all_left : start + m ≡ length ys
  all_left =
      let e : m ≡ length (drop start ys) = h.sound.measure ∙ ap (λ z. length (rendered ys start z)) no_headers in
      let w = h.sound.start_within in
      omega (arith, e, w, length-drop start ys)

  pub cut_all : (q n left : ℕ) → n + left ≡ m → q + left ≡ length ys → Cut xs ms start first n (take q ys) ns
  cut_all q n left e f =
      let a = all_left in
      cut_octets xs ms start first m ys ns h q n (omega (arith, f)) (rw no_headers (omega (arith, a, e, f))) (omega (arith, e, f))

-- One step, at the last header.
module _ (xs : List ℕ) (ms : List DeferredHeader) (start first m : ℕ) (ys : List ℕ) (ns : List DeferredHeader) (h : Cut xs ms start first m ys ns) (last : ℕ) (header d : DeferredHeader) (l : suc last ≡ length ns) (some : first < length ns) (read : header ≡ get_or ns last d) where
  split : ns ≡ take last ns ++ header ∷ []
  split = last_split ns last header d l read

  room : first ≤ length (take last ns)
  room = omega (arith, l, some, length-take-le last ns (omega (arith, l)))

  pub header_within : header.at ≤ length ys
  header_within = last_within xs ms start first m ys ns h (take last ns) header split room

  pub step_stops : (q n left : ℕ) → header.at ≤ q → q + left ≡ length ys → n + left ≡ m → Cut xs ms start first n (take q ys) ns
  step_stops q n left k e f =
      cut_octets xs ms start first m ys ns h q n (omega (arith, e)) (stop_rising xs ms start first m ys ns h (take last ns) header split room q k) (omega (arith, e, f))

  run_cut : (n : ℕ) → n + (length ys - header.at) ≡ m → Cut xs ms start first n (take header.at ys) ns
  run_cut n e = cut_octets xs ms start first m ys ns h header.at n header_within (stop_rising xs ms start first m ys ns h (take last ns) header split room header.at (omega arith)) e

  ends : header.at ≡ length (take header.at ys)
  ends = sym (length-take-le header.at ys header_within)

  pub step_goes_on : (n : ℕ) → n + length (deferred_octets header) + (length ys - header.at) ≡ m → Cut xs ms start first n (take header.at ys) (take last ns)
  step_goes_on n e =
      cut_header xs ms start first (n + length (deferred_octets header)) (take header.at ys) ns (run_cut (n + length (deferred_octets header)) e) (take last ns) header split room ends n refl

  pub step_splits : (n k : ℕ) (part : DeferredHeader) → part.at ≡ header.at → k ≤ length (deferred_octets header) → deferred_octets part ≡ take k (deferred_octets header) → n + (length (deferred_octets header) - k) + (length ys - header.at) ≡ m
      → Cut xs ms start first n (take header.at ys) (set ns last part)
  step_splits n k part same few e f =
      rw (last_set ns last part l) (cut_head xs ms start first (n + (length (deferred_octets header) - k)) (take header.at ys) ns (run_cut (n + (length (deferred_octets header) - k)) f) (take last ns) header split room ends n k part same few e refl)
