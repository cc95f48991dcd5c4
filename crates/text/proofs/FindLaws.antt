-- The laws of a search for one element, and of the parts before and after it: an ASCII character is found in the bytes where it is found in the characters.
-- Assumes nothing.
use Prim.Native.Nat.{ℕ, zero, suc, ◌+◌, ◌-◌, ◌≤◌, ◌<◌}
use native.Mathlib.Nat.{add-zero}
use Rattle.std.proofs.lemmas.List.{length-take-le}
use Rattle.memchr.specs.Find.{Passes, Nowhere, NoneBefore, is_byte}
use mathlib.Core.Bool.{Bool, true, false, cond, not, ◌&&◌}
use mathlib.Core.Option.{Option, none, some}
use mathlib.Core.List.{List, [], ◌∷◌, ◌++◌, append_cancel_left}
use mathlib.Core.Logic.{⊎_elim}
use mathlib.Core.Path.{◌≡◌, refl, sym, ap, ◌∙◌}
use borrow.Author.Tests.{eqb-true, eqb-false, eq-eqb, ne_eqb, ltb-true, ltb-false, lt-ltb, le-ltb}
use native.Mathlib.Omega.{arith}
use lib.Dec.{ltb, eqb, leb-suc-suc}
use lib.ListN.{length, get_or, take, drop, drop_of_length-le, length-drop, length-append}
use lib.Seq.{drop-drop, drop-append_seam, take-append_seam, drop-append-add, get_or-drop, get_or-take}
use Rattle.text.specs.Utf8.{IsScalar, utf8, tail, char, stray, chars}
use Rattle.std.specs.Prelude.{if◌then◌else◌}
use Rattle.text.specs.Words.{◌>>=◌, index, take_while}
use Rattle.text.specs.Run.{RunTo, other}
use Rattle.text.specs.Find.{found, until, since}
use Rattle.std.specs.Prelude.{Some, None}
use Rattle.text.specs.Char.{Bad}
use Rattle.text.proofs.Tests.{decide, on, within_below}
use Rattle.text.proofs.Utf8.{utf8_1}
use Rattle.text.proofs.RunLaws.{at_start, past_one, at_stop, at_end}
use Rattle.text.proofs.Laws.{by_chars, chars_nil, chars_utf8, chars_bad, chars_append, char_cut, Tails, Long, utf8_long, lost_high}

pub until_since : (b : ℕ) (xs : List ℕ) → until b xs ++ since b xs ≡ xs
until_since b [] = refl
until_since b (x ∷ xs) = go (until_since b xs) (eqb x b)
  where
    go : until b xs ++ since b xs ≡ xs → (t : Bool) → cond t [] (x ∷ until b xs) ++ cond t (x ∷ xs) (since b xs) ≡ x ∷ xs
    go ih true = refl
    go ih false = ap (λ (l : List ℕ). x ∷ l) ih

until_skip : (b c : ℕ) (cs : List ℕ) → (c ≡ b → ⊥) → until b (c ∷ cs) ≡ c ∷ until b cs
until_skip b c cs n = rw (ne_eqb c b n)

module _ (b : ℕ) (low : b < 0x80) where
  -- what stands from an ASCII byte on starts with no tail
  pub since_lead : (xs : List ℕ) → tail (get_or (since b xs) 0 0) ≡ false
  since_lead [] = refl
  since_lead (x ∷ xs) =
      on (λ (l : List ℕ). tail (get_or l 0 0) ≡ false) (eqb x b)
      (λ e. within_below 0x80 0xBF x (omega (arith, eqb-true x b e)))
      (λ _. since_lead xs)

  until_tails : (ys zs : List ℕ) → Tails ys → until b (ys ++ zs) ≡ ys ++ until b zs
  until_tails [] zs h = refl
  until_tails (y ∷ ys) zs h = rw (ne_eqb y b (omega arith)) (ap (λ (l : List ℕ). y ∷ l) (until_tails ys zs h.1))

  until_long : (ys zs : List ℕ) → Long ys → until b (ys ++ zs) ≡ ys ++ until b zs
  until_long [] zs h = absurd h
  until_long (y ∷ ys) zs h = rw (ne_eqb y b (omega arith)) (ap (λ (l : List ℕ). y ∷ l) (until_tails ys zs h.1))

  until_utf8 : (c : ℕ) (zs : List ℕ) → IsScalar c → (c ≡ b → ⊥) → until b (utf8 c ++ zs) ≡ utf8 c ++ until b zs
  until_utf8 c zs s n =
      ⊎_elim
      (λ e. rw (utf8_1 c (ltb-true c 0x80 e), ne_eqb c b n))
      (λ e. until_long (utf8 c) zs (utf8_long c s (ltb-false c 0x80 e)))
      (decide (ltb c 0x80))

  pub chars_until : (bs : List ℕ) → chars (until b bs) ≡ until b (chars bs)
  chars_until =
      by_chars (λ (bs : List ℕ). chars (until b bs) ≡ until b (chars bs))
      (rw chars_nil)
      (λ c bs s ih. rw (chars_utf8 c bs s)
      (⊎_elim
      (λ e. let q = eqb-true c b e in rw (e, utf8_1 c (omega arith), e) chars_nil)
      (λ e.
      let n = eqb-false c b e in
      ap chars (until_utf8 c bs s n)
      ∙ chars_utf8 c (until b bs) s
      ∙ ap (λ (l : List ℕ). c ∷ l) ih
      ∙ sym (until_skip b c (chars bs) n))
      (decide (eqb c b))))
      (λ x bs e ih.
      let h = lost_high x bs e in
      let f : char (x ∷ until b bs) ≡ Bad = sym (char_cut x (until b bs) (since b bs) (since_lead bs)) ∙ rw (until_since b bs) e in
      rw (ne_eqb x b (omega arith), chars_bad x bs e, ne_eqb (stray x) b (omega arith))
      (chars_bad x (until b bs) f ∙ ap (λ (l : List ℕ). stray x ∷ l) ih))

  pub chars_since : (bs : List ℕ) → chars (since b bs) ≡ since b (chars bs)
  chars_since bs =
      append_cancel_left (until b (chars bs)) (chars (since b bs)) (since b (chars bs))
      (ap (λ (l : List ℕ). l ++ chars (since b bs)) (sym (chars_until bs))
      ∙ sym (chars_append (until b bs) (since b bs) (since_lead bs))
      ∙ ap chars (until_since b bs)
      ∙ sym (until_since b (chars bs)))

-- ---- what a search for one element answers
pub since_drop : (b : ℕ) (s : List ℕ) (i : ℕ) → drop (i + length (until b (drop i s))) s ≡ since b (drop i s)
since_drop b s i =
    sym (drop-drop (length (until b (drop i s))) i s)
    ∙ ap (drop (length (until b (drop i s)))) (sym (until_since b (drop i s)))
    ∙ drop-append_seam (until b (drop i s)) (since b (drop i s))

-- it is found after what stands before it, unless that is all
pub index_until : (b : ℕ) (s : List ℕ) → index (b ∷ []) s ≡ (if ltb (length (until b s)) (length s) then some (length (until b s)) else none)
unfolding index
index_until b [] = refl
index_until b (c ∷ s) = by (eqb c b) (index_until b s)
  where
    later : (t : Bool) (n : ℕ) → ((if t then some n else none) >>= (λ m. some (suc m))) ≡ (if t then some (suc n) else none)
    later true n = refl
    later false n = refl

    by : (t : Bool) → index (b ∷ []) s ≡ (if ltb (length (until b s)) (length s) then some (length (until b s)) else none)
        → (if t && true then some 0 else index (b ∷ []) s >>= (λ n. some (suc n)))
        ≡ (if ltb (length (cond t [] (c ∷ until b s))) (suc (length s)) then some (length (cond t [] (c ∷ until b s))) else none)
    by true ih = rw (lt-ltb 0 (suc (length s)) (omega arith))
    by false ih = rw ih (later (ltb (length (until b s)) (length s)) (length (until b s)) ∙ rw leb-suc-suc)

pub index_none : (b : ℕ) (s : List ℕ) → since b s ≡ [] → index (b ∷ []) s ≡ none
index_none b s e =
    let q = ap length (until_since b s) in
    index_until b s ∙ rw (le-ltb (length (until b s)) (length s) (omega (arith, length-append (until b s) (since b s), ap length e)))

pub index_some : (b : ℕ) (s : List ℕ) → 0 < length (since b s) → index (b ∷ []) s ≡ some (length (until b s))
index_some b s h =
    let q = ap length (until_since b s) in
    index_until b s ∙ rw (lt-ltb (length (until b s)) (length s) (omega (arith, length-append (until b s) (since b s))))

-- the parts of a text at the first b
pub take_until : (b : ℕ) (s : List ℕ) → take (length (until b s)) s ≡ until b s
take_until b s = ap (take (length (until b s))) (sym (until_since b s)) ∙ take-append_seam (until b s) (since b s)

pub drop_until : (b k : ℕ) (s : List ℕ) → drop (length (until b s) + k) s ≡ drop k (since b s)
drop_until b k s = ap (drop (length (until b s) + k)) (sym (until_since b s)) ∙ drop-append-add (until b s) (since b s) k

pub since_head : (b : ℕ) (s : List ℕ) → 0 < length (since b s) → get_or (since b s) 0 0 ≡ b
since_head b [] h = absurd (omega arith)
since_head b (x ∷ s) h = go (since_head b s) (eqb x b) refl h
  where
    go : (0 < length (since b s) → get_or (since b s) 0 0 ≡ b) → (t : Bool) → eqb x b ≡ t → 0 < length (cond t (x ∷ s) (since b s))
        → get_or (cond t (x ∷ s) (since b s)) 0 0 ≡ b
    go ih true e h = eqb-true x b e
    go ih false e h = ih h

-- what an answer says of the search
pub found_some : (i : ℕ) (o : Option ℕ) (k : ℕ) → found i o ≡ Some k → (n : ℕ) × (o ≡ some n) × (i + n ≡ k)
found_some i none k e = (0, cc, cc)
found_some i (some n) k e = (n, refl, cc)

pub found_none : (i : ℕ) (o : Option ℕ) → found i o ≡ None → o ≡ none
found_none i none e = refl
found_none i (some n) e = cc

pub found_is : (s : List ℕ) (i b j : ℕ) → i + length (until b (drop i s)) ≡ j → j < length s → found i (index (b ∷ []) (drop i s)) ≡ Some j
found_is s i b j e l =
    rw (index_until b (drop i s), lt-ltb (length (until b (drop i s))) (length (drop i s)) (rw (length-drop i s) (omega arith)), e)

pub nowhere_is : (s : List ℕ) (i b : ℕ) → length s ≤ i + length (until b (drop i s)) → found i (index (b ∷ []) (drop i s)) ≡ None
nowhere_is s i b l =
    rw (index_until b (drop i s), le-ltb (length (until b (drop i s))) (length (drop i s)) (rw (length-drop i s) (omega arith)))

-- a run of other bytes, and then b or the end
until_run : (b : ℕ) (s : List ℕ) → until b s ≡ take_while (other b) s
unfolding take_while other
until_run b [] = refl
until_run b (x ∷ s) = by (eqb x b) (until_run b s)
  where
    by : (t : Bool) → until b s ≡ take_while (other b) s → cond t [] (x ∷ until b s) ≡ cond (not t) (x ∷ take_while (other b) s) []
    by true h = refl
    by false h = ap (λ (l : List ℕ). x ∷ l) h

pub other_is : (b x : ℕ) → (x ≡ b → ⊥) → other b x ≡ true
unfolding other
other_is b x n = rw (ne_eqb x b n)

not_other : (b x : ℕ) → x ≡ b → other b x ≡ false
unfolding other
not_other b x e = rw (eq-eqb x b e)

module _ (s : List ℕ) (i b j : ℕ) (h : RunTo (other b) s i j) where
  pub run_found : j < length s → get_or s j 0 ≡ b → found i (index (b ∷ []) (drop i s)) ≡ Some j
  run_found l e = found_is s i b j (rw (until_run b (drop i s)) (at_stop (other b) s i j h l (not_other b (get_or s j 0) e))) l

  pub run_nowhere : length s ≤ j → found i (index (b ∷ []) (drop i s)) ≡ None
  run_nowhere l = nowhere_is s i b (rw (until_run b (drop i s)) (let e = at_end (other b) s i j h l in omega arith))

here_if : (i : ℕ) (t : Bool) (k j : ℕ) → found i (if t then some k else none) ≡ Some j → (t ≡ true) × (i + k ≡ j)
here_if i true k j e = (refl, cc)
here_if i false k j e = (cc, cc)

nowhere_if : (i : ℕ) (t : Bool) (k : ℕ) → found i (if t then some k else none) ≡ None → t ≡ false
nowhere_if i true k e = cc
nowhere_if i false k e = refl

-- found: j is in s, at or after i, and the first b from i on stands there
pub record IsHere (s : List ℕ) (i b j : ℕ) : Type 0 where
  pub low : i ≤ j
  pub bound : j < length s
  pub until_is : take (j - i) (drop i s) ≡ until b (drop i s)
  pub since_is : drop j s ≡ since b (drop i s)

pub found_here : (s : List ℕ) (i b j : ℕ) → found i (index (b ∷ []) (drop i s)) ≡ Some j → IsHere s i b j
found_here s i b j e =
    let u = length (until b (drop i s)) in
    let p = here_if i (ltb u (length (drop i s))) u j (rw (index_until b (drop i s)) at e) in
    let q = p.1 in
    let r : j - i ≡ u = omega arith in
    record {
      low = omega arith;
      bound = omega (arith, ltb-true u (length (drop i s)) p.0, length-drop i s);
      until_is =
          rw r
          (ap (take u) (sym (until_since b (drop i s))) ∙ take-append_seam (until b (drop i s)) (since b (drop i s)));
      since_is = ap (λ (k : ℕ). drop k s) (sym q) ∙ since_drop b s i;
    }

pub found_nowhere : (s : List ℕ) (i b : ℕ) → found i (index (b ∷ []) (drop i s)) ≡ None → since b (drop i s) ≡ []
found_nowhere s i b e =
    let u = length (until b (drop i s)) in
    let f = ltb-false u (length (drop i s)) (nowhere_if i (ltb u (length (drop i s))) u (rw (index_until b (drop i s)) at e)) in
    sym (since_drop b s i) ∙ drop_of_length-le s {i = i + u} (omega (arith, f, length-drop i s))

-- ---- a search for b from i on, by what a search through a slice of it answers: whether b stands at place k of what is left
module _ (s : List ℕ) (i b : ℕ) where
  abbrev pub At : ℕ → Type 0
  At = Passes (is_byte b) (drop i s)

  other_at : (k : ℕ) → (At k → ⊥) → other b (get_or s (i + k) 0) ≡ true
  other_at k n = other_is b (get_or s (i + k) 0) (λ e. n (eq-eqb (get_or (drop i s) k 0) b (get_or-drop i s k 0 ∙ e)))

  passed : (n : ℕ) → i + n ≤ length s → Nowhere At 0 n → RunTo (other b) s i (i + n)
  passed zero l h = rw (add-zero i) (at_start (other b) s i (omega arith))
  passed (suc n) l h =
      let e : i + n + 1 ≡ i + suc n = omega arith in
      let before = passed n (omega arith) (λ k a c. h k a (omega arith)) in
      rw (← e) (past_one (other b) s i (i + n) before (omega arith) (other_at n (h n (omega arith) (omega arith))))

  pub first_here : (n : ℕ) → Nowhere At 0 n → n < length (drop i s) → At n → Some (i + n) ≡ found i (index (b ∷ []) (drop i s))
  first_here n h l e =
      let k : i + n < length s = omega (arith, length-drop i s) in
      sym (run_found s i b (i + n) (passed n (omega arith) h) k (sym (get_or-drop i s n 0) ∙ eqb-true (get_or (drop i s) n 0) b e))

  pub first_nowhere : i ≤ length s → Nowhere At 0 (length (drop i s)) → None ≡ found i (index (b ∷ []) (drop i s))
  first_nowhere l h =
      let e = length-drop i s in
      sym (run_nowhere s i b (i + length (drop i s)) (passed (length (drop i s)) (omega arith) h) (omega arith))

  -- in the first 8 bytes, and in those behind them
  module _ (near far : List ℕ) (front : near ≡ take 8 (drop i s)) (back : far ≡ drop 8 (drop i s)) (l : 8 ≤ length (drop i s)) where
    at_near : (k : ℕ) → k < 8 → get_or near k 0 ≡ get_or (drop i s) k 0
    at_near k h = rw front (get_or-take 8 (drop i s) k 0 h)

    at_far : (k : ℕ) → get_or far k 0 ≡ get_or (drop i s) (8 + k) 0
    at_far k = rw back (get_or-drop 8 (drop i s) k 0)

    pub near_here : (n : ℕ) → NoneBefore (Passes (is_byte b) near) 0 (length near) n → Passes (is_byte b) near n → Some (i + n) ≡ found i (index (b ∷ []) (drop i s))
    near_here n h e =
        let room : n < 8 = omega (arith, h.high, ap length front, length-take-le 8 (drop i s) l) in
        first_here n (λ k a c t. h.before k a c (rw (at_near k (omega arith)) t)) (omega arith) (rw (at_near n room) at e)

    module _ (none : Nowhere (Passes (is_byte b) near) 0 (length near)) where
      both : (m : ℕ) → Nowhere (Passes (is_byte b) far) 0 m → Nowhere At 0 (8 + m)
      both m h k a c t =
          ⊎_elim
          (λ e.
          let d = ltb-true k 8 e in
          none k a (omega (arith, ap length front, length-take-le 8 (drop i s) l)) (rw (at_near k d) t))
          (λ e.
          let d = ltb-false k 8 e in
          let q : 8 + (k - 8) ≡ k = omega arith in
          h (k - 8) (omega arith) (omega arith) (rw (at_far (k - 8), q) t))
          (decide (ltb k 8))

      pub far_here : (m : ℕ) → NoneBefore (Passes (is_byte b) far) 0 (length far) m → Passes (is_byte b) far m → Some (i + 8 + m) ≡ found i (index (b ∷ []) (drop i s))
      far_here m h e =
          let q : i + 8 + m ≡ i + (8 + m) = omega arith in
          rw q (first_here (8 + m) (both m h.before) (omega (arith, h.high, ap length back, length-drop 8 (drop i s))) (rw (at_far m) at e))

      pub far_nowhere : i ≤ length s → Nowhere (Passes (is_byte b) far) 0 (length far) → None ≡ found i (index (b ∷ []) (drop i s))
      far_nowhere k h =
          let q : 8 + length far ≡ length (drop i s) = omega (arith, ap length back, length-drop 8 (drop i s)) in
          first_nowhere k (rw q at (both (length far) h))
