-- The laws of `specs/Trim.antt`.
-- Assumes nothing.
use Prim.Native.Nat.{ℕ, zero, suc, ◌+◌, ◌-◌, ◌≤◌, ◌<◌}
use mathlib.Core.Bool.{Bool, true, false, cond, ◌||◌, true≢false, or-false}
use mathlib.Core.List.{List, [], ◌∷◌, ◌++◌, append_assoc, append-nil, reverse, reverse-cons, reverse-append, reverse-reverse}
use mathlib.Core.Logic.{◌⊎◌, inl, inr, ⊎_elim}
use mathlib.Core.Path.{◌≡◌, refl, sym, ap, ◌∙◌}
use borrow.Author.Tests.{ltb-true, ltb-false, leb-true, leb-false, eqb-true, eq-eqb, ne_eqb, eqb-false, lt-ltb}
use native.Mathlib.Omega.{arith}
use lib.Dec.{leb, ltb, eqb}
use lib.ListN.{length, get_or, take, drop, length-append, length-drop, take-append-drop}
use lib.Seq.{length-take-le, drop_at, take-append_seam, take-length}
use Rattle.text.specs.Words.{drop_while, trim_end_matches}
use Rattle.text.specs.Chars.{within, is_space}
use Rattle.text.specs.Utf8.{IsScalar, utf8, encode, char, stray, chars}
use Rattle.text.specs.Trim.{trim_start, trim_end, start_of, end_of, is_space_of, space_at, space_before, trim}
use Rattle.text.specs.Char.{Char, At, Bad, End}
use Rattle.text.proofs.Tests.{decide, on, and_true, within_below, within_above}
use Rattle.text.proofs.Utf8.{utf8_1, utf8_2, utf8_3, utf8_stray, ranges, char_utf8, char_ascii}
use Rattle.text.proofs.Laws.{advance, by_chars, encode_chars, encode_append, chars_nil, chars_utf8, chars_bad, chars_append, utf8_lead, utf8_size, chars_one}
use Rattle.text.proofs.Lists.{last_of}

-- ---- spaces
pub space_top : (c : ℕ) → 12288 < c → is_space c ≡ false
unfolding is_space
space_top c h =
    simp (
      within_above 9 13 c (omega arith) (omega arith),
      ne_eqb c 32 (omega arith),
      ne_eqb c 133 (omega arith),
      ne_eqb c 160 (omega arith),
      ne_eqb c 5760 (omega arith),
      within_above 8192 8202 c (omega arith) (omega arith),
      ne_eqb c 8232 (omega arith),
      ne_eqb c 8233 (omega arith),
      ne_eqb c 8239 (omega arith),
      ne_eqb c 8287 (omega arith),
      ne_eqb c 12288 (omega arith),
    )

pub space_low : (c : ℕ) → is_space c ≡ true → c ≤ 12288
space_low c e =
    ⊎_elim (λ h. leb-true c 12288 h)
    (λ h.
    let f = space_top c (leb-false c 12288 h) in
    let z : true ≡ false = cc in
    let y : ◌≡◌ {A = ℕ} 0 1 = cc in absurd (omega arith))
    (decide (leb c 12288))

-- by one test first: an ASCII character, or another
pub space_ascii : (c : ℕ) → c < 0x80 → is_space c ≡ (within 9 13 c || eqb c 32)
unfolding is_space
space_ascii c h =
    simp (
      ne_eqb c 133 (omega arith),
      ne_eqb c 160 (omega arith),
      ne_eqb c 5760 (omega arith),
      within_below 8192 8202 c (omega arith),
      ne_eqb c 8232 (omega arith),
      ne_eqb c 8233 (omega arith),
      ne_eqb c 8239 (omega arith),
      ne_eqb c 8287 (omega arith),
      ne_eqb c 12288 (omega arith),
      or-false,
    )

space_high : (c : ℕ) → 0x80 ≤ c
    → is_space c
    ≡ (eqb c 133 || eqb c 160 || eqb c 5760 || within 8192 8202 c || eqb c 8232 || eqb c 8233 || eqb c 8239 || eqb c 8287 || eqb c 12288)
unfolding is_space
space_high c h = rw (within_above 9 13 c (omega arith) (omega arith), ne_eqb c 32 (omega arith))

far_not : (c : ℕ) → (c < 8232) ⊎ (8287 < c) → (eqb c 8232 ≡ false) × ((eqb c 8233 ≡ false) × ((eqb c 8239 ≡ false) × (eqb c 8287 ≡ false)))
far_not c h = (no 8232 (omega arith) (omega arith), (no 8233 (omega arith) (omega arith), (no 8239 (omega arith) (omega arith), no 8287 (omega arith) (omega arith))))
  where
    no : (x : ℕ) → 8232 ≤ x → x ≤ 8287 → eqb c x ≡ false
    no x l m = ne_eqb c x (λ e. ⊎_elim (λ k. omega arith) (λ k. omega arith) h)

-- by two tests more
pub space_near : (c : ℕ) → 0x80 ≤ c → c < 0x2000 → is_space c ≡ (eqb c 133 || eqb c 160 || eqb c 5760)
space_near c l h =
    let f = far_not c (inl (omega arith)) in
    space_high c l ∙ simp (within_below 8192 8202 c (omega arith), f.0, f.1.0, f.1.1.0, f.1.1.1, ne_eqb c 12288 (omega arith), or-false)

pub space_mid : (c : ℕ) → 0x2000 ≤ c → c < 0x2060 → is_space c ≡ (within 8192 8202 c || eqb c 8232 || eqb c 8233 || eqb c 8239 || eqb c 8287)
space_mid c l h =
    space_high c (omega arith)
    ∙ rw (ne_eqb c 133 (omega arith), ne_eqb c 160 (omega arith), ne_eqb c 5760 (omega arith), ne_eqb c 12288 (omega arith))
    (or-false (within 8192 8202 c || eqb c 8232 || eqb c 8233 || eqb c 8239 || eqb c 8287))

pub space_far : (c : ℕ) → 0x2060 ≤ c → is_space c ≡ eqb c 12288
space_far c l =
    let f = far_not c (inr (omega arith)) in
    space_high c (omega arith)
    ∙ simp (ne_eqb c 133 (omega arith), ne_eqb c 160 (omega arith), ne_eqb c 5760 (omega arith), within_above 8192 8202 c (omega arith) (omega arith), f.0, f.1.0, f.1.1.0, f.1.1.1)

-- a space has at most three bytes
pub space_size : (c : ℕ) → c ≤ 12288 → length (utf8 c) ≤ 3
space_size c h =
    ranges c
    (λ a. rw (utf8_1 c a) (omega arith))
    (λ l a. rw (utf8_2 c l a) (omega arith))
    (λ l a. rw (utf8_3 c l a) (omega arith))
    (λ l. absurd (omega arith))

-- ---- trimming the start: a space goes, anything else stays
pub start_space : (c : ℕ) (cs : List ℕ) → is_space c ≡ true → trim_start (c ∷ cs) ≡ trim_start cs
unfolding drop_while
start_space c cs e = rw e

pub start_other : (c : ℕ) (cs : List ℕ) → is_space c ≡ false → trim_start (c ∷ cs) ≡ c ∷ cs
unfolding drop_while
start_other c cs e = rw e

-- what is left starts at i, so i is where it starts
pub start_at : (s : List ℕ) (i : ℕ) → i ≤ length s → trim_start (chars s) ≡ chars (drop i s) → start_of s ≡ i
unfolding start_of
start_at s i h e = rw (e, encode_chars (drop i s), length-drop i s) (omega arith)

-- the part of the bytes from there on is the text without the spaces before it, and has its characters
pub chars_start : (s : List ℕ) → chars (encode (trim_start (chars s))) ≡ trim_start (chars s)
unfolding drop_while
chars_start =
    by_chars (λ (s : List ℕ). chars (encode (trim_start (chars s))) ≡ trim_start (chars s))
    (rw (chars_nil) chars_nil)
    (λ c bs s ih. rw (chars_utf8 c bs s)
    (on (λ (l : List ℕ). chars (encode l) ≡ l) (is_space c) (λ _. ih)
    (λ _. rw (encode_chars bs) (chars_utf8 c bs s))))
    (λ b bs e ih. rw (chars_bad b bs e, space_top (stray b) (omega arith), utf8_stray b, encode_chars bs) (chars_bad b bs e))

-- ---- trimming the end: by the last character
pub end_snoc : (p : ℕ → Bool) (cs : List ℕ) (c : ℕ) → trim_end_matches p (cs ++ (c ∷ [])) ≡ cond (p c) (trim_end_matches p cs) (cs ++ (c ∷ []))
unfolding trim_end_matches drop_while
end_snoc p cs c =
    rw (reverse-append cs (c ∷ []))
    (on (λ (l : List ℕ). reverse l ≡ cond (p c) (reverse (drop_while p (reverse cs))) (cs ++ (c ∷ []))) (p c)
    (λ e. rw e) (λ e. rw e (reverse-cons c (reverse cs) ∙ rw (reverse-reverse cs))))

pub end_at : (s : List ℕ) (e : ℕ) → e ≤ length s → trim_end (chars s) ≡ chars (take e s) → end_of s ≡ e
unfolding end_of
end_at s e h q = rw (q, encode_chars (take e s)) (length-take-le e s h)

-- ---- one step back: the character c of k bytes ends before byte e
pub back : (s : List ℕ) (e c k : ℕ) → k ≤ e → char (drop (e - k) s) ≡ At c k → chars (take e s) ≡ chars (take (e - k) s) ++ (c ∷ [])
back s e c k l h =
    let st = advance s (e - k) c k h in
    let q : e - k + k ≡ e = omega arith in
    ap (λ (n : ℕ). chars (take n s)) (sym q)
    ∙ ap chars st.front
    ∙ chars_append (take (e - k) s) (utf8 c) (utf8_lead c st.scalar)
    ∙ ap (λ (l : List ℕ). chars (take (e - k) s) ++ l) (chars_one c st.scalar)

-- the other way: the last character of the first e bytes, a scalar value, stands before byte e
pub back_is : (s : List ℕ) (e c : ℕ) (cs : List ℕ) → e ≤ length s → IsScalar c → chars (take e s) ≡ cs ++ (c ∷ [])
    → (length (utf8 c) ≤ e) × (char (drop (e - length (utf8 c)) s) ≡ At c (length (utf8 c)))
back_is s e c cs l h q =
    let t : encode cs ++ utf8 c ≡ take e s =
    sym (sym (encode_chars (take e s)) ∙ ap encode q ∙ encode_append cs (c ∷ []) ∙ ap (λ (l : List ℕ). encode cs ++ l) (append-nil (utf8 c)))
    in
    let n = simp (length-append, length-take-le e s l) at (ap length t) in
    let r : encode cs ++ (utf8 c ++ drop e s) ≡ s =
    sym (append_assoc (encode cs) (utf8 c) (drop e s)) ∙ ap (λ (l : List ℕ). l ++ drop e s) t ∙ take-append-drop e s
    in (
      omega arith,
      ap char (ap (drop (e - length (utf8 c))) (sym r) ∙ drop_at (encode cs) (utf8 c ++ drop e s) (e - length (utf8 c)) (omega arith))
          ∙ char_utf8 c (drop e s) h,
    )

-- an ASCII byte before byte e
module _ (s : List ℕ) (e : ℕ) (l : 1 ≤ e) (h : e ≤ length s) (low : get_or s (e - 1) 0 < 0x80) where
  back_ascii : chars (take e s) ≡ chars (take (e - 1) s) ++ (get_or s (e - 1) 0 ∷ [])
  back_ascii = back s e (get_or s (e - 1) 0) 1 l (char_ascii s (e - 1) (omega arith) low)

  pub end_low_space : is_space (get_or s (e - 1) 0) ≡ true → trim_end (chars (take e s)) ≡ trim_end (chars (take (e - 1) s))
  end_low_space q = ap trim_end back_ascii ∙ end_snoc is_space (chars (take (e - 1) s)) (get_or s (e - 1) 0) ∙ rw q

  pub end_low_other : is_space (get_or s (e - 1) 0) ≡ false → trim_end (chars (take e s)) ≡ chars (take e s)
  end_low_other q = rw back_ascii (end_snoc is_space (chars (take (e - 1) s)) (get_or s (e - 1) 0) ∙ rw q)

pub end_nil : (s : List ℕ) (e : ℕ) → e ≤ 0 → trim_end (chars (take e s)) ≡ chars (take e s)
unfolding trim_end_matches drop_while
end_nil s e h = let q : e ≡ 0 = omega arith in rw (q, chars_nil)

-- ---- the space before an offset
space_of : (x : Char) (k : ℕ) → is_space_of x k ≡ true → (c : ℕ) × (is_space c ≡ true) × (x ≡ At c k)
space_of (At c n) k e =
    let p = and_true (is_space c) (eqb n k) e in
    (c, p.0, ap (λ (m : ℕ). At c m) (eqb-true n k p.1))
space_of Bad k e = let z : ◌≡◌ {A = ℕ} 0 1 = cc in absurd (omega arith)
space_of End k e = let z : ◌≡◌ {A = ℕ} 0 1 = cc in absurd (omega arith)

module _ (s : List ℕ) (e : ℕ) where
  abbrev Q : ℕ → Bool
  Q k = space_at (drop (e - k) s) k

  -- what is found is there
  pub found : 1 ≤ space_before s e → (space_before s e ≤ e) × (Q (space_before s e) ≡ true)
  unfolding space_before
  found =
      let P : ℕ → Type 0 = λ (x : ℕ). 1 ≤ x → (x ≤ e) × (Q x ≡ true) in
      on P (ltb e 1) (λ _ h. absurd (omega arith))
      (λ l1. on P (Q 1) (λ q _. (ltb-false e 1 l1, q))
      (λ _. on P (ltb e 2) (λ _ h. absurd (omega arith))
      (λ l2. on P (Q 2) (λ q _. (ltb-false e 2 l2, q))
      (λ _. on P (ltb e 3) (λ _ h. absurd (omega arith))
      (λ l3. on P (Q 3) (λ q _. (ltb-false e 3 l3, q)) (λ _ h. absurd (omega arith)))))))

  none_of : (1 ≤ e → Q 1 ≡ false) → (2 ≤ e → Q 2 ≡ false) → (3 ≤ e → Q 3 ≡ false) → (k : ℕ) → 1 ≤ k → k ≤ 3 → k ≤ e → Q k ≡ true → ⊥
  none_of f1 f2 f3 zero l h m q = absurd (omega arith)
  none_of f1 f2 f3 (suc zero) l h m q = true≢false (sym q ∙ f1 m)
  none_of f1 f2 f3 (suc (suc zero)) l h m q = true≢false (sym q ∙ f2 m)
  none_of f1 f2 f3 (suc (suc (suc zero))) l h m q = true≢false (sym q ∙ f3 m)
  none_of f1 f2 f3 (suc (suc (suc (suc k)))) l h m q = absurd (omega arith)

  -- where nothing is found, nothing is there
  pub not_found : space_before s e ≡ 0 → (k : ℕ) → 1 ≤ k → k ≤ 3 → k ≤ e → Q k ≡ true → ⊥
  unfolding space_before
  not_found =
      let P : ℕ → Type 0 = λ (x : ℕ). x ≡ 0 → (k : ℕ) → 1 ≤ k → k ≤ 3 → k ≤ e → Q k ≡ true → ⊥ in
      on P (ltb e 1) (λ l _ k a b d. let h = ltb-true e 1 l in absurd (omega arith))
      (λ _. on P (Q 1) (λ _ z. absurd (omega arith))
      (λ f1. on P (ltb e 2) (λ l _. let h = ltb-true e 2 l in none_of (λ _. f1) (λ m. absurd (omega arith)) (λ m. absurd (omega arith)))
      (λ _. on P (Q 2) (λ _ z. absurd (omega arith))
      (λ f2. on P (ltb e 3) (λ l _. let h = ltb-true e 3 l in none_of (λ _. f1) (λ _. f2) (λ m. absurd (omega arith)))
      (λ _. on P (Q 3) (λ _ z. absurd (omega arith))
      (λ f3 _. none_of (λ _. f1) (λ _. f2) (λ _. f3)))))))

-- a space found before byte e goes
pub end_space : (s : List ℕ) (e k : ℕ) → k ≡ space_before s e → 1 ≤ k
    → (k ≤ e) × (trim_end (chars (take e s)) ≡ trim_end (chars (take (e - k) s)))
unfolding space_at
end_space s e k r h =
    let f = rw (← r) at (found s e (rw (← r) h)) in
    let w = space_of (char (drop (e - k) s)) k f.1 in
    (f.0, ap trim_end (back s e w.0 k f.0 w.2) ∙ end_snoc is_space (chars (take (e - k) s)) w.0 ∙ rw w.1)

-- where none is found, all of the first e bytes stay
pub end_other : (s : List ℕ) (e : ℕ) → e ≤ length s → space_before s e ≡ 0 → trim_end (chars (take e s)) ≡ chars (take e s)
unfolding trim_end_matches drop_while space_at
end_other s e l z =
    ⊎_elim
    (λ n. rw n)
    (λ (ds, c, q).
    ⊎_elim
    (λ sp.
    let sc : IsScalar c = inl (omega (arith, space_low c sp)) in
    let b = back_is s e c ds l sc q in
    let n = utf8_size c in
    absurd (not_found s e z (length (utf8 c)) n.0 (space_size c (space_low c sp)) b.0 (rw b.1 (simp (sp, eq-eqb (length (utf8 c)) (length (utf8 c)) refl)))))
    (λ sp. rw q (end_snoc is_space ds c ∙ rw sp))
    (decide (is_space c)))
    (last_of (chars (take e s)))

-- ---- the parts
pub start_le : (s : List ℕ) → start_of s ≤ length s
unfolding start_of
start_le s = omega arith

-- a trimmed text is what is left of a list of bytes, so it is no longer
suffix : (cs : List ℕ) → (ws : List ℕ) × (cs ≡ ws ++ trim_start cs)
unfolding drop_while
suffix [] = ([], refl)
suffix (c ∷ cs) =
    on (λ (l : List ℕ). (ws : List ℕ) × (c ∷ cs ≡ ws ++ l)) (is_space c)
    (λ _. let p = suffix cs in (c ∷ p.0, ap (λ (l : List ℕ). c ∷ l) p.1))
    (λ _. ([], refl))

pub drop_start : (s : List ℕ) → drop (start_of s) s ≡ encode (trim_start (chars s))
unfolding start_of
drop_start s =
    let p = suffix (chars s) in
    let t : encode p.0 ++ encode (trim_start (chars s)) ≡ s =
    sym (encode_append p.0 (trim_start (chars s))) ∙ ap encode (sym p.1) ∙ encode_chars s
    in
    let n = simp length-append at (ap length t) in
    ap (drop (start_of s)) (sym t) ∙ drop_at (encode p.0) (encode (trim_start (chars s))) (start_of s) (omega arith)

prefix : (cs : List ℕ) → (ws : List ℕ) × (cs ≡ trim_end cs ++ ws)
unfolding trim_end_matches drop_while
prefix cs =
    let p = suffix (reverse cs) in (
      reverse p.0,
      sym (reverse-reverse cs) ∙ ap reverse p.1 ∙ reverse-append p.0 (trim_start (reverse cs)),
    )

end_split : (s : List ℕ) → (w : List ℕ) × (encode (trim_end (chars s)) ++ w ≡ s)
end_split s =
    let p = prefix (chars s) in
    (encode p.0, sym (encode_append (trim_end (chars s)) p.0) ∙ ap encode (sym p.1) ∙ encode_chars s)

pub end_le : (s : List ℕ) → end_of s ≤ length s
unfolding end_of
end_le s = let p = end_split s in omega (arith, simp length-append at (ap length p.1))

pub take_end : (s : List ℕ) → take (end_of s) s ≡ encode (trim_end (chars s))
unfolding end_of
take_end s = let p = end_split s in ap (take (end_of s)) (sym p.1) ∙ take-append_seam (encode (trim_end (chars s))) p.0

-- ---- what the end of a text loses leaves whole characters
space_none : (s : List ℕ) (e : ℕ) → e < 1 → space_before s e ≡ 0
unfolding space_before
space_none s e h = rw (lt-ltb e 1 h)

end_cut : (k : ℕ) (s : List ℕ) (e : ℕ) → e ≤ k → e ≤ length s → (n : ℕ) × (trim_end (chars (take e s)) ≡ chars (take n s))
end_cut zero s e h l = (e, end_other s e l (space_none s e (omega arith)))
end_cut (suc k) s e h l =
    ⊎_elim
    (λ z. (e, end_other s e l (eqb-true (space_before s e) 0 z)))
    (λ z.
    let n : 1 ≤ space_before s e = omega (arith, eqb-false (space_before s e) 0 z) in
    let g = end_space s e (space_before s e) refl n in
    let i = end_cut k s (e - space_before s e) (omega (arith, g.0)) (omega arith) in
    (i.0, g.1 ∙ i.1))
    (decide (eqb (space_before s e) 0))

pub chars_end : (s : List ℕ) → chars (encode (trim_end (chars s))) ≡ trim_end (chars s)
chars_end s =
    let i = end_cut (length s) s (length s) (omega arith) (omega arith) in
    let e = rw (take-length s) at i.1 in
    rw e (ap chars (encode_chars (take i.0 s)))

pub chars_trim : (s : List ℕ) → chars (encode (trim (chars s))) ≡ trim (chars s)
chars_trim s =
    ap (λ (x : List ℕ). chars (encode (trim_end x))) (sym (chars_start s))
    ∙ chars_end (encode (trim_start (chars s)))
    ∙ ap trim_end (chars_start s)
