-- The laws of `row`: one pass does what the two replacements do, and the same of bytes as of characters.
-- Assumes nothing.
use Prim.Native.Nat.{ℕ, zero, suc, ◌≤◌, ◌<◌}
use mathlib.Core.Bool.{Bool, true, false, and-true as and_true_right}
use mathlib.Core.List.{List, [], ◌∷◌, ◌++◌}
use mathlib.Core.Logic.{inl, ⊎_elim}
use mathlib.Core.Path.{◌≡◌, refl, sym, ap, ◌∙◌}
use borrow.Author.Tests.{eqb-true, eqb-false, eq-eqb, ne_eqb, ltb-true, ltb-false}
use native.Mathlib.Omega.{arith}
use lib.Dec.{eqb, ltb}
use lib.ListN.{length, get_or, take, drop, length-drop}
use lib.Seq.{take-length, take-suc}
use Rattle.std.specs.Prelude.{if◌then◌else◌}
use Rattle.text.specs.Words.{str, starts, starts_with, drop_while, take_while, trim_end_matches, trim_matches}
use Rattle.text.specs.Utf8.{Scalars, utf8, encode, chars}
use Rattle.text.specs.Trim.{trim}
use Rattle.text.proofs.Tests.{decide, and_true, within_below}
use Rattle.text.proofs.Laws.{chars_nil, chars_append, chars_encode, encode_chars, encode_append, scalars_drop, High, utf8_high}
use Rattle.text.proofs.AsciiLaws.{chars_ascii}
use Rattle.text.specs.Chars.{Ascii}
use Rattle.text.proofs.Utf8.{utf8_1}
use Rattle.text.proofs.TrimLaws.{end_snoc}
use Rattle.text.proofs.Lists.{same_last, last_of}
use Rattle.markdown.specs.Blocks.{replace, row}
use Rattle.markdown.proofs.FitLaws.{scalars_trim}
use Rattle.markdown.specs.Cells.{cells, dot_bytes}
use Rattle.markdown.proofs.CommentLaws.{starts_high, starts_encode, drop_encode}
use Rattle.markdown.proofs.RunLaws.{run_chars, same_low}

-- ` · `
abbrev pub dot : List ℕ
dot = str " · "

-- ---- one pass for two replacements
pub replaced : (n : ℕ) (s : List ℕ) → replace "|" dot 0 (replace " | " dot n s) ≡ cells dot n s
unfolding replace cells
replaced zero [] = refl
replaced (suc n) [] = refl
replaced (suc n) (c ∷ s) = replaced n s
replaced zero (c ∷ s) = go (starts " | " (c ∷ s)) (eqb c 124) refl (replaced 2 s) (replaced 0 s)
  where
    later : (x : List ℕ) (t : Bool) → eqb c 124 ≡ t → replace "|" dot 0 (c ∷ x) ≡ (if t then dot ++ replace "|" dot 0 x else c ∷ replace "|" dot 0 x)
    later x t e = rw (and_true_right (eqb c 124), e)

    go : (t u : Bool) → eqb c 124 ≡ u → replace "|" dot 0 (replace " | " dot 2 s) ≡ cells dot 2 s → replace "|" dot 0 (replace " | " dot 0 s) ≡ cells dot 0 s
        → replace "|" dot 0 (if t then dot ++ replace " | " dot 2 s else c ∷ replace " | " dot 0 s)
        ≡ (if t then dot ++ cells dot 2 s else if u then dot ++ cells dot 0 s else c ∷ cells dot 0 s)
    go true u e p q = ap (λ (l : List ℕ). dot ++ l) p
    go false true e p q = later (replace " | " dot 0 s) true e ∙ ap (λ (l : List ℕ). dot ++ l) q
    go false false e p q = later (replace " | " dot 0 s) false e ∙ ap (λ (l : List ℕ). c ∷ l) q

cells_drop : (d : List ℕ) (n : ℕ) (s : List ℕ) → cells d n s ≡ cells d 0 (drop n s)
unfolding cells
cells_drop d zero s = refl
cells_drop d (suc n) [] = refl
cells_drop d (suc n) (c ∷ s) = cells_drop d n s

-- one turn
pub cells_spaced : (d : List ℕ) (c : ℕ) (s : List ℕ) → starts " | " (c ∷ s) ≡ true → cells d 0 (c ∷ s) ≡ d ++ cells d 0 (drop 2 s)
unfolding cells
cells_spaced d c s e = rw (e, cells_drop d 2 s)

pub cells_bar : (d : List ℕ) (c : ℕ) (s : List ℕ) → starts " | " (c ∷ s) ≡ false → c ≡ 124 → cells d 0 (c ∷ s) ≡ d ++ cells d 0 s
unfolding cells
cells_bar d c s e f = rw (e, eq-eqb c 124 f)

pub cells_kept : (d : List ℕ) (c : ℕ) (s : List ℕ) → starts " | " (c ∷ s) ≡ false → (c ≡ 124 → ⊥) → cells d 0 (c ∷ s) ≡ c ∷ cells d 0 s
unfolding cells
cells_kept d c s e f = rw (e, ne_eqb c 124 f)

-- ---- bytes and characters
cells_high : (d ys zs : List ℕ) → High ys → cells d 0 (ys ++ zs) ≡ ys ++ cells d 0 zs
cells_high d [] zs h = refl
cells_high d (y ∷ ys) zs h =
    cells_kept d y (ys ++ zs) (starts_high 32 y (124 ∷ 32 ∷ []) (ys ++ zs) (omega arith) h.0) (λ e. omega (arith, h.0))
    ∙ ap (λ (l : List ℕ). y ∷ l) (cells_high d ys zs h.1)

ascii_bar : Ascii (32 ∷ 124 ∷ 32 ∷ [])
ascii_bar = (omega arith, (omega arith, (omega arith, tt)))

dot_encode : (x : List ℕ) → encode (dot ++ x) ≡ dot_bytes ++ encode x
unfolding utf8
dot_encode x = refl

scalars_dot : (x : List ℕ) → Scalars x → Scalars (dot ++ x)
scalars_dot x h = (inl (omega arith), (inl (omega arith), (inl (omega arith), h)))

cells_encode : (k : ℕ) (cs : List ℕ) → length cs ≤ k → Scalars cs
    → (cells dot_bytes 0 (encode cs) ≡ encode (cells dot 0 cs)) × Scalars (cells dot 0 cs)
unfolding cells
cells_encode zero [] l h = (refl, tt)
cells_encode zero (c ∷ cs) l h = absurd (omega arith)
cells_encode (suc k) [] l h = (refl, tt)
cells_encode (suc k) (c ∷ cs) l h =
    ⊎_elim
    (λ e.
    let p = and_true (eqb c 32) (starts_with (124 ∷ 32 ∷ []) cs) e in
    let q = eqb-true c 32 p.0 in
    let u = utf8_1 c (omega arith) in
    let f : starts " | " (c ∷ encode cs) ≡ true = (rw u at (starts_encode (32 ∷ 124 ∷ 32 ∷ []) (c ∷ cs) ascii_bar h)) ∙ e in
    let g : drop 2 (encode cs) ≡ encode (drop 2 cs) = drop_encode (124 ∷ 32 ∷ []) cs (omega arith, (omega arith, tt)) p.1 in
    let ih = cells_encode k (drop 2 cs) (rw (length-drop 2 cs) (omega arith)) (scalars_drop 2 cs h.1) in
    let m = cells_spaced dot c cs e in (
      ap (λ (x : List ℕ). cells dot_bytes 0 (x ++ encode cs)) u
          ∙ cells_spaced dot_bytes c (encode cs) f
          ∙ ap (λ (x : List ℕ). dot_bytes ++ cells dot_bytes 0 x) g
          ∙ ap (λ (x : List ℕ). dot_bytes ++ x) ih.0
          ∙ sym (dot_encode (cells dot 0 (drop 2 cs)))
          ∙ ap encode (sym m),
      rw m (scalars_dot (cells dot 0 (drop 2 cs)) ih.1),
    ))
    (λ e.
    let ih = cells_encode k cs (omega arith) h.1 in
    ⊎_elim
    (λ b.
    let q = eqb-true c 124 b in
    let u = utf8_1 c (omega arith) in
    let f : starts " | " (c ∷ encode cs) ≡ false = (rw u at (starts_encode (32 ∷ 124 ∷ 32 ∷ []) (c ∷ cs) ascii_bar h)) ∙ e in
    let m = cells_bar dot c cs e q in (
      ap (λ (x : List ℕ). cells dot_bytes 0 (x ++ encode cs)) u
          ∙ cells_bar dot_bytes c (encode cs) f q
          ∙ ap (λ (x : List ℕ). dot_bytes ++ x) ih.0
          ∙ sym (dot_encode (cells dot 0 cs))
          ∙ ap encode (sym m),
      rw m (scalars_dot (cells dot 0 cs) ih.1),
    ))
    (λ b.
    let n = eqb-false c 124 b in
    let m = cells_kept dot c cs e n in (
      ⊎_elim
          (λ v.
          let u = utf8_1 c (ltb-true c 0x80 v) in
          let f : starts " | " (c ∷ encode cs) ≡ false = (rw u at (starts_encode (32 ∷ 124 ∷ 32 ∷ []) (c ∷ cs) ascii_bar h)) ∙ e in
          ap (λ (x : List ℕ). cells dot_bytes 0 (x ++ encode cs)) u
          ∙ cells_kept dot_bytes c (encode cs) f n
          ∙ ap (λ (x : List ℕ). c ∷ x) ih.0
          ∙ sym (ap encode m ∙ ap (λ (x : List ℕ). x ++ encode (cells dot 0 cs)) u))
          (λ v.
          cells_high dot_bytes (utf8 c) (encode cs) (utf8_high c h.0 (ltb-false c 0x80 v))
          ∙ ap (λ (x : List ℕ). utf8 c ++ x) ih.0
          ∙ ap encode (sym m))
          (decide (ltb c 0x80)),
      rw m (h.0, ih.1),
    ))
    (decide (eqb c 124)))
    (decide (starts " | " (c ∷ cs)))

pub chars_cells : (s : List ℕ) → Scalars (chars s) → chars (cells dot_bytes 0 s) ≡ cells dot 0 (chars s)
chars_cells s h =
    let p = cells_encode (length (chars s)) (chars s) (omega arith) h in
    ap (λ (l : List ℕ). chars (cells dot_bytes 0 l)) (sym (encode_chars s)) ∙ ap chars p.0 ∙ chars_encode (cells dot 0 (chars s)) p.1

-- ---- a run at the end
module _ (p : ℕ → Bool) where
  pub end_nil : trim_end_matches p [] ≡ []
  unfolding trim_end_matches drop_while
  end_nil = refl

-- an ASCII byte at the end of the bytes stands at the end of the characters, and nowhere else does its character
module _ (x : ℕ) (low : x < 0x80) where
  abbrev p : ℕ → Bool
  p c = eqb c x

  stays : (xs : List ℕ) (b : ℕ) → (b ≡ x → ⊥) → trim_end_matches p (chars (xs ++ (b ∷ []))) ≡ chars (xs ++ (b ∷ []))
  stays xs b n =
      ⊎_elim
      (λ e. rw e (end_nil p))
      (λ (ds, c, q).
      ⊎_elim
      (λ s.
      let r = eqb-true c x s in
      let t : xs ++ (b ∷ []) ≡ encode ds ++ (x ∷ []) =
      sym (encode_chars (xs ++ (b ∷ []))) ∙ ap encode q ∙ encode_append ds (c ∷ []) ∙ rw (r, utf8_1 x low)
      in absurd (n (same_last xs (encode ds) b x t)))
      (λ s. rw q (end_snoc p ds c ∙ rw s))
      (decide (eqb c x)))
      (last_of (chars (xs ++ (b ∷ []))))

  end_of_take : (e : ℕ) (s : List ℕ) → e ≤ length s → chars (trim_end_matches p (take e s)) ≡ trim_end_matches p (chars (take e s))
  end_of_take zero s l = rw (end_nil p, chars_nil) (sym (end_nil p))
  end_of_take (suc e) s l =
      let ih = end_of_take e s (omega arith) in
      rw (take-suc s e 0 l, end_snoc p (take e s) (get_or s e 0))
      (⊎_elim
      (λ q.
      let r = eqb-true (get_or s e 0) x q in
      let t : chars (take e s ++ (x ∷ [])) ≡ chars (take e s) ++ (x ∷ []) =
      chars_append (take e s) (x ∷ []) (within_below 0x80 0xBF x low) ∙ ap (λ (l : List ℕ). chars (take e s) ++ l) (chars_ascii x [] low ∙ rw chars_nil)
      in
      rw (q) (ih ∙ sym (rw (r, t) (end_snoc p (chars (take e s)) x ∙ rw (eq-eqb x x refl)))))
      (λ q. rw (q) (sym (stays (take e s) (get_or s e 0) (eqb-false (get_or s e 0) x q))))
      (decide (eqb (get_or s e 0) x)))

  pub chars_run_end : (s : List ℕ) → chars (trim_end_matches p s) ≡ trim_end_matches p (chars s)
  chars_run_end s = rw (take-length s) at (end_of_take (length s) s (omega arith))

-- ---- a row
abbrev pub bar : ℕ → Bool
bar c = eqb c 124

-- the bytes without the bars at their ends, in one pass
pub row_is : (t : List ℕ) → Scalars (chars t)
    → trim (chars (cells dot_bytes 0 (trim_end_matches bar (drop (length (take_while bar t)) t)))) ≡ row (chars t)
unfolding row
row_is t h =
    let rc = run_chars bar (same_low 124 (omega arith)) t in
    let u = drop (length (take_while bar t)) t in
    let q : chars (trim_end_matches bar u) ≡ trim_matches bar (chars t) =
    chars_run_end 124 (omega arith) u ∙ ap (trim_end_matches bar) (sym rc.1)
    in
    ap trim
    (chars_cells (trim_end_matches bar u) (rw q (scalars_trim bar (chars t) h))
    ∙ ap (cells dot 0) q
    ∙ sym (replaced 0 (trim_matches bar (chars t))))
