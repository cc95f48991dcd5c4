-- How far a turn goes, and how much text and how many spans it ends, by any weight of characters.
-- Assumes nothing.
use mathlib.Core.Path.{◌≡◌, refl, ap}
use Prim.Native.Nat.{ℕ, zero, suc, ◌+◌, ◌*◌, ◌≤◌, ◌<◌}
use native.Mathlib.Nat.{zero-add}
use native.Mathlib.Omega.{arith}
use mathlib.Core.Bool.{Bool, true, false, not, ◌&&◌}
use mathlib.Core.List.{List, [], ◌∷◌, ◌++◌, map, reverse, reverse-cons}
use lib.ListN.{length, take, drop, get_or, length-append, length-drop, length-map}
use Rattle.text.specs.Words.{is, is_empty, starts, find}
use Rattle.text.proofs.Tests.{on, by_case, and_true}
use Rattle.records.specs.Blocks.{Span}
use Rattle.spans.specs.Spans.{Walk, at, push, cleared, span, flush, link, Step, made, label, kept, code_step, star_step, link_step, image_step, step, carry, walk, spans}
use Rattle.spans.specs.Turn.{Turn, turn, linked, turned}
use Rattle.spans.proofs.LinkLaws.{index_inside, LinkIs, link_is}
use Rattle.spans.proofs.SpanLaws.{shorter_drop, shorter_take, flushed, not_empty, walk_end, walk_next, spans_eq}

-- ---- weights

abbrev pub weigh : (ℕ → ℕ) → List ℕ → ℕ
weigh f [] = 0
weigh f (c ∷ s) = f c + weigh f s

-- the weight of all texts
abbrev pub texts : (ℕ → ℕ) → List Span → ℕ
texts f [] = 0
texts f (s ∷ ss) = weigh f s.text + texts f ss

pub weigh_append : (f : ℕ → ℕ) (xs ys : List ℕ) → weigh f (xs ++ ys) ≡ weigh f xs + weigh f ys
weigh_append f [] ys = omega arith
weigh_append f (x ∷ xs) ys = omega (arith, weigh_append f xs ys)

pub weigh_reverse : (f : ℕ → ℕ) (xs : List ℕ) → weigh f (reverse xs) ≡ weigh f xs
weigh_reverse f [] = refl
weigh_reverse f (x ∷ xs) =
    omega (arith, ap (weigh f) (reverse-cons x xs), weigh_append f (reverse xs) (x ∷ []), weigh_reverse f xs)

weigh_split : (f : ℕ → ℕ) (n : ℕ) (s : List ℕ) → weigh f s ≡ weigh f (take n s) + weigh f (drop n s)
weigh_split f zero s = omega arith
weigh_split f (suc n) [] = omega arith
weigh_split f (suc n) (c ∷ s) = omega (arith, weigh_split f n s)

weigh_more : (f : ℕ → ℕ) (m n : ℕ) (s : List ℕ) → m ≤ n → weigh f (take m s) ≤ weigh f (take n s)
weigh_more f zero n s h = omega arith
weigh_more f (suc m) zero s h = absurd (omega arith)
weigh_more f (suc m) (suc n) [] h = omega arith
weigh_more f (suc m) (suc n) (c ∷ s) h = omega (arith, weigh_more f m n s (omega arith))

pub texts_append : (f : ℕ → ℕ) (xs ys : List Span) → texts f (xs ++ ys) ≡ texts f xs + texts f ys
texts_append f [] ys = omega arith
texts_append f (x ∷ xs) ys = omega (arith, texts_append f xs ys)

texts_carry : (f : ℕ → ℕ) (w : Walk) (xs : List Span) → texts f (map (carry w) xs) ≡ texts f xs
texts_carry f w [] = refl
texts_carry f w (x ∷ xs) = ap (λ (n : ℕ). weigh f x.text + n) (texts_carry f w xs)

some_start : (s : List ℕ) → starts "*" s ≡ true → 1 ≤ length s
some_start [] e = let z : ◌≡◌ {A = ℕ} 0 1 = cc in absurd (omega arith)
some_start (c ∷ s) e = omega arith

first_weight : (f : ℕ → ℕ) (s : List ℕ) → 1 ≤ length s → weigh f (take 1 s) ≡ f (get_or s 0 0)
first_weight f [] h = absurd (omega arith)
first_weight f (c ∷ s) h = omega arith

-- a list of spans made from text of so much weight: each span's record has five bytes and its text
pub record Fits (f : ℕ → ℕ) (ss : List Span) (rest total : ℕ) : Type 0 where
  pub small : 5 * length ss + texts f ss + 6 * rest ≤ 6 * total
  pub fit : texts f ss + rest ≤ total

-- a turn at c with s after it
pub record Good (f : ℕ → ℕ) (w : Walk) (c : ℕ) (s : List ℕ) (t : Turn) : Type 0 where
  pub within : t.more ≤ length s
  pub fits : Fits f t.spans (weigh f t.walk.text) (weigh f w.text + (f c + weigh f (take t.more s)))

module _ (f : ℕ → ℕ) (some_weight : (c : ℕ) → 1 ≤ f c) (w : Walk) where
  flush_fits : Fits f (flush w) 0 (weigh f w.text)
  flush_fits =
      flushed (λ ss. Fits f ss 0 (weigh f w.text)) w
      (λ e. record { small = omega arith; fit = omega arith })
      (λ c t e.
      let h = some_weight c in
      let k = weigh_reverse f w.text in
      let m : weigh f w.text ≡ f c + weigh f t = ap (weigh f) e in
      record { small = omega arith; fit = omega arith })

  module _ (c : ℕ) (s : List ℕ) where
    kept_good : Good f w c s (turn [] (push c w) 0)
    kept_good = record { within = omega arith; fits = record { small = omega arith; fit = omega arith } }

    toggle_good : (n : ℕ) (b i : Bool) → n ≤ length s → Good f w c s (turn (flush w) (at b i []) n)
    toggle_good n b i h =
        let k = flush_fits in
        record { within = h; fits = record { small = omega (arith, k.small); fit = omega (arith, k.fit) } }

    code_good : (n : ℕ) → n < length s → Good f w c s (turn (flush w ++ (span true w (take n s) ∷ [])) (cleared w) (n + 1))
    code_good n h =
        let k = flush_fits in
        let x : Span = span true w (take n s) in
        let a = length-append (flush w) (x ∷ []) in
        let b = texts_append f (flush w) (x ∷ []) in
        let m = weigh_more f n (n + 1) s (omega arith) in
        let p = some_weight c in
        record { within = omega arith; fits = record { small = omega (arith, k.small); fit = omega (arith, k.fit) } }

    linked_good : (ls : List Span) (n : ℕ) → n ≤ length s → Fits f ls 0 (weigh f (take n s)) → Good f w c s (linked w ls n)
    unfolding linked
    linked_good [] n h l = record { within = h; fits = record { small = omega arith; fit = omega arith } }
    linked_good (x ∷ ls) n h l =
        let k = flush_fits in
        let a = length-append (flush w) (x ∷ ls) in
        let b = texts_append f (flush w) (x ∷ ls) in
        record { within = h; fits = record { small = omega (arith, k.small, l.small); fit = omega (arith, k.fit, l.fit) } }

    module _ (inner : List ℕ → List Span) (labels : (l : List ℕ) → length l ≤ length s → Fits f (inner l) 0 (weigh f l)) where
      abbrev IsGood : Step → Type 0
      IsGood x = Good f w c s (turned inner w s x)

      kept_step : IsGood (kept w c)
      unfolding turned
      kept_step = kept_good

      code_is : IsGood (code_step w c s)
      unfolding code_step turned
      code_is = by_case IsGood (find "`" s) (λ _. kept_good) (λ n e. code_good n (index_inside 96 s n e))

      star_is : IsGood (star_step w s)
      unfolding star_step turned
      star_is =
          on IsGood (starts "*" s) (λ e. toggle_good 1 (not w.bold) w.italic (some_start s e)) (λ _. toggle_good 0 w.bold (not w.italic) (omega arith))

      label_good : (p : ℕ × ℕ) → LinkIs s p → IsGood (label p.0 (p.1 + 1))
      unfolding turned
      label_good p h =
          let l : List ℕ = take p.0 s in
          let k = labels l (shorter_take p.0 s) in
          let m = weigh_more f p.0 (p.1 + 1) s (omega (arith, h.order)) in
          let a = length-map (inner l) (carry w) in
          let b = texts_carry f w (inner l) in
          linked_good (map (carry w) (inner l)) (p.1 + 1) (omega (arith, h.end))
          (record { small = omega (arith, k.small); fit = omega (arith, k.fit) })

      linked_is : IsGood (link_step w c s)
      unfolding link_step
      linked_is = by_case IsGood (link s) (λ _. kept_step) (λ p e. label_good p (link_is s p e))

      image_good : (p : ℕ × ℕ) → LinkIs (drop 1 s) p → IsGood (made [] w (p.1 + 2))
      unfolding turned
      image_good p h = record {
        within = omega (arith, h.end, length-drop 1 s);
        fits = record { small = omega arith; fit = omega arith };
      }

      image_is : IsGood (image_step w c s)
      unfolding image_step
      image_is = by_case IsGood (link (drop 1 s)) (λ _. kept_step) (λ p e. image_good p (link_is (drop 1 s) p e))

      escape_good : 1 ≤ length s → IsGood (made [] (push (get_or s 0 0) w) 1)
      unfolding turned
      escape_good h =
          let k = first_weight f s h in
          record { within = h; fits = record { small = omega arith; fit = omega arith } }

      pub turn_good : IsGood (step w c s)
      unfolding step
      turn_good =
          on IsGood (is "\\" c && not (is_empty s)) (λ e. escape_good (not_empty s (and_true (is "\\" c) (not (is_empty s)) e).1))
          (λ _. on IsGood (is "`" c) (λ _. code_is)
          (λ _. on IsGood (is "*" c) (λ _. star_is)
          (λ _. on IsGood (is "[" c) (λ _. linked_is)
          (λ _. on IsGood (is "!" c && starts "[" s) (λ _. image_is) (λ _. kept_step)))))

module _ (f : ℕ → ℕ) (some_weight : (c : ℕ) → 1 ≤ f c) where
  at_end : (w : Walk) → Fits f (walk spans w 0 []) 0 (weigh f w.text + 0)
  at_end w =
      let k = flush_fits f some_weight w in
      rw (walk_end spans w) (record { small = omega (arith, k.small); fit = omega (arith, k.fit) })

  walk_fits : (n : ℕ) (s : List ℕ) → length s ≤ n → (w : Walk) → Fits f (walk spans w 0 s) 0 (weigh f w.text + weigh f s)
  walk_fits zero [] h w = at_end w
  walk_fits (suc n) [] h w = at_end w
  walk_fits zero (c ∷ s) h w = absurd (omega arith)
  walk_fits (suc n) (c ∷ s) h w =
      let t : Turn = turned spans w s (step w c s) in
      let good : Good f w c s t =
      turn_good f some_weight w c s spans (λ l k. rw (spans_eq l) (rw (zero-add (weigh f l)) at (walk_fits n l (omega arith) (at false false [])))) in
      let rest : List Span = walk spans t.walk 0 (drop t.more s) in
      let later = walk_fits n (drop t.more s) (omega (arith, shorter_drop t.more s)) t.walk in
      let a = length-append t.spans rest in
      let b = texts_append f t.spans rest in
      let m = weigh_split f t.more s in
      rw (walk_next spans w c s)
      (record { small = omega (arith, good.fits.small, later.small); fit = omega (arith, good.fits.fit, later.fit) })

  pub spans_fits : (line : List ℕ) → Fits f (spans line) 0 (weigh f line)
  spans_fits line = rw (spans_eq line) (rw (zero-add (weigh f line)) at (walk_fits (length line) line (omega arith) (at false false [])))

  pub turn_fits : (w : Walk) (c : ℕ) (s : List ℕ) → Good f w c s (turned spans w s (step w c s))
  turn_fits w c s = turn_good f some_weight w c s spans (λ l k. spans_fits l)
