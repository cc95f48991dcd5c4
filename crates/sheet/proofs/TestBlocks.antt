-- Blocks: what the reader's answers are made of, and their counts.
-- Assumes nothing.
use Rattle.std.proofs.Common.{◌≡◌, refl, sym, ◌∙◌, ap, subst, ℕ, suc, ◌+◌, ◌-◌, ◌≤◌, ◌<◌, min, arith, Bool, true, false, ◌||◌, ⊎_elim, List, [], ◌∷◌, ◌++◌, append-nil}
use Rattle.std.proofs.Common.{append_assoc, map, le-leb, ltb-true, ltb-false, ltb, length, length-append, Option as Maybe, Some}
use Rattle.std.proofs.lemmas.Bool.Decides.{nat_tests}
use Rattle.std.proofs.Math.Option.{none, some}
use Rattle.text.specs.Words.{str, repeat, ◌>>=◌}
use Rattle.text.specs.Chars.{within, is_ascii}
use Rattle.text.specs.Utf8.{chars}
use Rattle.text.proofs.Tests.{decide}
use Rattle.text.proofs.Laws.{chars_nil}
use Rattle.text.proofs.AsciiLaws.{chars_ascii, chars_high}
use Rattle.sheet.specs.Reading.{◌<|>◌, strip}
use Rattle.sheet.specs.Tree.{Run, Mark, Items, end, leaf, node, alone, with, Block, heading, para, list}
use Rattle.sheet.specs.Grammar.{closes_h, is_list, IsList}
use Rattle.sheet.specs.Reader.{Answer, line, read_list, digit, closed_by, headed, read_heading, read_para, list_of, block}
use Rattle.sheet.specs.Written.{Row, rows_from, rows, written_runs, written_row, joined}
use Rattle.sheet.specs.Weight.{weight, alike, added}
use Rattle.sheet.specs.Says.{Says, Weighs}
use Rattle.sheet.specs.Forms.{led_rows, list_form, led, block_form}
use Rattle.sheet.proofs.ReadingLaws.{strip_inv}
use Rattle.sheet.proofs.Sound.{read_list_sound}
use Rattle.sheet.specs.declared.count.Count.{Count}
use Rattle.sheet.specs.declared.reading.Read.{Read}
use Rattle.sheet.proofs.AllChars.{all_append, all_hashes}
use Rattle.sheet.proofs.PageRead.{length_hashes}
use Rattle.sheet.proofs.TestCount.{ascii_marks, weight_append, weight_ascii}
use Rattle.sheet.proofs.TestSays.{Got, answers, says_as}

-- ---- a line and the tag after it
module _ (q s : List ℕ) where
  pub closed_1 : line s ≡ none → closed_by q s ≡ none
  unfolding closed_by
  closed_1 f = rw f

  module _ (l : List Run) (s₁ : List ℕ) (f : line s ≡ some (l, s₁)) where
    pub closed_2 : strip q s₁ ≡ none → closed_by q s ≡ none
    unfolding closed_by
    closed_2 g = rw (f, g)

    pub closed_3 : {r : List ℕ} → strip q s₁ ≡ some r → closed_by q s ≡ some (l, r)
    unfolding closed_by
    closed_3 g = rw (f, g)

led_weight : (n : ℕ) (l : List Run) → weight (led n l) ≡ added (alike n) (weight (written_runs l))
led_weight n l =
    weight_append (repeat n "#") (written_runs l)
    ∙ ap (λ (w : Count). added w (weight (written_runs l))) (weight_ascii (repeat n "#") (all_hashes is_ascii ascii_marks n) ∙ ap alike (length_hashes n))

pub led_count : (n : ℕ) (l : List Run) {a b c : Count} → a ≡ alike n → b ≡ weight (written_runs l) → c ≡ added a b → c ≡ weight (led n l)
led_count n l e f g = g ∙ cc (e, f) ∙ sym (led_weight n l)

-- ---- a heading
heading_weight : (n : ℕ) (l : List Run) → weight (led (min n 3 + 3) l) ≡ weight (block_form (heading n l))
unfolding rows joined
heading_weight n l =
    let p = str "\n\n" ++ (repeat (min n 3) "#" ++ str " ") in
    let q : weight p ≡ alike (min n 3 + 3) =
    weight_ascii p (all_append is_ascii (repeat (min n 3) "#") (str " ") (all_hashes is_ascii ascii_marks (min n 3)) refl)
    ∙ ap (λ (m : ℕ). alike (suc (suc m))) (length-append (repeat (min n 3) "#") (str " ") ∙ ap (λ (m : ℕ). m + 1) (length_hashes (min n 3)))
    ∙ ap alike (omega arith) in
    led_weight (min n 3 + 3) l ∙ ap (λ (w : Count). added w (weight (written_runs l))) (sym q) ∙ sym (weight_append p (written_runs l))
    ∙ ap weight (ap (λ (m : List ℕ). str "\n\n" ++ m) (append_assoc (repeat (min n 3) "#") (str " ") (written_runs l)))

module _ (b : ℕ) (r : List ℕ) where
  pub no_heading : ltb b 49 || ltb 54 b ≡ true → headed (chars (b ∷ r)) ≡ none
  unfolding headed
  no_heading h = ⊎_elim (λ l. low (ltb-true b 0x80 l)) (λ l. high (ltb-false b 0x80 l)) (decide (ltb b 0x80))
    where
      low : b < 0x80 → headed (chars (b ∷ r)) ≡ none
      low l = let n : within 49 54 b ≡ false = grind (arith, nat_tests) in rw (chars_ascii b r l, n)

      high : 0x80 ≤ b → headed (chars (b ∷ r)) ≡ none
      high l =
          let y = chars_high b r l in
          let n : within 49 54 y.0 ≡ false = let k = y.3 in grind (arith, nat_tests) in
          rw (y.2, n)

  module _ (h : ltb b 49 || ltb 54 b ≡ false) where
    pub heading_digit : (49 ≤ b) × (b ≤ 54)
    heading_digit = (grind (arith, nat_tests), grind (arith, nat_tests))

    after_digit : digit (chars (b ∷ r)) ≡ some (b - 48, chars r)
    after_digit =
        let n = heading_digit in
        rw (chars_ascii b r (omega (arith, n.1)), le-leb 49 b n.0, le-leb b 54 n.1)

    pub headed_none : strip (str ">") (chars r) ≡ none → headed (chars (b ∷ r)) ≡ none
    unfolding headed
    headed_none e = rw (after_digit, e)

    pub headed_some : {s₁ : List ℕ} → strip (str ">") (chars r) ≡ some s₁ → {k : ℕ} → k ≡ min (b - 48) 3 → (t : Maybe (Read Count))
        → Says (Weighs (led (k + 3))) (closed_by (60 ∷ 47 ∷ 104 ∷ b ∷ 62 ∷ []) s₁) t → Says (Weighs block_form) (headed (chars (b ∷ r))) t
    unfolding headed
    headed_some {s₁} e {k} f t h =
        let n = heading_digit in
        let z : b ≡ 48 + (b - 48) = omega (arith, n.0) in
        let tag : closes_h (b - 48) ≡ 60 ∷ 47 ∷ 104 ∷ b ∷ 62 ∷ [] = ap (λ (b : ℕ). 60 ∷ 47 ∷ 104 ∷ b ∷ 62 ∷ []) (sym z) in
        let is : headed (chars (b ∷ r)) ≡ (closed_by (60 ∷ 47 ∷ 104 ∷ b ∷ 62 ∷ []) s₁ >>= λ x. some (heading (b - 48) x.0, x.1)) = rw (after_digit, e, tag) in
        subst (λ (o : Answer Block). Says (Weighs block_form) o t) (sym is)
        (says_as (Weighs (led (k + 3))) (Weighs block_form) (heading (b - 48)) (λ x y w. w ∙ ap (λ (k : ℕ). weight (led (k + 3) x)) f ∙ heading_weight (b - 48) x) _ t h)

pub no_heading_end : (s : List ℕ) → length s ≡ 0 → headed (chars s) ≡ none
unfolding headed
no_heading_end [] e = rw chars_nil
no_heading_end (b ∷ s) e = absurd (omega arith)

-- ---- a paragraph
para_weight : (l : List Run) → weight (led 2 l) ≡ weight (block_form (para l))
unfolding rows joined
para_weight l = led_weight 2 l ∙ ap (λ (w : Count). added w (weight (written_runs l))) (sym (weight_ascii (str "\n\n") refl)) ∙ sym (weight_append (str "\n\n") (written_runs l))

-- ---- a list as a block
led_joined : (r : Row) (rs : List Row) → led_rows (r ∷ rs) ≡ str "\n" ++ joined (str "\n") (map written_row (r ∷ rs))
unfolding led_rows joined
led_joined r [] = append-nil (str "\n" ++ written_row r)
led_joined r (q ∷ rs) = ap (λ (l : List ℕ). (str "\n" ++ written_row r) ++ l) (led_joined q rs)

abbrev its_filled : Items → Bool
its_filled end = false
its_filled (leaf l its) = true
its_filled (node l m sub its) = true

some_row : (m : Mark) (its : Items) → its_filled its ≡ true → (r : Row) × (rs : List Row) × (rows_from 0 m 1 its ≡ r ∷ rs)
unfolding rows_from
some_row m end h = let z : ◌≡◌ {A = ℕ} 0 1 = cc in absurd (omega arith)
some_row m (leaf l its) h = (_, _, refl)
some_row m (node l k sub its) h = (_, _, refl)

list_filled : (s : List ℕ) (y : (Mark × Items) × List ℕ) → read_list 8 s ≡ some y → its_filled y.0.1 ≡ true
list_filled s y e = go (read_list_sound 8 s y e)
  where
    go : {s r : List ℕ} {m : Mark} {its : Items} → IsList 8 s m its r → its_filled its ≡ true
    go (is_list {it = alone l} m n q) = refl
    go (is_list {it = with l k sub} m n q) = refl

list_weight : (x : Mark × Items) → its_filled x.1 ≡ true → {a b c : Count} → a ≡ alike 1 → b ≡ weight (list_form 0 x) → c ≡ added a b → c ≡ weight (block_form (list x.0 x.1))
unfolding list_form rows
list_weight x h {a} {b} {c} e f g =
    let r = some_row x.0 x.1 h in
    let z : list_form 0 x ≡ str "\n" ++ joined (str "\n") (map written_row (rows_from 0 x.0 1 x.1)) =
    ap led_rows r.2 ∙ led_joined r.0 r.1 ∙ ap (λ (l : List Row). str "\n" ++ joined (str "\n") (map written_row l)) (sym r.2) in
    g ∙ cc (e ∙ sym (weight_ascii (str "\n") refl), f) ∙ sym (weight_append (str "\n") (list_form 0 x)) ∙ ap (λ (l : List ℕ). weight (str "\n" ++ l)) z

-- ---- a block
module _ (s : List ℕ) where
  abbrev listed : Answer Block
  listed = read_list 8 s >>= λ x. some (list x.0.0 x.0.1, x.1)

  alt_none : (o : Answer Block) → (o <|> none) ≡ o
  alt_none none = refl
  alt_none (some x) = refl

  -- no two of the three begin alike
  pub by_heading : {s₁ : List ℕ} → strip (str "<h") s ≡ some s₁ → block s ≡ headed s₁
  unfolding block read_heading read_para read_list list_of
  by_heading {s₁} e = ap block (strip_inv (str "<h") s e) ∙ alt_none (headed s₁)

  by_para : {s₁ : List ℕ} → strip (str "<p>") s ≡ some s₁ → block s ≡ (closed_by (str "</p>") s₁ >>= λ x. some (para x.0, x.1))
  unfolding block read_heading read_para read_list list_of
  by_para {s₁} e = ap block (strip_inv (str "<p>") s e) ∙ alt_none (closed_by (str "</p>") s₁ >>= λ x. some (para x.0, x.1))

  pub block_para : {s₁ : List ℕ} → strip (str "<p>") s ≡ some s₁ → (t : Maybe (Read Count)) → Says (Weighs (led 2)) (closed_by (str "</p>") s₁) t → Says (Weighs block_form) (block s) t
  block_para e t h =
      subst (λ (o : Answer Block). Says (Weighs block_form) o t) (sym (by_para e)) (says_as (Weighs (led 2)) (Weighs block_form) para (λ x y w. w ∙ para_weight x) _ t h)

  module _ (e : strip (str "<h") s ≡ none) (f : strip (str "<p>") s ≡ none) where
    block_list : block s ≡ listed
    unfolding block read_heading read_para
    block_list = rw (e, f)

    pub block_none : read_list 8 s ≡ none → block s ≡ none
    block_none h = block_list ∙ rw h

    pub block_some : {v : Read Count} {a c : Count} → Got (Weighs (list_form 0)) (read_list 8 s) v → a ≡ alike 1 → c ≡ added a v.value →
        Says (Weighs block_form) (block s) (Some (record { value = c; rest = v.rest }))
    block_some {v} g k m =
        answers (Weighs block_form) _ (block_list ∙ rw g.is) (list_weight g.what (list_filled s (g.what, chars v.rest.now) g.is) k g.value m)
