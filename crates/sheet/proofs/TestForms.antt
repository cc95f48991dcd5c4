-- Counts of the written forms.
-- Assumes nothing.
use Rattle.std.proofs.Common.{◌≡◌, refl, sym, ◌∙◌, ap, ℕ, zero, suc, ◌+◌, ◌*◌, ◌/◌, ◌%◌, ◌^◌, ◌≤◌, ◌<◌, arith, Option as Maybe, Some, None, MatchOption, IfNone, IfSome}
use Rattle.std.proofs.Common.{unwrap_or, pow-suc, List, [], ◌∷◌, ◌++◌, append-nil, append_assoc, length, length-append}
use Rattle.text.specs.Words.{str, repeat}
use Rattle.text.specs.Chars.{is_ascii}
use Rattle.text.specs.Decimal.{decimal}
use Rattle.text.proofs.DecimalLaws.{decimal_small, decimal_large}
use Rattle.sheet.specs.Tree.{Run, Mark, Items, Item, alone, with, items}
use Rattle.sheet.specs.Written.{Row, item, place, rows_from, lead, written_runs, written_row}
use Rattle.sheet.specs.Weight.{weight, alike, added}
use Rattle.sheet.specs.Forms.{led_rows, item_form, list_form, row_lead}
use Rattle.sheet.specs.declared.count.Count.{Count}
use Rattle.sheet.proofs.TestCount.{ascii_marks, weight_append, weight_ascii}
use Rattle.sheet.proofs.AllChars.{all_append, all_blanks, all_lead}

-- ---- what stands before an item's line
indent_length : (d : ℕ) → length (repeat d "  ") ≡ d * 2
indent_length zero = refl
indent_length (suc d) = let h = indent_length d in omega arith

row_lead_weight : (d n : ℕ) → weight (row_lead d n) ≡ alike (1 + (d * 2 + length (lead n)))
row_lead_weight d n =
    weight_ascii (row_lead d n) (all_append is_ascii (repeat d "  ") (lead n) (all_blanks is_ascii ascii_marks d) (all_lead is_ascii ascii_marks n))
    ∙ ap (λ (k : ℕ). alike (suc k)) (length-append (repeat d "  ") (lead n) ∙ ap (λ (k : ℕ). k + length (lead n)) (indent_length d))
    ∙ ap alike (omega arith)

-- ---- how many digits
digit_count : (k n : ℕ) → 10 ^ k ≤ n → n < 10 * 10 ^ k → length (decimal n) ≡ suc k
digit_count zero n l h = ap length (decimal_small n (omega arith))
digit_count (suc k) n l h =
    let p : 10 ^ suc k ≡ 10 * 10 ^ k = rw pow-suc (omega arith) in
    let ih = digit_count k (n / 10) (omega arith) (omega arith) in
    omega (arith, ap length (decimal_large n (omega arith)), length-append (decimal (n / 10)) ((48 + n % 10) ∷ []))

-- `- ` before an item with no place, and else the place and `. `
one_le : (k : ℕ) → 1 ≤ 10 ^ k
one_le zero = omega arith
one_le (suc k) = let h = one_le k in rw pow-suc (omega arith)

-- what the logarithm says of a number, which has none where it is 0
abbrev pub IsLog : ℕ → Maybe ℕ → Type 0
IsLog n o = IfNone o (n ≡ 0) × IfSome o (λ k. 10 ^ k ≤ n) × IfSome o (λ k. n < 10 * 10 ^ k)

lead_length : (o p : Maybe ℕ) (m : ℕ) → MatchOption o (p ≡ None) (λ n. IsLog n p) → MatchOption p (m ≡ 2) (λ k. m ≡ k + 3) → length (lead (unwrap_or o 0)) ≡ m
lead_length None p m h e = go p h e
  where
    go : (p : Maybe ℕ) → p ≡ None → MatchOption p (m ≡ 2) (λ k. m ≡ k + 3) → 2 ≡ m
    go None h e = sym e
    go (Some k) h e = cc
lead_length (Some n) None m h e = rw (h.0, e)
lead_length (Some zero) (Some k) m h e = absurd (omega (arith, one_le k, h.1))
lead_length (Some (suc n)) (Some k) m h e = omega (arith, length-append (decimal (suc n)) (str ". "), digit_count k (suc n) h.1 h.2)

pub lead_weight : (d : ℕ) (o p : Maybe ℕ) (m : ℕ) {r : Count} → MatchOption o (p ≡ None) (λ n. IsLog n p) → MatchOption p (m ≡ 2) (λ k. m ≡ k + 3)
    → r ≡ alike (1 + d * 2 + m) → r ≡ weight (row_lead d (unwrap_or o 0))
lead_weight d o p m h e f = f ∙ ap alike (omega (arith, lead_length o p m h e)) ∙ sym (row_lead_weight d (unwrap_or o 0))

-- ---- rows
pub led_append : (xs ys : List Row) → led_rows (xs ++ ys) ≡ led_rows xs ++ led_rows ys
unfolding led_rows
led_append [] ys = refl
led_append (r ∷ xs) ys = rw (led_append xs ys) (sym (append_assoc (str "\n" ++ written_row r) (led_rows xs) (led_rows ys)))

-- an item more
pub rows_snoc : (d : ℕ) (m : Mark) (n : ℕ) (xs : List Item) (x : Item)
    → led_rows (rows_from d m n (items (xs ++ (x ∷ [])))) ≡ led_rows (rows_from d m n (items xs)) ++ item_form d (place m (length xs + n)) x
unfolding led_rows rows_from item_form
rows_snoc d m n [] (alone l) = let z : 0 + n ≡ n = omega arith in rw z
rows_snoc d m n [] (with l k its) = let z : 0 + n ≡ n = omega arith in rw z (ap (λ (r : List Row). led_rows (item d (place m n) l ∷ r)) (append-nil (rows_from (suc d) k 1 its)))
rows_snoc d m n (alone l ∷ xs) x =
    let z : length xs + suc n ≡ suc (length xs) + n = omega arith in
    rw (rows_snoc d m (suc n) xs x, z) (sym (append_assoc (str "\n" ++ written_row (item d (place m n) l)) (led_rows (rows_from d m (suc n) (items xs)))
    (item_form d (place m (suc (length xs) + n)) x)))
rows_snoc d m n (with l k its ∷ xs) x =
    let z : length xs + suc n ≡ suc (length xs) + n = omega arith in
    let a = rows_from (suc d) k 1 its in
    let b = rows_from d m (suc n) (items xs) in
    let f = item_form d (place m (suc (length xs) + n)) x in
    rw (led_append a (rows_from d m (suc n) (items (xs ++ (x ∷ [])))), led_append a b, rows_snoc d m (suc n) xs x, z)
    (ap (λ (r : List ℕ). (str "\n" ++ written_row (item d (place m n) l)) ++ r) (sym (append_assoc (led_rows a) (led_rows b) f))
    ∙ sym (append_assoc (str "\n" ++ written_row (item d (place m n) l)) (led_rows a ++ led_rows b) f))

-- ---- an item's counts
row_weight : (d n : ℕ) (l : List Run) → weight (str "\n" ++ written_row (item d n l)) ≡ added (weight (row_lead d n)) (weight (written_runs l))
row_weight d n l = ap weight (ap (λ (r : List ℕ). str "\n" ++ r) (sym (append_assoc (repeat d "  ") (lead n) (written_runs l)))) ∙ weight_append (row_lead d n) (written_runs l)

module _ (d n : ℕ) (l : List Run) {a b c : Count} (e : a ≡ weight (row_lead d n)) (f : b ≡ weight (written_runs l)) (g : c ≡ added a b) where
  own : c ≡ weight (str "\n" ++ written_row (item d n l))
  own = g ∙ cc (e, f) ∙ sym (row_weight d n l)

  pub alone_weight : c ≡ weight (item_form d n (alone l))
  unfolding item_form led_rows
  alone_weight = own ∙ ap weight (sym (append-nil (str "\n" ++ written_row (item d n l))))

  pub with_weight : (d' : ℕ) → d' ≡ suc d → (x : Mark × Items) {s t : Count} → s ≡ weight (list_form d' x) → t ≡ added c s → t ≡ weight (item_form d n (with l x.0 x.1))
  unfolding item_form list_form led_rows
  with_weight d' z x {s} {t} h k =
      k ∙ cc (own, h, ap (λ (d : ℕ). weight (led_rows (rows_from d x.0 1 x.1))) z) ∙ sym (weight_append (str "\n" ++ written_row (item d n l)) (led_rows (rows_from (suc d) x.0 1 x.1)))
