-- Laws of a tag's name: byte by byte, as a number, through the tables, and in bytes as in characters.
-- Assumes nothing.
use Prim.Native.Nat.{ℕ, ◌+◌, ◌-◌, ◌*◌, ◌^◌, ◌≤◌, ◌<◌}
use Prim.Native.String.{String}
use native.Mathlib.Omega.{arith}
use native.Mathlib.Nat.{pow-suc, pow-le-pow_right}
use native.Mathlib.Numerals.{add-one}
use mathlib.Core.Path.{◌≡◌, refl, sym, ap, ap₂, ◌∙◌}
use mathlib.Core.Bool.{Bool, true, false, cond, not, ◌&&◌, ◌||◌}
use mathlib.Core.Logic.{⊎_elim}
use mathlib.Core.Option.{some}
use mathlib.Core.List.{List, [], ◌∷◌, map, reverse, reverse_aux, reverse-reverse}
use lib.Dec.{eqb, leb, ltb}
use lib.ListN.{length, get_or, drop, drop_of_length-le}
use lib.Seq.{drop-cons}
use borrow.Author.Tests.{eq-eqb, ne_eqb, ltb-true, ltb-false, le-leb, lt-leb, leb-true, leb-false, not-true}
use Rattle.std.specs.Prelude.{Some, None, if◌then◌else◌}
use Rattle.text.specs.Words.{case, str, all, same, lookup, take_while}
use Rattle.text.specs.Chars.{within, is_alphanumeric, is_digit, to_lower}
use Rattle.text.specs.Utf8.{chars}
use Rattle.text.proofs.Tests.{same_true, decide, on, and_true, within_true, within_is, within_above, or_elim, same_self}
use Rattle.text.proofs.Laws.{chars_nil}
use Rattle.text.proofs.AsciiLaws.{chars_ascii, chars_high}
use Rattle.html.specs.State as state
use Rattle.html.specs.State.{tags, tag_of, other}
use Rattle.html.specs.Struct.{tag_means}
use Rattle.html.specs.Page.{name_of}
use Rattle.html.specs.Names.{folded, digits, key, Rows, find, writing, table, says}
use Rattle.html.specs.declared.Skipped.TheVariants.{Script, Style}
use Rattle.html.specs.declared.Tag.{Tag}
use Rattle.html.specs.declared.Tag.TheVariants.{List as Lists, Skipped, Writes}
use Rattle.html.specs.declared.Step.TheVariants.{Other}

-- ---- one byte: a letter or digit goes on
name_cons : (b : ℕ) (s : List ℕ) → name_of (b ∷ s) ≡ cond (is_alphanumeric b) (to_lower b ∷ name_of s) []
unfolding take_while
name_cons b s = go (is_alphanumeric b)
  where
    go : (t : Bool) → map to_lower (cond t (b ∷ take_while is_alphanumeric s) []) ≡ cond t (to_lower b ∷ map to_lower (take_while is_alphanumeric s)) []
    go true = refl
    go false = refl

-- a byte of a name is a letter in lower case or a digit
lower_within : (b : ℕ) → is_alphanumeric b ≡ true → within 48 122 (to_lower b) ≡ true
lower_within b e =
    on (λ (x : ℕ). within 48 122 x ≡ true) (within 65 90 b) (λ u. let h = within_true 65 90 b u in within_is 48 122 (b + 32) (omega arith) (omega arith))
    (λ u.
    or_elim (is_digit b) (within 65 90 b || within 97 122 b) (λ d. let h = within_true 48 57 b d in within_is 48 122 b (omega arith) (omega arith))
    (λ l. or_elim (within 65 90 b) (within 97 122 b) (λ v. let y : true ≡ false = sym v ∙ u in cc) (λ v. let h = within_true 97 122 b v in within_is 48 122 b (omega arith) (omega arith)) l)
    e)

fold_no : (b : ℕ) (s : List ℕ) → folded b ≡ None → name_of (b ∷ s) ≡ []
unfolding folded
fold_no b s e =
    ⊎_elim
    (λ t. let f : Some (to_lower b) ≡ None = rw t at e in cc)
    (λ t. name_cons b s ∙ rw t)
    (decide (is_alphanumeric b))

fold_yes : (b x : ℕ) (s : List ℕ) → folded b ≡ Some x → name_of (b ∷ s) ≡ x ∷ name_of s
unfolding folded
fold_yes b x s e =
    ⊎_elim
    (λ t.
    let f : Some (to_lower b) ≡ Some x = rw t at e in
    let g : to_lower b ≡ x = cc in
    name_cons b s ∙ rw t (ap (λ (y : ℕ). y ∷ name_of s) g))
    (λ t. let f : None ≡ Some x = rw t at e in cc)
    (decide (is_alphanumeric b))

name_nil : name_of [] ≡ []
unfolding take_while
name_nil = refl

-- ---- the name from i on
pub name_end : (s : List ℕ) (i : ℕ) → length s ≤ i → name_of (drop i s) ≡ []
name_end s i h = rw (drop_of_length-le s h) name_nil

pub name_stop : (s : List ℕ) (i : ℕ) → i < length s → folded (get_or s i 0) ≡ None → name_of (drop i s) ≡ []
name_stop s i h e = rw (drop-cons s i 0 h) (fold_no _ _ e)

pub name_more : (s : List ℕ) (i x : ℕ) → i < length s → folded (get_or s i 0) ≡ Some x → name_of (drop i s) ≡ x ∷ name_of (drop (i + 1) s)
name_more s i x h e = rw (drop-cons s i 0 h, add-one i) (fold_yes _ x _ e)

-- ---- the name as a number
abbrev all_digits : List ℕ → Bool
all_digits n = all (within 48 122) n

name_digits : (s : List ℕ) → all_digits (name_of s) ≡ true
name_digits [] = rw name_nil
name_digits (b ∷ s) =
    rw (name_cons b s)
    (on (λ (n : List ℕ). all_digits n ≡ true) (is_alphanumeric b) (λ t. rw (lower_within b t) (name_digits s)) (λ _. refl))

folded_within : (b x : ℕ) → folded b ≡ Some x → (48 ≤ x) × (x ≤ 122)
unfolding folded
folded_within b x e =
    ⊎_elim
    (λ t.
    let f : Some (to_lower b) ≡ Some x = rw t at e in
    let g : to_lower b ≡ x = cc in
    rw (← g) (within_true 48 122 (to_lower b) (lower_within b t)))
    (λ t. let f : None ≡ Some x = rw t at e in cc)
    (decide (is_alphanumeric b))

-- its digits, the last one first
abbrev val : List ℕ → ℕ
val [] = 0
val (b ∷ r) = val r * 76 + (b - 47)

digits_val : (n r : List ℕ) → digits (val r) n ≡ val (reverse_aux n r)
digits_val [] r = refl
digits_val (b ∷ n) r = digits_val n (b ∷ r)

digits_aux : (n r : List ℕ) → all_digits n ≡ true → all_digits r ≡ true → all_digits (reverse_aux n r) ≡ true
digits_aux [] r h k = k
digits_aux (b ∷ n) r h k = let p = and_true (within 48 122 b) (all_digits n) h in digits_aux n (b ∷ r) p.1 (rw p.0 k)

-- two names with the same digits are one
val_is : (r q : List ℕ) → all_digits r ≡ true → all_digits q ≡ true → val r ≡ val q → r ≡ q
val_is [] [] h k e = refl
val_is [] (b ∷ q) h k e = let y = within_true 48 122 b (and_true (within 48 122 b) (all_digits q) k).0 in absurd (omega arith)
val_is (a ∷ r) [] h k e = let x = within_true 48 122 a (and_true (within 48 122 a) (all_digits r) h).0 in absurd (omega arith)
val_is (a ∷ r) (b ∷ q) h k e =
    let p = and_true (within 48 122 a) (all_digits r) h in
    let t = and_true (within 48 122 b) (all_digits q) k in
    let x = within_true 48 122 a p.0 in
    let y = within_true 48 122 b t.0 in
    ap₂ ◌∷◌ (omega arith) (val_is r q p.1 t.1 (omega arith))

digits_is : (n p : List ℕ) → all_digits n ≡ true → all_digits p ≡ true → digits 0 n ≡ digits 0 p → n ≡ p
digits_is n p h k e =
    sym (reverse-reverse n)
    ∙ ap reverse (val_is (reverse n) (reverse p) (digits_aux n [] h refl) (digits_aux p [] k refl) (sym (digits_val n []) ∙ e ∙ digits_val p []))
    ∙ reverse-reverse p

key_short : (n : List ℕ) → length n ≤ 10 → key n ≡ Some (digits 0 n)
unfolding key
key_short n h = rw (le-leb (length n) 10 h)

key_long : (n : List ℕ) → 10 < length n → key n ≡ None
unfolding key
key_long n h = rw (lt-leb (length n) 10 h)

-- a name of a table
abbrev short : List ℕ → Bool
short p = all_digits p && leb (length p) 10

key_is : (p n : List ℕ) → short p ≡ true → all_digits n ≡ true → key n ≡ Some (digits 0 p) → p ≡ n
key_is p n h k e =
    let d = and_true (all_digits p) (leb (length p) 10) h in
    ⊎_elim
    (λ t.
    let f : Some (digits 0 p) ≡ Some (digits 0 n) = sym e ∙ key_short n (leb-true (length n) 10 t) in
    digits_is p n d.0 k (cc))
    (λ t. let f : Some (digits 0 p) ≡ None = sym e ∙ key_long n (leb-false (length n) 10 t) in cc)
    (decide (leb (length n) 10))

-- ---- the number byte by byte
-- k is the number of the first i bytes of the name, at most ten
pub record Keyed (s : List ℕ) (k i : ℕ) : Type 0 where
  pub few : i ≤ 10
  pub small : k < 76 ^ i
  pub left : digits k (name_of (drop i s)) ≡ digits 0 (name_of s)
  pub long : length (name_of (drop i s)) + i ≡ length (name_of s)

-- and b is the next one
pub record Next (s : List ℕ) (k i b : ℕ) : Type 0 where
  pub low : 47 < b
  pub high : b < 123
  pub fits : k * 76 + (b - 47) < 2 ^ 64
  pub keyed : Keyed s (k * 76 + (b - 47)) (i + 1)

module _ (s : List ℕ) (k i : ℕ) (t : Keyed s k i) where
  pub keyed_all : name_of (drop i s) ≡ [] → Some k ≡ key (name_of s)
  keyed_all e =
      let l : length (name_of s) ≤ 10 = omega (arith, t.few, t.long, ap length e) in
      sym (key_short (name_of s) l ∙ ap Some (sym t.left ∙ ap (digits k) e))

  module _ (b : ℕ) (h : i < length s) (e : folded (get_or s i 0) ≡ Some b) where
    more : name_of (drop i s) ≡ b ∷ name_of (drop (i + 1) s)
    more = name_more s i b h e

    pub keyed_over : i ≡ 10 → None ≡ key (name_of s)
    keyed_over q = sym (key_long (name_of s) (omega (arith, t.long, ap length more)))

    pub keyed_next : (i ≡ 10 → ⊥) → Next s k i b
    keyed_next q =
        let d = folded_within (get_or s i 0) b e in
        let few : i + 1 ≤ 10 = omega (arith, t.few) in
        let less : k * 76 + (b - 47) < 76 ^ (i + 1) = rw (add-one i, pow-suc 76 i) (omega (arith, t.small)) in
        let most : 76 ^ (i + 1) ≤ 76 ^ 10 = pow-le-pow_right (omega arith) {i = i + 1} {j = 10} few in
        record {
          low = omega arith;
          high = omega arith;
          fits = omega arith;
          keyed = record { few = few; small = less; left = sym (ap (digits k) more) ∙ t.left; long = omega (arith, t.long, ap length more) };
        }

-- ---- what a table says by that number
same_key : (p n : List ℕ) (k : ℕ) → short p ≡ true → all_digits n ≡ true → key n ≡ Some k → same p n ≡ eqb (digits 0 p) k
same_key p n k h d e = go (same p n) refl
  where
    go : (t : Bool) → same p n ≡ t → t ≡ eqb (digits 0 p) k
    go true q =
        let l = leb-true (length p) 10 (and_true (all_digits p) (leb (length p) 10) h).1 in
        let f : Some (digits 0 p) ≡ Some k = sym (key_short p l) ∙ ap key (same_true p n q) ∙ e in
        sym (eq-eqb (digits 0 p) k (cc))
    go false q = sym (ne_eqb (digits 0 p) k (λ g. let y : true ≡ false = sym (same_self p) ∙ ap (same p) (key_is p n h d (e ∙ ap Some (sym g))) ∙ q in cc))

same_long : (p n : List ℕ) → short p ≡ true → key n ≡ None → same p n ≡ false
same_long p n h e = go (same p n) refl
  where
    go : (t : Bool) → same p n ≡ t → t ≡ false
    go true q =
        let l = leb-true (length p) 10 (and_true (all_digits p) (leb (length p) 10) h).1 in
        let f : Some (digits 0 p) ≡ None = sym (key_short p l) ∙ ap key (same_true p n q) ∙ e in
        cc
    go false q = refl

abbrev pub found : Rows → ℕ → Tag
found [] k = Writes Other
found (r ∷ rows) k = let later = found rows k in if eqb (digits 0 (str r.0)) k then r.1 else later

abbrev all_short : Rows → Bool
all_short [] = true
all_short (r ∷ rows) = short (str r.0) && all_short rows

find_key : (rows : Rows) (n : List ℕ) (k : ℕ) → all_short rows ≡ true → all_digits n ≡ true → key n ≡ Some k → find rows n ≡ found rows k
unfolding find
find_key [] n k h d e = refl
find_key (r ∷ rows) n k h d e =
    let p = and_true (short (str r.0)) (all_short rows) h in
    rw (same_key (str r.0) n k p.0 d e) (go (eqb (digits 0 (str r.0)) k) (find_key rows n k p.1 d e))
  where
    go : (t : Bool) → find rows n ≡ found rows k → case (if t then some r.1 else lookup rows n) (Writes Other) (λ x. x) ≡ (if t then r.1 else found rows k)
    go true e = refl
    go false e = e

find_long : (rows : Rows) (n : List ℕ) → all_short rows ≡ true → key n ≡ None → find rows n ≡ Writes Other
unfolding find
find_long [] n h e = refl
find_long (r ∷ rows) n h e =
    let p = and_true (short (str r.0)) (all_short rows) h in
    rw (same_long (str r.0) n p.0 e) (find_long rows n p.1 e)

says_key : (s : List ℕ) (k : ℕ) → key (name_of s) ≡ Some k → says (name_of s) ≡ found table k
unfolding table says writing tags
says_key s k e = find_key table (name_of s) k refl (name_digits s) e

pub says_found : (s : List ℕ) {k j : ℕ} → key (name_of s) ≡ Some k → k ≡ j → found table j ≡ says (name_of s)
says_found s {k} e h = sym (says_key s k e ∙ ap (found table) h)

pub says_long : (s : List ℕ) → key (name_of s) ≡ None → Writes Other ≡ says (name_of s)
unfolding table says writing tags
says_long s e = sym (find_long table (name_of s) refl e)

-- k is the number of no row, in the shape that a `match` leaves
abbrev pub Missed : Rows → ℕ → Type 0 → Type 0
Missed [] k X = X
Missed (r ∷ rows) k X = Missed rows k (X × (k ≡ digits 0 (str r.0) → ⊥))

missed_first : (rows : Rows) (k : ℕ) (X : Type 0) → Missed rows k X → X
missed_first [] k X m = m
missed_first (r ∷ rows) k X m = (missed_first rows k (X × (k ≡ digits 0 (str r.0) → ⊥)) m).0

found_none : (rows : Rows) (k : ℕ) (X : Type 0) → Missed rows k X → found rows k ≡ Writes Other
found_none [] k X m = refl
found_none (r ∷ rows) k X m =
    let Y = X × (k ≡ digits 0 (str r.0) → ⊥) in
    rw (ne_eqb (digits 0 (str r.0)) k (λ e. (missed_first rows k Y m).1 (sym e))) (found_none rows k Y m)

pub says_none : (s : List ℕ) {k : ℕ} → key (name_of s) ≡ Some k → Missed table k Unit → Writes Other ≡ says (name_of s)
says_none s {k} e m = sym (says_key s k e ∙ found_none table k Unit m)

-- ---- what the name means in notes.rs
abbrev means_rows : Rows → List (String × state.Tag)
means_rows [] = []
means_rows (r ∷ rows) = (r.0, tag_means r.1) ∷ means_rows rows

find_means : (rows : Rows) (n : List ℕ) → tag_means (find rows n) ≡ case (lookup (means_rows rows) n) other (λ t. t)
unfolding find
find_means [] n = refl
find_means (r ∷ rows) n = go (same (str r.0) n) (find_means rows n)
  where
    go : (t : Bool) → tag_means (find rows n) ≡ case (lookup (means_rows rows) n) other (λ t. t)
        → tag_means (case (if t then some r.1 else lookup rows n) (Writes Other) (λ x. x)) ≡ case (if t then some (tag_means r.1) else lookup (means_rows rows) n) other (λ x. x)
    go true ih = refl
    go false ih = ih

writing_means : (n : List ℕ) → tag_means (find writing n) ≡ tag_of n
unfolding writing tag_of tags
writing_means n = find_means writing n

says_first : (n : List ℕ) → says n ≡ (if same (str "script") n then Skipped Script else if same (str "style") n then Skipped Style else find writing n)
unfolding says table find
says_first n = go (same (str "script") n) (same (str "style") n)
  where
    go : (a b : Bool) → case (if a then some (Skipped Script) else if b then some (Skipped Style) else lookup writing n) (Writes Other) (λ x. x) ≡
        (if a then Skipped Script else if b then Skipped Style else case (lookup writing n) (Writes Other) (λ x. x))
    go true b = refl
    go false true = refl
    go false false = refl

script_other : other ≡ tag_of (str "script")
unfolding tag_of tags
script_other = refl

style_other : other ≡ tag_of (str "style")
unfolding tag_of tags
style_other = refl

pub says_means : (n : List ℕ) → tag_means (says n) ≡ tag_of n
says_means n =
    ap tag_means (says_first n)
    ∙ on (λ (x : Tag). tag_means x ≡ tag_of n) (same (str "script") n) (λ e. rw (← same_true (str "script") n e) script_other)
    (λ _. on (λ (x : Tag). tag_means x ≡ tag_of n) (same (str "style") n) (λ e. rw (← same_true (str "style") n e) style_other) (λ _. writing_means n))

-- ---- the two names whose text is skipped
abbrev pub is_skipped : Tag → Bool
is_skipped (Lists k) = false
is_skipped (Skipped k) = true
is_skipped (Writes t) = false

abbrev none_skipped : Rows → Bool
none_skipped [] = true
none_skipped (r ∷ rows) = not (is_skipped r.1) && none_skipped rows

find_shown : (rows : Rows) (n : List ℕ) → none_skipped rows ≡ true → is_skipped (find rows n) ≡ false
unfolding find
find_shown [] n h = refl
find_shown (r ∷ rows) n h =
    let p = and_true (not (is_skipped r.1)) (none_skipped rows) h in
    go (same (str r.0) n) (not-true (is_skipped r.1) p.0) (find_shown rows n p.1)
  where
    go : (t : Bool) → is_skipped r.1 ≡ false → is_skipped (find rows n) ≡ false
        → is_skipped (case (if t then some r.1 else lookup rows n) (Writes Other) (λ x. x)) ≡ false
    go true a b = a
    go false a b = b

-- which of the two a name is, and what it says
pub data Is (n : List ℕ) (t : Tag) : Type 0 where
  script : n ≡ str "script" → t ≡ Skipped Script → Is n t
  style : n ≡ str "style" → t ≡ Skipped Style → Is n t
  neither : same (str "script") n ≡ false → same (str "style") n ≡ false → is_skipped t ≡ false → Is n t

pub is_of : (n : List ℕ) → Is n (says n)
unfolding writing tags
is_of n = go (same (str "script") n) refl (same (str "style") n) refl
  where
    go : (a : Bool) → same (str "script") n ≡ a → (b : Bool) → same (str "style") n ≡ b → Is n (says n)
    go true p b q = script (sym (same_true (str "script") n p)) (says_first n ∙ rw p)
    go false p true q = style (sym (same_true (str "style") n q)) (says_first n ∙ rw (p, q))
    go false p false q = neither p q (ap is_skipped (says_first n ∙ rw (p, q)) ∙ find_shown writing n refl)

-- ---- in bytes as in characters
alphanumeric_high : (c : ℕ) → 0x80 ≤ c → is_alphanumeric c ≡ false
alphanumeric_high c h = simp (within_above 48 57 c (omega arith) (omega arith), within_above 65 90 c (omega arith) (omega arith), within_above 97 122 c (omega arith) (omega arith))

pub name_chars : (bs : List ℕ) → name_of (chars bs) ≡ name_of bs
name_chars [] = rw chars_nil
name_chars (b ∷ bs) =
    ⊎_elim
    (λ l. rw (chars_ascii b bs (ltb-true b 0x80 l)) (name_cons b (chars bs) ∙ ap (λ (x : List ℕ). cond (is_alphanumeric b) (to_lower b ∷ x) []) (name_chars bs) ∙ sym (name_cons b bs)))
    (λ l.
    let k = ltb-false b 0x80 l in
    let y = chars_high b bs k in
    ap name_of y.2 ∙ name_cons y.0 y.1 ∙ rw (alphanumeric_high y.0 y.3) (sym (name_cons b bs ∙ rw (alphanumeric_high b k))))
    (decide (ltb b 0x80))
