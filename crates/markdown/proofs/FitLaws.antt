-- Texts with a bound on their bytes: what the parts of a line, a row, the lines of a text and a list marker have at most, and that a
-- marker is one. All of scalar values where the text is.
-- Assumes nothing.
use Prim.Native.Nat.{ℕ, zero, suc, ◌+◌, ◌-◌, ◌*◌, ◌≤◌}
use Prim.Native.String.{String}
use native.Mathlib.Omega.{arith}
use mathlib.Core.Path.{◌≡◌, refl}
use mathlib.Core.Bool.{Bool, true, false, ◌&&◌, ◌||◌}
use mathlib.Core.Logic.{inl}
use mathlib.Core.List.{List, [], ◌∷◌, ◌++◌, reverse}
use mathlib.Core.Option.{Option, none, some}
use borrow.Author.Tests.{le-leb}
use lib.Dec.{eqb}
use lib.ListN.{length, drop, length-append}
use Rattle.text.specs.Words.{str, is, all, starts, take_while, drop_while, trim_end_matches, trim_matches}
use Rattle.text.specs.Chars.{within, is_digit, is_space}
use Rattle.text.specs.Utf8.{IsScalar, Scalars, utf8, size}
use Rattle.text.proofs.Tests.{on, by_case, and_true, within_true, false_true}
use Rattle.text.proofs.Laws.{utf8_size, size_append, size_aux, scalars_append, scalars_reverse}
use Rattle.records.specs.Format.{is_bullet, digits_stop, is_ordinal, is_marker}
use Rattle.markdown.specs.Blocks.{Marked, marker_at, list_marker, comment, cleaned, before_lines, lines, replace, row}

-- ---- a text of scalar values and of at most n bytes
pub record Fits (n : ℕ) (s : List ℕ) : Type 0 where
  pub scalars : Scalars s
  pub small : size s ≤ n

pub wider : (n m : ℕ) (s : List ℕ) → n ≤ m → Fits n s → Fits m s
wider n m s l h = record { scalars = h.scalars; small = omega arith }

-- ---- its parts
pub while_fits : (n : ℕ) (p : ℕ → Bool) (s : List ℕ) → Fits n s → Fits n (drop_while p s)
unfolding drop_while size
while_fits n p [] h = h
while_fits n p (c ∷ s) h = on (Fits n) (p c) (λ _. while_fits n p s (record { scalars = h.scalars.1; small = omega (arith, h.small) })) (λ _. h)

reverse_fits : (n : ℕ) (s : List ℕ) → Fits n s → Fits n (reverse s)
unfolding size
reverse_fits n s h = record { scalars = scalars_reverse s h.scalars; small = omega (arith, size_aux s []) }

pub trim_fits : (n : ℕ) (p : ℕ → Bool) (s : List ℕ) → Fits n s → Fits n (trim_matches p s)
unfolding trim_end_matches
trim_fits n p s h =
    let t = drop_while p s in
    reverse_fits n (drop_while p (reverse t)) (while_fits n p (reverse t) (reverse_fits n t (while_fits n p s h)))

pub scalars_trim : (p : ℕ → Bool) (s : List ℕ) → Scalars s → Scalars (trim_matches p s)
scalars_trim p s h = (trim_fits (size s) p s (record { scalars = h; small = omega arith })).scalars

drop_fits : (n k : ℕ) (s : List ℕ) → Fits n s → Fits n (drop k s)
unfolding size
drop_fits n zero s h = h
drop_fits n (suc k) [] h = h
drop_fits n (suc k) (c ∷ s) h = drop_fits n k s (record { scalars = h.scalars.1; small = omega (arith, h.small) })

run_small : (p : ℕ → Bool) (s : List ℕ) → size (take_while p s) ≤ size s
unfolding take_while size
run_small p [] = omega arith
run_small p (c ∷ s) = on (λ (l : List ℕ). size l ≤ size (c ∷ s)) (p c) (λ _. omega (arith, run_small p s)) (λ _. omega arith)

run_all : (p : ℕ → Bool) (s : List ℕ) → all p (take_while p s) ≡ true
unfolding take_while
run_all p [] = refl
run_all p (c ∷ s) = on (λ (l : List ℕ). all p l ≡ true) (p c) (λ e. rw e (run_all p s)) (λ _. refl)

pub hash_first : (s : List ℕ) → starts "#" s ≡ true → 1 ≤ length (take_while (is "#") s)
unfolding take_while
hash_first [] e = false_true e
hash_first (c ∷ s) e = let f = (and_true (eqb c 35) true e).0 in rw f (omega arith)

-- ---- one character more before a text that is no longer than the other
behind : (c : ℕ) (s t : List ℕ) → Fits (size s) t → Fits (size (c ∷ s)) t
unfolding size
behind c s t h = record { scalars = h.scalars; small = omega (arith, h.small) }

kept : (c : ℕ) (s t : List ℕ) → IsScalar c → Fits (size s) t → Fits (size (c ∷ s)) (c ∷ t)
unfolding size
kept c s t i h = record { scalars = (i, h.scalars); small = omega (arith, h.small) }

pub cleaned_fits : (k : ℕ) (s : List ℕ) → Scalars s → Fits (size s) (cleaned k s)
unfolding cleaned
cleaned_fits zero [] h = record { scalars = tt; small = omega arith }
cleaned_fits (suc k) [] h = record { scalars = tt; small = omega arith }
cleaned_fits (suc k) (c ∷ s) h = behind c s (cleaned k s) (cleaned_fits k s h.1)
cleaned_fits zero (c ∷ s) h =
    by_case (Fits (size (c ∷ s))) (comment (c ∷ s))
    (λ _. kept c s (cleaned 0 s) h.0 (cleaned_fits 0 s h.1))
    (λ k e. behind c s (cleaned k s) (cleaned_fits k s h.1))

-- ---- a row: each of its two replacements makes at most four bytes of one
module _ (p : String) (by : List ℕ) (good : Scalars by) (short : size by ≤ 4) where
  replace_fits : (k : ℕ) (s : List ℕ) → Scalars s → Fits (4 * size s) (replace p by k s)
  unfolding replace size
  replace_fits zero [] h = record { scalars = tt; small = omega arith }
  replace_fits (suc k) [] h = record { scalars = tt; small = omega arith }
  replace_fits (suc k) (c ∷ s) h = let g = replace_fits k s h.1 in wider (4 * size s) (4 * size (c ∷ s)) (replace p by k s) (omega arith) g
  replace_fits zero (c ∷ s) h =
      on (Fits (4 * size (c ∷ s))) (starts p (c ∷ s))
      (λ _.
      let more = replace p by (length (str p) - 1) s in
      let g = replace_fits (length (str p) - 1) s h.1 in
      record {
        scalars = scalars_append by more good g.scalars;
        small = omega (arith, size_append by more, g.small, (utf8_size c).0);
      })
      (λ _. let g = replace_fits 0 s h.1 in record { scalars = (h.0, g.scalars); small = omega (arith, g.small) })

dot_scalars : Scalars (str " · ")
dot_scalars = (inl (omega arith), (inl (omega arith), (inl (omega arith), tt)))

dot_short : size (str " · ") ≤ 4
unfolding size utf8
dot_short = omega arith

pub row_fits : (n : ℕ) (s : List ℕ) → Fits n s → Fits (16 * n) (row s)
unfolding row
row_fits n s h =
    let t = trim_matches (is "|") s in
    let u = replace " | " (str " · ") 0 t in
    let v = replace "|" (str " · ") 0 u in
    let a : Fits n t = trim_fits n (is "|") s h in
    let b : Fits (4 * size t) u = replace_fits " | " (str " · ") dot_scalars dot_short 0 t a.scalars in
    let c : Fits (4 * size u) v = replace_fits "|" (str " · ") dot_scalars dot_short 0 u b.scalars in
    trim_fits (16 * n) is_space v (record { scalars = c.scalars; small = omega arith })

-- ---- lines: n is what they have in bytes, with one more for each
abbrev pub total : List (List ℕ) → ℕ
total [] = 0
total (l ∷ ls) = 1 + size l + total ls

abbrev pub AllScalars : List (List ℕ) → Type 0
AllScalars [] = Unit {0}
AllScalars (l ∷ ls) = Scalars l × AllScalars ls

pub record Held (n : ℕ) (ls : List (List ℕ)) : Type 0 where
  pub scalars : AllScalars ls
  pub small : total ls ≤ n

before_held : (c : ℕ) (s : List ℕ) (ls : List (List ℕ)) → IsScalar c → Held (1 + size s) ls → Held (1 + size (c ∷ s)) (before_lines c ls)
unfolding size
before_held c s [] i h = record { scalars = ((i, tt), tt); small = omega arith }
before_held c s (l ∷ ls) i h = record { scalars = ((i, h.scalars.0), h.scalars.1); small = omega (arith, h.small) }

pub lines_held : (s : List ℕ) → Scalars s → Held (1 + size s) (lines s)
unfolding lines size
lines_held [] h = record { scalars = tt; small = omega arith }
lines_held (c ∷ s) h =
    let g = lines_held s h.1 in
    on (Held (1 + size (c ∷ s))) (eqb c 10)
    (λ _. record { scalars = (tt, g.scalars); small = omega (arith, g.small, (utf8_size c).0) })
    (λ _. before_held c s (lines s) h.0 g)

-- ---- markers
stop_after : (ds : List ℕ) → all is_digit ds ≡ true → digits_stop (ds ++ str ".") ≡ true
stop_after [] e = refl
stop_after (a ∷ []) e = rw (and_true (is_digit a) true e).0
stop_after (a ∷ b ∷ ds) e =
    let f = and_true (is_digit a) (all is_digit (b ∷ ds)) e in
    rw f.0 (stop_after (b ∷ ds) f.1)

ordinal_marker : (m : List ℕ) → is_ordinal m ≡ true → is_marker m ≡ true
unfolding is_marker
ordinal_marker m e = go (is_bullet m)
  where
    go : (b : Bool) → (b || is_ordinal m) ≡ true
    go true = refl
    go false = e

pub digits_marker : (ds : List ℕ) → all is_digit ds ≡ true → within 1 9 (length ds) ≡ true → is_marker (ds ++ str ".") ≡ true
digits_marker ds d w =
    let a = length-append ds (str ".") in
    let b = within_true 1 9 (length ds) w in
    ordinal_marker (ds ++ str ".")
    (rw (le-leb 2 (length (ds ++ str ".")) (omega arith), le-leb (length (ds ++ str ".")) 10 (omega arith)) (stop_after ds d))

pub bullet_marker : is_marker (str "•") ≡ true
unfolding is_marker
bullet_marker = refl

-- what a line of n bytes gives
pub record Known (n : ℕ) (m : Marked) : Type 0 where
  pub depth : 2 * m.depth ≤ n
  pub marker : is_marker m.marker ≡ true
  pub item : Fits n m.item

abbrev pub KnownIn : ℕ → Option Marked → Type 0
KnownIn n none = Unit {0}
KnownIn n (some m) = Known n m

marker_known : (n indent : ℕ) (s : List ℕ) → indent ≤ n → Fits n s → KnownIn n (marker_at indent s)
unfolding marker_at
marker_known n indent s l h =
    let ds = take_while is_digit s in
    let t = drop_while is_digit s in
    on (KnownIn n) (starts "- " s || starts "* " s || starts "+ " s)
    (λ _. record { depth = omega arith; marker = bullet_marker; item = trim_fits n is_space (drop 2 s) (drop_fits n 2 s h) })
    (λ _. on (KnownIn n) (starts ". " t && within 1 9 (length ds))
    (λ e.
    record {
      depth = omega arith;
      marker = digits_marker ds (run_all is_digit s) (and_true (starts ". " t) (within 1 9 (length ds)) e).1;
      item = trim_fits n is_space (drop 2 t) (drop_fits n 2 t (while_fits n is_digit s h));
    })
    (λ _. tt))

pub line_known : (s : List ℕ) → Scalars s → KnownIn (size s) (list_marker s)
unfolding list_marker
line_known s h =
    marker_known (size s) (size (take_while is_space s)) (drop_while is_space s) (run_small is_space s)
    (while_fits (size s) is_space s (record { scalars = h; small = omega arith }))
