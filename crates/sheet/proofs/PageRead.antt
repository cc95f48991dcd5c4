-- Reading one line of a sheet's written form: a paragraph, a heading, an item.
-- Assumes nothing.
use Rattle.std.proofs.Common.{◌≡◌, refl, sym, ◌∙◌, ap, ℕ, zero, suc, ◌*◌, ◌/◌, ◌≤◌, min, arith, true, false, List, [], ◌∷◌, ◌++◌, reverse, append_assoc, le-leb}
use Rattle.std.proofs.Common.{length}
use Rattle.std.proofs.lemmas.Bool.Decides.{nat_tests}
use Rattle.std.proofs.Math.Option.{some}
use mathlib.Core.List.{reverse-append}
use lib.ListN.{length-reverse}
use Rattle.text.specs.Words.{str, repeat, is, is_empty, all, starts, take_while, drop_while, trim_end_matches}
use Rattle.text.specs.Chars.{is_space, is_digit}
use Rattle.text.specs.Trim.{trim}
use Rattle.text.proofs.Tests.{within_true, within_is, and_true, false_true}
use Rattle.records.specs.Blocks.{Block, Heading, Paragraph, Item}
use Rattle.spans.specs.Spans.{spans}
use Rattle.markdown.specs.Blocks.{Marked, marker_at, list_marker, Reader, reader, flush, heading, paragraph, read_text, read_line}
use Rattle.markdown.proofs.RunLaws.{not_empty}
use Rattle.sheet.proofs.Facts.{visible}
use Rattle.sheet.proofs.LineEnd.{space_first, solid_drop}
use Rattle.sheet.proofs.Fronts.{first_append, trim_start_is, trim_id, front_hash, front_bar, front_blank, front_empty, front_solid, front_marker, bulleted, no_rule, Good}
use Rattle.html.proofs.FitLaws.{size_indent}

-- ---- paragraphs
pub read_para : (b : List Block) (w : List ℕ) → Good w → read_line (reader b []) w ≡ reader b w
unfolding read_line read_text paragraph
read_para b w g =
    let f = g.front in
    rw (trim_id w (front_solid f) g.last, front_empty f, front_hash f, front_marker w f, no_rule w g.unruled, front_bar f, front_blank f)

pub read_blank : (r : Reader) → read_line r [] ≡ reader (flush r) []
unfolding read_line trim_end_matches drop_while
read_blank r = refl

pub flush_para : (b : List Block) (w : List ℕ) → is_empty w ≡ false → flush (reader b w) ≡ Paragraph (spans w) ∷ b
unfolding flush
flush_para b w e = rw e

-- ---- the end of a line is that of the runs in it
pub filled_append : (a b : List ℕ) → is_empty b ≡ false → is_empty (a ++ b) ≡ false
filled_append [] b e = e
filled_append (x ∷ a) b e = refl

pub empty_some : (x : List ℕ) → is_empty x ≡ false → 1 ≤ length x
empty_some [] e = false_true (sym e)
empty_some (a ∷ x) e = omega arith

last_append : (a w : List ℕ) → Good w → space_first (reverse (a ++ w)) ≡ false
last_append a w g =
    ap space_first (reverse-append a w)
    ∙ first_append (reverse w) (reverse a) (not_empty (reverse w) (omega (arith, length-reverse w, empty_some w (front_empty g.front))))
    ∙ g.last

-- ---- headings
abbrev hashes : ℕ → List ℕ
hashes k = repeat k "#"

take_hashes : (k : ℕ) (w : List ℕ) → take_while (is "#") (hashes k ++ (32 ∷ w)) ≡ hashes k
unfolding take_while
take_hashes zero w = refl
take_hashes (suc k) w = ap (λ (s : List ℕ). 35 ∷ s) (take_hashes k w)

drop_hashes : (k : ℕ) (w : List ℕ) → drop_while (is "#") (hashes k ++ (32 ∷ w)) ≡ 32 ∷ w
unfolding drop_while
drop_hashes zero w = refl
drop_hashes (suc k) w = drop_hashes k w

pub length_hashes : (k : ℕ) → length (hashes k) ≡ k
length_hashes zero = refl
length_hashes (suc k) = ap suc (length_hashes k)

trim_blank : (w : List ℕ) → Good w → trim (32 ∷ w) ≡ w
unfolding drop_while is_space
trim_blank w g = trim_start_is (32 ∷ w) w (solid_drop w (front_solid g.front)) g.last

heading_is : (b : List Block) (k : ℕ) (w : List ℕ) → k ≤ 3 → Good w → heading (hashes k ++ (32 ∷ w)) (reader b []) ≡ reader (Heading k (spans w) ∷ b) []
unfolding heading flush
heading_is b k w h g =
    let m : min k 3 ≡ k = omega arith in
    rw (take_hashes k w, drop_hashes k w, length_hashes k, le-leb k 6 (omega arith), trim_blank w g, m)

read_hash : (r : Reader) (l : List ℕ) → trim l ≡ l → is_empty l ≡ false → starts "#" l ≡ true → read_line r l ≡ heading l r
unfolding read_line
read_hash r l e f g = rw (e, f, g)

pub read_heading : (b : List Block) (k : ℕ) (w : List ℕ) → 1 ≤ k → k ≤ 3 → Good w → read_line (reader b []) (hashes k ++ (32 ∷ w)) ≡ reader (Heading k (spans w) ∷ b) []
read_heading b zero w lo hi g = absurd (omega arith)
read_heading b (suc k) w lo hi g =
    let l : List ℕ = hashes (suc k) ++ (32 ∷ w) in
    let e : space_first (reverse l) ≡ false =
    ap (λ (s : List ℕ). space_first (reverse s)) (sym (append_assoc (hashes (suc k)) (32 ∷ []) w)) ∙ last_append (hashes (suc k) ++ (32 ∷ [])) w g
    in
    read_hash (reader b []) l (trim_id l (visible 35 (omega arith) (omega arith)) e) refl refl ∙ heading_is b (suc k) w hi g

-- ---- items
abbrev pub blanks : ℕ → List ℕ
blanks d = repeat d "  "

take_blanks : (d : ℕ) (s : List ℕ) → space_first s ≡ false → take_while is_space (blanks d ++ s) ≡ blanks d
unfolding take_while is_space
take_blanks zero [] e = refl
take_blanks zero (a ∷ s) e = rw e
take_blanks (suc d) s e = ap (λ (r : List ℕ). 32 ∷ 32 ∷ r) (take_blanks d s e)

drop_blanks : (d : ℕ) (s : List ℕ) → space_first s ≡ false → drop_while is_space (blanks d ++ s) ≡ s
unfolding drop_while is_space
drop_blanks zero s e = solid_drop s e
drop_blanks (suc d) s e = drop_blanks d s e

list_marker_line : (d : ℕ) (s : List ℕ) → space_first s ≡ false → list_marker (blanks d ++ s) ≡ marker_at (2 * d) s
unfolding list_marker
list_marker_line d s e = rw (take_blanks d s e, size_indent d, drop_blanks d s e)

-- what the tests ask of a line from its marker on
record Listed (s : List ℕ) : Type 0 where
  first : space_first s ≡ false
  last : space_first (reverse s) ≡ false
  filled : is_empty s ≡ false
  no_hash : starts "#" s ≡ false

read_marked : (b : List Block) (d : ℕ) (s : List ℕ) (m : Marked) → Listed s → marker_at (2 * d) s ≡ some m
    → read_line (reader b []) (blanks d ++ s) ≡ reader (Item m.depth m.marker (spans m.item) ∷ b) []
unfolding read_line flush
read_marked b d s m h e =
    rw (trim_start_is (blanks d ++ s) s (drop_blanks d s h.first) h.last, h.filled, h.no_hash, list_marker_line d s h.first ∙ e)

good_trim : (w : List ℕ) → Good w → trim w ≡ w
good_trim w g = trim_id w (front_solid g.front) g.last

half : (d : ℕ) → 2 * d / 2 ≡ d
half d = omega arith

-- `- `
marked_dash : (i : ℕ) (w : List ℕ) → Good w → marker_at i (45 ∷ 32 ∷ w) ≡ some (record { depth = i / 2; marker = str "•"; item = w })
unfolding marker_at
marked_dash i w g = rw (good_trim w g)

pub read_dash : (b : List Block) (d : ℕ) (w : List ℕ) → Good w → read_line (reader b []) (blanks d ++ (45 ∷ 32 ∷ w)) ≡ reader (Item d (str "•") (spans w) ∷ b) []
read_dash b d w g =
    read_marked b d (45 ∷ 32 ∷ w) _ (record { first = visible 45 (omega arith) (omega arith); last = last_append (45 ∷ 32 ∷ []) w g; filled = refl; no_hash = refl }) (marked_dash (2 * d) w g)
    ∙ ap (λ (d : ℕ). reader (Item d (str "•") (spans w) ∷ b) []) (half d)

-- ---- decimal numbers
take_digits : (s t : List ℕ) → all is_digit s ≡ true → take_while is_digit (s ++ (46 ∷ t)) ≡ s
unfolding take_while
take_digits [] t e = refl
take_digits (a ∷ s) t e = let i = take_digits s t in grind (arith, nat_tests)

drop_digits : (s t : List ℕ) → all is_digit s ≡ true → drop_while is_digit (s ++ (46 ∷ t)) ≡ 46 ∷ t
unfolding drop_while
drop_digits [] t e = refl
drop_digits (a ∷ s) t e = let i = drop_digits s t in grind (arith, nat_tests)

-- it starts with a digit
record Number (s : List ℕ) : Type 0 where
  first : ℕ
  others : List ℕ
  is_first : s ≡ first ∷ others
  low : 48 ≤ first
  high : first ≤ 57

number : (s : List ℕ) → 1 ≤ length s → all is_digit s ≡ true → Number s
number [] h e = absurd (omega arith)
number (a ∷ s) h e =
    let g = within_true 48 57 a (and_true (is_digit a) (all is_digit s) e).0 in
    record { first = a; others = s; is_first = refl; low = g.0; high = g.1 }

-- and so with no mark of another kind
digit_bullet : (a : ℕ) (w : List ℕ) → 48 ≤ a → bulleted (a ∷ w) ≡ false
digit_bullet a w h = grind (arith, nat_tests)

number_bullet : (s w : List ℕ) → Number s → bulleted (s ++ w) ≡ false
number_bullet s w n = ap (λ (s : List ℕ). bulleted (s ++ w)) n.is_first ∙ digit_bullet n.first (n.others ++ w) n.low

marked_number : (i : ℕ) (ds w : List ℕ) → all is_digit ds ≡ true → 1 ≤ length ds → length ds ≤ 9 → Good w
    → marker_at i (ds ++ (46 ∷ 32 ∷ w)) ≡ some (record { depth = i / 2; marker = ds ++ str "."; item = w })
unfolding marker_at
marked_number i ds w a lo hi g =
    rw (number_bullet ds (46 ∷ 32 ∷ w) (number ds lo a), drop_digits ds (32 ∷ w) a, take_digits ds (32 ∷ w) a, within_is 1 9 (length ds) lo hi, good_trim w g)

no_hash_digit : (a : ℕ) (w : List ℕ) → 48 ≤ a → starts "#" (a ∷ w) ≡ false
no_hash_digit a w h = grind (arith, nat_tests)

number_listed : (ds w : List ℕ) → Number ds → Good w → Listed (ds ++ (46 ∷ 32 ∷ w))
number_listed ds w n g =
    record {
      first = ap (λ (s : List ℕ). space_first (s ++ (46 ∷ 32 ∷ w))) n.is_first ∙ visible n.first (omega (arith, n.low)) (omega (arith, n.high));
      last = ap (λ (s : List ℕ). space_first (reverse s)) (sym (append_assoc ds (46 ∷ 32 ∷ []) w)) ∙ last_append (ds ++ (46 ∷ 32 ∷ [])) w g;
      filled = ap (λ (s : List ℕ). is_empty (s ++ (46 ∷ 32 ∷ w))) n.is_first;
      no_hash = ap (λ (s : List ℕ). starts "#" (s ++ (46 ∷ 32 ∷ w))) n.is_first ∙ no_hash_digit n.first (n.others ++ (46 ∷ 32 ∷ w)) n.low;
    }

-- the place and `. `
pub read_number : (b : List Block) (d : ℕ) (ds w : List ℕ) → all is_digit ds ≡ true → 1 ≤ length ds → length ds ≤ 9 → Good w
    → read_line (reader b []) (blanks d ++ (ds ++ (46 ∷ 32 ∷ w))) ≡ reader (Item d (ds ++ str ".") (spans w) ∷ b) []
read_number b d ds w a lo hi g =
    read_marked b d (ds ++ (46 ∷ 32 ∷ w)) _ (number_listed ds w (number ds lo a) g) (marked_number (2 * d) ds w a lo hi g)
    ∙ ap (λ (d : ℕ). reader (Item d (ds ++ str ".") (spans w) ∷ b) []) (half d)
