-- The laws of headings, list markers and the order of the tests on a line, on the line's bytes.
-- Assumes nothing.
use Prim.Native.Nat.{ℕ, suc, ◌+◌, ◌-◌, ◌/◌, ◌≤◌, ◌<◌, min}
use mathlib.Core.Bool.{true, false, ◌&&◌, ◌||◌, and-true as and_true_right, Bool}
use mathlib.Core.Option.{none, some}
use mathlib.Core.List.{List, [], ◌∷◌, ◌++◌}
use mathlib.Core.Path.{◌≡◌, refl, sym, ap, ◌∙◌}
use borrow.Author.Tests.{eq-eqb, ne_eqb, le-leb, lt-leb}
use native.Mathlib.Omega.{arith}
use lib.Dec.{eqb, leb}
use lib.ListN.{length, get_or, take, drop, length-append, length-drop}
use lib.Seq.{drop-drop}
use Rattle.std.specs.Prelude.{if◌then◌else◌}
use Rattle.text.specs.Words.{case, str, starts, starts_with, is_empty, take_while, drop_while}
use Rattle.text.specs.Chars.{within, is_digit, is_space, Ascii}
use Rattle.text.specs.Utf8.{encode, size, chars}
use Rattle.text.specs.Trim.{trim, start_of}
use Rattle.text.proofs.Tests.{or_elim, and_false, within_is, within_below, within_above, starts_room}
use Rattle.text.proofs.Laws.{chars_nil, encode_chars, encode_append, size_encode}
use Rattle.text.proofs.AsciiLaws.{starts_chars, digit_high, drop_chars}
use Rattle.text.proofs.TrimLaws.{drop_start, chars_start, start_le}
use Rattle.text.proofs.RunLaws.{run_take, run_all, run_le, run_split}
use Rattle.text.proofs.Lists.{drop_next}
use Rattle.records.specs.Blocks.{Heading, Paragraph, Item}
use Rattle.spans.specs.Spans.{spans}
use Rattle.markdown.specs.Blocks.{is_rule, marked, marker_at, list_marker, row, Reader, reader, flush, added, heading, paragraph, continuation, read_text, read_line}
use Rattle.text.specs.Part.{between}
use Rattle.markdown.specs.Shape.{marker, part_text, Trimmed, Titled, mark, MarkerAt}
use Rattle.text.specs.declared.Part.{Part}
use Rattle.markdown.specs.declared.shape.Marker.{Marker}
use Rattle.markdown.proofs.PartLaws.{part_from, part_none}
use Rattle.markdown.proofs.RunLaws.{run_chars, same_low, empty_chars}

ascii_one : (x : ℕ) → x < 0x80 → Ascii (x ∷ [])
ascii_one x h = (h, tt)

ascii_two : (x y : ℕ) → x < 0x80 → y < 0x80 → Ascii (x ∷ y ∷ [])
ascii_two x y h k = (h, (k, tt))

-- ---- headings
module _ (t : List ℕ) (level : ℕ) (e : level ≡ length (take_while (λ (x : ℕ). eqb x 35) t)) where
  heading_eq : (r : Reader)
      → heading (chars t) r
      ≡ (if starts_with (32 ∷ []) (drop level t) && leb level 6 then added (Heading (min level 3) (spans (trim (chars (drop level t))))) r
      else reader (flush r) (chars t))
  unfolding heading
  heading_eq r =
      let rc = run_chars (λ (x : ℕ). eqb x 35) (same_low 35 (omega arith)) t in
      rw (rc.0, rc.1, ← e, starts_chars (32 ∷ []) (drop level t) (ascii_one 32 (omega arith)))

  pub title_long : 6 < level → (r : Reader) → heading (chars t) r ≡ reader (flush r) (chars t)
  title_long h r =
      heading_eq r
      ∙ rw (lt-leb level 6 h, and_false (starts_with (32 ∷ []) (drop level t)) false refl)

  pub title_other : starts_with (32 ∷ []) (drop level t) ≡ false → (r : Reader) → heading (chars t) r ≡ reader (flush r) (chars t)
  title_other h r = heading_eq r ∙ rw h

  module _ (h : starts_with (32 ∷ []) (drop level t) ≡ true) where
    pub title_is : (l : ℕ) (g : Part) → level ≤ 6 → Trimmed t level (length t) g → l ≡ min level 3 → Titled t (record { level = l; text = g })
    title_is l g m v q =
        record {
          low = omega arith;
          inside = record { order = v.order; bound = v.high };
          reads = λ r.
              heading_eq r
              ∙ rw (h, le-leb level 6 m, ← q, v.text, part_from t level);
        }

-- ---- list markers
module _ (line : List ℕ) (at : ℕ) (e : at ≡ start_of line) where
  marker_in : at ≤ length line
  marker_in = omega (arith, start_le line)

  marker_eq : list_marker (chars line) ≡ marker_at at (chars (drop at line))
  unfolding list_marker start_of
  marker_eq =
      let q : chars (drop at line) ≡ drop_while is_space (chars line) = ap chars (ap (λ (n : ℕ). drop n line) e ∙ drop_start line) ∙ chars_start line in
      let s = simp (length-append) at (ap length (sym (encode_append (take_while is_space (chars line)) (drop_while is_space (chars line)))
      ∙ ap encode (run_split is_space (chars line)) ∙ encode_chars line)) in
      let n : size (take_while is_space (chars line)) ≡ at = omega (arith, size_encode (take_while is_space (chars line)), e) in
      rw (n, q)

  -- a bullet
  module _ (b : starts "- " (drop at line) || starts "* " (drop at line) || starts "+ " (drop at line) ≡ true) where
    abbrev s : List ℕ
    s = drop at line

    bullet_size : at + 2 ≤ length line
    bullet_size =
        or_elim (starts "- " s || starts "* " s) (starts "+ " s)
        (λ f. or_elim (starts "- " s) (starts "* " s) (λ g. starts_room (45 ∷ 32 ∷ []) line at (omega arith) g) (λ g. starts_room (42 ∷ 32 ∷ []) line at (omega arith) g) f)
        (λ g. starts_room (43 ∷ 32 ∷ []) line at (omega arith) g)
        b

    bullet_past : drop 2 (chars s) ≡ chars (drop 2 s)
    bullet_past =
        or_elim (starts "- " s || starts "* " s) (starts "+ " s)
        (λ f. or_elim (starts "- " s) (starts "* " s)
        (λ g. sym (drop_chars (45 ∷ 32 ∷ []) s (ascii_two 45 32 (omega arith) (omega arith)) g))
        (λ g. sym (drop_chars (42 ∷ 32 ∷ []) s (ascii_two 42 32 (omega arith) (omega arith)) g)) f)
        (λ g. sym (drop_chars (43 ∷ 32 ∷ []) s (ascii_two 43 32 (omega arith) (omega arith)) g))
        b

    bullet_eq : marker_at at (chars s) ≡ some (marked (at / 2) (str "•") (drop 2 (chars s)))
    unfolding marker_at
    bullet_eq =
        rw (
          starts_chars (45 ∷ 32 ∷ []) s (ascii_two 45 32 (omega arith) (omega arith)),
          starts_chars (42 ∷ 32 ∷ []) s (ascii_two 42 32 (omega arith) (omega arith)),
          starts_chars (43 ∷ 32 ∷ []) s (ascii_two 43 32 (omega arith) (omega arith)),
          b,
        )

    pub bullet_inside : at + 2 ≤ length line
    bullet_inside = bullet_size

    pub bullet_is : (g : Part) → Trimmed line (at + 2) (length line) g → MarkerAt line (marker at at g)
    bullet_is g v =
        record {
          digits = record { order = omega arith; bound = marker_in };
          few = omega arith;
          ascii = rw (part_none line at);
          inside = record { order = v.order; bound = v.high };
          reads =
              marker_eq
              ∙ bullet_eq
              ∙ rw (part_none line at, bullet_past, v.text, part_from line (at + 2), drop-drop 2 at line);
        }

  -- digits
  module _
      (b : starts "- " (drop at line) || starts "* " (drop at line) || starts "+ " (drop at line) ≡ false)
      (stop : ℕ)
      (d : stop ≡ at + length (take_while is_digit (drop at line)))
    where
      abbrev rest : List ℕ
      rest = drop at line

      abbrev digits : List ℕ
      digits = take_while is_digit rest

      pub digits_in : stop ≤ length line
      digits_in = let l = length-drop at line in omega (arith, run_le is_digit rest, marker_in)

      ordinal_eq : marker_at at (chars rest)
          ≡ (if starts ". " (drop stop line) && within 1 9 (length digits) then some (marked (at / 2) (digits ++ str ".") (drop 2 (chars (drop stop line)))) else none)
      unfolding marker_at
      ordinal_eq =
          let rc = run_chars is_digit digit_high rest in
          rw (
            starts_chars (45 ∷ 32 ∷ []) rest (ascii_two 45 32 (omega arith) (omega arith)),
            starts_chars (42 ∷ 32 ∷ []) rest (ascii_two 42 32 (omega arith) (omega arith)),
            starts_chars (43 ∷ 32 ∷ []) rest (ascii_two 43 32 (omega arith) (omega arith)),
            b,
            rc.0,
            rc.1,
            drop-drop (length digits) at line,
            ← d,
            starts_chars (46 ∷ 32 ∷ []) (drop stop line) (ascii_two 46 32 (omega arith) (omega arith)),
          )

      pub ordinal_none : stop ≡ at → list_marker (chars line) ≡ none
      ordinal_none z = marker_eq ∙ ordinal_eq ∙ rw (within_below 1 9 (length digits) (omega arith), and_false (starts ". " (drop stop line)) false refl)

      pub ordinal_many : 9 < stop - at → list_marker (chars line) ≡ none
      ordinal_many z = marker_eq ∙ ordinal_eq ∙ rw (within_above 1 9 (length digits) (omega arith) (omega arith), and_false (starts ". " (drop stop line)) false refl)

      pub ordinal_other : starts ". " (drop stop line) ≡ false → list_marker (chars line) ≡ none
      ordinal_other f = marker_eq ∙ ordinal_eq ∙ rw f

      module _ (f : starts ". " (drop stop line) ≡ true) where
        pub ordinal_inside : stop + 2 ≤ length line
        ordinal_inside = starts_room (46 ∷ 32 ∷ []) line stop (omega arith) f

        mark_some : (ds : List ℕ) → 1 ≤ length ds → mark ds ≡ ds ++ str "."
        mark_some [] h = absurd (omega arith)
        mark_some (c ∷ ds) h = refl

        digits_part : between line at stop ≡ digits
        digits_part = let q : stop - at ≡ length digits = omega arith in rw q (run_take is_digit rest)

        pub ordinal_is : (g : Part) → (stop ≡ at → ⊥) → stop - at ≤ 9 → Trimmed line (stop + 2) (length line) g
            → MarkerAt line (marker at stop g)
        ordinal_is g z m v =
            record {
              digits = record { order = omega arith; bound = digits_in };
              few = omega arith;
              ascii = rw (digits_part) (run_all is_digit rest);
              inside = record { order = v.order; bound = v.high };
              reads =
                  marker_eq
                  ∙ ordinal_eq
                  ∙ rw (
                    f,
                    within_is 1 9 (length digits) (omega arith) (omega arith),
                    sym (drop_chars (46 ∷ 32 ∷ []) (drop stop line) (ascii_two 46 32 (omega arith) (omega arith)) f),
                    v.text,
                    part_from line (stop + 2),
                    drop-drop 2 stop line,
                    digits_part,
                    mark_some digits (omega arith),
                  );
            }

-- ---- the order of the tests
line_eq : (r : Reader) (l t : List ℕ) → trim l ≡ t
    → read_line r l
    ≡ (if is_empty t then reader (flush r) []
    else if starts "#" t then heading t r
    else case (list_marker l) (read_text r (starts " " l) t) (λ m. added (Item m.depth m.marker (spans m.item)) r))
unfolding read_line
line_eq r l t e = rw e

text_eq : (r : Reader) (i : Bool) (t : List ℕ)
    → read_text r i t
    ≡ (if is_rule t then reader (flush r) []
    else if starts "|" t then added (Paragraph (spans (row t))) r
    else if is_empty r.paragraph && i then continuation t r
    else paragraph t r)
unfolding read_text
text_eq r i t = refl

-- the first byte of a part, and of a text
module _ (line : List ℕ) (a b : ℕ) (some : a < b) (bound : b ≤ length line) where
  part_cons : between line a b ≡ get_or line a 0 ∷ take (b - a - 1) (drop (a + 1) line)
  part_cons = let q : b - a ≡ suc (b - a - 1) = omega arith in rw (drop_next line a (omega arith)) (ap (λ (n : ℕ). take n (get_or line a 0 ∷ drop (a + 1) line)) q)

  pub part_some : is_empty (between line a b) ≡ false
  part_some = rw part_cons

  pub part_starts : (x : ℕ) → x < 0x80 → starts_with (x ∷ []) (chars (between line a b)) ≡ eqb (get_or line a 0) x
  part_starts x h = starts_chars (x ∷ []) (between line a b) (ascii_one x h) ∙ rw part_cons (and_true_right (eqb (get_or line a 0) x))

line_starts : (line : List ℕ) (x : ℕ) → 0 < length line → x < 0x80 → starts_with (x ∷ []) (chars line) ≡ eqb (get_or line 0 0) x
line_starts line x f h = rw (part_from line 0) at (part_starts line 0 (length line) f (omega arith) x h)

module _ (line : List ℕ) (a b : ℕ) (t : chars (between line a b) ≡ trim (chars line)) where
  pub line_blank : a ≡ b → (r : Reader) → read_line r (chars line) ≡ reader (flush r) []
  line_blank e r =
      let q : chars (between line a b) ≡ [] = rw (e, part_none line b) chars_nil in
      line_eq r (chars line) [] (sym t ∙ q)

  module _ (some : a < b) (bound : b ≤ length line) where
    not_blank : (r : Reader)
        → read_line r (chars line)
        ≡ (if eqb (get_or line a 0) 35 then heading (chars (between line a b)) r
        else case (list_marker (chars line)) (read_text r (starts " " (chars line)) (chars (between line a b))) (λ m. added (Item m.depth m.marker (spans m.item)) r))
    not_blank r =
        line_eq r (chars line) (chars (between line a b)) (sym t)
        ∙ rw (empty_chars (between line a b), part_some line a b some bound, part_starts line a b some bound 35 (omega arith))

    pub line_hash : get_or line a 0 ≡ 35 → (r : Reader) → read_line r (chars line) ≡ heading (chars (between line a b)) r
    line_hash e r = not_blank r ∙ rw (eq-eqb (get_or line a 0) 35 e)

    module _ (other : get_or line a 0 ≡ 35 → ⊥) where
      pub line_item : (m : Marker) → MarkerAt line m → (r : Reader)
          → read_line r (chars line) ≡ added (Item m.depth (mark (part_text line m.digits)) (spans (chars (part_text line m.text)))) r
      line_item m v r = not_blank r ∙ rw (ne_eqb (get_or line a 0) 35 other, v.reads)

      pub line_text : list_marker (chars line) ≡ none → (r : Reader) → read_line r (chars line) ≡ read_text r (eqb (get_or line 0 0) 32) (chars (between line a b))
      line_text e r =
          not_blank r
          ∙ rw (ne_eqb (get_or line a 0) 35 other, e, line_starts line 32 (omega arith) (omega arith))

-- a line that neither starts with `#` nor has a list marker
module _ (line : List ℕ) (i : Bool) (r : Reader) where
  pub text_rule : is_rule (chars line) ≡ true → read_text r i (chars line) ≡ reader (flush r) []
  text_rule e = text_eq r i (chars line) ∙ rw e

  module _ (some : 0 < length line) (n : is_rule (chars line) ≡ false) where
    pub text_row : get_or line 0 0 ≡ 124 → read_text r i (chars line) ≡ added (Paragraph (spans (row (chars line)))) r
    text_row e = text_eq r i (chars line) ∙ rw (n, line_starts line 124 some (omega arith), eq-eqb (get_or line 0 0) 124 e)

    pub text_other : (get_or line 0 0 ≡ 124 → ⊥)
        → read_text r i (chars line) ≡ (if is_empty r.paragraph && i then continuation (chars line) r else paragraph (chars line) r)
    text_other o = text_eq r i (chars line) ∙ rw (n, line_starts line 124 some (omega arith), ne_eqb (get_or line 0 0) 124 o)
