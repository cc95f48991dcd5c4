-- One turn of the loop over a page: its cases, in bytes, and what the loop does with it.
-- Assumes nothing.
use Prim.Native.Nat.{ℕ, zero, suc, ◌+◌, ◌-◌, ◌*◌, ◌≤◌, ◌<◌}
use native.Mathlib.Omega.{arith}
use native.Mathlib.Nat.{zero-add}
use native.Mathlib.Numerals.{add-one, sub-one}
use mathlib.Core.Path.{◌≡◌, refl, sym, ap, ◌∙◌, subst}
use mathlib.Core.Bool.{Bool, true, false, cond}
use mathlib.Core.Option.{Option, some, none, some-injective}
use mathlib.Core.List.{List, [], ◌∷◌}
use lib.Dec.{ltb}
use lib.ListN.{length, get_or, take, drop, length-drop, length-append}
use lib.Seq.{drop-cons, drop-drop, drop-append_seam, drop-length, take_all, length-take-le}
use borrow.Author.Tests.{lt-ltb, le-ltb, ltb-true, ltb-false}
use Rattle.text.specs.Chars.{Ascii}
use Rattle.std.specs.Prelude.{Some, None, unwrap_or}
use Rattle.std.specs.Prelude as code
use Rattle.text.specs.Words.{◌>>=◌, case, starts, index, find}
use Rattle.text.specs.Utf8.{Scalars, encode, size, chars}
use Rattle.text.specs.Trim.{trim}
use Rattle.text.specs.Find.{found, until, since, closed, comment_end}
use Rattle.text.proofs.Tests.{on, starts_room}
use Rattle.text.proofs.Laws.{size_chars, chars_nil, advance_end, scalars_split}
use Rattle.text.proofs.AsciiLaws.{chars_ascii, starts_chars, drop_chars}
use Rattle.text.proofs.FindLaws.{until_since, chars_until, chars_since, IsHere, found_here, found_nowhere, index_none, index_some, take_until, drop_until, since_head}
use Rattle.text.proofs.TrimLaws.{chars_trim}
use Rattle.html.specs.State.{State}
use Rattle.html.specs.Page.{inside, words, Turn, read, refused, tag_read, comment, a_tag, markup, turn, on_turn, loop}
use Rattle.html.specs.Struct.{state_of, lists_of, left}
use Rattle.html.specs.declared.converter.Converter.{Converter}
use Rattle.html.proofs.GrowLaws.{len_of}
use Rattle.html.proofs.StepLaws.{lists_is, like}
use Rattle.html.proofs.FitLaws.{words_size, words_lists}
use Rattle.text.proofs.CloseLaws.{closed_chars, comment_left, end_left}

-- ---- the cases of a turn, in characters
abbrev tag_left : List ℕ → Option State → Option (List ℕ × State)
tag_left l none = none
tag_left l (some d) = some (l, d)

left_tag : (s : List ℕ) (n : ℕ) (o : Option State) → left s (tag_read n o) ≡ tag_left (drop n s) o
left_tag s n none = refl
left_tag s n (some d) = refl

module _ (r : List ℕ) (d : State) where
  all_left : drop (0 + length r) r ≡ []
  all_left = ap (λ (k : ℕ). drop k r) (zero-add (length r)) ∙ drop-length r

  markup_comment : starts "<!--" r ≡ true → left r (markup 0 r d) ≡ some (closed (drop 4 r), d)
  unfolding markup comment
  markup_comment t = rw t (go (find "-->" (drop 4 r)) refl)
    where
      go : (o : Option ℕ) → find "-->" (drop 4 r) ≡ o → left r (case o (read (0 + length r) d) (λ end. read (0 + 4 + end + 3) d)) ≡ some (closed (drop 4 r), d)
      go none q = ap (λ (l : List ℕ). some (l, d)) (all_left ∙ sym (ap (λ o. case o [] (λ end. drop (end + 3) (drop 4 r))) q) ∙ comment_left (drop 4 r))
      go (some end) q =
          let n : 0 + 4 + end + 3 ≡ 4 + (end + 3) = omega arith in
          ap (λ (l : List ℕ). some (l, d))
          (ap (λ (k : ℕ). drop k r) n ∙ sym (drop-drop (end + 3) 4 r) ∙ sym (ap (λ o. case o [] (λ end. drop (end + 3) (drop 4 r))) q) ∙ comment_left (drop 4 r))

  markup_unclosed : starts "<!--" r ≡ false → since 62 r ≡ [] → left r (markup 0 r d) ≡ some ([], d)
  unfolding markup a_tag
  markup_unclosed t e = rw (t, index_none 62 r e) (ap (λ (l : List ℕ). some (l, d)) all_left)

  markup_tag : starts "<!--" r ≡ false → 0 < length (since 62 r)
      → left r (markup 0 r d) ≡ tag_left (drop 1 (since 62 r)) (inside (trim (drop 1 (until 62 r))) d)
  unfolding markup a_tag
  markup_tag t g =
      let n : 0 + length (until 62 r) + 1 ≡ length (until 62 r) + 1 = omega arith in
      rw (t, index_some 62 r g, take_until 62 r)
      (left_tag r (0 + length (until 62 r) + 1) (inside (trim (drop 1 (until 62 r))) d)
      ∙ ap (λ (l : List ℕ). tag_left l (inside (trim (drop 1 (until 62 r))) d)) (ap (λ (k : ℕ). drop k r) n ∙ drop_until 62 1 r))

-- what starts with `<` leaves the same, whether the text before it is counted or not
module _ (s : List ℕ) (u : ℕ) (d : State) where
  abbrev r : List ℕ
  r = drop u s

  further : (k n : ℕ) → k ≡ u + n → drop k s ≡ drop n r
  further k n e = ap (λ (j : ℕ). drop j s) e ∙ sym (drop-drop n u s)

  -- `markup` by what its three searches find, where k characters stand before it
  abbrev searched : ℕ → Bool → Option ℕ → Option ℕ → Turn
  searched k b o p =
      cond b (case o (read (k + length r) d) (λ end. read (k + 4 + end + 3) d))
      (case p (read (k + length r) d) (λ end. tag_read (k + end + 1) (inside (trim (drop 1 (take end r))) d)))

  markup_at : left s (markup u r d) ≡ left r (markup 0 r d)
  unfolding markup comment a_tag
  markup_at = go (starts "<!--" r) (find "-->" (drop 4 r)) (find ">" r)
    where
      after : (k n : ℕ) → k ≡ u + n → (o : Option State) → left s (tag_read k o) ≡ left r (tag_read n o)
      after k n e none = refl
      after k n e (some x) = ap (λ (l : List ℕ). some (l, x)) (further k n e)

      go : (b : Bool) (o p : Option ℕ) → left s (searched u b o p) ≡ left r (searched 0 b o p)
      go true none p = ap (λ (l : List ℕ). some (l, d)) (further (u + length r) (0 + length r) (omega arith))
      go true (some end) p = ap (λ (l : List ℕ). some (l, d)) (further (u + 4 + end + 3) (0 + 4 + end + 3) (omega arith))
      go false o none = ap (λ (l : List ℕ). some (l, d)) (further (u + length r) (0 + length r) (omega arith))
      go false o (some end) = after (u + end + 1) (0 + end + 1) (omega arith) (inside (trim (drop 1 (take end r))) d)

module _ (s : List ℕ) (c : State) where
  turn_text : since 60 s ≡ [] → left s (turn s c) ≡ some ([], words s c)
  unfolding turn
  turn_text e = rw (index_none 60 s e, drop-length s)

  turn_open : 0 < length (since 60 s) → left s (turn s c) ≡ left (since 60 s) (markup 0 (since 60 s) (words (until 60 s) c))
  unfolding turn
  turn_open h =
      let u = length (until 60 s) in
      let z : drop u s ≡ since 60 s = ap (drop u) (sym (until_since 60 s)) ∙ drop-append_seam (until 60 s) (since 60 s) in
      rw (index_some 60 s h, take_until 60 s) (markup_at s u (words (until 60 s) c) ∙ ap (λ (l : List ℕ). left l (markup 0 l (words (until 60 s) c))) z)

-- ---- the same in bytes
pub chars_past : (h : List ℕ) → [] ≡ chars (drop (length h) h)
chars_past h = sym (advance_end h (length h) (omega arith))

-- a mark that was found, as the first of what is left
pub mark_is : (h : List ℕ) (at b j : ℕ) → IsHere h at b j → get_or h j 0 ≡ b
mark_is h at b j f =
    let s : 0 < length (since b (drop at h)) = omega (arith, ap length f.since_is, length-drop j h, f.bound) in
    ap (λ (l : List ℕ). get_or l 0 0) (sym (drop-cons h j 0 f.bound) ∙ f.since_is) ∙ since_head b (drop at h) s

ascii_next : (h : List ℕ) (j b : ℕ) → j < length h → get_or h j 0 ≡ b → b < 0x80 → chars (drop j h) ≡ b ∷ chars (drop (j + 1) h)
ascii_next h j b l e m = ap chars (drop-cons h j 0 l) ∙ chars_ascii (get_or h j 0) (drop (suc j) h) (omega arith) ∙ rw (e, add-one j)

-- ---- how long the text before a mark is: up to the first b, or all
end_here : (s : List ℕ) (b j : ℕ) → IsHere s 0 b j → j ≡ length (until b s)
end_here s b j f = omega (arith, ap length f.until_is, length-take-le (j - 0) s (omega (arith, f.bound)))

end_all : (s : List ℕ) (b : ℕ) → since b s ≡ [] → length s ≡ length (until b s)
end_all s b e = omega (arith, ap length (until_since b s), length-append (until b s) (since b s), ap length e)

pub end_of : (s : List ℕ) (b : ℕ) → (o : code.Option ℕ) → o ≡ found 0 (index (b ∷ []) s) → unwrap_or o (length s) ≡ length (until b s)
end_of s b None e = end_all s b (found_nowhere s 0 b (sym e))
end_of s b (Some j) e = end_here s b j (found_here s 0 b j (sym e))

scalars_until : (b : ℕ) (s : List ℕ) → Scalars s → Scalars (until b s)
scalars_until b s h = (scalars_split (until b s) (since b s) (subst Scalars (sym (until_since b s)) h)).0

module _ (h : List ℕ) (j : ℕ) (e : j ≡ length (until 60 h)) where
  pub text_most : j ≤ length h
  text_most = omega (arith, ap length (until_since 60 h), length-append (until 60 h) (since 60 h))

  part_is : take j h ≡ until 60 h
  part_is = ap (λ (k : ℕ). take k h) e ∙ take_until 60 h

  piece_is : chars (take j h) ≡ until 60 (chars h)
  piece_is = ap chars part_is ∙ chars_until 60 (omega arith) h

  left_is : drop j h ≡ since 60 h
  left_is = ap (λ (k : ℕ). drop k h) e ∙ ap (drop (length (until 60 h))) (sym (until_since 60 h)) ∙ drop-append_seam (until 60 h) (since 60 h)

  pub piece_scalars : Scalars (chars h) → Scalars (chars (take j h))
  piece_scalars s = rw piece_is (scalars_until 60 (chars h) s)

  pub mark_first : 0 < length (drop j h) → get_or (drop j h) 0 0 ≡ 60
  mark_first l = ap (λ (r : List ℕ). get_or r 0 0) left_is ∙ since_head 60 h (omega (arith, ap length left_is))

  module _ (c d : State) (q : d ≡ words (chars (take j h)) c) where
    pub bytes_text : length (drop j h) ≡ 0 → some (chars (drop j h), d) ≡ left (chars h) (turn (chars h) c)
    bytes_text f =
        let n : drop j h ≡ [] = nil (drop j h) f in
        let z : since 60 (chars h) ≡ [] = sym (chars_since 60 (omega arith) h) ∙ ap chars (sym left_is ∙ n) ∙ chars_nil in
        let w : take j h ≡ h = take_all j h (omega (arith, f, length-drop j h)) in
        ap (λ (l : List ℕ). some (l, d)) (ap chars n ∙ chars_nil)
        ∙ ap (λ (x : State). some ([], x)) (q ∙ ap (λ (l : List ℕ). words (chars l) c) w)
        ∙ sym (turn_text (chars h) c z)
      where
        nil : (l : List ℕ) → length l ≡ 0 → l ≡ []
        nil [] e = refl
        nil (x ∷ l) e = absurd (omega arith)

    pub bytes_open : 0 < length (drop j h) → left (chars (drop j h)) (markup 0 (chars (drop j h)) d) ≡ left (chars h) (turn (chars h) c)
    bytes_open f =
        let z : chars (drop j h) ≡ since 60 (chars h) = ap chars left_is ∙ chars_since 60 (omega arith) h in
        let m : 0 < length (since 60 (chars h)) = omega (arith, ap length (sym z ∙ ascii_next (drop j h) 0 60 f (mark_first f) (omega arith))) in
        ap (λ (l : List ℕ). left l (markup 0 l d)) z
        ∙ ap (λ (x : State). left (since 60 (chars h)) (markup 0 (since 60 (chars h)) x)) (q ∙ ap (λ (l : List ℕ). words l c) piece_is)
        ∙ sym (turn_open (chars h) c m)

-- the rest of some bytes, as a part of them
pub rest_is : (h : List ℕ) (r : ℕ) → take (length h - r) (drop r h) ≡ drop r h
rest_is h r = take_all (length h - r) (drop r h) (omega (arith, length-drop r h))

module _ (h : List ℕ) (j : ℕ) (d : State) (t : Bool) (e : t ≡ starts "<!--" (drop j h)) where
  abbrev mark : List ℕ
  mark = chars (drop j h)

  abbrev opening : List ℕ
  opening = 60 ∷ 33 ∷ 45 ∷ 45 ∷ []

  opening_ascii : Ascii opening
  opening_ascii = (omega arith, (omega arith, (omega arith, (omega arith, tt))))

  starts_is : starts "<!--" mark ≡ t
  starts_is = starts_chars opening (drop j h) opening_ascii ∙ sym e

  pub bytes_comment : (r : ℕ) → t ≡ true → r ≡ comment_end h (j + 4) → some (chars (drop r h), d) ≡ left mark (markup 0 mark d)
  bytes_comment r y g =
      let p : chars (drop (j + 4) h) ≡ drop 4 mark = ap chars (sym (drop-drop 4 j h)) ∙ drop_chars opening (drop j h) opening_ascii (sym e ∙ y) in
      let end : drop r h ≡ closed (drop (j + 4) h) = ap (λ (k : ℕ). drop k h) g ∙ end_left h (j + 4) in
      let rest : chars (drop r h) ≡ closed (drop 4 mark) = ap chars end ∙ closed_chars (drop (j + 4) h) ∙ ap closed p in
      sym (markup_comment mark d (starts_is ∙ y) ∙ ap (λ (l : List ℕ). some (l, d)) (sym rest))

  pub bytes_unclosed : t ≡ false → found j (index (62 ∷ []) (drop j h)) ≡ None → some (chars (drop (length h) h), d) ≡ left mark (markup 0 mark d)
  bytes_unclosed n g =
      let z : since 62 mark ≡ [] = sym (chars_since 62 (omega arith) (drop j h)) ∙ ap chars (found_nowhere h j 62 g) ∙ chars_nil in
      sym (markup_unclosed mark d (starts_is ∙ n) z ∙ ap (λ (l : List ℕ). some (l, d)) (chars_past h))

  module _ (l : j < length h) (f : get_or h j 0 ≡ 60) (end : ℕ) (g : IsHere h j 62 end) where
    pub end_after : j + 1 ≤ end
    end_after = go (ltb j end) refl
      where
        go : (b : Bool) → ltb j end ≡ b → j + 1 ≤ end
        go true y = omega (arith, ltb-true j end y)
        go false y =
            let z : end ≡ j = omega (arith, ltb-false j end y, g.low) in
            absurd (omega (arith, sym (mark_is h j 62 end g) ∙ ap (λ (k : ℕ). get_or h k 0) z ∙ f))

    since_end : since 62 mark ≡ 62 ∷ chars (drop (end + 1) h)
    since_end = sym (chars_since 62 (omega arith) (drop j h)) ∙ ap chars (sym g.since_is) ∙ ascii_next h end 62 g.bound (mark_is h j 62 end g) (omega arith)

    inner_is : drop 1 (until 62 mark) ≡ chars (take (end - (j + 1)) (drop (j + 1) h))
    inner_is =
        let k = end_after in
        let m : end - j ≡ suc (end - (j + 1)) = omega arith in
        let x : take (end - j) (drop j h) ≡ get_or h j 0 ∷ take (end - (j + 1)) (drop (j + 1) h) = rw (m, drop-cons h j 0 l, add-one j) in
        ap (drop 1) (sym (chars_until 62 (omega arith) (drop j h)) ∙ ap chars (sym g.until_is ∙ x) ∙ chars_ascii (get_or h j 0) _ (omega arith))

    pub bytes_tag : t ≡ false → (bs : List ℕ) (o : Option State) → bs ≡ encode (trim (chars (take (end - (j + 1)) (drop (j + 1) h)))) → o ≡ inside (chars bs) d
        → tag_left (chars (drop (end + 1) h)) o ≡ left mark (markup 0 mark d)
    bytes_tag n bs o b i =
        let p : chars bs ≡ trim (drop 1 (until 62 mark)) = ap chars b ∙ chars_trim (take (end - (j + 1)) (drop (j + 1) h)) ∙ ap trim (sym inner_is) in
        sym (markup_tag mark d (starts_is ∙ n) (omega (arith, ap length since_end)) ∙ ap (λ (x : List ℕ). tag_left x (inside (trim (drop 1 (until 62 mark))) d)) (ap (drop 1) since_end)
        ∙ ap (tag_left (chars (drop (end + 1) h))) (sym (i ∙ ap (λ (x : List ℕ). inside x d) p)))

-- ---- the loop
loop_drop : (n : ℕ) (s : List ℕ) (c : State) → loop n s c ≡ loop 0 (drop n s) c
unfolding loop
loop_drop zero s c = refl
loop_drop (suc n) [] c = refl
loop_drop (suc n) (x ∷ s) c = loop_drop n s c

abbrev pub Reads : Turn → Type 0
Reads refused = Unit
Reads (read n d) = 1 ≤ n

tag_reads : (n : ℕ) (o : Option State) → Reads (tag_read (n + 1) o)
tag_reads n none = tt
tag_reads n (some d) = omega arith

pub turn_reads : (s : List ℕ) (c : State) → 0 < length s → Reads (turn s c)
unfolding turn markup comment a_tag
turn_reads s c h = go (find "<" s)
  where
    some_of : (at : ℕ) → 1 ≤ at + length (drop at s)
    some_of at = omega (arith, length-drop at s)

    go : (o : Option ℕ) → Reads (case o (read (length s) (words s c)) (λ at. markup at (drop at s) (words (take at s) c)))
    go none = h
    go (some at) =
        on Reads (starts "<!--" (drop at s))
        (λ _. close (find "-->" (drop 4 (drop at s))))
        (λ _. end (find ">" (drop at s)))
      where
        close : (o : Option ℕ) → Reads (case o (read (at + length (drop at s)) (words (take at s) c)) (λ e. read (at + 4 + e + 3) (words (take at s) c)))
        close none = some_of at
        close (some e) = omega arith

        end : (o : Option ℕ)
            → let d = words (take at s) c in
            Reads (case o (read (at + length (drop at s)) d) (λ e. tag_read (at + e + 1) (inside (trim (drop 1 (take e (drop at s)))) d)))
        end none = some_of at
        end (some e) = tag_reads (at + e) (inside (trim (drop 1 (take e (drop at s)))) (words (take at s) c))

pub loop_left : (s : List ℕ) (c : State) → 0 < length s → size c.out < 16000 → loop 0 s c ≡ (left s (turn s c) >>= λ p. loop 0 p.0 p.1)
unfolding loop
loop_left [] c h l = absurd (omega arith)
loop_left (x ∷ s) c h l = rw (lt-ltb (size c.out) 16000 l) (go (turn (x ∷ s) c) (turn_reads (x ∷ s) c h))
  where
    go : (t : Turn) → Reads t → on_turn t (λ n d. loop (n - 1) s d) ≡ (left (x ∷ s) t >>= λ p. loop 0 p.0 p.1)
    go refused r = refl
    go (read zero d) r = absurd (omega arith)
    go (read (suc n) d) r = rw sub-one (loop_drop n s d)

pub loop_full : (s : List ℕ) (c : State) → 16000 ≤ size c.out → loop 0 s c ≡ some c
unfolding loop
loop_full [] c l = refl
loop_full (x ∷ s) c l = rw (le-ltb (size c.out) 16000 l)

pub loop_end : (s : List ℕ) (c : State) → length s ≡ 0 → loop 0 (chars s) c ≡ some c
unfolding loop
loop_end [] c l = rw chars_nil
loop_end (x ∷ s) c l = absurd (omega arith)

-- what a turn that was not refused left
pub record Kept (s l : List ℕ) (c d : State) : Type 0 where
  pub count : ℕ
  pub is : turn s c ≡ read count d
  pub rest : drop count s ≡ l

pub kept : (s l : List ℕ) (c d : State) → some (l, d) ≡ left s (turn s c) → Kept s l c d
kept s l c d e = go (turn s c) refl e
  where
    go : (t : Turn) → turn s c ≡ t → some (l, d) ≡ left s t → Kept s l c d
    go refused q e = absurd (let z : ◌≡◌ {A = ℕ} 0 1 = cc in omega arith)
    go (read n d') q e =
        let f : ◌≡◌ {A = List ℕ × State} (l, d) (drop n s, d') = some-injective _ _ e in
        record { count = n; is = q ∙ ap (read n) (sym (ap (λ (p : List ℕ × State). p.1) f)); rest = sym (ap (λ (p : List ℕ × State). p.0) f) }

-- ---- what a call has to know of the parts of a page
pub mark_room : (s : List ℕ) (j : ℕ) (t : Bool) → t ≡ starts "<!--" (drop j s) → t ≡ true → j + 4 ≤ length s
mark_room s j t e y = starts_room (60 ∷ 33 ∷ 45 ∷ 45 ∷ []) s j (omega arith) (sym e ∙ y)

-- after the text of a turn the tag has room
pub record Room (a r : Converter) (n : ℕ) : Type 0 where
  pub len : r.len ≤ a.len + 1 + 2 * n
  pub lists : lists_of r ≡ lists_of a
  pub depth : r.depth ≡ a.depth

pub words_room : (a r : Converter) (w w' bs : List ℕ) → state_of r w' ≡ words (chars bs) (state_of a w) → Room a r (length bs)
words_room a r w w' bs e =
    let k = lists_is r w' _ e ∙ words_lists (chars bs) (state_of a w) ∙ sym (lists_is a w _ refl) in
    record {
      len = omega (arith, len_of r w' _ e, words_size (chars bs) (state_of a w), len_of a w _ refl, size_chars bs);
      lists = k;
      depth = like a r k;
    }
