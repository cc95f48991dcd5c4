-- The end of a conversion and the whole call: what is cut and copied, and the answer in each case.
-- Assumes nothing.
use Prim.Native.Nat.{ℕ, ◌+◌, ◌-◌, ◌*◌, ◌≤◌, ◌<◌}
use native.Mathlib.Omega.{arith}
use mathlib.Core.Path.{◌≡◌, sym, ap, ◌∙◌}
use mathlib.Core.Bool.{true, false}
use mathlib.Core.Option.{Option, some, none}
use mathlib.Core.List.{List, [], ◌∷◌, reverse-reverse}
use lib.Dec.{leb}
use lib.ListN.{length, take, length-append, length-take}
use borrow.Author.Tests.{lt-ltb, le-ltb, leb-true}
use Rattle.text.specs.Words.{◌>>=◌, case, drop_while, trim_end_matches}
use Rattle.text.specs.Utf8.{Scalars, utf8, encode, size, chars, is_utf8}
use Rattle.text.specs.Trim.{trim}
use Rattle.text.specs.Cut.{cut}
use Rattle.text.specs.Outcome.{Outcome, refused, wrote, number, returned, result_after, work_kept}
use Rattle.text.proofs.Tests.{on}
use Rattle.text.proofs.Laws.{size_encode, utf8_size, decode_true, decode_false, chars_encode, chars_nil, utf8_scalars}
use Rattle.text.proofs.CutLaws.{take_cut}
use Rattle.text.proofs.TrimLaws.{chars_trim}
use Rattle.html.specs.State.{State, new}
use Rattle.html.specs.Page.{loop, finish, html_to_markdown}
use Rattle.html.specs.Struct.{state_of, out_of, written}
use Rattle.html.specs.Calls.{converted, with_buffers, html_to_markdown_call}
use Rattle.html.specs.Answers.{answer_number, answer_length}
use Rattle.std.specs.Prelude.{Result}
use Rattle.html.specs.declared.PageError.{PageError}
use Rattle.html.specs.declared.converter.Converter.{Converter}
use Rattle.html.proofs.OutLaws.{written_take}

-- ---- 8,000 characters have at most 32,000 bytes
encode_most : (cs : List ℕ) → length (encode cs) ≤ 4 * length cs
encode_most [] = omega arith
encode_most (c ∷ cs) = omega (arith, length-append (utf8 c) (encode cs), (utf8_size c).1, encode_most cs)

pub first_most : (n : ℕ) (cs : List ℕ) → length (encode (take n cs)) ≤ 4 * n
first_most n cs = omega (arith, encode_most (take n cs), length-take n cs)

-- ---- the cut
cut_most : (n : ℕ) (cs : List ℕ) → length (encode (cut n cs)) ≤ n
unfolding cut
cut_most n [] = omega arith
cut_most n (c ∷ cs) =
    let h = cut_most (n - length (utf8 c)) cs in
    on (λ (l : List ℕ). length (encode l) ≤ n) (leb (length (utf8 c)) n)
    (λ e. omega (arith, leb-true (length (utf8 c)) n e, length-append (utf8 c) (encode (cut (n - length (utf8 c)) cs))))
    (λ _. omega arith)

cut_scalars : (n : ℕ) (cs : List ℕ) → Scalars cs → Scalars (cut n cs)
unfolding cut
cut_scalars n [] h = tt
cut_scalars n (c ∷ cs) h = on Scalars (leb (length (utf8 c)) n) (λ _. (h.0, cut_scalars (n - length (utf8 c)) cs h.1)) (λ _. tt)

-- what is read of a page
abbrev pub read_of : List ℕ → List ℕ
read_of page = cut 1048576 (chars page)

-- how many bytes of a page are read
pub record Cut (page : List ℕ) (n : ℕ) : Type 0 where
  pub utf8 : is_utf8 page ≡ true
  pub is : n ≡ length (encode (cut 1048576 (chars page)))

module _ (page : List ℕ) (n : ℕ) (k : Cut page n) where
  page_scalars : Scalars (chars page)
  page_scalars = utf8_scalars page k.utf8

  pub cut_small : n ≤ 1048576
  cut_small = omega (arith, k.is, cut_most 1048576 (chars page))

  pub cut_within : n ≤ length page
  cut_within = omega (arith, k.is, ap length (take_cut 1048576 page), length-take (length (encode (cut 1048576 (chars page)))) page)

  pub cut_is : chars (take n page) ≡ read_of page
  cut_is = rw k.is (ap chars (take_cut 1048576 page) ∙ chars_encode (read_of page) (cut_scalars 1048576 (chars page) page_scalars))

  pub read_scalars : Scalars (chars (take n page))
  read_scalars = rw cut_is (cut_scalars 1048576 (chars page) page_scalars)

  size_is : size (cut 1048576 (chars page)) ≡ n
  size_is = sym (size_encode (read_of page)) ∙ sym k.is

  call_is : (w r : ℕ) → html_to_markdown_call page w r ≡ with_buffers (chars page) w r
  unfolding html_to_markdown_call
  call_is w r = rw (decode_true page k.utf8)

  pub call_2 : (w r : ℕ) → w < 2 * n + 16384 → html_to_markdown_call page w r ≡ refused 2
  unfolding with_buffers
  call_2 w r h = call_is w r ∙ rw (size_is, lt-ltb w (2 * n + 16384) h)

  pub call_3 : (w r : ℕ) → 2 * n + 16384 ≤ w → r < 32000 → html_to_markdown_call page w r ≡ refused 3
  unfolding with_buffers
  call_3 w r h l = call_is w r ∙ rw (size_is, le-ltb w (2 * n + 16384) h, lt-ltb r 32000 l)

  module _ (w r : ℕ) (h : 2 * n + 16384 ≤ w) (l : 32000 ≤ r) where
    call_loop : (o : Option State) → o ≡ loop 0 (chars (take n page)) new
        → html_to_markdown_call page w r ≡ case (o >>= λ c. some (finish c)) (refused 4) (λ markdown. wrote (encode markdown))
    unfolding with_buffers converted html_to_markdown
    call_loop o q =
        call_is w r
        ∙ rw (size_is, le-ltb w (2 * n + 16384) h, le-ltb r 32000 l)
        (ap (λ (x : Option State). case (x >>= λ c. some (finish c)) (refused 4) (λ markdown. wrote (encode markdown))) (sym (q ∙ ap (λ (cs : List ℕ). loop 0 cs new) cut_is)))

    pub call_4 : none ≡ loop 0 (chars (take n page)) new → html_to_markdown_call page w r ≡ refused 4
    call_4 q = call_loop none q

    pub call_empty : n ≡ 0 → html_to_markdown_call page w r ≡ wrote []
    unfolding loop finish trim_end_matches drop_while
    call_empty z = call_loop (some new) (rw (z, chars_nil))

    pub call_wrote : (c : Converter) (work : List ℕ) → some (state_of c work) ≡ loop 0 (chars (take n page)) new → c.len ≤ length work
        → html_to_markdown_call page w r ≡ wrote (encode (take 8000 (trim (chars (take c.len work)))))
    unfolding finish state_of out_of
    call_wrote c work q m =
        call_loop (some (state_of c work)) q
        ∙ ap (λ (x : List ℕ). wrote (encode (take 8000 (trim x)))) (reverse-reverse (chars (written c.len work)) ∙ ap chars (written_take c.len work m))

pub call_1 : (page : List ℕ) (w r : ℕ) → is_utf8 page ≡ false → html_to_markdown_call page w r ≡ refused 1
unfolding html_to_markdown_call
call_1 page w r u = rw (decode_false page u)

-- what a call promises, by the outcome that it has
pub promised : (o p : Outcome) (a : Result ℕ PageError) (result result' work work' : List ℕ) → o ≡ p → answer_number a ≡ number p → answer_length a ≡ returned p
    → result' ≡ result_after p result → work_kept p work' ≡ work_kept p work
    → record {
      result_value : (answer_number a ≡ number o) × (answer_length a ≡ returned o);
      res_after : result' ≡ result_after o result;
      work_unchanged : work_kept o work' ≡ work_kept o work;
    }
promised o p a result result' work work' e x y z v = rw e (record { result_value = (x, y); res_after = z; work_unchanged = v })

-- what is copied out
pub notes_is : (notes trimmed written : List ℕ) → trimmed ≡ encode (trim (chars written)) → notes ≡ encode (take 8000 (chars trimmed))
    → notes ≡ encode (take 8000 (trim (chars written)))
notes_is notes trimmed written e f = f ∙ ap (λ (x : List ℕ). encode (take 8000 x)) (ap chars e ∙ chars_trim written)

-- nothing is copied out where nothing was written
pub notes_none : (written : List ℕ) → length written ≡ 0 → encode (take 8000 (trim (chars written))) ≡ []
unfolding trim_end_matches drop_while
notes_none [] e = rw chars_nil
notes_none (_ ∷ _) e = grind arith
