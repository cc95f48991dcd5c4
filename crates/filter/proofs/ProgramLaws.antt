-- The text in the front of the buffer: the two lines as they are, the Markdown with byte 10 stored behind it.
-- Assumes nothing.
use Prim.Native.Nat.{ℕ, suc, ◌+◌, ◌*◌, ◌≤◌, ◌<◌}
use native.Mathlib.Omega.{arith}
use native.Mathlib.Numerals.{add-one}
use native.Mathlib.Nat.{zero-add}
use mathlib.Core.Path.{◌≡◌, refl, sym, ap, ◌∙◌}
use mathlib.Core.Option.{Option, some, none}
use mathlib.Core.List.{List, [], ◌∷◌, ◌++◌, append_assoc}
use lib.Dec.{ltb}
use lib.ListN.{length, get_or, take, drop, set, length-append, length-drop, take-append-drop}
use lib.Seq.{sets, sets-eq, set_at, drop-cons, drop-append-le, append_snoc, length-take-le}
use borrow.Author.Tests.{lt-ltb, le-ltb}
use Rattle.text.specs.Words.{str, case}
use Rattle.text.specs.Utf8.{size, encode, decode}
use Rattle.text.specs.Cut.{cut}
use Rattle.text.specs.Outcome.{Outcome, refused, wrote, number, returned, front, result_after}
use Rattle.text.proofs.Tests.{on}
use Rattle.html.specs.Page.{html_to_markdown}
use Rattle.html.specs.Calls.{converted, with_buffers, html_to_markdown_call}
use Rattle.std.specs.Prelude.{Result, Ok, Err}
use Rattle.html.specs.Answers.{error_number, answer_number, answer_length}
use Rattle.html.specs.declared.PageError.{PageError}
use Rattle.html.specs.declared.PageError.TheVariants.{NotUtf8, SmallWork, SmallResult, TooManyLists}
use Rattle.filter.specs.Program.{refusal, outcome_text, page_text, program_text}

-- ---- what is stored from the first byte on is the front
pub stored_front : (t out : List ℕ) → length t ≤ length out → sets out 0 t ≡ front t out
stored_front t out h = sets-eq t out 0 (omega arith) ∙ ap (λ (n : ℕ). t ++ drop n out) (zero-add (length t))

-- ---- the program's text in its two cases
module _ (page : List ℕ) where
  pub text_long : 16384 < length page → program_text page ≡ str "too long\n"
  unfolding program_text
  text_long h = rw (lt-ltb 16384 (length page) h)

  pub text_short : length page ≤ 16384 → program_text page ≡ page_text page
  unfolding program_text
  text_short h = rw (le-ltb 16384 (length page) h)

-- ---- a refusal has a number, so that number 0 says success
abbrev Numbered : Outcome → Type 0
Numbered (refused n) = 0 < n
Numbered (wrote bs) = Unit

case_numbered : {A : Type 0} (o : Option A) (b : Outcome) (f : A → Outcome) → Numbered b → ((a : A) → Numbered (f a)) → Numbered (case o b f)
case_numbered none b f h k = h
case_numbered (some a) b f h k = k a

converted_numbered : (html : List ℕ) → Numbered (converted html)
unfolding converted
converted_numbered html = case_numbered (html_to_markdown html) (refused 4) (λ markdown. wrote (encode markdown)) (omega arith) (λ _. tt)

buffers_numbered : (html : List ℕ) (w r : ℕ) → Numbered (with_buffers html w r)
unfolding with_buffers
buffers_numbered html w r =
    on Numbered (ltb w (2 * size (cut 1048576 html) + 16384)) (λ _. omega arith)
    (λ _. on Numbered (ltb r 32000) (λ _. omega arith) (λ _. converted_numbered html))

pub call_numbered : (page : List ℕ) (w r : ℕ) → Numbered (html_to_markdown_call page w r)
unfolding html_to_markdown_call
call_numbered page w r =
    case_numbered (decode page) (refused 1) (λ html. with_buffers html w r) (omega arith) (λ html. buffers_numbered html w r)

refused_is : (o : Outcome) (n : ℕ) → n ≡ number o → 0 < n → o ≡ refused n
refused_is (refused m) n e h = ap refused (sym e)
refused_is (wrote bs) n e h = absurd (omega arith)

abbrev written : Outcome → List ℕ
written (refused n) = []
written (wrote bs) = bs

wrote_is : (o : Outcome) → Numbered o → number o ≡ 0 → o ≡ wrote (written o)
wrote_is (refused n) h e = absurd (omega arith)
wrote_is (wrote bs) h e = refl

-- ---- what an error says
pub few : (e : PageError) → error_number e ≤ 4
few NotUtf8 = omega arith
few SmallWork = omega arith
few SmallResult = omega arith
few TooManyLists = omega arith

above_zero : (e : PageError) → 0 < error_number e
above_zero NotUtf8 = omega arith
above_zero SmallWork = omega arith
above_zero SmallResult = omega arith
above_zero TooManyLists = omega arith

unchanged : (e : PageError) (result : List ℕ) → result_after (refused (error_number e)) result ≡ result
unchanged NotUtf8 result = refl
unchanged SmallWork result = refl
unchanged SmallResult result = refl
unchanged TooManyLists result = refl

-- ---- a result that is the front of a longer buffer
module _ (bs out : List ℕ) (k : ℕ) (h : length bs ≤ length (take k out)) where
  front_part : front bs (take k out) ++ drop k out ≡ front bs out
  front_part =
      append_assoc bs (drop (length bs) (take k out)) (drop k out)
      ∙ ap (λ (l : List ℕ). bs ++ l) (sym (drop-append-le (length bs) (take k out) (drop k out) h) ∙ ap (drop (length bs)) (take-append-drop k out))

-- one byte behind what stands in front
module _ (bs out : List ℕ) (b : ℕ) (h : length bs < length out) where
  one_more : length bs + 1 ≡ length (bs ++ b ∷ [])
  one_more = sym (length-append bs (b ∷ []))

  front_more : set (front bs out) (length bs) b ≡ front (bs ++ b ∷ []) out
  front_more =
      ap (λ (l : List ℕ). set (bs ++ l) (length bs) b) (drop-cons out (length bs) 0 h)
      ∙ set_at bs (get_or out (length bs) 0) (drop (suc (length bs)) out) b (length bs) refl
      ∙ sym (append_snoc bs b (drop (suc (length bs)) out))
      ∙ ap (λ (n : ℕ). bs ++ (b ∷ []) ++ drop n out) (sym (add-one (length bs)) ∙ one_more)

-- ---- the call: its answer a, and `last`, which it left of the first 32,000 bytes
abbrev pub the_call : List ℕ → Outcome
the_call page = html_to_markdown_call page 49152 32000

pub record Called (page out : List ℕ) (a : Result ℕ PageError) (last : List ℕ) : Type 0 where
  pub size : length out ≡ 32001
  pub kept : length last ≡ 32000
  pub numbered : answer_number a ≡ number (the_call page)
  pub counted : answer_length a ≡ returned (the_call page)
  pub left : last ≡ result_after (the_call page) (take 32000 out)

-- from what `html_to_markdown` ensures
pub called : (page out : List ℕ) (a : Result ℕ PageError) (last : List ℕ) → length out ≡ 32001 → length last ≡ length (take 32000 out)
    → (answer_number a ≡ number (html_to_markdown_call page 49152 (length (take 32000 out))))
    × (answer_length a ≡ returned (html_to_markdown_call page 49152 (length (take 32000 out))))
    → last ≡ result_after (html_to_markdown_call page 49152 (length (take 32000 out))) (take 32000 out)
    → Called page out a last
called page out a last z k e l =
    let p : length (take 32000 out) ≡ 32000 = length-take-le 32000 out (omega arith) in
    let q : html_to_markdown_call page 49152 (length (take 32000 out)) ≡ the_call page = ap (λ (n : ℕ). html_to_markdown_call page 49152 n) p in
    record {
      size = z;
      kept = k ∙ p;
      numbered = e.0 ∙ ap number q;
      counted = e.1 ∙ ap returned q;
      left = l ∙ ap (λ (o : Outcome). result_after o (take 32000 out)) q;
    }

module _ (page out : List ℕ) (a : Result ℕ PageError) (last : List ℕ) (c : Called page out a last) where
  module _ (e : PageError) (no : a ≡ Err e) where
    is_refused : the_call page ≡ refused (error_number e)
    is_refused = refused_is (the_call page) (error_number e) (sym (ap answer_number no) ∙ c.numbered) (above_zero e)

    as_before : last ++ drop 32000 out ≡ out
    as_before =
        ap (λ (l : List ℕ). l ++ drop 32000 out)
        (c.left ∙ ap (λ (o : Outcome). result_after o (take 32000 out)) is_refused ∙ unchanged e (take 32000 out))
        ∙ take-append-drop 32000 out

    pub refusal_stands : (n : ℕ) (after : List ℕ) → n ≡ length (refusal (error_number e)) → after ≡ sets (last ++ drop 32000 out) 0 (refusal (error_number e))
        → (n ≡ length (page_text page)) × (after ≡ front (page_text page) out)
    refusal_stands n after l s =
        let z = c.size in (
          l ∙ ap (λ (o : Outcome). length (outcome_text o)) (sym is_refused),
          s
              ∙ ap (λ (b : List ℕ). sets b 0 (refusal (error_number e))) as_before
              ∙ stored_front (refusal (error_number e)) out (omega arith)
              ∙ ap (λ (o : Outcome). front (outcome_text o) out) (sym is_refused),
        )

  module _ (n : ℕ) (yes : a ≡ Ok n) where
    markdown : List ℕ
    markdown = written (the_call page)

    is_wrote : the_call page ≡ wrote markdown
    unfolding markdown
    is_wrote = wrote_is (the_call page) (call_numbered page 49152 32000) (sym c.numbered ∙ ap answer_number yes)

    its_length : n ≡ length markdown
    its_length = sym (ap answer_length yes) ∙ c.counted ∙ ap returned is_wrote

    part : length (take 32000 out) ≡ 32000
    part = let z = c.size in length-take-le 32000 out (omega arith)

    left_is : last ≡ front markdown (take 32000 out)
    left_is = c.left ∙ ap (λ (o : Outcome). result_after o (take 32000 out)) is_wrote

    -- the Markdown is no longer than the result that it stands in, and one byte stands behind that
    pub markdown_small : n ≤ 32000
    markdown_small =
        omega (arith, its_length, part, c.kept, ap length left_is, length-append markdown (drop (length markdown) (take 32000 out)), length-drop (length markdown) (take 32000 out))

    pub room_behind : n < length (last ++ drop 32000 out)
    room_behind = omega (arith, markdown_small, c.size, c.kept, length-append last (drop 32000 out), length-drop 32000 out)

    pub markdown_stands : (n + 1 ≡ length (page_text page)) × (set (last ++ drop 32000 out) n 10 ≡ front (page_text page) out)
    markdown_stands =
        let z = c.size in
        let m = markdown_small in
        let e = its_length in
        let p = part in (
          ap (λ (k : ℕ). k + 1) its_length ∙ one_more markdown out 10 (omega arith) ∙ ap (λ (o : Outcome). length (outcome_text o)) (sym is_wrote),
          ap (λ (l : List ℕ). set (l ++ drop 32000 out) n 10) left_is
              ∙ ap (λ (l : List ℕ). set l n 10) (front_part markdown out 32000 (omega arith))
              ∙ ap (λ (k : ℕ). set (front markdown out) k 10) its_length
              ∙ front_more markdown out 10 (omega arith)
              ∙ ap (λ (o : Outcome). front (outcome_text o) out) (sym is_wrote),
        )
