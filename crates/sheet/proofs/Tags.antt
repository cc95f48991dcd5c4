-- What the converter's loop does at each tag of a sheet, in a state in which nothing is skipped.
-- Assumes nothing.
use Rattle.std.proofs.Common.{◌≡◌, refl, ◌∙◌, ap, ℕ, zero, suc, ◌+◌, ◌-◌, ◌≤◌, ◌<◌, min, arith, Bool, true, false, List, ◌∷◌, ◌++◌, length}
use Rattle.std.proofs.Math.Option.{none}
use mathlib.Core.List.{tail}
use borrow.Author.Tests.{lt-leb}
use Rattle.text.specs.Words.{str, repeat, index, take_while, drop_while, trim_end_matches}
use Rattle.text.specs.Chars.{is_space}
use Rattle.reference.specs.Unescape.{unescape}
use Rattle.html.specs.State.{State, push_str, block, newline, marks, list_changed, item, text, put_all, tags, tag_of, tag}
use Rattle.html.specs.Page.{Turn, read, listed, shown, element, inside, words, a_tag, markup, turn, on_turn, loop}
use Rattle.sheet.specs.Grammar.{opens_h, closes_h}
use Rattle.sheet.proofs.Turns.{Low, loop_turn, loop_past}

-- the state in text: no skipping, no pre
abbrev pub st : List ℕ → List ℕ → Bool → State
st l o b = record { out = o; lists = l; pre = false; skip = none; space = b }

-- a turn that reads `<` and t
step : (t s : List ℕ) (c d : State) → Low c.out → turn (60 ∷ (t ++ s)) c ≡ read (suc (length t)) d → loop 0 (60 ∷ (t ++ s)) c ≡ loop 0 s d
step t s c d h e =
    loop_turn 60 (t ++ s) c h
    ∙ ap (λ (t' : Turn). on_turn t' (λ n d. loop (n - 1) (t ++ s) d)) e
    ∙ ap (λ (n : ℕ). loop n (t ++ s) d) (one_less (length t))
    ∙ loop_past 0 t s d
  where
    one_less : (n : ℕ) → suc n - 1 ≡ n + 0
    one_less n = omega arith

module _ (l o : List ℕ) (b : Bool) (s : List ℕ) (h : Low o) where
  pub loop_strong : loop 0 (str "<strong>" ++ s) (st l o b) ≡ loop 0 s (marks (str "**") false (st l o b))
  unfolding turn index words text unescape put_all markup a_tag inside take_while drop_while trim_end_matches is_space element shown listed tag_of tags tag
  loop_strong = step (str "strong>") s (st l o b) (marks (str "**") false (st l o b)) h refl

  pub loop_strong/ : loop 0 (str "</strong>" ++ s) (st l o b) ≡ loop 0 s (marks (str "**") true (st l o b))
  unfolding turn index words text unescape put_all markup a_tag inside take_while drop_while trim_end_matches is_space element shown listed tag_of tags tag
  loop_strong/ = step (str "/strong>") s (st l o b) (marks (str "**") true (st l o b)) h refl

  pub loop_em : loop 0 (str "<em>" ++ s) (st l o b) ≡ loop 0 s (marks (str "*") false (st l o b))
  unfolding turn index words text unescape put_all markup a_tag inside take_while drop_while trim_end_matches is_space element shown listed tag_of tags tag
  loop_em = step (str "em>") s (st l o b) (marks (str "*") false (st l o b)) h refl

  pub loop_em/ : loop 0 (str "</em>" ++ s) (st l o b) ≡ loop 0 s (marks (str "*") true (st l o b))
  unfolding turn index words text unescape put_all markup a_tag inside take_while drop_while trim_end_matches is_space element shown listed tag_of tags tag
  loop_em/ = step (str "/em>") s (st l o b) (marks (str "*") true (st l o b)) h refl

  pub loop_code : loop 0 (str "<code>" ++ s) (st l o b) ≡ loop 0 s (marks (str "`") false (st l o b))
  unfolding turn index words text unescape put_all markup a_tag inside take_while drop_while trim_end_matches is_space element shown listed tag_of tags tag
  loop_code = step (str "code>") s (st l o b) (marks (str "`") false (st l o b)) h refl

  pub loop_code/ : loop 0 (str "</code>" ++ s) (st l o b) ≡ loop 0 s (marks (str "`") true (st l o b))
  unfolding turn index words text unescape put_all markup a_tag inside take_while drop_while trim_end_matches is_space element shown listed tag_of tags tag
  loop_code/ = step (str "/code>") s (st l o b) (marks (str "`") true (st l o b)) h refl

  pub loop_p : loop 0 (str "<p>" ++ s) (st l o b) ≡ loop 0 s (block (st l o b))
  unfolding turn index words text unescape put_all markup a_tag inside take_while drop_while trim_end_matches is_space element shown listed tag_of tags tag
  loop_p = step (str "p>") s (st l o b) (block (st l o b)) h refl

  pub loop_p/ : loop 0 (str "</p>" ++ s) (st l o b) ≡ loop 0 s (block (st l o b))
  unfolding turn index words text unescape put_all markup a_tag inside take_while drop_while trim_end_matches is_space element shown listed tag_of tags tag
  loop_p/ = step (str "/p>") s (st l o b) (block (st l o b)) h refl

  pub loop_ul : length l < 64 → loop 0 (str "<ul>" ++ s) (st l o b) ≡ loop 0 s (list_changed (0 ∷ l) (st l o b))
  unfolding turn index words text unescape put_all markup a_tag inside take_while drop_while trim_end_matches is_space element shown listed tag_of tags tag
  loop_ul k = step (str "ul>") s (st l o b) (list_changed (0 ∷ l) (st l o b)) h (rw (lt-leb 64 (length l) k))

  pub loop_ul/ : loop 0 (str "</ul>" ++ s) (st l o b) ≡ loop 0 s (list_changed (tail l) (st l o b))
  unfolding turn index words text unescape put_all markup a_tag inside take_while drop_while trim_end_matches is_space element shown listed tag_of tags tag
  loop_ul/ = step (str "/ul>") s (st l o b) (list_changed (tail l) (st l o b)) h refl

  pub loop_ol : length l < 64 → loop 0 (str "<ol>" ++ s) (st l o b) ≡ loop 0 s (list_changed (1 ∷ l) (st l o b))
  unfolding turn index words text unescape put_all markup a_tag inside take_while drop_while trim_end_matches is_space element shown listed tag_of tags tag
  loop_ol k = step (str "ol>") s (st l o b) (list_changed (1 ∷ l) (st l o b)) h (rw (lt-leb 64 (length l) k))

  pub loop_ol/ : loop 0 (str "</ol>" ++ s) (st l o b) ≡ loop 0 s (list_changed (tail l) (st l o b))
  unfolding turn index words text unescape put_all markup a_tag inside take_while drop_while trim_end_matches is_space element shown listed tag_of tags tag
  loop_ol/ = step (str "/ol>") s (st l o b) (list_changed (tail l) (st l o b)) h refl

  pub loop_li : loop 0 (str "<li>" ++ s) (st l o b) ≡ loop 0 s (item l (newline (st l o b)))
  unfolding turn index words text unescape put_all markup a_tag inside take_while drop_while trim_end_matches is_space element shown listed tag_of tags tag
  loop_li = step (str "li>") s (st l o b) (item l (newline (st l o b))) h refl

  pub loop_li/ : loop 0 (str "</li>" ++ s) (st l o b) ≡ loop 0 s (st l o b)
  unfolding turn index words text unescape put_all markup a_tag inside take_while drop_while trim_end_matches is_space element shown listed tag_of tags tag
  loop_li/ = step (str "/li>") s (st l o b) (st l o b) h refl

  -- <hN> and </hN>
  pub loop_h : (n : ℕ) → 1 ≤ n → n ≤ 6 → loop 0 (opens_h n ++ s) (st l o b) ≡ loop 0 s (push_str (repeat (min n 3) "#" ++ str " ") (block (st l o b)))
  unfolding turn index words text unescape put_all markup a_tag inside take_while drop_while trim_end_matches is_space element shown listed tag_of tags tag
  loop_h zero x y = absurd (omega arith)
  loop_h (suc zero) x y = step (str "h1>") s (st l o b) (push_str (repeat 1 "#" ++ str " ") (block (st l o b))) h refl
  loop_h (suc (suc zero)) x y = step (str "h2>") s (st l o b) (push_str (repeat 2 "#" ++ str " ") (block (st l o b))) h refl
  loop_h (suc (suc (suc zero))) x y = step (str "h3>") s (st l o b) (push_str (repeat 3 "#" ++ str " ") (block (st l o b))) h refl
  loop_h (suc (suc (suc (suc zero)))) x y = step (str "h4>") s (st l o b) (push_str (repeat 3 "#" ++ str " ") (block (st l o b))) h refl
  loop_h (suc (suc (suc (suc (suc zero))))) x y = step (str "h5>") s (st l o b) (push_str (repeat 3 "#" ++ str " ") (block (st l o b))) h refl
  loop_h (suc (suc (suc (suc (suc (suc zero)))))) x y = step (str "h6>") s (st l o b) (push_str (repeat 3 "#" ++ str " ") (block (st l o b))) h refl
  loop_h (suc (suc (suc (suc (suc (suc (suc n))))))) x y = absurd (omega arith)

  pub loop_h/ : (n : ℕ) → 1 ≤ n → n ≤ 6 → loop 0 (closes_h n ++ s) (st l o b) ≡ loop 0 s (block (st l o b))
  unfolding turn index words text unescape put_all markup a_tag inside take_while drop_while trim_end_matches is_space element shown listed tag_of tags tag
  loop_h/ zero x y = absurd (omega arith)
  loop_h/ (suc zero) x y = step (str "/h1>") s (st l o b) (block (st l o b)) h refl
  loop_h/ (suc (suc zero)) x y = step (str "/h2>") s (st l o b) (block (st l o b)) h refl
  loop_h/ (suc (suc (suc zero))) x y = step (str "/h3>") s (st l o b) (block (st l o b)) h refl
  loop_h/ (suc (suc (suc (suc zero)))) x y = step (str "/h4>") s (st l o b) (block (st l o b)) h refl
  loop_h/ (suc (suc (suc (suc (suc zero))))) x y = step (str "/h5>") s (st l o b) (block (st l o b)) h refl
  loop_h/ (suc (suc (suc (suc (suc (suc zero)))))) x y = step (str "/h6>") s (st l o b) (block (st l o b)) h refl
  loop_h/ (suc (suc (suc (suc (suc (suc (suc n))))))) x y = absurd (omega arith)
