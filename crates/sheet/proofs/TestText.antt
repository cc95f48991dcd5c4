-- The characters of a text, one by one, and what the code keeps of them.
-- Assumes nothing.
use Rattle.std.proofs.Common.{◌≡◌, refl, sym, ◌∙◌, ap, ℕ, ◌<◌, arith, true, false, List, [], ◌∷◌, ◌++◌, append-nil, append_assoc}
use Rattle.std.proofs.Common.{length, drop}
use Rattle.std.proofs.Math.Option.{none, some}
use Rattle.text.specs.Words.{str}
use Rattle.text.specs.Utf8.{utf8, code_at, chars}
use Rattle.text.proofs.Laws.{turn_is, advance_end}
use Rattle.sheet.specs.Reading.{◌<|>◌}
use Rattle.sheet.specs.Keeps.{spelt}
use Rattle.sheet.proofs.ReadingLaws.{alt_assoc}
use Rattle.sheet.specs.Grammar.{shown}
use Rattle.sheet.specs.Reader.{own, referred, char, text}
use Rattle.sheet.proofs.Shrinks.{char_shrinks}
use Rattle.sheet.proofs.TestMany.{every_more, every_stop}

-- ---- the first character of the bytes s
module _ (s : List ℕ) where
  pub char_end : length s ≡ 0 → char (chars s) ≡ none
  unfolding char referred own
  char_end h = rw (advance_end s 0 (omega arith))

  module _ (l : 0 < length s) where
    first_is : chars s ≡ code_at s 0 ∷ chars (drop (length (utf8 (code_at s 0))) s)
    first_is = (turn_is s 0 l).rest ∙ ap (λ (n : ℕ). code_at s 0 ∷ chars (drop n s)) (omega arith)

    pub char_own : shown (code_at s 0) ≡ true → char (chars s) ≡ some (code_at s 0 ∷ [], chars (drop (length (utf8 (code_at s 0))) s))
    unfolding char referred own
    char_own h = rw (first_is, h)

    pub char_other : shown (code_at s 0) ≡ false → char (chars s) ≡ referred (chars s)
    unfolding char own
    char_other h = let e : own (chars s) ≡ none = rw (first_is, h) in rw e

-- ---- a reference
pub referred_is : (s : List ℕ)
    → ((((spelt (str " ") 32 s <|> spelt (str "&lt;") 60 s) <|> spelt (str "&amp;") 38 s) <|> spelt (str "&gt;") 62 s) <|> spelt (str "&quot;") 34 s) ≡ referred s
unfolding referred
referred_is s =
    let blank = spelt (str " ") 32 s in
    let lt = spelt (str "&lt;") 60 s in
    let amp = spelt (str "&amp;") 38 s in
    let gt = spelt (str "&gt;") 62 s in
    let quot = spelt (str "&quot;") 34 s in
    alt_assoc ((blank <|> lt) <|> amp) gt quot ∙ alt_assoc (blank <|> lt) amp (gt <|> quot) ∙ alt_assoc blank lt (amp <|> gt <|> quot)

-- ---- the text

pub text_more : (s : List ℕ) {q m : List ℕ} → char s ≡ some (q, m) → text s ≡ (q ++ (text m).0, (text m).1)
unfolding text
text_more s e = rw (every_more char char_shrinks s e)

pub text_stop : (s : List ℕ) → char s ≡ none → text s ≡ ([], s)
unfolding text
text_stop s e = rw (every_stop char s e)

-- the text t was read of s up to m
pub record TextTo (s t m : List ℕ) : Type 0 where
  pub so_far : text s ≡ (t ++ (text m).0, (text m).1)

pub text_none : (s : List ℕ) → TextTo s [] s
text_none s = record { so_far = refl }

pub text_next : {s t m r : List ℕ} (c : ℕ) → TextTo s t m → char m ≡ some (c ∷ [], r) → TextTo s (t ++ (c ∷ [])) r
text_next {s} {t} {m} {r} c h e =
    record {
      so_far =
          h.so_far
          ∙ ap (λ (y : List ℕ × List ℕ). (t ++ y.0, y.1)) (text_more m e)
          ∙ ap (λ (l : List ℕ). (l, (text r).1)) (sym (append_assoc t (c ∷ []) (text r).0));
    }

pub text_ends : {s t m : List ℕ} → TextTo s t m → char m ≡ none → text s ≡ (t, m)
text_ends {s} {t} {m} h e =
    h.so_far
    ∙ ap (λ (y : List ℕ × List ℕ). (t ++ y.0, y.1)) (text_stop m e)
    ∙ ap (λ (l : List ℕ). (l, m)) (append-nil t)
