-- Taking a tag off the bytes is taking it off the characters, since a tag is ASCII.
-- Assumes nothing.
use Rattle.std.proofs.Common.{◌≡◌, refl, sym, ◌∙◌, subst, ℕ, ◌≤◌, ◌<◌, arith, Bool, true, false, ◌&&◌, ⊎_elim, List, [], ◌∷◌, eqb-true, eq-eqb, ne_eqb, ltb-true}
use Rattle.std.proofs.Common.{ltb-false, eqb, ltb, length, drop}
use Rattle.std.proofs.Math.Option.{none, some}
use Rattle.text.specs.Words.{all, starts_with}
use Rattle.text.specs.Chars.{is_ascii}
use Rattle.text.specs.Utf8.{chars}
use Rattle.text.proofs.Tests.{decide, and_true}
use Rattle.text.proofs.Laws.{chars_nil}
use Rattle.text.proofs.AsciiLaws.{chars_ascii, chars_high}
use Rattle.sheet.specs.Reading.{strip}

-- what is left after the tag, or that it does not stand there
abbrev After : List ℕ → List ℕ → Bool → Type 0
After t s true = (strip t (chars s) ≡ some (chars (drop (length t) s))) × (length t ≤ length s)
After t s false = strip t (chars s) ≡ none

strip_starts : (t s : List ℕ) → all is_ascii t ≡ true → After t s (starts_with t s)
strip_starts [] s h = (refl, omega arith)
strip_starts (a ∷ t) [] h = rw chars_nil
strip_starts (a ∷ t) (b ∷ s) h =
    let g = and_true (ltb a 0x80) (all is_ascii t) h in
    go (ltb-true a 0x80 g.0) (eqb b a) refl (starts_with t s) (strip_starts t s g.1)
  where
    same : a < 0x80 → b ≡ a → strip (a ∷ t) (chars (b ∷ s)) ≡ strip t (chars s)
    same l e = rw (e, chars_ascii a s l, eq-eqb a a refl)

    other : a < 0x80 → (a ≡ b → ⊥) → strip (a ∷ t) (chars (b ∷ s)) ≡ none
    other l n =
        ⊎_elim (λ h. rw (chars_ascii b s (ltb-true b 0x80 h), ne_eqb a b n))
        (λ h. let y = chars_high b s (ltb-false b 0x80 h) in let m = y.3 in rw (y.2, ne_eqb a y.0 (λ q. omega arith)))
        (decide (ltb b 0x80))

    go : a < 0x80 → (x : Bool) → eqb b a ≡ x → (y : Bool) → After t s y → After (a ∷ t) (b ∷ s) (x && y)
    go l true e true q = (same l (eqb-true b a e) ∙ q.0, omega (arith, q.1))
    go l true e false q = same l (eqb-true b a e) ∙ q
    go l false e y q = other l (λ z. let w : ◌≡◌ {A = Bool} true false = sym (eq-eqb b a (sym z)) ∙ e in let v : ◌≡◌ {A = ℕ} 0 1 = cc in omega arith)

-- what `text::starts_with` says of a tag that is ASCII
module _ (t s : List ℕ) (h : all is_ascii t ≡ true) where
  pub strips : true ≡ starts_with t s → (strip t (chars s) ≡ some (chars (drop (length t) s))) × (length t ≤ length s)
  strips e = subst (After t s) (sym e) (strip_starts t s h)

  pub strips_not : false ≡ starts_with t s → strip t (chars s) ≡ none
  strips_not e = subst (After t s) (sym e) (strip_starts t s h)
