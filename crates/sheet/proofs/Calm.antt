-- No comment starts in a written form: a `!` stands only after a `\`, so never after a `<`.
-- Assumes nothing.
use Rattle.std.proofs.Common.{◌≡◌, refl, ap, ℕ, arith, Bool, true, false, cond, not, ◌&&◌, List, [], ◌∷◌, ◌++◌, map, eqb}
use Rattle.std.proofs.lemmas.Bool.Decides.{nat_tests}
use mathlib.Core.Bool.{and-false}
use borrow.Author.Tests.{not-true}
use Rattle.text.specs.Words.{str, repeat, all, starts}
use Rattle.text.specs.Chars.{is_digit}
use Rattle.text.proofs.Tests.{and_true}
use Rattle.html.specs.State.{special}
use Rattle.markdown.specs.Blocks.{comment, cleaned}
use Rattle.sheet.specs.Tree.{Kind, Run, run, Block}
use Rattle.sheet.specs.Written.{escaped, sign, written_run, written_runs, Row, head, text, item, rows, lead, written_row, joined, written_block, written}
use Rattle.sheet.proofs.Facts.{ordinary}
use Rattle.sheet.proofs.AllChars.{Marks, all_sign, all_hashes, all_blanks, all_lead}

-- no ! right after a <; p: a < stands before
unfoldable calm : Bool → List ℕ → Bool
calm p [] = true
calm p (c ∷ s) = not (p && eqb c 33) && calm (eqb c 60) s

-- calm whatever stands before
abbrev Safe : List ℕ → Type 0
Safe s = (p : Bool) → calm p s ≡ true

calm_append : (s t : List ℕ) (p : Bool) → calm p s ≡ true → Safe t → calm p (s ++ t) ≡ true
unfolding calm
calm_append [] t p e g = g p
calm_append (c ∷ s) t p e g = let i = calm_append s t in grind (arith, nat_tests)

safe_append : (s t : List ℕ) → Safe s → Safe t → Safe (s ++ t)
safe_append s t h g p = calm_append s t p (h p) g

safe_nil : Safe []
unfolding calm
safe_nil p = refl

-- a character that is no !
safe_cons : (c : ℕ) (s : List ℕ) → eqb c 33 ≡ false → Safe s → Safe (c ∷ s)
unfolding calm
safe_cons c s e h p = rw (e, and-false) (h (eqb c 60))

-- a text with no !
abbrev mild : ℕ → Bool
mild c = not (eqb c 33)

safe_mild : (s : List ℕ) → all mild s ≡ true → Safe s
safe_mild [] e = safe_nil
safe_mild (c ∷ s) e =
    let h : eqb c 33 ≡ false = grind (arith, nat_tests) in
    let i : all mild s ≡ true = grind (arith, nat_tests) in
    safe_cons c s h (safe_mild s i)

digit_mild : (c : ℕ) → is_digit c ≡ true → mild c ≡ true
digit_mild c e = grind (arith, nat_tests)

mild_marks : Marks mild
mild_marks =
    record { backslash = refl; star = refl; tick = refl; hash = refl; blank = refl; dash = refl; point = refl; digit = digit_mild }

safe_escape : (x : ℕ) → Safe (92 ∷ x ∷ [])
unfolding calm
safe_escape x true = refl
safe_escape x false = refl

safe_escaped : (t : List ℕ) → Safe (escaped t)
unfolding escaped
safe_escaped [] = safe_nil
safe_escaped (x ∷ t) = safe_append (cond (special x) (92 ∷ x ∷ []) (x ∷ [])) (escaped t) (go (special x) refl) (safe_escaped t)
  where
    go : (b : Bool) → special x ≡ b → Safe (cond b (92 ∷ x ∷ []) (x ∷ []))
    go true e = safe_escape x
    go false e = safe_cons x [] (ordinary x e).no_bang safe_nil

safe_sign : (k : Kind) → Safe (sign k)
safe_sign k = safe_mild (sign k) (all_sign mild mild_marks k)

safe_runs : (rs : List Run) → Safe (written_runs rs)
unfolding written_runs
safe_runs [] = safe_nil
safe_runs (run k t ∷ rs) =
    safe_append (written_run (run k t)) (written_runs rs)
    (safe_append (sign k) (escaped t ++ sign k) (safe_sign k) (safe_append (escaped t) (sign k) (safe_escaped t) (safe_sign k)))
    (safe_runs rs)

safe_row : (r : Row) → Safe (written_row r)
safe_row (head n l) = safe_append (repeat n "#") (32 ∷ written_runs l) (safe_mild (repeat n "#") (all_hashes mild mild_marks n)) (safe_cons 32 (written_runs l) refl (safe_runs l))
safe_row (text l) = safe_runs l
safe_row (item d n l) =
    safe_append (repeat d "  ") (lead n ++ written_runs l) (safe_mild (repeat d "  ") (all_blanks mild mild_marks d))
    (safe_append (lead n) (written_runs l) (safe_mild (lead n) (all_lead mild mild_marks n)) (safe_runs l))

safe_rows : (rs : List Row) → Safe (joined (str "\n") (map written_row rs))
unfolding joined
safe_rows [] = safe_nil
safe_rows (r ∷ []) = safe_row r
safe_rows (r ∷ q ∷ rs) =
    safe_append (written_row r) (10 ∷ joined (str "\n") (map written_row (q ∷ rs))) (safe_row r)
    (safe_cons 10 (joined (str "\n") (map written_row (q ∷ rs))) refl (safe_rows (q ∷ rs)))

safe_written : (bs : List Block) → Safe (written bs)
unfolding written joined
safe_written [] = safe_nil
safe_written (b ∷ []) = safe_rows (rows b)
safe_written (b ∷ c ∷ bs) =
    safe_append (written_block b) (10 ∷ 10 ∷ written (c ∷ bs)) (safe_rows (rows b))
    (safe_cons 10 (10 ∷ written (c ∷ bs)) refl (safe_cons 10 (written (c ∷ bs)) refl (safe_written (c ∷ bs))))

-- ---- so no comment starts
calm_next : (p : Bool) (d : ℕ) (s : List ℕ) → not (p && eqb d 33) ≡ true → (p && starts "!--" (d ∷ s)) ≡ false
calm_next true d s e = rw (not-true (eqb d 33) e)
calm_next false d s e = refl

no_comment : (c : ℕ) (s : List ℕ) → calm (eqb c 60) s ≡ true → starts "<!--" (c ∷ s) ≡ false
unfolding calm
no_comment c [] e = and-false (eqb c 60)
no_comment c (d ∷ s) e = calm_next (eqb c 60) d s (and_true (not (eqb c 60 && eqb d 33)) (calm (eqb d 60) s) e).0

cleaned_calm : (s : List ℕ) (p : Bool) → calm p s ≡ true → cleaned 0 s ≡ s
unfolding cleaned comment calm
cleaned_calm [] p e = refl
cleaned_calm (c ∷ s) p e =
    let f = and_true (not (p && eqb c 33)) (calm (eqb c 60) s) e in
    rw (no_comment c s f.1) (ap (λ (r : List ℕ). c ∷ r) (cleaned_calm s (eqb c 60) f.1))

pub calm_written : (bs : List Block) → cleaned 0 (written bs) ≡ written bs
calm_written bs = cleaned_calm (written bs) false (safe_written bs false)
