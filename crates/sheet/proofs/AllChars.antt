-- A test that holds of the characters of marks, of `\` and of each text's characters holds of all that is written.
-- Assumes nothing.
use Rattle.std.proofs.Common.{◌≡◌, refl, ℕ, zero, suc, ◌+◌, ◌/◌, ◌%◌, ◌≤◌, arith, Bool, true, cond, List, [], ◌∷◌, ◌++◌, length, length-append}
use Rattle.std.proofs.lemmas.Bool.Decides.{nat_tests}
use Rattle.text.specs.Words.{str, repeat, all}
use Rattle.text.specs.Chars.{is_digit}
use Rattle.text.specs.Decimal.{digits, decimal}
use Rattle.html.specs.State.{special}
use Rattle.sheet.specs.Tree.{Kind, plain, strong, em, both, code, Run, run}
use Rattle.sheet.specs.Written.{escaped, sign, written_run, written_runs, head, item, lead, written_row}

pub all_append : (p : ℕ → Bool) (s t : List ℕ) → all p s ≡ true → all p t ≡ true → all p (s ++ t) ≡ true
all_append p [] t e f = f
all_append p (a ∷ s) t e f = let i = all_append p s t in grind (arith, nat_tests)

-- by a stronger test
pub all_weaker : (p q : ℕ → Bool) → ((c : ℕ) → p c ≡ true → q c ≡ true) → (s : List ℕ) → all p s ≡ true → all q s ≡ true
all_weaker p q h [] e = refl
all_weaker p q h (a ∷ s) e =
    let i = all_weaker p q h s in
    let j = h a in grind (arith, nat_tests)

-- ---- decimal numbers
pub digits_all : (k n : ℕ) → all is_digit (digits k n) ≡ true
unfolding digits
digits_all zero n = refl
digits_all (suc k) n =
    let i = digits_all k (n / 10) in
    let a = all_append is_digit (digits k (n / 10)) ((48 + n % 10) ∷ []) i in
    grind (arith, nat_tests)

pub decimal_all : (n : ℕ) → all is_digit (decimal n) ≡ true
decimal_all n = digits_all (suc n) n

pub decimal_some : (n : ℕ) → 1 ≤ length (decimal n)
unfolding digits
decimal_some n = let l = length-append (digits n (n / 10)) ((48 + n % 10) ∷ []) in grind (arith, nat_tests)

-- ---- the characters that a written form has besides its texts'
pub record Marks (p : ℕ → Bool) : Type 0 where
  pub backslash : p 92 ≡ true
  pub star : p 42 ≡ true
  pub tick : p 96 ≡ true
  pub hash : p 35 ≡ true
  pub blank : p 32 ≡ true
  pub dash : p 45 ≡ true
  pub point : p 46 ≡ true
  pub digit : (c : ℕ) → is_digit c ≡ true → p c ≡ true

module _ (p : ℕ → Bool) (m : Marks p) where
  all_escaped : (t : List ℕ) → all p t ≡ true → all p (escaped t) ≡ true
  unfolding escaped
  all_escaped [] e = refl
  all_escaped (x ∷ t) e =
      let i = all_escaped t in
      let b = m.backslash in
      let a = all_append p (cond (special x) (92 ∷ x ∷ []) (x ∷ [])) (escaped t) in
      grind (arith, nat_tests)

  pub all_sign : (k : Kind) → all p (sign k) ≡ true
  all_sign plain = refl
  all_sign strong = rw m.star
  all_sign em = rw m.star
  all_sign both = rw m.star
  all_sign code = rw m.tick

  pub all_run : (k : Kind) (t : List ℕ) → all p t ≡ true → all p (written_run (run k t)) ≡ true
  all_run k t e =
      all_append p (sign k) (escaped t ++ sign k) (all_sign k) (all_append p (escaped t) (sign k) (all_escaped t e) (all_sign k))

  pub all_hashes : (n : ℕ) → all p (repeat n "#") ≡ true
  all_hashes zero = refl
  all_hashes (suc n) = rw m.hash (all_hashes n)

  pub all_blanks : (n : ℕ) → all p (repeat n "  ") ≡ true
  all_blanks zero = refl
  all_blanks (suc n) = rw m.blank (all_blanks n)

  pub all_lead : (n : ℕ) → all p (lead n) ≡ true
  all_lead zero = rw (m.dash, m.blank)
  all_lead (suc n) =
      all_append p (decimal (suc n)) (str ". ") (all_weaker is_digit p m.digit (decimal (suc n)) (decimal_all (suc n)))
      (rw (m.point, m.blank))

  pub all_head : (n : ℕ) (l : List Run) → all p (written_runs l) ≡ true → all p (written_row (head n l)) ≡ true
  all_head n l e = all_append p (repeat n "#") (32 ∷ written_runs l) (all_hashes n) (rw m.blank e)

  pub all_item : (d n : ℕ) (l : List Run) → all p (written_runs l) ≡ true → all p (written_row (item d n l)) ≡ true
  all_item d n l e =
      all_append p (repeat d "  ") (lead n ++ written_runs l) (all_blanks d) (all_append p (lead n) (written_runs l) (all_lead n) e)
