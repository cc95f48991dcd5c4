-- A reader used again and again: how often it may be tried does not matter, if each time it leaves less.
-- Assumes nothing.
use Rattle.std.proofs.Common.{◌≡◌, refl, sym, ◌∙◌, ap, ℕ, zero, suc, ◌≤◌, arith, le_refl, List, [], ◌∷◌, ◌++◌, append-nil, length}
use Rattle.std.proofs.Math.Option.{none, some}
use lib.Seq.{append_snoc}
use Rattle.sheet.specs.Reading.{many}
use Rattle.sheet.specs.Reader.{Answer}
use Rattle.sheet.proofs.ReadingLaws.{front, many_stop, many_more}
use Rattle.sheet.proofs.Shrinks.{Shrinks}

module _ {A : Type 0} where
  -- p as often as it goes
  abbrev pub every : (List ℕ → Answer A) → List ℕ → List A × List ℕ
  every p s = many p (length s) s

  many_enough : (p : List ℕ → Answer A) → Shrinks p → (n k : ℕ) (s : List ℕ) → length s ≤ n → length s ≤ k → many p n s ≡ many p k s
  many_enough p h zero zero s a b = refl
  many_enough p h zero (suc k) s a b = go (p s) refl
    where
      go : (o : Answer A) → p s ≡ o → many p 0 s ≡ many p (suc k) s
      go none e = many_stop p 0 s e ∙ sym (many_stop p (suc k) s e)
      go (some y) e = let l = h s y e in absurd (omega arith)
  many_enough p h (suc n) zero s a b = go (p s) refl
    where
      go : (o : Answer A) → p s ≡ o → many p (suc n) s ≡ many p 0 s
      go none e = many_stop p (suc n) s e ∙ sym (many_stop p 0 s e)
      go (some y) e = let l = h s y e in absurd (omega arith)
  many_enough p h (suc n) (suc k) s a b = go (λ (m : List ℕ) u v. many_enough p h n k m u v) (p s) refl
    where
      go : ((m : List ℕ) → length m ≤ n → length m ≤ k → many p n m ≡ many p k m) → (o : Answer A) → p s ≡ o → many p (suc n) s ≡ many p (suc k) s
      go ih none e = many_stop p (suc n) s e ∙ sym (many_stop p (suc k) s e)
      go ih (some y) e =
          let l = h s y e in
          many_more p n s e ∙ ap (front y.0) (ih y.1 (omega arith) (omega arith)) ∙ sym (many_more p k s e)

  pub many_every : (p : List ℕ → Answer A) → Shrinks p → (n : ℕ) (s : List ℕ) → length s ≤ n → many p n s ≡ every p s
  many_every p h n s l = many_enough p h n (length s) s l (le_refl (length s))

  pub every_stop : (p : List ℕ → Answer A) (s : List ℕ) → p s ≡ none → every p s ≡ ([], s)
  every_stop p s e = many_stop p (length s) s e

  pub every_more : (p : List ℕ → Answer A) → Shrinks p → (s : List ℕ) {x : A} {m : List ℕ} → p s ≡ some (x, m) → every p s ≡ front x (every p m)
  every_more p h s {x} {m} e =
      let l = h s (x, m) e in
      many_enough p h (length s) (suc (length s)) s (le_refl (length s)) (omega arith) ∙ many_more p (length s) s e
      ∙ ap (front x) (many_every p h (length s) m (omega arith))

  -- xs were read of s up to m
  pub record ReadTo (p : List ℕ → Answer A) (s : List ℕ) (xs : List A) (m : List ℕ) : Type 0 where
    pub so_far : every p s ≡ (xs ++ (every p m).0, (every p m).1)

  pub to_none : (p : List ℕ → Answer A) (s : List ℕ) → ReadTo p s [] s
  to_none p s = record { so_far = refl }

  pub to_more : (p : List ℕ → Answer A) → Shrinks p → {s m r : List ℕ} {xs : List A} {x : A} → ReadTo p s xs m → p m ≡ some (x, r) → ReadTo p s (xs ++ (x ∷ [])) r
  to_more p h {s} {m} {r} {xs} {x} t e =
      record {
        so_far =
            t.so_far
            ∙ ap (λ (y : List A × List ℕ). (xs ++ y.0, y.1)) (every_more p h m e)
            ∙ ap (λ (l : List A). (l, (every p r).1)) (sym (append_snoc xs x (every p r).0));
      }

  pub to_stop : (p : List ℕ → Answer A) {s m : List ℕ} {xs : List A} → ReadTo p s xs m → p m ≡ none → every p s ≡ (xs, m)
  to_stop p {s} {m} {xs} t e =
      t.so_far
      ∙ ap (λ (y : List A × List ℕ). (xs ++ y.0, y.1)) (every_stop p m e)
      ∙ ap (λ (l : List A). (l, m)) (append-nil xs)
