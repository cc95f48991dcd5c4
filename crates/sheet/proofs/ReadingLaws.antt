-- The laws of what the reader is made of: a step that answers, the first answer that is there, a prefix taken off, and a reader used again and again.
-- Assumes nothing.
use Rattle.std.proofs.Common.{◌≡◌, refl, ℕ, zero, suc, arith, Bool, true, false, ◌⊎◌, inl, inr, List, [], ◌∷◌, ◌++◌, eqb-true, eq-eqb, eqb}
use Rattle.std.proofs.Math.Option.{Option, none, some}
use Rattle.sheet.specs.Reading.{◌<|>◌, strip, many}
use Rattle.text.specs.Words.{◌>>=◌, ensure}
use Rattle.sheet.specs.Reader.{Answer}

pub none_some : {A B : Type 0} {a : A} → ◌≡◌ {A = Option A} none (some a) → B
none_some e = let z : ◌≡◌ {A = ℕ} 0 1 = cc in absurd (omega arith)

pub ensure_inv : {A : Type 0} (b : Bool) (o : Option A) {y : A} → (ensure b >>= λ _. o) ≡ some y → (b ≡ true) × (o ≡ some y)
ensure_inv true o e = (refl, e)
ensure_inv false o e = none_some e

pub alt_inv : {A : Type 0} (o p : Option A) {y : A} → (o <|> p) ≡ some y → (o ≡ some y) ⊎ (p ≡ some y)
alt_inv none p e = inr e
alt_inv (some x) p e = inl e

pub alt_left : {A : Type 0} (o p : Option A) {x : A} → o ≡ some x → (o <|> p) ≡ some x
alt_left o p e = rw e

pub alt_right : {A : Type 0} (o p : Option A) → o ≡ none → (o <|> p) ≡ p
alt_right o p e = rw e

pub alt_assoc : {A : Type 0} (o p q : Option A) → ((o <|> p) <|> q) ≡ (o <|> (p <|> q))
alt_assoc none p q = refl
alt_assoc (some x) p q = refl

pub strip_inv : (p s : List ℕ) {r : List ℕ} → strip p s ≡ some r → s ≡ p ++ r
strip_inv [] s e = cc
strip_inv (a ∷ p) [] e = none_some e
strip_inv (a ∷ p) (b ∷ s) e = let g = ensure_inv (eqb a b) (strip p s) e in cc (eqb-true a b g.0, strip_inv p s g.1)

pub strip_append : (p r : List ℕ) → strip p (p ++ r) ≡ some r
strip_append [] r = refl
strip_append (a ∷ p) r = rw (eq-eqb a a refl) (strip_append p r)

-- one thing more in front of what is read
abbrev pub front : {A : Type 0} → A → List A × List ℕ → List A × List ℕ
front x y = (x ∷ y.0, y.1)

module _ {A : Type 0} (p : List ℕ → Answer A) (n : ℕ) where
  pub many_stop : (s : List ℕ) → p s ≡ none → many p n s ≡ ([], s)
  unfolding many
  many_stop s e = go n
    where
      go : (n : ℕ) → many p n s ≡ ([], s)
      go zero = refl
      go (suc n) = rw e

  pub many_more : (s : List ℕ) {x : A} {m : List ℕ} → p s ≡ some (x, m) → many p (suc n) s ≡ front x (many p n m)
  unfolding many
  many_more s e = rw e
