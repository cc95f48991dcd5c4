-- From an answer of the code to the reader's, and back.
-- Assumes nothing.
use Rattle.std.proofs.Common.{◌≡◌, refl, sym, ap, subst, List, ℕ, Option as Maybe, Some, None, MatchOption}
use Rattle.std.proofs.Math.Option.{none, some}
use Rattle.text.specs.Words.{◌>>=◌}
use Rattle.text.specs.Utf8.{chars}
use Rattle.sheet.specs.Reading.{◌<|>◌}
use Rattle.sheet.specs.Reader.{Answer}
use Rattle.sheet.specs.Says.{Says}
use Rattle.sheet.specs.declared.reading.Read.{Read}

-- the reader's answer where the code's is r
pub record Got {A B : Type 0} (R : A → B → Type 0) (o : Answer A) (r : Read B) : Type 0 where
  pub what : A
  pub is : o ≡ some (what, chars r.rest.now)
  pub value : R what r.value

module _ {A B : Type 0} (R : A → B → Type 0) where
  pub says_no : (o : Answer A) → Says R o None → o ≡ none
  says_no none h = refl
  says_no (some x) h = absurd h

  pub got : (o : Answer A) {v : Read B} → Says R o (Some v) → Got R o v
  got none h = absurd h
  got (some x) h = record { what = x.0; is = ap (λ (r : List ℕ). some (x.0, r)) h.rest; value = h.value }

  -- an answer of the code, from the reader's
  pub answers : {o : Answer A} {x : A} (v : Read B) → o ≡ some (x, chars v.rest.now) → R x v.value → Says R o (Some v)
  answers v e k = subst (λ (o : Answer A). Says R o (Some v)) (sym e) (record { value = k; rest = refl })

  pub refuses : {o : Answer A} {r : Maybe (Read B)} → o ≡ none → r ≡ None → Says R o r
  refuses {o} {r} e f = rw (e, f) tt

  -- the first of two that has an answer
  pub or_says : (o p : Answer A) (q t : Maybe (Read B)) → Says R o q → MatchOption q (Says R p t) (λ v. t ≡ Some v) → Says R (o <|> p) t
  or_says none p None t h m = m
  or_says (some x) p (Some v) t h m = rw m h
  or_says none p (Some v) t h m = absurd h
  or_says (some x) p None t h m = absurd h

-- what was read, seen as another thing
pub says_as : {A B C : Type 0} (R : A → B → Type 0) (S : C → B → Type 0) (f : A → C) → ((x : A) (y : B) → R x y → S (f x) y) → (o : Answer A) (r : Maybe (Read B)) → Says R o r
    → Says S (o >>= λ x. some (f x.0, x.1)) r
says_as R S f k none None h = tt
says_as R S f k (some x) (Some r) h = record { value = k x.0 r.value h.value; rest = h.rest }
says_as R S f k none (Some r) h = absurd h
says_as R S f k (some x) None h = absurd h
