-- The words that every definition is written in: steps that may fail, literals, and Rust's operations on a `str`. A text is
-- the list of its characters' code points. antt computes both branches of an `if` but what a `let` binds, so a recursive call is bound by a `let`.
-- Assumes nothing.
use Rattle.std.specs.Prelude.{ℕ, zero, suc, Bool, true, false, ◌&&◌, ◌||◌, List, [], ◌∷◌, ◌++◌, reverse, eqb, if◌then◌else◌}
use Prim.Native.Char.{Char, code}
use Prim.Native.String.{String, [] as nil, ◌∷◌ as cons}
use Rattle.std.proofs.Math.Option.{Option, none, some}

-- `?` and `and_then`, for `do`; and a test that must hold
infixl 20 ◌>>=◌
abbrev pub ◌>>=◌ : {A B : Type 0} → Option A → (A → Option B) → Option B
none >>= f = none
some a >>= f = f a

abbrev pub ensure : Bool → Option (Unit {0})
ensure true = some tt
ensure false = none

-- `map_or`, the default first to be read
abbrev pub case : {A B : Type 0} → Option A → B → (A → B) → B
case none b f = b
case (some a) b f = f a

-- a literal's characters, and `"..".repeat(n)`
abbrev pub str : String → List ℕ
str nil = []
str (cons d p) = code d ∷ str p

abbrev pub repeat : ℕ → String → List ℕ
repeat zero p = []
repeat (suc n) p = str p ++ repeat n p

-- `c == 'd'`, and `matches!(c, 'd' | ..)`
abbrev pub is : Char → ℕ → Bool
is d c = eqb c (code d)

abbrev pub matches : String → ℕ → Bool
matches nil c = false
matches (cons d p) c = is d c || matches p c

abbrev pub is_empty : List ℕ → Bool
is_empty [] = true
is_empty (c ∷ s) = false

abbrev pub all : (ℕ → Bool) → List ℕ → Bool
all p [] = true
all p (c ∷ s) = p c && all p s

abbrev pub any : (ℕ → Bool) → List ℕ → Bool
any p [] = false
any p (c ∷ s) = p c || any p s

-- `s == t`, and what a table has for a name
abbrev pub same : List ℕ → List ℕ → Bool
same [] [] = true
same [] (d ∷ t) = false
same (c ∷ s) [] = false
same (c ∷ s) (d ∷ t) = eqb c d && same s t

abbrev pub lookup : {A : Type 0} → List (String × A) → List ℕ → Option A
lookup [] s = none
lookup (r ∷ rows) s = let later = lookup rows s in if same (str r.0) s then some r.1 else later

-- `s.starts_with(p)`, for any text p and for a literal
abbrev pub starts_with : List ℕ → List ℕ → Bool
starts_with [] s = true
starts_with (d ∷ p) [] = false
starts_with (d ∷ p) (c ∷ s) = eqb c d && starts_with p s

abbrev pub starts : String → List ℕ → Bool
starts p s = starts_with (str p) s

-- `s.find(p)`: how many elements stand before the first place of s at which p starts
unfoldable pub index : List ℕ → List ℕ → Option ℕ
index p [] = if is_empty p then some 0 else none
index p (c ∷ s) = let later = index p s >>= (λ n. some (suc n)) in if starts_with p (c ∷ s) then some 0 else later

abbrev pub find : String → List ℕ → Option ℕ
find p s = index (str p) s

-- the longest front part whose elements all pass p, and what is left without it
unfoldable pub take_while : (ℕ → Bool) → List ℕ → List ℕ
take_while p [] = []
take_while p (c ∷ s) = let more = c ∷ take_while p s in if p c then more else []

unfoldable pub drop_while : (ℕ → Bool) → List ℕ → List ℕ
drop_while p [] = []
drop_while p (c ∷ s) = let fewer = drop_while p s in if p c then fewer else c ∷ s

-- `s.trim_end_matches(p)` and `s.trim_matches(p)`
unfoldable pub trim_end_matches : (ℕ → Bool) → List ℕ → List ℕ
trim_end_matches p s = reverse (drop_while p (reverse s))

abbrev pub trim_matches : (ℕ → Bool) → List ℕ → List ℕ
trim_matches p s = trim_end_matches p (drop_while p s)
