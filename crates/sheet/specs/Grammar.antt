-- The grammar of a sheet: document 01, "Sheet", sentence by sentence. Tags and NL? come first, as in the document; then each thing before those that it is a part
-- of, from a character up to a page, where the document goes from a page down. `X s t r`: the characters s begin with an X, whose tree is t, and r follows it.
-- Assumes nothing.
use Rattle.std.specs.Prelude.{ℕ, zero, suc, ◌+◌, ◌≤◌, ◌≡◌, Bool, true, false, not, ◌&&◌, ◌||◌, List, [], ◌∷◌, ◌++◌}
use Rattle.text.specs.Words.{str, is, all}
use Rattle.html.specs.State.{special}
use Rattle.records.specs.Format.{non_empty}
use Rattle.text.specs.Chars.{is_space, is_control, is_letter}
use Rattle.sheet.specs.Tree.{Kind, plain, strong, em, both, code, Run, run, Mark, ul, ol, Items, Item, alone, with, items, Block, heading, para, list}

-- Tags are lower case, without attributes.
abbrev pub opens : Mark → List ℕ
opens ul = str "<ul>"
opens ol = str "<ol>"

abbrev pub closes : Mark → List ℕ
closes ul = str "</ul>"
closes ol = str "</ol>"

abbrev pub opens_h : ℕ → List ℕ
opens_h n = str "<h" ++ ((48 + n) ∷ str ">")

abbrev pub closes_h : ℕ → List ℕ
closes_h n = str "</h" ++ ((48 + n) ∷ str ">")

-- what stands before and after a run's text
abbrev pub before : Kind → List ℕ
before plain = []
before strong = str "<strong>"
before em = str "<em>"
before both = str "<strong><em>"
before code = str "<code>"

abbrev pub after : Kind → List ℕ
after plain = []
after strong = str "</strong>"
after em = str "</em>"
after both = str "</em></strong>"
after code = str "</code>"

-- NL? is one optional byte 10.
pub data NL : List ℕ → List ℕ → Type 0 where
  no_nl : {s : List ℕ} → NL s s
  nl : {s : List ℕ} → NL (10 ∷ s) s

-- Characters that are neither control nor space, and bytes 32. `<` and `&` occur only as `&lt;` and `&amp;`; `&gt;` and `&quot;` are allowed too.
unfoldable pub shown : ℕ → Bool
shown c = not (is_control c) && not (is_space c) && not (is "<" c) && not (is "&" c)

pub data Char : List ℕ → List ℕ → List ℕ → Type 0 where
  &lt : {s : List ℕ} → Char (str "&lt;" ++ s) (str "<") s
  &amp : {s : List ℕ} → Char (str "&amp;" ++ s) (str "&") s
  &gt : {s : List ℕ} → Char (str "&gt;" ++ s) (str ">") s
  &quot : {s : List ℕ} → Char (str "&quot;" ++ s) (str "\"") s
  blank : {s : List ℕ} → Char (str " " ++ s) (str " ") s
  own : {s : List ℕ} (c : ℕ) → shown c ≡ true → Char (c ∷ s) (c ∷ []) s

-- zero or more things of one sort, one after the other
pub data Many {A : Type 0} (R : List ℕ → A → List ℕ → Type 0) : List ℕ → List A → List ℕ → Type 0 where
  stop : {s : List ℕ} → Many R s [] s
  more : {s m r : List ℕ} {x : A} {xs : List A} → R s x m → Many R m xs r → Many R s (x ∷ xs) r

abbrev pub concat : List (List ℕ) → List ℕ
concat [] = []
concat (q ∷ qs) = q ++ concat qs

-- Text, and its characters, references replaced.
pub data Text : List ℕ → List ℕ → List ℕ → Type 0 where
  text : {s r : List ℕ} {qs : List (List ℕ)} → Many Char s qs r → Text s (concat qs) r

-- Never two bytes 32 together.
unfoldable pub singles : List ℕ → Bool
singles [] = true
singles (a ∷ []) = true
singles (a ∷ b ∷ t) = not (is " " a && is " " b) && singles (b ∷ t)

-- tests of a text's first character, of its last, and of all
unfoldable pub first_is : (ℕ → Bool) → List ℕ → Bool
first_is f [] = false
first_is f (a ∷ t) = f a

unfoldable pub last_is : (ℕ → Bool) → List ℕ → Bool
last_is f [] = false
last_is f (a ∷ []) = f a
last_is f (a ∷ b ∷ t) = last_is f (b ∷ t)

abbrev pub none_of : (ℕ → Bool) → List ℕ → Bool
none_of f t = all (λ c. not (f c)) t

abbrev pub no_blank : ℕ → Bool
no_blank c = not (is " " c)

-- Non-empty. Only a plain run may start or end with 32. Code holds none of `\ * [ !` or the backtick.
abbrev pub edges : List ℕ → Bool
edges t = first_is no_blank t && last_is no_blank t

abbrev pub allowed : Kind → List ℕ → Bool
allowed plain t = non_empty t
allowed strong t = edges t
allowed em t = edges t
allowed both t = edges t
allowed code t = edges t && none_of special t

unfoldable pub fits : Kind → List ℕ → Bool
fits k t = singles t && allowed k t

-- Two plain runs never touch, nor do two runs with <em> (<strong><em> among them).
abbrev pub is_plain : Kind → Bool
is_plain plain = true
is_plain strong = false
is_plain em = false
is_plain both = false
is_plain code = false

abbrev pub has_em : Kind → Bool
has_em plain = false
has_em strong = false
has_em em = true
has_em both = true
has_em code = false

abbrev pub touch : Kind → Kind → Bool
touch k l = is_plain k && is_plain l || has_em k && has_em l

unfoldable pub apart : List Run → Bool
apart [] = true
apart (run k t ∷ []) = true
apart (run k t ∷ run l u ∷ rs) = not (touch k l) && apart (run l u ∷ rs)

-- A line's first character is an ASCII letter, its last isn't 32.
unfoldable pub first_letter : List Run → Bool
first_letter [] = false
first_letter (run k t ∷ rs) = first_is is_letter t

unfoldable pub last_no_blank : List Run → Bool
last_no_blank [] = false
last_no_blank (run k t ∷ []) = last_is no_blank t
last_no_blank (run k t ∷ run l u ∷ rs) = last_no_blank (run l u ∷ rs)

unfoldable pub neat : List Run → Bool
neat rs = apart rs && first_letter rs && last_no_blank rs

-- A run: plain text, or text in its tags, closed in reverse.
pub data IsRun : List ℕ → Run → List ℕ → Type 0 where
  is_run : {s t m : List ℕ} (k : Kind) → Text s t (after k ++ m) → fits k t ≡ true → IsRun (before k ++ s) (run k t) m

-- Line: one or more runs. (`first_letter` says that there is one.)
pub data Line : List ℕ → List Run → List ℕ → Type 0 where
  line : {s r : List ℕ} {rs : List Run} → Many IsRun s rs r → neat rs ≡ true → Line s rs r

-- something followed by NL?
pub data ThenNL {A : Type 0} (R : List ℕ → A → List ℕ → Type 0) : List ℕ → A → List ℕ → Type 0 where
  then : {s m r : List ℕ} {x : A} → R s x m → NL m r → ThenNL R s x r

-- An item is <li> line, optionally NL? list NL?, then </li>. L says what a list is there.
pub data IsItem (L : List ℕ → Mark → Items → List ℕ → Type 0) : List ℕ → Item → List ℕ → Type 0 where
  is_alone : {s r : List ℕ} {l : List Run} → Line s l (str "</li>" ++ r) → IsItem L (str "<li>" ++ s) (alone l) r
  is_with : {s s₁ s₂ s₃ r : List ℕ} {l : List Run} {m : Mark} {its : Items} → Line s l s₁ → NL s₁ s₂ → L s₂ m its s₃ → NL s₃ (str "</li>" ++ r) → IsItem L (str "<li>" ++ s) (with l m its) r

-- List: <ul> or <ol>, NL?, one or more items each followed by NL?, then its closing tag. I says what an item is there.
pub data ListOf (I : List ℕ → Item → List ℕ → Type 0) : List ℕ → Mark → Items → List ℕ → Type 0 where
  is_list : {s s₁ r : List ℕ} {it : Item} {its : List Item} (m : Mark) → NL s s₁ → Many (ThenNL I) s₁ (it ∷ its) (closes m ++ r) → ListOf I (opens m ++ s) m (items (it ∷ its)) r

-- a list in which at most d lists are open together, itself among them
abbrev pub IsList : ℕ → List ℕ → Mark → Items → List ℕ → Type 0
IsList zero s m its r = ⊥
IsList (suc d) s m its r = ListOf (IsItem (IsList d)) s m its r

-- Block: <hN> line </hN> (N 1 to 6), <p> line </p>, or a list. At most 8 lists are open together.
pub data IsBlock : List ℕ → Block → List ℕ → Type 0 where
  is_heading : {s r : List ℕ} {l : List Run} (n : ℕ) → 1 ≤ n → n ≤ 6 → Line s l (closes_h n ++ r) → IsBlock (opens_h n ++ s) (heading n l) r
  is_para : {s r : List ℕ} {l : List Run} → Line s l (str "</p>" ++ r) → IsBlock (str "<p>" ++ s) (para l) r
  is_list : {s r : List ℕ} {m : Mark} {its : Items} → IsList 8 s m its r → IsBlock s (list m its) r

-- Page: NL?, then zero or more blocks, each followed by NL?.
pub data IsPage : List ℕ → List Block → Type 0 where
  page : {s s₁ : List ℕ} {bs : List Block} → NL s s₁ → Many (ThenNL IsBlock) s₁ bs [] → IsPage s bs
