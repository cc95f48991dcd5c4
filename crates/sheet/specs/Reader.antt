-- The reader: it computes the tree of a sheet. Each function reads one thing of `Grammar` at the front of the characters, and answers it with the
-- characters after it; `page_sound` and `page_complete` (proofs/) show that it answers just what the grammar says.
-- Assumes nothing.
use Rattle.std.specs.Prelude.{ℕ, zero, suc, ◌-◌, List, [], ◌∷◌, length}
use Rattle.std.proofs.Math.Option.{Option, none, some}
use Prim.Native.String.{String}
use Rattle.text.specs.Words.{str, ◌>>=◌, ensure, case}
use Rattle.text.specs.Chars.{within}
use Rattle.sheet.specs.Reading.{◌<|>◌, strip, many}
use Rattle.sheet.specs.Tree.{Kind, plain, strong, em, both, code, Run, run, Mark, ul, ol, Items, Item, alone, with, items, Block, heading, para, list}
use Rattle.sheet.specs.Grammar.{opens, closes, closes_h, before, after, shown, concat, fits, neat}

-- an answer, and the characters after it
abbrev pub Answer : Type 0 → Type 0
Answer A = Option (A × List ℕ)

abbrev pub nl? : List ℕ → List ℕ
nl? s = case (strip (str "\n") s) s (λ r. r)

unfoldable pub own : List ℕ → Answer (List ℕ)
own [] = none
own (c ∷ s) = ensure (shown c) >>= λ _. some (c ∷ [], s)

abbrev pub means : String → String → List ℕ → Answer (List ℕ)
means q p s = strip (str p) s >>= λ r. some (str q, r)

-- byte 32, or a reference
unfoldable pub referred : List ℕ → Answer (List ℕ)
referred s =
    means " " " " s
    <|> means "<" "&lt;" s
    <|> means "&" "&amp;" s
    <|> means ">" "&gt;" s
    <|> means "\"" "&quot;" s

unfoldable pub char : List ℕ → Answer (List ℕ)
char s = own s <|> referred s

unfoldable pub text : List ℕ → List ℕ × List ℕ
text s = let x = many char (length s) s in (concat x.0, x.1)

abbrev pub opening : Kind → List ℕ → Answer Kind
opening k s = strip (before k) s >>= λ r. some (k, r)

-- the kind of the run that s begins with; a plain run where there is no tag of another
unfoldable pub kind : List ℕ → Answer Kind
kind s = opening both s <|> opening strong s <|> opening em s <|> opening code s <|> opening plain s

unfoldable pub one_run : List ℕ → Answer Run
one_run s =
    kind s >>= λ k.
    let t = text k.1 in
    ensure (fits k.0 t.0) >>= λ _.
    strip (after k.0) t.1 >>= λ r.
    some (run k.0 t.0, r)

unfoldable pub line : List ℕ → Answer (List Run)
line s = let x = many one_run (length s) s in ensure (neat x.0) >>= λ _. some x

abbrev pub then_nl : {A : Type 0} → (List ℕ → Answer A) → List ℕ → Answer A
then_nl p s = p s >>= λ x. some (x.0, nl? x.1)

-- the list in an item, and the item's end
abbrev pub with_list : (List ℕ → Answer (Mark × Items)) → List Run → List ℕ → Answer Item
with_list read l s =
    read (nl? s) >>= λ x.
    strip (str "</li>") (nl? x.1) >>= λ r.
    some (with l x.0.0 x.0.1, r)

unfoldable pub item : (List ℕ → Answer (Mark × Items)) → List ℕ → Answer Item
item read s =
    strip (str "<li>") s >>= λ s₁.
    line s₁ >>= λ x.
    case (strip (str "</li>") x.1) (with_list read x.0 x.1) (λ r. some (alone x.0, r))

abbrev pub some_items : List Item → Option Items
some_items [] = none
some_items (it ∷ its) = some (items (it ∷ its))

abbrev pub marked : Mark → List ℕ → Answer Mark
marked m s = strip (opens m) s >>= λ r. some (m, r)

unfoldable pub list_of : (List ℕ → Answer Item) → List ℕ → Answer (Mark × Items)
list_of read s =
    (marked ul s <|> marked ol s) >>= λ m.
    let x = many (then_nl read) (length s) (nl? m.1) in
    some_items x.0 >>= λ its.
    strip (closes m.0) x.1 >>= λ r.
    some ((m.0, its), r)

-- a list in which at most d lists are open together
unfoldable pub read_list : ℕ → List ℕ → Answer (Mark × Items)
read_list zero s = none
read_list (suc d) s = list_of (item (read_list d)) s

-- N, 1 to 6
abbrev pub digit : List ℕ → Answer ℕ
digit [] = none
digit (b ∷ s) = ensure (within 49 54 b) >>= λ _. some (b - 48, s)

-- a line and the tag after it
unfoldable pub closed_by : List ℕ → List ℕ → Answer (List Run)
closed_by q s =
    line s >>= λ x.
    strip q x.1 >>= λ r.
    some (x.0, r)

-- a heading after its `<h`
unfoldable pub headed : List ℕ → Answer Block
headed s =
    digit s >>= λ n.
    strip (str ">") n.1 >>= λ s₁.
    closed_by (closes_h n.0) s₁ >>= λ x.
    some (heading n.0 x.0, x.1)

unfoldable pub read_heading : List ℕ → Answer Block
read_heading s = strip (str "<h") s >>= headed

unfoldable pub read_para : List ℕ → Answer Block
read_para s =
    strip (str "<p>") s >>= λ s₁.
    closed_by (str "</p>") s₁ >>= λ x.
    some (para x.0, x.1)

unfoldable pub block : List ℕ → Answer Block
block s =
    read_heading s
    <|> read_para s
    <|> (read_list 8 s >>= λ x. some (list x.0.0 x.0.1, x.1))

abbrev pub at_end : List Block → List ℕ → Option (List Block)
at_end bs [] = some bs
at_end bs (b ∷ s) = none

unfoldable pub read_page : List ℕ → Option (List Block)
read_page s = let x = many (then_nl block) (length s) (nl? s) in at_end x.0 x.1
