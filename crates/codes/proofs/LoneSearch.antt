-- Many codes in one walk (U10): "Each answer equals that of a lone search for the code" (`each_alone`, `number_at`; of what the function returns,
-- `lone_result`); "Repeated codes get equal answers" (`repeated`, `repeated_result`); "10 when there are more than 16 codes or a code's length is outside
-- 1 to 32, before any record is read" (`ten_iff`, whatever the records are); "7 when the walk reaches a broken block", which is when some lone search
-- does (`seven_iff`).
-- Assumes nothing.
use Prim.Native.Nat.{ℕ, zero, suc, ◌+◌, ◌<◌, ◌≤◌}
use native.Mathlib.Omega.{arith}
use mathlib.Core.Path.{◌≡◌, refl, sym, ap, ap₂, ◌∙◌}
use mathlib.Core.Bool.{Bool, true, false, cond, not, ◌&&◌}
use mathlib.Core.Logic.{◌↔◌, ⊎_elim}
use mathlib.Core.List.{List, [], ◌∷◌, ◌++◌, map}
use mathlib.Core.Option.{Option, none}
use lib.ListN.{length, take, get_or, get_or-map}
use lib.Seq.{take-length}
use borrow.Author.Tests.{le-leb, eq-eqb, not-true}
use Rattle.std.specs.Prelude.{None, Ok, Err}
use Rattle.std.specs.Prelude as code
use Rattle.text.proofs.Tests.{decide, and_true, true_false}
use Rattle.records.specs.Blocks.{Block}
use Rattle.walker.specs.Answers.{Answer, refused, gives}
use Rattle.codes.specs.Search.{is_some, first_block, lone_visited, visited, all_found}
use Rattle.codes.specs.Calls.{divided, are_codes, Reading, reading, FoundValues, sixteen, numbers, search, codes_answer}
use Rattle.codes.specs.Calls.{option_of, codes_values}
use Rattle.codes.specs.declared.Found.{Found}
use Rattle.codes.specs.declared.CodesError.{CodesError}
use Rattle.codes.proofs.LengthLaws.{known, its_length, as_many, size_at}
use Rattle.codes.proofs.NumberLaws.{option_one}
use Rattle.codes.proofs.SearchLaws.{found_each, missing_one, visited_at}

-- code i of those that are lent
abbrev pub code_at : List ℕ → List ℕ → ℕ → List ℕ
code_at bytes lengths i = get_or (divided bytes lengths) i []

-- ---- the search for all codes and for one of them
abbrev pub found_in : List (List ℕ) → List Block → FoundValues
found_in cs bs = record { visited = visited cs bs; blocks = numbers cs bs }

-- whether the walk for these codes comes to a broken block
abbrev pub stops : List (List ℕ) → Reading → Bool
stops cs r = r.broken && not (all_found cs r.blocks)

module _ (cs : List (List ℕ)) (r : Reading) where
  searched : {v : FoundValues} → search cs r ≡ gives v → (stops cs r ≡ false) × (found_in cs r.blocks ≡ v)
  unfolding search
  searched {v} e = by (stops cs r) e
    where
      by : (t : Bool) → cond t (refused 7) (gives (found_in cs r.blocks)) ≡ gives v → (t ≡ false) × (found_in cs r.blocks ≡ v)
      by true e = cc
      by false e = (refl, cc)

  pub search_gives : stops cs r ≡ false → search cs r ≡ gives (found_in cs r.blocks)
  unfolding search
  search_gives e = rw e

  pub search_seven : (search cs r ≡ refused 7) ↔ (stops cs r ≡ true)
  unfolding search
  search_seven = (by (stops cs r), λ e. rw e)
    where
      by : (t : Bool) → cond t (refused 7) (gives (found_in cs r.blocks)) ≡ refused 7 → t ≡ true
      by true e = refl
      by false e = cc

  -- a walk comes to a broken block exactly if that for some code alone does
  lone_goes_on : (i : ℕ) → i < length cs → stops cs r ≡ false → stops (get_or cs i [] ∷ []) r ≡ false
  unfolding all_found
  lone_goes_on i l e = by r.broken (all_found cs r.blocks) refl e
    where
      by : (b t : Bool) → all_found cs r.blocks ≡ t → b && not t ≡ false → b && not (is_some (first_block (get_or cs i []) r.blocks) && true) ≡ false
      by false t f e = refl
      by true true f e = rw (found_each r.blocks cs i l f)
      by true false f e = true_false e

  lone_stops : stops cs r ≡ true → (i : ℕ) × (i < length cs) × (stops (get_or cs i [] ∷ []) r ≡ true)
  unfolding all_found
  lone_stops e =
      let (b, f) = and_true r.broken (not (all_found cs r.blocks)) e in
      let w = missing_one r.blocks cs (not-true (all_found cs r.blocks) f) in
      (w.place, w.within, ap₂ (λ b t. b && not (t && true)) b (ap is_some w.missing))

one_visited : (c : List ℕ) (bs : List Block) → visited (c ∷ []) bs ≡ lone_visited c bs
unfolding visited
one_visited c bs = omega arith

number_in : (f : List ℕ → Option ℕ) (cs : List (List ℕ)) (more : List (Option ℕ)) (i : ℕ) → i < length cs
    → get_or (map f cs ++ more) i none ≡ f (get_or cs i [])
number_in f [] more i l = absurd (omega arith)
number_in f (c ∷ cs) more zero l = refl
number_in f (c ∷ cs) more (suc i) l = number_in f cs more i (omega arith)

-- ---- the call
module _ (s bytes lengths : List ℕ) where
  abbrev cs : List (List ℕ)
  cs = divided bytes lengths

  pub call_is : are_codes bytes lengths ≡ true → codes_answer s bytes lengths ≡ search cs (reading s)
  unfolding codes_answer
  call_is t = rw t

  call_gives : {v : FoundValues} → codes_answer s bytes lengths ≡ gives v → (are_codes bytes lengths ≡ true) × (search cs (reading s) ≡ gives v)
  unfolding codes_answer
  call_gives {v} e = by (are_codes bytes lengths) e
    where
      by : (t : Bool) → cond t (search cs (reading s)) (refused 10) ≡ gives v → (t ≡ true) × (search cs (reading s) ≡ gives v)
      by true e = (refl, e)
      by false e = cc

  pub ten_iff : (codes_answer s bytes lengths ≡ refused 10) ↔ (are_codes bytes lengths ≡ false)
  unfolding codes_answer search
  ten_iff = (by (are_codes bytes lengths) (stops cs (reading s)), λ e. rw e)
    where
      by : (t u : Bool) → cond t (cond u (refused 7) (gives (found_in cs (reading s).blocks))) (refused 10) ≡ refused 10 → t ≡ false
      by true true e = let z : ◌≡◌ {A = ℕ} 7 10 = cc in absurd (omega arith)
      by true false e = cc
      by false u e = refl

  -- with code i alone
  abbrev pub lone_answer : ℕ → Answer FoundValues
  lone_answer i = codes_answer s (code_at bytes lengths i) (get_or lengths i 0 ∷ [])

  lone_is : are_codes bytes lengths ≡ true → (i : ℕ) → i < length lengths → lone_answer i ≡ search (code_at bytes lengths i ∷ []) (reading s)
  unfolding codes_answer are_codes
  lone_is t i l =
      let w = known bytes lengths t in
      let (k, m) = its_length lengths w.good i l in
      let c = code_at bytes lengths i in
      let n = get_or lengths i 0 in
      let z : length c ≡ n = size_at bytes lengths w.whole i l in
      let p : take n c ≡ c = ap (λ (k : ℕ). take k c) (sym z) ∙ take-length c in
      rw (le-leb 1 n k, le-leb n 32 m, eq-eqb (n + 0) (length c) (omega arith), p)

  within_codes : {i : ℕ} → i < length lengths → i < length cs
  within_codes l = rw (as_many bytes lengths) l

  module _ {v : FoundValues} (e : codes_answer s bytes lengths ≡ gives v) (i : ℕ) (l : i < length lengths) where
    pub number_at : get_or v.blocks i none ≡ first_block (code_at bytes lengths i) (reading s).blocks
    number_at =
        let w = searched cs (reading s) (call_gives e).1 in
        ap (λ (v : FoundValues). get_or v.blocks i none) (sym w.1) ∙ number_in (λ c. first_block c (reading s).blocks) cs _ i (within_codes l)

    -- a call with this code alone answers the same, and visits no more blocks
    pub record Alone : Type 0 where
      pub visits : ℕ
      pub answer : lone_answer i ≡ gives (record { visited = visits; blocks = sixteen (get_or v.blocks i none ∷ []) })
      pub most : visits ≤ v.visited

    pub each_alone : Alone
    each_alone =
        let (t, f) = call_gives e in
        let (o, p) = searched cs (reading s) f in
        let c = code_at bytes lengths i in
        let k = within_codes l in
        let n : visited cs (reading s).blocks ≡ v.visited = ap (λ (v : FoundValues). v.visited) p in
        record {
          visits = visited (c ∷ []) (reading s).blocks;
          answer = lone_is t i l ∙ search_gives (c ∷ []) (reading s) (lone_goes_on cs (reading s) i k o) ∙ rw number_at;
          most = omega (arith, one_visited c (reading s).blocks, visited_at (reading s).blocks cs i k);
        }

  pub repeated : {v : FoundValues} → codes_answer s bytes lengths ≡ gives v → (i j : ℕ) → i < length lengths → j < length lengths
      → code_at bytes lengths i ≡ code_at bytes lengths j → get_or v.blocks i none ≡ get_or v.blocks j none
  repeated e i j l m p = number_at e i l ∙ ap (λ (c : List ℕ). first_block c (reading s).blocks) p ∙ sym (number_at e j m)

  -- 7, where one of the lone calls gives it
  abbrev pub LoneSeven : Type 0
  LoneSeven = (i : ℕ) × (i < length lengths) × (lone_answer i ≡ refused 7)

  pub seven_iff : are_codes bytes lengths ≡ true → (codes_answer s bytes lengths ≡ refused 7) ↔ LoneSeven
  seven_iff t = (there, back)
    where
      there : codes_answer s bytes lengths ≡ refused 7 → LoneSeven
      there e =
          let (i, l, o) = lone_stops cs (reading s) ((search_seven cs (reading s)).0 (sym (call_is t) ∙ e)) in
          let m : i < length lengths = rw (as_many bytes lengths) at l in
          (i, m, lone_is t i m ∙ (search_seven (code_at bytes lengths i ∷ []) (reading s)).1 o)

      back : LoneSeven → codes_answer s bytes lengths ≡ refused 7
      back (i, l, e) =
          let o = (search_seven (code_at bytes lengths i ∷ []) (reading s)).0 (sym (lone_is t i l) ∙ e) in
          let on = lone_goes_on cs (reading s) i (within_codes l) in
          call_is t ∙ (search_seven cs (reading s)).1 (⊎_elim (λ f. f) (λ f. true_false (sym o ∙ on f)) (decide (stops cs (reading s))))

-- ---- what the function returns
gives_one : {A : Type 0} {a b : A} → gives a ≡ gives b → a ≡ b
gives_one e = cc

entry : (f : Found) (i : ℕ) {o : Option ℕ} → get_or (map option_of f.blocks) i none ≡ o → option_of (get_or f.blocks i None) ≡ o
entry f i e = sym (get_or-map option_of f.blocks i None) ∙ e

module _ (s bytes lengths : List ℕ) (f : Found) (e : codes_values (Ok f) ≡ codes_answer s bytes lengths) (i : ℕ) (l : i < length lengths) where
  -- a call with code i alone gives it the number that this call gives it
  pub lone_result : (q : code.Result Found CodesError) → codes_values q ≡ lone_answer s bytes lengths i
      → (g : Found) × (q ≡ Ok g) × (get_or g.blocks 0 None ≡ get_or f.blocks i None)
  lone_result q h = by q (h ∙ (each_alone s bytes lengths (sym e) i l).answer)
    where
      by : (q : code.Result Found CodesError) {n : ℕ}
          → codes_values q ≡ gives (record { visited = n; blocks = sixteen (get_or (map option_of f.blocks) i none ∷ []) })
          → (g : Found) × (q ≡ Ok g) × (get_or g.blocks 0 None ≡ get_or f.blocks i None)
      by (Err b) e = cc
      by (Ok g) {n} e =
          let o = entry g 0 (ap (λ (v : FoundValues). get_or v.blocks 0 none) (gives_one e)) ∙ sym (entry f i refl) in
          (g, refl, option_one (get_or g.blocks 0 None) (get_or f.blocks i None) o)

  pub repeated_result : (j : ℕ) → j < length lengths → code_at bytes lengths i ≡ code_at bytes lengths j
      → get_or f.blocks i None ≡ get_or f.blocks j None
  repeated_result j m p = option_one _ _ (entry f i (repeated s bytes lengths (sym e) i j l m p) ∙ sym (entry f j refl))
