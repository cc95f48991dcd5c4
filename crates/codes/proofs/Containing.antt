-- Many codes in one walk (U10): "give for each code the number, from 0, of the first block whose joined span text contains it, or none". A text
-- contains a code where the code's bytes stand in it one after the other (`contains_iff`); the number that is given is that of a block which contains
-- the code, and no block before it does (`first_iff`); none is given exactly if no block does (`none_iff`).
-- Assumes nothing.
use Prim.Native.Nat.{ℕ, suc}
use native.Mathlib.Nat.{add-zero}
use mathlib.Core.Path.{◌≡◌, refl, sym, ap, subst, ◌∙◌}
use mathlib.Core.Bool.{Bool, true, false, cond}
use mathlib.Core.Logic.{◌↔◌, ⊎_elim}
use mathlib.Core.List.Memᴰ
use mathlib.Core.List.{List, [], ◌∷◌, ◌++◌, Memᴰ}
use mathlib.Core.Option.{Option, none, some}
use lib.ListN.{length, drop}
use Rattle.text.specs.Words.{◌>>=◌, starts_with}
use Rattle.text.proofs.Tests.{or_elim, or_left, or_right, starts_split, starts_self, false_true}
use Rattle.records.specs.Blocks.{Block}
use Rattle.codes.specs.Search.{text_of, contains, first_block}
use Rattle.codes.proofs.SearchLaws.{contains_none, contains_more, first_step, first_append}

-- ---- a code in a text
pub record Occurs (code text : List ℕ) : Type 0 where
  pub before : List ℕ
  pub behind : List ℕ
  pub is : text ≡ before ++ (code ++ behind)

there : (code text : List ℕ) → contains code text ≡ true → Occurs code text
there [] [] e = record { before = []; behind = []; is = refl }
there (c ∷ code) [] e = false_true (sym (contains_none (c ∷ code)) ∙ e)
there code (a ∷ s) e = or_elim (starts_with code (a ∷ s)) (contains code s) here (later (there code s)) (sym (contains_more code a s) ∙ e)
  where
    here : starts_with code (a ∷ s) ≡ true → Occurs code (a ∷ s)
    here e = record { before = []; behind = drop (length code) (a ∷ s); is = starts_split code (a ∷ s) e }

    later : (contains code s ≡ true → Occurs code s) → contains code s ≡ true → Occurs code (a ∷ s)
    later f e = let w = f e in record { before = a ∷ w.before; behind = w.behind; is = ap (λ (l : List ℕ). a ∷ l) w.is }

back : (code before behind : List ℕ) → contains code (before ++ (code ++ behind)) ≡ true
back [] [] [] = contains_none []
back [] [] (b ∷ behind) = contains_more [] b behind
back (c ∷ code) [] behind = let s = code ++ behind in contains_more (c ∷ code) c s ∙ or_left _ (contains (c ∷ code) s) (starts_self (c ∷ code) behind)
back code (a ∷ before) behind = let s = before ++ (code ++ behind) in contains_more code a s ∙ or_right (starts_with code (a ∷ s)) _ (back code before behind)

pub contains_iff : (code text : List ℕ) → (contains code text ≡ true) ↔ Occurs code text
contains_iff code text = (there code text, λ w. rw w.is (back code w.before w.behind))

-- ---- a code in blocks
module _ (code : List ℕ) where
  abbrev pub NoneHas : List Block → Type 0
  NoneHas bs = (b : Block) → Memᴰ b bs → contains code (text_of b) ≡ false

  -- the block with this number contains the code, and none before it does
  pub record FirstAt (bs : List Block) (n : ℕ) : Type 0 where
    pub before : List Block
    pub block : Block
    pub behind : List Block
    pub is : bs ≡ before ++ (block ∷ behind)
    pub number : length before ≡ n
    pub has : contains code (text_of block) ≡ true
    pub none_before : NoneHas before

  none_more : {b : Block} {bs : List Block} → contains code (text_of b) ≡ false → NoneHas bs → NoneHas (b ∷ bs)
  none_more {b} {bs} t h c m = ⊎_elim (λ (e : c ≡ b). ap (λ (x : Block). contains code (text_of x)) e ∙ t) (λ n. h c n) (Memᴰ.cases_cons m)

  -- what an answer says
  abbrev Says : List Block → Option ℕ → Type 0
  Says bs none = NoneHas bs
  Says bs (some n) = FirstAt bs n

  says : (bs : List Block) → Says bs (first_block code bs)
  unfolding first_block
  says [] = λ b m. absurd (Memᴰ.not-nil m)
  says (b ∷ bs) = by (contains code (text_of b)) refl (first_block code bs) (says bs)
    where
      by : (t : Bool) → contains code (text_of b) ≡ t → (o : Option ℕ) → Says bs o → Says (b ∷ bs) (cond t (some 0) (o >>= (λ n. some (suc n))))
      by true t o h = record { before = []; block = b; behind = bs; is = refl; number = refl; has = t; none_before = λ c m. absurd (Memᴰ.not-nil m) }
      by false t none h = none_more t h
      by false t (some n) h =
          record {
            before = b ∷ h.before;
            block = h.block;
            behind = h.behind;
            is = ap (λ (l : List Block). b ∷ l) h.is;
            number = ap suc h.number;
            has = h.has;
            none_before = none_more t h.none_before;
          }

  none_back : (bs : List Block) → NoneHas bs → first_block code bs ≡ none
  unfolding first_block
  none_back [] h = refl
  none_back (b ∷ bs) h = rw (h b (Memᴰ.head refl), none_back bs (λ c m. h c (Memᴰ.tail m)))

  pub none_iff : (bs : List Block) → (first_block code bs ≡ none) ↔ NoneHas bs
  none_iff bs = (λ e. subst (Says bs) e (says bs), none_back bs)

  first_back : {bs : List Block} {n : ℕ} → FirstAt bs n → first_block code bs ≡ some n
  first_back w =
      let p = none_back w.before w.none_before in
      rw (w.is, first_append code w.before (w.block ∷ w.behind), p, first_step code w.block w.behind, w.has) (ap some (add-zero (length w.before) ∙ w.number))

  pub first_iff : (bs : List Block) (n : ℕ) → (first_block code bs ≡ some n) ↔ FirstAt bs n
  first_iff bs n = (λ e. subst (Says bs) e (says bs), first_back)
