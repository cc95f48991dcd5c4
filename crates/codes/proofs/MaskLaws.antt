-- The words that say where a code has a byte, one byte of the code after the other.
-- Assumes nothing.
use Rattle.std.proofs.Common.{◌≡◌, ◌≢◌, ℕ, List, [], length, ◌+◌, ◌*◌, ◌%◌, ◌^◌, ◌<◌, ◌≤◌, refl, sym}
use Rattle.std.proofs.Common.{ap, ◌∙◌, arith, get_or, set, take, drop, slice_index, bit_or, max, ltb, eqb, w32, ⊎_elim, ap₂}
use mathlib.Core.Bool.{Bool, false, ◌&&◌}
use Rattle.std.specs.Int.{bit_at}
use Rattle.std.proofs.lemmas.Bool.{cases_eq, cases_lt}
use Rattle.std.proofs.lemmas.Bool.Decides.{nat_tests}
use Rattle.std.proofs.lemmas.List.{get_or-set_same, get_or-set_other, length-set, get_or_past}
use Rattle.std.proofs.lemmas.Nat.Bits.{bit_at_set_same, bit_at_set_other, bit_at-lt, bit_at-zero}
use Rattle.records.specs.Format.{bit}
use Rattle.codes.specs.Calls.{divided}
use Rattle.codes.specs.Readers.{has, nth, word, HasMasks}
use Rattle.codes.proofs.LengthLaws.{Known, as_many, Parted, parted_none, this_code, parted_next}

-- the bits of the first n bytes of code i are set, and no other word is changed
pub record Added (old new : List ℕ) (i : ℕ) (code : List ℕ) (n : ℕ) : Type 0 where
  pub size : length new ≡ length old
  pub others : (k : ℕ) → k % 16 ≢ i → slice_index new k ≡ slice_index old k
  pub added : (b j : ℕ) → b < 256 → j < 32
      → bit_at (word new b i) j ≡ max (bit_at (word old b i) j) (bit (ltb j n && eqb b (get_or code j 0)) 1)

pub added_none : (old : List ℕ) (i : ℕ) (code : List ℕ) → Added old old i code 0
added_none old i code = record { size = refl; others = λ k l. refl; added = none }
  where
    none : (b j : ℕ) → b < 256 → j < 32 → bit_at (word old b i) j ≡ max (bit_at (word old b i) j) (bit (ltb j 0 && eqb b (get_or code j 0)) 1)
    none b j l m = let z : bit (ltb j 0 && eqb b (get_or code j 0)) 1 ≡ 0 = grind (arith, nat_tests) in omega arith

-- all its bytes
pub added_all : {old new : List ℕ} {i : ℕ} {code : List ℕ} {n : ℕ} → Added old new i code n → n ≡ length code → (b j : ℕ) → b < 256 → j < 32
    → bit_at (word new b i) j ≡ max (bit_at (word old b i) j) (bit (has code j b) 1)
added_all {old} {new} {i} {code} {n} w e b j l m = rw (← e) (w.added b j l m)

-- byte n of the code
module _ {old new : List ℕ} {i : ℕ} {code : List ℕ} {n : ℕ} (w : Added old new i code n) (few : i < 16) (short : n < 32) (table : length old ≡ 4096)
    (byte : get_or code n 0 < 256) where
  abbrev at : ℕ
  at = get_or code n 0 * 16 + i

  abbrev more : ℕ
  more = bit_or (slice_index new at) (1 * 2 ^ n % 4294967296)

  inside : at < length new
  inside = omega (arith, w.size)

  abbrev bit_of : ℕ → ℕ → ℕ → ℕ
  bit_of k b j = bit (ltb j k && eqb b (get_or code j 0)) 1

  -- the other bits are as before
  same_bit : (b j : ℕ) → (j ≡ n → get_or code n 0 ≡ b → ⊥) → bit_of (n + 1) b j ≡ bit_of n b j
  same_bit b j e = ⊎_elim here there (cases_eq j n)
    where
      here : j ≡ n → bit_of (n + 1) b j ≡ bit_of n b j
      here p = let q : b ≢ get_or code j 0 = λ q. e p (ap (λ (k : ℕ). get_or code k 0) (sym p) ∙ sym q) in grind (arith, nat_tests)

      there : j ≢ n → bit_of (n + 1) b j ≡ bit_of n b j
      there p = grind (arith, nat_tests)

  its_bit : bit_of (n + 1) (get_or code n 0) n ≡ 1
  its_bit = grind (arith, nat_tests)

  module _ (b j : ℕ) (l : b < 256) (m : j < 32) where
    abbrev IsAdded : Type 0
    IsAdded = bit_at (word (set new at more) b i) j ≡ max (bit_at (word old b i) j) (bit_of (n + 1) b j)

    others_same : (j ≡ n → get_or code n 0 ≡ b → ⊥) → bit_at (word (set new at more) b i) j ≡ bit_at (word new b i) j → IsAdded
    others_same e p = p ∙ w.added b j l m ∙ ap (max (bit_at (word old b i) j)) (sym (same_bit b j e))

    its_word : b * 16 + i ≡ at → IsAdded
    its_word e = ⊎_elim set_here other (cases_eq j n)
      where
        r : bit_at (word (set new at more) b i) j ≡ bit_at more j
        r = ap (λ (k : ℕ). bit_at (slice_index (set new at more) k) j) e ∙ ap (λ (k : ℕ). bit_at k j) (get_or-set_same new at more 0 inside)

        other : j ≢ n → IsAdded
        other p =
            let same = bit_at_set_other w32 (slice_index new at) n short j p in
            others_same (λ q. absurd (p q)) (r ∙ same ∙ ap (λ (k : ℕ). bit_at (slice_index new k) j) (sym e))

        set_here : j ≡ n → IsAdded
        set_here p =
            let q : get_or code n 0 ≡ b = omega (arith, e) in
            let one : bit_of (n + 1) b j ≡ 1 = ap₂ (bit_of (n + 1)) (sym q) p ∙ its_bit in
            let now = r ∙ ap (bit_at more) p ∙ bit_at_set_same w32 (slice_index new at) n short in
            omega (arith, now, one, bit_at-lt (word old b i) j)

    bit_added : IsAdded
    bit_added =
        ⊎_elim
        its_word
        (λ e. others_same (λ p q. e (ap (λ (k : ℕ). k * 16 + i) (sym q))) (ap (λ (k : ℕ). bit_at k j) (get_or-set_other new at (b * 16 + i) more 0 e)))
        (cases_eq (b * 16 + i) at)

  pub added_next : Added old (set new at more) i code (n + 1)
  added_next =
      record {
        size = length-set new at more ∙ w.size;
        others = λ k l. get_or-set_other new at k more 0 (λ e. l (omega arith)) ∙ w.others k l;
        added = bit_added;
      }

-- ---- one code after the other
pub record Filled (bytes lengths masks : List ℕ) (from n : ℕ) : Type 0 where
  pub parted : Parted bytes lengths from n
  pub bits : (b i j : ℕ) → b < 256 → i < 16 → j < 32 → bit_at (word masks b i) j ≡ bit (ltb i n && has (nth (divided bytes lengths) i) j b) 1

pub filled_none : {bytes lengths masks : List ℕ} → Known bytes lengths → ((k : ℕ) → k < 4096 → slice_index masks k ≡ 0) → Filled bytes lengths masks 0 0
filled_none {bytes} {lengths} {masks} w none =
    record {
      parted = parted_none w;
      bits = λ b i j l m h.
          let z : bit (ltb i 0 && has (nth (divided bytes lengths) i) j b) 1 ≡ 0 = grind (arith, nat_tests) in
          ap (λ (n : ℕ). bit_at n j) (none (b * 16 + i) (omega arith)) ∙ bit_at-zero j ∙ sym z;
    }

module _ {bytes lengths masks : List ℕ} {from n : ℕ} (f : Filled bytes lengths masks from n) where
  abbrev its : ℕ → ℕ → ℕ → Bool
  its i j b = has (nth (divided bytes lengths) i) j b

  pub filled_all : length lengths ≤ n → HasMasks (divided bytes lengths) masks
  filled_all l b i j m h g = f.bits b i j m h g ∙ ⊎_elim under behind (cases_lt i n)
    where
      under : i < n → bit (ltb i n && its i j b) 1 ≡ bit (its i j b) 1
      under p = grind (arith, nat_tests)

      behind : n ≤ i → bit (ltb i n && its i j b) 1 ≡ bit (its i j b) 1
      behind p =
          let e : nth (divided bytes lengths) i ≡ [] = get_or_past (divided bytes lengths) i [] (omega (arith, as_many bytes lengths)) in
          let z : its i j b ≡ false = rw e (grind (arith, nat_tests)) in
          grind (arith, nat_tests, z)

  module _ (w : Known bytes lengths) (l : n < length lengths) {new piece : List ℕ} (this : piece ≡ take (get_or lengths n 0) (drop from bytes))
      (others : (k : ℕ) → k % 16 ≢ n → slice_index new k ≡ slice_index masks k)
      (added : (b j : ℕ) → b < 256 → j < 32 → bit_at (word new b n) j ≡ max (bit_at (word masks b n) j) (bit (has piece j b) 1)) where
    pub filled_next : Filled bytes lengths new (from + get_or lengths n 0) (n + 1)
    filled_next = record { parted = parted_next f.parted l; bits = λ b i j m h g. ⊎_elim (its_bits b i j m h g) (other_bits b i j m h g) (cases_eq i n) }
      where
        other_bits : (b i j : ℕ) → b < 256 → i < 16 → j < 32 → i ≢ n → bit_at (word new b i) j ≡ bit (ltb i (n + 1) && its i j b) 1
        other_bits b i j m h g p =
            let z : bit (ltb i n && its i j b) 1 ≡ bit (ltb i (n + 1) && its i j b) 1 = grind (arith, nat_tests) in
            ap (λ (k : ℕ). bit_at k j) (others (b * 16 + i) (λ q. p (omega arith))) ∙ f.bits b i j m h g ∙ z

        its_bits : (b i j : ℕ) → b < 256 → i < 16 → j < 32 → i ≡ n → bit_at (word new b i) j ≡ bit (ltb i (n + 1) && its i j b) 1
        its_bits b i j m h g p =
            let c : nth (divided bytes lengths) i ≡ piece = ap (nth (divided bytes lengths)) p ∙ sym (this ∙ this_code f.parted l) in
            let z : bit (ltb i n && its i j b) 1 ≡ 0 = grind (arith, nat_tests) in
            let y : bit (ltb i (n + 1) && its i j b) 1 ≡ bit (its i j b) 1 = grind (arith, nat_tests) in
            let x : bit_at (word new b i) j ≡ max (bit_at (word masks b i) j) (bit (has piece j b) 1) = rw p (added b j m g) in
            omega (arith, x, f.bits b i j m h g, z, y, ap (λ (c : List ℕ). bit (has c j b) 1) c)
