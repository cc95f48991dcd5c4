-- The walk over the blocks: what was read so far, what is left of the records, and the numbers of the codes that stand in what was read.
-- Assumes nothing.
use Rattle.std.proofs.Common.{◌≡◌, ℕ, List, [], ◌∷◌, ◌++◌, length, zero, suc, ◌+◌, ◌-◌, ◌<◌, ◌≤◌, zero-le, refl, sym}
use Rattle.std.proofs.Common.{ap, ◌∙◌, arith, get_or, take, map, replicate, eqb, Some, None, Ok, Err, reverse, append_assoc, append-nil, ap₂, if◌then◌else◌}
use Rattle.std.specs.Prelude as code
use mathlib.Core.Bool.{Bool, true, false, not}
use mathlib.Core.Option.{Option, none, some}
use mir.Val.{Fits}
use mir.Syntax.{w8}
use lib.ListN.{length-append, length-map}
use Rattle.std.specs.List.{list_all}
use Rattle.text.specs.Words.{case}
use Rattle.records.specs.Blocks.{Block}
use Rattle.records.specs.Format.{bit}
use Rattle.walker.specs.Answers.{refused, gives, found_at}
use Rattle.walker.proofs.Decoded.{Stands}
use Rattle.codes.specs.Search.{is_some, text_of, contains, first_block, visited, all_found}
use Rattle.codes.specs.Calls.{Reading, nothing_read, then_read, reading, divided, are_codes, numbers, sixteen, codes_answer, option_of, codes_values}
use Rattle.codes.specs.Readers.{nth, text_at, HasMasks, Scanned, given, stands, stood, Numbered}
use Rattle.codes.specs.declared.Found.{Found}
use Rattle.codes.specs.declared.CodesError.{CodesError}
use Rattle.codes.specs.declared.CodesError.TheVariants as E
use Rattle.codes.specs.declared.scan.Scan.{Scan}
use Rattle.codes.proofs.Reading.{reading_from, from_start, block_here}
use Rattle.codes.proofs.SearchLaws.{first_more, visited_most, visited_more, visited_all, stays}
use Rattle.text.proofs.Tests.{and_false}
use Rattle.codes.proofs.LengthLaws.{known, its_length, as_many, size_at}
use Rattle.codes.proofs.LoneSearch.{call_is, stops, search_gives, search_seven}
use Rattle.codes.proofs.Stood.{stood_is}

-- the loop
pub record Walks (s : List ℕ) (cs : List (List ℕ)) (at : ℕ) (found : Found) : Type 0 where
  pub size : length found.blocks ≡ 16
  pub before : List Block
  pub blocks : (reading s).blocks ≡ before ++ (reading_from s at).blocks
  pub broken : (reading s).broken ≡ (reading_from s at).broken
  pub count : found.visited ≡ length before
  pub small : found.visited ≤ at
  pub in_walk : found.visited ≤ visited cs (reading s).blocks
  pub these : (i : ℕ) → i < length cs → option_of (get_or found.blocks i None) ≡ first_block (nth cs i) before
  pub others : (i : ℕ) → length cs ≤ i → get_or found.blocks i None ≡ None

none_of : (i k : ℕ) → get_or {A = code.Option ℕ} (replicate k None) i None ≡ None
none_of i zero = refl
none_of zero (suc k) = refl
none_of (suc i) (suc k) = none_of i k

pub walks_start : (s : List ℕ) (cs : List (List ℕ)) → Walks s cs 0 (record { visited = 0; blocks = replicate 16 None })
unfolding first_block
walks_start s cs =
    record {
      size = refl;
      before = [];
      blocks = ap (λ (r : Reading). r.blocks) (sym (from_start s));
      broken = ap (λ (r : Reading). r.broken) (sym (from_start s));
      count = refl;
      small = zero-le;
      in_walk = zero-le;
      these = λ i l. ap option_of (none_of i 16);
      others = λ i l. none_of i 16;
    }

-- ---- the test whether all codes have their numbers
option_is : (o : code.Option ℕ) → code.is_some o ≡ is_some (option_of o)
option_is None = refl
option_is (Some n) = refl

all_numbered : (cs : List (List ℕ)) (bs : List Block) (ns : List (code.Option ℕ)) → length cs ≤ length ns
    → ((i : ℕ) → i < length cs → option_of (get_or ns i None) ≡ first_block (nth cs i) bs) → list_all code.is_some (take (length cs) ns) ≡ all_found cs bs
unfolding all_found
all_numbered [] bs ns l h = refl
all_numbered (c ∷ cs) bs [] l h = absurd (omega arith)
all_numbered (c ∷ cs) bs (n ∷ ns) l h =
    rw (option_is n, h 0 (omega arith), all_numbered cs bs ns (omega arith) (λ i m. h (suc i) (omega arith))) refl

-- ---- the numbers of all codes
same_numbers : (cs : List (List ℕ)) (bs : List Block) (ns : List (code.Option ℕ)) (k : ℕ) → length ns ≡ length cs + k
    → ((i : ℕ) → i < length cs → option_of (get_or ns i None) ≡ first_block (nth cs i) bs) → ((i : ℕ) → length cs ≤ i → get_or ns i None ≡ None)
    → map option_of ns ≡ map (λ c. first_block c bs) cs ++ replicate k none
same_numbers [] bs [] zero l h o = refl
same_numbers [] bs (n ∷ ns) zero l h o = absurd (omega arith)
same_numbers [] bs [] (suc k) l h o = absurd (omega arith)
same_numbers [] bs (n ∷ ns) (suc k) l h o = rw (o 0 zero-le, same_numbers [] bs ns k (omega arith) (λ i m. absurd (omega arith)) (λ i m. o (suc i) zero-le)) refl
same_numbers (c ∷ cs) bs [] k l h o = absurd (omega arith)
same_numbers (c ∷ cs) bs (n ∷ ns) k l h o =
    rw (h 0 (omega arith), same_numbers cs bs ns k (omega arith) (λ i m. h (suc i) (omega arith)) (λ i m. o (suc i) (omega arith))) refl

-- ---- one more block
option_given : (t : Bool) (v : ℕ) (o : code.Option ℕ) → option_of (given t v o) ≡ case (option_of o) (if t then some v else none) some
option_given t v (Some n) = refl
option_given true v None = refl
option_given false v None = refl

bit_test : (t : Bool) → eqb (bit t 1) 1 ≡ t
bit_test true = refl
bit_test false = refl

module _ (s bytes lengths : List ℕ) {at : ℕ} {found : Found} (w : Walks s (divided bytes lengths) at found) (t : are_codes bytes lengths ≡ true) where
  abbrev cs : List (List ℕ)
  cs = divided bytes lengths

  abbrev rest : Reading
  rest = reading_from s at

  few : length cs ≤ 16
  few = rw (as_many bytes lengths) (known bytes lengths t).few

  -- ---- the test whether all codes have their numbers
  pub whole_is : list_all code.is_some (take (length lengths) found.blocks) ≡ all_found cs w.before
  whole_is = rw (← as_many bytes lengths) (all_numbered cs w.before found.blocks (omega (arith, few, w.size)) w.these)

  -- ---- the answer at the end of the walk
  answer_is : stops cs (reading s) ≡ false → visited cs (reading s).blocks ≡ found.visited → numbers cs (reading s).blocks ≡ numbers cs w.before
      → codes_values (Ok found) ≡ codes_answer s bytes lengths
  answer_is o v n =
      let ns = map (λ c. first_block c w.before) cs in
      let k : length found.blocks ≡ length cs + (16 - length ns) = omega (arith, length-map cs (λ c. first_block c w.before), few, w.size) in
      let b : map option_of found.blocks ≡ numbers cs w.before = same_numbers cs w.before found.blocks (16 - length ns) k w.these w.others in
      sym (call_is s bytes lengths t ∙ search_gives cs (reading s) o ∙ ap₂ (λ v b. gives (record { visited = v; blocks = b })) v (n ∙ sym b))

  -- every code has its number
  pub answer_all : all_found cs w.before ≡ true → codes_values (Ok found) ≡ codes_answer s bytes lengths
  answer_all e =
      let x = stays w.before rest.blocks cs e in
      let v : visited cs (reading s).blocks ≡ found.visited
      = omega (arith, w.in_walk, w.count, ap (visited cs) w.blocks, visited_all cs w.before rest.blocks e) in
      answer_is
      (rw (w.blocks, x.founds) (and_false (reading s).broken (not true) refl))
      v
      (ap (numbers cs) w.blocks ∙ ap sixteen x.numbers)

  module _ {b : Bool} (e : rest ≡ nothing_read b) where
    all_read : (reading s).blocks ≡ w.before
    all_read = w.blocks ∙ ap (λ (r : Reading). w.before ++ r.blocks) e ∙ append-nil w.before

  -- no block is left
  pub answer_end : rest ≡ nothing_read false → codes_values (Ok found) ≡ codes_answer s bytes lengths
  answer_end e =
      let v : visited cs (reading s).blocks ≡ found.visited
      = omega (arith, w.in_walk, w.count, ap length (all_read e), visited_most cs (reading s).blocks) in
      let o : stops cs (reading s) ≡ false = rw (w.broken, e) refl in
      answer_is o v (ap (numbers cs) (all_read e))

  -- a broken block is, and some code has no number
  pub answer_broken : rest ≡ nothing_read true → all_found cs w.before ≡ false → refused 7 ≡ codes_answer s bytes lengths
  answer_broken e f =
      let o : stops cs (reading s) ≡ true = rw (w.broken, e, all_read e, f) refl in
      sym (call_is s bytes lengths t ∙ (search_seven cs (reading s)).1 o)

  -- ---- one more block
  module _ (h : (i : ℕ) → Fits w8 (get_or s i 0)) {l d : Option ℕ} {n next : ℕ} (x : Stands s at l d n next) (missing : all_found cs w.before ≡ false)
      (masks : List ℕ) (m : HasMasks cs masks) {scan : Scan} (scanned : Scanned s at masks scan)
      {new : Found} (a : Numbered scan lengths found new (length lengths)) where
    abbrev b : Block
    b = x.block

    here : (i : ℕ) → i < length cs → stands scan lengths i ≡ contains (nth cs i) (text_of b)
    here i p =
        let q : i < length lengths = rw (as_many bytes lengths) at p in
        let y = known bytes lengths t in
        let z = its_length lengths y.good i q in
        let j = get_or lengths i 0 - 1 in
        let size : length (nth cs i) ≡ suc j = size_at bytes lengths y.whole i q ∙ omega (arith, z.0) in
        let r : text_at (found_at s at) ≡ text_of b = ap text_at x.then.found in
        ap (λ (n : ℕ). eqb n 1) ((scanned cs m).hit i j (omega (arith, few)) (omega (arith, z.1)))
        ∙ bit_test (stood (nth cs i) j (reverse (text_at (found_at s at))))
        ∙ ap (λ (t : List ℕ). stood (nth cs i) j (reverse t)) r
        ∙ stood_is (nth cs i) (text_of b) j size

    read : rest ≡ then_read b (reading_from s next)
    read = block_here s at h x

    pub walks_on : Walks s cs next (record { visited = new.visited + 1; blocks = new.blocks })
    walks_on =
        let more = (reading_from s next).blocks in
        let all : (reading s).blocks ≡ w.before ++ (b ∷ more) = w.blocks ∙ ap (λ (r : Reading). w.before ++ r.blocks) read in
        record {
          size = a.size ∙ w.size;
          before = w.before ++ (b ∷ []);
          blocks = all ∙ sym (append_assoc w.before (b ∷ []) more);
          broken = w.broken ∙ ap (λ (r : Reading). r.broken) read;
          count = omega (arith, a.visited, w.count, length-append w.before (b ∷ []));
          small = omega (arith, a.visited, w.small, x.then.later);
          in_walk = omega (arith, a.visited, w.count, ap (visited cs) all, visited_more cs w.before b more missing);
          these = λ i p.
              let c = nth cs i in
              let q : i < length lengths = rw (as_many bytes lengths) at p in
              ap option_of (a.these i q)
              ∙ option_given (stands scan lengths i) found.visited (get_or found.blocks i None)
              ∙ ap (λ (o : Option ℕ). case o (if stands scan lengths i then some found.visited else none) some) (w.these i p)
              ∙ ap₂ (λ t v. case (first_block c w.before) (if t then some v else none) some) (here i p) w.count
              ∙ sym (first_more c w.before b);
          others = λ i p. let q : length lengths ≤ i = rw (as_many bytes lengths) at p in a.others i q ∙ w.others i p;
        }

-- ---- the refusal of a broken block
pub err_seven : (r : code.Result Found CodesError) → code.IsErrAnd r (λ e. e ≡ E.Broken) → codes_values r ≡ refused 7
err_seven (Ok f) h = absurd h
err_seven (Err e) h = ap (λ (e : CodesError). codes_values (Err e)) h
