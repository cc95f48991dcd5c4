-- The turns of the loops that read a line from the Markdown.
-- Assumes nothing.
use Prim.Native.Nat.{ℕ, zero, suc, ◌+◌, ◌-◌, ◌≤◌, ◌<◌}
use mathlib.Core.Bool.{true, false, not}
use mathlib.Core.List.{List, [], ◌∷◌, ◌++◌, append_assoc, append-nil}
use mathlib.Core.Path.{◌≡◌, refl, sym, ap, ◌∙◌, subst}
use mathlib.Core.Logic.{⊎_elim}
use lib.Dec.{eqb}
use borrow.Author.Tests.{ne_eqb, eqb-false, not-true}
use native.Mathlib.Numerals.{add-one}
use native.Mathlib.Nat.{add-zero}
use native.Mathlib.Omega.{arith}
use lib.ListN.{length, get_or, take, drop, set, length-drop, length-set, drop_of_length-le}
use lib.Seq.{sets, length-sets, drop-drop, drop-append-add, drop-set-lt, get_or-drop, take_at, take-suc, take-suc-set, length-take-le}
use Rattle.text.specs.Words.{starts, take_while}
use Rattle.text.specs.Run.{RunTo}
use Rattle.text.proofs.RunLaws.{run_le, run_next, run_stop}
use Rattle.text.proofs.Lists.{drop_next}
use Rattle.text.proofs.Tests.{decide, and_true}
use Rattle.records.proofs.Stores.{sets_front}
use Rattle.markdown.specs.Blocks.{cleaned}
use Rattle.text.specs.Part.{between}
use Rattle.text.specs.Find.{closed, comment_end}
use Rattle.text.proofs.CloseLaws.{end_left, end_bounds}
use Rattle.markdown.specs.Parts.{copied, lent, first_line, other_lines, text_of, quiet, CommentedIs, LineIs}
use Rattle.markdown.specs.declared.lines.Line.{Line}
use Rattle.markdown.proofs.CommentLaws.{comment_goes, other_stays}

-- ---- the line so far, and what is left of it: the first line of the text without comments from j on, and the other lines
module _ (s : List ℕ) (j : ℕ) (l : j < length s) where
  abbrev left : ℕ → List ℕ
  left j = cleaned 0 (drop j s)

  pub at_break : get_or s j 0 ≡ 10 → left j ≡ 10 ∷ left (j + 1)
  at_break e =
      let d : drop j s ≡ 10 ∷ drop (j + 1) s = drop_next s j l ∙ rw e in
      ap (cleaned 0) d ∙ other_stays 10 (drop (j + 1) s) refl

  pub at_comment : (r : ℕ) → starts "<!--" (drop j s) ≡ true → drop r s ≡ closed (drop j s) → left j ≡ left r
  at_comment r e p =
      let d = drop_next s j l in
      ap (cleaned 0) d ∙ comment_goes (get_or s j 0) (drop (j + 1) s) (rw d at e) ∙ ap (cleaned 0) (ap closed (sym d) ∙ sym p)

  pub at_other : starts "<!--" (drop j s) ≡ false → left j ≡ get_or s j 0 ∷ left (j + 1)
  at_other e =
      let d = drop_next s j l in
      ap (cleaned 0) d ∙ other_stays (get_or s j 0) (drop (j + 1) s) (rw d at e)

pub other_first : (b : ℕ) (t : List ℕ) → (b ≡ 10 → ⊥) → (first_line (b ∷ t) ≡ b ∷ first_line t) × (other_lines (b ∷ t) ≡ other_lines t)
other_first b t n = (rw (ne_eqb b 10 n), rw (ne_eqb b 10 n))

-- ---- a line that a comment stands in
pub record Copying (s : List ℕ) (start have : ℕ) (work₀ work : List ℕ) (j k : ℕ) : Type 0 where
  pub bytes : take k work ++ first_line (cleaned 0 (drop j s)) ≡ take have work₀ ++ first_line (cleaned 0 (drop start s))
  pub left : other_lines (cleaned 0 (drop j s)) ≡ other_lines (cleaned 0 (drop start s))
  pub kept : drop (length s) work ≡ drop (length s) work₀
  pub size : length work ≡ length work₀
  pub bound : j ≤ length s
  pub low : start ≤ j
  pub short : k + start ≤ j + have

module _ (s : List ℕ) (start have : ℕ) (work₀ : List ℕ) where
  module _ (work : List ℕ) (j k : ℕ) (v : Copying s start have work₀ work j k) where
    abbrev ended : Line
    ended = record { text = copied 0 k; next = j + 1 }

    pub copied_break : j < length s → get_or s j 0 ≡ 10 → CommentedIs s start have work₀ work ended
    copied_break l e =
        let a = at_break s j l e in
        let b = v.short in
        record {
          copied = refl;
          first = refl;
          bytes = sym (append-nil (take k work)) ∙ (rw a at v.bytes);
          left = rw a at v.left;
          kept = v.kept;
          size = v.size;
          short = omega arith;
          bound = omega arith;
        }

    pub copied_end : length s ≤ j → CommentedIs s start have work₀ work ended
    unfolding cleaned
    copied_end l =
        let d : drop j s ≡ [] = drop_of_length-le s l in
        let z : drop (j + 1) s ≡ [] = drop_of_length-le s {i = j + 1} (omega arith) in
        let b = v.short in
        let c = v.bound in
        record {
          copied = refl;
          first = refl;
          bytes = sym (append-nil (take k work)) ∙ (rw d at v.bytes);
          left = rw z (rw d at v.left);
          kept = v.kept;
          size = v.size;
          short = omega arith;
          bound = omega arith;
        }

    pub copied_comment : (r : ℕ) → j < length s → starts "<!--" (drop j s) ≡ true → r ≡ comment_end s j → Copying s start have work₀ work r k
    copied_comment r l e p =
        let a = at_comment s j l r e (ap (λ (k : ℕ). drop k s) p ∙ end_left s j) in
        let b = v.short in
        let h = (end_bounds s j (omega arith)).1 in
        let d = h.0 in
        let c = h.1 l in
        record {
          bytes = rw a at v.bytes;
          left = rw a at v.left;
          kept = v.kept;
          size = v.size;
          bound = omega arith;
          low = omega (arith, v.low);
          short = omega arith;
        }

    pub copied_other : j < length s → (get_or s j 0 ≡ 10 → ⊥) → starts "<!--" (drop j s) ≡ false → k < length s → length s ≤ length work
        → Copying s start have work₀ (set work k (get_or s j 0)) (j + 1) (k + 1)
    copied_other l n e h w =
        let a = at_other s j l e in
        let o = other_first (get_or s j 0) (cleaned 0 (drop (j + 1) s)) n in
        let b = v.short in
        let q = v.low in
        record {
          bytes =
              rw (add-one k, take-suc-set work k (get_or s j 0) (omega arith))
              (append_assoc (take k work) (get_or s j 0 ∷ []) (first_line (cleaned 0 (drop (j + 1) s)))
              ∙ ap (λ (x : List ℕ). take k work ++ x) (sym (ap first_line a ∙ o.0))
              ∙ v.bytes);
          left = sym (ap other_lines a ∙ o.1) ∙ v.left;
          kept = drop-set-lt (length s) work k (get_or s j 0) h ∙ v.kept;
          size = length-set work k (get_or s j 0) ∙ v.size;
          bound = omega arith;
          low = omega arith;
          short = omega arith;
        }

-- ---- a line that no comment was met in yet
pub part_suc : (s : List ℕ) (i j : ℕ) → i ≤ j → j < length s → between s i (j + 1) ≡ between s i j ++ (get_or s j 0 ∷ [])
part_suc s i j m l =
    let q : j + 1 - i ≡ suc (j - i) = omega arith in
    let r : i + (j - i) ≡ j = omega arith in
    rw q (take-suc (drop i s) (j - i) 0 (rw (length-drop i s) (omega arith)) ∙ rw (get_or-drop i s (j - i) 0, r))

pub record Passing (s : List ℕ) (i j : ℕ) : Type 0 where
  pub bytes : between s i j ++ first_line (cleaned 0 (drop j s)) ≡ first_line (cleaned 0 (drop i s))
  pub left : other_lines (cleaned 0 (drop j s)) ≡ other_lines (cleaned 0 (drop i s))
  pub low : i ≤ j
  pub bound : j ≤ length s

module _ (s : List ℕ) (i : ℕ) where
  pub passing_none : i ≤ length s → Passing s i i
  passing_none l =
      let q : i - i ≡ 0 = omega arith in
      record { bytes = rw q; left = refl; low = omega arith; bound = l }

  module _ (j : ℕ) (v : Passing s i j) where
    pub passing_other : j < length s → (get_or s j 0 ≡ 10 → ⊥) → starts "<!--" (drop j s) ≡ false → Passing s i (j + 1)
    passing_other l n e =
        let a = at_other s j l e in
        let o = other_first (get_or s j 0) (cleaned 0 (drop (j + 1) s)) n in
        let q = v.low in
        record {
          bytes =
              rw (part_suc s i j q l)
              (append_assoc (between s i j) (get_or s j 0 ∷ []) (first_line (cleaned 0 (drop (j + 1) s)))
              ∙ ap (λ (x : List ℕ). between s i j ++ x) (sym (ap first_line a ∙ o.0))
              ∙ v.bytes);
          left = sym (ap other_lines a ∙ o.1) ∙ v.left;
          low = omega arith;
          bound = omega arith;
        }

    module _ (work : List ℕ) where
      abbrev passed : Line
      passed = record { text = lent i j; next = j + 1 }

      pub passed_break : j < length s → get_or s j 0 ≡ 10 → LineIs s i work work passed
      unfolding text_of
      passed_break l e =
          let a = at_break s j l e in
          let q = v.low in
          record {
            bytes = sym (append-nil (between s i j)) ∙ (rw a at v.bytes);
            left = rw a at v.left;
            kept = refl;
            order = q;
            low = v.bound;
            short = omega arith;
            bound = omega arith;
          }

      pub passed_end : length s ≤ j → LineIs s i work work passed
      unfolding text_of cleaned
      passed_end l =
          let d : drop j s ≡ [] = drop_of_length-le s l in
          let z : drop (j + 1) s ≡ [] = drop_of_length-le s {i = j + 1} (omega arith) in
          let q = v.low in
          let b = v.bound in
          record {
            bytes = sym (append-nil (between s i j)) ∙ (rw d at v.bytes);
            left = rw z (rw d at v.left);
            kept = refl;
            order = q;
            low = b;
            short = omega arith;
            bound = omega arith;
          }

      -- the line's front is stored, and its rest follows
      pub passed_comment : (work' work₁ work₂ : List ℕ) (r : Line) → length s ≤ length work → work' ≡ work → work₁ ≡ sets work' 0 (between s i j)
          → CommentedIs s j (j - i) work₁ work₂ r → LineIs s i work work₂ r
      unfolding text_of
      passed_comment work' work₁ work₂ r h same e' p =
          let e : work₁ ≡ sets work 0 (between s i j) = e' ∙ ap (λ (w : List ℕ). sets w 0 (between s i j)) same in
          let q = v.low in
          let b = v.bound in
          let n : length (between s i j) ≡ j - i = length-take-le (j - i) (drop i s) (rw (length-drop i s) (omega arith)) in
          let f : work₁ ≡ between s i j ++ drop (length (between s i j)) work = e ∙ sets_front work (between s i j) (omega arith) in
          let t : take (j - i) work₁ ≡ between s i j = ap (take (j - i)) f ∙ take_at (between s i j) (drop (length (between s i j)) work) (j - i) n in
          let z : r.text.part.end - 0 ≡ r.text.part.end = omega arith in
          let m : length work₁ ≡ length work = ap length e ∙ length-sets work 0 (between s i j) in
          let o = p.first in
          let y = p.short in
          let w = p.bound in
          let g = p.size in
          record {
            bytes = rw (p.copied, p.first, z) (p.bytes ∙ ap (λ (x : List ℕ). x ++ first_line (cleaned 0 (drop j s))) t ∙ v.bytes);
            left = p.left ∙ v.left;
            kept =
                p.kept
                ∙ ap (drop (length s)) f
                ∙ (let k : length s ≡ length (between s i j) + (length s - (j - i)) = omega arith in
                rw k (drop-append-add (between s i j) (drop (length (between s i j)) work) (length s - (j - i)) ∙ drop-drop (length s - (j - i)) (length (between s i j)) work));
            order = omega arith;
            low = omega arith;
            short = omega arith;
            bound = p.bound;
          }

-- ---- bytes that end no line and start no comment
module _ (s : List ℕ) (i : ℕ) where
  quiet_one : (j : ℕ) → Passing s i j → j < length s → quiet (get_or s j 0) ≡ true → Passing s i (j + 1)
  unfolding quiet
  quiet_one j v l e =
      let x = get_or s j 0 in
      let p = and_true (not (eqb x 10)) (not (eqb x 60)) e in
      passing_other s i j v l (eqb-false x 10 (not-true (eqb x 10) p.0)) (rw (drop_next s j l, not-true (eqb x 60) p.1))

  quiet_run : (n j : ℕ) → Passing s i j → n ≤ length (take_while quiet (drop j s)) → Passing s i (j + n)
  quiet_run zero j v h = subst (Passing s i) (sym (add-zero j)) v
  quiet_run (suc n) j v h =
      let l : j < length s = omega (arith, run_le quiet (drop j s), length-drop j s) in
      ⊎_elim
      (λ e. subst (Passing s i) (omega arith) (quiet_run n (j + 1) (quiet_one j v l e) (omega (arith, run_next quiet s j l e))))
      (λ e. absurd (omega (arith, ap length (run_stop quiet s j l e))))
      (decide (quiet (get_or s j 0)))

  pub quiet_passed : (j : ℕ) → i ≤ length s → RunTo quiet s i j → Passing s i j
  quiet_passed j h r =
      let m = r.low in
      let q : i + (j - i) ≡ j = omega arith in
      subst (Passing s i) q (quiet_run (j - i) i (passing_none s i h) (omega (arith, r.run)))
