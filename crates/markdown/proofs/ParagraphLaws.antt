-- The laws of the open paragraph: where its text is, and how a line joins it.
-- Assumes nothing.
use Prim.Native.Nat.{ℕ, ◌+◌, ◌-◌, ◌≤◌, ◌<◌}
use mathlib.Core.Bool.{Bool, true, false}
use mathlib.Core.List.{List, [], ◌∷◌, ◌++◌, append_assoc}
use mathlib.Core.Path.{◌≡◌, refl, sym, ap, ◌∙◌}
use native.Mathlib.Omega.{arith}
use lib.ListN.{length, take}
use lib.Seq.{sets, length-sets}
use Rattle.text.specs.Words.{is_empty}
use Rattle.text.specs.Utf8.{chars}
use Rattle.text.proofs.Laws.{chars_append}
use Rattle.text.proofs.AsciiLaws.{chars_ascii}
use Rattle.markdown.specs.Blocks.{Reader, joined, paragraph}
use Rattle.text.specs.Part.{between, Inside}
use Rattle.markdown.specs.Parts.{copied as copied_at, text_of}
use Rattle.markdown.specs.State.{Owned, Placed, Safe, grown, Given, Steps, starts_with_text}
use Rattle.markdown.specs.declared.lines.Text.{Text}
use Rattle.markdown.specs.declared.writer.State.{State}
use Rattle.markdown.proofs.PartLaws.{part_none}
use Rattle.markdown.proofs.RunLaws.{empty_chars, not_empty}
use Rattle.markdown.proofs.CellFill.{sets_part, sets_below, part_below}
use Rattle.markdown.proofs.StateLaws.{placed, given_small, safe_inside, safe_long, text_length, text_none}

-- ---- the text of a line stays where it is while the buffer changes behind it
pub text_below : (md work₀ work : List ℕ) (copied : Bool) (from to : ℕ) → to ≤ length md → take (length md) work ≡ take (length md) work₀
    → text_of md work copied from to ≡ text_of md work₀ copied from to
unfolding text_of
text_below md work₀ work true from to h e = part_below work work₀ (length md) from to e h
text_below md work₀ work false from to h e = refl

-- a text stored at an offset
pub stored_text : (md work text : List ℕ) (at : ℕ) → at + length text ≤ length work → between (sets work at text) at (at + length text) ≡ text
stored_text md work text at h = sets_part work at text h at (omega arith) ∙ rw (part_none work at)

module _ (md work : List ℕ) (s : State) (copied : Bool) (from to : ℕ) (g : Given md work s from to) where
  abbrev T : List ℕ
  T = text_of md work copied from to

  abbrev n : ℕ
  n = length md

  -- ---- a new paragraph
  placed_safe : (work₁ : List ℕ) (t : Text) → length work₁ ≡ length work → t.part.start ≤ t.part.end → Placed t.copied n t.part.start t.part.end → Safe md work₁ (placed s t)
  placed_safe work₁ t e o p = let u = g.safe in record { small = u.small; room = omega (arith, u.room); order = o; place = p; last = u.last }

  pub open_copied : (work₁ : List ℕ) → copied ≡ true → work₁ ≡ sets work n (text_of md work true from to) → (out : List ℕ)
      → Steps md work work₁ out out s (placed s (copied_at n (n + (to - from)))) 0 (to - from) (starts_with_text (chars T))
  unfolding text_of
  open_copied work₁ e f out =
      let m = (given_small md work s true from to (text_of md work true from to) g refl).1 in
      let b = g.bound in
      let u = g.safe.room in
      let o = g.order in
      let p : between work₁ n (n + (to - from)) ≡ text_of md work true from to =
      ap (λ (i : ℕ). between work₁ n (n + i)) (sym m)
      ∙ ap (λ (x : List ℕ). between x n (n + length (text_of md work true from to))) f
      ∙ stored_text md work (text_of md work true from to) n (omega arith)
      in
      record {
        holds = λ out₀ q v. record { stored = v.stored; end = v.end; last = v.last; paragraph = ap chars (rw e (sym p)) };
        safe = placed_safe work₁ (copied_at n (n + (to - from))) (ap length f ∙ length-sets work n (text_of md work true from to)) (omega arith) (refl, omega arith);
        grows = omega arith;
        short = omega arith;
      }

  -- ---- a line joins the paragraph
  module _ (some : s.text.part.start < s.text.part.end) (fits : (s.text.part.end - s.text.part.start) + 1 + (to - from) ≤ n) where
    abbrev k : ℕ
    k = s.text.part.end - s.text.part.start

    P_size : length (text_of md work s.text.copied s.text.part.start s.text.part.end) ≡ k
    P_size = text_length md work s.text.copied s.text.part.start s.text.part.end (safe_inside md work s g.safe)

    joined_chars : (a b : List ℕ) → 1 ≤ length a → chars (a ++ (32 ∷ b)) ≡ joined (chars a) (chars b)
    joined_chars a b h =
        chars_append a (32 ∷ b) refl
        ∙ ap (λ (l : List ℕ). chars a ++ l) (chars_ascii 32 b (omega arith))
        ∙ go (chars a) (empty_chars a ∙ not_empty a h)
      where
        go : (x : List ℕ) → is_empty x ≡ false → x ++ (32 ∷ chars b) ≡ joined x (chars b)
        go [] e = let z : ◌≡◌ {A = ℕ} 0 1 = cc in absurd (omega arith)
        go (c ∷ x) e = sym (append_assoc (c ∷ x) (32 ∷ []) (chars b))

    pub join_text : (work₁ work₂ work₃ : List ℕ) → Owned md work work₁ s → work₂ ≡ sets work₁ (n + k) (32 ∷ [])
        → work₃ ≡ sets work₂ (n + k + 1) (text_of md work₂ copied from to) → (out : List ℕ)
        → Steps md work work₃ out out s (placed s (copied_at n (n + k + 1 + (to - from)))) 0 (k + 1 + (to - from)) (paragraph (chars T))
    unfolding text_of paragraph
    join_text work₁ work₂ work₃ w e f out =
        let u = g.safe.room in
        let o = g.order in
        let z = w.size in
        let r₁ : n + k + 1 ≤ length work₁ = omega arith in
        let e₂ : between work₂ n (n + k + 1) ≡ between work₁ n (n + k) ++ (32 ∷ []) = rw e (sets_part work₁ (n + k) (32 ∷ []) r₁ n (omega arith)) in
        let b₂ : take n work₂ ≡ take n work = ap (take n) e ∙ sets_below work₁ (n + k) (32 ∷ []) r₁ n (omega arith) ∙ w.below in
        let z₂ : length work₂ ≡ length work₁ = ap length e ∙ length-sets work₁ (n + k) (32 ∷ []) in
        let t : text_of md work₂ copied from to ≡ T = text_below md work work₂ copied from to g.bound b₂ in
        let m = (given_small md work s copied from to T g refl).1 in
        let f₃ : work₃ ≡ sets work₂ (n + k + 1) T = f ∙ ap (sets work₂ (n + k + 1)) t in
        let r₂ : n + k + 1 + length T ≤ length work₂ = omega arith in
        let e₃ : between work₃ n (n + k + 1 + (to - from)) ≡ (between work₁ n (n + k) ++ (32 ∷ [])) ++ T =
        ap (λ (i : ℕ). between work₃ n (n + k + 1 + i)) (sym m)
        ∙ ap (λ (x : List ℕ). between x n (n + k + 1 + length T)) f₃
        ∙ sets_part work₂ (n + k + 1) T r₂ n (omega arith)
        ∙ ap (λ (l : List ℕ). l ++ T) e₂
        in
        let p : chars (between work₃ n (n + k + 1 + (to - from))) ≡ joined (chars (text_of md work s.text.copied s.text.part.start s.text.part.end)) (chars T) =
        ap chars (e₃ ∙ append_assoc (between work₁ n (n + k)) (32 ∷ []) T ∙ ap (λ (l : List ℕ). l ++ (32 ∷ T)) w.text)
        ∙ joined_chars (text_of md work s.text.copied s.text.part.start s.text.part.end) T (omega (arith, P_size))
        in
        record {
          holds = λ out₀ q v. record { stored = v.stored; end = v.end; last = v.last; paragraph = ap (λ (l : List ℕ). joined l (chars T)) v.paragraph ∙ sym p };
          safe = placed_safe work₃ (copied_at n (n + k + 1 + (to - from))) (ap length f₃ ∙ length-sets work₂ (n + k + 1) T ∙ z₂ ∙ z) (omega arith) (refl, omega arith);
          grows = omega arith;
          short = omega arith;
        }

-- ---- the paragraph copied
pub owned_there : (md work : List ℕ) (s : State) → Safe md work s → s.text.copied ≡ true → Owned md work work s
unfolding text_of
owned_there md work s u e =
    let p : (s.text.part.start ≡ length md) × (s.text.part.end ≤ length md + length md) = rw e at u.place in
    let q : length md + (s.text.part.end - s.text.part.start) ≡ s.text.part.end = omega (arith, p.0, u.order) in
    record { text = rw (q, e, p.0); below = refl; size = refl }

pub owned_copied : (md work work₁ : List ℕ) (s : State) → Safe md work s → s.text.copied ≡ false
    → work₁ ≡ sets work (length md) (text_of md work false s.text.part.start s.text.part.end) → Owned md work work₁ s
owned_copied md work work₁ s u e f =
    let t = text_of md work false s.text.part.start s.text.part.end in
    let i : Inside md s.text.part.start s.text.part.end = rw e at (safe_inside md work s u) in
    let m : length t ≡ s.text.part.end - s.text.part.start = text_length md work false s.text.part.start s.text.part.end i in
    let l = safe_long md work s u in
    let r : length md + length t ≤ length work = omega (arith, u.room) in
    record {
      text = rw (e, f, ← m) (stored_text md work t (length md) r);
      below = rw f (sets_below work (length md) t r (length md) (omega arith));
      size = rw f (length-sets work (length md) t);
    }

-- ---- a line of the open paragraph, or of a new one
pub add_first : (md work work₁ out : List ℕ) (s r : State) (cost from to : ℕ) (text : List ℕ) → s.text.part.start ≡ s.text.part.end
    → Steps md work work₁ out out s r cost (to - from) (starts_with_text text) → Steps md work work₁ out out s r cost (grown s + (to - from)) (paragraph text)
unfolding paragraph
add_first md work work₁ out s r cost from to text e a =
    record {
      holds = λ out₀ q v.
          let z : q.paragraph ≡ [] = v.paragraph ∙ text_none md work s.text.copied s.text.part.start s.text.part.end e in
          rw z (a.holds out₀ q v);
      safe = a.safe;
      grows = a.grows;
      short = omega (arith, a.short);
    }

pub add_more : (md work work₁ out : List ℕ) (s r : State) (cost from to : ℕ) (f : Reader → Reader) → s.text.part.start < s.text.part.end
    → Steps md work work₁ out out s r cost ((s.text.part.end - s.text.part.start) + 1 + (to - from)) f → Steps md work work₁ out out s r cost (grown s + (to - from)) f
add_more md work work₁ out s r cost from to f h a =
    record { holds = a.holds; safe = a.safe; grows = a.grows; short = omega (arith, a.short) }
