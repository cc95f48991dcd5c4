-- The loop over the lines: the state stands for a reader, and what is left gives the blocks of the whole Markdown.
-- Assumes nothing.
use Prim.Native.Nat.{ℕ, ◌+◌, ◌*◌, ◌-◌, ◌≤◌, ◌<◌}
use mathlib.Core.Bool.{Bool, true, false}
use mathlib.Core.List.{List, [], ◌∷◌, reverse}
use mathlib.Core.Path.{◌≡◌, refl, sym, ap, ◌∙◌, subst}
use native.Mathlib.Omega.{arith}
use lib.ListN.{length, get_or, take, drop, drop_of_length-le}
use lib.Seq.{sets}
use Rattle.text.specs.Words.{drop_while, trim_end_matches}
use Rattle.text.specs.Utf8.{Scalars, chars, is_utf8}
use Rattle.text.proofs.Laws.{chars_nil, chars_append, scalars_split, scalars_drop}
use Rattle.text.proofs.FindLaws.{until_since, since_lead}
use Rattle.text.specs.Find.{until, since}
use Rattle.records.specs.Blocks.{Block}
use Rattle.records.specs.Format.{encode_blocks}
use Rattle.markdown.specs.Blocks.{Reader, reader, flush, cleaned, read_line, blocks}
use Rattle.text.specs.Part.{between}
use Rattle.markdown.specs.Parts.{source, text_of, LineIs}
use Rattle.markdown.specs.State.{fresh, Holds, Placed, Safe, grown, LineGiven, Steps, ends}
use Rattle.markdown.specs.declared.lines.Line.{Line}
use Rattle.markdown.specs.declared.writer.State.{State}
use Rattle.markdown.proofs.LineLaws.{after, chars_after, final, final_line, final_end}
use Rattle.markdown.proofs.StateLaws.{moved_safe}
use Rattle.markdown.proofs.Reading.{at_break}
use Rattle.text.proofs.AsciiLaws.{chars_ascii}
use Rattle.markdown.proofs.CommentLaws.{chars_cleaned}

pub record Reading (md work₀ work out₀ out : List ℕ) (i : ℕ) (s : State) : Type 0 where
  pub now : Reader
  pub holds : Holds md work out₀ out now s
  pub left : final now (chars (cleaned 0 (drop i md))) ≡ final (reader [] []) (chars (cleaned 0 md))
  pub scalars : Scalars (chars (cleaned 0 (drop i md)))
  pub safe : Safe md work s
  pub low : s.at ≤ 2097152 * i
  pub short : grown s ≤ i
  pub bound : i ≤ length md + 1
  pub work_size : length work ≡ length work₀
  pub out_size : length out ≡ length out₀

pub reading_none : (md work out : List ℕ) → length md ≤ 65536 → is_utf8 md ≡ true → 6 * length md ≤ length work → Reading md work work out out 0 fresh
unfolding encode_blocks text_of
reading_none md work out h e r =
    record {
      now = reader [] [];
      holds = record { stored = refl; end = refl; last = λ more. refl; paragraph = sym chars_nil };
      left = refl;
      scalars = (chars_cleaned md e).1;
      safe =
          record { small = h; room = r; order = omega arith; place = omega arith; last = tt };
      low = omega arith;
      short = omega arith;
      bound = omega arith;
      work_size = refl;
      out_size = refl;
    }

-- the paragraph stays where it is while the first part of the buffer changes
holds_kept : (md work work₁ out₀ out : List ℕ) (q : Reader) (s : State) → Safe md work s → drop (length md) work₁ ≡ drop (length md) work
    → Holds md work out₀ out q s → Holds md work₁ out₀ out q s
unfolding text_of
holds_kept md work work₁ out₀ out q s u e v =
    record { stored = v.stored; end = v.end; last = v.last; paragraph = v.paragraph ∙ ap chars (go s.text.copied u.place) }
  where
    go : (c : Bool) → Placed c (length md) s.text.part.start s.text.part.end
        → between (source c md work) s.text.part.start s.text.part.end ≡ between (source c md work₁) s.text.part.start s.text.part.end
    go true p = rw p.0 (ap (take (s.text.part.end - length md)) (sym e))
    go false p = refl

module _ (md work₀ work out₀ out : List ℕ) (i : ℕ) (s : State) (v : Reading md work₀ work out₀ out i s) where
  abbrev S : List ℕ
  S = cleaned 0 (drop i md)

  line_scalars : Scalars (chars (until 10 S)) × Scalars (chars (since 10 S))
  line_scalars =
      scalars_split (chars (until 10 S)) (chars (since 10 S))
      (subst Scalars (ap chars (sym (until_since 10 S)) ∙ chars_append (until 10 S) (since 10 S) (since_lead 10 (omega arith) S)) v.scalars)

  module _ (work₁ : List ℕ) (l : Line) (h : i < length md) (w : LineIs md i work work₁ l) (z : length work₁ ≡ length work) where
    pub reading_line : LineGiven md work₁ s l.text
    reading_line =
        record {
          safe = moved_safe md work work₁ s v.safe z;
          low = omega (arith, v.low, v.safe.small);
          order = w.order;
          bound = w.low;
          fits = omega (arith, v.short, w.short, w.bound, w.order);
          scalars = subst (λ (x : List ℕ). Scalars (chars x)) (sym w.bytes) line_scalars.0;
        }

    pub reading_next : (work₂ out₁ : List ℕ) (r : State) → length work₂ ≡ length work₁ → length out₁ ≡ length out
        → Steps md work₁ work₂ out out₁ s r 2000000 (grown s + (l.text.part.end - l.text.part.start)) (λ q. read_line q (chars (text_of md work₁ l.text.copied l.text.part.start l.text.part.end)))
        → Reading md work₀ work₂ out₀ out₁ l.next r
    reading_next work₂ out₁ r y x a =
        let q = v.now in
        let T = text_of md work₁ l.text.copied l.text.part.start l.text.part.end in
        let b = w.short in
        let o = w.order in
        record {
          now = read_line q (chars T);
          holds = a.holds out₀ q (holds_kept md work work₁ out₀ out q s v.safe w.kept v.holds);
          left =
              ap (λ (c : List ℕ). final (read_line q (chars T)) (chars c)) w.left
              ∙ ap (λ (c : List ℕ). final (read_line q (chars c)) (chars (after S))) w.bytes
              ∙ sym (final_line q S)
              ∙ v.left;
          scalars =
              subst (λ (c : List ℕ). Scalars (chars c)) (sym w.left)
              (subst Scalars (sym (chars_after S)) (scalars_drop 1 (chars (since 10 S)) line_scalars.1));
          safe = a.safe;
          low = omega (arith, a.grows, v.low);
          short = omega (arith, a.short, v.short);
          bound = w.bound;
          work_size = y ∙ z ∙ v.work_size;
          out_size = x ∙ v.out_size;
        }

  -- an empty line changes nothing where no paragraph is open
  pub reading_blank : i < length md → get_or md i 0 ≡ 10 → s.text.part.start ≡ s.text.part.end → Reading md work₀ work out₀ out (i + 1) s
  unfolding text_of read_line flush drop_while trim_end_matches
  reading_blank h e o =
      let c = at_break md i h e in
      let q : s.text.part.end - s.text.part.start ≡ 0 = omega arith in
      let p : v.now.paragraph ≡ [] = v.holds.paragraph ∙ rw (q, chars_nil) in
      let z : read_line v.now [] ≡ v.now = rw p in
      record {
        now = v.now;
        holds = v.holds;
        left = sym (ap (λ (x : List ℕ). final v.now (chars x)) c ∙ final_line v.now (10 ∷ cleaned 0 (drop (i + 1) md)) ∙ rw (chars_nil, z)) ∙ v.left;
        scalars = (subst Scalars (chars_ascii 10 (cleaned 0 (drop (i + 1) md)) (omega arith)) (subst (λ (x : List ℕ). Scalars (chars x)) c v.scalars)).1;
        safe = v.safe;
        low = omega (arith, v.low);
        short = omega (arith, v.short);
        bound = omega arith;
        work_size = v.work_size;
        out_size = v.out_size;
      }

  -- the end
  pub reading_end : (out₁ : List ℕ) (r : State) → is_utf8 md ≡ true → length md ≤ i → Steps md work work out out₁ s r 393221 0 ends
      → (r.at ≡ length (encode_blocks (blocks (chars md)))) × (out₁ ≡ sets out₀ 0 (encode_blocks (blocks (chars md))))
  unfolding blocks final cleaned
  reading_end out₁ r e h a =
      let q = v.now in
      let H = a.holds out₀ q v.holds in
      let d : chars (cleaned 0 (drop i md)) ≡ [] = ap (λ (x : List ℕ). chars (cleaned 0 x)) (drop_of_length-le md h) ∙ chars_nil in
      let f : flush q ≡ final (reader [] []) (cleaned 0 (chars md)) =
      sym (final_end q)
      ∙ ap (final q) (sym d)
      ∙ v.left
      ∙ ap (final (reader [] [])) (chars_cleaned md e).0
      in (
        H.end ∙ ap (λ (x : List Block). length (encode_blocks (reverse x))) f,
        H.stored ∙ ap (λ (x : List Block). sets out₀ 0 (encode_blocks (reverse x))) f,
      )
