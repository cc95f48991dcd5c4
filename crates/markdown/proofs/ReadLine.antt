-- The steps of a line by its shape.
-- Assumes nothing.
use Prim.Native.Nat.{ℕ, ◌+◌, ◌-◌, ◌≤◌, ◌<◌}
use mathlib.Core.Option.{none}
use mathlib.Core.List.{List}
use mathlib.Core.Path.{◌≡◌, sym, ap, ◌∙◌, subst}
use native.Mathlib.Omega.{arith}
use lib.Dec.{eqb}
use lib.ListN.{length, get_or}
use Rattle.text.specs.Chars.{is_space}
use Rattle.text.specs.Utf8.{Scalars, chars}
use Rattle.text.specs.Trim.{trim}
use Rattle.records.specs.Blocks.{Item}
use Rattle.spans.specs.Spans.{spans}
use Rattle.markdown.specs.Blocks.{Reader, list_marker, heading, added, read_text, read_line}
use Rattle.text.specs.Part.{between, Inside}
use Rattle.markdown.specs.Parts.{source, text_of}
use Rattle.markdown.specs.Shape.{part_text, Trimmed, mark, MarkerAt}
use Rattle.markdown.specs.State.{grown, Given, LineGiven, Steps, ends}
use Rattle.text.specs.declared.Part.{Part}
use Rattle.markdown.specs.declared.shape.Marker.{Marker}
use Rattle.markdown.specs.declared.lines.Text.{Text}
use Rattle.markdown.specs.declared.writer.State.{State}
use Rattle.markdown.proofs.PartLaws.{part_all, part_part}
use Rattle.markdown.proofs.FitLaws.{scalars_trim}
use Rattle.markdown.proofs.ShapeLaws.{line_blank, line_hash, line_item, line_text}
use Rattle.markdown.proofs.StateLaws.{given_inside, text_length, steps_as}

module _ (md work : List ℕ) (s : State) (l : Text) (g : LineGiven md work s l) where
  abbrev L : List ℕ
  L = text_of md work l.copied l.part.start l.part.end

  whole_given : Given md work s l.part.start l.part.end
  whole_given = record { safe = g.safe; low = omega (arith, g.low); order = g.order; bound = g.bound }

  pub whole_inside : Inside (source l.copied md work) l.part.start l.part.end
  whole_inside = given_inside md work s l.copied l.part.start l.part.end whole_given

  module _ (text : List ℕ) (t : text ≡ L) (w : Part) (v : Trimmed text 0 (length text) w) where
    size : length text ≡ l.part.end - l.part.start
    size = ap length t ∙ text_length md work l.copied l.part.start l.part.end whole_inside

    pub line_small : length text ≤ 65536
    line_small = omega (arith, size, g.bound, g.safe.small)

    -- the line without its spaces, as a part of what the line is a part of
    pub words_in : l.part.start + w.end ≤ l.part.end
    words_in = omega (arith, size, v.high, g.order)

    pub words_given : Given md work s (l.part.start + w.start) (l.part.start + w.end)
    words_given =
        let o = v.order in
        record { safe = g.safe; low = omega (arith, g.low); order = omega arith; bound = omega (arith, words_in, g.bound) }

    pub words_fit : grown s + (l.part.start + w.end - (l.part.start + w.start)) ≤ length md
    words_fit = omega (arith, g.fits, words_in)

    words_text : between text w.start w.end ≡ text_of md work l.copied (l.part.start + w.start) (l.part.start + w.end)
    unfolding text_of
    words_text =
        ap (λ (x : List ℕ). between x w.start w.end) t
        ∙ part_part (source l.copied md work) l.part.start l.part.end w.start w.end (omega (arith, size, v.high))

    words : chars (between text w.start w.end) ≡ trim (chars text)
    words = v.text ∙ rw part_all

    pub words_scalars : Scalars (chars (text_of md work l.copied (l.part.start + w.start) (l.part.start + w.end)))
    words_scalars =
        subst (λ (x : List ℕ). Scalars (chars x)) words_text
        (subst Scalars (sym words) (scalars_trim is_space (chars text) (subst (λ (x : List ℕ). Scalars (chars x)) (sym t) g.scalars)))

    -- a step that does what the line's shape says
    module _ (work₁ out out₁ : List ℕ) (r : State) where
      abbrev Read : Type 0
      Read = Steps md work work₁ out out₁ s r 2000000 (grown s + (l.part.end - l.part.start)) (λ q. read_line q (chars L))

      step_line : (f : Reader → Reader) (cost long : ℕ) → ((q : Reader) → read_line q (chars text) ≡ f q) → cost ≤ 2000000 → long ≤ grown s + (l.part.end - l.part.start)
          → Steps md work work₁ out out₁ s r cost long f → Read
      step_line f cost long e c h a =
          steps_as md work work₁ out out₁ s r cost long 2000000 (grown s + (l.part.end - l.part.start)) f (λ q. read_line q (chars L)) c h
          (λ q. ap (λ (y : List ℕ). read_line q (chars y)) (sym t) ∙ e q) a

      pub step_blank : w.start ≡ w.end → Steps md work work₁ out out₁ s r 393221 0 ends → Read
      step_blank e a = step_line ends 393221 0 (line_blank text w.start w.end words e) (omega arith) (omega arith) a

      module _ (n : w.start ≡ w.end → ⊥) where
        some : w.start < w.end
        some = omega (arith, v.order)

        pub step_hash : get_or text w.start 0 ≡ 35
            → Steps md work work₁ out out₁ s r 800000 (l.part.start + w.end - (l.part.start + w.start))
            (heading (chars (text_of md work l.copied (l.part.start + w.start) (l.part.start + w.end)))) → Read
        step_hash e a =
            step_line _ 800000 (l.part.start + w.end - (l.part.start + w.start))
            (λ q. line_hash text w.start w.end words some v.high e q ∙ ap (λ (x : List ℕ). heading (chars x) q) words_text)
            (omega arith) (omega (arith, words_in)) a

        module _ (o : get_or text w.start 0 ≡ 35 → ⊥) where
          pub step_item : (m : Marker) → MarkerAt text m
              → Steps md work work₁ out out₁ s r 800000 0 (added (Item m.depth (mark (part_text text m.digits)) (spans (chars (part_text text m.text))))) → Read
          step_item m k a =
              step_line _ 800000 0 (line_item text w.start w.end words some v.high o m k) (omega arith) (omega arith) a

          pub step_text : list_marker (chars text) ≡ none
              → Steps md work work₁ out out₁ s r 2000000 (grown s + (l.part.start + w.end - (l.part.start + w.start)))
              (λ q. read_text q (eqb (get_or text 0 0) 32) (chars (text_of md work l.copied (l.part.start + w.start) (l.part.start + w.end)))) → Read
          step_text e a =
              step_line _ 2000000 (grown s + (l.part.start + w.end - (l.part.start + w.start)))
              (λ q. line_text text w.start w.end words some v.high o e q ∙ ap (λ (x : List ℕ). read_text q (eqb (get_or text 0 0) 32) (chars x)) words_text)
              (omega arith) (omega (arith, words_in)) a
