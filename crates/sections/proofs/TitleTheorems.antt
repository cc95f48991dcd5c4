-- A title by its characters: a heading has it exactly if it decodes to the heading's joined text, so that a title which is not UTF-8 is none's.
-- Assumes nothing.
use Prim.Native.Nat.{ℕ}
use mathlib.Core.Path.{◌≡◌, sym, subst, ◌∙◌}
use mathlib.Core.Bool.{false}
use mathlib.Core.Logic.{◌↔◌}
use mathlib.Core.List.Memᴰ
use mathlib.Core.List.{List, [], ◌∷◌, ◌++◌, Memᴰ}
use mathlib.Core.Option.{none, some}
use mathlib.Core.Logic.{⊎_elim}
use Rattle.text.specs.Utf8.{Scalars, encode, is_utf8, decode}
use Rattle.text.proofs.Laws.{decode_iff, decode_false}
use Rattle.records.specs.Blocks.{Span, Block, joined}
use Rattle.records.specs.Format.{WfSpans, WfBlock, WfBlocks}
use Rattle.records.specs.Decode.{Bytes, parsed, decode_blocks}
use Rattle.records.proofs.RoundTrip.{decoded_are_records}
use Rattle.walker.specs.Answers.{gives}
use Rattle.sections.specs.Sections.{section_of, NoHeading}
use Rattle.sections.specs.Calls.{section_place, section_answer}
use Rattle.sections.proofs.SectionLaws.{none_iff, not_none}

scalars_append : (xs ys : List ℕ) → Scalars xs → Scalars ys → Scalars (xs ++ ys)
scalars_append [] ys v w = w
scalars_append (x ∷ xs) ys v w = (v.0, scalars_append xs ys v.1 w)

joined_scalars : (xs : List Span) → WfSpans xs → Scalars (joined xs)
joined_scalars [] w = tt
joined_scalars (x ∷ xs) w = scalars_append x.text (joined xs) w.0.scalars (joined_scalars xs w.1)

pub title_iff : (title : List ℕ) (xs : List Span) → WfSpans xs → (encode (joined xs) ≡ title) ↔ (decode title ≡ some (joined xs))
title_iff title xs w =
    let (there, back) = decode_iff title (joined xs) in
    (λ e. back (joined_scalars xs w, e), λ e. (there e).1)

heading_wf : (bs : List Block) {b : Block} → WfBlocks bs → Memᴰ b bs → WfBlock b
heading_wf [] w m = absurd (Memᴰ.not-nil m)
heading_wf (c ∷ bs) w m = ⊎_elim (λ e. subst WfBlock (sym e) w.0) (λ n. heading_wf bs w.1 n) (Memᴰ.cases_cons m)

-- a title that is not UTF-8 is answered by none, and not by a refusal
no_utf8_none : (title : List ℕ) (bs : List Block) → WfBlocks bs → is_utf8 title ≡ false → section_of title bs ≡ none
no_utf8_none title bs w u = (none_iff title bs).1 no
  where
    no : NoHeading title bs
    no l xs m e = not_none (sym (decode_false title u) ∙ (title_iff title xs (heading_wf bs w m).spans).0 e)

pub not_utf8_missing : (s title : List ℕ) {bs : List Block} → Bytes s → decode_blocks s ≡ parsed bs [] → is_utf8 title ≡ false → section_answer s title ≡ gives none
unfolding section_answer section_place
not_utf8_missing s title {bs} b d u = rw (d, no_utf8_none title bs (decoded_are_records s d b).1 u)
