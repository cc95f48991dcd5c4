-- The spans of a line have records: their texts are characters of the line, so scalar values where the line's are, and a text is empty only
-- in code.
-- Assumes nothing.
use mathlib.Core.Path.{◌≡◌, refl, sym, subst}
use Prim.Native.Nat.{ℕ, ◌^◌, ◌<◌}
use native.Mathlib.Omega.{arith}
use mathlib.Core.Bool.{Bool, true, false, ◌||◌}
use mathlib.Core.List.{List, [], ◌∷◌, Sublistᴰ}
use Rattle.text.specs.Utf8.{IsScalar, Scalars, size}
use Rattle.text.proofs.Laws.{scalars_split}
use Rattle.records.specs.Blocks.{Span, joined}
use Rattle.records.specs.Format.{non_empty, WfSpans}
use Rattle.spans.specs.Spans.{spans}
use Rattle.spans.specs.Shown.{HasText, Every}
use Rattle.spans.proofs.Turns.{texts}
use Rattle.spans.proofs.Bounds.{bytes, weigh_bytes, spans_texts}
use Rattle.spans.proofs.ShownLaws.{line_shown, spans_from}

scalars_sublist : {xs ys : List ℕ} → Sublistᴰ xs ys → Scalars ys → Scalars xs
scalars_sublist Sublistᴰ.slnil h = h
scalars_sublist (Sublistᴰ.cons d) h = scalars_sublist d h.1
scalars_sublist (Sublistᴰ.cons-cons e d) h = (subst IsScalar (sym e) h.0, scalars_sublist d h.1)

has_text : (t : List ℕ) (code : Bool) → (code ≡ false → t ≡ [] → ⊥) → non_empty t || code ≡ true
has_text (c ∷ t) code h = refl
has_text [] true h = refl
has_text [] false h = absurd (h refl refl)

wf_all : (ss : List Span) → Scalars (joined ss) → Every HasText ss → texts bytes ss < 2 ^ 32 → WfSpans ss
wf_all [] h e k = tt
wf_all (s ∷ ss) h e k =
    let p = scalars_split s.text (joined ss) h in (
      record { scalars = p.0; bounded = omega (arith, weigh_bytes s.text); shown = has_text s.text s.code e.0 },
      wf_all ss p.1 e.1 (omega arith),
    )

pub spans_wf : (cs : List ℕ) → Scalars cs → size cs < 2 ^ 32 → WfSpans (spans cs)
spans_wf cs h k = wf_all (spans cs) (scalars_sublist (spans_from cs) h) (line_shown cs).texts (omega (arith, spans_texts cs))
