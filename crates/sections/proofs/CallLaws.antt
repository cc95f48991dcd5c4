-- What `section_at` and `section_range` answer, by the case of their callees' answers.
-- Assumes nothing.
use Prim.Native.Nat.{ℕ, zero-le}
use mathlib.Core.Path.{◌≡◌, refl}
use mathlib.Core.Bool.{true, false}
use mathlib.Core.List.{List}
use mathlib.Core.Option.{Option, none, some}
use Rattle.std.specs.Prelude.{Some, None, Ok, Err}
use Rattle.std.specs.Prelude as code
use Rattle.text.specs.Words.{case}
use Rattle.text.specs.Part.{Inside}
use Rattle.records.specs.Blocks.{Block}
use Rattle.records.specs.Decode.{Bytes, Parse, failed, parsed}
use Rattle.walker.specs.Answers.{Answer, at_end, refused, gives}
use Rattle.walker.specs.Places.{nowhere, range_or_none}
use Rattle.walker.specs.Decoded.{is_whole, of_blocks}
use Rattle.text.specs.declared.parts.Part.{Part}
use Rattle.walker.specs.declared.blocks.Broken.{Broken}
use Rattle.sections.specs.Calls.{section_answer, section_range, section_values}
use Rattle.sections.specs.Readers.{up_to}
use Rattle.sections.proofs.SectionTheorems.{section_found}

-- ---- `section_at`: once the end was found, all that is left is whether the rest is whole
module _ (s : List ℕ) (start end : ℕ) where
  pub end_whole : (p : Parse (List Block)) → is_whole p ≡ true → up_to start (of_blocks (λ bs. end) p) ≡ gives (some (record { start = start; end = end }))
  end_whole failed e = cc e
  end_whole (parsed bs r) e = refl

  pub end_broken : (p : Parse (List Block)) → is_whole p ≡ false → up_to start (of_blocks (λ bs. end) p) ≡ refused 7
  end_broken failed e = refl
  end_broken (parsed bs r) e = cc e

-- ---- `section_range`
module _ (s title : List ℕ) where
  abbrev pub range_in : code.Result (code.Option Part) Broken → Part
  range_in (Ok (Some r)) = r
  range_in (Ok None) = nowhere
  range_in (Err e) = nowhere

  pub range_is : (r : code.Result (code.Option Part) Broken) → section_values r ≡ section_answer s title → range_in r ≡ section_range s title
  unfolding section_range
  range_is (Ok (Some r)) g = rw (← g)
  range_is (Ok None) g = rw (← g)
  range_is (Err e) g = rw (← g)

  -- ---- `section`: the place is inside the records
  pub range_within : Bytes s → {r : Part} → r ≡ section_range s title → Inside s r.start r.end
  unfolding section_range
  range_within b e = rw e (by (section_answer s title) refl)
    where
      by : (a : Answer (Option Part)) → section_answer s title ≡ a → let r = range_or_none (λ o. case o nowhere (λ r. r)) a in Inside s r.start r.end
      by at_end e = record { order = zero-le; bound = zero-le }
      by (refused n) e = record { order = zero-le; bound = zero-le }
      by (gives none) e = record { order = zero-le; bound = zero-le }
      by (gives (some r)) e = (section_found s title b e).part.within
