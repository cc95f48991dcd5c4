-- The number and values of an answer determine its case.
-- Assumes nothing.
use mathlib.Core.Path.{◌≡◌, refl, sym, ap, ◌∙◌}
use mathlib.Core.Option.{Option, none, some}
use Rattle.std.specs.Prelude.{Some, None, Ok, Err}
use Rattle.std.specs.Prelude as code
use Rattle.text.specs.declared.parts.Part.{Part}
use Rattle.walker.specs.Answers.{Answer, at_end, refused, gives}
use Rattle.walker.specs.declared.blocks.Broken.{Broken}
use Rattle.sections.specs.Calls.{section_values}

section_case : Answer (Option Part) → code.Result (code.Option Part) Broken
section_case at_end = Err (record {})
section_case (refused n) = Err (record {})
section_case (gives none) = Ok None
section_case (gives (some r)) = Ok (Some r)

section_back : (r : code.Result (code.Option Part) Broken) → section_case (section_values r) ≡ r
unfolding section_case
section_back (Ok (Some r)) = refl
section_back (Ok None) = refl
section_back (Err e) = refl

pub section_values_one : (q r : code.Result (code.Option Part) Broken) → section_values q ≡ section_values r → q ≡ r
section_values_one q r e = sym (section_back q) ∙ ap section_case e ∙ section_back r
