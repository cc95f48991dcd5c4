-- What C is given for each answer: document 01's number and values, 0 where there is none.
-- Assumes nothing.
use Rattle.std.specs.Prelude.{ℕ, ◌-◌, Bool, map, replicate}
use mathlib.Core.List.{List}
use Rattle.std.proofs.Math.Option.{Option, none, some}
use Rattle.text.specs.Outcome.{Outcome, number, returned}
use Rattle.records.specs.Format.{bit}
use Rattle.walker.specs.Answers.{Answer, at_end, refused, gives, BlockValues, Emphasis}
use Rattle.walker.specs.Places.{HereValues}
use Rattle.text.specs.declared.parts.Part as T
use Rattle.codes.specs.Calls.{FoundValues}
use Rattle.sheet.specs.Calls as S
use Rattle.sheet.specs.Calls.{no_utf8, no_sheet, yes_sheet}
use Rattle.capi.specs.declared.values.Written.{Written}
use Rattle.capi.specs.declared.values.BlockAt.{BlockAt}
use Rattle.capi.specs.declared.values.SpanAt.{SpanAt}
use Rattle.capi.specs.declared.values.FirstAt.{FirstAt}
use Rattle.capi.specs.declared.values.HereAt.{HereAt}
use Rattle.capi.specs.declared.values.Part.{Part}
use Rattle.capi.specs.declared.values.SectionAt.{SectionAt}
use Rattle.capi.specs.declared.values.CodesFound.{CodesFound}
use Rattle.capi.specs.declared.values.Tested.{Tested}

abbrev pub written_of : ℕ → ℕ → Written
written_of number length = record { number = number; length = length }

abbrev pub written_struct : Outcome → Written
written_struct o = written_of (number o) (returned o)

abbrev pub or_0 : Option ℕ → ℕ
or_0 none = 0
or_0 (some n) = n

-- 1 a heading, which has a level; 3 an item, which has a depth; 2 a paragraph, which has neither
abbrev pub kind : Option ℕ → Option ℕ → ℕ
kind (some level) depth = 1
kind none (some depth) = 3
kind none none = 2

abbrev pub block_of : ℕ → ℕ → ℕ → ℕ → ℕ → ℕ → BlockAt
block_of number kind level depth count next = record { number = number; kind = kind; level = level; depth = depth; count = count; next = next }

abbrev pub block_struct : Answer BlockValues → BlockAt
block_struct at_end = block_of 0 0 0 0 0 0
block_struct (refused n) = block_of n 0 0 0 0 0
block_struct (gives v) = block_of 0 (kind v.level v.depth) (or_0 v.level) (or_0 v.depth) v.count v.next

-- 1 or 0
abbrev pub flag : Bool → ℕ
flag b = bit b 1

abbrev pub span_struct : Answer Emphasis → SpanAt
span_struct at_end = record { number = 0; kind = 0; bold = 0; italic = 0; code = 0 }
span_struct (refused n) = record { number = n; kind = 0; bold = 0; italic = 0; code = 0 }
span_struct (gives e) = record { number = 0; kind = 1; bold = flag e.bold; italic = flag e.italic; code = flag e.code }

abbrev pub first_struct : Answer ℕ → FirstAt
first_struct at_end = record { number = 0; at = 0 }
first_struct (refused n) = record { number = n; at = 0 }
first_struct (gives at) = record { number = 0; at = at }

abbrev pub here_struct : Answer HereValues → HereAt
here_struct at_end = record { number = 0; bold = 0; italic = 0; code = 0; start = 0; length = 0; next = 0 }
here_struct (refused n) = record { number = n; bold = 0; italic = 0; code = 0; start = 0; length = 0; next = 0 }
here_struct (gives v) =
    record {
      number = 0;
      bold = flag v.emphasis.bold;
      italic = flag v.emphasis.italic;
      code = flag v.emphasis.code;
      start = v.text.start;
      length = v.text.end - v.text.start;
      next = v.next;
    }

-- a part by its length
abbrev pub part_struct : T.Part → Part
part_struct r = record { start = r.start; length = r.end - r.start }

abbrev pub section_struct : Answer (Option T.Part) → SectionAt
section_struct at_end = record { number = 0; found = 0; start = 0; length = 0 }
section_struct (refused n) = record { number = n; found = 0; start = 0; length = 0 }
section_struct (gives none) = record { number = 0; found = 0; start = 0; length = 0 }
section_struct (gives (some r)) = record { number = 0; found = 1; start = r.start; length = r.end - r.start }

-- 1 or 0: whether a code has a number
abbrev pub is_found : Option ℕ → ℕ
is_found none = 0
is_found (some n) = 1

abbrev pub codes_of : ℕ → ℕ → List ℕ → List ℕ → CodesFound
codes_of number visited found blocks = record { number = number; visited = visited; found = found; blocks = blocks }

-- 16 codes, of which none is found
abbrev pub none_found : ℕ → CodesFound
none_found number = codes_of number 0 (replicate 16 0) (replicate 16 0)

abbrev pub codes_struct : Answer FoundValues → CodesFound
codes_struct at_end = none_found 0
codes_struct (refused n) = none_found n
codes_struct (gives v) = codes_of 0 v.visited (map is_found v.blocks) (map or_0 v.blocks)

abbrev pub sheet_struct : S.Tested → Tested
sheet_struct no_utf8 = record { number = 1; yes = 0; bytes = 0; characters = 0 }
sheet_struct no_sheet = record { number = 0; yes = 0; bytes = 0; characters = 0 }
sheet_struct (yes_sheet b c) = record { number = 0; yes = 1; bytes = b; characters = c }
