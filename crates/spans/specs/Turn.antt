-- One turn of the loop of `spans` as data, its label read; and the record of a span whose text is bytes. The code reads bytes: every mark is
-- ASCII, so that the spans of a line's bytes are those of its characters (proofs/Bytes.antt).
-- Assumes nothing.
use Rattle.std.specs.Prelude.{ℕ, Bool, ◌||◌, List, [], ◌∷◌, ◌++◌, map, take}
use Rattle.records.specs.Blocks.{Span}
use Rattle.records.specs.Format.{span_form}
use Rattle.spans.specs.Spans.{Walk, Step, made, label, flush, cleared, carry}

-- the spans that it ends, what holds after it, and how many characters it took beyond the first
pub record Turn : Type 0 where
  pub spans : List Span
  pub walk : Walk
  pub more : ℕ

abbrev pub turn : List Span → Walk → ℕ → Turn
turn ss w n = record { spans = ss; walk = w; more = n }

-- a link's spans; a label without spans parts nothing
unfoldable pub linked : Walk → List Span → ℕ → Turn
linked w [] n = turn [] w n
linked w (l ∷ ls) n = turn (flush w ++ (l ∷ ls)) (cleared w) n

unfoldable pub turned : (List ℕ → List Span) → Walk → List ℕ → Step → Turn
turned inner w s (made out v n) = turn out v n
turned inner w s (label close n) = linked w (map (carry w) (inner (take close s))) n

-- the record of a span whose text is bytes, where b and i stand around it
abbrev pub record_of : Bool → Bool → Span → List ℕ
record_of b i s = span_form (s.bold || b) (s.italic || i) s.code s.text

unfoldable pub records_of : Bool → Bool → List Span → List ℕ
records_of b i [] = []
records_of b i (s ∷ ss) = record_of b i s ++ records_of b i ss
