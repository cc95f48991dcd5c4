-- What the functions below `spans` answer and store.
-- Assumes nothing.
use Rattle.std.specs.Prelude.{◌≡◌, ℕ, zero, suc, ◌+◌, ◌-◌, ◌*◌, ◌^◌, ◌<◌, ◌≤◌, Bool, true, false, not, ◌&&◌, ◌||◌, eqb, List, [], ◌∷◌, reverse, length, drop, get_or, ltb, if◌then◌else◌}
use Rattle.std.specs.Prelude.{Some, None}
use Rattle.std.specs.Prelude as code
use Rattle.std.proofs.Math.Option.{Option, none, some}
use Rattle.std.proofs.lemmas.List.Edits.{sets}
use Rattle.text.specs.Words.{index}
use Rattle.text.specs.Find.{found}
use Rattle.records.specs.Blocks.{Span}
use Rattle.records.specs.Format.{le32}
use Rattle.spans.specs.Spans.{Walk, at, span, kept, step, link, spans}
use Rattle.spans.specs.Turn.{Turn, turned, record_of, records_of}
use Rattle.spans.specs.declared.Link.{Link}
use Rattle.spans.specs.declared.Seen.{Seen}
use Rattle.spans.specs.declared.Emphasis.{Emphasis}
use Rattle.spans.specs.declared.State.{State}
use Rattle.spans.specs.declared.Written.{Written}

-- ---- searches

-- the first x of s at or after i
unfoldable pub next_at : ℕ → List ℕ → ℕ → code.Option ℕ
next_at x s i = found i (index (x ∷ []) (drop i s))

-- a link's places, counted from the start of the line
abbrev pub placed : ℕ → Option (ℕ × ℕ) → code.Option Link
placed from none = None
placed from (some p) = Some (record { close = from + p.0; end = from + p.1 })

abbrev pub link_at : List ℕ → ℕ → code.Option Link
link_at s from = placed from (link (drop from s))

-- no x stands from `low` on below `high`: every search that starts there finds what the one from `high` on finds
pub record Clear (x : ℕ) (s : List ℕ) (low high : ℕ) : Type 0 where
  pub ordered : low ≤ high
  pub same : (j : ℕ) → low ≤ j → j ≤ high → next_at x s j ≡ next_at x s high

-- the same from `low` on, where that is below `high`
abbrev pub Past : ℕ → List ℕ → ℕ → ℕ → Type 0
Past x s low high = (j : ℕ) → low ≤ j → j ≤ high → next_at x s j ≡ next_at x s high

-- what the searches of a line have read, where the walk goes on from `from`: up to their offsets the marks do not stand,
-- and the `)` does not behind any `]` that is to come
pub record Known (s : List ℕ) (from : ℕ) (seen : Seen) : Type 0 where
  pub close : Past 93 s from seen.close
  pub end : (k : ℕ) → from ≤ k → get_or s k 0 ≡ 93 → Past 41 s (k + 2) seen.end
  pub tick : Past 96 s from seen.tick

-- ---- steps

-- the head of pending text of n bytes: none where it is empty
abbrev pub head : ℕ → ℕ → List ℕ
head m zero = []
head m (suc n) = m ∷ le32 (suc n)

-- the emphasis at a state, with that around the line
abbrev pub within : State → Emphasis → Emphasis
within w around = record { bold = w.bold || around.bold; italic = w.italic || around.italic }

-- the state at another byte, with another emphasis
abbrev pub moved_to : State → ℕ → Emphasis → State
moved_to w i e = record { i = i; at = w.at; len = w.len; count = w.count; bold = e.bold; italic = e.italic }

-- the state after spans that end at another place, with no pending text
abbrev pub ended_at : State → ℕ → ℕ → ℕ → State
ended_at w i at count = record { i = i; at = at; len = 0; count = count; bold = w.bold; italic = w.italic }

-- a byte more of pending text
abbrev pub push_of : State → ℕ → State
push_of w used = record { i = w.i + used; at = w.at; len = w.len + 1; count = w.count; bold = w.bold; italic = w.italic }

-- n bytes more of pending text
abbrev pub push_all_of : State → ℕ → State
push_all_of w n = record { i = w.i + n; at = w.at; len = w.len + n; count = w.count; bold = w.bold; italic = w.italic }

-- pending text of n bytes, ended
abbrev pub flush_by : ℕ → State → State
flush_by zero w = w
flush_by (suc n) w = ended_at w w.i (w.at + 5 + w.len) (w.count + 1)

abbrev pub flush_of : State → State
flush_of w = flush_by w.len w

-- a span of code, and the state after it
abbrev pub code_span : State → List ℕ → Span
code_span w t = span true (at w.bold w.italic []) t

abbrev pub code_of : State → ℕ → Bool → Bool → List ℕ → State
code_of w next b i t = ended_at w next (w.at + length (record_of b i (code_span w t))) (w.count + 1)

-- how many bytes pending text of n bytes takes with its head
abbrev pub pend : ℕ → ℕ
pend zero = 0
pend (suc n) = 5 + suc n

-- a link, whose label gave n spans
abbrev pub link_by : ℕ → State → Written → ℕ → State
link_by zero w label next = record { i = next; at = w.at; len = w.len; count = w.count; bold = w.bold; italic = w.italic }
link_by (suc n) w label next = ended_at w next label.next ((flush_of w).count + label.count)

abbrev pub link_to : State → Written → ℕ → State
link_to w label next = link_by label.count w label next

abbrev pub link_head : ℕ → ℕ → ℕ → List ℕ
link_head m len zero = []
link_head m len (suc n) = head m len

-- ---- a turn of the code against a turn of the walk

-- the walk stands in the line, and the numbers stay small
pub record Ready (line : List ℕ) (w : State) : Type 0 where
  pub inside : w.i < length line
  pub room : w.at + 6 * w.len + 6 * (length line - w.i) < 2 ^ 62
  pub few : w.count ≤ w.at

-- the turn of the walk at the state's place, with the pending text, last byte first
abbrev pub walk_of : State → List ℕ → Walk
walk_of w text = at w.bold w.italic text

unfoldable pub turn_at : List ℕ → State → List ℕ → Turn
turn_at line w text =
    turned spans (walk_of w text) (drop (w.i + 1) line) (step (walk_of w text) (get_or line w.i 0) (drop (w.i + 1) line))

-- the state after a turn
abbrev pub state_after : Bool → Bool → State → Turn → State
state_after b i w s =
    record { i = w.i + 1 + s.more; at = w.at + length (records_of b i s.spans); len = length s.walk.text; count = w.count + length s.spans; bold = s.walk.bold; italic = s.walk.italic }

-- From w to w' and from out to out' the turn s was made: its spans are stored at the state's place, and then its pending text behind a gap.
pub record Made (b i : Bool) (w : State) (out text : List ℕ) (s : Turn) (w' : State) (out' : List ℕ) : Type 0 where
  pub state : w' ≡ state_after b i w s
  pub bytes : (base : List ℕ) → out ≡ sets base (w.at + 5) (reverse text)
      → out' ≡ sets (sets base w.at (records_of b i s.spans)) (w.at + length (records_of b i s.spans) + 5) (reverse s.walk.text)

-- the turn at the state's place was made, whatever the pending text is
abbrev pub Does : Emphasis → List ℕ → State → List ℕ → State → List ℕ → Type 0
Does around line w out w' out' = (text : List ℕ) → w.len ≡ length text → Made around.bold around.italic w out text (turn_at line w text) w' out'

-- ---- bytes that are text

-- the byte at i is kept as it stands
abbrev pub TextAt : List ℕ → ℕ → Type 0
TextAt line i = (w : Walk) → step w (get_or line i 0) (drop (i + 1) line) ≡ kept w (get_or line i 0)

-- `!` with `[` after it
pub record BangAt (line : List ℕ) (i : ℕ) : Type 0 where
  pub bang : get_or line i 0 ≡ 33
  pub bracket : get_or line (i + 1) 0 ≡ 91

-- whether the byte at i is text; what is neither text nor a backslash, a backtick, a star or `[` is such a `!`
abbrev pub PlainIs : List ℕ → ℕ → Bool → Type 0
PlainIs line i true = TextAt line i
PlainIs line i false = (get_or line i 0 ≡ 92 → ⊥) → (get_or line i 0 ≡ 96 → ⊥) → (get_or line i 0 ≡ 42 → ⊥) → (get_or line i 0 ≡ 91 → ⊥) → BangAt line i

-- a byte that is text wherever it stands
unfoldable pub unmarked : ℕ → Bool
unmarked b = not (eqb b 92 || eqb b 96 || eqb b 42 || eqb b 91) && not (eqb b 33)

-- the bytes from i on below r are text
pub record PlainTo (line : List ℕ) (i r : ℕ) : Type 0 where
  pub low : i ≤ r
  pub high : r ≤ length line
  pub text : (k : ℕ) → i ≤ k → k < r → TextAt line k

-- ---- the records of spans, stored from `at` on
abbrev pub Wrote : List Span → Emphasis → ℕ → List ℕ → List ℕ → Written → Type 0
Wrote ss around at out out' r =
    (r.next ≡ at + length (records_of around.bold around.italic ss))
    × ((r.count ≡ length ss) × (out' ≡ sets out at (records_of around.bold around.italic ss)))
