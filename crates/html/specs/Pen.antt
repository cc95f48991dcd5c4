-- What the code writes text with: the output's length, the pending space and whether nothing of the text has been written yet; and the character
-- that it reads, a reference replaced.
-- Assumes nothing.
use Rattle.std.specs.Prelude.{ℕ, ◌+◌, ◌-◌, ◌*◌, ◌≤◌, ◌<◌, Bool, false, ◌&&◌, ◌||◌, not, List, ◌∷◌, ◌≡◌, ltb, length, get_or, drop}
use Rattle.text.specs.Words.{is}
use Rattle.text.specs.Chars.{within}
use Rattle.text.specs.Utf8.{IsScalar, Scalars, utf8, chars}
use Rattle.reference.specs.Unescape.{unescape}
use Rattle.html.specs.State.{State, with_out, line_start, special, put_all}
use Rattle.html.specs.Struct.{out_of, pending}
use Rattle.html.specs.declared.words.Pen.{Pen}
use Rattle.html.specs.declared.words.Piece.{Piece}

-- a state whose output and pending space are the pen's
unfoldable pub pen_state : State → Pen → List ℕ → State
pen_state c p w = with_out (out_of p.len w) p.space c

-- an ASCII character that is written as it is behind another one: in `pre` any but `&`, elsewhere also no space and none that is escaped anywhere
unfoldable pub plain : Bool → ℕ → Bool
plain pre b = ltb b 0x80 && not (is "&" b) && (pre || not (within 9 13 b || is " " b || special b))

-- a character above ASCII stands at an offset of a text that is UTF-8
abbrev pub AboveAscii : List ℕ → ℕ → Type 0
AboveAscii s i = (i < length s) × (Scalars (chars (drop i s)) × (0x80 ≤ get_or s i 0))

-- the character at an offset, and the offset behind it
pub record Unescaped (s : List ℕ) (i : ℕ) (r : Piece) : Type 0 where
  pub is : unescape 0 (chars (drop i s)) ≡ r.code ∷ unescape 0 (chars (drop r.next s))
  pub scalar : IsScalar r.code
  pub size : i + length (utf8 r.code) ≤ r.next
  pub bound : r.next ≤ length s
  pub valid : Scalars (chars (drop r.next s))

-- something of the text is written already, and so what follows is not at the start of a line
abbrev pub Behind : Bool → Pen → List ℕ → Type 0
Behind pre p out = (p.first ≡ false) × (pre ≡ false → line_start (out_of p.len out) ≡ false)

-- the characters from an offset on are still to be written by the pen, in the room that they may take; all of them together make the state t
pub record Inking (raw : List ℕ) (s t : State) (most : ℕ) (out : List ℕ) (p : Pen) (i : ℕ) : Type 0 where
  pub same : put_all p.first (unescape 0 (chars (drop i raw))) (pen_state s p out) ≡ t
  pub valid : Scalars (chars (drop i raw))
  pub bound : i ≤ length raw
  pub room : p.len + pending p.space + 2 * (length raw - i) ≤ most
