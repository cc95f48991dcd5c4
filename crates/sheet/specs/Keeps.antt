-- What the code keeps of a run's text, and of the runs of a line.
-- Assumes nothing.
use Rattle.std.specs.Prelude.{ℕ, ◌*◌, ◌≡◌, Bool, false, not, ◌&&◌, List, [], ◌∷◌, eqb, length, Some, None, is_some, if◌then◌else◌}
use Rattle.std.specs.Prelude.{Option as Maybe}
use Rattle.std.proofs.Math.Option.{some}
use Rattle.text.specs.Chars.{is_letter}
use Rattle.text.specs.Utf8.{chars}
use Rattle.html.specs.State.{special}
use Rattle.text.specs.Words.{◌>>=◌}
use Rattle.sheet.specs.Reading.{strip}
use Rattle.sheet.specs.Tree as T
use Rattle.sheet.specs.Tree.{run}
use Rattle.sheet.specs.Grammar.{singles, none_of, touch, apart, first_letter, last_no_blank}
use Rattle.sheet.specs.Reader.{Answer, text}
use Rattle.sheet.specs.Written.{escaped, sign, written_runs}
use Rattle.sheet.specs.Weight.{weight, alike, added}
use Rattle.sheet.specs.declared.reading.Read.{Read}
use Rattle.sheet.specs.declared.passage.Edges.{Edges}
use Rattle.sheet.specs.declared.passage.Gist.{Gist}
use Rattle.sheet.specs.declared.kind.Kind.{Kind}
use Rattle.sheet.specs.declared.kind.Kind.TheVariants.{Plain, Strong, Em, Both, Code}
use Rattle.sheet.specs.declared.line.Run.{Run}
use Rattle.sheet.specs.declared.line.Runs.{Runs}

-- a character of text, and the one it stands for
abbrev pub IsCharacter : List ℕ → ℕ → Type 0
IsCharacter t c = t ≡ c ∷ []

-- a tag, and the character that it stands for
abbrev pub spelt : List ℕ → ℕ → List ℕ → Answer (List ℕ)
spelt tag c s = strip tag s >>= λ r. some (c ∷ [], r)

-- the first and the last character, if there is one
abbrev pub last_of : ℕ → List ℕ → ℕ
last_of c [] = c
last_of c (d ∷ t) = last_of d t

abbrev pub edges_of : List ℕ → Maybe Edges
edges_of [] = None
edges_of (c ∷ t) = Some (record { first = c; last = last_of c t })

-- of a text: the counts of its written form, its first and its last character, whether no two bytes 32 stand together, and whether none of its
-- characters has to be escaped
unfoldable pub gist : List ℕ → Gist
gist t = record { count = weight (escaped t); edges = edges_of t; single = singles t; calm = none_of special t }

-- tests of a text's edges, false where it has no character
abbrev pub of_edges : (Edges → Bool) → Maybe Edges → Bool
of_edges f None = false
of_edges f (Some e) = f e

abbrev pub first_or : ℕ → Maybe Edges → ℕ
first_or c None = c
first_or c (Some e) = e.first

-- one character more
abbrev pub pushed : Gist → ℕ → Gist
pushed g c = record {
  count = added g.count (weight (escaped (c ∷ [])));
  edges = Some (record { first = first_or c g.edges; last = c });
  single = g.single && not (of_edges (λ e. eqb e.last 32) g.edges && eqb c 32);
  calm = g.calm && not (special c);
}

-- the text that the characters s begin with, as far as it goes
pub record Scanned (s : List ℕ) (r : Read Gist) : Type 0 where
  pub value : r.value ≡ gist (text s).0
  pub rest : (text s).1 ≡ chars r.rest.now

-- the code's kinds and the tree's
abbrev pub kind_of : Kind → T.Kind
kind_of Plain = T.plain
kind_of Strong = T.strong
kind_of Em = T.em
kind_of Both = T.both
kind_of Code = T.code

abbrev pub IsKind : T.Kind → Kind → Type 0
IsKind k l = k ≡ kind_of l

-- whether a text may stand in a run of a kind
abbrev pub edged : Gist → Bool
edged g = of_edges (λ e. not (eqb e.first 32) && not (eqb e.last 32)) g.edges

abbrev pub suits : T.Kind → Gist → Bool
suits T.plain g = g.single && is_some g.edges
suits T.strong g = g.single && edged g
suits T.em g = g.single && edged g
suits T.both g = g.single && edged g
suits T.code g = g.single && (edged g && g.calm)

-- a run: its kind, and what the code keeps of its text
abbrev pub IsRun : T.Run → Run → Type 0
IsRun (run k t) r = (k ≡ kind_of r.kind) × (r.text ≡ gist t)

-- of the runs of a line: the counts of their written form, the last one's kind, whether no two touch that must not, whether the first character is a
-- letter, and whether the last is another than 32
abbrev pub coded : T.Kind → Kind
coded T.plain = Plain
coded T.strong = Strong
coded T.em = Em
coded T.both = Both
coded T.code = Code

abbrev pub last_kind : List T.Run → Maybe Kind
last_kind [] = None
last_kind (run k t ∷ []) = Some (coded k)
last_kind (run k t ∷ r ∷ rs) = last_kind (r ∷ rs)

unfoldable pub runs_of : List T.Run → Runs
runs_of rs = record { count = weight (written_runs rs); last = last_kind rs; apart = apart rs; letter = first_letter rs; solid = last_no_blank rs }

-- one run more
abbrev pub touches_last : Maybe Kind → Kind → Bool
touches_last None k = false
touches_last (Some l) k = touch (kind_of l) (kind_of k)

abbrev pub joined_by : Runs → Run → Runs
joined_by x r = record {
  count = added x.count (added (alike (2 * length (sign (kind_of r.kind)))) r.text.count);
  last = Some r.kind;
  apart = x.apart && not (touches_last x.last r.kind);
  letter = if is_some x.last then x.letter else of_edges (λ e. is_letter e.first) r.text.edges;
  solid = of_edges (λ e. not (eqb e.last 32)) r.text.edges;
}
