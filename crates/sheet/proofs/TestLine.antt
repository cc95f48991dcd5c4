-- The runs of a line, one by one, and what the code keeps of them.
-- Assumes nothing.
use Rattle.std.proofs.Common.{◌≡◌, refl, sym, ◌∙◌, ap, ℕ, ◌*◌, arith, Bool, true, false, not, cond, ◌&&◌, Option as Maybe, Some, None, is_some, List, [], ◌∷◌, ◌++◌}
use Rattle.std.proofs.Common.{append-nil, append_assoc, eqb, length, length-append}
use mathlib.Core.Bool.{and_assoc, and-true as and_true_right}
use Rattle.std.proofs.Math.Option.{none, some}
use Rattle.text.specs.Chars.{is_ascii, is_letter}
use Rattle.text.specs.Utf8.{size, chars}
use Rattle.text.proofs.Laws.{size_append}
use Rattle.records.specs.Format.{non_empty}
use Rattle.sheet.specs.Tree as T
use Rattle.sheet.specs.Tree.{Run, run}
use Rattle.sheet.specs.Grammar.{touch, apart, first_letter, last_no_blank, neat}
use Rattle.sheet.specs.Reader.{one_run, line}
use Rattle.sheet.specs.Written.{escaped, sign, written_run, written_runs}
use Rattle.sheet.specs.Weight.{weight, alike, added}
use Rattle.sheet.specs.Keeps.{edges_of, of_edges, gist, coded, IsRun, last_kind, runs_of, touches_last, joined_by}
use Rattle.sheet.specs.declared.count.Count.{Count}
use Rattle.sheet.specs.declared.reading.Read.{Read}
use Rattle.sheet.specs.declared.kind.Kind.{Kind}
use Rattle.sheet.specs.declared.line.Run as L
use Rattle.sheet.specs.declared.passage.Gist.{Gist}
use Rattle.sheet.specs.declared.line.Runs.{Runs}
use Rattle.sheet.proofs.AllChars.{all_sign}
use Rattle.sheet.proofs.TestCount.{ascii_marks, counts, size_ascii, weight_append}
use Rattle.sheet.proofs.TestMany.{every, ReadTo, to_none, to_more, to_stop}
use Rattle.sheet.proofs.TestSays.{Got}
use Rattle.sheet.proofs.TestRuns.{coded_kind, kind_coded, last_blank, first_letter_of}
use Rattle.sheet.proofs.Shrinks.{run_shrinks}

-- ---- no run
pub runs_nil : record { count = record { bytes = 0; chars = 0 }; last = None; apart = true; letter = false; solid = false } ≡ runs_of []
unfolding runs_of apart first_letter last_no_blank written_runs weight size
runs_nil = refl

-- ---- the written form of a run
weight_run : (k : T.Kind) (t : List ℕ) → weight (written_run (run k t)) ≡ added (alike (2 * length (sign k))) (weight (escaped t))
unfolding weight
weight_run k t =
    let s = size_ascii (sign k) (all_sign is_ascii ascii_marks k) in
    counts (omega (arith, size_append (sign k) (escaped t ++ sign k), size_append (escaped t) (sign k)))
    (omega (arith, length-append (sign k) (escaped t ++ sign k), length-append (escaped t) (sign k)))

written_snoc : (rs : List Run) (r : Run) → written_runs (rs ++ (r ∷ [])) ≡ written_runs rs ++ written_run r
unfolding written_runs
written_snoc [] r = append-nil (written_run r)
written_snoc (x ∷ rs) r = rw (written_snoc rs r) (sym (append_assoc (written_run x) (written_runs rs) (written_run r)))

-- ---- one run more
last_kind_snoc : (rs : List Run) (k : T.Kind) (t : List ℕ) → last_kind (rs ++ (run k t ∷ [])) ≡ Some (coded k)
last_kind_snoc [] k t = refl
last_kind_snoc (run l u ∷ []) k t = refl
last_kind_snoc (run l u ∷ r ∷ rs) k t = last_kind_snoc (r ∷ rs) k t

some_last : (rs : List Run) → non_empty rs ≡ is_some (last_kind rs)
some_last [] = refl
some_last (run l u ∷ []) = refl
some_last (run l u ∷ r ∷ rs) = some_last (r ∷ rs)

apart_snoc : (rs : List Run) (k : T.Kind) (t : List ℕ) → apart (rs ++ (run k t ∷ [])) ≡ apart rs && not (touches_last (last_kind rs) (coded k))
unfolding apart
apart_snoc [] k t = refl
apart_snoc (run l u ∷ []) k t = rw (← kind_coded l, ← kind_coded k) (and_true_right (not (touch l k)))
apart_snoc (run l u ∷ run m v ∷ rs) k t = ap (λ (x : Bool). not (touch l m) && x) (apart_snoc (run m v ∷ rs) k t) ∙ sym (and_assoc (not (touch l m)) (apart (run m v ∷ rs)) _)

letter_snoc : (rs : List Run) (k : T.Kind) (t : List ℕ) → first_letter (rs ++ (run k t ∷ [])) ≡ cond (non_empty rs) (first_letter rs) (of_edges (λ e. is_letter e.first) (edges_of t))
unfolding first_letter
letter_snoc [] k t = first_letter_of t
letter_snoc (run l u ∷ rs) k t = refl

solid_snoc : (rs : List Run) (k : T.Kind) (t : List ℕ) → last_no_blank (rs ++ (run k t ∷ [])) ≡ of_edges (λ e. not (eqb e.last 32)) (edges_of t)
unfolding last_no_blank
solid_snoc [] k t = last_blank t
solid_snoc (run l u ∷ []) k t = last_blank t
solid_snoc (run l u ∷ run m v ∷ rs) k t = solid_snoc (run m v ∷ rs) k t

rows : {w w' : Count} {k k' : Maybe Kind} {p p' l l' s s' : Bool} → w ≡ w' → k ≡ k' → p ≡ p' → l ≡ l' → s ≡ s'
    → ◌≡◌ {A = Runs} (record { count = w; last = k; apart = p; letter = l; solid = s }) (record { count = w'; last = k'; apart = p'; letter = l'; solid = s' })
rows p q t u v = cc

pub runs_snoc : (rs : List Run) (k : T.Kind) (t : List ℕ) → runs_of (rs ++ (run k t ∷ [])) ≡ joined_by (runs_of rs) (record { kind = coded k; text = gist t })
unfolding runs_of gist
runs_snoc rs k t =
    rows
    (ap weight (written_snoc rs (run k t)) ∙ weight_append (written_runs rs) (written_run (run k t)) ∙ ap (added (weight (written_runs rs))) (weight_run k t)
    ∙ ap (λ (k : T.Kind). added (weight (written_runs rs)) (added (alike (2 * length (sign k))) (weight (escaped t)))) (kind_coded k))
    (last_kind_snoc rs k t)
    (apart_snoc rs k t)
    (letter_snoc rs k t ∙ ap (λ (x : Bool). cond x (first_letter rs) (of_edges (λ e. is_letter e.first) (edges_of t))) (some_last rs))
    (solid_snoc rs k t)

-- what the code tests of a line's runs
abbrev neat_of : Runs → Bool
neat_of x = x.apart && x.letter && x.solid

pub neat_is : (rs : List Run) → neat_of (runs_of rs) ≡ neat rs
unfolding runs_of neat
neat_is rs = refl

-- ---- the loop over the runs of a line
pub record LineTo (s m : List ℕ) (x : Runs) : Type 0 where
  pub read : List Run
  pub to : ReadTo one_run s read m
  pub kept : x ≡ runs_of read

pub line_none : (s : List ℕ) {x : Runs} → x ≡ runs_of [] → LineTo s s x
line_none s e = record { read = []; to = to_none one_run s; kept = e }

a_run : (r : Run) (v : L.Run) → IsRun r v → (k : T.Kind) × (t : List ℕ) × (r ≡ run k t) × (v ≡ record { kind = coded k; text = gist t })
a_run (run k t) v h = (k, t, refl, runs_are (coded_kind v.kind ∙ ap coded (sym h.0)) h.1)
  where
    runs_are : {a b : Kind} {g h : Gist} → a ≡ b → g ≡ h → ◌≡◌ {A = L.Run} (record { kind = a; text = g }) (record { kind = b; text = h })
    runs_are p q = cc

pub line_next : {s m : List ℕ} {x y : Runs} {v : Read L.Run} → LineTo s m x → Got IsRun (one_run m) v → y ≡ joined_by x v.value → LineTo s (chars v.rest.now) y
line_next {v = v} z g e =
    let r = a_run g.what v.value g.value in
    record {
      read = z.read ++ (run r.0 r.1 ∷ []);
      to = to_more one_run run_shrinks z.to (g.is ∙ ap (λ (r : Run). some (r, chars v.rest.now)) r.2);
      kept = e ∙ cc (z.kept, r.3) ∙ sym (runs_snoc z.read r.0 r.1);
    }

module _ {s : List ℕ} (v : Read Runs) (z : LineTo s (chars v.rest.now) v.value) (e : one_run (chars v.rest.now) ≡ none) where
  all_read : every one_run s ≡ (z.read, chars v.rest.now)
  all_read = to_stop one_run z.to e

  neat_here : neat_of v.value ≡ neat z.read
  neat_here = ap neat_of z.kept ∙ neat_is z.read

  pub line_yes : neat_of v.value ≡ true → (l : List Run) × (line s ≡ some (l, chars v.rest.now)) × (v.value.count ≡ weight (written_runs l))
  unfolding line runs_of
  line_yes h = (z.read, rw (all_read, sym neat_here ∙ h), ap (λ (x : Runs). x.count) z.kept)

  pub line_no : neat_of v.value ≡ false → line s ≡ none
  unfolding line
  line_no h = rw (all_read, sym neat_here ∙ h)
