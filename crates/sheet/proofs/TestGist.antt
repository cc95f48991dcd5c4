-- What the code keeps of a text, a character at a time.
-- Assumes nothing.
use Rattle.std.proofs.Common.{◌≡◌, refl, sym, ◌∙◌, ap, ℕ, ◌+◌, arith, Bool, true, false, not, ◌&&◌, List, [], ◌∷◌, ◌++◌, eqb, length, Option as Maybe, Some, None}
use Rattle.std.proofs.Common.{if◌then◌else◌}
use mathlib.Core.Bool.{and_assoc, and-true as and_true_right}
use Rattle.text.specs.Words.{str}
use Rattle.text.specs.Utf8.{size, utf8, chars}
use Rattle.text.proofs.Laws.{utf8_size}
use Rattle.text.proofs.Utf8.{utf8_1}
use Rattle.html.specs.State.{special}
use Rattle.sheet.specs.Grammar.{singles, none_of}
use Rattle.sheet.specs.Written.{escaped}
use Rattle.sheet.specs.declared.count.Count.{Count}
use Rattle.sheet.specs.declared.passage.Edges.{Edges}
use Rattle.sheet.specs.declared.passage.Gist.{Gist}
use Rattle.sheet.specs.declared.reading.Read.{Read}
use Rattle.sheet.specs.Weight.{weight}
use Rattle.sheet.specs.Keeps.{IsCharacter, last_of, edges_of, of_edges, first_or, gist, pushed, Scanned}
use Rattle.sheet.specs.Reader.{char}
use Rattle.std.proofs.Math.Option.{none, some}
use Rattle.sheet.proofs.TestSays.{Got}
use Rattle.sheet.proofs.TestText.{TextTo, text_next, text_ends}
use Rattle.sheet.proofs.TestCount.{counts, weight_append}

-- ---- one character's written form
special_one : (c : ℕ) → special c ≡ true → weight (escaped (c ∷ [])) ≡ record { bytes = length (utf8 c) + 1; chars = 2 }
unfolding escaped weight size
special_one c h = rw h (let l = utf8_size c in let e = ap length (utf8_1 92 (omega arith)) in counts (omega arith) (omega arith))

pub weight_special : (c : ℕ) → special c ≡ true → {n : ℕ} → n ≡ length (utf8 c) → record { bytes = n + 1; chars = 2 } ≡ weight (escaped (c ∷ []))
weight_special c h e = sym (special_one c h ∙ counts (omega arith) refl)

pub weight_other : (c : ℕ) → special c ≡ false → {n : ℕ} → n ≡ length (utf8 c) → record { bytes = n; chars = 1 } ≡ weight (escaped (c ∷ []))
unfolding escaped weight size
weight_other c h {n} e = sym (rw h (let l = utf8_size c in counts (omega arith) (omega arith)))

-- ---- no text
pub gist_nil : record { count = record { bytes = 0; chars = 0 }; edges = None; single = true; calm = true } ≡ gist []
unfolding gist singles escaped weight size
gist_nil = refl

-- ---- one character more
escaped_append : (t u : List ℕ) → escaped (t ++ u) ≡ escaped t ++ escaped u
unfolding escaped
escaped_append [] u = refl
escaped_append (c ∷ t) u = rw (escaped_append t u) (sym (mathlib.Core.List.append_assoc (if special c then str "\\" ++ (c ∷ []) else c ∷ []) (escaped t) (escaped u)))

last_snoc : (a : ℕ) (t : List ℕ) (c : ℕ) → last_of a (t ++ (c ∷ [])) ≡ c
last_snoc a [] c = refl
last_snoc a (b ∷ t) c = last_snoc b t c

edges_snoc : (t : List ℕ) (c : ℕ) → edges_of (t ++ (c ∷ [])) ≡ Some (record { first = first_or c (edges_of t); last = c })
edges_snoc [] c = refl
edges_snoc (a ∷ t) c = ap (λ (l : ℕ). Some (record { first = a; last = l })) (last_snoc a t c)

after_blank : List ℕ → Bool
after_blank t = of_edges (λ e. eqb e.last 32) (edges_of t)

singles_snoc : (t : List ℕ) (c : ℕ) → singles (t ++ (c ∷ [])) ≡ singles t && not (after_blank t && eqb c 32)
unfolding singles after_blank
singles_snoc [] c = refl
singles_snoc (a ∷ []) c = and_true_right _
singles_snoc (a ∷ b ∷ t) c = ap (λ (x : Bool). not (eqb a 32 && eqb b 32) && x) (singles_snoc (b ∷ t) c) ∙ sym (and_assoc (not (eqb a 32 && eqb b 32)) (singles (b ∷ t)) _)

none_snoc : (f : ℕ → Bool) (t : List ℕ) (c : ℕ) → none_of f (t ++ (c ∷ [])) ≡ none_of f t && not (f c)
none_snoc f [] c = and_true_right (not (f c))
none_snoc f (a ∷ t) c = ap (λ (x : Bool). not (f a) && x) (none_snoc f t c) ∙ sym (and_assoc (not (f a)) (none_of f t) (not (f c)))

gists : {w w' : Count} {e e' : Maybe Edges} {s s' c c' : Bool} → w ≡ w' → e ≡ e' → s ≡ s' → c ≡ c'
    → ◌≡◌ {A = Gist} (record { count = w; edges = e; single = s; calm = c }) (record { count = w'; edges = e'; single = s'; calm = c' })
gists p q t u = cc

pub gist_snoc : (t : List ℕ) (c : ℕ) → gist (t ++ (c ∷ [])) ≡ pushed (gist t) c
unfolding gist after_blank
gist_snoc t c = gists (ap weight (escaped_append t (c ∷ [])) ∙ weight_append (escaped t) (escaped (c ∷ []))) (edges_snoc t c) (singles_snoc t c) (none_snoc special t c)

-- ---- the loop over the characters of a text: what was read of s up to m, and what is kept of it
pub record ScanTo (s m : List ℕ) (g : Gist) : Type 0 where
  pub read : List ℕ
  pub to : TextTo s read m
  pub kept : g ≡ gist read

pub scan_next : {s m : List ℕ} {g h : Gist} {v : Read ℕ} → ScanTo s m g → Got IsCharacter (char m) v → h ≡ pushed g v.value → ScanTo s (chars v.rest.now) h
scan_next {v = v} z l e =
    record {
      read = z.read ++ (v.value ∷ []);
      to = text_next v.value z.to (l.is ∙ ap (λ (q : List ℕ). some (q, chars v.rest.now)) l.value);
      kept = e ∙ ap (λ (g : Gist). pushed g v.value) z.kept ∙ sym (gist_snoc z.read v.value);
    }

pub scan_ends : {s : List ℕ} (v : Read Gist) → ScanTo s (chars v.rest.now) v.value → char (chars v.rest.now) ≡ none → Scanned s v
scan_ends v z e =
    let t = text_ends z.to e in
    record { value = z.kept ∙ ap gist (sym (ap (λ (y : List ℕ × List ℕ). y.0) t)); rest = ap (λ (y : List ℕ × List ℕ). y.1) t }
