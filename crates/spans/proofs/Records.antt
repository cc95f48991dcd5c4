-- Laws of the record form: of a list that is put together, under more emphasis, and how long it is.
-- Assumes nothing.
use mathlib.Core.Path.{◌≡◌, refl, sym, ap, ap₂, ◌∙◌}
use Prim.Native.Nat.{ℕ, ◌≤◌}
use native.Mathlib.Omega.{arith}
use mathlib.Core.Bool.{Bool, ◌||◌, or_assoc}
use mathlib.Core.List.{List, [], ◌∷◌, ◌++◌, map, append_assoc, append-nil}
use lib.ListN.{length, length-append}
use Rattle.records.specs.Blocks.{Span}
use Rattle.records.specs.Format.{text_form, span_form}
use Rattle.spans.specs.Spans.{Walk, carry}
use Rattle.spans.specs.Turn.{record_of, records_of}

pub rec_append : (b i : Bool) (xs ys : List Span) → records_of b i (xs ++ ys) ≡ records_of b i xs ++ records_of b i ys
unfolding records_of
rec_append b i [] ys = refl
rec_append b i (s ∷ xs) ys = ap (λ (l : List ℕ). record_of b i s ++ l) (rec_append b i xs ys) ∙ sym (append_assoc (record_of b i s) _ _)

-- the emphasis around a label's spans goes into their records
pub rec_carry : (b i : Bool) (w : Walk) (xs : List Span) → records_of b i (map (carry w) xs) ≡ records_of (w.bold || b) (w.italic || i) xs
unfolding records_of
rec_carry b i w [] = refl
rec_carry b i w (s ∷ xs) =
    ap₂ (λ (x y : Bool). (span_form x y s.code s.text) ++ records_of b i (map (carry w) xs))
    (or_assoc s.bold w.bold b) (or_assoc s.italic w.italic i)
    ∙ ap (λ (l : List ℕ). record_of (w.bold || b) (w.italic || i) s ++ l) (rec_carry b i w xs)

-- a span takes a byte at least
pub rec_count : (b i : Bool) (xs : List Span) → length xs ≤ length (records_of b i xs)
unfolding records_of
rec_count b i [] = omega arith
rec_count b i (s ∷ xs) = omega (arith, rec_count b i xs, length-append (text_form s.text) (records_of b i xs))

pub rec_one : (b i : Bool) (s : Span) → records_of b i (s ∷ []) ≡ record_of b i s
unfolding records_of
rec_one b i s = append-nil (record_of b i s)
