-- The loop over a page: its invariant, and what a turn does to it.
-- Assumes nothing.
use Prim.Native.Nat.{ℕ, ◌+◌, ◌*◌, ◌^◌, ◌≤◌, ◌<◌}
use native.Mathlib.Omega.{arith}
use mathlib.Core.Path.{◌≡◌, refl, sym, ap, ◌∙◌, subst}
use mathlib.Core.Option.{Option, some, none}
use mathlib.Core.List.{List, [], ◌∷◌}
use lib.ListN.{length, get_or}
use Rattle.text.specs.Words.{◌>>=◌}
use Rattle.text.proofs.Laws.{size_chars, scalars_drop}
use Rattle.text.specs.Utf8.{Scalars, size, chars}
use Rattle.html.specs.State.{State, new}
use Rattle.html.specs.Page.{turn, loop}
use Rattle.html.specs.Struct.{state_of, lists_of, number, left}
use Rattle.html.specs.declared.converter.Converter.{Converter}
use Rattle.html.specs.declared.Turned.{Turned}
use Rattle.html.proofs.GrowLaws.{len_of, size_spaces}
use Rattle.html.proofs.StepLaws.{lists_is}
use Rattle.html.proofs.FitLaws.{Fit, fit_new, fit_more, OnTurn, turn_fit}
use Rattle.html.proofs.TurnLaws.{loop_left, loop_full, loop_end, kept}

top : (m : ℕ) (l : List ℕ) → get_or l 0 0 ≤ m → number l ≤ m
unfolding number
top m [] h = h
top m (n ∷ l) h = h

some_of : (cs : List ℕ) → 0 < size cs → 0 < length cs
unfolding size
some_of [] h = h
some_of (x ∷ cs) h = omega arith

pub record Going (html out : List ℕ) (c : Converter) (rest : List ℕ) : Type 0 where
  pub same : loop 0 (chars rest) (state_of c out) ≡ loop 0 (chars html) new
  pub valid : Scalars (chars rest)
  pub bound : length rest ≤ length html
  pub fit : Fit (2 * length html + 16384) (state_of c out)

pub going_new : (html out : List ℕ) (c : Converter) → state_of c out ≡ new → Scalars (chars html) → Going html out c html
going_new html out c e v =
    record {
      same = ap (loop 0 (chars html)) e;
      valid = v;
      bound = omega arith;
      fit = rw e (fit_more 0 (2 * length html + 16384) new (omega arith) fit_new);
    }

module _ (html out : List ℕ) (c : Converter) (rest : List ℕ) (g : Going html out c rest) where
  pub len_most : c.len ≤ 2 * length html + 16384
  len_most = omega (arith, len_of c out _ refl, g.fit.short)

  -- each item begun has left its number in the output, which is not full yet
  pub small_number : c.len < 16000 → number (lists_of c) ≤ 16000
  small_number h =
      let o = (state_of c out).out in
      let n : get_or (state_of c out).lists 0 0 ≤ 16000 = omega (arith, g.fit.small 0, size_spaces o, len_of c out _ refl) in
      rw (lists_is c out _ refl) (top 16000 (state_of c out).lists n)

  pub going_full : 16000 ≤ c.len → some (state_of c out) ≡ loop 0 (chars html) new
  going_full h = sym (loop_full (chars rest) (state_of c out) (omega (arith, len_of c out _ refl))) ∙ g.same

  pub going_end : length rest ≡ 0 → some (state_of c out) ≡ loop 0 (chars html) new
  going_end h = sym (loop_end rest (state_of c out) h) ∙ g.same

  module _ (p : 0 < length rest) (s : c.len < 16000) (out' : List ℕ) where
    rest_some : 0 < length (chars rest)
    rest_some = some_of (chars rest) (omega (arith, size_chars rest))

    whole : (o : Option (List ℕ × State)) → o ≡ left (chars rest) (turn (chars rest) (state_of c out))
        → (o >>= λ p. loop 0 p.0 p.1) ≡ loop 0 (chars html) new
    whole o e =
        ap (λ (x : Option (List ℕ × State)). x >>= λ p. loop 0 p.0 p.1) e
        ∙ sym (loop_left (chars rest) (state_of c out) rest_some (omega (arith, len_of c out _ refl)))
        ∙ g.same

    pub going_refused : none ≡ left (chars rest) (turn (chars rest) (state_of c out)) → none ≡ loop 0 (chars html) new
    going_refused e = whole none e

    pub going_next : (r : Turned) → some (chars r.rest.now, state_of r.state out') ≡ left (chars rest) (turn (chars rest) (state_of c out))
        → length r.rest.now ≤ length rest → Going html out' r.state r.rest.now
    going_next r e b =
        let k = kept (chars rest) (chars r.rest.now) (state_of c out) (state_of r.state out') e in
        let n : get_or (state_of c out).lists 0 0 < 2 ^ 64 = omega (arith, g.fit.small 0, size_spaces (state_of c out).out, len_of c out _ refl) in
        let now : Fit 15999 (state_of c out) = record { few = g.fit.few; small = g.fit.small; short = omega (arith, len_of c out _ refl) } in
        let f = turn_fit 15999 (chars rest) (state_of c out) now n in
        let z = subst (OnTurn (Fit (15999 + 150 + 2 * size (chars rest)))) k.is f in
        record {
          same = whole (some (chars r.rest.now, state_of r.state out')) e;
          valid = subst Scalars k.rest (scalars_drop k.count (chars rest) g.valid);
          bound = omega (arith, b, g.bound);
          fit = fit_more (15999 + 150 + 2 * size (chars rest)) (2 * length html + 16384) (state_of r.state out') (omega (arith, size_chars rest, g.bound)) z;
        }
