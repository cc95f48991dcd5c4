-- The laws of `specs/Put.antt`.
-- Assumes nothing.
use Prim.Native.Nat.{ℕ, ◌+◌, ◌≤◌, ◌<◌}
use mathlib.Core.Bool.{false}
use mathlib.Core.List.{List, [], ◌∷◌, ◌++◌, append_assoc}
use mathlib.Core.Path.{◌≡◌, sym, ap, ◌∙◌}
use borrow.Author.Tests.{lt-ltb, le-ltb, le-leb, lt-leb}
use native.Mathlib.Omega.{arith}
use lib.Dec.{ltb, leb}
use lib.ListN.{length, take, drop}
use lib.Seq.{sets, sets-eq}
use Rattle.text.proofs.Tests.{and_false}
use Rattle.text.specs.Utf8.{utf8}
use Rattle.text.specs.Put.{BytesOf, room_for, put_size, put_at}
use Rattle.text.specs.declared.decoding.Four.{Four}

module _ (out : List ℕ) (at c : ℕ) where
  -- a character that has room is written
  pub put_yes : c < 0x110000 → at + length (utf8 c) ≤ length out
      → (length (utf8 c) ≡ put_size (length out) at c) × (sets out at (utf8 c) ≡ put_at out at c)
  unfolding room_for put_size put_at
  put_yes h l = (simp (lt-ltb c 0x110000 h, le-leb _ _ l), simp (lt-ltb c 0x110000 h, le-leb _ _ l))

  -- by as many bytes as it has
  pub put_bytes : {f : Four} {k : ℕ} → c < 0x110000 → BytesOf c f → k ≡ length (utf8 c) → at + k ≤ length out → (n : ℕ) → k ≡ n
      → (k ≡ put_size (length out) at c) × (sets out at (take n (f.a ∷ f.b ∷ f.c ∷ f.d ∷ [])) ≡ put_at out at c)
  put_bytes {f} {k} h b w l n e =
      let y = put_yes h (omega arith) in
      let q : utf8 c ≡ take n (f.a ∷ f.b ∷ f.c ∷ f.d ∷ []) = b.bytes ∙ ap (λ (m : ℕ). take m (f.a ∷ f.b ∷ f.c ∷ f.d ∷ [])) (sym w ∙ e) in
      (w ∙ y.0, ap (sets out at) (sym q) ∙ y.1)

  no_room : length out < at + length (utf8 c) → room_for (length out) at c ≡ false
  unfolding room_for
  no_room l = and_false (ltb c 0x110000) (leb (at + length (utf8 c)) (length out)) (lt-leb _ _ l)

  -- nothing is written where there is no room, or no character
  pub put_no_room : length out < at + length (utf8 c) → (0 ≡ put_size (length out) at c) × (out ≡ put_at out at c)
  unfolding put_size put_at
  put_no_room l = (rw (no_room l), rw (no_room l))

  pub put_no_char : 0x10FFFF < c → (0 ≡ put_size (length out) at c) × (out ≡ put_at out at c)
  unfolding room_for put_size put_at
  put_no_char h = (simp (le-ltb c 0x110000 (omega arith)), simp (le-ltb c 0x110000 (omega arith)))

  -- what is written, between what stood before and after
  pub put_parts : at + length (utf8 c) ≤ length out
      → sets out at (utf8 c) ≡ take at out ++ (utf8 c ++ drop (at + length (utf8 c)) out)
  put_parts l = sets-eq (utf8 c) out at l ∙ append_assoc (take at out) (utf8 c) (drop (at + length (utf8 c)) out)
