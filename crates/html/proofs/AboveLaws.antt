-- The bytes of a character above ASCII, in a text that is UTF-8, and what the code makes of them.
-- Assumes nothing.
use Prim.Native.Nat.{ℕ, ◌+◌, ◌-◌, ◌*◌, ◌/◌, ◌%◌, ◌≤◌, ◌<◌}
use native.Mathlib.Omega.{arith}
use native.Mathlib.Nat.{add-zero}
use native.Mathlib.Numerals.{add-one, add-two, add-three}
use mathlib.Core.Path.{◌≡◌, refl, sym, ap, ◌∙◌, subst}
use mathlib.Core.List.{List, [], ◌∷◌, ◌++◌}
use lib.ListN.{length, get_or, set, take, drop}
use lib.Seq.{sets, get_or-take, get_or-append-add, length-take-le}
use Rattle.text.specs.Utf8.{Scalars, utf8, chars, code_at}
use Rattle.text.proofs.Utf8.{utf8_1, utf8_2, utf8_3, utf8_4, ranges, top}
use Rattle.text.proofs.Laws.{turn_is}
use Rattle.html.specs.Pen.{Unescaped}
use Rattle.html.specs.Struct.{out_of}
use Rattle.html.proofs.OutLaws.{out_put}
use Rattle.html.proofs.TextLaws.{piece, piece_other}

-- the character's number, its bytes, and their room
data Above (s : List ℕ) (i : ℕ) : Type 0 where
  two : (c : ℕ) → c ≡ code_at s i → 0x80 ≤ c → c < 0x800 → length (utf8 c) ≡ 2 → i + 2 ≤ length s
      → get_or s i 0 ≡ 0xC0 + c / 64 → get_or s (i + 1) 0 ≡ 0x80 + c % 64 → Above s i
  three : (c : ℕ) → c ≡ code_at s i → 0x800 ≤ c → c < 0x10000 → length (utf8 c) ≡ 3 → i + 3 ≤ length s
      → get_or s i 0 ≡ 0xE0 + c / 4096 → get_or s (i + 1) 0 ≡ 0x80 + c / 64 % 64 → get_or s (i + 2) 0 ≡ 0x80 + c % 64 → Above s i
  four : (c : ℕ) → c ≡ code_at s i → 0x10000 ≤ c → c < 0x110000 → length (utf8 c) ≡ 4 → i + 4 ≤ length s
      → get_or s i 0 ≡ 0xF0 + c / 262144 → get_or s (i + 1) 0 ≡ 0x80 + c / 4096 % 64 → get_or s (i + 2) 0 ≡ 0x80 + c / 64 % 64 → get_or s (i + 3) 0 ≡ 0x80 + c % 64 → Above s i

-- the first byte, and one after it: there, part of the character, and in its range
abbrev pub Lead : List ℕ → ℕ → Type 0
Lead s i = (0xC2 ≤ get_or s i 0) × (get_or s i 0 < 0xF5)

abbrev pub Tail : List ℕ → ℕ → ℕ → Type 0
Tail s i k = (i + k < length s) × ((k < length (utf8 (code_at s i))) × ((0x80 ≤ get_or s (i + k) 0) × (get_or s (i + k) 0 < 0xC0)))

module _ (s : List ℕ) (i : ℕ) (l : i < length s) (h : Scalars (chars (drop i s))) (a : 0x80 ≤ get_or s i 0) where
  abbrev code : ℕ
  code = code_at s i

  -- its bytes are those that stand there
  byte_is : (k n : ℕ) → length (utf8 code) ≡ n → k < n → get_or s (i + k) 0 ≡ get_or (utf8 code) k 0
  byte_is k n e m =
      let t = turn_is s i l in
      let z = length-take-le i s (omega arith) in
      sym (get_or-take (i + length (utf8 code)) s (i + k) 0 (omega arith))
      ∙ ap (λ (x : List ℕ). get_or x (i + k) 0) t.front
      ∙ ap (λ (j : ℕ). get_or (take i s ++ utf8 code) (j + k) 0) (sym z)
      ∙ get_or-append-add (take i s) (utf8 code) k 0

  first_is : (n : ℕ) → length (utf8 code) ≡ n → 0 < n → get_or s i 0 ≡ get_or (utf8 code) 0 0
  first_is n e m = ap (λ (j : ℕ). get_or s j 0) (sym (add-zero i)) ∙ byte_is 0 n e m

  room : (n : ℕ) → length (utf8 code) ≡ n → i + n ≤ length s
  room n e = omega (arith, (turn_is s i l).bound)

  above : Above s i
  above =
      ranges code
      (λ m.
      let u = utf8_1 code m in
      absurd (omega (arith, first_is 1 (ap length u) (omega arith), ap (λ (x : List ℕ). get_or x 0 0) u)))
      (λ k m.
      let u = utf8_2 code k m in
      let e : length (utf8 code) ≡ 2 = ap length u in
      two code refl k m e (room 2 e) (first_is 2 e (omega arith) ∙ ap (λ (x : List ℕ). get_or x 0 0) u) (byte_is 1 2 e (omega arith) ∙ ap (λ (x : List ℕ). get_or x 1 0) u))
      (λ k m.
      let u = utf8_3 code k m in
      let e : length (utf8 code) ≡ 3 = ap length u in
      three code refl k m e (room 3 e) (first_is 3 e (omega arith) ∙ ap (λ (x : List ℕ). get_or x 0 0) u) (byte_is 1 3 e (omega arith) ∙ ap (λ (x : List ℕ). get_or x 1 0) u)
      (byte_is 2 3 e (omega arith) ∙ ap (λ (x : List ℕ). get_or x 2 0) u))
      (λ k.
      let m : code < 0x110000 = omega (arith, top code (subst Scalars (turn_is s i l).rest h).0) in
      let u = utf8_4 code k m in
      let e : length (utf8 code) ≡ 4 = ap length u in
      four code refl k m e (room 4 e) (first_is 4 e (omega arith) ∙ ap (λ (x : List ℕ). get_or x 0 0) u) (byte_is 1 4 e (omega arith) ∙ ap (λ (x : List ℕ). get_or x 1 0) u)
      (byte_is 2 4 e (omega arith) ∙ ap (λ (x : List ℕ). get_or x 2 0) u) (byte_is 3 4 e (omega arith) ∙ ap (λ (x : List ℕ). get_or x 3 0) u))

  -- ---- a byte after the first, where the first says that it is there
  pub lead : Lead s i
  lead = go above
    where
      go : Above s i → Lead s i
      go (two c q k m e r x y) = (omega arith, omega arith)
      go (three c q k m e r x y z) = (omega arith, omega arith)
      go (four c q k m e r x y z w) = (omega arith, omega arith)

  pub tail_1 : Tail s i 1
  tail_1 = go above
    where
      go : Above s i → Tail s i 1
      go (two c q k m e r x y) = (omega arith, (rw (← q) (omega arith), (omega arith, omega arith)))
      go (three c q k m e r x y z) = (omega arith, (rw (← q) (omega arith), (omega arith, omega arith)))
      go (four c q k m e r x y z w) = (omega arith, (rw (← q) (omega arith), (omega arith, omega arith)))

  pub tail_2 : 0xE0 ≤ get_or s i 0 → Tail s i 2
  tail_2 g = go above
    where
      go : Above s i → Tail s i 2
      go (two c q k m e r x y) = absurd (omega arith)
      go (three c q k m e r x y z) = (omega arith, (rw (← q) (omega arith), (omega arith, omega arith)))
      go (four c q k m e r x y z w) = (omega arith, (rw (← q) (omega arith), (omega arith, omega arith)))

  pub tail_3 : 0xF0 ≤ get_or s i 0 → Tail s i 3
  tail_3 g = go above
    where
      go : Above s i → Tail s i 3
      go (two c q k m e r x y) = absurd (omega arith)
      go (three c q k m e r x y z) = absurd (omega arith)
      go (four c q k m e r x y z w) = (omega arith, (rw (← q) (omega arith), (omega arith, omega arith)))

  -- ---- the character that they make
  abbrev pub Made : ℕ → ℕ → Type 0
  Made c n = Unescaped s i (piece c (i + n)) × ((c ≡ code) × (chars (drop i s) ≡ c ∷ chars (drop (i + n) s)))

  made : (c n : ℕ) → c ≡ code → length (utf8 code) ≡ n → Made c n
  made c n q e = let f = sym e ∙ ap (λ (x : ℕ). length (utf8 x)) (sym q) in (piece_other s i l h c n (λ z. omega arith) q f, (q, rw (f, q) (turn_is s i l).rest))

  pub above_2 : get_or s i 0 < 0xE0 → Made ((get_or s i 0 - 0xC0) * 64 + (get_or s (i + 1) 0 - 0x80)) 2
  above_2 g = go above
    where
      go : Above s i → Made ((get_or s i 0 - 0xC0) * 64 + (get_or s (i + 1) 0 - 0x80)) 2
      go (two c q k m e r x y) = let v : (get_or s i 0 - 0xC0) * 64 + (get_or s (i + 1) 0 - 0x80) ≡ c = omega arith in made _ 2 (v ∙ q) (rw (← q) e)
      go (three c q k m e r x y z) = absurd (omega arith)
      go (four c q k m e r x y z w) = absurd (omega arith)

  pub above_3 : 0xE0 ≤ get_or s i 0 → get_or s i 0 < 0xF0
      → Made (((get_or s i 0 - 0xE0) * 64 + (get_or s (i + 1) 0 - 0x80)) * 64 + (get_or s (i + 2) 0 - 0x80)) 3
  above_3 f g = go above
    where
      go : Above s i → Made (((get_or s i 0 - 0xE0) * 64 + (get_or s (i + 1) 0 - 0x80)) * 64 + (get_or s (i + 2) 0 - 0x80)) 3
      go (two c q k m e r x y) = absurd (omega arith)
      go (three c q k m e r x y z) =
          let v : ((get_or s i 0 - 0xE0) * 64 + (get_or s (i + 1) 0 - 0x80)) * 64 + (get_or s (i + 2) 0 - 0x80) ≡ c = omega arith in
          made _ 3 (v ∙ q) (rw (← q) e)
      go (four c q k m e r x y z w) = absurd (omega arith)

  pub above_4 : 0xF0 ≤ get_or s i 0
      → Made ((((get_or s i 0 - 0xF0) * 64 + (get_or s (i + 1) 0 - 0x80)) * 64 + (get_or s (i + 2) 0 - 0x80)) * 64 + (get_or s (i + 3) 0 - 0x80)) 4
  above_4 f = go above
    where
      go : Above s i → Made ((((get_or s i 0 - 0xF0) * 64 + (get_or s (i + 1) 0 - 0x80)) * 64 + (get_or s (i + 2) 0 - 0x80)) * 64 + (get_or s (i + 3) 0 - 0x80)) 4
      go (two c q k m e r x y) = absurd (omega arith)
      go (three c q k m e r x y z) = absurd (omega arith)
      go (four c q k m e r x y z w) =
          let f1 : c / 4096 ≡ c / 262144 * 64 + c / 4096 % 64 = omega arith in
          let f2 : c / 64 ≡ c / 4096 * 64 + c / 64 % 64 = omega arith in
          let v : (((get_or s i 0 - 0xF0) * 64 + (get_or s (i + 1) 0 - 0x80)) * 64 + (get_or s (i + 2) 0 - 0x80)) * 64 + (get_or s (i + 3) 0 - 0x80) ≡ c = omega arith in
          made _ 4 (v ∙ q) (rw (← q) e)

  pub high_code : 0x80 ≤ code
  high_code = go above
    where
      go : Above s i → 0x80 ≤ code
      go (two c q k m e r x y) = omega arith
      go (three c q k m e r x y z) = omega arith
      go (four c q k m e r x y z w) = omega arith

  -- ---- its bytes copied
  bytes_2 : get_or s i 0 < 0xE0 → utf8 code ≡ get_or s i 0 ∷ get_or s (i + 1) 0 ∷ []
  bytes_2 g = go above
    where
      go : Above s i → utf8 code ≡ get_or s i 0 ∷ get_or s (i + 1) 0 ∷ []
      go (two c q k m e r x y) = ap utf8 (sym q) ∙ utf8_2 c k m ∙ rw (x, y)
      go (three c q k m e r x y z) = absurd (omega arith)
      go (four c q k m e r x y z w) = absurd (omega arith)

  bytes_3 : 0xE0 ≤ get_or s i 0 → get_or s i 0 < 0xF0 → utf8 code ≡ get_or s i 0 ∷ get_or s (i + 1) 0 ∷ get_or s (i + 2) 0 ∷ []
  bytes_3 f g = go above
    where
      go : Above s i → utf8 code ≡ get_or s i 0 ∷ get_or s (i + 1) 0 ∷ get_or s (i + 2) 0 ∷ []
      go (two c q k m e r x y) = absurd (omega arith)
      go (three c q k m e r x y z) = ap utf8 (sym q) ∙ utf8_3 c k m ∙ rw (x, y, z)
      go (four c q k m e r x y z w) = absurd (omega arith)

  bytes_4 : 0xF0 ≤ get_or s i 0 → utf8 code ≡ get_or s i 0 ∷ get_or s (i + 1) 0 ∷ get_or s (i + 2) 0 ∷ get_or s (i + 3) 0 ∷ []
  bytes_4 f = go above
    where
      go : Above s i → utf8 code ≡ get_or s i 0 ∷ get_or s (i + 1) 0 ∷ get_or s (i + 2) 0 ∷ get_or s (i + 3) 0 ∷ []
      go (two c q k m e r x y) = absurd (omega arith)
      go (three c q k m e r x y z) = absurd (omega arith)
      go (four c q k m e r x y z w) = ap utf8 (sym q) ∙ utf8_4 c k m ∙ rw (x, y, z, w)

  copied : (bs : List ℕ) → utf8 code ≡ bs → (n : ℕ) (w : List ℕ) → n + length (utf8 code) ≤ length w → out_of (n + length bs) (sets w n bs) ≡ code ∷ out_of n w
  copied bs e n w r = rw (← e) (out_put n w code r (subst Scalars (turn_is s i l).rest h).0)

  module _ (n : ℕ) (w : List ℕ) (r : n + length (utf8 code) ≤ length w) where
    pub copied_2 : get_or s i 0 < 0xE0 → out_of (n + 2) (set (set w n (get_or s i 0)) (n + 1) (get_or s (i + 1) 0)) ≡ code ∷ out_of n w
    copied_2 g = rw (add-one n) (copied _ (bytes_2 g) n w r)

    pub copied_3 : 0xE0 ≤ get_or s i 0 → get_or s i 0 < 0xF0
        → out_of (n + 3) (set (set (set w n (get_or s i 0)) (n + 1) (get_or s (i + 1) 0)) (n + 2) (get_or s (i + 2) 0)) ≡ code ∷ out_of n w
    copied_3 f g = rw (add-one n, add-two n) (copied _ (bytes_3 f g) n w r)

    pub copied_4 : 0xF0 ≤ get_or s i 0
        → out_of (n + 4) (set (set (set (set w n (get_or s i 0)) (n + 1) (get_or s (i + 1) 0)) (n + 2) (get_or s (i + 2) 0)) (n + 3) (get_or s (i + 3) 0)) ≡ code ∷ out_of n w
    copied_4 f = rw (add-one n, add-two n, add-three n) (copied _ (bytes_4 f) n w r)
