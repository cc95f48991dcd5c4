-- Block records one after the other, and an item's record that grows where it stands.
-- Assumes nothing.
use Prim.Native.Nat.{ℕ, suc, ◌+◌}
use mathlib.Core.List.{List, [], ◌∷◌, ◌++◌, append_assoc, append-nil, reverse, reverse-cons}
use mathlib.Core.Path.{◌≡◌, refl, sym, ap, ◌∙◌}
use native.Mathlib.Nat.{add-zero}
use native.Mathlib.Omega.{arith}
use lib.ListN.{length, set, length-append}
use lib.Seq.{sets, set-set}
use borrow.Author.Tests.{ne_eqb}
use Rattle.text.specs.Utf8.{utf8, size}
use Rattle.records.proofs.FormatLaws.{blocks_append, spans_append}
use Rattle.records.specs.Blocks.{Span, item, Block, Item}
use Rattle.records.specs.Format.{le32, kind_bits, encode_kind, encode_span, encode_spans, encode_block, encode_blocks}
use Rattle.records.proofs.Stores.{sets_append, gap}
use Rattle.markdown.specs.Blocks.{plain_space}
use Rattle.markdown.specs.State.{continued_after, continued_out, space_bytes}
use Rattle.markdown.specs.declared.writer.OpenItem.{OpenItem}
use Rattle.markdown.specs.declared.writer.State.{State}

-- ---- records one after the other
pub blocks_last : (b : Block) (bs : List Block) → encode_blocks (reverse (b ∷ bs)) ≡ encode_blocks (reverse bs) ++ encode_block b
unfolding encode_blocks
blocks_last b bs =
    ap encode_blocks (reverse-cons b bs)
    ∙ blocks_append (reverse bs) (b ∷ [])
    ∙ ap (λ (l : List ℕ). encode_blocks (reverse bs) ++ l) (append-nil (encode_block b))

pub space_spans : (more : List Span) → encode_spans (plain_space ∷ more) ≡ space_bytes ++ encode_spans more
unfolding encode_spans encode_span size utf8
space_spans more = refl

space_length : length space_bytes ≡ 6
unfolding encode_span size utf8
space_length = refl

-- ---- stores over stores
overwrite : (l : List ℕ) (a : ℕ) (xs ys : List ℕ) → length xs ≡ length ys → sets (sets l a xs) a ys ≡ sets l a ys
overwrite l a [] [] e = refl
overwrite l a [] (y ∷ ys) e = absurd (omega arith)
overwrite l a (x ∷ xs) [] e = absurd (omega arith)
overwrite l a (x ∷ xs) (y ∷ ys) e =
    ap (λ (m : List ℕ). sets m (suc a) ys)
    (gap (set l a x) a (suc a) (y ∷ []) xs (omega arith) ∙ ap (λ (m : List ℕ). sets m (suc a) xs) (set-set l a x y))
    ∙ overwrite (set l a y) (suc a) xs ys (omega arith)

-- a part of a run is stored anew
pub patch : (l : List ℕ) (a p : ℕ) (h x t y : List ℕ) → length x ≡ length y → a + length h ≡ p → sets (sets l a (h ++ (x ++ t))) p y ≡ sets l a (h ++ (y ++ t))
patch l a p h x t y e f =
    let m = sets l a h in
    let q : sets l a (h ++ (x ++ t)) ≡ sets (sets m p x) (p + length x) t =
    sets_append l a h (x ++ t) ∙ ap (λ (n : ℕ). sets m n (x ++ t)) f ∙ sets_append m p x t
    in
    ap (λ (k : List ℕ). sets k p y) q
    ∙ gap (sets m p x) p (p + length x) y t (omega arith)
    ∙ sets_append (sets m p x) p y t
    ∙ ap (λ (k : List ℕ). sets k (p + length y) t) (overwrite m p x y e)
    ∙ sym (sets_append l a h (y ++ t) ∙ ap (λ (n : ℕ). sets m n (y ++ t)) f ∙ sets_append m p y t)

-- ---- an item's record grows by spans at its end
module _
    (l : List ℕ)
    (depth : ℕ)
    (mk : List ℕ)
    (more : List Span)
    (s : State)
    (i : OpenItem)
    (map : i.map ≡ kind_bits (item depth mk))
    (fields : i.fields ≡ i.head + 1 + length (encode_kind (item depth mk)))
  where
    abbrev K : List ℕ
    K = encode_kind (item depth mk)

    abbrev Z : List ℕ
    Z = space_bytes ++ encode_spans more

    -- the bytes of the record with its map byte, its span count and its spans
    abbrev whole : ℕ → List ℕ → List ℕ
    whole n t = (kind_bits (item depth mk) + 8) ∷ (K ++ (le32 n ++ t))

    pub grow : (ss : List Span) → i.count ≡ length ss → s.at ≡ i.head + length (encode_block (Item depth mk ss))
        → (out : List ℕ) → out ≡ sets l i.head (encode_block (Item depth mk ss))
        → (continued_out s i more out ≡ sets l i.head (encode_block (Item depth mk (ss ++ (plain_space ∷ more)))))
        × ((continued_after s i more).at ≡ i.head + length (encode_block (Item depth mk (ss ++ (plain_space ∷ more)))))
    unfolding encode_block encode_spans
    grow [] c a out e =
        let n : 1 + length more ≡ suc (length more) = omega arith in
        let k : K ++ [] ++ [] ≡ K = append-nil (K ++ []) ∙ append-nil K in
        let o : out ≡ sets l i.head ((kind_bits (item depth mk) + 0) ∷ K) = e ∙ ap (λ (x : List ℕ). sets l i.head ((kind_bits (item depth mk) + 0) ∷ x)) k in
        let f : i.head + length ((kind_bits (item depth mk) + 0) ∷ K) ≡ i.fields = omega arith in
        let b : encode_block (Item depth mk (plain_space ∷ more)) ≡ whole (suc (length more)) Z =
        rw (space_spans more) (ap (λ (x : List ℕ). (kind_bits (item depth mk) + 8) ∷ x) (append_assoc K (le32 (suc (length more))) Z))
        in (
          rw (c, n, map)
              (ap (λ (x : List ℕ). sets x i.head ((kind_bits (item depth mk) + 8) ∷ []))
              (gap out i.fields (i.fields + 4) (le32 (suc (length more))) Z refl
              ∙ ap (λ (x : List ℕ). sets x i.fields (le32 (suc (length more)) ++ Z)) o
              ∙ ap (λ (n : ℕ). sets (sets l i.head ((kind_bits (item depth mk) + 0) ∷ K)) n (le32 (suc (length more)) ++ Z)) (sym f)
              ∙ sym (sets_append l i.head ((kind_bits (item depth mk) + 0) ∷ K) (le32 (suc (length more)) ++ Z)))
              ∙ patch l i.head i.head [] ((kind_bits (item depth mk) + 0) ∷ []) (K ++ (le32 (suc (length more)) ++ Z)) ((kind_bits (item depth mk) + 8) ∷ []) refl (add-zero i.head)
              ∙ ap (sets l i.head) (sym b)),
          rw c
              (omega (
                arith,
                ap length b,
                length-append K (le32 (suc (length more)) ++ Z),
                length-append (le32 (suc (length more))) Z,
                length-append space_bytes (encode_spans more),
                space_length,
              )),
        )
    grow (x ∷ xs) c a out e =
        let N = length (xs ++ (plain_space ∷ more)) in
        let n : i.count + 1 + length more ≡ suc N = omega (arith, length-append xs (plain_space ∷ more)) in
        let S = encode_spans (x ∷ xs) in
        let m = kind_bits (item depth mk) + 8 in
        let o : out ≡ sets l i.head (whole (suc (length xs)) S) = e ∙ ap (λ (y : List ℕ). sets l i.head (m ∷ y)) (append_assoc K (le32 (suc (length xs))) S) in
        let j : length (encode_block (Item depth mk (x ∷ xs))) ≡ length (whole (suc (length xs)) S) = ap (λ (y : List ℕ). length (m ∷ y)) (append_assoc K (le32 (suc (length xs))) S) in
        let b : encode_block (Item depth mk ((x ∷ xs) ++ (plain_space ∷ more))) ≡ whole (suc N) (S ++ Z) =
        rw (spans_append (x ∷ xs) (plain_space ∷ more), space_spans more) (ap (λ (y : List ℕ). m ∷ y) (append_assoc K (le32 (suc N)) (S ++ Z)))
        in
        let w : whole (suc (length xs)) S ++ Z ≡ whole (suc (length xs)) (S ++ Z) =
        ap (λ (y : List ℕ). m ∷ y)
        (append_assoc K (le32 (suc (length xs)) ++ S) Z ∙ ap (λ (y : List ℕ). K ++ y) (append_assoc (le32 (suc (length xs))) S Z))
        in
        let g : i.head + length (whole (suc (length xs)) S) ≡ s.at = omega arith in
        let f : i.head + length (m ∷ K) ≡ i.fields = omega arith in (
          rw (ne_eqb i.count 0 (λ q. omega arith), n, map)
              (ap (λ (y : List ℕ). sets y i.head (m ∷ []))
              (ap (λ (y : List ℕ). sets y i.fields (le32 (suc N)))
              (ap (λ (y : List ℕ). sets y s.at Z) o
              ∙ ap (λ (n : ℕ). sets (sets l i.head (whole (suc (length xs)) S)) n Z) (sym g)
              ∙ sym (sets_append l i.head (whole (suc (length xs)) S) Z)
              ∙ ap (sets l i.head) w)
              ∙ patch l i.head i.fields (m ∷ K) (le32 (suc (length xs))) (S ++ Z) (le32 (suc N)) refl f)
              ∙ patch l i.head i.head [] (m ∷ []) (K ++ (le32 (suc N) ++ (S ++ Z))) (m ∷ []) refl (add-zero i.head)
              ∙ ap (sets l i.head) (sym b)),
          rw (ne_eqb i.count 0 (λ q. omega arith))
              (omega (
                arith,
                ap length b,
                ap length w,
                length-append (whole (suc (length xs)) S) Z,
                length-append K (le32 (suc N) ++ (S ++ Z)),
                length-append K (le32 (suc (length xs)) ++ (S ++ Z)),
                length-append (le32 (suc N)) (S ++ Z),
                length-append (le32 (suc (length xs))) (S ++ Z),
                length-append space_bytes (encode_spans more),
                space_length,
              )),
        )
