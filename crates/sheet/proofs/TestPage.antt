-- The page: the loop over its blocks, and the verdict.
-- Assumes nothing.
use Rattle.std.proofs.Common.{◌≡◌, refl, sym, ◌∙◌, ap, ℕ, ◌-◌, ◌≤◌, ◌<◌, min, arith, true, false, Ok, List, [], ◌∷◌, ◌++◌, append-nil, append_assoc}
use Rattle.std.proofs.Common.{length}
use Rattle.std.proofs.lemmas.Bool.Decides.{nat_tests}
use Rattle.std.proofs.Math.Option.{none, some}
use Rattle.text.specs.Words.{str, ◌>>=◌, ensure, case}
use Rattle.text.specs.Utf8.{size, encode, is_utf8, chars}
use Rattle.text.proofs.Laws.{chars_nil, encode_chars, decode_true, decode_false, size_append}
use Rattle.sheet.specs.Reading.{many}
use Rattle.sheet.specs.Tree.{Block}
use Rattle.sheet.specs.Reader.{nl?, then_nl, block, at_end, read_page}
use Rattle.sheet.specs.Written.{joined, written}
use Rattle.sheet.specs.Weight.{weight, alike, added, judged}
use Rattle.sheet.specs.Says.{Weighs}
use Rattle.sheet.specs.Forms.{block_form}
use Rattle.sheet.specs.Calls.{sheet, Tested, no_utf8, no_sheet, yes_sheet, sheet_call, answer}
use Rattle.sheet.specs.Sheet.{small}
use Rattle.sheet.specs.declared.count.Count.{Count}
use Rattle.sheet.specs.declared.reading.Read.{Read}
use Rattle.sheet.proofs.TestCount.{weight_append, size_ascii}
use Rattle.sheet.proofs.TestMany.{every, many_every, ReadTo, to_none, to_more, to_stop}
use Rattle.sheet.proofs.TestSays.{Got}
use Rattle.sheet.proofs.Shrinks.{nl_shrinks, blocks_shrink}

-- ---- all blocks, each with two bytes 10 before it
unfoldable pub led : List Block → List ℕ
led [] = []
led (b ∷ bs) = block_form b ++ led bs

led_snoc : (bs : List Block) (b : Block) → led (bs ++ (b ∷ [])) ≡ led bs ++ block_form b
unfolding led
led_snoc [] b = append-nil (block_form b)
led_snoc (c ∷ bs) b = rw (led_snoc bs b) (sym (append_assoc (block_form c) (led bs) (block_form b)))

led_written : (b : Block) (bs : List Block) → led (b ∷ bs) ≡ str "\n\n" ++ written (b ∷ bs)
unfolding led written joined
led_written b [] = append-nil (block_form b)
led_written b (c ∷ bs) = ap (λ (l : List ℕ). block_form b ++ l) (led_written c bs)

led_size : (bs : List Block) → (size (led bs) - 2 ≡ size (written bs)) × (length (led bs) - 2 ≡ length (written bs))
unfolding led written joined size
led_size [] = (omega arith, omega arith)
led_size (b ∷ bs) =
    let e = led_written b bs in
    let z = size_ascii (str "\n\n") refl in
    (omega (arith, ap size e, size_append (str "\n\n") (written (b ∷ bs))), omega (arith, ap length e))

-- ---- the loop over the blocks: what was read of s up to t, and the counts of its written form
pub record BlocksTo (s t : List ℕ) (w : Count) : Type 0 where
  pub read : List Block
  pub to : ReadTo (then_nl block) s read t
  pub kept : w ≡ weight (led read)

pub blocks_none : (s : List ℕ) {w : Count} → w ≡ alike 0 → BlocksTo s s w
unfolding weight size led
blocks_none s e = record { read = []; to = to_none (then_nl block) s; kept = e }

pub block_shrinks : (t : List ℕ) {t' : List ℕ} {x : Block} {r : List ℕ} → block t ≡ some (x, r) → t' ≡ nl? r → length t' < length t
block_shrinks t {t'} {x} {r} e k = blocks_shrink t (x, t') (rw (e, k))

pub blocks_next : {s t : List ℕ} {w b : Count} {v : Read Count} {t' : List ℕ} → BlocksTo s t w → Got (Weighs block_form) (block t) v → t' ≡ nl? (chars v.rest.now) →
    b ≡ added w v.value → BlocksTo s t' b
blocks_next z g k f =
    let x = g.what in
    let xs = z.read in
    record {
      read = xs ++ (x ∷ []);
      to = to_more (then_nl block) blocks_shrink z.to (rw (g.is, k));
      kept = f ∙ cc (z.kept, g.value) ∙ sym (weight_append (led xs) (block_form x)) ∙ ap weight (sym (led_snoc xs x));
    }

-- ---- the verdict
module _ (bs : List Block) {w : Count} (e : w ≡ weight (led bs)) where
  many_bytes : w.bytes ≡ min (size (led bs)) 20000
  unfolding weight
  many_bytes = ap (λ (w : Count). w.bytes) e

  many_chars : w.chars ≡ min (length (led bs)) 20000
  unfolding weight
  many_chars = ap (λ (w : Count). w.chars) e

  same_bytes : (w.bytes - 2 < 16000 → w.bytes - 2 ≡ size (written bs)) × (16000 ≤ w.bytes - 2 → 16000 ≤ size (written bs))
  same_bytes =
      let b = many_bytes in
      let s = (led_size bs).0 in
      (λ h. omega arith, λ h. omega arith)

  same_chars : (w.chars - 2 ≤ 8000 → w.chars - 2 ≡ length (written bs)) × (8000 < w.chars - 2 → 8000 < length (written bs))
  same_chars =
      let c = many_chars in
      let s = (led_size bs).1 in
      (λ h. omega arith, λ h. omega arith)

  abbrev told : Tested
  told = case (ensure (small bs) >>= λ _. some bs) no_sheet (λ t. yes_sheet (size (written t)) (length (written t)))

  judge : answer (Ok (judged w)) ≡ told
  unfolding small
  judge =
      let b = same_bytes in
      let c = same_chars in
      grind (arith, nat_tests)

-- ---- whether characters are left
pub none_left : (s : List ℕ) → length s ≡ 0 → chars s ≡ []
none_left [] e = chars_nil
none_left (b ∷ s) e = absurd (omega arith)

pub some_left : (s : List ℕ) → (length s ≡ 0 → ⊥) → (c : ℕ) × (r : List ℕ) × (chars s ≡ c ∷ r)
some_left s n = go (chars s) refl
  where
    go : (l : List ℕ) → chars s ≡ l → (c : ℕ) × (r : List ℕ) × (l ≡ c ∷ r)
    go [] e = absurd (n (ap length (sym (encode_chars s) ∙ ap encode e)))
    go (c ∷ r) e = (c, r, refl)

-- ---- the call
pub call_0 : (page : List ℕ) → is_utf8 page ≡ false → no_utf8 ≡ sheet_call page
unfolding sheet_call
call_0 page h = sym (rw (decode_false page h))

module _ (page : List ℕ) (u : is_utf8 page ≡ true) {s t : List ℕ} (k : s ≡ nl? (chars page)) {w : Count} (b : BlocksTo s t w) (e : block t ≡ none) where
  page_is : read_page (chars page) ≡ at_end b.read t
  unfolding read_page
  page_is =
      let f : every (then_nl block) s ≡ (b.read, t) = to_stop (then_nl block) b.to (rw e) in
      let g : many (then_nl block) (length (chars page)) (nl? (chars page)) ≡ (b.read, t) =
      many_every (then_nl block) blocks_shrink (length (chars page)) (nl? (chars page)) (nl_shrinks (chars page)) ∙ ap (every (then_nl block)) (sym k) ∙ f in
      rw g

  call_is : sheet_call page ≡ case (sheet (chars page)) no_sheet (λ t. yes_sheet (size (written t)) (length (written t)))
  unfolding sheet_call
  call_is = rw (decode_true page u)

  pub call_1 : {c : ℕ} {r : List ℕ} → t ≡ c ∷ r → no_sheet ≡ sheet_call page
  unfolding sheet
  call_1 h = sym (call_is ∙ rw (page_is, h))

  pub call_2 : t ≡ [] → answer (Ok (judged w)) ≡ sheet_call page
  unfolding sheet
  call_2 h = judge b.read b.kept ∙ sym (call_is ∙ rw (page_is, h))
