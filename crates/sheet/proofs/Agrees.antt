-- Demand 3: for a page that is a sheet, converting gives its written form, and reading that gives exactly the blocks of its tree.
-- Assumes nothing.
use Rattle.std.proofs.Common.{◌≡◌, sym, ◌∙◌, ap, ℕ, ◌+◌, ◌*◌, ◌≤◌, ◌<◌, arith, List, le-ltb, length}
use Rattle.std.proofs.lemmas.Bool.Decides.{nat_tests}
use Rattle.std.proofs.Math.Option.{some}
use Rattle.text.specs.Utf8.{size, encode}
use Rattle.text.specs.Outcome.{wrote}
use Rattle.text.proofs.Laws.{decode_iff, decode_encode, size_encode}
use Rattle.html.specs.Calls.{html_to_markdown_call}
use Rattle.records.specs.Format.{encode_blocks}
use Rattle.markdown.specs.Calls.{recorded, with_buffers, blocks_call}
use Rattle.sheet.specs.Tree.{Block}
use Rattle.sheet.specs.Written.{written, blocks_of}
use Rattle.sheet.specs.Sheet.{small, IsSheet}
use Rattle.sheet.specs.Calls.{sheet_call, counts}
use Rattle.sheet.proofs.Converts.{sheet_call as converts_call}
use Rattle.sheet.proofs.TestCall.{sheet_iff}
use Rattle.sheet.proofs.SheetReads.{sheet_reads}
use Rattle.sheet.proofs.SheetScalars.{sheet_scalars}

-- the two calls, in buffers that are long enough for them
pub record Agrees (page : List ℕ) (t : List Block) : Type 0 where
  pub converts : (work result : ℕ) → 2 * length page + 16384 ≤ work → 32000 ≤ result
      → html_to_markdown_call page work result ≡ wrote (encode (written t))
  pub reads : (work result : ℕ) → 6 * length (encode (written t)) ≤ work → length (encode_blocks (blocks_of t)) ≤ result
      → blocks_call (encode (written t)) work result ≡ wrote (encode_blocks (blocks_of t))

module _ (page : List ℕ) (t : List Block) (sheet : IsSheet page t) where
  page_bytes : size sheet.html ≡ length page
  page_bytes = sym (size_encode sheet.html) ∙ ap length sheet.encoded

  limits : (size (written t) < 16000) × (length (written t) ≤ 8000)
  unfolding small
  limits = let s = sheet.short in (grind (arith, nat_tests), grind (arith, nat_tests))

  converted : (work result : ℕ) → 2 * length page + 16384 ≤ work → 32000 ≤ result
      → html_to_markdown_call page work result ≡ wrote (encode (written t))
  converted work result a b =
      let n = page_bytes in
      let d = (decode_iff page sheet.html).1 (sheet.scalars, sheet.encoded) in
      converts_call page work result d sheet.grammar limits.0 limits.1 (omega arith) b

  read : (work result : ℕ) → 6 * length (encode (written t)) ≤ work → length (encode_blocks (blocks_of t)) ≤ result
      → blocks_call (encode (written t)) work result ≡ wrote (encode_blocks (blocks_of t))
  unfolding blocks_call with_buffers recorded
  read work result a b =
      let n = size_encode (written t) in
      let m = limits.0 in
      let scalars = sheet_scalars sheet.grammar sheet.scalars in
      rw (
        le-ltb 65536 (length (encode (written t))) (omega arith),
        decode_encode (written t) scalars,
        le-ltb work (6 * length (encode (written t))) a,
        sheet_reads sheet.grammar limits.0,
        le-ltb result (length (encode_blocks (blocks_of t))) b,
      )

  pub sheet_agrees : Agrees page t
  sheet_agrees = record { converts = converted; reads = read }

-- so it is for every page that the test says yes to, and the counts are those of the Markdown
pub test_agrees : (page : List ℕ) (b c : ℕ) → counts (sheet_call page) ≡ some (b, c)
    → (t : List Block) × Agrees page t × (length (encode (written t)) ≡ b) × (length (written t) ≡ c)
test_agrees page b c e =
    let (t, s, x, y) = (sheet_iff page b c).0 e in
    (t, sheet_agrees page t s, size_encode (written t) ∙ x, y)
