-- The converter's half of demand 3: it makes of a sheet's page its written form, limits included.
-- Assumes nothing.
use Rattle.std.proofs.Common.{◌≡◌, sym, ◌∙◌, ap, subst, ℕ, ◌+◌, ◌*◌, ◌≤◌, ◌<◌, arith, ◌⊎◌, List, [], ◌∷◌, reverse, le-ltb, length, take, take_all}
use Rattle.std.proofs.Math.Option.{Option, some}
use Rattle.text.specs.Words.{◌>>=◌}
use Rattle.text.specs.Utf8.{size, encode, decode}
use Rattle.text.specs.Outcome.{wrote}
use Rattle.text.proofs.CutLaws.{cut_whole}
use Rattle.text.proofs.Laws.{size_aux}
use Rattle.html.specs.State.{State, new}
use Rattle.html.specs.Page.{loop, finish, html_to_markdown}
use Rattle.html.specs.Calls.{converted, with_buffers, html_to_markdown_call}
use Rattle.sheet.specs.Tree.{Block}
use Rattle.sheet.specs.Grammar as G
use Rattle.sheet.specs.Grammar.{IsPage}
use Rattle.sheet.specs.Written.{written}
use Rattle.sheet.proofs.Turns.{Low}
use Rattle.sheet.proofs.PageOut.{gap, wr, wr_written, page_out}
use Rattle.sheet.proofs.Trimmed.{trimmed}
use Rattle.sheet.proofs.PageSize.{page_size}

pub size_reverse : (s : List ℕ) → size (reverse s) ≡ size s
unfolding size
size_reverse s = omega (arith, size_aux s [])

-- the output that the loop ends with, trimmed and cut to 8,000 characters
finished : {s : List ℕ} {bs : List Block} → IsPage s bs → (c : State) → (c.out ≡ gap (wr bs [])) ⊎ (c.out ≡ 10 ∷ wr bs []) → length (written bs) ≤ 8000 → finish c ≡ written bs
unfolding finish
finished {bs = bs} (G.page n ms) c e h = ap (take 8000) (trimmed ms c.out e) ∙ take_all 8000 (written bs) h

low_page : {s : List ℕ} {bs : List Block} → IsPage s bs → size (written bs) < 16000 → Low (wr bs [])
unfolding Low
low_page {bs = bs} (G.page n ms) h = subst (λ (v : List ℕ). size v < 16000) (sym (wr_written ms)) (omega (arith, size_reverse (written bs)))

pub sheet_converts : {s : List ℕ} {t : List Block} → IsPage s t → size (written t) < 16000 → length (written t) ≤ 8000 → html_to_markdown s ≡ some (written t)
unfolding html_to_markdown
sheet_converts {s} {t} p h k =
    let e = page_out p (low_page p h) in
    ap (λ (s : List ℕ). loop 0 s new >>= λ (c : State). some (finish c)) (cut_whole 1048576 s (omega (arith, page_size p)))
    ∙ ap (λ (o : Option State). o >>= λ (c : State). some (finish c)) e.is
    ∙ ap some (finished p e.state e.trails k)

-- the call, on the page's bytes and with buffers that are long enough
pub sheet_call : {s : List ℕ} {t : List Block} (page : List ℕ) (work result : ℕ) → decode page ≡ some s → IsPage s t → size (written t) < 16000 → length (written t) ≤ 8000
    → 2 * size s + 16384 ≤ work → 32000 ≤ result → html_to_markdown_call page work result ≡ wrote (encode (written t))
unfolding html_to_markdown_call with_buffers converted
sheet_call {s} {t} page work result d p h k a b =
    rw (d, cut_whole 1048576 s (omega (arith, page_size p)), le-ltb work (2 * size s + 16384) a, le-ltb result 32000 b, sheet_converts p h k)
