-- What the sheet test says yes to, by the grammar of document 01.
-- Assumes nothing.
use Rattle.std.proofs.Common.{◌≡◌, refl, sym, ◌∙◌, ap, ℕ, arith, true, ◌↔◌, List, length}
use Rattle.std.proofs.Math.Option.{Option, none, some}
use Rattle.text.specs.Words.{case}
use Rattle.text.specs.Utf8.{Scalars, size, encode, decode}
use Rattle.text.proofs.Tests.{then_some}
use Rattle.text.proofs.Laws.{decode_iff, decode_sound}
use Rattle.sheet.specs.Tree.{Block}
use Rattle.sheet.specs.Grammar.{IsPage}
use Rattle.sheet.specs.Reader.{read_page}
use Rattle.sheet.specs.Written.{written}
use Rattle.sheet.specs.Sheet.{IsSheet, small}
use Rattle.sheet.proofs.ReadingLaws.{none_some, ensure_inv}
use Rattle.sheet.proofs.Sound.{page_sound}
use Rattle.sheet.proofs.Complete.{page_complete}
use Rattle.sheet.specs.Calls.{sheet, Tested, no_utf8, no_sheet, yes_sheet, sheet_call, number, counts}

-- a page is a sheet, and these are the bytes and characters of its written form
abbrev pub Counted : List ℕ → ℕ → ℕ → Type 0
Counted page b c = (t : List Block) × IsSheet page t × (size (written t) ≡ b) × (length (written t) ≡ c)

-- a text is a page of the grammar in one way at most
pub one_tree : {s : List ℕ} {t u : List Block} → IsPage s t → IsPage s u → t ≡ u
one_tree {s} {t} {u} p q = let e : some t ≡ some u = sym (page_complete p) ∙ page_complete q in cc

-- the tree of a sheet is that of the grammar
pub sheet_sound : (s : List ℕ) (t : List Block) → sheet s ≡ some t → IsPage s t × (small t ≡ true)
unfolding sheet
sheet_sound s t e =
    let b = then_some (read_page s) _ e in
    let g = ensure_inv (small b.0) _ b.2 in
    let z : b.0 ≡ t = cc g.1 in
    (page_sound s t (b.1 ∙ ap some z), ap small (sym z) ∙ g.0)

pub sheet_complete : {s : List ℕ} {t : List Block} → IsPage s t → small t ≡ true → sheet s ≡ some t
unfolding sheet
sheet_complete p h = rw (page_complete p, h)

module _ (page : List ℕ) (b c : ℕ) where
  forth : sheet_call page ≡ yes_sheet b c → Counted page b c
  unfolding sheet_call
  forth e = go (decode page) refl e
    where
      held : (s : List ℕ) → decode page ≡ some s → (o : Option (List Block)) → sheet s ≡ o → case o no_sheet (λ t. yes_sheet (size (written t)) (length (written t))) ≡ yes_sheet b c → Counted page b c
      held s d none h f = let z : ◌≡◌ {A = ℕ} 0 1 = cc in absurd (omega arith)
      held s d (some t) h f =
          let p = sheet_sound s t h in
          let u = decode_sound page s d in
          let x : size (written t) ≡ b = cc in
          let y : length (written t) ≡ c = cc in
          (t, record { html = s; scalars = u.0; encoded = u.1; grammar = p.0; short = p.1 }, x, y)

      go : (o : Option (List ℕ)) → decode page ≡ o → case o no_utf8 (λ s. case (sheet s) no_sheet (λ t. yes_sheet (size (written t)) (length (written t)))) ≡ yes_sheet b c → Counted page b c
      go none d f = let z : ◌≡◌ {A = ℕ} 0 1 = cc in absurd (omega arith)
      go (some s) d f = held s d (sheet s) refl f

  back : Counted page b c → sheet_call page ≡ yes_sheet b c
  unfolding sheet_call
  back (t, h, x, y) =
      let d = (decode_iff page h.html).1 (h.scalars, h.encoded) in
      rw (d, sheet_complete h.grammar h.short, x, y)

  -- the test says yes with these counts exactly to these pages
  pub sheet_iff : (counts (sheet_call page) ≡ some (b, c)) ↔ Counted page b c
  sheet_iff = (λ e. forth (yes (sheet_call page) e), λ h. ap counts (back h))
    where
      yes : (t : Tested) → counts t ≡ some (b, c) → t ≡ yes_sheet b c
      yes no_utf8 e = none_some e
      yes no_sheet e = none_some e
      yes (yes_sheet x y) e =
          let z : ◌≡◌ {A = ℕ × ℕ} (x, y) (b, c) = cc in
          ap (λ (p : ℕ × ℕ). yes_sheet p.0 p.1) z

-- refusal 1 is for exactly what encodes no scalar values
pub refused_iff : (page : List ℕ) → (number (sheet_call page) ≡ 1) ↔ ((s : List ℕ) → Scalars s → encode s ≡ page → ⊥)
unfolding sheet_call
refused_iff page = (λ e s h f. some_left s ((decode_iff page s).1 (h, f)) e, λ h. go h (decode page) refl)
  where
    accepted : (o : Option (List Block)) → number (case o no_sheet (λ t. yes_sheet (size (written t)) (length (written t)))) ≡ 0
    accepted none = refl
    accepted (some t) = refl

    some_left : (s : List ℕ) → decode page ≡ some s → number (case (decode page) no_utf8 (λ s. case (sheet s) no_sheet (λ t. yes_sheet (size (written t)) (length (written t))))) ≡ 1 → ⊥
    some_left s d e = let z : ◌≡◌ {A = ℕ} 0 1 = sym (accepted (sheet s)) ∙ sym (rw d) ∙ e in omega arith

    go : ((s : List ℕ) → Scalars s → encode s ≡ page → ⊥) → (o : Option (List ℕ)) → decode page ≡ o →
        number (case o no_utf8 (λ s. case (sheet s) no_sheet (λ t. yes_sheet (size (written t)) (length (written t))))) ≡ 1
    go h none d = refl
    go h (some s) d = let u = decode_sound page s d in absurd (h s u.0 u.1)
