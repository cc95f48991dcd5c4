-- Document 02, U9, of `section_answer` and `section_bytes`, which the contracts name: "The returned part walks to the very blocks of that section"
-- (`part_walks`, `section_found`); "says that there is none exactly if no heading has that text" (`missing_iff`); "records broken anywhere get 7"
-- (`refused_iff`, and by the walker's answers `broken_iff`).
-- Assumes nothing.
use Prim.Native.Nat.{ℕ, ◌+◌}
use native.Mathlib.Omega.{arith}
use mathlib.Core.Path.{◌≡◌, refl, sym, ap, subst, ◌∙◌}
use mathlib.Core.Logic.{◌↔◌}
use mathlib.Core.List.{List, [], ◌++◌}
use mathlib.Core.Option.{Option, none, some}
use lib.ListN.{length}
use Rattle.text.specs.Words.{◌>>=◌}
use Rattle.text.specs.Part.{between}
use Rattle.text.proofs.Tests.{then_some}
use Rattle.records.specs.Blocks.{Block}
use Rattle.records.specs.Format.{encode_blocks}
use Rattle.records.specs.Decode.{Bytes, Parse, failed, parsed, decode_blocks}
use Rattle.records.proofs.RoundTrip.{decoded_are_records}
use Rattle.walker.specs.Answers.{refused, gives}
use Rattle.walker.specs.Walk.{Walk, Breaks}
use Rattle.walker.specs.Decoded.{of_blocks}
use Rattle.text.specs.declared.parts.Part.{Part}
use Rattle.walker.proofs.Decoded.{from_start, HoldsBlocks, holds_blocks}
use Rattle.walker.proofs.WalkTheorems as W
use Rattle.sections.specs.Sections.{titled, until, section_of, NoHeading}
use Rattle.sections.specs.Calls.{place, section_place, section_answer, section_range, section_bytes}
use Rattle.sections.proofs.SectionLaws.{none_iff, section_split}

-- what is answered, and what was read
module _ {A : Type 0} (f : List Block → A) where
  given : {a : A} (p : Parse (List Block)) → of_blocks f p ≡ gives a → (bs : List Block) × (q : List ℕ) × (p ≡ parsed bs q) × (f bs ≡ a)
  given failed e = let z : ◌≡◌ {A = ℕ} 0 1 = cc in absurd (omega arith)
  given (parsed bs q) e = (bs, q, refl, cc)

  not_given : {n : ℕ} (p : Parse (List Block)) → of_blocks f p ≡ refused n → p ≡ failed
  not_given failed e = refl
  not_given (parsed bs q) e = let z : ◌≡◌ {A = ℕ} 0 1 = cc in absurd (omega arith)

-- the records are those of some blocks, and the part is inside them and walks to the first section of these that has the title
pub record IsSection (s title : List ℕ) (r : Part) : Type 0 where
  pub blocks : List Block
  pub decoded : decode_blocks s ≡ parsed blocks []
  pub section : List Block
  pub first : section_of title blocks ≡ some section
  pub part : HoldsBlocks s r.start r.end section
  pub walks : Walk (between s r.start r.end) 0 section

module _ (s title : List ℕ) (b : Bytes s) where
  section_is : (before x behind : List Block) → decode_blocks s ≡ parsed (before ++ (x ++ behind)) [] → section_of title (before ++ (x ++ behind)) ≡ some x
      → IsSection s title (place before x)
  section_is before x behind d f =
      let n : length (encode_blocks before) ≡ 0 + length (encode_blocks before) = omega arith in
      let p = holds_blocks s 0 b before x behind (from_start s ∙ d) n refl in
      record { blocks = before ++ (x ++ behind); decoded = d; section = x; first = f; part = p; walks = W.part_walks p }

  -- where a part is answered
  pub section_found : {r : Part} → section_answer s title ≡ gives (some r) → IsSection s title r
  unfolding section_answer section_place
  section_found {r} e =
      let (bs, q, d, f) = given (section_place title) (decode_blocks s) e in
      let (x, g, h) = then_some (section_of title bs) (λ x. some (place (until (titled title) bs) x)) f in
      let (cs, k) = section_split title bs g in
      let n : q ≡ [] = (decoded_are_records s d b).2 in
      let m : place (until (titled title) bs) x ≡ r = cc in
      subst (IsSection s title) m
      (section_is (until (titled title) bs) x cs (d ∙ ap (parsed bs) n ∙ ap (λ (l : List Block). parsed l []) k) (ap (section_of title) (sym k) ∙ g))

  -- so whatever blocks the records are those of, the part walks to the first section of these that has the title
  pub part_walks : {bs x : List Block} → decode_blocks s ≡ parsed bs [] → section_of title bs ≡ some x → Walk (section_bytes s title) 0 x
  unfolding section_answer section_place section_range
  part_walks {bs} {x} d f =
      let e : section_answer s title ≡ gives (some (place (until (titled title) bs) x)) = rw (d, f) in
      let w = section_found e in
      let p = sym d ∙ w.decoded in
      let q : bs ≡ w.blocks = cc in
      let g = sym f ∙ ap (section_of title) q ∙ w.first in
      let r : w.section ≡ x = cc in
      subst (λ (l : List Block). Walk (section_bytes s title) 0 l) r (rw e w.walks)

no_place : (f : List Block → Part) (o : Option (List Block)) → (o >>= λ x. some (f x)) ≡ none → o ≡ none
no_place f none e = refl
no_place f (some x) e = let z : ◌≡◌ {A = ℕ} 0 1 = cc in absurd (omega arith)

-- the records decode, and no heading of their blocks has that text
pub record IsMissing (s title : List ℕ) : Type 0 where
  pub blocks : List Block
  pub decoded : decode_blocks s ≡ parsed blocks []
  pub none_has : NoHeading title blocks

module _ (s title : List ℕ) where
  missing : section_answer s title ≡ gives none → Bytes s → IsMissing s title
  unfolding section_answer section_place
  missing e b =
      let (bs, q, d, f) = given (section_place title) (decode_blocks s) e in
      let n : q ≡ [] = (decoded_are_records s d b).2 in
      let h : section_of title bs ≡ none = no_place (place (until (titled title) bs)) (section_of title bs) f in
      record { blocks = bs; decoded = d ∙ ap (parsed bs) n; none_has = (none_iff title bs).0 h }

  is_missing : IsMissing s title → section_answer s title ≡ gives none
  unfolding section_answer section_place
  is_missing m = rw (m.decoded, (none_iff title m.blocks).1 m.none_has)

  -- that there is none is answered exactly then
  pub missing_iff : Bytes s → (section_answer s title ≡ gives none) ↔ IsMissing s title
  missing_iff b = (λ e. missing e b, is_missing)

  -- and 7 exactly if the records do not decode
  pub refused_iff : (section_answer s title ≡ refused 7) ↔ (decode_blocks s ≡ failed)
  unfolding section_answer
  refused_iff = (not_given (section_place title) (decode_blocks s), λ e. rw e)

  -- which is where the walker comes to a 7
  pub broken_iff : Bytes s → (section_answer s title ≡ refused 7) ↔ ((bs : List Block) × Breaks s 0 bs)
  broken_iff b =
      let (there, back) = W.breaks_iff s b in
      (λ e. there (refused_iff.0 e), λ h. refused_iff.1 (back h))
