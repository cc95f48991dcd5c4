-- One turn of each loop over the blocks: what is left from the next offset on gives the same answer.
-- Assumes nothing.
use Prim.Native.Nat.{ℕ, ◌+◌}
use native.Mathlib.Omega.{arith}
use native.Mathlib.Nat.{add-zero}
use mathlib.Core.Path.{◌≡◌, refl, sym, ap, ◌∙◌}
use mathlib.Core.Bool.{Bool, true, false, ◌&&◌}
use mathlib.Core.List.{List, [], ◌∷◌}
use mathlib.Core.Option.{Option, none, some}
use lib.ListN.{length, length-append}
use lib.Dec.{leb}
use Rattle.std.specs.Prelude.{Some, None, Ok, Err, IsErr}
use Rattle.std.specs.Prelude as code
use Rattle.text.specs.Words.{◌>>=◌, case, same}
use Rattle.text.specs.Utf8.{encode}
use Rattle.records.specs.Blocks.{Kind, heading, paragraph, item, Block, joined}
use Rattle.records.specs.Format.{encode_block, encode_blocks}
use Rattle.records.specs.Decode.{Parse, failed, parsed, decode_blocks}
use Rattle.walker.specs.Answers.{gives, level_of, found_at}
use Rattle.walker.specs.Numbers.{level_in}
use Rattle.walker.specs.Decoded.{blocks_from, of_blocks}
use Rattle.text.specs.declared.parts.Part.{Part}
use Rattle.walker.specs.declared.blocks.Broken.{Broken}
use Rattle.walker.specs.declared.blocks.Kind as K
use Rattle.walker.specs.declared.blocks.Kind.TheVariants as KV
use Rattle.sections.specs.Sections.{closes, titled, until, section_of}
use Rattle.sections.specs.Calls.{place, section_place, section_answer}
use Rattle.sections.specs.Readers.{has_text, level_if, closes_at, moved, place_from, answer_from, end_answer, end_values, heading_values, up_to}
use Rattle.sections.specs.declared.Heading.{Heading}
use Rattle.sections.proofs.SectionLaws.{until_stop, until_more, section_none, section_past, section_here}
use Rattle.records.proofs.DecodeSteps.{with_block}
use Rattle.walker.proofs.WalkerLaws.{two_ends}
use Rattle.walker.proofs.Decoded.{from_start, Stands}

-- ---- tests of a block by its level
heading_level : (k : Kind) {l : ℕ} → level_of k ≡ some l → k ≡ heading l
heading_level (heading k) {l} e = let p : k ≡ l = cc in ap heading p
heading_level paragraph e = let z : ◌≡◌ {A = ℕ} 0 1 = cc in absurd (omega arith)
heading_level (item d m) e = let z : ◌≡◌ {A = ℕ} 0 1 = cc in absurd (omega arith)

module _ (b : Block) where
  closes_is : (k : K.Kind) (l : ℕ) → level_of b.kind ≡ level_in k → closes l b ≡ closes_at l k
  closes_is (KV.Heading n) l e = ap (λ (o : Option ℕ). case o false (λ k. leb k l)) e
  closes_is KV.Paragraph l e = ap (λ (o : Option ℕ). case o false (λ k. leb k l)) e
  closes_is (KV.Item d) l e = ap (λ (o : Option ℕ). case o false (λ k. leb k l)) e

  titled_some : {k : ℕ} (title : List ℕ) → level_of b.kind ≡ some k → titled title b ≡ same (encode (joined b.spans)) title
  titled_some title e = ap (λ (o : Option ℕ). case o false (λ k. true) && same (encode (joined b.spans)) title) e

  titled_none : (title : List ℕ) → level_of b.kind ≡ none → titled title b ≡ false
  titled_none title e = ap (λ (o : Option ℕ). case o false (λ k. true) && same (encode (joined b.spans)) title) e

-- ---- an answer about all blocks, with one more in front
module _ {A : Type 0} (f g : List Block → A) (b : Block) where
  answer_more : ((bs : List Block) → f bs ≡ g (b ∷ bs)) → (p : Parse (List Block)) → of_blocks f p ≡ of_blocks g (with_block b p)
  answer_more h failed = refl
  answer_more h (parsed bs r) = ap gives (h bs)

module _ {A : Type 0} (f g : List Block → A) where
  answer_same : (b : Block) → ((bs : List Block) → f (b ∷ bs) ≡ g (b ∷ bs)) → (p : Parse (List Block)) → of_blocks f (with_block b p) ≡ of_blocks g (with_block b p)
  answer_same b h failed = refl
  answer_same b h (parsed bs r) = ap gives (h bs)

record_first : (b : Block) (bs : List Block) → length (encode_blocks (b ∷ bs)) ≡ length (encode_block b) + length (encode_blocks bs)
unfolding encode_blocks
record_first b bs = length-append (encode_block b) (encode_blocks bs)

record_none : length (encode_blocks []) ≡ 0
unfolding encode_blocks
record_none = refl

-- ---- `end_at`
module _ (s : List ℕ) (at l : ℕ) where
  abbrev ends : ℕ → List Block → ℕ
  ends at bs = at + length (encode_blocks (until (closes l) bs))

  module _ (k : K.Kind) {d : Option ℕ} {n next : ℕ} (w : Stands s at (level_in k) d n next) where
    pub end_next : closes_at l k ≡ false → end_answer s next l ≡ end_answer s at l
    unfolding end_answer
    end_next c = rw w.then.blocks (answer_more (ends next) (ends at) w.block more (blocks_from s next))
      where
        more : (bs : List Block) → ends next bs ≡ ends at (w.block ∷ bs)
        more bs = rw (until_more (closes l) w.block bs (closes_is w.block k l w.level ∙ c)) (omega (arith, w.then.size, record_first w.block (until (closes l) bs)))

    pub end_here : closes_at l k ≡ true → end_values s (Ok at) ≡ end_answer s at l
    unfolding end_answer
    end_here c = rw w.then.blocks (answer_same (λ bs. at) (ends at) w.block stop (blocks_from s next))
      where
        stop : (bs : List Block) → at ≡ ends at (w.block ∷ bs)
        stop bs = rw (until_stop (closes l) w.block bs (closes_is w.block k l w.level ∙ c), record_none) (omega arith)

  pub end_end : blocks_from s at ≡ parsed [] [] → end_values s (Ok at) ≡ end_answer s at l
  unfolding end_answer until
  end_end e = rw (e, record_none, add-zero at)

  pub end_bad : (r : code.Result ℕ Broken) → IsErr r → blocks_from s at ≡ failed → end_values s r ≡ end_answer s at l
  unfolding end_answer
  end_bad (Ok end) h e = cc h
  end_bad (Err b) h e = rw e

-- ---- `heading_at`
place_more : (at next : ℕ) (b : Block) (before x : List Block) → next ≡ at + length (encode_block b) → moved next (place before x) ≡ moved at (place (b ∷ before) x)
place_more at next b before x e =
    let l = record_first b before in
    two_ends (omega arith) (omega arith)

module _ (s title : List ℕ) where
  pub left_all : answer_from s title 0 ≡ section_answer s title
  unfolding answer_from place_from section_answer
  left_all = rw (from_start s) (by (decode_blocks s))
    where
      at_start : (o : Option Part) → o >>= (λ r. some (moved 0 r)) ≡ o
      at_start none = refl
      at_start (some r) = ap some (two_ends (omega arith) (omega arith))

      by : (p : Parse (List Block)) → of_blocks (place_from title 0) p ≡ of_blocks (section_place title) p
      by failed = refl
      by (parsed bs r) = ap gives (at_start (section_place title bs))

  module _ (at : ℕ) where
    module _ {o d : Option ℕ} {n next : ℕ} (w : Stands s at o d n next) where
      left_next : titled title w.block ≡ false → answer_from s title next ≡ answer_from s title at
      unfolding answer_from place_from section_place
      left_next t = rw w.then.blocks (answer_more (place_from title next) (place_from title at) w.block more (blocks_from s next))
        where
          with_place : (before : List Block) (o : Option (List Block))
              → o >>= (λ x. some (place before x)) >>= (λ r. some (moved next r)) ≡ o >>= (λ x. some (place (w.block ∷ before) x)) >>= (λ r. some (moved at r))
          with_place before none = refl
          with_place before (some x) = ap some (place_more at next w.block before x w.then.size)

          more : (bs : List Block) → place_from title next bs ≡ place_from title at (w.block ∷ bs)
          more bs = rw (section_past title w.block bs t, until_more (titled title) w.block bs t) (with_place (until (titled title) bs) (section_of title bs))

    module _ {d : Option ℕ} {n next : ℕ} where
      left_other : Stands s at none d n next → answer_from s title next ≡ answer_from s title at
      left_other w = left_next w (titled_none w.block title w.level)

      module _ {l : ℕ} (w : Stands s at (some l) d n next) {t : Bool} (h : t ≡ has_text title (found_at s at)) where
        is_titled : titled title w.block ≡ t
        is_titled = titled_some w.block title w.level ∙ sym (ap (has_text title) w.then.found) ∙ sym h

        left_untitled : t ≡ false → answer_from s title next ≡ answer_from s title at
        left_untitled f = left_next w (is_titled ∙ f)

        left_titled : t ≡ true → heading_values s (Ok (Some (record { start = at; level = l; next = next }))) ≡ answer_from s title at
        unfolding answer_from end_answer place_from section_place
        left_titled f = rw w.then.blocks (here (blocks_from s next))
          where
            found : (bs : List Block) → some (record { start = at; end = next + length (encode_blocks (until (closes l) bs)) }) ≡ place_from title at (w.block ∷ bs)
            found bs =
                let e = is_titled ∙ f in
                let k = heading_level w.block.kind w.level in
                let z = w.then.size in
                let m = record_first w.block (until (closes l) bs) in
                rw (section_here title w.block bs k e, until_stop (titled title) w.block bs e, record_none) (ap some (two_ends (omega arith) (omega arith)))

            here : (p : Parse (List Block)) → up_to at (of_blocks (λ bs. next + length (encode_blocks (until (closes l) bs))) p) ≡ of_blocks (place_from title at) (with_block w.block p)
            here failed = refl
            here (parsed bs r) = ap gives (found bs)

    -- by the answer of `titled_level`
    module _ {d : Option ℕ} {n next : ℕ} where
      pub left_further : (k : K.Kind) → Stands s at (level_in k) d n next → (t : Bool) → t ≡ has_text title (found_at s at) → level_if t k ≡ None
          → answer_from s title next ≡ answer_from s title at
      left_further (KV.Heading l) w true h e = cc e
      left_further (KV.Heading l) w false h e = left_untitled w h refl
      left_further KV.Paragraph w t h e = left_other w
      left_further (KV.Item c) w t h e = left_other w

      pub left_here : (k : K.Kind) {l : ℕ} → Stands s at (level_in k) d n next → (t : Bool) → t ≡ has_text title (found_at s at) → level_if t k ≡ Some l
          → heading_values s (Ok (Some (record { start = at; level = l; next = next }))) ≡ answer_from s title at
      left_here (KV.Heading m) {l} w true h e = let p : m ≡ l = cc in rw (← p) (left_titled w h refl)
      left_here KV.Paragraph w true h e = cc e
      left_here (KV.Item c) w true h e = cc e
      left_here k w false h e = cc e

    pub left_end : blocks_from s at ≡ parsed [] [] → heading_values s (Ok None) ≡ answer_from s title at
    unfolding answer_from place_from section_place
    left_end e = rw (e, section_none title)

    pub left_bad : (r : code.Result (code.Option Heading) Broken) → IsErr r → blocks_from s at ≡ failed → heading_values s r ≡ answer_from s title at
    unfolding answer_from
    left_bad (Ok o) h e = cc h
    left_bad (Err b) h e = rw e
