-- What `blocks_call` says in each case, and the answer, the length and the buffers with it.
-- Assumes nothing.
use Prim.Native.Nat.{ℕ, ◌*◌, ◌≤◌, ◌<◌}
use mathlib.Core.Bool.{true, false}
use mathlib.Core.List.{List}
use mathlib.Core.Path.{◌≡◌, refl, sym, ◌∙◌, subst}
use borrow.Author.Tests.{lt-ltb, le-ltb}
use lib.ListN.{length, replicate}
use lib.Seq.{sets}
use Rattle.text.specs.Utf8.{chars, is_utf8}
use Rattle.text.specs.Outcome.{Outcome, refused, wrote, number, returned, result_after, work_kept}
use Rattle.text.proofs.Laws.{decode_true, decode_false}
use Rattle.records.specs.Format.{encode_blocks}
use Rattle.records.proofs.Stores.{sets_front}
use Rattle.markdown.specs.Blocks.{blocks}
use Rattle.markdown.specs.Calls.{recorded, with_buffers, blocks_call}
use Rattle.markdown.specs.Answers.{answer_number, answer_length}
use Rattle.std.specs.Prelude.{Result, Ok, Err}
use Rattle.markdown.specs.declared.BlocksError.{BlocksError}
use Rattle.markdown.specs.declared.BlocksError.TheVariants.{NotUtf8, SmallWork, TooLong, SmallResult}

abbrev Answer : Type 0
Answer = Result ℕ BlocksError

abbrev pub Answered : Outcome → List ℕ → List ℕ → List ℕ → List ℕ → Answer → Type 0
Answered o work₀ work out₀ out a =
    (answer_number a ≡ number o) × ((answer_length a ≡ returned o) × ((out ≡ result_after o out₀) × (work_kept o work ≡ work_kept o work₀)))

module _ (md work out : List ℕ) where
  abbrev call : Outcome
  call = blocks_call md (length work) (length out)

  said : (o : Outcome) (work₁ out₁ : List ℕ) (a : Answer) → call ≡ o → Answered o work work₁ out out₁ a → Answered call work work₁ out out₁ a
  said o work₁ out₁ a e v = subst (λ (p : Outcome). Answered p work work₁ out out₁ a) (sym e) v

  pub too_long : 65536 < length md → Answered call work work out out (Err TooLong)
  unfolding blocks_call
  too_long h = said (refused 5) work out (Err TooLong) (rw (lt-ltb 65536 (length md) h)) (refl, (refl, (refl, refl)))

  module _ (s : length md ≤ 65536) where
    pub not_utf8 : is_utf8 md ≡ false → Answered call work work out out (Err NotUtf8)
    unfolding blocks_call
    not_utf8 e =
        said (refused 1) work out (Err NotUtf8) (rw (le-ltb 65536 (length md) s, decode_false md e)) (refl, (refl, (refl, refl)))

    module _ (e : is_utf8 md ≡ true) where
      read_call : call ≡ with_buffers (chars md) (length md) (length work) (length out)
      unfolding blocks_call
      read_call = rw (le-ltb 65536 (length md) s, decode_true md e)

      pub small_work : length work < 6 * length md → Answered call work work out out (Err SmallWork)
      unfolding with_buffers
      small_work h = said (refused 2) work out (Err SmallWork) (read_call ∙ rw (lt-ltb (length work) (6 * length md) h)) (refl, (refl, (refl, refl)))

      module _ (h : 6 * length md ≤ length work) where
        abbrev records : List ℕ
        records = encode_blocks (blocks (chars md))

        room_call : call ≡ recorded records (length out)
        unfolding with_buffers
        room_call = read_call ∙ rw (le-ltb (length work) (6 * length md) h)

        pub small_result : (work₁ out₁ : List ℕ) → length out < length records → out₁ ≡ replicate (length out) 0 → Answered call work work₁ out out₁ (Err SmallResult)
        unfolding recorded
        small_result work₁ out₁ l f =
            said (refused 6) work₁ out₁ (Err SmallResult) (room_call ∙ rw (lt-ltb (length out) (length records) l)) (refl, (refl, (f, refl)))

        pub all_written : (work₁ out₁ : List ℕ) (n : ℕ) → n ≡ length records → n ≤ length out → out₁ ≡ sets out 0 records → Answered call work work₁ out out₁ (Ok n)
        unfolding recorded
        all_written work₁ out₁ n q l f =
            let m : length records ≤ length out = subst (λ (k : ℕ). k ≤ length out) q l in
            said (wrote records) work₁ out₁ (Ok n) (room_call ∙ rw (le-ltb (length out) (length records) m)) (refl, (q, (f ∙ sets_front out records m, refl)))
