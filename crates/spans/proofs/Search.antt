-- Searches: what one step of a search keeps, what an earlier search of the same line is worth, and a link's two searches with the test between.
-- Assumes nothing.
use mathlib.Core.Path.{◌≡◌, refl, ap, ap₂, sym, ◌∙◌}
use mathlib.Core.Logic.{⊎_elim}
use Prim.Native.Nat.{ℕ, zero, suc, max, ◌+◌, ◌-◌, ◌≤◌, ◌<◌}
use native.Mathlib.Omega.{arith}
use native.Mathlib.Numerals.{add-one}
use mathlib.Core.Bool.{Bool, true, false, ◌&&◌}
use mathlib.Core.Option.{Option, none, some}
use mathlib.Core.List.{List, [], ◌∷◌}
use lib.ListN.{length, drop, get_or, length-drop, drop_of_length-le, get_or-eq_default}
use lib.Seq.{drop-cons, drop-drop}
use lib.Dec.{eqb, ltb}
use borrow.Author.Tests.{eq-eqb, ne_eqb, ltb-true, ltb-false, eqb-false}
use Rattle.text.specs.Words.{◌>>=◌, index, starts}
use Rattle.std.specs.Prelude.{Some, None, unwrap_or, if◌then◌else◌}
use Rattle.std.specs.Prelude as code
use Rattle.text.specs.Find.{found}
use Rattle.text.proofs.FindLaws.{found_some, found_none}
use Rattle.text.proofs.Lists.{drop_next}
use Rattle.text.proofs.Tests.{decide}
use Rattle.spans.specs.Spans.{link}
use Rattle.spans.specs.State.{next_at, placed, link_at, Clear, Past, Known}
use Rattle.spans.specs.declared.Link.{Link}
use Rattle.spans.specs.declared.Seen.{Seen}
use Rattle.spans.proofs.LinkLaws.{index_inside, link_is}

-- ---- one step of a search

module _ (x : ℕ) (s : List ℕ) (i : ℕ) where
  pub next_end : length s ≤ i → next_at x s i ≡ None
  unfolding next_at index
  next_end h = rw (drop_of_length-le s h)

  pub next_here : i < length s → get_or s i 0 ≡ x → next_at x s i ≡ Some i
  unfolding next_at index
  next_here h e = rw (drop-cons s i 0 h, eq-eqb (get_or s i 0) x e) (ap Some (omega arith))

  pub next_step : i < length s → (get_or s i 0 ≡ x → ⊥) → next_at x s i ≡ next_at x s (i + 1)
  unfolding next_at index
  next_step h n =
      rw (drop-cons s i 0 h, ne_eqb (get_or s i 0) x n, add-one i) (later (index (x ∷ []) (drop (suc i) s)))
    where
      later : (o : Option ℕ) → found i (o >>= (λ k. some (suc k))) ≡ found (suc i) o
      later none = refl
      later (some k) = ap Some (omega arith)

-- ---- what a search has read

pub clear_start : (x : ℕ) (s : List ℕ) (i : ℕ) → Clear x s i i
clear_start x s i = record { ordered = omega arith; same = λ j l h. ap (next_at x s) (omega arith) }

pub clear_step : (x : ℕ) (s : List ℕ) (from i : ℕ) → Clear x s from i → i < length s → (get_or s i 0 ≡ x → ⊥) → Clear x s from (i + 1)
clear_step x s from i c h n = record {
  ordered = omega (arith, c.ordered);
  same = λ j l m. ⊎_elim
      (λ e. c.same j l (omega (arith, ltb-true j (i + 1) e)) ∙ next_step x s i h n)
      (λ e. ap (next_at x s) (omega (arith, ltb-false j (i + 1) e)))
      (decide (ltb j (i + 1)));
}

-- a search starts after what an earlier one has read
pub clear_resumed : (x : ℕ) (s : List ℕ) (from high : ℕ) → Past x s from high → Clear x s from (max from high)
clear_resumed x s from high c = go (ltb from high) refl
  where
    go : (t : Bool) → ltb from high ≡ t → Clear x s from (max from high)
    go true e =
        let q : max from high ≡ high = omega (arith, ltb-true from high e) in
        rw q (record { ordered = omega (arith, ltb-true from high e); same = c })
    go false e =
        let q : max from high ≡ from = omega (arith, ltb-false from high e) in
        rw q (clear_start x s from)

-- the search from the start is the one from where it has come to
pub clear_next : (x : ℕ) (s : List ℕ) (from i : ℕ) → Clear x s from i → next_at x s from ≡ next_at x s i
clear_next x s from i c = c.same from (omega arith) c.ordered

-- one part behind another
clear_join : (x : ℕ) (s : List ℕ) (a b c : ℕ) → Clear x s a b → Clear x s b c → Clear x s a c
clear_join x s a b c p q = record {
  ordered = omega (arith, p.ordered, q.ordered);
  same = λ j l m. ⊎_elim
      (λ e. p.same j l (omega (arith, ltb-true j b e)) ∙ q.same b (omega arith) q.ordered)
      (λ e. q.same j (ltb-false j b e) m)
      (decide (ltb j b));
}

clear_empty : (x : ℕ) (s : List ℕ) (i e : ℕ) → i ≡ e → Clear x s i e
clear_empty x s i e h = record { ordered = omega arith; same = λ j l m. ap (next_at x s) (omega arith) }

clear_first : (x : ℕ) (s : List ℕ) (i e : ℕ) → i < length s → (get_or s i 0 ≡ x → ⊥) → Clear x s (i + 1) e → Clear x s i e
clear_first x s i e h n c = clear_join x s i (i + 1) e (clear_step x s i i (clear_start x s i) h n) c

-- what the search says of the bytes that it passes: up to the end of the line, where it finds nothing, and up to what it finds
module _ (x : ℕ) (s : List ℕ) where
  passed_none : (i : ℕ) → i < length s → index (x ∷ []) (drop i s) ≡ none → (get_or s i 0 ≡ x → ⊥) × (index (x ∷ []) (drop (i + 1) s) ≡ none)
  unfolding index
  passed_none i h e = go (eqb (get_or s i 0) x) refl (index (x ∷ []) (drop (i + 1) s)) (rw (drop_next s i h) at e)
    where
      go : (t : Bool) → eqb (get_or s i 0) x ≡ t → (o : Option ℕ) → (if t && true then some 0 else o >>= (λ k. some (suc k))) ≡ none
          → (get_or s i 0 ≡ x → ⊥) × (o ≡ none)
      go true q o e = cc
      go false q none e = (eqb-false _ _ q, refl)
      go false q (some k) e = cc

  passed_some : (i n : ℕ) → i < length s → index (x ∷ []) (drop i s) ≡ some (suc n) → (get_or s i 0 ≡ x → ⊥) × (index (x ∷ []) (drop (i + 1) s) ≡ some n)
  unfolding index
  passed_some i n h e = go (eqb (get_or s i 0) x) refl (index (x ∷ []) (drop (i + 1) s)) (rw (drop_next s i h) at e)
    where
      go : (t : Bool) → eqb (get_or s i 0) x ≡ t → (o : Option ℕ) → (if t && true then some 0 else o >>= (λ k. some (suc k))) ≡ some (suc n)
          → (get_or s i 0 ≡ x → ⊥) × (o ≡ some n)
      go true q o e = cc
      go false q none e = cc
      go false q (some k) e = let z : suc k ≡ suc n = cc in (eqb-false _ _ q, ap some (omega arith))

  clear_none : (n i e : ℕ) → i + n ≡ e → e ≡ length s → index (x ∷ []) (drop i s) ≡ none → Clear x s i e
  clear_none zero i e h l f = clear_empty x s i e (omega arith)
  clear_none (suc n) i e h l f =
      let p = passed_none i (omega arith) f in
      clear_first x s i e (omega arith) p.0 (clear_none n (i + 1) e (omega arith) l p.1)

  clear_some : (n i e : ℕ) → i + n ≡ e → index (x ∷ []) (drop i s) ≡ some n → Clear x s i e
  clear_some zero i e h f = clear_empty x s i e (omega arith)
  clear_some (suc n) i e h f =
      let l : i < length s = omega (arith, index_inside x (drop i s) (suc n) f, length-drop i s) in
      let p = passed_some i n l f in
      clear_first x s i e l p.0 (clear_some n (i + 1) e (omega arith) p.1)

  -- a search from `start` on, where the bytes from `from` on are known up to there
  pub past_found : (from start : ℕ) → Clear x s from start → Past x s from (unwrap_or (next_at x s start) (length s))
  unfolding next_at
  past_found from start c = go (index (x ∷ []) (drop start s)) refl
    where
      go : (o : Option ℕ) → index (x ∷ []) (drop start s) ≡ o → Past x s from (unwrap_or (found start o) (length s))
      go none e =
          ⊎_elim
          (λ h. (clear_join x s from start (length s) c (clear_none (length s - start) start (length s) (omega (arith, ltb-true start (length s) h)) refl e)).same)
          (λ h j a b. c.same j a (omega (arith, ltb-false start (length s) h)) ∙ sym (c.same (length s) (omega arith) (ltb-false start (length s) h)))
          (decide (ltb start (length s)))
      go (some n) e = (clear_join x s from start (start + n) c (clear_some n start (start + n) refl e)).same

-- ---- what is known of a line

-- the walk goes on
pub known_on : (s : List ℕ) (from next : ℕ) (seen : Seen) → from ≤ next → Known s from seen → Known s next seen
known_on s from next seen h k = record {
  close = λ j a b. k.close j (omega arith) b;
  end = λ i a e. k.end i (omega arith) e;
  tick = λ j a b. k.tick j (omega arith) b;
}

-- a byte before, which is no mark that is searched for
past_back : (x : ℕ) (s : List ℕ) (i high : ℕ) → i < length s → (get_or s i 0 ≡ x → ⊥) → Past x s (i + 1) high → Past x s i high
past_back x s i high l n p = λ j a b. ⊎_elim
    (λ e. let q : j ≡ i = omega (arith, ltb-true j (i + 1) e) in
    ⊎_elim
    (λ f. rw q (next_step x s i l n ∙ p (i + 1) (omega arith) (omega (arith, ltb-true i high f))))
    (λ f. ap (next_at x s) (omega (arith, ltb-false i high f)))
    (decide (ltb i high)))
    (λ e. p j (ltb-false j (i + 1) e) b)
    (decide (ltb j (i + 1)))

known_back : (s : List ℕ) (i : ℕ) (seen : Seen) → i < length s → (get_or s i 0 ≡ 93 → ⊥) → (get_or s i 0 ≡ 96 → ⊥) → Known s (i + 1) seen → Known s i seen
known_back s i seen l n m k = record {
  close = past_back 93 s i seen.close l n k.close;
  end = λ j a e. k.end j (⊎_elim (λ h. absurd (n (let q : j ≡ i = omega (arith, ltb-true j (i + 1) h) in rw q at e))) (λ h. ltb-false j (i + 1) h) (decide (ltb j (i + 1)))) e;
  tick = past_back 96 s i seen.tick l m k.tick;
}

pub known_bracket : (s : List ℕ) (i : ℕ) (seen : Seen) → get_or s i 0 ≡ 91 → Known s (i + 1) seen → Known s i seen
known_bracket s i seen e k =
    known_back s i seen (⊎_elim (λ h. ltb-true i (length s) h) (λ h. absurd (omega (arith, get_or-eq_default s 0 (ltb-false i (length s) h)))) (decide (ltb i (length s))))
    (λ f. omega arith) (λ f. omega arith) k

-- nothing is read yet
pub known_none : (s : List ℕ) (from : ℕ) (seen : Seen) → seen.close ≡ 0 → seen.end ≡ 0 → seen.tick ≡ 0 → Known s from seen
known_none s from seen c e t = record {
  close = λ j a b. ap (next_at 93 s) (omega arith);
  end = λ k a f j b h. ap (next_at 41 s) (omega arith);
  tick = λ j a b. ap (next_at 96 s) (omega arith);
}

-- the `)` behind the first `]`: no other `]` stands before it
pub end_noted : (s : List ℕ) (from i high : ℕ) → Clear 93 s from i → i < length s → get_or s i 0 ≡ 93 → Clear 41 s (i + 2) high
    → (k : ℕ) → from ≤ k → get_or s k 0 ≡ 93 → Past 41 s (k + 2) high
end_noted s from i high c l e d k a f = λ j b h. d.same j (omega (arith, first)) h
  where
    inside : k < length s
    inside = ⊎_elim (λ h. ltb-true k (length s) h) (λ h. absurd (omega (arith, get_or-eq_default s 0 (ltb-false k (length s) h)))) (decide (ltb k (length s)))

    first : i ≤ k
    first =
        ⊎_elim
        (λ h.
        let q = sym (next_here 93 s k inside f) ∙ c.same k a (omega (arith, ltb-true k i h)) ∙ next_here 93 s i l e in
        let z : k ≡ i = cc in
        omega arith)
        (λ h. ltb-false k i h)
        (decide (ltb k i))

-- ---- what a search found

-- the first x from i on stands n places after it
pub record At (x : ℕ) (s : List ℕ) (i k : ℕ) : Type 0 where
  pub more : ℕ
  pub found_is : index (x ∷ []) (drop i s) ≡ some more
  pub place : i + more ≡ k
  pub inside : k < length s

pub found_at : (x : ℕ) (s : List ℕ) (i k : ℕ) → next_at x s i ≡ Some k → At x s i k
unfolding next_at
found_at x s i k e =
    let p = found_some i (index (x ∷ []) (drop i s)) k e in
    let q = p.2 in
    record { more = p.0; found_is = p.1; place = q; inside = omega (arith, index_inside x (drop i s) p.0 p.1, length-drop i s) }

pub missed : (x : ℕ) (s : List ℕ) (i : ℕ) → next_at x s i ≡ None → index (x ∷ []) (drop i s) ≡ none
unfolding next_at
missed x s i e = found_none i (index (x ∷ []) (drop i s)) e

-- ---- a link, by places of the whole line

module _ (s : List ℕ) (from i : ℕ) (read : Clear 93 s from i) where
  pub no_close : length s ≤ i → ◌≡◌ {A = code.Option Link} None (link_at s from)
  unfolding link
  no_close h = rw (missed 93 s from (clear_next 93 s from i read ∙ next_end 93 s i h))

  close_at : i < length s → get_or s i 0 ≡ 93 → At 93 s from i
  close_at h e = found_at 93 s from i (clear_next 93 s from i read ∙ next_here 93 s i h e)

  module _ (h : i < length s) (hit : get_or s i 0 ≡ 93) where
    abbrev close : At 93 s from i
    close = close_at h hit

    after : (n : ℕ) → drop (close.more + n) (drop from s) ≡ drop (i + n) s
    after n =
        let e : from + (close.more + n) ≡ i + n = omega (arith, close.place) in
        drop-drop (close.more + n) from s ∙ ap (λ (k : ℕ). drop k s) e

    pub no_paren : (get_or s (i + 1) 0 ≡ 40 → ⊥) → ◌≡◌ {A = code.Option Link} None (link_at s from)
    unfolding link
    no_paren n =
        ⊎_elim
        (λ e. rw (close.found_is, after 1, drop-cons s (i + 1) 0 (ltb-true (i + 1) (length s) e), ne_eqb (get_or s (i + 1) 0) 40 n))
        (λ e. rw (close.found_is, after 1, drop_of_length-le s (ltb-false (i + 1) (length s) e)))
        (decide (ltb (i + 1) (length s)))

    module _ (paren : get_or s (i + 1) 0 ≡ 40) (j : ℕ) (more : Clear 41 s (i + 2) j) where
      starts_target : starts "(" (drop (i + 1) s) ≡ true
      starts_target =
          ⊎_elim
          (λ e. rw (drop-cons s (i + 1) 0 (ltb-true (i + 1) (length s) e), eq-eqb (get_or s (i + 1) 0) 40 paren))
          (λ e. absurd (omega (arith, get_or-eq_default s 0 (ltb-false (i + 1) (length s) e))))
          (decide (ltb (i + 1) (length s)))

      pub no_end : length s ≤ j → ◌≡◌ {A = code.Option Link} None (link_at s from)
      unfolding link
      no_end m =
          rw (close.found_is, after 1, starts_target, after 2, missed 41 s (i + 2) (clear_next 41 s (i + 2) j more ∙ next_end 41 s j m))

      pub closed : j < length s → get_or s j 0 ≡ 41 → Some (record { close = i; end = j }) ≡ link_at s from
      unfolding link
      closed m e =
          let end = found_at 41 s (i + 2) j (clear_next 41 s (i + 2) j more ∙ next_here 41 s j m e) in
          rw (close.found_is, after 1, starts_target, after 2, end.found_is)
          (ap₂ (λ (x y : ℕ). Some (record { close = x; end = y })) (omega (arith, close.place)) (omega (arith, close.place, end.place)))

-- where a found link's label and target end, in the line and after its `[`
pub record Linked (s : List ℕ) (from x y : ℕ) : Type 0 where
  pub close : ℕ
  pub last : ℕ
  pub is : link (drop from s) ≡ some (close, last)
  pub close_is : x ≡ from + close
  pub last_is : y ≡ from + last
  pub before : x + 2 ≤ y
  pub inside : y < length s

pub link_found : (s : List ℕ) (from : ℕ) (l : Link) → Some l ≡ link_at s from → Linked s from l.close l.end
link_found s from l p = go (link (drop from s)) refl p
  where
    go : (o : Option (ℕ × ℕ)) → link (drop from s) ≡ o → Some l ≡ placed from o → Linked s from l.close l.end
    go none e p = cc
    go (some q) e p =
        let k = link_is (drop from s) q e in
        let r : ◌≡◌ {A = Link} l (record { close = from + q.0; end = from + q.1 }) = cc in
        let f : l.close ≡ from + q.0 = ap (λ (z : Link). z.close) r in
        let g : l.end ≡ from + q.1 = ap (λ (z : Link). z.end) r in
        record { close = q.0; last = q.1; is = e; close_is = f; last_is = g; before = omega (arith, k.order); inside = omega (arith, k.end, length-drop from s) }

pub unlinked : (s : List ℕ) (from : ℕ) → ◌≡◌ {A = code.Option Link} None (link_at s from) → link (drop from s) ≡ none
unlinked s from p = go (link (drop from s)) p
  where
    go : (o : Option (ℕ × ℕ)) → ◌≡◌ {A = code.Option Link} None (placed from o) → o ≡ none
    go none e = refl
    go (some q) e = cc
