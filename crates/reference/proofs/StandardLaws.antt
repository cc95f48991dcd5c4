-- The reference step beside the HTML standard's, as far as `standard` (specs/Standard.antt) has that: the six names and numbers, each ended by `;`.
-- (a) Where we replace, `standard` puts the same character, but for nbsp and a `+` (`agrees`, `nbsp_differs`).
-- (b) Where `standard` puts a character, it is said exactly which we leave, and what we put for the others (`left_exactly`, `left_iff`).
-- (c) Where we replace and `standard` has none, there is a `+` before the digits (`only_signed`, `signed_never`, `signed_named`).
-- Where both have none, the laws say nothing: there the HTML standard may replace what `standard` does not speak of, as `&copy;` and `&lt` without `;`.
-- Assumes nothing.
use Prim.Native.Nat.{ℕ, ◌+◌, ◌≤◌, ◌<◌}
use mathlib.Core.Bool.{Bool, true, false, ◌||◌, not}
use mathlib.Core.List.{List, [], ◌∷◌, ◌++◌}
use mathlib.Core.Logic.{⊎_elim, ◌↔◌}
use mathlib.Core.Option.{Option, none, some, some-injective}
use mathlib.Core.Path.{◌≡◌, refl, sym, ap, ◌∙◌}
use borrow.Author.Tests.{leb-true, leb-false, lt-ltb, le-ltb, ltb-true, eqb-true}
use native.Mathlib.Omega.{arith}
use lib.Dec.{leb, ltb, eqb}
use lib.ListN.{length}
use lib.Seq.{take-append_seam}
use Rattle.std.specs.Prelude.{if◌then◌else◌}
use Rattle.text.specs.Words.{◌>>=◌, ensure, case, str, is, any, same, starts_with, index}
use Rattle.text.specs.Chars.{within, is_control}
use Rattle.text.specs.Utf8.{size}
use Rattle.text.proofs.Tests.{decide, and_true, or_elim, or_right, within_true, within_is, then_some, same_true}
use Rattle.reference.specs.Unescape.{names, number, named, reference, written}
use Rattle.reference.specs.Standard.{end_state, numeric, entities, standard_named, standard, name_of, far, no_number, refused, signed, unsigned, own}
use Rattle.reference.proofs.SplitLaws.{Without, First, missing, here, first, index_missing, index_here}
use Rattle.reference.proofs.NameLaws.{Word, amp, lt, gt, quot, apos, nbsp, spelling, meant, Other, Kind, word, other, kind, named_word, named_other, plain, number_written}
use Rattle.reference.proofs.StepLaws.{reference_here}
use Rattle.reference.proofs.Laws.{pair_is, reference_word, IsReplaced, replaced}
use Rattle.reference.proofs.StandardNumbers.{zero_control, number_yes, plain_is, signs}

-- ---- both, by what stands before the first `;`
standard_missing : (s : List ℕ) → Without 59 s → standard s ≡ none
unfolding standard
standard_missing s w = rw (index_missing 59 s w)

abbrev counted : List ℕ → Option (ℕ × ℕ)
counted u = standard_named u >>= λ c. some (c, length u + 1)

counted_some : (u : List ℕ) (c n : ℕ) → counted u ≡ some (c, n) → (standard_named u ≡ some c) × (n ≡ length u + 1)
counted_some u c n e =
    let t = then_some (standard_named u) (λ d. some (d, length u + 1)) e in
    let p = pair_is t.0 (length u + 1) c n t.2 in
    (t.1 ∙ ap some p.0, sym p.1)

standard_here : (u v : List ℕ) → Without 59 u → standard (u ++ 59 ∷ v) ≡ counted u
unfolding standard
standard_here u v w = rw (index_here 59 u v w, take-append_seam u (59 ∷ v))

name_here : (u v : List ℕ) → Without 59 u → name_of (u ++ 59 ∷ v) ≡ u
unfolding name_of
name_here u v w = rw (index_here 59 u v w) (take-append_seam u (59 ∷ v))

near_far : (u : List ℕ) → leb (1 + size u) 10 ≡ not (far u)
unfolding far
near_far u =
    ⊎_elim
    (λ e. e ∙ sym (ap not (le-ltb 10 (1 + size u) (leb-true (1 + size u) 10 e))))
    (λ e. e ∙ sym (ap not (lt-ltb 10 (1 + size u) (leb-false (1 + size u) 10 e))))
    (decide (leb (1 + size u) 10))

-- ---- names
entity_other : (u : List ℕ) → Other u → standard_named u ≡ (numeric u >>= λ v. some (end_state v))
unfolding standard_named entities
entity_other u h = rw (h amp, h lt, h gt, h quot, h apos, h nbsp)

abbrev pub entity : Word → ℕ
entity amp = 0x26
entity lt = 0x3C
entity gt = 0x3E
entity quot = 0x22
entity apos = 0x27
entity nbsp = 0xA0

pub standard_word : (k : Word) → standard_named (str (spelling k)) ≡ some (entity k)
unfolding standard_named entities
standard_word amp = refl
standard_word lt = refl
standard_word gt = refl
standard_word quot = refl
standard_word apos = refl
standard_word nbsp = refl

own_word : (k : Word) → named (str (spelling k)) ≡ (if refused (str (spelling k)) then none else some (own (str (spelling k)) (entity k)))
unfolding named names refused numeric
own_word amp = refl
own_word lt = refl
own_word gt = refl
own_word quot = refl
own_word apos = refl
own_word nbsp = refl

-- a number that the standard reads, we read too
pub written_numeric : (u : List ℕ) (v : ℕ) → numeric u ≡ some v → written u ≡ some v
written_numeric u v e =
    ⊎_elim
    (λ t. let n = (signs u).never t in let z : ◌≡◌ {A = ℕ} 0 1 = cc in absurd (omega arith))
    (λ t. (signs u).without t ∙ e)
    (decide (signed u))

refused_number : (u : List ℕ) (v : ℕ) → numeric u ≡ some v → refused u ≡ no_number v
unfolding refused
refused_number u v e = rw e

number_own : (u : List ℕ) (v : ℕ) → numeric u ≡ some v → number u ≡ (if refused u then none else some (end_state v))
number_own u v e =
    number_written u
    ∙ ap (λ (o : Option ℕ). o >>= plain) (written_numeric u v e)
    ∙ plain_is v
    ∙ by (no_number v) refl
    ∙ ap (λ (t : Bool). if t then none else some (end_state v)) (sym (refused_number u v e))
  where
    by : (t : Bool) → no_number v ≡ t → (if t then none else some v) ≡ (if t then none else some (end_state v))
    by true n = refl
    by false n = ap some (sym (number_yes v n).stays)

-- what we put for a name for which `standard` puts c
pub named_standard : (u : List ℕ) (c : ℕ) → standard_named u ≡ some c → named u ≡ (if refused u then none else some (own u c))
named_standard u c e = by (kind u)
  where
    by : Kind u → named u ≡ (if refused u then none else some (own u c))
    by (word k q) =
        let m : c ≡ entity k = some-injective _ _ (sym e ∙ ap standard_named q ∙ standard_word k) in
        rw (q, m) (own_word k)
    by (other h) =
        let t = then_some (numeric u) (λ v. some (end_state v)) (sym (entity_other u h) ∙ e) in
        let m : c ≡ end_state t.0 = sym (some-injective _ _ t.2) in
        rw (m, h nbsp) (named_other u h ∙ number_own u t.0 t.1)

-- ---- the step
-- (b) Where `standard` puts a character, we leave exactly what is too far away or writes a number that we refuse, and else put the same, but for nbsp.
pub left_exactly : (s : List ℕ) (c n : ℕ) → standard s ≡ some (c, n)
    → reference s ≡ (if far (name_of s) || refused (name_of s) then none else some (own (name_of s) c, n))
left_exactly s c n e = by (first 59 s)
  where
    choose : (f r : Bool) (x : ℕ × ℕ)
        → (ensure (not f) >>= λ _. (if r then none else some x)) ≡ (if f || r then none else some x)
    choose true r x = refl
    choose false r x = refl

    inside : (r : Bool) (d : ℕ) (f : ℕ → Option (ℕ × ℕ)) → ((if r then none else some d) >>= f) ≡ (if r then none else f d)
    inside true d f = refl
    inside false d f = refl

    by : First 59 s → reference s ≡ (if far (name_of s) || refused (name_of s) then none else some (own (name_of s) c, n))
    by (missing w) = let i = standard_missing s w in let z : ◌≡◌ {A = ℕ} 0 1 = cc in absurd (omega arith)
    by (here u v w q) =
        let g = counted_some u c n (sym (standard_here u v w) ∙ ap standard (sym q) ∙ e) in
        let m : name_of s ≡ u = ap name_of q ∙ name_here u v w in
        ap reference q
        ∙ reference_here u v w
        ∙ rw (near_far u, named_standard u c g.0, inside (refused u) (own u c) (λ d. some (d, length u + 1)))
        (choose (far u) (refused u) (own u c, length u + 1) ∙ sym (rw (m, g.1)))

-- why we leave a name for which `standard` puts a character
pub data Reason (name : List ℕ) : Type 0 where
  too_far : 10 < 1 + size name → Reason name
  a_control : (v : ℕ) → numeric name ≡ some v → is_control v ≡ true → Reason name
  is_zero : numeric name ≡ some 0 → Reason name
  a_surrogate : (v : ℕ) → numeric name ≡ some v → 0xD800 ≤ v → v ≤ 0xDFFF → Reason name
  too_large : (v : ℕ) → numeric name ≡ some v → 0x10FFFF < v → Reason name

refused_by : (u : List ℕ) (v : ℕ) → numeric u ≡ some v → no_number v ≡ true → far u || refused u ≡ true
refused_by u v e n = or_right (far u) (refused u) (refused_number u v e ∙ n)

reason_true : (u : List ℕ) → Reason u → far u || refused u ≡ true
unfolding no_number far
reason_true u (too_far l) = rw (lt-ltb 10 (1 + size u) l)
reason_true u (a_control v e k) = refused_by u v e (rw k)
reason_true u (is_zero e) = refused_by u 0 e (rw (zero_control))
reason_true u (a_surrogate v e l h) =
    refused_by u v e
    (rw (or_right (is_control v || eqb v 0) (within 0xD800 0xDFFF v) (within_is 0xD800 0xDFFF v l h)))
reason_true u (too_large v e l) =
    refused_by u v e (or_right (is_control v || eqb v 0 || within 0xD800 0xDFFF v) (ltb 0x10FFFF v) (lt-ltb 0x10FFFF v l))

number_reason : (u : List ℕ) (v : ℕ) → numeric u ≡ some v → no_number v ≡ true → Reason u
unfolding no_number
number_reason u v e =
    or_elim (is_control v || eqb v 0 || within 0xD800 0xDFFF v) (ltb 0x10FFFF v)
    (or_elim (is_control v || eqb v 0) (within 0xD800 0xDFFF v)
    (or_elim (is_control v) (eqb v 0) (a_control v e) (λ z. is_zero (e ∙ ap some (eqb-true v 0 z))))
    (λ s. let p = within_true 0xD800 0xDFFF v s in a_surrogate v e p.0 p.1))
    (λ l. too_large v e (ltb-true 0x10FFFF v l))

true_reason : (u : List ℕ) → far u || refused u ≡ true → Reason u
unfolding far refused
true_reason u = or_elim (far u) (refused u) (λ f. too_far (ltb-true 10 (1 + size u) f)) (by (numeric u) refl)
  where
    by : (o : Option ℕ) → numeric u ≡ o → case o false no_number ≡ true → Reason u
    by none e t = let z : ◌≡◌ {A = ℕ} 0 1 = cc in absurd (omega arith)
    by (some v) e t = number_reason u v e t

pub left_iff : (s : List ℕ) (c n : ℕ) → standard s ≡ some (c, n) → (reference s ≡ none) ↔ Reason (name_of s)
left_iff s c n e = (λ l. true_reason (name_of s) (to _ _ (sym (left_exactly s c n e) ∙ l)), λ r. left_exactly s c n e ∙ rw (reason_true (name_of s) r))
  where
    to : (t : Bool) (x : ℕ × ℕ) → (if t then none else some x) ≡ none → t ≡ true
    to true x l = refl
    to false x l = cc

-- (a) Where we replace, `standard` puts the same character, but for nbsp and a `+`.
meant_entity : (k : Word) → same (str "nbsp") (str (spelling k)) ≡ false → entity k ≡ meant k
meant_entity amp e = refl
meant_entity lt e = refl
meant_entity gt e = refl
meant_entity quot e = refl
meant_entity apos e = refl
meant_entity nbsp e = cc

plain_some : (v c : ℕ) → plain v ≡ some c → (no_number v ≡ false) × (v ≡ c)
plain_some v c e = by (no_number v) (sym (plain_is v) ∙ e)
  where
    by : (t : Bool) → (if t then none else some v) ≡ some c → (t ≡ false) × (v ≡ c)
    by true f = (cc, cc)
    by false f = (refl, some-injective _ _ f)

standard_of : (u : List ℕ) (c : ℕ) → named u ≡ some c → same (str "nbsp") u ≡ false → signed u ≡ false → standard_named u ≡ some c
standard_of u c e n p = by (kind u)
  where
    by : Kind u → standard_named u ≡ some c
    by (word k q) =
        let m : meant k ≡ c = some-injective _ _ (sym (named_word k) ∙ ap named (sym q) ∙ e) in
        ap standard_named q ∙ standard_word k ∙ ap some (meant_entity k (ap (same (str "nbsp")) (sym q) ∙ n) ∙ m)
    by (other h) =
        let t = then_some (written u) plain (sym (number_written u) ∙ sym (named_other u h) ∙ e) in
        let k = plain_some t.0 c t.2 in
        let r : numeric u ≡ some t.0 = sym ((signs u).without p) ∙ t.1 in
        entity_other u h ∙ rw r (ap some ((number_yes t.0 k.0).stays ∙ k.1))

name_is : (s : List ℕ) (c n : ℕ) (r : IsReplaced s c n) → name_of s ≡ r.name
name_is s c n r = ap name_of r.split ∙ name_here r.name r.after r.without

counted_is : (s : List ℕ) (c n : ℕ) (r : IsReplaced s c n) (d : ℕ) → standard_named r.name ≡ some d → standard s ≡ some (d, n)
counted_is s c n r d e =
    ap standard r.split ∙ standard_here r.name r.after r.without ∙ rw (e) (ap (λ (k : ℕ). some (d, k)) (sym r.count))

pub agrees : (s : List ℕ) (c n : ℕ) → reference s ≡ some (c, n) → same (str "nbsp") (name_of s) ≡ false → signed (name_of s) ≡ false
    → standard s ≡ some (c, n)
agrees s c n e b p =
    let r = replaced s c n e in
    let m = name_is s c n r in
    counted_is s c n r c (standard_of r.name c r.meaning (ap (same (str "nbsp")) (sym m) ∙ b) (ap signed (sym m) ∙ p))

-- what a front part has, the whole has
holds : (p u : List ℕ) → starts_with p u ≡ true → any (is "+") p ≡ true → any (is "+") u ≡ true
holds [] u t f = cc
holds (d ∷ p) [] t f = cc
holds (d ∷ p) (c ∷ u) t f =
    let a = and_true (eqb c d) (starts_with p u) t in
    let q = eqb-true c d a.0 in
    or_elim (is "+" d) (any (is "+") p)
    (λ g. let h = ap (is "+") q in rw (h, g))
    (λ g. or_right (is "+" c) (any (is "+") u) (holds p u a.1 g))
    f

-- a name without a `+` has none before its digits
pub no_plus : (u : List ℕ) → any (is "+") u ≡ false → signed u ≡ false
unfolding signed
no_plus u e = rw (no (str "#+") refl, no (str "#x+") refl, no (str "#X+") refl)
  where
    no : (p : List ℕ) → any (is "+") p ≡ true → starts_with p u ≡ false
    no p f = ⊎_elim (λ t. let z = holds p u t f in let y : ◌≡◌ {A = ℕ} 0 1 = cc in absurd (omega arith)) (λ t. t) (decide (starts_with p u))

pub agrees_no_plus : (s : List ℕ) (c n : ℕ) → reference s ≡ some (c, n) → same (str "nbsp") (name_of s) ≡ false → any (is "+") (name_of s) ≡ false
    → standard s ≡ some (c, n)
agrees_no_plus s c n e b p = agrees s c n e b (no_plus (name_of s) p)

-- (c) What we replace and `standard` does not has a `+` before its digits, and `standard` has none for each such name. There the HTML standard leaves
-- the `&`: its "Decimal" and "Hexadecimal character reference start state" find no digit.
pub only_signed : (s : List ℕ) (c n : ℕ) → reference s ≡ some (c, n) → standard s ≡ none → signed (name_of s) ≡ true
only_signed s c n e l =
    let r = replaced s c n e in
    ⊎_elim (λ t. t)
    (λ t. ⊎_elim
    (λ b.
    let q : str "nbsp" ≡ r.name = same_true (str "nbsp") (name_of s) b ∙ name_is s c n r in
    let k = counted_is s c n r 0xA0 (ap standard_named (sym q) ∙ standard_word nbsp) in
    let z : ◌≡◌ {A = ℕ} 0 1 = cc in absurd (omega arith))
    (λ b. let k = agrees s c n e b t in let z : ◌≡◌ {A = ℕ} 0 1 = cc in absurd (omega arith))
    (decide (same (str "nbsp") (name_of s))))
    (decide (signed (name_of s)))

word_signed : (k : Word) → signed (str (spelling k)) ≡ false
unfolding signed
word_signed amp = refl
word_signed lt = refl
word_signed gt = refl
word_signed quot = refl
word_signed apos = refl
word_signed nbsp = refl

signed_other : (u : List ℕ) → signed u ≡ true → Other u
signed_other u t = by (kind u)
  where
    by : Kind u → Other u
    by (word k q) = let f = word_signed k in let g = ap signed q in let z : ◌≡◌ {A = ℕ} 0 1 = cc in absurd (omega arith)
    by (other h) = h

pub signed_never : (s : List ℕ) → signed (name_of s) ≡ true → standard s ≡ none
signed_never s t = by (first 59 s)
  where
    by : First 59 s → standard s ≡ none
    by (missing w) = standard_missing s w
    by (here u v w q) =
        let p : signed u ≡ true = ap signed (sym (ap name_of q ∙ name_here u v w)) ∙ t in
        ap standard q ∙ standard_here u v w ∙ rw (entity_other u (signed_other u p), (signs u).never p)

-- and what we put for it is the character whose number the digits write
pub signed_named : (u : List ℕ) → signed u ≡ true → named u ≡ (unsigned u >>= λ v. if no_number v then none else some v)
signed_named u t =
    named_other u (signed_other u t) ∙ number_written u ∙ rw ((signs u).with t) (by (unsigned u))
  where
    by : (o : Option ℕ) → o >>= plain ≡ (o >>= λ v. if no_number v then none else some v)
    by none = refl
    by (some v) = plain_is v

-- nbsp is 32 here, and 160 in the standard
pub nbsp_differs : (v : List ℕ) → (reference (str "nbsp" ++ 59 ∷ v) ≡ some (32, 5)) × (standard (str "nbsp" ++ 59 ∷ v) ≡ some (160, 5))
unfolding standard index
nbsp_differs v = (reference_word nbsp v, refl)
