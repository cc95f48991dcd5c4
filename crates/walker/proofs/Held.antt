-- What the walks over `Walker` share: the struct's type, its machine value, what it owns, and the slice that it lends.
-- Assumes nothing.
use Prim.Native.Nat.{ℕ}
use mathlib.Core.Path.{◌≡◌}
use mathlib.Core.List.{List, [], ◌∷◌}
use lib.ListN.{length}
use seplogic.Ra.Ura.{Ura}
use mir.Syntax.{named}
use mir.Val.{Val}
use base.Logic.{ent, sep}
use base.Fml.{Lft, Fml}
use types.Logic.{Logic, sem}
use contract.Lifetimes.{Lfts}
use types.Kit.{‵, ◌⊛◌, given, ◌$◌, ◌∵◌, !, qed, move, drop, use1, split, learn, frame, done}
use denote.RattleType.{RattleType}
use denote.Builtin.{u8}
use denote.Ref.{Bor}
use denote.Signature.{named_lft}
use denote.Slice.{slice_val, ShrSlice}
use denote.Struct.Declared.{Declared}
use denote.Struct.Laws as LL
use denote.Struct.Rest.{all_own, field_own, rest, own_open, own_out}
use denote.Struct.Values.{Values}
use Rattle.walker.specs.declared.Walker.{Walker}
use Rattle.walker.specs.contracts.Walker as T
use Rattle.walker.proofs.Walker.TheLaws as T'

-- the struct's type over the signature's lifetimes, and the slice's
abbrev pub B : Lfts 1 → RattleType
B κs = T.the_row (named_lft 1 0 tt κs)

abbrev pub R : Lft → RattleType
R κ = ShrSlice (named 0) κ u8

-- the machine values of the struct and of a slice
abbrev pub mach : Walker → Val
mach d = T'.lowered d

abbrev pub slice : Bor (List ℕ) → Val
slice s = slice_val s.ref_ptr (length s.now)

abbrev pub Own : Lft → Walker → Fml
Own κ d = (B (κ, tt)).own_val d (mach d ∷ [])

abbrev pub Lent : Lft → Bor (List ℕ) → Fml
Lent κ s = (R κ).own_val s (slice s ∷ [])

-- the struct is Copy: what it owns is had twice, and of one copy the slice is lent out
module _ {M : Type 1} {𝓤 : Ura M} (𝓛 : Logic 𝓤) (κ : Lft) (d : Walker) where
  abbrev D : Declared
  D = T.the_type (named_lft 1 0 tt (κ, tt))

  abbrev L : LL.Laws D
  L = T'.the_laws (named_lft 1 0 tt (κ, tt))

  abbrev vd : Values D.parts
  vd = (d.records, (d.at, tt))

  pub lends : ent 𝓤 (sem 𝓛 (Own κ d)) (sep 𝓤 (sem 𝓛 (Lent κ d.records)) (sem 𝓛 (Own κ d)))
  lends =
      qed 𝓛 (‵ (Own κ d) ∷ []) ∵
      use1 𝓛 (‵ (Own κ d) ⊛ ‵ (Own κ d)) ((LL.copy D (T'.the_copy (named_lft 1 0 tt (κ, tt))) 𝓛).twice d (mach d ∷ [])) $ split ! $
      use1 𝓛 (given (mach d ∷ [] ≡ mach d ∷ []) (‵ (all_own D.parts L vd))) (own_open 𝓛 D L vd (mach d)) $ learn ! (λ _.
      use1 𝓛 (‵ (field_own D.parts L 0 d.records) ⊛ ‵ (rest D.parts L 0 vd)) (own_out 𝓛 D.parts L 0 vd) $ split ! $
      move ! (1 ∷ []) $ drop ! $ frame ! $ done !)
