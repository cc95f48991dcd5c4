-- Closed examples, by computation: document 01's specimens, and inputs for what `reference` and the HTML standard have in common and differ in.
-- Assumes nothing.
use Prim.Native.Nat.{ℕ}
use Prim.Native.String.{String}
use mathlib.Core.List.{List, [], ◌∷◌, map}
use mathlib.Core.Option.{Option, none, some}
use mathlib.Core.Path.{◌≡◌, refl}
use Rattle.text.specs.Words.{str, index}
use Rattle.text.specs.Chars.{is_scalar, is_control}
use Rattle.text.specs.Utf8.{utf8, size}
use Rattle.reference.specs.Unescape.{digit, digits, some_digits, from_str_radix, names, written, number, named, reference, unescaped, unescape}
use Rattle.reference.specs.Standard.{standard}

-- `unescape` on texts: document 01's specimens, and what its section "References" says of `nbsp`, of one `+` before the digits, and of an `&` with no
-- reference after it, which stays, so that reading continues after it
abbrev pub text : String → List ℕ
text t = unescape 0 (str t)

pub unescape_rows :
    map text
    ("&amp;lt;" ∷ "&#00000065;" ∷ "&#000000065;" ∷ "&#10;" ∷ "a&nbsp;b" ∷ "&#+65;&#x+41;" ∷ "&#+x41;&#++65;&#+;&#-0;&#;&#x;" ∷ "&am" ∷ "&&lt;;"
    ∷ [])
    ≡ str "&lt;" ∷ str "A" ∷ str "&#000000065;" ∷ str "&#10;" ∷ str "a b" ∷ str "AA" ∷ str "&#+x41;&#++65;&#+;&#-0;&#;&#x;" ∷ str "&am" ∷ str "&<;"
    ∷ []
unfolding unescape unescaped reference named names number written from_str_radix some_digits digits digit index is_scalar is_control size utf8
unescape_rows = refl

-- what follows an `&`: the step, and the standard's as far as `standard` has it
abbrev pub both : String → Option (ℕ × ℕ) × Option (ℕ × ℕ)
both t = (reference (str t), standard (str t))

-- here the two agree; the last three are no references in the HTML standard either: it has no such name, and no digit
pub same_rows :
    map both ("amp;" ∷ "lt;" ∷ "gt;" ∷ "quot;" ∷ "apos;" ∷ "#65;" ∷ "#x41;" ∷ "#X1f600;" ∷ "#xFFFE;" ∷ "am;" ∷ "#;" ∷ "#x;" ∷ [])
    ≡ (some (38, 4), some (38, 4))
    ∷ (some (60, 3), some (60, 3))
    ∷ (some (62, 3), some (62, 3))
    ∷ (some (34, 5), some (34, 5))
    ∷ (some (39, 5), some (39, 5))
    ∷ (some (65, 4), some (65, 4))
    ∷ (some (65, 5), some (65, 5))
    ∷ (some (0x1F600, 8), some (0x1F600, 8))
    ∷ (some (0xFFFE, 7), some (0xFFFE, 7))
    ∷ (none, none)
    ∷ (none, none)
    ∷ (none, none)
    ∷ []
unfolding reference standard named names number written from_str_radix some_digits digits digit index is_scalar is_control size utf8
same_rows = refl

-- here they differ. The none of `standard` at a `+` is the HTML standard's too: no digit stands there
pub other_rows :
    map both ("nbsp;" ∷ "#+65;" ∷ "#x+41;" ∷ "#128;" ∷ "#159;" ∷ "#129;" ∷ "#0;" ∷ "#10;" ∷ "#xD800;" ∷ "#x110000;" ∷ "#000000065;" ∷ [])
    ≡ (some (32, 5), some (160, 5))
    ∷ (some (65, 5), none)
    ∷ (some (65, 6), none)
    ∷ (none, some (0x20AC, 5))
    ∷ (none, some (0x178, 5))
    ∷ (none, some (129, 5))
    ∷ (none, some (0xFFFD, 3))
    ∷ (none, some (10, 4))
    ∷ (none, some (0xFFFD, 7))
    ∷ (none, some (0xFFFD, 9))
    ∷ (none, some (65, 11))
    ∷ []
unfolding reference standard named names number written from_str_radix some_digits digits digit index is_scalar is_control size utf8
other_rows = refl

-- here we leave the `&`, and the HTML standard replaces by rules that `standard` does not have: its none says nothing of them. The HTML standard makes
-- of these <, <x; (it knows lt without a `;` too), © and & (two of its other names), A and Ax; (a number needs no `;`)
pub unspoken_rows :
    map both ("lt" ∷ "ltx;" ∷ "copy;" ∷ "AMP;" ∷ "#65" ∷ "#65x;" ∷ [])
    ≡ (none, none) ∷ (none, none) ∷ (none, none) ∷ (none, none) ∷ (none, none) ∷ (none, none) ∷ []
unfolding reference standard named names number written from_str_radix some_digits digits digit index is_scalar is_control size utf8
unspoken_rows = refl
