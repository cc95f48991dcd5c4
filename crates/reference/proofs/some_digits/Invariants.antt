-- `reference::some_digits` meets its contract. The loop's invariant: v and the digits to come make the number of all digits,
-- and v is as small as the digits passed make it.
-- Assumes nothing.
use Rattle.std.proofs.Common.{◌≡◌, ◌*◌, ◌<◌, ◌^◌, drop}
use Rattle.reference.specs.Unescape.{digits}
use Rattle.reference.proofs.some_digits.Given as goal

abbrev pub invariant-loop-b : goal.invariant-loop-b
invariant-loop-b l = (digits l.radix 0 l.digits ≡ digits l.radix l.v (drop l.b-index l.digits)) × (l.v < 2 ^ (4 * l.b-index))
