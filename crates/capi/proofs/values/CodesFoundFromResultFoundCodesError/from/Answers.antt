-- `CodesFound::from`: what both calls of `map` give.
-- Assumes nothing.
use Rattle.std.proofs.Common.{rules, None}
use Rattle.codes.specs.Calls.{option_of}
use Rattle.capi.specs.Values.{is_found, or_0}
use Rattle.capi.proofs.Mapped.{mapped}
use Rattle.capi.proofs.values.CodesFoundFromResultFoundCodesError.from.Goals as goal

pub returns-in-Ok : goal.returns-in-Ok
returns-in-Ok c =
    let found = mapped option_of is_found None c.map.ensures.items (λ p x y q h. search rules) search in
    let blocks = mapped option_of or_0 None c.map-in-Ok.ensures.items (λ p x y q h. search rules) search in
    rw (c.in-Ok.is, found, blocks)
