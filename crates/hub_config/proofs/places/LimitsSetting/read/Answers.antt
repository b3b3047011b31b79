use Rattle.std.proofs.Common.{ap, sym, ◌∙◌}
use Rattle.hub_config.specs.Faults.{map_ok}
use Rattle.hub_config.specs.Places.{limits_from, limit_keys}
use Rattle.toml.specs.View.{view}
use Rattle.hub_config.proofs.Made.{as_said, unmade_with}
use Rattle.hub_config.proofs.places.LimitsSetting.read.Goals as goal

pub returns-in-Ok : goal.returns-in-Ok
returns-in-Ok c =
    let people = c.three-people.ensures _ _ _ c.limit.ensures c.limit-2.ensures c.limit-3.ensures in
    let rights = c.three-rights.ensures _ _ _ c.limit-4.ensures c.limit-5.ensures c.limit-6.ensures in
    let rest = c.three-rest.ensures _ _ _ c.limit-7.ensures c.limit-8.ensures c.limit-9.ensures in
    as_said limit_keys (view c.args.value.now) _ (sym c.has_limit_keys.ensures ∙ c.if-not-has_limit_keys.false)
    ∙ ap (map_ok limits_from) (c.in-Ok.ensures _ _ people (c.both.ensures _ _ rights rest))

pub returns-in-Err : goal.returns-in-Err
returns-in-Err c =
    let people = c.three-people.ensures _ _ _ c.limit.ensures c.limit-2.ensures c.limit-3.ensures in
    let rights = c.three-rights.ensures _ _ _ c.limit-4.ensures c.limit-5.ensures c.limit-6.ensures in
    let rest = c.three-rest.ensures _ _ _ c.limit-7.ensures c.limit-8.ensures c.limit-9.ensures in
    unmade_with limit_keys (view c.args.value.now) c.in-Err.error _ limits_from (sym c.has_limit_keys.ensures ∙ c.if-not-has_limit_keys.false)
    (c.in-Err.ensures _ _ people (c.both.ensures _ _ rights rest))
