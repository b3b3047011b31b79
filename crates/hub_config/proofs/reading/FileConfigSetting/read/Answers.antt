use Rattle.std.proofs.Common.{ap, sym, ◌∙◌}
use Rattle.hub_config.specs.Faults.{map_ok}
use Rattle.hub_config.specs.Config.{file_from, known_keys}
use Rattle.toml.specs.View.{view}
use Rattle.hub_config.proofs.Made.{as_said}
use Rattle.hub_config.proofs.reading.FileConfigSetting.read.Goals as goal

pub returns-in-Ok : goal.returns-in-Ok
returns-in-Ok c =
    let edge = c.both-edge.ensures _ _ c.listen.ensures (c.both.ensures _ _ c.listed.ensures c.proxy.ensures) in
    let beside = c.both-beside.ensures _ _ edge c.managed.ensures in
    as_said known_keys (view c.args.value.now) _ (sym c.has_known_keys.ensures ∙ c.if-not-has_known_keys.false)
    ∙ ap (map_ok file_from) (c.in-Ok.ensures _ _ beside c.read.ensures)
