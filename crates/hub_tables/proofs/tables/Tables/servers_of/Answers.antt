use Rattle.std.proofs.Common.{◌∙◌, ap}
use Rattle.hub_tables.specs.Kept.{Servers}
use Rattle.hub_tables.specs.Lookups.{servers_of}
use Rattle.hub_tables.specs.State.{State}
use Rattle.row_indexes.proofs.Indexed.{if_ok}
use Rattle.hub_tables.proofs.Owners.{server_keys}
use Rattle.hub_tables.proofs.tables.Tables.servers_of.Goals as goal

pub returns : goal.returns
returns c =
    if_ok c.server_keys_of.result (λ found e. e ∙ server_keys _ (c.self.invariant Servers) c.args.user.now ∙ ap (λ (s : State). servers_of s c.args.user.now) c.self.view_is) c.server_keys_of.ensures
