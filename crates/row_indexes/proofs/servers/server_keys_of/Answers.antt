use Rattle.row_indexes.proofs.ServerKeys.{default_first}
use Rattle.row_indexes.proofs.servers.server_keys_of.Goals as goal

pub keys_of-requires-clause-first : goal.keys_of-requires-clause-first
keys_of-requires-clause-first g c = default_first c.args.user.now c.default_server.result c.default_server.ensures
