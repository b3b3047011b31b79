use Rattle.hub_words.proofs.Simple.{backup_is_free, backup_is_simple}
use Rattle.hub_words.proofs.backup.read_backup.Goals as goal

pub read-requires-clause-free : goal.read-requires-clause-free
read-requires-clause-free c = backup_is_free

pub read-requires-clause-simple : goal.read-requires-clause-simple
read-requires-clause-simple c = backup_is_simple
