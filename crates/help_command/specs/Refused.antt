-- Words that no command takes.
use Rattle.std.specs.Prelude.{◌≡◌, List, None}
use Rattle.clap.specs.Walk.{Text}
use Rattle.hub_words.specs.Backup.{backup_read}
use Rattle.hub_words.specs.Check.{check_read}
use Rattle.hub_words.specs.Cull.{cull_read}
use Rattle.hub_words.specs.Guard.{guard_read}
use Rattle.hub_words.specs.Load.{load_read}
use Rattle.hub_words.specs.Proxy.{proxy_read}
use Rattle.hub_words.specs.Serve.{serve_read}
use Rattle.hub_words.specs.Session.{session_read}

pub record AreRefused (words : List Text) : Type 0 where
  pub serve : serve_read words ≡ None
  pub check : check_read words ≡ None
  pub backup : backup_read words ≡ None
  pub proxy : proxy_read words ≡ None
  pub guard : guard_read words ≡ None
  pub cull : cull_read words ≡ None
  pub session : session_read words ≡ None
  pub load : load_read words ≡ None
