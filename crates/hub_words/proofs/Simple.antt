-- The commands are simple, and no argument has a rule on another.
use Rattle.std.proofs.Common.{◌≡◌, true, refl}
use Rattle.clap.specs.Faults.{is_simple_and_free}
use Rattle.clap.specs.Simple.{is_simple}
use Rattle.hub_words.specs.Backup.{backup_app}
use Rattle.hub_words.specs.Check.{check_app}
use Rattle.hub_words.specs.Cull.{cull_app}
use Rattle.hub_words.specs.Guard.{guard_app}
use Rattle.hub_words.specs.Load.{load_app}
use Rattle.hub_words.specs.Proxy.{proxy_app}
use Rattle.hub_words.specs.Serve.{serve_app}
use Rattle.hub_words.specs.Session.{session_app}

pub session_is_free : is_simple_and_free session_app ≡ true
unfolding session_app
session_is_free = refl

pub session_is_simple : is_simple session_app ≡ true
unfolding session_app
session_is_simple = refl

pub serve_is_free : is_simple_and_free serve_app ≡ true
unfolding serve_app
serve_is_free = refl

pub serve_is_simple : is_simple serve_app ≡ true
unfolding serve_app
serve_is_simple = refl

pub proxy_is_free : is_simple_and_free proxy_app ≡ true
unfolding proxy_app
proxy_is_free = refl

pub proxy_is_simple : is_simple proxy_app ≡ true
unfolding proxy_app
proxy_is_simple = refl

pub guard_is_free : is_simple_and_free guard_app ≡ true
unfolding guard_app
guard_is_free = refl

pub guard_is_simple : is_simple guard_app ≡ true
unfolding guard_app
guard_is_simple = refl

pub cull_is_free : is_simple_and_free cull_app ≡ true
unfolding cull_app
cull_is_free = refl

pub cull_is_simple : is_simple cull_app ≡ true
unfolding cull_app
cull_is_simple = refl

pub load_is_free : is_simple_and_free load_app ≡ true
unfolding load_app
load_is_free = refl

pub load_is_simple : is_simple load_app ≡ true
unfolding load_app
load_is_simple = refl

pub check_is_free : is_simple_and_free check_app ≡ true
unfolding check_app
check_is_free = refl

pub check_is_simple : is_simple check_app ≡ true
unfolding check_app
check_is_simple = refl

pub backup_is_free : is_simple_and_free backup_app ≡ true
unfolding backup_app
backup_is_free = refl

pub backup_is_simple : is_simple backup_app ≡ true
unfolding backup_app
backup_is_simple = refl
