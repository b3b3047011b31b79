-- The members of a lease's object.
use Rattle.std.proofs.Common.{◌≡◌, ℕ, List, codes, Option, Some, None, option_map, refl}
use Rattle.hub_rows.specs.declared.records.Lease.{Lease}
use Rattle.serde_json.specs.Data.{string, object, member, no_members}
use Rattle.serde_json.specs.Find.{get}
use Rattle.record_texts.specs.Fields.{whole}
use Rattle.key_texts.specs.KeyTexts.{server_text}
use Rattle.record_texts.specs.Servers.{with_generation, lease_object}

server_in : (o : Option ℕ) (server : List ℕ) → get (codes "server") (object (with_generation o (member (codes "server") (string server) no_members))) ≡ Some (string server)
server_in None server = refl
server_in (Some g) server = refl

generation_in : (o : Option ℕ) (server : List ℕ) → get (codes "generation") (object (with_generation o (member (codes "server") (string server) no_members))) ≡ option_map whole o
generation_in None server = refl
generation_in (Some g) server = refl

pub lease_server : (l : Lease) → get (codes "server") (lease_object l) ≡ Some (string (server_text l.server))
lease_server l = server_in l.generation (server_text l.server)

pub lease_generation : (l : Lease) → get (codes "generation") (lease_object l) ≡ option_map whole l.generation
lease_generation l = generation_in l.generation (server_text l.server)
