use Rattle.std.proofs.Common.{codes, ap, sym, ◌∙◌, ◌++◌}
use Rattle.idle_culler.specs.Requests.{server_path, path}
use Rattle.idle_culler.proofs.Additions.{both, three, path_is}
use Rattle.idle_culler.proofs.requests.add_path.Goals as goal

pub returns-in_ok-push_all-in-Server : goal.returns-in_ok-push_all-in-Server
returns-in_ok-push_all-in-Server c =
    path_is c.add_server.result c.args.text.now c.add_server.new.text _ _ (ap path (sym c.in-Server.is))
    (three c.add_server.result c.args.text.now c.push_all.new.self c.push_all-in-Server.new.self c.add_server.new.text
    (codes "/hub/api/users/") c.in-Server.key.user (server_path c.in-Server.key.server)
    c.in_ok-push_all.ensures.ok (c.in_ok-push_all-in-Server.ensures.ok ∙ ap (λ b. c.push_all.new.self ++ b) c.as_bytes.ensures.value) c.add_server.ensures)

pub returns-in-User : goal.returns-in-User
returns-in-User c =
    path_is c.push_all-in-User.result c.args.text.now c.push_all-in-User.new.self _ _ (ap path (sym c.in-User.is))
    (path_is c.push_all-in-User.result c.args.text.now c.push_all-in-User.new.self _ _ (ap (λ b. codes "/hub/api/users/" ++ b) c.as_bytes-in-User.ensures.value)
    (both c.push_all-in-User.result c.args.text.now c.push_all.new.self c.push_all-in-User.new.self
    (codes "/hub/api/users/") c.as_bytes-in-User.result.now c.in_ok-push_all.ensures.ok c.push_all-in-User.ensures.ok))
