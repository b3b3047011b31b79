use Rattle.hub_view.proofs.users.add_servers.Goals as goal

pub returns-in-Err : goal.returns-in-Err
returns-in-Err g c = λ x h kept. c.fail.ensures _ kept
