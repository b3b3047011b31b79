use Rattle.std.proofs.Common.{◌∙◌, ℕ, List, ap}
use Rattle.hub_core.specs.Visits.{Entry}
use Rattle.hub_serve.specs.Sessions.{with_gains}
use Rattle.hub_serving.proofs.laws.a_history_is_gained.Goals as goal

pub returns : goal.returns
returns g c = λ table start counted plan h h' k' end by.
    by.ends.ends.are.whole
    ∙ ap (λ (mine : List (ℕ × Entry)). with_gains mine by.ends.ends.workers) (by.ends.syncs.mine ∙ by.takes.gained.mine)
