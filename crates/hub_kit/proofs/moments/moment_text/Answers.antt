use Rattle.std.proofs.Common.{◌∙◌, ◌*◌, pos, ap}
use Rattle.hub_kit.proofs.Calendar.{defined_text}
use Rattle.hub_kit.proofs.MomentLemmas.{is_moment_text, length_of_text}
use Rattle.hub_kit.proofs.moments.moment_text.Goals as goal

pub returns : goal.returns
returns c =
    let seconds = ap (λ n. pos (n * 1000000000)) c.seconds.ensures.value in
    let text = is_moment_text c.in-Ok.shown c.args.at c.from_string.result (c.in-Ok.ensures.value ∙ seconds) (c.from_string.ensures ∙ c.in_ok-text.ensures.ok) in
    record { text = defined_text c.args.at c.from_string.result c.seconds.ensures.bounded text; len = length_of_text c.args.at c.from_string.result text }
