use Rattle.std.proofs.lemmas.List.{append_assoc}
use Rattle.hub_view.proofs.pages.page_url.Goals as goal

pub returns : goal.returns
returns c = rw (c.from_string.ensures, c.in_ok-text.ensures.ok) (simp append_assoc)
