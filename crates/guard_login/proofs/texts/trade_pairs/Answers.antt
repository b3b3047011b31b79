use Rattle.std.proofs.Common.{refl, ◌∙◌}
use Rattle.guard_login.specs.Texts.{trade_pairs}
use Rattle.guard_login.proofs.texts.trade_pairs.Goals as goal

pub returns : goal.returns
unfolding trade_pairs
returns c =
    c.finish.ensures
    ∙ rw (
      c.in_ok-append_pair-5.ensures.ok,
      c.in_ok-append_pair-4.ensures.ok,
      c.in_ok-append_pair-3.ensures.ok,
      c.in_ok-append_pair-2.ensures.ok,
      c.in_ok-append_pair.ensures.ok,
      c.new-form.ensures,
      c.new.ensures.bytes,
      c.as_str.ensures,
      c.as_str-2.ensures,
      c.as_str-3.ensures,
      c.as_str-4.ensures,
    ) refl
