use Rattle.guard_login.specs.Signed.{is_callback, stepped, asked}
use Rattle.guard_login.proofs.LawLemmas.{admitted, step_passes, traded_for, step_gives, within}
use Rattle.guard_login.proofs.laws.sign_in_laws.Goals as goal

pub returns-clause-passes : goal.returns-clause-passes
returns-clause-passes c = λ door head given draw h.
    admitted door head given (is_callback door head) (step_passes door head (stepped door head given) draw h)

pub returns-clause-gives : goal.returns-clause-gives
returns-clause-gives c = λ door head given draw token next h.
    traded_for door head given (is_callback door head) token next (step_gives door head (stepped door head given) draw token next h)

pub returns-clause-within : goal.returns-clause-within
returns-clause-within c = λ door head given draw token next h.
    within door head given (asked door head) token next
    (traded_for door head given (is_callback door head) token next (step_gives door head (stepped door head given) draw token next h))
