use Rattle.std.proofs.Common.{◌≡◌, drop}
use Rattle.guard_login.specs.Cookies.{cookie_of}
use Rattle.guard_login.proofs.cookies.cookie_of.Given as goal

abbrev pub invariant-loop-i : goal.invariant-loop-i
invariant-loop-i l = cookie_of l.kind (drop l.i l.headers) ≡ cookie_of l.kind l.headers
