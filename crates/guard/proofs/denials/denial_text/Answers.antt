use Rattle.std.proofs.Common.{sym, ap}
use Rattle.std.specs.Fmt.{digits}
use Rattle.guard.specs.Denials.{denial_text}
use Rattle.guard.proofs.denials.denial_text.Goals as goal

pub returns-in-NoToken : goal.returns-in-NoToken
unfolding digits
returns-in-NoToken c = ap denial_text (sym c.in-NoToken.is)

pub returns-in-NoAccess : goal.returns-in-NoAccess
unfolding digits
returns-in-NoAccess c = ap denial_text (sym c.in-NoAccess.is)

pub returns-in-BadHub : goal.returns-in-BadHub
unfolding digits
returns-in-BadHub c = ap denial_text (sym c.in-BadHub.is)

pub returns-in-Hub : goal.returns-in-Hub
unfolding digits
returns-in-Hub c = ap denial_text (sym c.in-Hub.is)

pub returns-in-BadQuery : goal.returns-in-BadQuery
unfolding digits
returns-in-BadQuery c = ap denial_text (sym c.in-BadQuery.is)

pub returns-in-BadState : goal.returns-in-BadState
unfolding digits
returns-in-BadState c = ap denial_text (sym c.in-BadState.is)

pub returns-in-BadNext : goal.returns-in-BadNext
unfolding digits
returns-in-BadNext c = ap denial_text (sym c.in-BadNext.is)

pub returns-in-SignIn : goal.returns-in-SignIn
unfolding digits
returns-in-SignIn c = ap denial_text (sym c.in-SignIn.is)

pub returns-in-Random : goal.returns-in-Random
unfolding digits
returns-in-Random c = ap denial_text (sym c.in-Random.is)
