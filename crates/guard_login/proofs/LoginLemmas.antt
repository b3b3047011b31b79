-- From the parts of a call to what it did: the ask, the step, and the answer to a head that was read.
use Rattle.std.proofs.Common.{◌≡◌, ℕ, Bool, true, false, List, [], ◌∷◌, Option, Some, None, Result, Ok, Err, IfOk, if◌then◌else◌, refl, sym, ap, ◌∙◌, subst, inl, inr}
use Rattle.std.specs.declared.alloc.AllocError.{AllocError}
use Rattle.httparse.specs.Grammar.{RequestHead}
use Rattle.hub_devices.specs.Faults.{Rises}
use Rattle.hub_devices.specs.declared.link_error.LinkError.{LinkError}
use Rattle.hub_devices.specs.declared.link_error.LinkError.TheVariants.{Failed, Memory}
use Rattle.hub_link.specs.Links.{Exchange}
use Rattle.http_wire.specs.declared.error.SessionFault.{SessionFault}
use Rattle.http_wire.specs.declared.head.Head.{Head}
use Rattle.http_wire.specs.Head.{head_of}
use Rattle.proxy_wire.specs.declared.framing.Framing.{Framing}
use Rattle.proxy_core.specs.Passes.{Place}
use Rattle.guard.specs.Access.{access_request, IsAnswered, IsUnanswered}
use Rattle.guard.specs.Guards.{Unsent}
use Rattle.guard.specs.declared.access.Access.{Access}
use Rattle.guard.specs.declared.denials.Denial.{Denial}
use Rattle.guard_login.specs.Answers.{IsUngiven, Steps, Writes, WritesAnswer}
use Rattle.guard_login.specs.Logins.{Ends, Finishes, IsTreated}
use Rattle.guard_login.specs.Signed.{Given, said, failed, traded, IsTradedBy, sent_back, by_called, asks_trade, called, asks_access, token_given, by_access, by_token, step_of, is_callback, asked, stepped, started}
use Rattle.guard_login.specs.Texts.{trade_text}
use Rattle.guard_login.specs.declared.answers.Signed.{Signed}
use Rattle.guard_login.specs.declared.door.Door.{Door}
use Rattle.guard_login.specs.declared.steps.Called.{Called}
use Rattle.guard_login.specs.declared.steps.Step.{Step}
use Rattle.guard_login.specs.declared.steps.Step.TheVariants.{Deny}

-- ---- one ask

-- nothing was asked, for want of memory
pub ungiven : (ask : Option (List ℕ)) → IsUngiven ask []
ungiven None = refl
ungiven (Some request) = inl refl

-- the link failed
pub link_failed : (S : Type 0) (by : Given → S) (request : List ℕ) (faults faults' : ℕ) (e : LinkError) → e ≡ Failed
    → (e ≡ Failed → Rises faults faults') → Steps (Some request) by ((request, Err e) ∷ []) faults faults' (Ok (by failed))
link_failed S by request faults faults' Failed is cause = (failed, (refl, cause refl), refl)
link_failed S by request faults faults' Memory is cause = cc

-- what was made of the bytes of the reply to a trade
pub traded_asks : (request bytes : List ℕ) (faults faults' : ℕ) (r : Result (Result (List ℕ) Denial) AllocError) → IfOk r (IsTradedBy bytes)
    → Steps (Some request) traded ((request, Ok bytes) ∷ []) faults faults' r
traded_asks request bytes faults faults' (Ok token) (reply, says, is) = (said reply, (bytes, refl, says), is)
traded_asks request bytes faults faults' (Err e) none = inr (Ok bytes, refl)

-- the same of an ask about a token
pub answer_failed : (S : Type 0) (by : Given → S) (request : List ℕ) (asks : List Exchange) (faults faults' : ℕ) (e : LinkError) → e ≡ Failed
    → (e ≡ Failed → Rises faults faults') → IsUnanswered request asks e → Steps (Some request) by asks faults faults' (Ok (by failed))
answer_failed S by request asks faults faults' Failed is cause none = (failed, (none, cause refl), refl)
answer_failed S by request asks faults faults' Memory is cause none = cc

pub answer_wanted : (request : List ℕ) (asks : List Exchange) (e : LinkError) → e ≡ Memory → IsUnanswered request asks e → IsUngiven (Some request) asks
answer_wanted request asks Failed is none = cc
answer_wanted request asks Memory is none = none

-- ---- steps

pub sent_asks : (door : Door) (call : Called) (asks : List Exchange) (faults faults' : ℕ) (token : Result (List ℕ) Denial) (step : Step)
    → step ≡ sent_back call.next token → Steps (Some (trade_text door call.code)) traded asks faults faults' (Ok token)
    → Steps (asks_trade door (Ok call)) (by_called (Ok call)) asks faults faults' (Ok step)
sent_asks door call asks faults faults' token step same (given, came, is) = (given, came, same ∙ ap (sent_back call.next) is)

-- a callback that is refused asks nothing
pub refused_asks : (door : Door) (call : Result Called Denial) (d : Denial) (faults faults' : ℕ) → Err d ≡ call
    → Steps (asks_trade door call) (by_called call) [] faults faults' (Ok (Deny d))
refused_asks door (Err e) d faults faults' is = (failed, refl, cc)
refused_asks door (Ok c) d faults faults' is = cc

-- what the hub's answer to an ask makes
pub steps_of : (head : Head) (request : List ℕ) (asks : List Exchange) (faults faults' : ℕ) (access : Access) (step : Step)
    → step ≡ step_of head access → IsAnswered request asks access → Steps (Some request) (by_access head) asks faults faults' (Ok step)
steps_of head request asks faults faults' access step same (bytes, is, (reply, says, by)) =
    (said reply, (bytes, is, says), same ∙ ap (step_of head) by)

token_steps : (door : Door) (head : Head) (token : List ℕ) (asks : List Exchange) (faults faults' : ℕ) (r : Result Step AllocError)
    → Steps (Some (access_request door.key token)) (by_access head) asks faults faults' r
    → Steps (asks_access door (Some token)) (by_token head (Some token)) asks faults faults' r
token_steps door head token asks faults faults' (Ok step) steps = (steps.0, steps.1, steps.2)
token_steps door head token asks faults faults' (Err e) steps = steps

-- a request with a token
pub token_asks : (door : Door) (head : Head) (given_token : Option (List ℕ)) (token : List ℕ) (asks : List Exchange) (faults faults' : ℕ)
    (r : Result Step AllocError) → Some token ≡ given_token → Steps (Some (access_request door.key token)) (by_access head) asks faults faults' r
    → Steps (asks_access door given_token) (by_token head given_token) asks faults faults' r
token_asks door head given_token token asks faults faults' r is steps =
    subst (λ (t : Option (List ℕ)). Steps (asks_access door t) (by_token head t) asks faults faults' r) is
    (token_steps door head token asks faults faults' r steps)

-- a request without one
pub unknown_asks : (door : Door) (head : Head) (given_token : Option (List ℕ)) (faults faults' : ℕ) (step : Step) → None ≡ given_token
    → step ≡ by_token head None failed → Steps (asks_access door given_token) (by_token head given_token) [] faults faults' (Ok step)
unknown_asks door head None faults faults' step is same = (failed, refl, same)
unknown_asks door head (Some t) faults faults' step is same = cc

-- by whether a request is a callback
abbrev Either : (door : Door) (head : Head) (back : Bool) (asks : List Exchange) (faults faults' : ℕ) (r : Result Step AllocError) → Type 0
Either door head back asks faults faults' r =
    Steps (if back then asks_trade door (called door head) else asks_access door (token_given head))
    (λ given. if back then by_called (called door head) given else by_token head (token_given head) given) asks faults faults' r

either_asks : (door : Door) (head : Head) (asks : List Exchange) (faults faults' : ℕ) (r : Result Step AllocError)
    → Either door head (is_callback door head) asks faults faults' r → Steps (asked door head) (stepped door head) asks faults faults' r
either_asks door head asks faults faults' (Ok step) steps = (steps.0, steps.1, steps.2)
either_asks door head asks faults faults' (Err e) steps = steps

back_asks : (door : Door) (head : Head) (back : Bool) (asks : List Exchange) (faults faults' : ℕ) (r : Result Step AllocError) → back ≡ true
    → Steps (asks_trade door (called door head)) (by_called (called door head)) asks faults faults' r → Either door head back asks faults faults' r
back_asks door head true asks faults faults' (Ok step) is steps = (steps.0, steps.1, steps.2)
back_asks door head true asks faults faults' (Err e) is steps = steps
back_asks door head false asks faults faults' r is steps = cc

away_asks : (door : Door) (head : Head) (back : Bool) (asks : List Exchange) (faults faults' : ℕ) (r : Result Step AllocError) → back ≡ false
    → Steps (asks_access door (token_given head)) (by_token head (token_given head)) asks faults faults' r
    → Either door head back asks faults faults' r
away_asks door head false asks faults faults' (Ok step) is steps = (steps.0, steps.1, steps.2)
away_asks door head false asks faults faults' (Err e) is steps = steps
away_asks door head true asks faults faults' r is steps = cc

pub callback_asks : (door : Door) (head : Head) (back : Bool) (asks : List Exchange) (faults faults' : ℕ) (r : Result Step AllocError)
    → back ≡ is_callback door head → back ≡ true
    → Steps (asks_trade door (called door head)) (by_called (called door head)) asks faults faults' r
    → Steps (asked door head) (stepped door head) asks faults faults' r
callback_asks door head back asks faults faults' r is on steps =
    either_asks door head asks faults faults' r (back_asks door head (is_callback door head) asks faults faults' r (sym is ∙ on) steps)

pub other_asks : (door : Door) (head : Head) (back : Bool) (asks : List Exchange) (faults faults' : ℕ) (r : Result Step AllocError)
    → back ≡ is_callback door head → back ≡ false
    → Steps (asks_access door (token_given head)) (by_token head (token_given head)) asks faults faults' r
    → Steps (asked door head) (stepped door head) asks faults faults' r
other_asks door head back asks faults faults' r is off steps =
    either_asks door head asks faults faults' r (away_asks door head (is_callback door head) asks faults faults' r (sym is ∙ off) steps)

-- ---- answers

pub writes_as : (text other : List ℕ) (answer : Signed) (held held' : Option (List ℕ)) (writes writes' : ℕ) (result : Result Signed SessionFault)
    → text ≡ other → Writes text answer held held' writes writes' result → Writes other answer held held' writes writes' result
writes_as text other answer held held' writes writes' result same wrote =
    subst (λ (t : List ℕ). Writes t answer held held' writes writes' result) same wrote

-- a browser was sent to sign in, or there was no draw
pub started_ends : (door : Door) (head : Head) (f : Framing) (draw : Option (List ℕ)) (old new : Place) (result : Result Signed SessionFault)
    → Unsent old new → WritesAnswer door (started door head draw) old.held new.held old.writes new.writes result
    → Ends door head f (started door head draw) old new result
started_ends door head f None old new result unsent answers = (unsent, answers)
started_ends door head f (Some draw) old new result unsent answers = (unsent, answers)

pub finishes_by : {R : Type 0} (left : R → Option (List (List ℕ))) (faults : R → ℕ) (random random' : R) (door : Door) (head : Head) (f : Framing)
    (v w : Step) (old new : Place) (result : Result Signed SessionFault) → v ≡ w
    → Finishes left faults random random' door head f w old new result → Finishes left faults random random' door head f v old new result
finishes_by left faults random random' door head f v w old new result is ends =
    subst (λ (x : Step). Finishes left faults random random' door head f x old new result) (sym is) ends

-- from a head that was read to one of the grammar
pub follows_of : {R : Type 0} (left : R → Option (List (List ℕ))) (faults : R → ℕ) (random random' : R) (door : Door) (head : Head) (h : RequestHead)
    (f : Framing) (asks : List Exchange) (fails fails' : ℕ) (old new : Place) (result : Result Signed SessionFault) → head ≡ head_of h
    → IsTreated left faults random random' door head f asks fails fails' old new result
    → IsTreated left faults random random' door (head_of h) f asks fails fails' old new result
follows_of left faults random random' door head h f asks fails fails' old new result same follows =
    subst (λ (x : Head). IsTreated left faults random random' door x f asks fails fails' old new result) same follows
