-- Whom a guard lets in that asks directly.
use Rattle.std.proofs.Common.{◌≡◌, ◌⊎◌, inl, inr, ◌<◌, ◌+◌, ◌^◌, arith, ℕ, false, List, [], ◌∷◌, ◌++◌, length, Option, Some, None, Result, Ok, Err, append_assoc, refl, sym, ap, ◌∙◌, subst}
use Rattle.std.proofs.lemmas.Bool.{cases_lt}
use Rattle.httparse.specs.Grammar.{RequestHead, print_request}
use Rattle.httparse.proofs.GrammarLemmas.{request_unique}
use Rattle.access_laws.specs.Asks.{OnlyReads, get_of, access_target, AccessIsAsked, AccessIsText}
use Rattle.access_laws.specs.Bodies.{UsersBodySays, ServicesBodySays, NothingSays}
use Rattle.guard.specs.Access.{access_request, access_by, IsAccessOf, IsAnswered}
use Rattle.guard.specs.Denials.{IsDenied, denial_status}
use Rattle.guard.specs.Guards.{GuardEnds, Answers, Follows, verdict_of}
use Rattle.guard.specs.Guards as guards
use Rattle.guard.specs.declared.access.Access.{Access}
use Rattle.guard.specs.declared.access.Access.TheVariants.{Yes, No, NoToken, BadReply}
use Rattle.guard.specs.declared.denials.Denial.{Denial}
use Rattle.guard.specs.declared.denials.Denial.TheVariants as denial
use Rattle.guard.specs.declared.guards.Verdict.{Verdict}
use Rattle.guard.specs.declared.guards.Verdict.TheVariants as verdict
use Rattle.http_wire.specs.Head.{head_of}
use Rattle.http_wire.specs.Token.{token_of}
use Rattle.http_wire.specs.Next.{RefusedAt}
use Rattle.http_wire.specs.Request.{IsRequestText}
use Rattle.http_wire.specs.Told.{IsOfBytes}
use Rattle.http_wire.specs.Took.{Took}
use Rattle.http_wire.specs.Wire.{IsServedHead}
use Rattle.http_wire.specs.declared.error.SessionFault.{SessionFault}
use Rattle.http_wire.specs.declared.error.SessionFault.TheVariants.{ReadFault, WriteFault}
use Rattle.http_wire.specs.declared.error.WireError.{WireError}
use Rattle.http_wire.specs.declared.error.WireError.TheVariants as wire
use Rattle.http_wire.specs.declared.head.Head.{Head}
use Rattle.http_wire.proofs.ToldLemmas.{told}
use Rattle.hub_core.specs.declared.start.Start.{Start}
use Rattle.hub_devices.specs.Faults.{Rises}
use Rattle.hub_devices.specs.declared.link_error.LinkError.{LinkError}
use Rattle.hub_devices.specs.declared.link_error.LinkError.TheVariants.{Failed, Memory}
use Rattle.hub_kit.specs.Names.{IsName, IsServerName}
use Rattle.hub_kit.specs.declared.names.ServerKey.{ServerKey}
use Rattle.hub_link.specs.Links.{Exchange, Chain}
use Rattle.hub_run.specs.Turns.{View}
use Rattle.proxy_core.specs.Forward.{IsStopped}
use Rattle.proxy_core.specs.Passes.{Place, Going, PassOn, PassEnds}
use Rattle.proxy_core.specs.Refusals.{IsWritten, status_of}
use Rattle.proxy_core.specs.Refusals as refusals
use Rattle.proxy_wire.specs.Framing.{request_framing}
use Rattle.proxy_wire.specs.Heads.{request_passed}
use Rattle.proxy_core.specs.declared.refusals.Forwarded.{Forwarded}
use Rattle.proxy_core.specs.declared.refusals.Forwarded.TheVariants.{Passed, Refused, Ended, Cut}
use Rattle.proxy_core.specs.declared.refusals.Refusal.{Refusal}
use Rattle.proxy_core.specs.declared.refusals.Refusal.TheVariants as refusal
use Rattle.direct_link.specs.Answered.{IsUnread}
use Rattle.direct_link.specs.Decided.{Decided, IsLetIn, IsKeptOut, IsUndecided, IsCause, IsHindered, Around}
use Rattle.direct_link.specs.Direct.{Direct, Connects}
use Rattle.direct_link.specs.Verdicts.{IsTooLong, Judges}
use Rattle.direct_link.proofs.Calls.{call_is}
use Rattle.direct_link.proofs.Judging.{ask, asks_nothing, visit_of, judged}
use Rattle.direct_link.proofs.Fronts.{never_refused}
use Rattle.direct_link.proofs.Turned.{Comes, turn_comes}
use Rattle.direct_link.proofs.Unread.{unread_status, IsWireStatus}

abbrev Outcome : Type 0
Outcome = Result Forwarded SessionFault

-- ---- bytes that were refused unread say nothing of access

status_says : (status : ℕ) (body : List ℕ) → IsWireStatus status → access_by status body ≡ BadReply
status_says status body (inl is) = ap (λ (s : ℕ). access_by s body) is
status_says status body (inr (inl is)) = ap (λ (s : ℕ). access_by s body) is
status_says status body (inr (inr is)) = ap (λ (s : ℕ). access_by s body) is

unread_says : (bytes : List ℕ) (access : Access) → IsUnread bytes → IsAccessOf bytes access → access ≡ BadReply
unread_says bytes access unread (None, says, is) = is
unread_says bytes access unread (Some (status, body), says, is) = is ∙ status_says status body (unread_status bytes status body unread says)

-- ---- what the hub's answer tells

nothing_told : (start : Start) (x y : View) (token : List ℕ) (server : ServerKey) (access : Access) → IsTooLong token server → access ≡ BadReply → Judges start x y token server access
nothing_told start x y token server Yes long is = absurd (cc is)
nothing_told start x y token server No long is = absurd (cc is)
nothing_told start x y token server NoToken long is = absurd (cc is)
nothing_told start x y token server BadReply long is = inl long

-- of a reply that came, the length is known
short_reply : (start : Start) (x y : View) (request bytes : List ℕ) → x.pass.base ≡ Some start → Direct x request (Ok bytes) y → length bytes < 2 ^ 64
short_reply start x y request bytes base direct =
    let there : Connects start x request (Ok bytes) y = direct.gives start base in
    let (served, how, is, kept, short) = there.replies in short

one_direct : (x y : View) (request : List ℕ) (given : Result (List ℕ) LinkError) → Chain Direct x ((request, given) ∷ []) y → Direct x request given y
one_direct x y request given (z, direct, same) = subst (λ (v : View). Direct x request given v) (sym same) direct

-- ---- ends that aren't

deny_not_pass : verdict.Deny denial.NoToken ≡ verdict.Pass → ⊥
deny_not_pass is = cc is

deny_as : (a d : Denial) → verdict.Deny a ≡ verdict.Deny d → a ≡ d
deny_as a d is = cc

apart : (m n : ℕ) → m < n → m ≡ n → ⊥
apart m n less is = omega (arith, less, is)

bad_hub : (d : Denial) → verdict.Deny denial.BadHub ≡ verdict.Deny d → 403 ≡ denial_status d → ⊥
bad_hub d is status = apart 403 502 (omega arith) (status ∙ ap denial_status (sym (deny_as denial.BadHub d is)))

no_hub : (d : Denial) → verdict.Deny denial.Hub ≡ verdict.Deny d → 403 ≡ denial_status d → ⊥
no_hub d is status = apart 403 503 (omega arith) (status ∙ ap denial_status (sym (deny_as denial.Hub d is)))

not_403 : (r : Refusal) → 403 ≡ status_of r → ⊥
not_403 refusal.BadHead e = apart 400 403 (omega arith) (sym e)
not_403 refusal.BadChunk e = apart 400 403 (omega arith) (sym e)
not_403 refusal.BadPath e = apart 400 403 (omega arith) (sym e)
not_403 refusal.NotFound e = apart 403 404 (omega arith) e
not_403 refusal.TooLarge e = apart 403 413 (omega arith) e
not_403 refusal.Coding e = apart 403 501 (omega arith) e
not_403 refusal.BadUpstream e = apart 403 502 (omega arith) e
not_403 refusal.Link e = apart 403 503 (omega arith) e
not_403 refusal.Memory e = apart 403 507 (omega arith) e

written_not : (r : Refusal) (held held' : Option (List ℕ)) (writes writes' : ℕ) (result : Outcome) → IsWritten r held held' writes writes' result → result ≡ Ok Passed → ⊥
written_not r held held' writes writes' result done is = subst (λ (o : Outcome). IsWritten r held held' writes writes' o) is done

written_403 : (r : Refusal) (held held' : Option (List ℕ)) (writes writes' : ℕ) (result : Outcome) → IsWritten r held held' writes writes' result → result ≡ Ok (Refused 403) → ⊥
written_403 r held held' writes writes' result done is = not_403 r (subst (λ (o : Outcome). IsWritten r held held' writes writes' o) is done).0

denied_not : (d : Denial) (held held' : Option (List ℕ)) (writes writes' : ℕ) (result : Outcome) → IsDenied d held held' writes writes' result → result ≡ Ok Passed → ⊥
denied_not d held held' writes writes' result done is = subst (λ (o : Outcome). IsDenied d held held' writes writes' o) is done

denied_403 : (d : Denial) (held held' : Option (List ℕ)) (writes writes' : ℕ) (result : Outcome) → IsDenied d held held' writes writes' result → result ≡ Ok (Refused 403)
    → 403 ≡ denial_status d
denied_403 d held held' writes writes' result done is = (subst (λ (o : Outcome). IsDenied d held held' writes writes' o) is done).0

ended_not : (result : Outcome) → result ≡ Ok Ended → result ≡ Ok Passed → ⊥
ended_not result one two = cc

cut_not : (result : Outcome) → result ≡ Ok Cut → result ≡ Ok Passed → ⊥
cut_not result one two = cc

fault_not : (result : Outcome) (n : ℕ) → result ≡ Err (ReadFault n) → result ≡ Ok Passed → ⊥
fault_not result n one two = cc

ended_403 : (result : Outcome) → result ≡ Ok Ended → result ≡ Ok (Refused 403) → ⊥
ended_403 result one two = cc

cut_403 : (result : Outcome) → result ≡ Ok Cut → result ≡ Ok (Refused 403) → ⊥
cut_403 result one two = cc

fault_403 : (result : Outcome) (n : ℕ) → result ≡ Err (ReadFault n) → result ≡ Ok (Refused 403) → ⊥
fault_403 result n one two = cc

stopped_not : (e : WireError) (held held' : Option (List ℕ)) (writes writes' : ℕ) (result : Outcome) → IsStopped e held held' writes writes' result → result ≡ Ok Passed → ⊥
stopped_not wire.BadHead held held' writes writes' result done is = written_not refusal.BadHead held held' writes writes' result done is
stopped_not (wire.TooLarge n) held held' writes writes' result done is = written_not refusal.TooLarge held held' writes writes' result done is
stopped_not wire.Coding held held' writes writes' result done is = written_not refusal.Coding held held' writes writes' result done is
stopped_not wire.Memory held held' writes writes' result done is = written_not refusal.Memory held held' writes writes' result done is
stopped_not wire.Ended held held' writes writes' result done is = ended_not result done.0 is
stopped_not wire.Cut held held' writes writes' result done is = cut_not result done.0 is
stopped_not wire.ReadFault held held' writes writes' result done is = fault_not result 0 done.0 is

stopped_403 : (e : WireError) (held held' : Option (List ℕ)) (writes writes' : ℕ) (result : Outcome) → IsStopped e held held' writes writes' result → result ≡ Ok (Refused 403) → ⊥
stopped_403 wire.BadHead held held' writes writes' result done is = written_403 refusal.BadHead held held' writes writes' result done is
stopped_403 (wire.TooLarge n) held held' writes writes' result done is = written_403 refusal.TooLarge held held' writes writes' result done is
stopped_403 wire.Coding held held' writes writes' result done is = written_403 refusal.Coding held held' writes writes' result done is
stopped_403 wire.Memory held held' writes writes' result done is = written_403 refusal.Memory held held' writes writes' result done is
stopped_403 wire.Ended held held' writes writes' result done is = ended_403 result done.0 is
stopped_403 wire.Cut held held' writes writes' result done is = cut_403 result done.0 is
stopped_403 wire.ReadFault held held' writes writes' result done is = fault_403 result 0 done.0 is

-- what is passed on gets no 403 of ours
passes_403 : (q : Going) (target : List ℕ) (old new : Place) (result : Outcome) → PassOn q target old new result → result ≡ Ok (Refused 403) → ⊥
passes_403 q target old new result (inl linked) is =
    let ends = subst (λ (o : Outcome). PassEnds q (record old { told = linked.linked; links = linked.links }) (record new { told = linked.moved }) o) is linked.ends in
    not_403 ends.0 ends.5
passes_403 q target old new result (inr unlinked) is = written_403 unlinked.cause old.held new.held old.writes new.writes result unlinked.written is

-- one head stands in front
same_head : (head other : RequestHead) (more kept : List ℕ) (after before : Option (List ℕ)) → before ≡ Some (print_request head ++ more) → IsServedHead head → IsServedHead other
    → Took before [] after (print_request other ++ kept) → other ≡ head
same_head head other more kept after before left served served' took =
    let (rest, is, gone) = took.takes.leaves (print_request head ++ more) left in
    let there : print_request head ++ more ≡ print_request other ++ (kept ++ rest) =
    is ∙ (ap (λ (b : List ℕ). b ++ rest) took.whole ∙ append_assoc (print_request other) kept rest) in
    (request_unique (print_request head ++ more) other head (kept ++ rest) more (served'.valid, there) (served.valid, refl)).0

-- ---- what hindered a request

abbrev around : Place → Around
around p = record { told = p.told; reads = p.reads; writes = p.writes }

module _ (start : Start) (x y : View) (server : ServerKey) (head : Head) (old new : Around) where
  abbrev Hinders : Outcome → Type 0
  Hinders result = IsHindered start x y server head old new result

  written_hinders : (r : Refusal) (held held' : Option (List ℕ)) (result : Outcome) → IsCause start x y server head (status_of r)
      → IsWritten r held held' old.writes new.writes result → Hinders result
  written_hinders r held held' (Ok Passed) cause done = absurd done
  written_hinders r held held' (Ok (Refused s)) cause done = subst (λ (n : ℕ). IsCause start x y server head n) (sym done.0) cause
  written_hinders r held held' (Ok Ended) cause done = absurd done
  written_hinders r held held' (Ok Cut) cause done = absurd done
  written_hinders r held held' (Err (ReadFault n)) cause done = absurd done
  written_hinders r held held' (Err (WriteFault n)) cause done = done.4

  denied_hinders : (d : Denial) (held held' : Option (List ℕ)) (result : Outcome) → IsCause start x y server head (denial_status d)
      → IsDenied d held held' old.writes new.writes result → Hinders result
  denied_hinders d held held' (Ok Passed) cause done = absurd done
  denied_hinders d held held' (Ok (Refused s)) cause done = subst (λ (n : ℕ). IsCause start x y server head n) (sym done.0) cause
  denied_hinders d held held' (Ok Ended) cause done = absurd done
  denied_hinders d held held' (Ok Cut) cause done = absurd done
  denied_hinders d held held' (Err (ReadFault n)) cause done = absurd done
  denied_hinders d held held' (Err (WriteFault n)) cause done = done.4

  -- a denial by 403 is answered so, unless the output fails
  denied_so : (d : Denial) (held held' : Option (List ℕ)) (result : Outcome) → denial_status d ≡ 403 → IsDenied d held held' old.writes new.writes result
      → (result ≡ Ok (Refused 403)) ⊎ Hinders result
  denied_so d held held' (Ok Passed) is done = absurd done
  denied_so d held held' (Ok (Refused s)) is done = inl (ap (λ (n : ℕ). Ok (Refused n)) (done.0 ∙ is))
  denied_so d held held' (Ok Ended) is done = absurd done
  denied_so d held held' (Ok Cut) is done = absurd done
  denied_so d held held' (Err (ReadFault n)) is done = absurd done
  denied_so d held held' (Err (WriteFault n)) is done = inr done.4

-- a head that stands in front is read, unless the input fails or memory is wanting
unread_hinders : (start : Start) (x y : View) (server : ServerKey) (said : Head) (head : RequestHead) (more : List ℕ) (asks : List Exchange) (old new : Place)
    (result : Outcome) → old.left ≡ Some (print_request head ++ more) → IsServedHead head → guards.Unread asks old new result
    → IsHindered start x y server said (around old) (around new) result
unread_hinders start x y server said head more asks old new result left served unread = by unread.error unread.refused unread.stopped unread.cause
  where
    front : (rest : List ℕ) × (print_request head ++ more ≡ new.kept ++ rest) × (new.left ≡ Some rest)
    front = told (print_request head ++ more) [] new.kept old.left new.left unread.took left

    never : (e : WireError) → IsOfBytes e → RefusedAt new.left new.kept e → ⊥
    never e decided refused = never_refused head more new.kept front.0 front.1 served new.left e front.2 decided refused

    by : (e : WireError) → RefusedAt new.left new.kept e → IsStopped e old.held new.held old.writes new.writes result
        → (e ≡ wire.ReadFault → Rises old.reads new.reads) → IsHindered start x y server said (around old) (around new) result
    by wire.BadHead refused stopped cause = absurd (never wire.BadHead tt refused)
    by (wire.TooLarge n) refused stopped cause = absurd (never (wire.TooLarge n) tt refused)
    by wire.Coding refused stopped cause = absurd refused
    by wire.Ended refused stopped cause = absurd (never wire.Ended tt refused)
    by wire.Cut refused stopped cause = absurd (never wire.Cut tt refused)
    by wire.ReadFault refused stopped cause =
        subst (λ (o : Outcome). IsHindered start x y server said (around old) (around new) o) (sym stopped.0) (cause refl)
    by wire.Memory refused stopped cause =
        written_hinders start x y server said (around old) (around new) refusal.Memory old.held new.held result (inl refl) stopped

module _ (users : UsersBodySays) (services : ServicesBodySays) (nothings : NothingSays) (asks_so : AccessIsAsked) (texts : AccessIsText) where
  -- an ask that is no text of its request is too long
  too_long : (server : ServerKey) (head : RequestHead) (token : List ℕ) → IsName server.user → IsServerName server.server → IsServedHead head
      → token_of (head_of head).headers ≡ Some token → ¬ (IsRequestText (get_of (access_target server) token) (access_request server token))
      → IsTooLong token server
  too_long server head token user name served has none =
      elim (cases_lt 16295 (length server.user + length server.server + length token)) [
        | inl long ↦ long
        | inr short ↦ absurd (none (texts server head token user name served.valid has (omega (arith, short))))
      ]

  told_of : (start : Start) (x y : View) (server : ServerKey) (head : RequestHead) (token : List ℕ) (access : Access) (asks : List Exchange)
      → x.pass.base ≡ Some start → IsName server.user → IsServerName server.server → IsServedHead head → token_of (head_of head).headers ≡ Some token
      → Chain Direct x asks y → IsAnswered (access_request server token) asks access → Judges start x y token server access
  told_of start x y server head token access asks base user name served has chain (bytes, are, says) =
      let only : OnlyReads (access_request server token) (get_of (access_target server) token) = asks_so server head token user name served.valid has in
      let direct : Direct x (access_request server token) (Ok bytes) y =
      one_direct x y (access_request server token) (Ok bytes) (subst (λ (es : List Exchange). Chain Direct x es y) are chain) in
      by (short_reply start x y (access_request server token) bytes base direct)
      (turn_comes start x y (access_request server token) bytes (get_of (access_target server) token) base only refl direct)
    where
      by : length bytes < 2 ^ 64 → Comes start x y (get_of (access_target server) token) (access_request server token) bytes → Judges start x y token server access
      by fits (inl turned) =
          judged users services nothings start x y token server bytes
          (visit_of start x y (get_of (access_target server) token) bytes (ask token server) (call_is server token user name) refl (asks_nothing token server) refl turned)
          access fits says
      by fits (inr (unread, none)) =
          nothing_told start x y token server access (too_long server head token user name served has none) (unread_says bytes access unread says)

  -- ---- the end of a request

  -- a token was let in
  let_in : (start : Start) (x y : View) (server : ServerKey) (head : RequestHead) (token : Option (List ℕ)) (asks : List Exchange) (v : Verdict)
      → x.pass.base ≡ Some start → IsName server.user → IsServerName server.server → IsServedHead head → token_of (head_of head).headers ≡ token
      → Chain Direct x asks y → guards.Judges server token asks 0 0 v → v ≡ verdict.Pass → IsLetIn start x y server token
  let_in start x y server head None asks v base user name served has chain judged is = absurd (deny_not_pass (sym judged.1 ∙ is))
  let_in start x y server head (Some token) asks v base user name served has chain (answer, answers, same) is = by answer answers (sym same ∙ is)
    where
      by : (answer : Result Access LinkError) → Answers (access_request server token) asks 0 0 answer → verdict_of answer ≡ verdict.Pass
          → IsLetIn start x y server (Some token)
      by (Ok Yes) answers is = told_of start x y server head token Yes asks base user name served has chain answers
      by (Ok No) answers is = absurd (cc is)
      by (Ok NoToken) answers is = absurd (cc is)
      by (Ok BadReply) answers is = absurd (cc is)
      by (Err Failed) answers is = absurd (cc is)
      by (Err Memory) answers is = absurd (cc is)

  -- a 403 of the guard's own
  kept_out : (start : Start) (x y : View) (server : ServerKey) (head : RequestHead) (token : Option (List ℕ)) (asks : List Exchange) (v : Verdict) (d : Denial)
      → x.pass.base ≡ Some start → IsName server.user → IsServerName server.server → IsServedHead head → token_of (head_of head).headers ≡ token
      → Chain Direct x asks y → guards.Judges server token asks 0 0 v → v ≡ verdict.Deny d → 403 ≡ denial_status d → IsKeptOut start x y server token
  kept_out start x y server head None asks v d base user name served has chain judged is status = tt
  kept_out start x y server head (Some token) asks v d base user name served has chain (answer, answers, same) is status = by answer answers (sym same ∙ is)
    where
      by : (answer : Result Access LinkError) → Answers (access_request server token) asks 0 0 answer → verdict_of answer ≡ verdict.Deny d
          → IsKeptOut start x y server (Some token)
      by (Ok Yes) answers is = absurd (cc is)
      by (Ok No) answers is = told_of start x y server head token No asks base user name served has chain answers
      by (Ok NoToken) answers is = told_of start x y server head token NoToken asks base user name served has chain answers
      by (Ok BadReply) answers is = absurd (bad_hub d is status)
      by (Err Failed) answers is = absurd (no_hub d is status)
      by (Err Memory) answers is = absurd (cc is)

  -- a denial is a 403, or the hub decided nothing
  denied : (start : Start) (x y : View) (server : ServerKey) (head : RequestHead) (token : Option (List ℕ)) (asks : List Exchange) (v : Verdict) (d : Denial)
      → x.pass.base ≡ Some start → IsName server.user → IsServerName server.server → IsServedHead head → token_of (head_of head).headers ≡ token
      → Chain Direct x asks y → guards.Judges server token asks 0 0 v → v ≡ verdict.Deny d
      → (denial_status d ≡ 403) ⊎ ((denial_status d ≡ 502) × IsUndecided start x y server token)
  denied start x y server head None asks v d base user name served has chain judged is =
      inl (ap denial_status (sym (deny_as denial.NoToken d (sym judged.1 ∙ is))))
  denied start x y server head (Some token) asks v d base user name served has chain (answer, answers, same) is = by answer answers (sym same ∙ is)
    where
      by : (answer : Result Access LinkError) → Answers (access_request server token) asks 0 0 answer → verdict_of answer ≡ verdict.Deny d
          → (denial_status d ≡ 403) ⊎ ((denial_status d ≡ 502) × IsUndecided start x y server (Some token))
      by (Ok Yes) answers is = absurd (cc is)
      by (Ok No) answers is = inl (ap denial_status (sym (deny_as denial.NoAccess d is)))
      by (Ok NoToken) answers is = inl (ap denial_status (sym (deny_as denial.NoToken d is)))
      by (Ok BadReply) answers is = inr (
        ap denial_status (sym (deny_as denial.BadHub d is)),
        told_of start x y server head token BadReply asks base user name served has chain answers,
      )
      by (Err Failed) answers is = absurd (omega (arith, answers.1 (omega arith)))
      by (Err Memory) answers is = absurd (cc is)

  module _ (start : Start) (x y : View) (server : ServerKey) (target : List ℕ) (asks : List Exchange) (old new : Place) (result : Outcome)
      (base : x.pass.base ≡ Some start) (user : IsName server.user) (name : IsServerName server.server) (chain : Chain Direct x asks y) where
    follows : (head : RequestHead) (v : Verdict) (q : Going) (left : Option (List ℕ)) (kept : List ℕ) (reads : ℕ) → IsServedHead head
        → guards.Judges server (token_of (head_of head).headers) asks 0 0 v → Follows v q target (record old { left = left; kept = kept; reads = reads }) new result
        → Decided start x y server (head_of head) (around old) (around new) result
    follows head verdict.Pass q left kept reads served found done =
        let here = let_in start x y server head (token_of (head_of head).headers) asks verdict.Pass base user name served refl chain found refl in
        record { passed = λ is. here; unsent = inr here; refused = λ is. absurd (passes_403 q target (record old { left = left; kept = kept; reads = reads }) new result done is); otherwise = inr (inl here) }
    follows head (verdict.Deny d) q left kept reads served found done = record {
      passed = λ is. absurd (denied_not d old.held new.held old.writes new.writes result (done.1) is);
      unsent = inl ((done.0).told);
      refused = λ is.
          kept_out start x y server head (token_of (head_of head).headers) asks (verdict.Deny d) d base user name served refl chain found refl
          (denied_403 d old.held new.held old.writes new.writes result (done.1) is);
      otherwise =
          elim (denied start x y server head (token_of (head_of head).headers) asks (verdict.Deny d) d base user name served refl chain found refl) [
            | inl is ↦
                elim (denied_so start x y server (head_of head) (around old) (around new) d old.held new.held result is done.1) [
                  | inl so ↦ inl so
                  | inr hinders ↦ inr (inr hinders)
                ]
            | inr un ↦
                inr (inr (denied_hinders start x y server (head_of head) (around old) (around new) d old.held new.held result (inr (inr un)) done.1))
          ];
    }
    follows head verdict.Memory q left kept reads served found done = record {
      passed = λ is. absurd (written_not refusal.Memory old.held new.held old.writes new.writes result (done.1) is);
      unsent = inl ((done.0).told);
      refused = λ is. absurd (written_403 refusal.Memory old.held new.held old.writes new.writes result (done.1) is);
      otherwise =
          inr (inr (written_hinders start x y server (head_of head) (around old) (around new) refusal.Memory old.held new.held result (inl refl) done.1));
    }

    pub decided : (head : RequestHead) (more : List ℕ) → old.left ≡ Some (print_request head ++ more) → IsServedHead head
        → GuardEnds server target asks 0 0 old new result → Decided start x y server (head_of head) (around old) (around new) result
    decided head more left served (inl unread) = record {
      passed = λ is. absurd (stopped_not unread.error old.held new.held old.writes new.writes result unread.stopped is);
      unsent = inl unread.told;
      refused = λ is. absurd (stopped_403 unread.error old.held new.held old.writes new.writes result unread.stopped is);
      otherwise = inr (inr (unread_hinders start x y server (head_of head) head more asks old new result left served unread));
    }
    decided head more left served (inr (inl unframed)) =
        let same : unframed.head ≡ head = same_head head unframed.head more new.kept new.left old.left left served unframed.is unframed.took in
        let why : request_framing (head_of head).headers ≡ Err unframed.error =
        subst (λ (h : RequestHead). request_framing (head_of h).headers ≡ Err unframed.error) same unframed.why in record {
          passed = λ is. absurd (written_not (refusals.wire_refusal unframed.error) old.held new.held old.writes new.writes result unframed.written is);
          unsent = inl unframed.told;
          refused = λ is. absurd (written_403 (refusals.wire_refusal unframed.error) old.held new.held old.writes new.writes result unframed.written is);
          otherwise =
              inr (inr (written_hinders start x y server (head_of head) (around old) (around new) (refusals.wire_refusal unframed.error) old.held new.held result
              (inr (inl (unframed.error, why, refl))) unframed.written));
        }
    decided head more left served (inr (inr done)) =
        let same : done.head ≡ head = same_head head done.head more done.kept done.left old.left left served done.is done.took in
        follows head done.verdict (record { upgrade = false; method = (done.head).method; text = request_passed false done.head; framing = done.framing })
        done.left done.kept done.reads served (subst (λ (h : RequestHead). guards.Judges server (token_of (head_of h).headers) asks 0 0 done.verdict) same done.judged)
        done.follows
