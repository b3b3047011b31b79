-- What a request at a guard that lets browsers sign in asks, draws and is answered.
use Rattle.std.specs.Prelude.{◌≡◌, ◌⊎◌, ◌++◌, ℕ, Bool, true, false, List, [], ◌∷◌, Option, Some, None, Result, Ok, Err}
use Rattle.std.specs.declared.alloc.AllocError.{AllocError}
use Rattle.hub_devices.specs.Faults.{Rises}
use Rattle.hub_devices.specs.Streams.{Appends, Takes}
use Rattle.hub_devices.specs.declared.link_error.LinkError.{LinkError}
use Rattle.hub_devices.specs.declared.link_error.LinkError.TheVariants.{Failed}
use Rattle.hub_link.specs.Links.{Exchange}
use Rattle.hub_link.specs.Replies.{Says}
use Rattle.http_wire.specs.declared.error.SessionFault.{SessionFault}
use Rattle.http_wire.specs.declared.error.SessionFault.TheVariants.{ReadFault, WriteFault}
use Rattle.proxy_core.specs.Refusals.{IsWritten}
use Rattle.proxy_core.specs.declared.refusals.Refusal.TheVariants as refusal
use Rattle.proxy_core.specs.declared.refusals.Forwarded.{Forwarded}
use Rattle.proxy_core.specs.declared.refusals.Forwarded.TheVariants as forwarded
use Rattle.guard.specs.Denials.{IsDenied}
use Rattle.guard.specs.declared.denials.Denial.{Denial}
use Rattle.guard_login.specs.Signed.{Given, said, failed, Answer, passes, refuses, sends, gives}
use Rattle.guard_login.specs.Texts.{sends_text, gives_text}
use Rattle.guard_login.specs.declared.answers.Signed.{Signed}
use Rattle.guard_login.specs.declared.answers.Signed.TheVariants as signed
use Rattle.guard_login.specs.declared.door.Door.{Door}
use Rattle.guard_login.specs.declared.steps.Step.{Step}
use Rattle.guard_login.specs.declared.steps.Step.TheVariants.{Pass, Deny, Start, Give}

-- ---- the ask

-- The hub was asked this once, if there is a request, and nothing else, and it came to `given`; where the link failed its count of faults
-- rose from `faults` to `faults'`
abbrev pub IsGiven : Option (List ℕ) → List Exchange → ℕ → ℕ → Given → Type 0
IsGiven None asks faults faults' given = asks ≡ []
IsGiven (Some request) asks faults faults' (said reply) = (bytes : List ℕ) × (asks ≡ (request, Ok bytes) ∷ []) × Says bytes reply
IsGiven (Some request) asks faults faults' failed = (asks ≡ (request, Err Failed) ∷ []) × Rises faults faults'

-- There was no memory: the hub was asked this once, if there is a request, or nothing was
abbrev pub IsUngiven : Option (List ℕ) → List Exchange → Type 0
IsUngiven None asks = asks ≡ []
IsUngiven (Some request) asks = (asks ≡ []) ⊎ ((given : Result (List ℕ) LinkError) × (asks ≡ (request, given) ∷ []))

-- What is made (`by`) of what the hub gave to this ask, if there is one; or there was no memory. asks and the two counts are the link's
-- asks and its faults before and after
abbrev pub Steps : {S : Type 0} → Option (List ℕ) → (Given → S) → List Exchange → ℕ → ℕ → Result S AllocError → Type 0
Steps ask by asks faults faults' (Ok step) = (given : Given) × IsGiven ask asks faults faults' given × (step ≡ by given)
Steps ask by asks faults faults' (Err e) = IsUngiven ask asks

-- ---- the draw

-- Whether a draw is taken for this step
abbrev pub draws : Step → Bool
draws Pass = false
draws (Deny denial) = false
draws Start = true
draws (Give token next) = false

-- Where a draw is taken, this was drawn, or the device failed and its count of faults rose; else nothing was. `left` and `faults` say what
-- such a device tells; it was `old` before and is `new` after
abbrev pub Drew : {R : Type 0} → (R → Option (List (List ℕ))) → (R → ℕ) → R → R → Bool → Option (List ℕ) → Type 0
Drew left faults old new false draw = new ≡ old
Drew left faults old new true (Some draw) = Takes (left old) (draw ∷ []) (left new)
Drew left faults old new true None = (left new ≡ left old) × Rises (faults old) (faults new)

-- ---- the answer

-- How a request ends that wasn't passed on, or whose head didn't come, as an end of a guard that lets browsers sign in
abbrev pub as_signed : Forwarded → Signed
as_signed forwarded.Passed = signed.Carried forwarded.Passed
as_signed (forwarded.Refused s) = signed.Refused s
as_signed forwarded.Ended = signed.Ended
as_signed forwarded.Cut = signed.Cut

-- How an answer that was written here, or a head that didn't come, ends the request
abbrev pub signing : Result Forwarded SessionFault → Result Signed SessionFault
signing (Ok f) = Ok (as_signed f)
signing (Err e) = Err e

-- How a request that was passed on ends
abbrev pub carrying : Result Forwarded SessionFault → Result Signed SessionFault
carrying (Ok f) = Ok (signed.Carried f)
carrying (Err e) = Err e

-- There was no memory for the answer, and that was written, or a part of it and the sink's count of faults rose. held is what the sink held
-- and writes its count of faults; with a prime: after, here and below
abbrev pub Wants : Option (List ℕ) → Option (List ℕ) → ℕ → ℕ → Result Signed SessionFault → Type 0
Wants held held' writes writes' result =
    (f : Result Forwarded SessionFault) × IsWritten refusal.Memory held held' writes writes' f × (result ≡ signing f)

-- The refusal was written, or a part of it and the sink's count of faults rose
abbrev pub Denies : Denial → Option (List ℕ) → Option (List ℕ) → ℕ → ℕ → Result Signed SessionFault → Type 0
Denies denial held held' writes writes' result =
    (f : Result Forwarded SessionFault) × IsDenied denial held held' writes writes' f × (result ≡ signing f)

-- The text was written, and the request ends so; or a part of it was, and the sink's count of faults rose
abbrev pub Writes : List ℕ → Signed → Option (List ℕ) → Option (List ℕ) → ℕ → ℕ → Result Signed SessionFault → Type 0
Writes text answer held held' writes writes' (Ok a) = (a ≡ answer) × Appends held text held'
Writes text answer held held' writes writes' (Err (ReadFault n)) = ⊥
Writes text answer held held' writes writes' (Err (WriteFault n)) =
    (part more : List ℕ) × (text ≡ part ++ more) × Appends held part held' × Rises writes writes' × (n ≡ 0)

-- An answer of a guard of this door that is no request passed on was written, or there was no memory for its text
abbrev pub WritesAnswer : Door → Answer → Option (List ℕ) → Option (List ℕ) → ℕ → ℕ → Result Signed SessionFault → Type 0
WritesAnswer door passes held held' writes writes' result = ⊥
WritesAnswer door (refuses denial) held held' writes writes' result = Denies denial held held' writes writes' result
WritesAnswer door (sends state next) held held' writes writes' result =
    Writes (sends_text door state next) signed.Sent held held' writes writes' result ⊎ Wants held held' writes writes' result
WritesAnswer door (gives token next) held held' writes writes' result =
    Writes (gives_text door token next) signed.GaveCookie held held' writes writes' result ⊎ Wants held held' writes writes' result
