-- A page of a list of users: what a reply to a request for it has to be.
use Rattle.std.specs.Prelude.{◌≡◌, ◌≤◌, ◌⊎◌, ℕ, ◌+◌, ◌==◌, ◌&&◌, nat_le, Bool, true, false, if◌then◌else◌, List, [], ◌∷◌, length, codes}
use Rattle.std.specs.Prelude.{Option, Some, None, Result, Ok, Err}
use Rattle.std.specs.Option.{is_some}
use Rattle.serde_json.specs.Data.{Data}
use Rattle.serde_json.specs.Find.{get, as_null, as_number, as_array, as_u64}
use Rattle.request_parts.specs.Bodies.{◌>>=◌, body_object}
use Rattle.hub_devices.specs.declared.link_error.LinkError.{LinkError}
use Rattle.hub_devices.specs.declared.link_error.LinkError.TheVariants as Link
use Rattle.hub_link.specs.Links.{Exchange}
use Rattle.hub_link.specs.Replies.{Says}
use Rattle.idle_culler.specs.Readings.{each_user}
use Rattle.idle_culler.specs.Requests.{page_request}
use Rattle.idle_culler.specs.declared.views.UserView.{UserView}
use Rattle.idle_culler.specs.declared.pages.Page.{Page}
use Rattle.idle_culler.specs.declared.pages.CullFault.{CullFault}
use Rattle.idle_culler.specs.declared.pages.CullFault.TheVariants.{LinkFault, BadReply, Memory}

-- the next page begins 50 users on, and not past 100,000
abbrev pub follows : ℕ → ℕ → Option Bool
follows offset next = if (next == offset + 50) && nat_le next 100000 then Some true else None

-- whether another page follows the one at an offset: null, or an object with the next offset
abbrev pub more_in : ℕ → Data → Option Bool
more_in offset value =
    if is_some (as_null value) then Some false
    else (get (codes "offset") value >>= as_number >>= as_u64 >>= follows offset)

abbrev pub more_at : ℕ → Data → Option Bool
more_at offset body = get (codes "_pagination") body >>= get (codes "next") >>= more_in offset

abbrev pub users_at : Data → Option (List UserView)
users_at body = get (codes "items") body >>= as_array >>= each_user

-- at most 50 users
abbrev pub page_with : Option (List UserView) → Option Bool → Option Page
page_with users more = do
  users ← users
  more ← more
  if nat_le (length users) 50 then Some (record { users = users; more = more }) else None

-- few users, and a next page that isn't past the last one
abbrev pub FitsAt : ℕ → Page → Type 0
FitsAt offset page = (length page.users ≤ 50) × (page.more ≡ true → offset + 50 ≤ 100000)

abbrev pub page_in : ℕ → Data → Option Page
page_in offset body = page_with (users_at body) (more_at offset body)

-- the page at an offset that bytes are
abbrev pub page_of : ℕ → List ℕ → Option Page
page_of offset bytes = body_object bytes >>= page_in offset

abbrev pub page_or_status : Option Page → Result Page ℕ
page_or_status (Some page) = Ok page
page_or_status None = Err 200

-- the page of a reply of status 200, or else the status; 0 stands for bytes that are no reply
abbrev pub page_said : ℕ → Option (ℕ × List ℕ) → Result Page ℕ
page_said offset None = Err 0
page_said offset (Some (status, body)) = if status == 200 then page_or_status (page_of offset body) else Err status

-- the bytes of a reply have this page
abbrev pub IsPageOf : ℕ → List ℕ → Page → Type 0
IsPageOf offset bytes page = (said : Option (ℕ × List ℕ)) × Says bytes said × (page_said offset said ≡ Ok page)

-- why the bytes that came give no page
abbrev pub IsReplyFault : ℕ → List ℕ → CullFault → Type 0
IsReplyFault offset bytes LinkFault = ⊥
IsReplyFault offset bytes (BadReply status) = (said : Option (ℕ × List ℕ)) × Says bytes said × (page_said offset said ≡ Err status)
IsReplyFault offset bytes Memory = Unit {0}

-- the page at an offset was asked for, and the reply is this page, or has this status and no page
pub record AnswersPage (token : List ℕ) (offset : ℕ) (ask : Exchange) (outcome : Result Page ℕ) : Type 0 where
  pub bytes : List ℕ
  pub said : Option (ℕ × List ℕ)
  pub asked : ask ≡ (page_request token offset, Ok bytes)
  pub says : Says bytes said
  pub finds : page_said offset said ≡ outcome

-- nothing was asked, or the page at an offset was, whatever came of it
abbrev pub IsAtMostPage : List ℕ → ℕ → List Exchange → Type 0
IsAtMostPage token offset asks =
    (asks ≡ []) ⊎ ((given : Result (List ℕ) LinkError) × (asks ≡ (page_request token offset, given) ∷ []))

-- why there is no page
abbrev pub IsPageFault : List ℕ → ℕ → List Exchange → CullFault → Type 0
IsPageFault token offset asks LinkFault = asks ≡ (page_request token offset, Err Link.Failed) ∷ []
IsPageFault token offset asks (BadReply status) = (ask : Exchange) × (asks ≡ ask ∷ []) × AnswersPage token offset ask (Err status)
IsPageFault token offset asks Memory = IsAtMostPage token offset asks
