-- From the bytes that came to the page that was asked for.
use Rattle.std.proofs.Common.{◌≡◌, ℕ, List, [], ◌∷◌, Option, Result, Ok, IfOk, IfErr, refl, subst, inr}
use Rattle.std.proofs.lemmas.Result.{IfOk-weaker, IfErr-weaker}
use Rattle.hub_devices.specs.declared.link_error.LinkError.{LinkError}
use Rattle.hub_devices.specs.Calls.{Grows}
use Rattle.hub_link.specs.Links.{Exchange, reply_of, Asks}
use Rattle.hub_link.proofs.AskLemmas.{one_ask}
use Rattle.idle_culler.specs.declared.pages.Page.{Page}
use Rattle.idle_culler.specs.declared.pages.CullFault.{CullFault}
use Rattle.idle_culler.specs.declared.pages.CullFault.TheVariants.{LinkFault, BadReply, Memory}
use Rattle.idle_culler.specs.Pages.{AnswersPage, IsPageFault, IsPageOf, IsReplyFault}
use Rattle.idle_culler.specs.Requests.{page_request}

pub answers : (token : List ℕ) (offset : ℕ) (bytes : List ℕ) (page : Page) → IsPageOf offset bytes page → AnswersPage token offset (page_request token offset, Ok bytes) (Ok page)
answers token offset bytes page (said, says, finds) = record { bytes = bytes; said = said; asked = refl; says = says; finds = finds }

pub page_fault : (token : List ℕ) (offset : ℕ) (bytes : List ℕ) (fault : CullFault) → IsReplyFault offset bytes fault
    → IsPageFault token offset ((page_request token offset, Ok bytes) ∷ []) fault
page_fault token offset bytes LinkFault is = absurd is
page_fault token offset bytes (BadReply status) (said, says, finds) =
    ((page_request token offset, Ok bytes), refl, record { bytes = bytes; said = said; asked = refl; says = says; finds = finds })
page_fault token offset bytes Memory is = inr (Ok bytes, refl)

module _ {L : Type 0} (asked : L → Option (List (List ℕ × Option (List ℕ)))) (does : L → List ℕ → Result (List ℕ) LinkError → L → Type 0) where
  pub page_asked : (old new : L) (token : List ℕ) (offset : ℕ) (request bytes as_slice : List ℕ) (result : Result Page CullFault)
      → request ≡ page_request token offset → does old request (Ok bytes) new → Grows (asked old) ((request, reply_of (Ok bytes)) ∷ []) (asked new)
      → as_slice ≡ bytes → IfOk result (IsPageOf offset as_slice)
      → IfOk result (λ page. (ask : Exchange) × Asks asked does old (ask ∷ []) new × AnswersPage token offset ask (Ok page))
  page_asked old new token offset request bytes as_slice result is met told same found =
      IfOk-weaker result (IsPageOf offset as_slice) _
      (λ page of. (
        (page_request token offset, Ok bytes),
        one_ask asked does old new request (page_request token offset) (Ok bytes) is met told,
        answers token offset bytes page (subst (λ (b : List ℕ). IsPageOf offset b page) same of),
      )) found

  pub page_refused : (old new : L) (token : List ℕ) (offset : ℕ) (request bytes as_slice : List ℕ) (result : Result Page CullFault)
      → request ≡ page_request token offset → does old request (Ok bytes) new → Grows (asked old) ((request, reply_of (Ok bytes)) ∷ []) (asked new)
      → as_slice ≡ bytes → IfErr result (IsReplyFault offset as_slice)
      → IfErr result (λ e. (asks : List Exchange) × Asks asked does old asks new × IsPageFault token offset asks e)
  page_refused old new token offset request bytes as_slice result is met told same found =
      IfErr-weaker result (IsReplyFault offset as_slice) _
      (λ e of. (
        (page_request token offset, Ok bytes) ∷ [],
        one_ask asked does old new request (page_request token offset) (Ok bytes) is met told,
        page_fault token offset bytes e (subst (λ (b : List ℕ). IsReplyFault offset b e) same of),
      )) found
