-- What is answered where the rules on shares refuse, a share that is put, and the rows of a list that stand in a page.
use Rattle.std.proofs.Common.{◌≡◌, ℕ, Bool, false, List, [], ◌∷◌, map, length, take, drop, refl, sym, ap, ◌∙◌, subst}
use Rattle.std.proofs.lemmas.List.{length-map, take-map, drop-map}
use Rattle.std.proofs.lemmas.Result.{IfOk-weaker}
use Rattle.std.specs.Prelude.{Option, Result, Ok, Err, IfOk, alloc_error}
use Rattle.std.specs.FinMap.{FinMap, get, len, len-entries, entries, values}
use Rattle.std.specs.declared.alloc.AllocError.{AllocError}
use Rattle.std.specs.declared.cmp.Ordering.{Ordering}
use Rattle.shares.specs.Allowed.{Tells}
use Rattle.shares.specs.declared.allowed.ShareError.{ShareError}
use Rattle.shares.specs.declared.allowed.ShareError.TheVariants.{ScopeNotAllowed, NoRecipient, CodeUnknown, CodeExpired, LifeTooShort, Memory}
use Rattle.hub_rows.specs.declared.records.Share.{Share}
use Rattle.hub_tables.specs.State.{State}
use Rattle.hub_view.specs.Json.{Json}
use Rattle.hub_view.specs.Pages.{in_page}
use Rattle.hub_view.specs.Records.{share_body}
use Rattle.hub_view.specs.declared.pages.Page.{Page}
use Rattle.hub_machine.specs.Answers.{answer_view}
use Rattle.hub_machine.specs.Replies.{Answer, refuses, rows_then, good, rules, if_so}
use Rattle.hub_machine.specs.State.{Hub}
use Rattle.hub_machine.specs.declared.refusal.Refusal.TheVariants.{Full}
use Rattle.hub_machine.specs.declared.answer.Answer as program
use Rattle.access_calls.specs.ShareCalls.{by_rules, is_without_room, put_share, refusal_of, share_put}

module _ {X : Type 0} (told : Result X ShareError) (given : X → Answer) (r : Result program.Answer AllocError) where
  abbrev Said : Type 0
  Said = IfOk r (λ a. answer_view a ≡ by_rules told given)

  said : (e : ShareError) → told ≡ Err e → IfOk r (λ a. answer_view a ≡ refuses (refusal_of e)) → Said
  said e t s = IfOk-weaker r _ _ (λ a h. h ∙ ap (λ (x : Result X ShareError). by_rules x given) (sym t)) s

  -- a refusal that is told is answered; want of memory is no answer
  pub refused : (e : ShareError) → Tells told (Err e) → IfOk r (λ a. answer_view a ≡ refuses (refusal_of e)) → (e ≡ Memory → r ≡ Err alloc_error) → Said
  refused (ScopeNotAllowed place) t s m = said (ScopeNotAllowed place) t s
  refused NoRecipient t s m = said NoRecipient t s
  refused CodeUnknown t s m = said CodeUnknown t s
  refused (CodeExpired end) t s m = said (CodeExpired end) t s
  refused (LifeTooShort life) t s m = said (LifeTooShort life) t s
  refused Memory t s m = subst (λ (x : Result program.Answer AllocError). IfOk x (λ a. answer_view a ≡ by_rules told given)) (sym (m refl)) tt

  -- and what is told to be given is answered
  pub given_for : (x : X) → told ≡ Ok x → IfOk r (λ a. answer_view a ≡ given x) → Said
  given_for x t s = IfOk-weaker r _ _ (λ a h. h ∙ ap (λ (y : Result X ShareError). by_rules y given) (sym t)) s

-- the bodies of those that stand in the page are those of all that stand in the page
pub page_of_all : {K : Type 0} (page : Page) (body : K → Json) (keys part : List K) (made : List Json) → part ≡ in_page page keys → made ≡ map body part → made ≡ in_page page (map body keys)
page_of_all page body keys part made p m =
    m ∙ ap (map body) p ∙ sym (ap (take _) (drop-map body page.offset keys) ∙ take-map body _ (drop page.offset keys))

pub total_of_all : {K : Type 0} (body : K → Json) (keys : List K) (total : ℕ) → total ≡ length keys → total ≡ length (map body keys)
total_of_all body keys total e = e ∙ sym (length-map keys body)

pub length_values : {K X : Type 0} {R : K → K → Ordering} (m : FinMap R X) → length (values m) ≡ len m
length_values m = length-map (entries m) (λ e. e.1) ∙ sym (len-entries m)

-- a share that is put where there is room, among the tables of the state
pub put_with_room : (s : Hub) (share : Share) (t : State) (kept : Option Share) (r : Result program.Answer AllocError) → t ≡ s.tables → is_without_room t share ≡ false → kept ≡ get t.shares share.key
    → IfOk r (λ a. answer_view a ≡ rows_then (share_put share kept) (good 200 (share_body share))) → IfOk r (λ a. answer_view a ≡ put_share s share)
put_with_room s share t kept r e room at h =
    let here : is_without_room s.tables share ≡ false = subst (λ (t : State). is_without_room t share ≡ false) e room in
    let row : kept ≡ get s.tables.shares share.key = at ∙ ap (λ (t : State). get t.shares share.key) e in
    let reply : Answer = rows_then (share_put share (get s.tables.shares share.key)) (good 200 (share_body share)) in
    IfOk-weaker r _ _
    (λ a g. g ∙ ap (λ k. rows_then (share_put share k) (good 200 (share_body share))) row ∙ sym (ap (λ b. rules (if_so b (Full 8 s.tables.limits.shares) ∷ []) reply) here)) h
