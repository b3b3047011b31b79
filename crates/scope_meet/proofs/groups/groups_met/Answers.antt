use Rattle.std.proofs.Common.{◌≡◌, List, ℕ, [], ◌++◌, ◌⊎◌, inl, inr, map, sym, ap, ◌∙◌}
use Rattle.std.specs.List.{list_any, flat_map}
use Rattle.scope_filters.specs.declared.filter.Filter.{Filter}
use Rattle.scope_filters.specs.declared.filter.Filter.TheVariants as Fi
use Rattle.scope_meet.proofs.GroupLists.{shared, apart, users_among}
use Rattle.scope_meet.proofs.NamesMet.{groups_met, shared_met}
use Rattle.scope_meet.proofs.groups.groups_met.Goals as goal

-- the slices that the calls were lent are the lists
pub returns-then-is_one_empty : goal.returns-then-is_one_empty
returns-then-is_one_empty g c =
    let ours : List (List ℕ) = c.in_ok-ours.ours.items in
    let theirs : List (List ℕ) = c.in_ok-theirs.theirs.items in
    let our_own : c.deref-7.result.now ≡ apart ours theirs =
    c.deref-7.ensures.value ∙ c.in_ok-our_own.ensures
    ∙ ap (λ (l : List (List ℕ)). apart l c.deref-4.result.now) c.deref-3.ensures.value ∙ ap (λ (l : List (List ℕ)). apart ours l) c.deref-4.ensures.value in
    let their_own : c.deref-8.result.now ≡ apart theirs ours =
    c.deref-8.ensures.value ∙ c.in_ok-their_own.ensures
    ∙ ap (λ (l : List (List ℕ)). apart l c.deref-6.result.now) c.deref-5.ensures.value ∙ ap (λ (l : List (List ℕ)). apart theirs l) c.deref-6.ensures.value in
    shared_met (g.M.Members.context c.args.members.now) c.args.ours.now c.args.theirs.now c.in_ok-met.met.items ours theirs c.in_ok-ours.ensures.same c.in_ok-theirs.ensures.same
    (c.in_ok-met.ensures ∙ ap (λ (l : List (List ℕ)). map Fi.Group (shared l c.deref-2.result.now)) c.deref.ensures.value ∙ ap (λ (l : List (List ℕ)). map Fi.Group (shared ours l)) c.deref-2.ensures.value)
    (elim (c.is_one_empty.ensures c.if-is_one_empty.true) as (λ _. (apart ours theirs ≡ []) ⊎ (apart theirs ours ≡ [])) [
      | inl e ↦ inl (sym our_own ∙ e)
      | inr e ↦ inr (sym their_own ∙ e)
    ])

pub returns : goal.returns
returns g c =
    let m = g.M.Members.context c.args.members.now in
    let ours : List (List ℕ) = c.in_ok-ours.ours.items in
    let theirs : List (List ℕ) = c.in_ok-theirs.theirs.items in
    let users : List (List ℕ) = c.in_ok-users.users.items in
    groups_met m c.args.ours.now c.args.theirs.now c.push_common.new.met.items ours theirs users c.in_ok-ours.ensures.same c.in_ok-theirs.ensures.same
    (λ p. c.in_ok-users.ensures.same p ∙ ap (λ (l : List (List ℕ)). list_any p (flat_map m l)) (
    c.deref-9.ensures.value ∙ c.in_ok-their_own.ensures
    ∙ ap (λ (l : List (List ℕ)). apart l c.deref-6.result.now) c.deref-5.ensures.value ∙ ap (λ (l : List (List ℕ)). apart theirs l) c.deref-6.ensures.value))
    (c.in_ok-push_common.ensures
    ∙ ap (λ (l : List Filter). l ++ flat_map (λ (n : List ℕ). users_among c.deref-11.result.now (m n)) c.deref-10.result.now) (
    c.in_ok-met.ensures ∙ ap (λ (l : List (List ℕ)). map Fi.Group (shared l c.deref-2.result.now)) c.deref.ensures.value ∙ ap (λ (l : List (List ℕ)). map Fi.Group (shared ours l)) c.deref-2.ensures.value)
    ∙ ap (λ (l : List (List ℕ)). map Fi.Group (shared ours theirs) ++ flat_map (λ (n : List ℕ). users_among l (m n)) c.deref-10.result.now) c.deref-11.ensures.value
    ∙ ap (λ (l : List (List ℕ)). map Fi.Group (shared ours theirs) ++ flat_map (λ (n : List ℕ). users_among users (m n)) l) (
    c.deref-10.ensures.value ∙ c.in_ok-our_own.ensures
    ∙ ap (λ (l : List (List ℕ)). apart l c.deref-4.result.now) c.deref-3.ensures.value ∙ ap (λ (l : List (List ℕ)). apart ours l) c.deref-4.ensures.value))
