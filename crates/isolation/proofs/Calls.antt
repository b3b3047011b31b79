-- Each GET answers the same in two states in which its token sees the same.
use Rattle.std.proofs.Common.{◌≡◌, ℕ, Bool, true, false, cond, not, List, [], ◌∷◌, ◌++◌, map, codes, Option, Some, None, is_some, IsTrue, inl, inr, refl, sym, ap, ◌∙◌, subst}
use Rattle.std.specs.Cmp.Lexicographic.{nat_list_cmp_total}
use Rattle.std.specs.FinMap.{FinMap, get, values, contains_key, same_map}
use Rattle.hub_kit.specs.KeyOrder.{name_cmp}
use Rattle.hub_kit.specs.declared.names.ServerKey.{ServerKey}
use Rattle.scope_names.specs.declared.action.Action.{Action}
use Rattle.scope_names.specs.declared.action.Action.TheVariants as A
use Rattle.scope_filters.specs.declared.object.Object.{Object}
use Rattle.scope_filters.specs.declared.object.Object.TheVariants as Ob
use Rattle.scope_filters.specs.declared.holder.Owner.{Owner}
use Rattle.scope_filters.specs.declared.holder.Owner.TheVariants as Own
use Rattle.hub_rows.specs.ShareOrder.{names_exact}
use Rattle.hub_rows.specs.declared.records.Group.{Group}
use Rattle.hub_rows.specs.declared.records.Role.{Role}
use Rattle.hub_rows.specs.declared.records.Service.{Service}
use Rattle.hub_rows.specs.declared.records.Token.{Token}
use Rattle.hub_rows.specs.declared.records.User.{User}
use Rattle.hub_tables.specs.Own.{AreOwn}
use Rattle.hub_tables.proofs.RowsAt.{own_users, own_groups, own_services}
use Rattle.hub_view.specs.Json.{Json, items, whole, pairs, line}
use Rattle.hub_view.specs.Fields as view
use Rattle.hub_view.specs.Pages.{paged_list}
use Rattle.hub_view.specs.declared.pages.Page.{Page}
use Rattle.hub_view.specs.Records.{role_body}
use Rattle.shares.specs.Lists.{shares_of, codes_of}
use Rattle.shares.specs.declared.lists.CodesOf.{CodesOf}
use Rattle.shares.specs.declared.lists.CodesOf.TheVariants as Codes
use Rattle.shares.specs.declared.lists.SharesOf.{SharesOf}
use Rattle.shares.specs.declared.lists.SharesOf.TheVariants as Shares
use Rattle.hub_machine.specs.State.{Hub}
use Rattle.hub_machine.specs.Trails.{in_trail}
use Rattle.hub_machine.specs.Replies.{Answer, refuses, refuses_with, gives, changes, works, good, rules, if_so, outcome_of}
use Rattle.hub_machine.specs.declared.refusal.Refusal.{Refusal}
use Rattle.hub_machine.specs.declared.refusal.Refusal.TheVariants.{Needs, NotFound, NoValidToken, SeenPast}
use Rattle.hub_machine.specs.declared.call.Asked.{Asked}
use Rattle.hub_machine.specs.declared.call.Call.{Call}
use Rattle.hub_machine.specs.declared.call.Call.TheVariants.{GetVersion, GetInfo, GetIdentity, GetUsers, GetUser, GetTokens, GetToken, GetShares, GetCodes, GetGroups, GetGroup, GetServices, GetService, GetRoles, GetRole, PostTrade}
use Rattle.hub_calls.specs.Facts.{body_of_user, body_of_group, body_of_role, user_body, group_body, service_body, users_shown, groups_shown, services_shown}
use Rattle.hub_calls.specs.UserCalls.{get_version, get_info, identity, identity_of_user}
use Rattle.access_calls.specs.TokenCalls.{token_at}
use Rattle.access_calls.specs.ShareCalls.{share_at, shares_path}
use Rattle.access_calls.specs.CodeCalls.{code_at, codes_path}
use Rattle.hub_core.specs.Needs.{has_token, has_sharer, has_offerer, needs_token}
use Rattle.hub_tables.specs.Ends.{is_over}
use Rattle.scope_meet.specs.declared.inside.Inside.TheVariants.{Yes}
use Rattle.hub_core.specs.Answer.{Judgement, answer, by_call, by_nobody, caller, good_token, if_good, is_past, named}
use Rattle.hub_core.specs.Judged.{Judged, JudgesToken, JudgesCaller, HeldOf}
use Rattle.hub_core.specs.History.{Answers}
use Rattle.hub_core.specs.declared.need.Need.TheVariants.{Held}
use Rattle.isolation.specs.Sight.{SameUser, SameGroup, SameService, SameShares, SameCodes, InBoth, SeesSame}
use Rattle.isolation.specs.Isolation.{is_get, token_of, Finds, apart}
use Rattle.isolation.proofs.Bodies.{Says, user_same, identity_same, group_same, same_service_members}
use Rattle.isolation.proofs.Lists.{same_list, in_both}
use Rattle.isolation.proofs.Tokens.{same_token, same_tokens}
use Rattle.isolation.proofs.Shares.{same_shares, same_codes}

same_truth : (b c : Bool) → (IsTrue b → IsTrue c) → (IsTrue c → IsTrue b) → b ≡ c
same_truth true true f g = refl
same_truth true false f g = sym (f refl)
same_truth false true f g = g refl
same_truth false false f g = refl

module _ (k : Token) (s t : Hub) (seen : SeesSame k s t) where
  -- ---- the judgements are one

  same_rights : (call : Call) (j j' : Judgement) → JudgesToken s.tables k call j → JudgesToken t.tables k call j' → j.may ≡ j'.may
  same_rights call j j' judged judged' = λ i a x. same_truth (j.may a x) (j'.may a x)
      (λ h. (judged'.may a x).1 ((seen.allowed a x).0 ((judged.may a x).0 h)))
      (λ h. (judged.may a x).1 ((seen.allowed a x).1 ((judged'.may a x).0 h))) i

  same_held : (a : Action) (b c : Bool) → HeldOf s.tables k b (Held a) → HeldOf t.tables k c (Held a) → b ≡ c
  same_held a b c h h' = same_truth b c
      (λ x. h'.1 (let o = h.0 x in (o.0, o.1, (seen.allowed a o.0).0 o.2)))
      (λ x. h.1 (let o = h'.0 x in (o.0, o.1, (seen.allowed a o.0).1 o.2)))

  -- of a call that needs this action, and makes no token
  same_judgement : (call : Call) (a : Action) (j j' : Judgement) → JudgesToken s.tables k call j → JudgesToken t.tables k call j'
      → HeldOf s.tables k j.is_held (Held a) → HeldOf t.tables k j'.is_held (Held a) → j.inside ≡ Yes → j'.inside ≡ Yes → j ≡ j'
  same_judgement call a j j' judged judged' h h' all all' =
      let may = same_rights call j j' judged judged' in
      let held = same_held a j.is_held j'.is_held h h' in
      let inside = all ∙ sym all' in
      λ i. record { may = may i; is_held = held i; inside = inside i }

  says : (call : Call) (j : Judgement) → JudgesToken s.tables k call j → Says s k j.may
  says call j judged a x e = (judged.may a x).0 e

  -- ---- refusals come in both

  on_object : (h m : Bool) (n : Refusal) (x y : Answer) → (m ≡ true → in_trail s x ≡ in_trail t y)
      → in_trail s (rules (if_so (not h) n ∷ if_so (not m) NotFound ∷ []) x) ≡ in_trail t (rules (if_so (not h) n ∷ if_so (not m) NotFound ∷ []) y)
  on_object false m n x y h = refl
  on_object true true n x y h = h refl
  on_object true false n x y h = refl

  where_held : (h : Bool) (n : Refusal) (x y : Answer) → in_trail s x ≡ in_trail t y
      → in_trail s (rules (if_so (not h) n ∷ []) x) ≡ in_trail t (rules (if_so (not h) n ∷ []) y)
  where_held false n x y h = refl
  where_held true n x y h = h

  abbrev found : Bool → Json → Answer
  found there body = rules (if_so (not there) NotFound ∷ []) (gives (good 200 body))

  same_found : (b c : Bool) (x y : Json) → b ≡ c → (b ≡ true → x ≡ y) → in_trail s (found b x) ≡ in_trail t (found c y)
  same_found true true x y e h = ap (λ j. gives (good 200 j)) (h refl)
  same_found false false x y e h = refl
  same_found true false x y e h = absurd (cc)
  same_found false true x y e h = absurd (cc)

  same_either : (b c : Bool) (x y : Json) → cond b (Some x) None ≡ cond c (Some y) None → in_trail s (found b x) ≡ in_trail t (found c y)
  same_either true true x y e = let same : x ≡ y = cc in ap (λ j. gives (good 200 j)) same
  same_either false false x y e = refl
  same_either true false x y e = absurd (cc)
  same_either false true x y e = absurd (cc)

  -- ---- each call

  module _ (own : AreOwn s.tables) (own' : AreOwn t.tables) (may : view.Rights) (can : Says s k may) where
    user_found : (u : List ℕ) (a b : Option User) → ((x : User) → a ≡ Some x → x.name ≡ u) → ((x : User) → b ≡ Some x → x.name ≡ u)
        → InBoth (SameUser k s t u) a b → in_trail s (found (is_some a) (body_of_user may s a)) ≡ in_trail t (found (is_some b) (body_of_user may t b))
    user_found u None None n n' both = refl
    user_found u (Some x) (Some y) n n' both = ap (λ j. gives (good 200 j)) (user_same k s t may can own own' u x y (n x refl) (n' y refl) both)
    user_found u None (Some y) n n' both = absurd both
    user_found u (Some x) None n n' both = absurd both

    group_found : (g : List ℕ) (a b : Option Group) → ((x : Group) → a ≡ Some x → x.name ≡ g) → ((x : Group) → b ≡ Some x → x.name ≡ g)
        → InBoth (SameGroup k s t g) a b → in_trail s (found (is_some a) (body_of_group may s a)) ≡ in_trail t (found (is_some b) (body_of_group may t b))
    group_found g None None n n' both = refl
    group_found g (Some x) (Some y) n n' both = ap (λ j. gives (good 200 j)) (group_same k s t may can own own' g x y (n x refl) (n' y refl) both)
    group_found g None (Some y) n n' both = absurd both
    group_found g (Some x) None n n' both = absurd both

    same_service : (v : List ℕ) → SameService k s t v → service_body may s v ≡ service_body may t v
    same_service v same = ap pairs (same_service_members k s t may can own own' v false same)

    user_known : (server : Option ServerKey) (u : List ℕ) (a b : Option User) → ((x : User) → a ≡ Some x → x.name ≡ u) → ((x : User) → b ≡ Some x → x.name ≡ u)
        → InBoth (SameUser k s t u) a b → identity_of_user may s k server a ≡ identity_of_user may t k server b
    user_known server u None None n n' both = refl
    user_known server u (Some x) (Some y) n n' both = identity_same k s t may can own own' u server x y (n x refl) (n' y refl) both
    user_known server u None (Some y) n n' both = absurd both
    user_known server u (Some x) None n n' both = absurd both

    same_identity : (server : Option ServerKey) (w : Owner) → k.owner ≡ w → identity may s k server w ≡ identity may t k server w
    same_identity server (Own.User u) is = user_known server u (get s.tables.users u) (get t.tables.users u) (own_users s.tables own u) (own_users t.tables own' u) (seen.users u (inl is))
    same_identity server (Own.Service v) is =
        let members = same_service_members k s t may can own own' v true (seen.services v (inl is)) in
        λ i. pairs (view.access_member may server ++ members i ++ view.scopes_member k.scopes)

    same_users : users_shown may s (values s.tables.users) ≡ users_shown may t (values t.tables.users)
    same_users = same_list (λ (x : User). x.name) (λ u. may A.ListUsers (Ob.User u)) (user_body may s) (user_body may t) (SameUser k s t)
        s.tables.users t.tables.users (own_users s.tables own) (own_users t.tables own') (user_same k s t may can own own') (λ u m. seen.users u (inr (inl (can A.ListUsers (Ob.User u) m))))

    same_groups : groups_shown may s (values s.tables.groups) ≡ groups_shown may t (values t.tables.groups)
    same_groups = same_list (λ (x : Group). x.name) (λ g. may A.ListGroups (Ob.Group g)) (group_body may s) (group_body may t) (SameGroup k s t)
        s.tables.groups t.tables.groups (own_groups s.tables own) (own_groups t.tables own') (group_same k s t may can own own') (λ g m. seen.groups g (inl (can A.ListGroups (Ob.Group g) m)))

    same_services : services_shown may s (values s.tables.services) ≡ services_shown may t (values t.tables.services)
    same_services = same_list (λ (x : Service). x.name) (λ v. may A.ListServices (Ob.Service v)) (λ x. service_body may s x.name) (λ x. service_body may t x.name)
        (λ v x y. SameService k s t v) s.tables.services t.tables.services (own_services s.tables own) (own_services t.tables own')
        (λ v x y n n' same. ap (service_body may s) n ∙ same_service v same ∙ ap (service_body may t) (sym n'))
        (λ v m. let same = seen.services v (inr (inl (can A.ListServices (Ob.Service v) m))) in
        in_both (SameService k s t v) (get s.tables.services v) (get t.tables.services v) same.there same)

    same_all_roles : may A.AdminRoles Ob.Hub ≡ true → s.tables.roles ≡ t.tables.roles
    same_all_roles m = same_map nat_list_cmp_total names_exact s.tables.roles t.tables.roles (seen.roles (can A.AdminRoles Ob.Hub m))

  -- the reply to a call with the good token, by one judgement
  abbrev replies : ℕ → Option (List ℕ) → Hub → Judgement → Call → Answer
  replies now draw h j call = in_trail h (by_call h j now draw (Some k) call)

  module _ (own : AreOwn s.tables) (own' : AreOwn t.tables) (now : ℕ) (draw draw' : Option (List ℕ)) (j : Judgement) where
    abbrev Same : Call → Type 0
    Same call = Says s k j.may → replies now draw s j call ≡ replies now draw' t j call

    info : Same GetInfo
    info can = on_object j.is_held (j.may A.ReadHub Ob.Hub) (Needs A.ReadHub) (get_info s) (get_info t) (λ m.
        let leases = seen.leases (can A.ReadHub Ob.Hub m) in
        let pool = seen.pool (can A.ReadHub Ob.Hub m) in
        λ i. gives (good 200 (pairs ((codes "leases", whole (leases i)) ∷ (codes "pool", whole (pool i)) ∷ (codes "version", line (codes "5.0.0")) ∷ []))))

    one_user : (user : List ℕ) → Same (GetUser user)
    one_user u can = on_object j.is_held (j.may A.ReadUsersName (Ob.User u)) (Needs A.ReadUsersName) _ _ (λ m.
        user_found own own' j.may can u (get s.tables.users u) (get t.tables.users u) (own_users s.tables own u) (own_users t.tables own' u) (seen.users u (inr (inr (can A.ReadUsersName (Ob.User u) m)))))

    one_group : (group : List ℕ) → Same (GetGroup group)
    one_group g can = on_object j.is_held (j.may A.ReadGroupsName (Ob.Group g)) (Needs A.ReadGroupsName) _ _ (λ m.
        group_found own own' j.may can g (get s.tables.groups g) (get t.tables.groups g) (own_groups s.tables own g) (own_groups t.tables own' g) (seen.groups g (inr (can A.ReadGroupsName (Ob.Group g) m))))

    one_service : (service : List ℕ) → Same (GetService service)
    one_service v can = on_object j.is_held (j.may A.ReadServicesName (Ob.Service v)) (Needs A.ReadServicesName) _ _ (λ m.
        let same = seen.services v (inr (inr (can A.ReadServicesName (Ob.Service v) m))) in
        same_found (contains_key s.tables.services v) (contains_key t.tables.services v) _ _ same.there (λ there. same_service own own' j.may can v same))

    one_role : (role : List ℕ) → Same (GetRole role)
    one_role r can = on_object j.is_held (j.may A.AdminRoles Ob.Hub) (Needs A.AdminRoles) _ _ (λ m.
        let same = same_all_roles own own' j.may can m in
        same_found (contains_key s.tables.roles r) (contains_key t.tables.roles r) _ _ (ap (λ roles. contains_key roles r) same)
        (λ there. ap (λ roles. body_of_role (get roles r)) same))

    all_tokens : (user : List ℕ) → Same (GetTokens user)
    all_tokens u can = on_object j.is_held (j.may A.ReadTokens (Ob.User u)) (Needs A.ReadTokens) _ _ (λ m.
        let same = seen.tokens u (can A.ReadTokens (Ob.User u) m) in
        same_found (contains_key s.tables.users u) (contains_key t.tables.users u) _ _ same.there
        (λ there. ap (λ (bodies : List Json). pairs ((codes "api_tokens", items bodies) ∷ [])) (same_tokens s t own own' u same.each)))

    one_token : (user : List ℕ) (id : ℕ) → Same (GetToken user id)
    one_token u id can = on_object j.is_held (j.may A.ReadTokens (Ob.User u)) (Needs A.ReadTokens) _ _ (λ m.
        let same = seen.tokens u (can A.ReadTokens (Ob.User u) m) in
        same_either (has_token s.tables u id) (has_token t.tables u id) (token_at s id) (token_at t id) (same_token s t own own' u id (same.each id)))

    shares_found : (whose : SharesOf) (page : Page) → SameShares s t whose
        → in_trail s (found (has_sharer s.tables whose) (paged_list (shares_path whose) page (map (share_at s) (shares_of s.tables whose))))
        ≡ in_trail t (found (has_sharer t.tables whose) (paged_list (shares_path whose) page (map (share_at t) (shares_of t.tables whose))))
    shares_found whose page same = same_found (has_sharer s.tables whose) (has_sharer t.tables whose) _ _ same.there
        (λ there. ap (λ shown. paged_list (shares_path whose) page shown) (same_shares whose s t own own' same.each))

    all_shares : (whose : SharesOf) (page : Page) → Same (GetShares whose page)
    all_shares (Shares.Recipient u) page can = on_object j.is_held (j.may A.ReadUsersShares (Ob.User u)) (Needs A.ReadUsersShares) _ _
        (λ m. shares_found (Shares.Recipient u) page (seen.shares (Shares.Recipient u) (can A.ReadUsersShares (Ob.User u) m)))
    all_shares (Shares.Owner u) page can = on_object j.is_held (j.may A.ReadShares (Ob.User u)) (Needs A.ReadShares) _ _
        (λ m. shares_found (Shares.Owner u) page (seen.shares (Shares.Owner u) (can A.ReadShares (Ob.User u) m)))
    all_shares (Shares.Server q) page can = on_object j.is_held (j.may A.ReadShares (Ob.Server q)) (Needs A.ReadShares) _ _
        (λ m. shares_found (Shares.Server q) page (seen.shares (Shares.Server q) (can A.ReadShares (Ob.Server q) m)))

    codes_found : (whose : CodesOf) (page : Page) → SameCodes s t whose
        → in_trail s (found (has_offerer s.tables whose) (paged_list (codes_path whose) page (map (code_at s) (codes_of s.tables whose))))
        ≡ in_trail t (found (has_offerer t.tables whose) (paged_list (codes_path whose) page (map (code_at t) (codes_of t.tables whose))))
    codes_found whose page same = same_found (has_offerer s.tables whose) (has_offerer t.tables whose) _ _ same.there
        (λ there. ap (λ shown. paged_list (codes_path whose) page shown) (same_codes whose s t own own' same.each))

    all_codes : (whose : CodesOf) (page : Page) → Same (GetCodes whose page)
    all_codes (Codes.Owner u) page can = on_object j.is_held (j.may A.ReadShares (Ob.User u)) (Needs A.ReadShares) _ _
        (λ m. codes_found (Codes.Owner u) page (seen.codes (Codes.Owner u) (can A.ReadShares (Ob.User u) m)))
    all_codes (Codes.Server q) page can = on_object j.is_held (j.may A.ReadShares (Ob.Server q)) (Needs A.ReadShares) _ _
        (λ m. codes_found (Codes.Server q) page (seen.codes (Codes.Server q) (can A.ReadShares (Ob.Server q) m)))

    all_users : (page : Page) → Same (GetUsers page)
    all_users page can = where_held j.is_held (Needs A.ListUsers) _ _
        (ap (λ shown. gives (good 200 (paged_list (codes "/users") page shown))) (same_users own own' j.may can))

    all_groups : (page : Page) → Same (GetGroups page)
    all_groups page can = where_held j.is_held (Needs A.ListGroups) _ _
        (ap (λ shown. gives (good 200 (paged_list (codes "/groups") page shown))) (same_groups own own' j.may can))

    all_services : (page : Page) → Same (GetServices page)
    all_services page can = where_held j.is_held (Needs A.ListServices) _ _
        (ap (λ shown. gives (good 200 (paged_list (codes "/services") page shown))) (same_services own own' j.may can))

    all_roles : (page : Page) → Same (GetRoles page)
    all_roles page can = on_object j.is_held (j.may A.AdminRoles Ob.Hub) (Needs A.AdminRoles) _ _ (λ m.
        ap (λ (roles : FinMap name_cmp Role). gives (good 200 (paged_list (codes "/roles") page (map role_body (values roles)))))
        (same_all_roles own own' j.may can m))

    who : (server : Option ServerKey) → Same (GetIdentity server)
    who server can = ap (λ body. gives (good 200 body)) (same_identity own own' j.may can server k.owner refl)

  -- ---- by the rights in each state

  -- the judgement of the token, where the call needs one
  abbrev decides : Call → Option Token
  decides call = cond (needs_token call) (Some k) None

  module _ (own : AreOwn s.tables) (own' : AreOwn t.tables) (now : ℕ) (draw draw' : Option (List ℕ)) (j j' : Judgement) where
    on_one : (call : Call) → j ≡ j' → Says s k j.may → Same own own' now draw draw' j call → replies now draw s j call ≡ replies now draw' t j' call
    on_one call one can same = same can ∙ ap (λ x. replies now draw' t x call) one

    by_get : (call : Call) → IsTrue (is_get call) → JudgesCaller s.tables call j (decides call) → JudgesCaller t.tables call j' (decides call)
        → replies now draw s j call ≡ replies now draw' t j' call
    by_get GetVersion get a b = refl
    by_get GetInfo get a b = on_one GetInfo (same_judgement GetInfo A.ReadHub j j' a b a.held b.held a.inside b.inside) (says GetInfo j a) (info own own' now draw draw' j)
    by_get (GetIdentity server) get a b =
        who own own' now draw draw' j server (says (GetIdentity server) j a) ∙ ap (λ (may : view.Rights). gives (good 200 (identity may t k server k.owner))) (same_rights (GetIdentity server) j j' a b)
    by_get (GetUsers page) get a b = on_one (GetUsers page) (same_judgement (GetUsers page) A.ListUsers j j' a b a.held b.held a.inside b.inside) (says (GetUsers page) j a) (all_users own own' now draw draw' j page)
    by_get (GetUser user) get a b = on_one (GetUser user) (same_judgement (GetUser user) A.ReadUsersName j j' a b a.held b.held a.inside b.inside) (says (GetUser user) j a) (one_user own own' now draw draw' j user)
    by_get (GetTokens user) get a b = on_one (GetTokens user) (same_judgement (GetTokens user) A.ReadTokens j j' a b a.held b.held a.inside b.inside) (says (GetTokens user) j a) (all_tokens own own' now draw draw' j user)
    by_get (GetToken user id) get a b = on_one (GetToken user id) (same_judgement (GetToken user id) A.ReadTokens j j' a b a.held b.held a.inside b.inside) (says (GetToken user id) j a) (one_token own own' now draw draw' j user id)
    by_get (GetShares (Shares.Recipient user) page) get a b = on_one (GetShares (Shares.Recipient user) page) (same_judgement (GetShares (Shares.Recipient user) page) A.ReadUsersShares j j' a b a.held b.held a.inside b.inside) (says (GetShares (Shares.Recipient user) page) j a) (all_shares own own' now draw draw' j (Shares.Recipient user) page)
    by_get (GetShares (Shares.Owner user) page) get a b = on_one (GetShares (Shares.Owner user) page) (same_judgement (GetShares (Shares.Owner user) page) A.ReadShares j j' a b a.held b.held a.inside b.inside) (says (GetShares (Shares.Owner user) page) j a) (all_shares own own' now draw draw' j (Shares.Owner user) page)
    by_get (GetShares (Shares.Server server) page) get a b = on_one (GetShares (Shares.Server server) page) (same_judgement (GetShares (Shares.Server server) page) A.ReadShares j j' a b a.held b.held a.inside b.inside) (says (GetShares (Shares.Server server) page) j a) (all_shares own own' now draw draw' j (Shares.Server server) page)
    by_get (GetCodes (Codes.Owner user) page) get a b = on_one (GetCodes (Codes.Owner user) page) (same_judgement (GetCodes (Codes.Owner user) page) A.ReadShares j j' a b a.held b.held a.inside b.inside) (says (GetCodes (Codes.Owner user) page) j a) (all_codes own own' now draw draw' j (Codes.Owner user) page)
    by_get (GetCodes (Codes.Server server) page) get a b = on_one (GetCodes (Codes.Server server) page) (same_judgement (GetCodes (Codes.Server server) page) A.ReadShares j j' a b a.held b.held a.inside b.inside) (says (GetCodes (Codes.Server server) page) j a) (all_codes own own' now draw draw' j (Codes.Server server) page)
    by_get (GetGroups page) get a b = on_one (GetGroups page) (same_judgement (GetGroups page) A.ListGroups j j' a b a.held b.held a.inside b.inside) (says (GetGroups page) j a) (all_groups own own' now draw draw' j page)
    by_get (GetGroup group) get a b = on_one (GetGroup group) (same_judgement (GetGroup group) A.ReadGroupsName j j' a b a.held b.held a.inside b.inside) (says (GetGroup group) j a) (one_group own own' now draw draw' j group)
    by_get (GetServices page) get a b = on_one (GetServices page) (same_judgement (GetServices page) A.ListServices j j' a b a.held b.held a.inside b.inside) (says (GetServices page) j a) (all_services own own' now draw draw' j page)
    by_get (GetService service) get a b = on_one (GetService service) (same_judgement (GetService service) A.ReadServicesName j j' a b a.held b.held a.inside b.inside) (says (GetService service) j a) (one_service own own' now draw draw' j service)
    by_get (GetRoles page) get a b = on_one (GetRoles page) (same_judgement (GetRoles page) A.AdminRoles j j' a b a.held b.held a.inside b.inside) (says (GetRoles page) j a) (all_roles own own' now draw draw' j page)
    by_get (GetRole role) get a b = on_one (GetRole role) (same_judgement (GetRole role) A.AdminRoles j j' a b a.held b.held a.inside b.inside) (says (GetRole role) j a) (one_role own own' now draw draw' j role)
    by_get _ get a b = absurd (cc)

-- ---- the frame

-- whose token a text is, by its row
by_row : (h : Hub) (now : ℕ) (asked : Asked) (k : Token) → token_of h.tables asked.token ≡ Some k → caller h now asked ≡ cond (is_over now k.expires_at) None (Some k)
by_row h now asked k e = of_text asked.token ∙ ap (if_good now) e
  where
    of_text : (text : Option (List ℕ)) → good_token h.tables now text ≡ if_good now (token_of h.tables text)
    of_text None = refl
    of_text (Some text) = refl

answers_by : (h : Hub) (now : ℕ) (draw : Option (List ℕ)) (j : Judgement) (asked : Asked) → is_past h.length asked.seen ≡ false
    → answer h now draw j asked ≡ in_trail h (by_call h j now draw (caller h now asked) asked.call)
answers_by h now draw j asked reached =
    ap (λ b. rules (if_so b (SeenPast (named asked.seen) h.length) ∷ []) (in_trail h (by_call h j now draw (caller h now asked) asked.call))) reached

-- who decides, with the frame's first tests out of the way
judged_by : (h : Hub) (now : ℕ) (j : Judgement) (asked : Asked) (c : Option Token) → is_past h.length asked.seen ≡ false → caller h now asked ≡ c
    → Judged h now asked j → JudgesCaller h.tables asked.call j (cond (needs_token asked.call) c None)
judged_by h now j asked c reached is judged =
    let by : Bool → Option Token → Type 0 = λ b x. JudgesCaller h.tables asked.call j (cond b None (cond (needs_token asked.call) x None)) in
    subst (by false) is (subst (λ b. by b (caller h now asked)) reached judged)

-- what a GET gets that needs no token
nobody : (s : Hub) (now : ℕ) (draw : Option (List ℕ)) (call : Call) → IsTrue (is_get call) → by_nobody s now draw call ≡ get_version
nobody s now draw (PostTrade ask) get = absurd (cc)
nobody s now draw _ get = refl

-- without a good token a GET gets the same in all states
without : (s t : Hub) (now : ℕ) (draw draw' : Option (List ℕ)) (j j' : Judgement) (call : Call) → IsTrue (is_get call) → in_trail s (by_call s j now draw None call) ≡ in_trail t (by_call t j' now draw' None call)
without s t now draw draw' j j' call get =
    ap (λ r. in_trail s (cond (needs_token call) (refuses NoValidToken) r)) (nobody s now draw call get)
    ∙ elim (needs_token call) as (λ b. in_trail s (cond b (refuses NoValidToken) get_version) ≡ in_trail t (cond b (refuses NoValidToken) get_version)) [ true ↦ refl | false ↦ refl ]
    ∙ sym (ap (λ r. in_trail t (cond (needs_token call) (refuses NoValidToken) r)) (nobody t now draw' call get))

by_caller : (s t : Hub) (now : ℕ) (draw draw' : Option (List ℕ)) (j j' : Judgement) (asked : Asked) (k : Token) (over : Bool) → SeesSame k s t → IsTrue (is_get asked.call) → Finds s asked k → Finds t asked k
    → caller s now asked ≡ cond over None (Some k) → caller t now asked ≡ cond over None (Some k) → Judged s now asked j → Judged t now asked j'
    → in_trail s (by_call s j now draw (cond over None (Some k)) asked.call) ≡ in_trail t (by_call t j' now draw' (cond over None (Some k)) asked.call)
by_caller s t now draw draw' j j' asked k true seen get a b from from' judged judged' = without s t now draw draw' j j' asked.call get
by_caller s t now draw draw' j j' asked k false seen get a b from from' judged judged' =
    by_get k s t seen a.own b.own now draw draw' j j' asked.call get (judged_by s now j asked (Some k) a.reached from judged) (judged_by t now j' asked (Some k) b.reached from' judged')

same_answer : (s t : Hub) (now : ℕ) (draw draw' : Option (List ℕ)) (j j' : Judgement) (asked : Asked) (k : Token) → SeesSame k s t → IsTrue (is_get asked.call) → Finds s asked k → Finds t asked k
    → Judged s now asked j → Judged t now asked j' → answer s now draw j asked ≡ answer t now draw' j' asked
same_answer s t now draw draw' j j' asked k seen get a b judged judged' =
    let from = by_row s now asked k a.token in
    let from' = by_row t now asked k b.token in
    answers_by s now draw j asked a.reached
    ∙ ap (λ c. in_trail s (by_call s j now draw c asked.call)) from
    ∙ by_caller s t now draw draw' j j' asked k (is_over now k.expires_at) seen get a b from from' judged judged'
    ∙ ap (λ c. in_trail t (by_call t j' now draw' c asked.call)) (sym from')
    ∙ sym (answers_by t now draw' j' asked b.reached)

same_apart : (n n' : ℕ) (r : Answer) → apart (outcome_of n r) ≡ apart (outcome_of n' r)
same_apart n n' (refuses x) = refl
same_apart n n' (refuses_with c x) = refl
same_apart n n' (gives g) = refl
same_apart n n' (changes c g) = refl
same_apart n n' (works c w) = refl

pub isolated : (s t : Hub) (now : ℕ) (draw draw' : Option (List ℕ)) (asked : Asked) (k : Token) (r r' : Answer) (n n' : ℕ)
    → IsTrue (is_get asked.call) → Finds s asked k → Finds t asked k → SeesSame k s t → Answers s now draw asked r → Answers t now draw' asked r'
    → apart (outcome_of n r) ≡ apart (outcome_of n' r')
isolated s t now draw draw' asked k r r' n n' get a b seen here there =
    same_apart n n' r
    ∙ ap (λ x. apart (outcome_of n' x)) (here.is ∙ same_answer s t now draw draw' here.judgement there.judgement asked k seen get a b here.judged there.judged ∙ sym there.is)
