-- What was asked by a link, by what is seen of its hub.
use Rattle.std.proofs.Common.{◌≡◌, ◌≤◌, ℕ, Bool, true, false, List, [], ◌∷◌, ◌++◌, length, Option, Some, Result, Ok, IfOk, sym, ap, ◌∙◌, subst}
use Rattle.std.proofs.lemmas.List.{append-nil}
use Rattle.std.proofs.lemmas.Result.{IfOk-weaker}
use Rattle.httparse.specs.Grammar.{RequestHead, print_request}
use Rattle.http_wire.specs.Head.{head_of}
use Rattle.http_wire.specs.Token.{token_of}
use Rattle.http_wire.specs.Wire.{IsServedHead}
use Rattle.http_wire.specs.declared.error.SessionFault.{SessionFault}
use Rattle.http_wire.specs.declared.head.Head.{Head}
use Rattle.hub_core.specs.declared.start.Start.{Start}
use Rattle.hub_devices.specs.declared.link_error.LinkError.{LinkError}
use Rattle.hub_kit.specs.declared.names.ServerKey.{ServerKey}
use Rattle.hub_link.specs.Links.{Exchange, Asks, Chain}
use Rattle.hub_link.specs.Replies.{IsReply}
use Rattle.hub_run.specs.Turns.{View}
use Rattle.proxy_core.specs.declared.refusals.Forwarded.{Forwarded}
use Rattle.proxy_core.specs.Passes.{Place}
use Rattle.guard.specs.Guards.{GuardEnds}
use Rattle.direct_link.specs.Decided.{Decided, Around, IsLetIn, IsKeptOut}
use Rattle.direct_link.specs.Direct.{Direct}
use Rattle.direct_link.specs.Verdicts.{Admits, HoldsAt}
use Rattle.direct_link.proofs.Chains.{chain_seen, chain_keeps}
use Rattle.access_laws.specs.Asks.{IsWord, OnlyReads, get_of}
use Rattle.access_laws.proofs.Reading.{gets_read}
use Rattle.hub_kit.specs.Names.{IsName, IsServerName}
use Rattle.load_asks.specs.Numbers.{name}
use Rattle.load_asks.specs.Posts.{Reached}
use Rattle.load_asks.specs.Requests.{get_request, guarded_request}
use Rattle.hub_loading.proofs.HeadLemmas.{head_for, printed, served, token_there}
use Rattle.hub_loading.proofs.GetLemmas.{user_target, same_text, target_is}
use Rattle.hub_loading.proofs.QuietLemmas.{quiet_guard}
use Rattle.hub_loading.proofs.SeenLemmas.{finds_by}
use Rattle.hub_loading.specs.Rounds.{Found, Finds, Guarded, found_status, guard_end}

-- ---- the other user

module _ {L : Type 0} (asked : L → Option (List (List ℕ × Option (List ℕ)))) (does : L → List ℕ → Result (List ℕ) LinkError → L → Type 0) where
  found_as : (old new : L) (said token : List ℕ) (user status : ℕ) (found : Bool) → said ≡ get_request token user
      → (bytes body : List ℕ) × Asks asked does old ((said, Ok bytes) ∷ []) new × IsReply bytes status body
      → status ≡ found_status found → Finds asked does old token user found new
  found_as old new said token user status found is (bytes, body, chain, reply) same = record {
    bytes = bytes;
    body = body;
    chain = subst (λ (r : List ℕ). Asks asked does old ((r, Ok bytes) ∷ []) new) is chain;
    reply = subst (λ (s : ℕ). IsReply bytes s body) same reply;
  }

  pub finds : {E : Type 0} (r : Result Bool E) (old new : L) (said token : List ℕ) (user status : ℕ) → said ≡ get_request token user
      → (bytes body : List ℕ) × Asks asked does old ((said, Ok bytes) ∷ []) new × IsReply bytes status body
      → IfOk r (λ found. status ≡ found_status found) → IfOk r (λ found. Finds asked does old token user found new)
  finds r old new said token user status is asks known =
      IfOk-weaker r (λ found. status ≡ found_status found) (λ found. Finds asked does old token user found new)
      (λ found same. found_as old new said token user status found is asks same) known

-- ---- what each ask keeps

pub reached_keeps : {L N : Type 0} (asked : L → Option (List (List ℕ × Option (List ℕ)))) (does : L → List ℕ → Result (List ℕ) LinkError → L → Type 0) (name : L → N)
    → ((a b : L) (request : List ℕ) (given : Result (List ℕ) LinkError) → does a request given b → name b ≡ name a)
    → (old new : L) → Reached asked does old new → name new ≡ name old
reached_keeps asked does name each old new (asks, done) = chain_keeps old new asks name does each done.meets

-- ---- one ask alone

one_direct : (x y : View) (request : List ℕ) (given : Result (List ℕ) LinkError) → Chain Direct x ((request, given) ∷ []) y → Direct x request given y
one_direct x y request given (z, direct, same) = subst (λ (v : View). Direct x request given v) (sym same) direct

pub found_by_view : (x y : View) (said token bytes body : List ℕ) (user : ℕ) (found : Bool) → said ≡ token → IsWord token → IsName (name user)
    → Chain Direct x ((get_request said user, Ok bytes) ∷ []) y → IsReply bytes (found_status found) body → Found x token user found y
found_by_view x y said token bytes body user found is word named chain reply =
    let direct : Direct x (get_request token user) (Ok bytes) y =
    one_direct x y (get_request token user) (Ok bytes) (subst (λ (t : List ℕ). Chain Direct x ((get_request t user, Ok bytes) ∷ []) y) is chain) in
    let target : List ℕ = user_target (name user) in
    let only : OnlyReads (get_request token user) (get_of target token) =
    subst (λ (t : List ℕ). OnlyReads t (get_of target token)) (same_text token user) (gets_read target token (target_is (name user) named) word) in
    record {
      bytes = bytes;
      body = body;
      direct = direct;
      reply = reply;
      verdict = λ start base. (finds_by start x y token (name user) (get_request token user) bytes body found base named only direct reply).0;
      unnoted = λ start base. (finds_by start x y token (name user) (get_request token user) bytes body found base named only direct reply).1;
    }

pub found_seen : {L : Type 0} (asked : L → Option (List (List ℕ × Option (List ℕ)))) (does : L → List ℕ → Result (List ℕ) LinkError → L → Type 0) (view : L → View)
    → ((a b : L) (request : List ℕ) (given : Result (List ℕ) LinkError) → does a request given b → Direct (view a) request given (view b))
    → (old new : L) (said token : List ℕ) (user : ℕ) (found : Bool) → Finds asked does old said user found new → said ≡ token → IsWord token → IsName (name user)
    → Found (view old) token user found (view new)
found_seen asked does view each old new said token user found finds is word named =
    found_by_view (view old) (view new) said token finds.bytes finds.body user found is word named
    (chain_seen old new ((get_request said user, Ok finds.bytes) ∷ []) view Direct does each (finds.chain).meets) finds.reply

-- ---- the guard

abbrev around : Place → Around
around p = record { told = p.told; reads = p.reads; writes = p.writes }

verdict_of : (start : Start) (x y : View) (token : List ℕ) (key : ServerKey) (head : Head) (old new : Around) (ended : Result Forwarded SessionFault) (admitted : Bool)
    → token_of head.headers ≡ Some token → Decided start x y key head old new ended → ended ≡ guard_end admitted → HoldsAt start x y (Admits token key admitted)
verdict_of start x y token key head old new ended true has decided is =
    subst (λ (t : Option (List ℕ)). IsLetIn start x y key t) has (decided.passed is)
verdict_of start x y token key head old new ended false has decided is =
    subst (λ (t : Option (List ℕ)). IsKeptOut start x y key t) has (decided.refused is)

pub guarded : {E : Type 0} (r : Result Bool E) (x y : View) (token : List ℕ) (key : ServerKey) (target : List ℕ) (asks : List Exchange) (old new : Place)
    (ended : Result Forwarded SessionFault) → IsName key.user → IsServerName key.server → IsWord token → length token ≤ 1000 → old.left ≡ Some (guarded_request token) → old.kept ≡ [] → Chain Direct x asks y
    → GuardEnds key target asks 0 0 old new ended
    → ((start : Start) (head : RequestHead) (more : List ℕ) → x.pass.base ≡ Some start → IsServedHead head → old.left ≡ Some (print_request head ++ more)
    → Decided start x y key (head_of head) (around old) (around new) ended)
    → IfOk r (λ admitted. ended ≡ guard_end admitted) → IfOk r (λ admitted. Guarded x token key target admitted y)
guarded r x y token key target asks old new ended user server word short came kept chain ends decided known =
    IfOk-weaker r (λ admitted. ended ≡ guard_end admitted) (λ admitted. Guarded x token key target admitted y)
    (λ admitted is. record {
      asks = asks;
      old = old;
      new = new;
      came = came;
      kept = kept;
      chain = chain;
      ends = subst (λ (e : Result Forwarded SessionFault). GuardEnds key target asks 0 0 old new e) is ends;
      verdict = λ start base. verdict_of start x y token key (head_of head) (around old) (around new) ended admitted (token_there token word) (here start base) is;
      unnoted = λ start base alone.
          quiet_guard start x y base alone key user server target asks chain old new admitted
          (subst (λ (e : Result Forwarded SessionFault). GuardEnds key target asks 0 0 old new e) is ends);
    }) known
  where
    head : RequestHead
    head = head_for token

    stands : old.left ≡ Some (print_request head ++ [])
    stands = came ∙ ap (λ (bytes : List ℕ). Some bytes) (printed token ∙ sym (append-nil (print_request head)))

    here : (start : Start) → x.pass.base ≡ Some start → Decided start x y key (head_of head) (around old) (around new) ended
    here start base = decided start head [] base (served token word short) stands

pub guarded_as : (x y : View) (said token : List ℕ) (made key : ServerKey) (target : List ℕ) (admitted : Bool) → said ≡ token → made ≡ key
    → Guarded x said made target admitted y → Guarded x token key target admitted y
guarded_as x y said token made key target admitted is same done =
    subst (λ (k : ServerKey). Guarded x token k target admitted y) same (subst (λ (t : List ℕ). Guarded x t made target admitted y) is done)
