-- Some requests that were accepted, and then others.
use Rattle.std.proofs.Common.{◌≡◌, ℕ, suc, ◌+◌, arith, List, [], ◌∷◌, ◌++◌, map, Option, Result, Ok, OnOk, append_assoc, refl, ap, ◌∙◌, subst}
use Rattle.std.proofs.lemmas.List.{map-append}
use Rattle.std.proofs.lemmas.Result.{on_ok_weaker}
use Rattle.std.proofs.lemmas.List.Elements.{All-nil, All-cons, All-append}
use Rattle.hub_devices.specs.Calls.{Grows}
use Rattle.hub_devices.specs.declared.link_error.LinkError.{LinkError}
use Rattle.hub_link.specs.Links.{Asks, reply_of}
use Rattle.hub_link.specs.Replies.{IsReply}
use Rattle.hub_link.proofs.AskLemmas.{no_ask, one_ask, asks_then}
use Rattle.load_asks.specs.Posts.{Accepted, Reached, IsAccepted, request_of, posts}
use Rattle.load_asks.specs.Requests.{user_request, token_request}

module _ {L : Type 0} (asked : L → Option (List (List ℕ × Option (List ℕ)))) (does : L → List ℕ → Result (List ℕ) LinkError → L → Type 0) where
  pub reached_none : (link : L) → Reached asked does link link
  reached_none link = ([], no_ask asked does link)

  pub reached_ask : (old new : L) (request : List ℕ) (given : Result (List ℕ) LinkError) → does old request given new
      → Grows (asked old) ((request, reply_of given) ∷ []) (asked new) → Reached asked does old new
  reached_ask old new request given met told = ((request, given) ∷ [], one_ask asked does old new request request given refl met told)

  pub reached_then : (old between new : L) → Reached asked does old between → Reached asked does between new → Reached asked does old new
  reached_then old between new (xs, one) (ys, two) = (xs ++ ys, asks_then asked does old between new xs ys one two)

  pub none_accepted : (link : L) → Accepted asked does link [] link
  none_accepted link = record { asks = []; chain = no_ask asked does link; are = refl; accepted = All-nil IsAccepted }

  pub one_accepted : (old new : L) (request bytes body : List ℕ) (status : ℕ) → Asks asked does old ((request, Ok bytes) ∷ []) new → IsReply bytes status body
      → status ≡ 201 → Accepted asked does old (request ∷ []) new
  one_accepted old new request bytes body status chain reply is = record {
    asks = (request, Ok bytes) ∷ [];
    chain = chain;
    are = refl;
    accepted = All-cons IsAccepted (request, Ok bytes) [] (body, subst (λ (s : ℕ). IsReply bytes s body) is reply) (All-nil IsAccepted);
  }

  pub accepted_as : (old new : L) (said request : List ℕ) → said ≡ request → Accepted asked does old (said ∷ []) new → Accepted asked does old (request ∷ []) new
  accepted_as old new said request is done = subst (λ (r : List ℕ). Accepted asked does old (r ∷ []) new) is done

  pub accepted_then : (old between new : L) (xs ys : List (List ℕ)) → Accepted asked does old xs between → Accepted asked does between ys new → Accepted asked does old (xs ++ ys) new
  accepted_then old between new xs ys one two = record {
    asks = one.asks ++ two.asks;
    chain = asks_then asked does old between new one.asks two.asks one.chain two.chain;
    are = map-append request_of one.asks two.asks ∙ (ap (λ rs. rs ++ map request_of two.asks) one.are ∙ ap (λ rs. xs ++ rs) two.are);
    accepted = All-append IsAccepted one.asks two.asks one.accepted two.accepted;
  }

  pub next_accepted : (old between new : L) (k : ℕ) → Accepted asked does old (posts k) between
      → Accepted asked does between (user_request k ∷ token_request k ∷ []) new → Accepted asked does old (posts (k + 1)) new
  next_accepted old between new k one two =
      let next : suc k ≡ k + 1 = omega arith in
      subst (λ (n : ℕ). Accepted asked does old (posts n) new) next (accepted_then old between new (posts k) (user_request k ∷ token_request k ∷ []) one two)

-- three additions to a text in a row
pub three_on : {T E : Type 0} (r : Result T E) (old one two new a b c : List ℕ)
    → one ≡ old ++ a → two ≡ one ++ b → OnOk r (new ≡ two ++ c) → OnOk r (new ≡ old ++ ((a ++ b) ++ c))
three_on r old one two new a b c first second third =
    on_ok_weaker r (λ h. h ∙ (ap (λ (t : List ℕ). t ++ c) (second ∙ (ap (λ (t : List ℕ). t ++ b) first ∙ append_assoc old a b)) ∙ append_assoc old (a ++ b) c)) third
