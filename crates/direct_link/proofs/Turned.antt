-- The one turn of an ask.
use Rattle.std.proofs.Common.{◌≡◌, ◌≢◌, ◌⊎◌, inl, inr, arith, ◌++◌, ℕ, Bool, true, false, List, [], ◌∷◌, Option, Some, Result, Ok, Err, append_assoc, append-nil, refl, sym, ap, ◌∙◌, subst}
use Rattle.std.specs.List.{flat_map}
use Rattle.std.proofs.lemmas.List.Elements.{recursion_from_All}
use Rattle.hub_devices.specs.Streams.{Appends}
use Rattle.http_wire.specs.Body.{RequestRefusedAt, WithinRequest}
use Rattle.http_wire.specs.Request.{IsRequestText}
use Rattle.http_wire.specs.Requests.{RequestNext}
use Rattle.http_wire.specs.Told.{IsOfBytes}
use Rattle.http_wire.specs.Took.{Took}
use Rattle.http_wire.specs.declared.error.WireError.{WireError}
use Rattle.http_wire.specs.declared.error.WireError.TheVariants as wire
use Rattle.http_wire.proofs.RequestLemmas.{request_next, next_request_once}
use Rattle.http_wire.specs.declared.error.SessionFault.{SessionFault}
use Rattle.http_wire.specs.declared.request.Request.{Request}
use Rattle.hub_api.specs.Refusals.{wire_refusal}
use Rattle.hub_core.specs.declared.start.Start.{Start}
use Rattle.hub_machine.specs.Replies.{Reply}
use Rattle.hub_run.specs.Complete.{IsOf}
use Rattle.hub_run.specs.Connections.{ConnectionEnds, Ran, StreamTold, IsOpenTurn, IsLast}
use Rattle.hub_run.specs.Turns.{Turn, View, Turns, TurnAt, IsRight, Moves, closes, turn_text, refusal_text, request_bytes, visited, worked, declined, undrawn, refused, unsaid, unfinished, wanting, routed, unrouted}
use Rattle.hub_run.specs.declared.served.Served.{Served}
use Rattle.hub_run.specs.declared.served.Served.TheVariants.{Ended, Cut, Closed}
use Rattle.reply_texts.specs.ReplyText.{no_memory}
use Rattle.access_laws.specs.Asks.{OnlyReads}
use Rattle.direct_link.specs.Answered.{IsTurnOf, IsUnread, IsRefused}
use Rattle.direct_link.specs.Direct.{asking, replied, Direct, Connects}

-- ---- what was taken and said

-- the bytes that were taken are in front of the request
front_of : (request bytes : List ℕ) (left : Option (List ℕ)) → Took (Some request) [] left bytes → (more : List ℕ) × (request ≡ bytes ++ more)
front_of request bytes left took =
    let (rest, is, after) = took.takes.leaves request refl in
    (rest, is ∙ ap (λ b. b ++ rest) took.whole)

said_so : (a b : List ℕ) → Some a ≡ Some b → a ≡ b
said_so a b e = cc

-- nothing was held before
said_of : (said text : List ℕ) → Appends (Some []) text (Some said) → said ≡ text
said_of said text wrote = said_so said text (wrote.adds [] refl)

-- ---- the request of a turn

-- a right turn whose bytes are in front is of the request
right_of : (start : Start) (q : Request) (request more : List ℕ) (t : Turn) → OnlyReads request q → request ≡ request_bytes t ++ more → IsRight start t → IsOf q t
right_of start q request more (visited text p v r) only is right = only p text more right.0 is
right_of start q request more (worked text p v e r) only is right = only p text more right.0 is
right_of start q request more (routed text p v a r) only is right = only p text more right.0 is
right_of start q request more (declined text p e) only is right = only p text more right.0 is
right_of start q request more (undrawn text p) only is right = only p text more right.0 is
right_of start q request more (refused e) only is right = absurd right
right_of start q request more (unsaid text p v) only is right = absurd right
right_of start q request more (unfinished text p v e) only is right = absurd right
right_of start q request more (unrouted text p v a) only is right = absurd right
right_of start q request more wanting only is right = absurd right

closes_as : (p q : Request) → p ≡ q → q.close ≡ true → p.close ≡ true
closes_as p q same close = ap (λ (r : Request). r.close) same ∙ close

right_closes : (start : Start) (q : Request) (t : Turn) → IsOf q t → IsRight start t → q.close ≡ true → closes t ≡ true
right_closes start q (visited text p v r) of right close = closes_as p q of close
right_closes start q (worked text p v e r) of right close = closes_as p q of close
right_closes start q (routed text p v a r) of right close = closes_as p q of close
right_closes start q (declined text p e) of right close = closes_as p q of close
right_closes start q (undrawn text p) of right close = closes_as p q of close
right_closes start q (refused e) of right close = absurd right
right_closes start q (unsaid text p v) of right close = absurd right
right_closes start q (unfinished text p v e) of right close = absurd right
right_closes start q (unrouted text p v a) of right close = absurd right
right_closes start q wanting of right close = absurd right

never_both : (b : Bool) → b ≡ true → b ≡ false → ⊥
never_both b one two = cc

-- after it no connection stays open
none_open : (start : Start) (q : Request) (request more : List ℕ) (t : Turn) → OnlyReads request q → q.close ≡ true → request ≡ request_bytes t ++ more → IsOpenTurn start t → ⊥
none_open start q request more t only close is opened =
    never_both (closes t) (right_closes start q t (right_of start q request more t only is opened.0) opened.0 close) opened.1

first_of : (request : List ℕ) (t : Turn) (ts : List Turn) (ahead more : List ℕ) → request ≡ (flat_map request_bytes (t ∷ ts) ++ ahead) ++ more
    → request ≡ request_bytes t ++ ((flat_map request_bytes ts ++ ahead) ++ more)
first_of request t ts ahead more is =
    is ∙ (ap (λ b. b ++ more) (append_assoc (request_bytes t) (flat_map request_bytes ts) ahead)
    ∙ append_assoc (request_bytes t) (flat_map request_bytes ts ++ ahead) more)

-- no turn came before the last
no_turn : (start : Start) (q : Request) (request : List ℕ) (left held left' held' : Option (List ℕ)) (turns : List Turn) (ahead tail : List ℕ)
    → OnlyReads request q → q.close ≡ true → left ≡ Some request → Ran start left held left' held' turns ahead tail → turns ≡ []
no_turn start q request left held left' held' [] ahead tail only close is ran = refl
no_turn start q request left held left' held' (t ∷ ts) ahead tail only close is ran =
    let took : Took (Some request) [] left' (flat_map request_bytes (t ∷ ts) ++ ahead) =
    subst (λ (l : Option (List ℕ)). Took l [] left' (flat_map request_bytes (t ∷ ts) ++ ahead)) is ran.took in
    let (more, front) = front_of request (flat_map request_bytes (t ∷ ts) ++ ahead) left' took in
    absurd (none_open start q request ((flat_map request_bytes ts ++ ahead) ++ more) t only close (first_of request t ts ahead more front)
    (recursion_from_All (IsOpenTurn start) (t ∷ ts) ran.each).0)

-- ---- what is refused is no text of a request

-- the request got its turn, or was no text of one
abbrev pub Comes : Start → View → View → Request → List ℕ → List ℕ → Type 0
Comes start x y q request bytes = IsTurnOf start x q bytes y ⊎ IsRefused request q bytes

of_bytes : (e : WireError) (r : Reply) → wire_refusal e ≡ Some r → IsOfBytes e
of_bytes wire.BadHead r is = tt
of_bytes (wire.TooLarge n) r is = tt
of_bytes wire.Coding r is = tt
of_bytes wire.Ended r is = tt
of_bytes wire.Cut r is = tt
of_bytes wire.ReadFault r is = cc is
of_bytes wire.Memory r is = cc is

never_both_next : (a b : Result Request WireError) (q : Request) (e : WireError) → a ≡ Ok q → b ≡ Err e → a ≡ b → ⊥
never_both_next a b q e one two same = cc

no_text : (q : Request) (request gone rest : List ℕ) (left : Option (List ℕ)) (e : WireError) → IsOfBytes e → WithinRequest gone
    → Took (Some request) [] left (gone ++ rest) → RequestRefusedAt left (gone ++ rest) e → IsRequestText q request → ⊥
no_text q request gone rest left e decided within took why text =
    let there : RequestNext request (Err e) =
    request_next request [] rest (Some request) left (Err e) tt (gone, within, took, why) refl decided in
    let here : RequestNext request (Ok q) = (request, [], text, sym (append-nil request)) in
    never_both_next (Ok q) (Err e) q e refl refl (next_request_once request (Ok q) (Err e) here there)

-- ---- the last turn

behind : (request ahead text rest more : List ℕ) → request ≡ ahead ++ more → ahead ≡ text ++ rest → request ≡ text ++ (rest ++ more)
behind request ahead text rest more is at = is ∙ (ap (λ b. b ++ more) at ∙ append_assoc text rest more)

last_turn : (start : Start) (x y z : View) (q : Request) (request bytes ahead rest more : List ℕ) (left : Option (List ℕ)) (t : Turn)
    → OnlyReads request q → request ≡ ahead ++ more → Took (Some request) [] left ahead → TurnAt start left ahead t rest → Moves x t z → y ≡ z → bytes ≡ turn_text t true → bytes ≢ no_memory
    → Comes start x y q request bytes
last_turn start x y z q request bytes ahead rest more left t only is took at moves same said kept = by t at moves said
  where
    turned : (t : Turn) → IsRight start t → ahead ≡ request_bytes t ++ rest → Moves x t z → bytes ≡ turn_text t true → Comes start x y q request bytes
    turned t right stands moves said = inl (record {
      turn = t;
      of = right_of start q request (rest ++ more) t only (behind request ahead (request_bytes t) rest more is stands) right;
      right = right;
      moves = subst (λ (v : View). Moves x t v) (sym same) moves;
      said = said;
    })

    by : (t : Turn) → TurnAt start left ahead t rest → Moves x t z → bytes ≡ turn_text t true → Comes start x y q request bytes
    by (visited text p v r) at moves said = turned (visited text p v r) at.0 at.1 moves said
    by (worked text p v e r) at moves said = turned (worked text p v e r) at.0 at.1 moves said
    by (routed text p v a r) at moves said = turned (routed text p v a r) at.0 at.1 moves said
    by (declined text p e) at moves said = turned (declined text p e) at.0 at.1 moves said
    by (undrawn text p) at moves said = turned (undrawn text p) at.0 at.1 moves said
    by (refused e) at moves said = inr (
      inr (e, at.0, at.2, said ∙ ap (λ o. refusal_text o true) at.2),
      λ text.
          no_text q request at.1 rest left e (of_bytes e at.0 at.2) at.3 (subst (λ (b : List ℕ). Took (Some request) [] left b) at.4 took)
          (subst (λ (b : List ℕ). RequestRefusedAt left b e) at.4 at.5) text,
    )
    by (unsaid text p v) at moves said = absurd (kept said)
    by (unfinished text p v e) at moves said = absurd (kept said)
    by (unrouted text p v a) at moves said = absurd (kept said)
    by wanting at moves said = absurd (kept said)

-- ---- the connection

module _ (start : Start) (x y : View) (q : Request) (request bytes : List ℕ) (only : OnlyReads request q) (close : q.close ≡ true) where
  -- without a turn nothing was written
  unturned : (left : Option (List ℕ)) (said : List ℕ) (turns : List Turn) (ahead : List ℕ) (e : WireError) → IsOfBytes e → RequestRefusedAt left ahead e
      → bytes ≡ said → Ran start (Some request) (Some []) left (Some said) turns ahead [] → Comes start x y q request bytes
  unturned left said turns ahead e decided why is ran =
      let none : turns ≡ [] = no_turn start q request (Some request) (Some []) left (Some said) turns ahead [] only close refl ran in
      let here : Ran start (Some request) (Some []) left (Some said) [] ahead [] =
      subst (λ (ts : List Turn). Ran start (Some request) (Some []) left (Some said) ts ahead []) none ran in
      inr (inl (is ∙ said_of said [] here.wrote), λ text. no_text q request [] ahead left e decided (inl refl) here.took why text)

  turned : (left : Option (List ℕ)) (said : List ℕ) (turns : List Turn) (last : Turn) (ahead rest : List ℕ) → bytes ≡ said → said ≢ no_memory
      → Ran start (Some request) (Some []) left (Some said) turns ahead (turn_text last true) → Turns x (turns ++ last ∷ []) y → IsLast start left ahead last rest
      → Comes start x y q request bytes
  turned left said turns last ahead rest is kept ran moved at =
      let none : turns ≡ [] = no_turn start q request (Some request) (Some []) left (Some said) turns ahead (turn_text last true) only close refl ran in
      let here : Ran start (Some request) (Some []) left (Some said) [] ahead (turn_text last true) =
      subst (λ (ts : List Turn). Ran start (Some request) (Some []) left (Some said) ts ahead (turn_text last true)) none ran in
      let one : Turns x (last ∷ []) y = subst (λ (ts : List Turn). Turns x (ts ++ last ∷ []) y) none moved in
      let (more, front) = front_of request ahead left here.took in
      last_turn start x y one.0 q request bytes ahead rest more left last only front here.took at.0 one.1 one.2
      (is ∙ said_of said (turn_text last true) here.wrote) (λ e. kept (sym is ∙ e))

  ended : (left : StreamTold) (said : List ℕ) (failed : ℕ) (served : Served) → bytes ≡ said → said ≢ no_memory
      → ConnectionEnds start (asking x request) (replied y left said failed) (Ok served) → Comes start x y q request bytes
  ended left said failed (Ended n) is kept (turns, after, ran, moved, end) = unturned left.bytes said turns [] wire.Ended tt (inl (omega arith, (refl, end))) is ran
  ended left said failed (Cut n) is kept (turns, part, after, ran, moved, why) = unturned left.bytes said turns part wire.Cut tt why is ran
  ended left said failed (Closed n) is kept (turns, last, ahead, rest, count, most, ran, moved, at, closed) =
      turned left.bytes said turns last ahead rest is kept ran moved at

  connected : Connects start x request (Ok bytes) y → Comes start x y q request bytes
  connected c =
      let (served, how, is, kept, short) = c.replies in
      ended c.left c.said c.failed served is kept
      (subst (λ (e : Result Served SessionFault). ConnectionEnds start (asking x request) (replied y c.left c.said c.failed) e) how c.ends)

pub turn_comes : (start : Start) (x y : View) (request bytes : List ℕ) (q : Request) → x.pass.base ≡ Some start → OnlyReads request q
    → q.close ≡ true → Direct x request (Ok bytes) y → Comes start x y q request bytes
turn_comes start x y request bytes q base only close direct = connected start x y q request bytes only close (direct.gives start base)

pub its_turn : (start : Start) (x y : View) (request bytes : List ℕ) (q : Request) → x.pass.base ≡ Some start → OnlyReads request q
    → q.close ≡ true → Direct x request (Ok bytes) y → IsTurnOf start x q bytes y ⊎ IsUnread bytes
its_turn start x y request bytes q base only close direct = by (turn_comes start x y request bytes q base only close direct)
  where
    by : Comes start x y q request bytes → IsTurnOf start x q bytes y ⊎ IsUnread bytes
    by (inl turn) = inl turn
    by (inr over) = inr over.0
