-- How a connection goes on.
use Rattle.std.proofs.Common.{◌≡◌, ◌+◌, ◌<◌, ◌||◌, ◌==◌, ℕ, Bool, true, false, List, [], ◌∷◌, ◌++◌, Option, refl, sym, ap, ◌∙◌, subst, append_assoc, arith, eq-eqb}
use Rattle.std.specs.List.{flat_map}
use Rattle.std.proofs.lemmas.List.{append-nil, flat_map_more}
use Rattle.std.proofs.lemmas.List.Elements.{All-nil, All-push}
use Rattle.hub_devices.specs.Streams.{Appends}
use Rattle.hub_devices.proofs.StreamLemmas.{Takes_none, Takes_then, Appends_none, Appends_then}
use Rattle.http_wire.specs.Took.{Took}
use Rattle.hub_core.specs.declared.start.Start.{Start}
use Rattle.hub_run.specs.Turns.{Turn, visited, worked, declined, undrawn, refused, unsaid, unfinished, wanting, routed, unrouted, TurnAt, closes, turn_text, request_bytes}
use Rattle.hub_run.specs.Connections.{Ran, IsOpenTurn}

abbrev pub open_text : Turn → List ℕ
open_text t = turn_text t false

-- at the start
pub Ran_start : (start : Start) (left held : Option (List ℕ)) → Ran start left held left held [] [] []
Ran_start start left held = record {
  each = All-nil (IsOpenTurn start);
  took = record { taken = []; takes = Takes_none left; whole = refl };
  wrote = Appends_none held;
}

-- at the start, with an empty buffer
pub Ran_empty : (start : Start) (left held : Option (List ℕ)) (kept : List ℕ) → kept ≡ [] → Ran start left held left held [] kept []
Ran_empty start left held kept none =
    subst (λ (bytes : List ℕ). Ran start left held left held [] bytes []) (sym none) (Ran_start start left held)

-- more bytes came
pub Ran_took : (start : Start) (left held left' held' left'' : Option (List ℕ)) (turns : List Turn) (kept all tail : List ℕ)
    → Ran start left held left' held' turns kept tail → Took left' kept left'' all → Ran start left held left'' held' turns all tail
Ran_took start left held left' held' left'' turns kept all tail ran took = record {
  each = ran.each;
  took = record {
    taken = ran.took.taken ++ took.taken;
    takes = Takes_then left left' left'' ran.took.taken took.taken ran.took.takes took.takes;
    whole =
        ap (λ front. front ++ took.taken) ran.took.whole
        ∙ (append_assoc (flat_map request_bytes turns) kept took.taken
        ∙ ap (λ rest. flat_map request_bytes turns ++ rest) took.whole);
  };
  wrote = ran.wrote;
}

-- a text was written
pub Ran_wrote : (start : Start) (left held left' held' held'' : Option (List ℕ)) (turns : List Turn) (ahead text : List ℕ)
    → Ran start left held left' held' turns ahead [] → Appends held' text held'' → Ran start left held left' held'' turns ahead text
Ran_wrote start left held left' held' held'' turns ahead text ran wrote = record {
  each = ran.each;
  took = ran.took;
  wrote =
      subst (λ (front : List ℕ). Appends held front held'') (ap (λ front. front ++ text) (append-nil (flat_map open_text turns)))
      (Appends_then held held' held'' (flat_map open_text turns ++ []) text ran.wrote wrote);
}

-- the text was the reply to a request that leaves the connection open
pub Ran_next : (start : Start) (left held left' held' : Option (List ℕ)) (turns : List Turn) (ahead rest : List ℕ) (t : Turn)
    → Ran start left held left' held' turns ahead (turn_text t false) → IsOpenTurn start t → ahead ≡ request_bytes t ++ rest
    → Ran start left held left' held' (turns ++ t ∷ []) rest []
Ran_next start left held left' held' turns ahead rest t ran stays is = record {
  each = All-push (IsOpenTurn start) turns t ran.each stays;
  took = record {
    taken = ran.took.taken;
    takes = ran.took.takes;
    whole =
        ran.took.whole
        ∙ (ap (λ front. flat_map request_bytes turns ++ front) is
        ∙ (sym (append_assoc (flat_map request_bytes turns) (request_bytes t) rest)
        ∙ ap (λ front. front ++ rest) (flat_map_more request_bytes [] turns t)));
  };
  wrote =
      subst (λ (text : List ℕ). Appends held text held')
      (flat_map_more open_text [] turns t ∙ sym (append-nil (flat_map open_text (turns ++ t ∷ []))))
      ran.wrote;
}

not_first : (a b : Bool) → (a || b) ≡ false → a ≡ false
not_first true b e = e
not_first false b e = refl

-- a turn after which the connection stays open is a request with its reply
pub Ran_turn : (start : Start) (left held left' held' : Option (List ℕ)) (turns : List Turn) (ahead rest : List ℕ) (t : Turn) (close last : Bool)
    → Ran start left held left' held' turns ahead (turn_text t close) → TurnAt start left' ahead t rest
    → close ≡ (closes t || last) → close ≡ false → Ran start left held left' held' (turns ++ t ∷ []) rest []
Ran_turn start left held left' held' turns ahead rest (visited text q v r) close last ran at is goes =
    let t : Turn = visited text q v r in
    Ran_next start left held left' held' turns ahead rest t
    (subst (λ (c : Bool). Ran start left held left' held' turns ahead (turn_text t c)) goes ran)
    (at.0, not_first (closes t) last (sym is ∙ goes)) at.1
Ran_turn start left held left' held' turns ahead rest (worked text q v e r) close last ran at is goes =
    let t : Turn = worked text q v e r in
    Ran_next start left held left' held' turns ahead rest t
    (subst (λ (c : Bool). Ran start left held left' held' turns ahead (turn_text t c)) goes ran)
    (at.0, not_first (closes t) last (sym is ∙ goes)) at.1
Ran_turn start left held left' held' turns ahead rest (routed text q v a r) close last ran at is goes =
    let t : Turn = routed text q v a r in
    Ran_next start left held left' held' turns ahead rest t
    (subst (λ (c : Bool). Ran start left held left' held' turns ahead (turn_text t c)) goes ran)
    (at.0, not_first (closes t) last (sym is ∙ goes)) at.1
Ran_turn start left held left' held' turns ahead rest (declined text q e) close last ran at is goes =
    let t : Turn = declined text q e in
    Ran_next start left held left' held' turns ahead rest t
    (subst (λ (c : Bool). Ran start left held left' held' turns ahead (turn_text t c)) goes ran)
    (at.0, not_first (closes t) last (sym is ∙ goes)) at.1
Ran_turn start left held left' held' turns ahead rest (undrawn text q) close last ran at is goes =
    let t : Turn = undrawn text q in
    Ran_next start left held left' held' turns ahead rest t
    (subst (λ (c : Bool). Ran start left held left' held' turns ahead (turn_text t c)) goes ran)
    (at.0, not_first (closes t) last (sym is ∙ goes)) at.1
Ran_turn start left held left' held' turns ahead rest (refused e) close last ran at is goes = absurd (cc)
Ran_turn start left held left' held' turns ahead rest (unsaid text q v) close last ran at is goes = absurd (cc)
Ran_turn start left held left' held' turns ahead rest (unfinished text q v e) close last ran at is goes = absurd (cc)
Ran_turn start left held left' held' turns ahead rest (unrouted text q v a) close last ran at is goes = absurd (cc)
Ran_turn start left held left' held' turns ahead rest wanting close last ran at is goes = absurd (cc)

-- what came and what was written in one turn, or a part of it
pub Ran_reply : {start : Start} {left held left1 held1 left2 held2 : Option (List ℕ)} {turns : List Turn} {kept : List ℕ} → (bytes text : List ℕ)
    → Ran start left held left1 held1 turns kept [] → Took left1 kept left2 bytes → Appends held1 text held2
    → Ran start left held left2 held2 turns bytes text
Ran_reply {start} {left} {held} {left1} {held1} {left2} {held2} {turns} {kept} bytes text ran took wrote =
    Ran_wrote start left held left2 held1 held2 turns bytes text (Ran_took start left held left1 held1 left2 turns kept bytes [] ran took) wrote

-- bytes came, and nothing was written
pub Ran_stop : {start : Start} {left held left1 held1 left2 held2 : Option (List ℕ)} {turns : List Turn} {kept : List ℕ} → (bytes : List ℕ)
    → Ran start left held left1 held1 turns kept [] → Took left1 kept left2 bytes → held2 ≡ held1
    → Ran start left held left2 held2 turns bytes []
Ran_stop {start} {left} {held} {left1} {held1} {left2} {held2} {turns} {kept} bytes ran took same =
    subst (λ (h : Option (List ℕ)). Ran start left held left2 h turns bytes []) (sym same)
    (Ran_took start left held left1 held1 left2 turns kept bytes [] ran took)

-- nothing is ahead
pub Ran_ended : {start : Start} {left held left1 held1 : Option (List ℕ)} {turns : List Turn} {bytes : List ℕ}
    → Ran start left held left1 held1 turns bytes [] → bytes ≡ [] → Ran start left held left1 held1 turns [] []
Ran_ended {start} {left} {held} {left1} {held1} {turns} {bytes} ran none =
    subst (λ (b : List ℕ). Ran start left held left1 held1 turns b []) none ran

-- the turn after which the connection is closed
pub Ran_last : {start : Start} {left held left1 held1 : Option (List ℕ)} {turns : List Turn} {bytes : List ℕ} → (t : Turn) (close : Bool)
    → Ran start left held left1 held1 turns bytes (turn_text t close) → close ≡ true → Ran start left held left1 held1 turns bytes (turn_text t true)
Ran_last {start} {left} {held} {left1} {held1} {turns} {bytes} t close ran is =
    subst (λ (c : Bool). Ran start left held left1 held1 turns bytes (turn_text t c)) is ran

-- where the connection stays open, the limit isn't reached
pub below_limit : (close : Bool) (n : ℕ) → n < 1000 → ((n + 1 == 1000) ≡ true → close ≡ true) → close ≡ false → n + 1 < 1000
below_limit close n below last stays =
    let other : n + 1 ≡ 1000 → ⊥ = λ e. no_both close (last (eq-eqb (n + 1) 1000 e)) stays in
    omega (arith, other, below)
  where
    no_both : (c : Bool) → c ≡ true → c ≡ false → ⊥
    no_both c e f = cc
