-- The mailbox between a far store and the thread that has the store.
use Rattle.std.specs.Prelude.{◌≡◌, ◌⊎◌, ℕ, Bool, true, List, [], ◌∷◌, ◌++◌, Some, None}
use mathlib.Core.Option.{some}
use lib.ListN.{get_elem?}
use Rattle.store_thread.specs.declared.calls.Answer.{Answer}
use Rattle.store_thread.specs.declared.calls.Call.{Call}
use Rattle.store_thread.specs.declared.mailbox.Exchange.{Exchange}
use Rattle.store_thread.specs.declared.mailbox.Parcel.{Parcel}
use Rattle.store_thread.specs.declared.mailbox.Parcel.TheVariants.{Question, Reply}
use Rattle.store_thread.specs.declared.mailbox.Talk.{Talk}
use Rattle.store_thread.specs.declared.mailbox.View.{View}
use Rattle.store_thread.specs.Told.{known_of, IsFaithful}

-- Nothing was said yet
abbrev pub no_talk : Talk
no_talk = record { seen = []; asked = None }

-- both ends in one
abbrev pub first_view : View
first_view = record { asks = true; answers = true; talk = no_talk }

-- The call with its answer; `told` says whether the store tells its rows then
abbrev pub exchange : Call → Answer → Bool → Exchange
exchange call answer told = record { call = call; done = answer.done; rows = answer.rows; told = told }

-- A call was asked
abbrev pub with_call : Call → Talk → Talk
with_call call talk = record talk { asked = Some call }

-- The call was answered, after which the store tells its rows or doesn't
abbrev pub with_answer : Call → Answer → Bool → Talk → Talk
with_answer call answer told talk = record { seen = talk.seen ++ exchange call answer told ∷ []; asked = None }

-- The call was taken back, before anybody had heard it
abbrev pub without_call : Talk → Talk
without_call talk = record talk { asked = None }

-- what lies in the mailbox, between what the end that asks knows and what the one that answers knows
abbrev pub Between : List Parcel → Talk → Talk → Type 0
Between [] far near = far ≡ near
Between (Question call ∷ []) far near = (near.asked ≡ None) × (far ≡ with_call call near)
Between (Reply answer ∷ []) far near =
    (call : Call) × (told : Bool) × (far.asked ≡ Some call) × (near ≡ with_answer call answer told far)
    × IsFaithful (known_of far.seen) (exchange call answer told)
Between (p ∷ q ∷ ps) far near = ⊥

-- The end at this place, which knows v, is the one that asks and knows f, or the one that answers and knows n, as far as it says that it is
-- either
abbrev pub Fits : ℕ → ℕ → Talk → Talk → ℕ → View → Type 0
Fits far near f n seat v = (v.asks ≡ true → (seat ≡ far) × (v.talk ≡ f)) × (v.answers ≡ true → (seat ≡ near) × (v.talk ≡ n))

-- These parcels lie in the mailbox, and its ends know these views: one end at most asks and one at most answers, and each knows what was
-- said
abbrev pub Mailed : List Parcel → List View → Type 0
Mailed parcels views =
    (far : ℕ) × (near : ℕ) × (f : Talk) × (n : Talk) × Between parcels f n
    × ((seat : ℕ) (v : View) → get_elem? views seat ≡ some v → Fits far near f n seat v)

-- What an end knows once it has put a call, w, of what it knew, v; an answer is given otherwise (`Gave`)
abbrev pub Put : View → Parcel → View → Type 0
Put v (Question call) w = w ≡ record v { talk = with_call call v.talk }
Put v (Reply answer) w = ⊥

-- What an end knows once it has given an answer, w, of what it knew, v; `told` says whether the store tells its rows then
abbrev pub Gave : Bool → View → Parcel → View → Type 0
Gave told v (Question call) w = ⊥
Gave told v (Reply answer) w =
    (w.asks ≡ v.asks) × (w.answers ≡ v.answers) × ((call : Call) → v.talk.asked ≡ Some call → w.talk ≡ with_answer call answer told v.talk)

-- an answer that nobody had heard was taken back
abbrev pub IsTakenBack : Talk → Talk → Type 0
IsTakenBack before after = (call : Call) × (answer : Answer) × (told : Bool) × (before ≡ with_answer call answer told after)
    × (after.asked ≡ Some call)

-- the one that answers finds its own answer where nobody heard it
abbrev pub Took : View → Parcel → View → Type 0
Took v (Question call) w = (v.talk.asked ≡ None) × (w ≡ record v { talk = with_call call v.talk })
Took v (Reply answer) w = (w.asks ≡ v.asks) × (w.answers ≡ v.answers) × IsTakenBack v.talk w.talk

-- the one that asks finds its own call where nobody took it, and has taken it back then
abbrev pub Heard : View → Parcel → View → Type 0
Heard v (Question call) w = w ≡ record v { talk = without_call v.talk }
Heard v (Reply answer) w =
    (call : Call) × (told : Bool) × (v.talk.asked ≡ Some call) × (w ≡ record v { talk = with_answer call answer told v.talk })
    × IsFaithful (known_of v.talk.seen) (exchange call answer told)

-- what a call that was asked came to: it was answered, faithfully; or it wasn't, and nothing was said, or it stays without an answer
abbrev pub IsAnswered : Talk → Call → Answer → Talk → Type 0
IsAnswered before call answer after =
    (told : Bool) × (before.asked ≡ None) × (after ≡ with_answer call answer told before)
    × IsFaithful (known_of before.seen) (exchange call answer told)

-- What a call that wasn't answered came to: nothing was said, or it stays without an answer
abbrev pub IsUnanswered : Talk → Call → Talk → Type 0
IsUnanswered before call after = (after ≡ before) ⊎ ((before.asked ≡ None) × (after ≡ with_call call before))
