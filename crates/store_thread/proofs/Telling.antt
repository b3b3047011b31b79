-- What is known of a store after a call.
use Rattle.std.proofs.Common.{◌≡◌, ◌⊎◌, inl, inr, ℕ, Bool, true, false, List, [], ◌∷◌, ◌++◌, sym, refl, ap, ◌∙◌, subst, ⊎_elim, Option, Some, None, Result, Ok, Err, IfOk, OnOk, OnErr, MatchBool, MatchOption, IsTrue, is_some, Vec}
use Rattle.std.specs.declared.alloc.Global.{Global}
use Rattle.keeper.specs.Rows.{Rows, AreSame, Lists, after_items}
use Rattle.keeper.specs.declared.keeper.Item.{Item}
use Rattle.keeper.specs.declared.keeper.KeeperError.{KeeperError}
use Rattle.keeper.specs.declared.keeper.KeeperError.TheVariants.{Memory}
use Rattle.keeper.specs.declared.keeper.Row.{Row}
use Rattle.store_thread.specs.declared.calls.Answer.{Answer}
use Rattle.store_thread.specs.declared.calls.Call.{Call}
use Rattle.store_thread.specs.declared.calls.Call.TheVariants.{Open, Stay, Load, Commit}
use Rattle.store_thread.specs.declared.mailbox.Exchange.{Exchange}
use Rattle.store_thread.specs.declared.mailbox.Talk.{Talk}
use Rattle.store_thread.proofs.Posting.{told_is}
use Rattle.store_thread.specs.Far.{choice, TakesPlace, StaysTold, IsReadThere, HasRead, WasHeard, Unheard, IsHeard, said_read, WasRead, NotRead}
use Rattle.store_thread.specs.Mailbox.{exchange, with_call, with_answer, without_call, IsAnswered, IsUnanswered}
use Rattle.store_thread.specs.Told.{Known, Unread, Told, Untold, Read, kept, known_by, with_batch, after_call, after, known_from, known_of, ReadAs, IsFaithful, told_while, told_in, rows_or_none}

pub known_append : (known : Known) (xs : List Exchange) (x : Exchange) → known_from known (xs ++ x ∷ []) ≡ after (known_from known xs) x
known_append known [] x = refl
known_append known (y ∷ ys) x = known_append (after known y) ys x

-- What a far store tells after a call that was answered.
answered : (before : Talk) (call : Call) (answer : Answer) (after_it : Talk) (a : IsAnswered before call answer after_it)
    → (told_in before ≡ told_while None (known_of before.seen)) × (told_in after_it ≡ told_while None (after (known_of before.seen) (exchange call answer a.0)))
answered before call answer after_it a = let x : Exchange = exchange call answer a.0 in (
  ap (λ (o : Option Call). told_while o (known_of before.seen)) a.1,
  ap told_in a.2 ∙ ap (told_while None) (known_append Unread before.seen x),
)

-- the rows stay as they are told
abbrev pub Stays : Option Rows → Option Rows → Type 0
Stays old new = IsTrue (is_some new) → IsTrue (is_some old) × AreSame (rows_or_none new) (rows_or_none old)

stays_kept : (told : Bool) (known : Known) → Stays (told_while None known) (told_while None (kept told known))
stays_kept true known is = (is, λ kind key. refl)
stays_kept false Unread is = absurd (cc is)
stays_kept false (Told rows) is = absurd (cc is)
stays_kept false Untold is = absurd (cc is)

stays_answered : (before : Talk) (call : Call) (answer : Answer) (after_it : Talk) (a : IsAnswered before call answer after_it)
    → after (known_of before.seen) (exchange call answer a.0) ≡ kept a.0 (known_of before.seen) → Stays (told_in before) (told_in after_it)
stays_answered before call answer after_it a is = let e = answered before call answer after_it a in
    subst (λ (o : Option Rows × Option Rows). Stays o.0 o.1) (λ i. (sym e.0 i, sym (e.1 ∙ ap (told_while None) is) i)) (stays_kept a.0 (known_of before.seen))

-- nothing was answered
stays_unanswered : (before : Talk) (call : Call) (after_it : Talk) → IsUnanswered before call after_it → Stays (told_in before) (told_in after_it)
stays_unanswered before call after_it u = ⊎_elim
    (λ (same : after_it ≡ before). subst (λ (t : Talk). Stays (told_in before) (told_in t)) (sym same) (λ is. (is, λ kind key. refl)))
    (λ (h : (before.asked ≡ None) × (after_it ≡ with_call call before)). subst (λ (t : Talk). Stays (told_in before) (told_in t)) (sym h.1) (λ is. absurd (cc is))) u

-- a call that was put in and not answered, or taken back
unheard : (before asked after_it : Talk) (call : Call) → before.asked ≡ None → asked ≡ with_call call before → (after_it ≡ asked) ⊎ (after_it ≡ without_call asked)
    → IsUnanswered before call after_it
unheard before asked after_it call free is (inl same) = inr (free, same ∙ is)
unheard before asked after_it call free is (inr back) = inl (back ∙ ap without_call is ∙ ap (λ (o : Option Call). record before { asked = o }) (sym free))

-- a call that was put in, or couldn't be
pub not_put : (before after_it : Talk) (call : Call) (put : Bool) → put ≡ false → MatchBool put ((before.asked ≡ None) × (after_it ≡ with_call call before)) (after_it ≡ before) → IsUnanswered before call after_it
not_put before after_it call true failed was = absurd (cc failed)
not_put before after_it call false failed was = inl was

abbrev pub Hears : Talk → Answer → Talk → Type 0
Hears asked answer after_it =
    (call : Call) × (told : Bool) × (asked.asked ≡ Some call) × (after_it ≡ with_answer call answer told asked) × IsFaithful (known_of asked.seen) (exchange call answer told)

-- the answer that was heard is to the call that was put in
heard_to : (before asked after_it : Talk) (call : Call) (answer : Answer) → before.asked ≡ None → asked ≡ with_call call before → Hears asked answer after_it → IsAnswered before call answer after_it
heard_to before asked after_it call answer free is h =
    let same : call ≡ h.0 = cc (sym (ap (λ (t : Talk). t.asked) is) ∙ h.2) in (
      h.1,
      free,
      h.3 ∙ ap (with_answer h.0 answer h.1) is ∙ ap (λ (c : Call). with_answer c answer h.1 before) (sym same),
      subst (λ (c : Call). IsFaithful (known_of before.seen) (exchange c answer h.1)) (sym same) (subst (λ (t : Talk). IsFaithful (known_of t.seen) (exchange h.0 answer h.1)) is h.4),
    )

pub put_and_heard : (before asked after_it : Talk) (call : Call) (put : Bool) (heard : Option Answer) → put ≡ true
    → MatchBool put ((before.asked ≡ None) × (asked ≡ with_call call before)) (asked ≡ before)
    → MatchOption heard ((after_it ≡ asked) ⊎ (after_it ≡ without_call asked)) (λ answer. Hears asked answer after_it)
    → MatchOption heard (IsUnanswered before call after_it) (λ answer. IsAnswered before call answer after_it)
put_and_heard before asked after_it call false heard fine was hear = absurd (cc fine)
put_and_heard before asked after_it call true None fine was hear = unheard before asked after_it call was.0 was.1 hear
put_and_heard before asked after_it call true (Some answer) fine was hear = heard_to before asked after_it call answer was.0 was.1 hear

stays_heard : (before : Talk) (done : Result (Unit {0}) KeeperError) (after_it : Talk) → IsHeard before Stay done after_it → Stays (told_in before) (told_in after_it)
stays_heard before done after_it heard = ⊎_elim (λ (h : WasHeard before Stay done after_it). stays_answered before Stay h.0 after_it h.2 refl)
    (λ (h : Unheard before Stay done after_it). stays_unanswered before Stay after_it h.1) heard

stays_unopened : (before : Talk) (place : List ℕ) (error : KeeperError) (after_it : Talk) → IsHeard before (Open place) (Err error) after_it → Stays (told_in before) (told_in after_it)
stays_unopened before place error after_it heard = ⊎_elim
    (λ (h : WasHeard before (Open place) (Err error) after_it).
    stays_answered before (Open place) h.0 after_it h.2 (ap (λ (d : Result (Unit {0}) KeeperError). after_call (Open place) d h.0.rows h.2.0 (known_of before.seen)) h.1))
    (λ (h : Unheard before (Open place) (Err error) after_it). stays_unanswered before (Open place) after_it h.1) heard

stay_err : (before : Talk) (done : Result (Unit {0}) KeeperError) (after_it : Talk) → IsHeard before Stay done after_it → OnErr done (StaysTold before after_it)
stay_err before (Ok u) after_it heard = tt
stay_err before (Err error) after_it heard = stays_heard before (Err error) after_it heard

open_err : (before : Talk) (place : List ℕ) (done : Result (Unit {0}) KeeperError) (after_it : Talk) → IsHeard before (Open place) done after_it → OnErr done (StaysTold before after_it)
open_err before place (Ok u) after_it heard = tt
open_err before place (Err error) after_it heard = stays_unopened before place error after_it heard

-- the choice of a place
pub takes : (before : Talk) (place : Option (List ℕ)) (done : Result (Unit {0}) KeeperError) (after_it : Talk) → WasHeard before (choice place) done after_it ⊎ Unheard before (choice place) done after_it
    → OnOk done (TakesPlace before place after_it)
takes before place (Err error) after_it heard = tt
takes before place (Ok u) after_it (inl h) = (exchange (choice place) h.0 h.2.0, refl, h.1, ap (λ (t : Talk). t.seen) h.2.2, ap (λ (t : Talk). t.asked) h.2.2)
takes before place (Ok u) after_it (inr h) = absurd (cc h.0)

pub stays_own : (before : Talk) (place : Option (List ℕ)) (done : Result (Unit {0}) KeeperError) (after_it : Talk) → IsHeard before (choice place) done after_it → place ≡ None
    → StaysTold before after_it
stays_own before None done after_it heard none = stays_heard before done after_it heard
stays_own before (Some place) done after_it heard none = absurd (cc none)

pub stays_unchosen : (before : Talk) (place : Option (List ℕ)) (done : Result (Unit {0}) KeeperError) (after_it : Talk) → IsHeard before (choice place) done after_it
    → OnErr done (StaysTold before after_it)
stays_unchosen before None done after_it heard = stay_err before done after_it heard
stays_unchosen before (Some place) done after_it heard = open_err before place done after_it heard

told_true : (told : Bool) (read : Read) (rows : Rows) → known_by told read ≡ Told rows → told ≡ true
told_true true read rows e = refl
told_true false None rows e = absurd (cc e)
told_true false (Some (Ok all)) rows e = absurd (cc e)
told_true false (Some (Err error)) rows e = absurd (cc e)

-- what was read at the choice is kept
pub read_at_choice : (before : Talk) (place : List ℕ) (answer : Answer) (after_it : Talk) (read : Read) → IsAnswered before (Open place) answer after_it → answer.done ≡ Ok (tt {0})
    → answer.rows ≡ read → HasRead after_it read
read_at_choice before place answer after_it None a done is = tt
read_at_choice before place answer after_it (Some read) a done is = (before, place, answer, a, done, is)

-- what was read at the choice is what is told then
told_there : (before : Talk) (place : List ℕ) (answer : Answer) (after_it : Talk) → IsAnswered before (Open place) answer after_it → answer.done ≡ Ok (tt {0})
    → (rows : Rows) → told_in after_it ≡ Some rows → ReadAs (Told rows) answer.rows
told_there before place answer after_it a done rows told =
    let x : Exchange = exchange (Open place) answer a.0 in
    let known : Known = known_of before.seen in
    let is : after known x ≡ known_by a.0 answer.rows = ap (λ (d : Result (Unit {0}) KeeperError). after_call (Open place) d answer.rows a.0 known) done in
    let now : after known x ≡ Told rows = (told_is None (after known x) rows (sym ((answered before (Open place) answer after_it a).1) ∙ told)).1 in
    subst (λ (k : Known). ReadAs k answer.rows) now (a.3 (told_true a.0 answer.rows rows (sym is ∙ now)))

abbrev pub LoadsAs : Option Rows → Result (Vec Row Global) KeeperError → Option Rows → Type 0
LoadsAs old read new = IsTrue (is_some new) → IsTrue (is_some old) × AreSame (rows_or_none new) (rows_or_none old) × IfOk read (λ all. Lists (rows_or_none old) all.items)

load_kept : (told : Bool) (known : Known) (read : Result (Vec Row Global) KeeperError) → (told ≡ true → ReadAs (kept told known) (Some read))
    → LoadsAs (told_while None known) read (told_while None (kept told known))
load_kept true (Told rows) (Ok all) faithful is = (is, (λ kind key. refl), faithful refl)
load_kept true (Told rows) (Err error) faithful is = (is, (λ kind key. refl), tt)
load_kept true Unread read faithful is = absurd (cc is)
load_kept true Untold read faithful is = absurd (cc is)
load_kept false Unread read faithful is = absurd (cc is)
load_kept false (Told rows) read faithful is = absurd (cc is)
load_kept false Untold read faithful is = absurd (cc is)

loaded : (before : Talk) (answer : Answer) (read : Result (Vec Row Global) KeeperError) (after_it : Talk) → IsAnswered before Load answer after_it → answer.rows ≡ Some read
    → LoadsAs (told_in before) read (told_in after_it)
loaded before answer read after_it a rows = let e = answered before Load answer after_it a in
    subst (λ (o : Option Rows × Option Rows). LoadsAs o.0 read o.1) (λ i. (sym e.0 i, sym e.1 i))
    (load_kept a.0 (known_of before.seen) read (λ told. subst (λ (r : Read). ReadAs (kept a.0 (known_of before.seen)) r) rows (a.3 told)))

load_read : (told : Option Rows) (read : Result (Vec Row Global) KeeperError) → ((rows : Rows) → told ≡ Some rows → ReadAs (Told rows) (Some read)) → LoadsAs told read told
load_read None read is some = absurd (cc some)
load_read (Some rows) (Ok all) is some = (some, (λ kind key. refl), is rows refl)
load_read (Some rows) (Err error) is some = (some, (λ kind key. refl), tt)

-- what was read at the choice is given
loaded_then : (talk : Talk) (read : Result (Vec Row Global) KeeperError) → IsReadThere talk read → LoadsAs (told_in talk) read (told_in talk)
loaded_then talk read h = load_read (told_in talk) read (λ rows told. subst (λ (r : Read). ReadAs (Told rows) r) h.5 (told_there h.0 h.1 h.2 talk h.3 h.4 rows told))

-- nothing was read
unloaded : (before after_it : Talk) (error : KeeperError) → Stays (told_in before) (told_in after_it) → LoadsAs (told_in before) (Err error) (told_in after_it)
unloaded before after_it error stays is = ((stays is).0, (stays is).1, tt)

stays_loaded : (before : Talk) (answer : Answer) (after_it : Talk) → IsAnswered before Load answer after_it → Stays (told_in before) (told_in after_it)
stays_loaded before answer after_it a = stays_answered before Load answer after_it a refl

said_loads : (before : Talk) (answer : Answer) (rows : Read) (read : Result (Vec Row Global) KeeperError) (after_it : Talk) → answer.rows ≡ rows → said_read rows ≡ read
    → IsAnswered before Load answer after_it → LoadsAs (told_in before) read (told_in after_it)
said_loads before answer None read after_it rows is a =
    subst (λ (r : Result (Vec Row Global) KeeperError). LoadsAs (told_in before) r (told_in after_it)) is (unloaded before after_it Memory (stays_loaded before answer after_it a))
said_loads before answer (Some said) read after_it rows is a =
    subst (λ (r : Result (Vec Row Global) KeeperError). LoadsAs (told_in before) r (told_in after_it)) is (loaded before answer said after_it a rows)

pub read_loads : (before : Talk) (read : Result (Vec Row Global) KeeperError) (after_it : Talk)
    → ((after_it ≡ before) × IsReadThere before read) ⊎ (WasRead before read after_it ⊎ NotRead before read after_it) → LoadsAs (told_in before) read (told_in after_it)
read_loads before read after_it (inl h) = subst (λ (t : Talk). LoadsAs (told_in before) read (told_in t)) (sym h.0) (loaded_then before read h.1)
read_loads before read after_it (inr (inl h)) = said_loads before h.0 h.0.rows read after_it refl h.1 h.2
read_loads before read after_it (inr (inr h)) = subst (λ (r : Result (Vec Row Global) KeeperError). LoadsAs (told_in before) r (told_in after_it)) (sym h.0)
    (unloaded before after_it Memory (stays_unanswered before Load after_it h.1))

abbrev pub Commits : Option Rows → List Item → Result (Unit {0}) KeeperError → Option Rows → Type 0
Commits old items done new =
    IsTrue (is_some new) → IsTrue (is_some old) × OnOk done (AreSame (rows_or_none new) (after_items items (rows_or_none old))) × OnErr done (AreSame (rows_or_none new) (rows_or_none old))

commit_done : (told : Bool) (known : Known) (items : List Item) → Commits (told_while None known) items (Ok (tt {0})) (told_while None (kept told (with_batch items known)))
commit_done true (Told rows) items is = (is, (λ kind key. refl), tt)
commit_done true Unread items is = absurd (cc is)
commit_done true Untold items is = absurd (cc is)
commit_done false (Told rows) items is = absurd (cc is)
commit_done false Unread items is = absurd (cc is)
commit_done false Untold items is = absurd (cc is)

commit_undone : (old new : Option Rows) (items : List Item) (error : KeeperError) → Stays old new → Commits old items (Err error) new
commit_undone old new items error stays is = ((stays is).0, tt, (stays is).1)

commit_said : (before : Talk) (items : List Item) (answer : Answer) (done : Result (Unit {0}) KeeperError) (after_it : Talk) (a : IsAnswered before (Commit items) answer after_it) → answer.done ≡ done
    → Commits (told_in before) items done (told_in after_it)
commit_said before items answer (Ok u) after_it a is =
    let e = answered before (Commit items) answer after_it a in
    let x : after (known_of before.seen) (exchange (Commit items) answer a.0) ≡ kept a.0 (with_batch items (known_of before.seen)) = ap (λ (d : Result (Unit {0}) KeeperError). after_call (Commit items) d answer.rows a.0 (known_of before.seen)) is in
    subst (λ (o : Option Rows × Option Rows). Commits o.0 items (Ok u) o.1) (λ i. (sym e.0 i, sym (e.1 ∙ ap (told_while None) x) i)) (commit_done a.0 (known_of before.seen) items)
commit_said before items answer (Err error) after_it a is = commit_undone (told_in before) (told_in after_it) items error
    (stays_answered before (Commit items) answer after_it a (ap (λ (d : Result (Unit {0}) KeeperError). after_call (Commit items) d answer.rows a.0 (known_of before.seen)) is))

pub committed : (before : Talk) (items : List Item) (done : Result (Unit {0}) KeeperError) (after_it : Talk) → IsHeard before (Commit items) done after_it → Commits (told_in before) items done (told_in after_it)
committed before items done after_it heard = ⊎_elim
    (λ (h : WasHeard before (Commit items) done after_it). commit_said before items h.0 done after_it h.2 h.1)
    (λ (h : Unheard before (Commit items) done after_it).
    subst (λ (d : Result (Unit {0}) KeeperError). Commits (told_in before) items d (told_in after_it)) (sym h.0)
    (commit_undone (told_in before) (told_in after_it) items Memory (stays_unanswered before (Commit items) after_it h.1))) heard
