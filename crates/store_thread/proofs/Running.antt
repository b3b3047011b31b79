-- What is known of a store that went through what was asked and answered.
use Rattle.std.proofs.Common.{◌≡◌, ◌⊎◌, inl, inr, ℕ, Bool, true, false, List, [], ◌∷◌, ◌++◌, sym, refl, ap, ◌∙◌, subst, Option, Some, None, Result, Ok, Err, IfOk, MatchBool, IsTrue, Vec}
use Rattle.std.specs.declared.alloc.Global.{Global}
use Rattle.keeper.proofs.Steps.{items_same}
use Rattle.keeper.specs.Rows.{Rows, AreSame, Lists, after_items}
use Rattle.keeper.specs.declared.keeper.Item.{Item}
use Rattle.keeper.specs.declared.keeper.KeeperError.{KeeperError}
use Rattle.keeper.specs.declared.keeper.Row.{Row}
use Rattle.store_thread.specs.declared.calls.Answer.{Answer}
use Rattle.store_thread.specs.declared.calls.Call.{Call}
use Rattle.store_thread.specs.declared.calls.Call.TheVariants.{Open, Stay, Load, Commit}
use Rattle.store_thread.specs.declared.mailbox.Exchange.{Exchange}
use Rattle.store_thread.specs.declared.mailbox.Parcel.{Parcel}
use Rattle.store_thread.specs.declared.mailbox.Parcel.TheVariants.{Question, Reply}
use Rattle.store_thread.specs.declared.mailbox.Talk.{Talk}
use Rattle.store_thread.specs.Mailbox.{exchange, with_call, with_answer, Between, IsTakenBack}
use Rattle.store_thread.specs.Runs.{Stays, Reads, Calls, Makes, Went, WentOn, WentAt}
use Rattle.store_thread.specs.Told.{Known, Unread, Told, Untold, Read, kept, known_by, with_batch, after_call, after, known_from, known_of, ReadAs, IsFaithful}
use Rattle.store_thread.proofs.Posting.{Stands}

read_none : (known : Known) → ReadAs known None
read_none Unread = tt
read_none (Told rows) = tt
read_none Untold = tt

lists_same : (a b : Rows) (all : List Row) → AreSame a b → Lists b all → Lists a all
lists_same a b all same lists = record { in_order = lists.in_order; same = λ kind key. lists.same kind key ∙ sym (same kind key) }

module _ {K : Type 0} (Tells : K → Type 0) (rows : K → Rows) (is_told : K → Bool) (faults : K → ℕ) (Chooses : K → Option (List ℕ) → K → Type 0)
    (decides : (k : K) → (Tells k → IsTrue (is_told k)) × (IsTrue (is_told k) → Tells k)) where
  abbrev Knows : K → Known → Type 0
  Knows = Stands Tells rows

  abbrev StaysSo : K → K → Type 0
  StaysSo = Stays Tells rows is_told faults Chooses

  kept_stands : (k k' : K) (told : Bool) (known : Known) → told ≡ is_told k' → StaysSo k k' → Knows k known → Knows k' (kept told known)
  kept_stands k k' true Unread is same stands = tt
  kept_stands k k' false Unread is same stands = tt
  kept_stands k k' true (Told told) is same stands = let tells = (decides k').1 (sym is) in (tells, λ kind key. stands.1 kind key ∙ sym ((same tells).1 kind key))
  kept_stands k k' false (Told told) is same stands = λ tells. absurd (cc (is ∙ (decides k').0 tells))
  kept_stands k k' true Untold is same stands = λ tells. stands (same tells).0
  kept_stands k k' false Untold is same stands = λ tells. stands (same tells).0

  batch_stands : (k k' : K) (items : List Item) (told : Bool) (known : Known) → told ≡ is_told k' → (Tells k' → Tells k × AreSame (rows k') (after_items items (rows k)))
      → Knows k known → Knows k' (kept told (with_batch items known))
  batch_stands k k' items true Unread is put stands = tt
  batch_stands k k' items false Unread is put stands = tt
  batch_stands k k' items true (Told told) is put stands =
      let tells = (decides k').1 (sym is) in (tells, λ kind key. items_same items told (rows k) stands.1 kind key ∙ sym ((put tells).1 kind key))
  batch_stands k k' items false (Told told) is put stands = λ tells. absurd (cc (is ∙ (decides k').0 tells))
  batch_stands k k' items true Untold is put stands = λ tells. stands (put tells).0
  batch_stands k k' items false Untold is put stands = λ tells. stands (put tells).0

  -- what a call leaves known, and that it is faithful
  abbrev Follows : K → Known → Read → Bool → Type 0
  Follows k' known read told = (told ≡ true → ReadAs known read) × Knows k' known

  unread_follows : (k k' : K) (told : Bool) (known : Known) → told ≡ is_told k' → StaysSo k k' → Knows k known → Follows k' (kept told known) None told
  unread_follows k k' told known is same stands = ((λ _. read_none (kept told known)), kept_stands k k' told known is same stands)

  loaded_reads : (k k' : K) (told : Bool) (known : Known) (read : Result (Vec Row Global) KeeperError) → told ≡ is_told k'
      → (Tells k' → IfOk read (λ all. Lists (rows k) all.items)) → Knows k known → told ≡ true → ReadAs (kept told known) (Some read)
  loaded_reads k k' true Unread read is listed stands right = tt
  loaded_reads k k' true (Told told) (Err error) is listed stands right = tt
  loaded_reads k k' true (Told told) (Ok all) is listed stands right = lists_same told (rows k) all.items stands.1 (listed ((decides k').1 (sym is)))
  loaded_reads k k' true Untold read is listed stands right = tt
  loaded_reads k k' false known read is listed stands right = absurd (cc right)

  load_follows : (k k' : K) (told : Bool) (known : Known) (read : Read) → told ≡ is_told k' → Reads Tells rows is_told faults Chooses k read k' → Knows k known → Follows k' (kept told known) read told
  load_follows k k' told known None is reads stands = absurd reads
  load_follows k k' told known (Some read) is reads stands = (loaded_reads k k' told known read is reads.0 stands, kept_stands k k' told known is reads.1 stands)

  opened_follows : (m k' : K) (told : Bool) (read : Read) → told ≡ is_told k' → Reads Tells rows is_told faults Chooses m read k' → Follows k' (known_by told read) read told
  opened_follows m k' told None is reads = absurd reads
  opened_follows m k' true (Some (Err error)) is reads = ((λ _. tt), tt)
  opened_follows m k' false (Some (Err error)) is reads = ((λ _. tt), tt)
  opened_follows m k' true (Some (Ok all)) is reads = let tells = (decides k').1 (sym is) in let l = reads.0 tells in
      ((λ _. record { in_order = l.in_order; same = λ kind key. refl }), (tells, λ kind key. l.same kind key ∙ sym ((reads.1 tells).1 kind key)))
  opened_follows m k' false (Some (Ok all)) is reads = ((λ right. absurd (cc right)), λ tells. absurd (cc (is ∙ (decides k').0 tells)))

  call_follows : (k k' : K) (known : Known) (call : Call) (done : Result (Unit {0}) KeeperError) (read : Read) (told : Bool) → told ≡ is_told k'
      → Calls Tells rows is_told faults Chooses call k done read k' → Knows k known → Follows k' (after_call call done read told known) read told
  call_follows k k' known (Open place) (Ok u) read told is makes stands = opened_follows makes.0 k' told read is makes.3
  call_follows k k' known (Open place) (Err error) read told is makes stands =
      subst (λ (r : Read). Follows k' (kept told known) r told) (sym makes.0) (unread_follows k k' told known is makes.1 stands)
  call_follows k k' known Stay done read told is makes stands = subst (λ (r : Read). Follows k' (kept told known) r told) (sym makes.0) (unread_follows k k' told known is makes.2 stands)
  call_follows k k' known Load done read told is makes stands = load_follows k k' told known read is makes.1 stands
  call_follows k k' known (Commit items) (Ok u) read told is makes stands = subst (λ (r : Read). Follows k' (kept told (with_batch items known)) r told) (sym makes.0)
      ((λ _. read_none (kept told (with_batch items known))), batch_stands k k' items told known is (λ tells. (makes.1.0 tells, makes.1.1 tells)) stands)
  call_follows k k' known (Commit items) (Err error) read told is makes stands =
      subst (λ (r : Read). Follows k' (kept told known) r told) (sym makes.0) (unread_follows k k' told known is (λ tells. (makes.1.0 tells, makes.1.2 tells)) stands)

  pub went_stands : (k k' : K) (known : Known) (xs : List Exchange) → Knows k known → Went Tells rows is_told faults Chooses k xs k' → Knows k' (known_from known xs)
  went_stands k k' known [] stands went = subst (λ (m : K). Knows m known) (sym went) stands
  went_stands k k' known (x ∷ xs) stands went =
      went_stands went.0 k' (after known x) xs (call_follows k went.0 known x.call x.done x.rows x.told went.1.0 went.1.1 stands).1 went.2

  -- the next answer is faithful
  pub makes_faithful : (k m k' : K) (xs : List Exchange) (call : Call) (answer : Answer) → Went Tells rows is_told faults Chooses k xs m
      → Calls Tells rows is_told faults Chooses call m answer.done answer.rows k' → IsFaithful (known_of xs) (exchange call answer (is_told k'))
  makes_faithful k m k' xs call answer went makes = (call_follows m k' (known_of xs) call answer.done answer.rows (is_told k') refl makes (went_stands k m Unread xs tt went)).0

  pub went_on : (k m k' : K) (xs : List Exchange) (x : Exchange) → Went Tells rows is_told faults Chooses k xs m → Makes Tells rows is_told faults Chooses m x k' → Went Tells rows is_told faults Chooses k (xs ++ x ∷ []) k'
  went_on k m k' [] x went makes = (k', subst (λ (n : K). Makes Tells rows is_told faults Chooses n x k') went makes, refl)
  went_on k m k' (y ∷ ys) x went makes = (went.0, went.1, went_on went.0 m k' ys x went.2 makes)

  went_back : (k k' : K) (xs : List Exchange) (x : Exchange) → Went Tells rows is_told faults Chooses k (xs ++ x ∷ []) k'
      → (m : K) × Went Tells rows is_told faults Chooses k xs m × Makes Tells rows is_told faults Chooses m x k'
  went_back k k' [] x went = (k, refl, subst (λ (n : K). Makes Tells rows is_told faults Chooses k x n) (sym went.2) went.1)
  went_back k k' (y ∷ ys) x went = let b = went_back went.0 k' ys x went.2 in (b.0, (went.0, went.1, b.1), b.2)

  abbrev At : K → Talk → K → Type 0
  At = WentAt Tells rows is_told faults Chooses

  -- between two calls
  pub at_rest : (k k' : K) (talk : Talk) → talk.asked ≡ None → At k talk k' → Went Tells rows is_told faults Chooses k talk.seen k'
  at_rest k k' talk free at =
      let is : k' ≡ at.0 = subst (λ (o : Option Call). WentOn Tells rows is_told faults Chooses o at.0 k') free at.2 in
      subst (λ (m : K). Went Tells rows is_told faults Chooses k talk.seen m) (sym is) at.1

  -- an answer was given, or couldn't be
  pub gave_went : (k m k' : K) (gave : Bool) (before taken given : Talk) (call : Call) (answer : Answer) → before.asked ≡ None → taken ≡ with_call call before
      → MatchBool gave ((c : Call) → taken.asked ≡ Some c → given ≡ with_answer c answer (is_told k') taken) (given ≡ taken)
      → At k before m → Calls Tells rows is_told faults Chooses call m answer.done answer.rows k' → At k given k'
  gave_went k m k' true before taken given call answer free is gave at makes =
      let now : given ≡ with_answer call answer (is_told k') before = gave call (ap (λ (t : Talk). t.asked) is) ∙ ap (with_answer call answer (is_told k')) is in
      subst (λ (t : Talk). At k t k') (sym now) (k', went_on k m k' before.seen (exchange call answer (is_told k')) (at_rest k m before free at) (refl, makes), refl)
  gave_went k m k' false before taken given call answer free is gave at makes =
      subst (λ (t : Talk). At k t k') (sym (gave ∙ is)) (m, at_rest k m before free at, inr (answer.done, answer.rows, makes))

  -- no call was taken
  pub untaken_went : (k k' : K) (before after_it : Talk) → (after_it ≡ before) ⊎ IsTakenBack before after_it → At k before k' → At k after_it k'
  untaken_went k k' before after_it (inl same) at = subst (λ (t : Talk). At k t k') (sym same) at
  untaken_went k k' before after_it (inr back) at =
      let b = went_back k k' after_it.seen (exchange back.0 back.1 back.2) (at_rest k k' (with_answer back.0 back.1 back.2 after_it) refl (subst (λ (t : Talk). At k t k') back.3 at)) in
      (b.0, b.1, subst (λ (o : Option Call). WentOn Tells rows is_told faults Chooses o b.0 k') (sym back.4) (inr (back.1.done, back.1.rows, b.2.1)))

  -- what the end that asks knows was gone through too, whatever lies between the two
  pub heard_went : (k k' : K) (parcels : List Parcel) (far near : Talk) → Between parcels far near → At k near k' → At k far k'
  heard_went k k' [] far near between at = subst (λ (t : Talk). At k t k') (sym between) at
  heard_went k k' (Question call ∷ []) far near between at = subst (λ (t : Talk). At k t k') (sym between.1) (k', at_rest k k' near between.0 at, inl refl)
  heard_went k k' (Reply answer ∷ []) far near between at = untaken_went k k' near far (inr (between.0, answer, between.1, between.3, between.2)) at
  heard_went k k' (Question call ∷ q ∷ ps) far near between at = absurd between
  heard_went k k' (Reply answer ∷ q ∷ ps) far near between at = absurd between
