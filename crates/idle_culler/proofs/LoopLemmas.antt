-- What the loops of a round keep.
use Rattle.std.proofs.Common.{◌≡◌, ℕ, ◌+◌, ◌*◌, ◌<◌, ◌≤◌, inl, inr, Bool, true, false, not, if◌then◌else◌, List, [], ◌∷◌, ◌++◌, length, take, drop, get_or, Option, Result, Ok, refl, sym, ap, ◌∙◌, subst, append_assoc, length-append, arith}
use Rattle.std.proofs.lemmas.List.{take_more, take-append-drop, take_all}
use Rattle.hub_devices.specs.declared.link_error.LinkError.{LinkError}
use Rattle.hub_link.specs.Links.{Exchange, Asks}
use Rattle.hub_link.proofs.AskLemmas.{no_ask, asks_then}
use Rattle.idle_culler.specs.declared.rules.Cull.{Cull}
use Rattle.idle_culler.specs.declared.rules.CullOptions.{CullOptions}
use Rattle.idle_culler.specs.declared.views.UserView.{UserView}
use Rattle.idle_culler.specs.declared.deletions.Counts.{Counts}
use Rattle.idle_culler.specs.declared.pages.Page.{Page}
use Rattle.idle_culler.specs.declared.pages.CullFault.{CullFault}
use Rattle.idle_culler.specs.declared.pages.CullFault.TheVariants.{LinkFault, BadReply, Memory}
use Rattle.idle_culler.specs.Culled.{culled}
use Rattle.idle_culler.specs.Deletions.{Deletes, DeletesAll, BeginsDeletion, BeginsDeletions, IsLinkFault, culled_count, refused_count}
use Rattle.idle_culler.specs.Pages.{AnswersPage, IsPageFault}
use Rattle.idle_culler.specs.Rounds.{LeadsOn, ReadsUsers, BeginsReading, IsReadingBroken, IsRound, IsBroken}
use Rattle.idle_culler.proofs.RoundLemmas.{none_yet, leads_more, shown, reads_all, culled_more, count_more, broken_at, wanting_at, deletes_more, culled_one, refused_one, fault_behind}

counts_are : (counts : Counts) (a b : ℕ) → counts.culled ≡ a → counts.refused ≡ b → counts ≡ record { culled = a; refused = b }
counts_are counts a b one two = λ i. record { culled = one i; refused = two i }

pub is_more : (taken page : Bool) → taken ≡ page → not taken ≡ false → page ≡ true
is_more true page same h = sym same
is_more false page same h = absurd (cc h)

pub is_last : (taken page : Bool) → taken ≡ page → not taken ≡ true → page ≡ false
is_last true page same h = absurd (cc h)
is_last false page same h = sym same

module _ {L : Type 0} (asked : L → Option (List (List ℕ × Option (List ℕ)))) (does : L → List ℕ → Result (List ℕ) LinkError → L → Type 0) where
  -- ---- deletions

  -- the entries in front of a place were asked for
  pub record Deleting (old : L) (token : List ℕ) (remove : Bool) (culls : List Cull) (at accepted refused : ℕ) (new : L) : Type 0 where
    pub asks : List Exchange
    pub outcomes : List Bool
    pub chain : Asks asked does old asks new
    pub deletes : DeletesAll token remove (take at culls) asks outcomes
    pub is_accepted : accepted ≡ culled_count outcomes
    pub is_refused : refused ≡ refused_count outcomes

  pub deleting_none : (old : L) (token : List ℕ) (remove : Bool) (culls : List Cull) → Deleting old token remove culls 0 0 0 old
  deleting_none old token remove culls = record {
    asks = [];
    outcomes = [];
    chain = no_ask asked does old;
    deletes = (refl, refl);
    is_accepted = refl;
    is_refused = refl;
  }

  pub deleting_more : (old between new : L) (token : List ℕ) (remove : Bool) (culls : List Cull) (at : ℕ) (counts after : Counts) (d : Cull) (done : Bool)
      → Deleting old token remove culls at counts.culled counts.refused between → at < length culls → d ≡ get_or culls at d
      → (asks : List Exchange) × Asks asked does between asks new × Deletes token remove d asks done
      → after.culled ≡ (if done then counts.culled + 1 else counts.culled) → after.refused ≡ (if done then counts.refused else counts.refused + 1)
      → Deleting old token remove culls (at + 1) after.culled after.refused new
  deleting_more old between new token remove culls at counts after d done was inside item (here, chain, one) accepted refused = record {
    asks = was.asks ++ here;
    outcomes = was.outcomes ++ done ∷ [];
    chain = asks_then asked does old between new was.asks here was.chain chain;
    deletes = subst (λ (cs : List Cull). DeletesAll token remove cs (was.asks ++ here) (was.outcomes ++ done ∷ [])) (sym (take_more culls at d inside))
        (deletes_more token remove (take at culls) was.asks was.outcomes (get_or culls at d) here done was.deletes
        (subst (λ (x : Cull). Deletes token remove x here done) item one));
    is_accepted = accepted ∙ (ap (λ (n : ℕ). if done then n + 1 else n) was.is_accepted ∙ sym (culled_one was.outcomes done));
    is_refused = refused ∙ (ap (λ (n : ℕ). if done then n else n + 1) was.is_refused ∙ sym (refused_one was.outcomes done));
  }

  pub deleting_whole : (old new : L) (token : List ℕ) (remove : Bool) (culls : List Cull) (at : ℕ) (counts : Counts)
      → Deleting old token remove culls at counts.culled counts.refused new → length culls ≤ at
      → (asks : List Exchange) × (outcomes : List Bool) × Asks asked does old asks new × DeletesAll token remove culls asks outcomes
      × (counts ≡ record { culled = culled_count outcomes; refused = refused_count outcomes })
  deleting_whole old new token remove culls at counts was all = (
    was.asks,
    was.outcomes,
    was.chain,
    subst (λ (cs : List Cull). DeletesAll token remove cs was.asks was.outcomes) (take_all at culls all) was.deletes,
    counts_are counts (culled_count was.outcomes) (refused_count was.outcomes) was.is_accepted was.is_refused,
  )

  pub deleting_broken : (old between new : L) (token : List ℕ) (remove : Bool) (culls : List Cull) (at accepted refused : ℕ) (d : Cull) (fault : CullFault)
      → Deleting old token remove culls at accepted refused between → at < length culls → d ≡ get_or culls at d
      → (asks : List Exchange) × Asks asked does between asks new × BeginsDeletion token remove d asks × IsLinkFault asks fault
      → (asks : List Exchange) × Asks asked does old asks new × BeginsDeletions token remove culls asks × IsLinkFault asks fault
  deleting_broken old between new token remove culls at accepted refused d fault was inside item (here, chain, begins, is) = (
    was.asks ++ here,
    asks_then asked does old between new was.asks here was.chain chain,
    record {
      front = take at culls;
      left = get_or culls at d ∷ drop (at + 1) culls;
      whole = was.asks;
      last = here;
      outcomes = was.outcomes;
      split = sym (take-append-drop (at + 1) culls)
          ∙ (ap (λ (t : List Cull). t ++ drop (at + 1) culls) (take_more culls at d inside)
          ∙ append_assoc (take at culls) (get_or culls at d ∷ []) (drop (at + 1) culls));
      deletes = was.deletes;
      next = subst (λ (x : Cull). BeginsDeletion token remove x here) item begins;
      asked = refl;
    },
    fault_behind was.asks here fault is,
  )

  -- ---- pages

  -- the pages in front of an offset were read
  pub record Reading (old : L) (token : List ℕ) (options : CullOptions) (now : ℕ) (list : List Cull) (users offset : ℕ) (new : L) : Type 0 where
    pub asks : List Exchange
    pub pages : List Page
    pub chain : Asks asked does old asks new
    pub leads : LeadsOn token asks pages
    pub place : offset ≡ length pages * 50
    pub listed : list ≡ culled options now (shown pages)
    pub counted : users ≡ length (shown pages)

  pub reading_none : (old : L) (token : List ℕ) (options : CullOptions) (now : ℕ) (list : List Cull) → list ≡ [] → Reading old token options now list 0 0 old
  reading_none old token options now list none = record {
    asks = [];
    pages = [];
    chain = no_ask asked does old;
    leads = none_yet token;
    place = omega arith;
    listed = none;
    counted = refl;
  }

  -- the page at the place where the reading stands
  abbrev pub NextPage : L → List ℕ → ℕ → Page → L → Type 0
  NextPage between token offset page new = (ask : Exchange) × Asks asked does between (ask ∷ []) new × AnswersPage token offset ask (Ok page)

  at_place : (token : List ℕ) (offset place : ℕ) (ask : Exchange) (page : Page) → offset ≡ place → AnswersPage token offset ask (Ok page) → AnswersPage token place ask (Ok page)
  at_place token offset place ask page same is = subst (λ (n : ℕ). AnswersPage token n ask (Ok page)) same is

  pub reading_more : (old between new : L) (token : List ℕ) (options : CullOptions) (now : ℕ) (list after : List Cull) (users some offset next : ℕ) (page : Page)
      → Reading old token options now list users offset between → NextPage between token offset page new → page.more ≡ true
      → after ≡ list ++ culled options now page.users → some ≡ users + length page.users → next ≡ offset + 50
      → Reading old token options now after some next new
  reading_more old between new token options now list after users some offset next page was (ask, chain, is) more listed counted place =
      let here = at_place token offset (length was.pages * 50) ask page was.place is in record {
        asks = was.asks ++ ask ∷ [];
        pages = was.pages ++ page ∷ [];
        chain = asks_then asked does old between new was.asks (ask ∷ []) was.chain chain;
        leads = leads_more token was.asks was.pages ask page was.leads here more;
        place = omega (arith, place, was.place, length-append was.pages (page ∷ []));
        listed = listed ∙ (ap (λ (l : List Cull). l ++ culled options now page.users) was.listed ∙ culled_more options now was.pages page);
        counted = counted ∙ (ap (λ (n : ℕ). n + length page.users) was.counted ∙ sym (count_more was.pages page));
      }

  pub reading_whole : (old between new : L) (token : List ℕ) (options : CullOptions) (now : ℕ) (list after : List Cull) (users some offset : ℕ) (page : Page)
      → Reading old token options now list users offset between → NextPage between token offset page new → page.more ≡ false
      → after ≡ list ++ culled options now page.users → some ≡ users + length page.users
      → (asks : List Exchange) × (all : List UserView) × Asks asked does old asks new × ReadsUsers token asks all
      × (after ≡ culled options now all) × (some ≡ length all)
  reading_whole old between new token options now list after users some offset page was (ask, chain, is) last listed counted =
      let here = at_place token offset (length was.pages * 50) ask page was.place is in (
        was.asks ++ ask ∷ [],
        shown (was.pages ++ page ∷ []),
        asks_then asked does old between new was.asks (ask ∷ []) was.chain chain,
        reads_all token was.asks was.pages ask page was.leads here last,
        listed ∙ (ap (λ (l : List Cull). l ++ culled options now page.users) was.listed ∙ culled_more options now was.pages page),
        counted ∙ (ap (λ (n : ℕ). n + length page.users) was.counted ∙ sym (count_more was.pages page)),
      )

  pub reading_broken : (old between new : L) (token : List ℕ) (options : CullOptions) (now : ℕ) (list : List Cull) (users offset : ℕ) (fault : CullFault)
      → Reading old token options now list users offset between
      → (asks : List Exchange) × Asks asked does between asks new × IsPageFault token offset asks fault
      → (asks : List Exchange) × Asks asked does old asks new × IsReadingBroken token asks fault
  reading_broken old between new token options now list users offset fault was (here, chain, is) = (
    was.asks ++ here,
    asks_then asked does old between new was.asks here was.chain chain,
    broken_at token was.asks here was.pages fault was.leads (subst (λ (n : ℕ). IsPageFault token n here fault) was.place is),
  )

  pub reading_wanting : (old between new : L) (token : List ℕ) (options : CullOptions) (now : ℕ) (list : List Cull) (users offset : ℕ) (page : Page)
      → Reading old token options now list users offset between → NextPage between token offset page new
      → (asks : List Exchange) × Asks asked does old asks new × BeginsReading token asks
  reading_wanting old between new token options now list users offset page was (ask, chain, is) = (
    was.asks ++ ask ∷ [],
    asks_then asked does old between new was.asks (ask ∷ []) was.chain chain,
    wanting_at token was.asks was.pages ask page was.leads (at_place token offset (length was.pages * 50) ask page was.place is),
  )

  -- ---- the round

  broken_early : (token : List ℕ) (options : CullOptions) (now : ℕ) (asks : List Exchange) (fault : CullFault) → IsReadingBroken token asks fault
      → IsBroken token options now asks fault
  broken_early token options now asks LinkFault (begins, ends) = (inl begins, ends)
  broken_early token options now asks (BadReply status) bad = bad
  broken_early token options now asks Memory begins = inl begins

  pub round_early : (old new : L) (token : List ℕ) (options : CullOptions) (now : ℕ) (fault : CullFault)
      → (asks : List Exchange) × Asks asked does old asks new × IsReadingBroken token asks fault
      → (asks : List Exchange) × Asks asked does old asks new × IsBroken token options now asks fault
  round_early old new token options now fault (asks, chain, is) = (asks, chain, broken_early token options now asks fault is)

  -- what the reading of all pages gave
  abbrev pub HasRead : L → List ℕ → CullOptions → ℕ → List Cull → ℕ → L → Type 0
  HasRead old token options now list count between =
      (asks : List Exchange) × (users : List UserView) × Asks asked does old asks between × ReadsUsers token asks users
      × (list ≡ culled options now users) × (count ≡ length users)

  broken_late : (token : List ℕ) (options : CullOptions) (now : ℕ) (reading deletions : List Exchange) (users : List UserView) (fault : CullFault)
      → ReadsUsers token reading users → BeginsDeletions token options.remove_named (culled options now users) deletions → IsLinkFault deletions fault
      → IsBroken token options now (reading ++ deletions) fault
  broken_late token options now reading deletions users LinkFault reads begins is =
      (inr (record { reading = reading; deletions = deletions; users = users; asked = refl; reads = reads; begins = begins }), fault_behind reading deletions LinkFault is)
  broken_late token options now reading deletions users (BadReply status) reads begins is = absurd is
  broken_late token options now reading deletions users Memory reads begins is =
      inr (record { reading = reading; deletions = deletions; users = users; asked = refl; reads = reads; begins = begins })

  pub round_late : (old between new : L) (token : List ℕ) (options : CullOptions) (now : ℕ) (list : List Cull) (count : ℕ) (fault : CullFault)
      → HasRead old token options now list count between
      → (asks : List Exchange) × Asks asked does between asks new × BeginsDeletions token options.remove_named list asks × IsLinkFault asks fault
      → (asks : List Exchange) × Asks asked does old asks new × IsBroken token options now asks fault
  round_late old between new token options now list count fault (reading, users, first, reads, listed, counted) (deletions, second, begins, is) = (
    reading ++ deletions,
    asks_then asked does old between new reading deletions first second,
    broken_late token options now reading deletions users fault reads
        (subst (λ (cs : List Cull). BeginsDeletions token options.remove_named cs deletions) listed begins) is,
  )

  pub round_whole : (old between new : L) (token : List ℕ) (options : CullOptions) (now : ℕ) (list : List Cull) (count : ℕ) (counts : Counts)
      → HasRead old token options now list count between
      → (asks : List Exchange) × (outcomes : List Bool) × Asks asked does between asks new × DeletesAll token options.remove_named list asks outcomes
      × (counts ≡ record { culled = culled_count outcomes; refused = refused_count outcomes })
      → (asks : List Exchange) × Asks asked does old asks new
      × IsRound token options now asks (record { users = count; culled = counts.culled; refused = counts.refused })
  round_whole old between new token options now list count counts (reading, users, first, reads, listed, counted) (deletions, outcomes, second, deletes, told) = (
    reading ++ deletions,
    asks_then asked does old between new reading deletions first second,
    record {
      reading = reading;
      deletions = deletions;
      users = users;
      outcomes = outcomes;
      asked = refl;
      reads = reads;
      deletes = subst (λ (cs : List Cull). DeletesAll token options.remove_named cs deletions outcomes) listed deletes;
      counts = λ i. record { users = counted i; culled = (told i).culled; refused = (told i).refused };
    },
  )
