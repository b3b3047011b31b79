-- How the asks of a round follow one another.
use Rattle.std.proofs.Common.{◌≡◌, ℕ, ◌+◌, ◌*◌, inr, Bool, true, false, not, if◌then◌else◌, List, [], ◌∷◌, ◌++◌, length, filter, Ok, Err, refl, sym, ap, ◌∙◌, subst, append_assoc, append-nil, length-append, arith}
use Rattle.std.specs.List.{flat_map}
use Rattle.std.proofs.lemmas.Grind.{flat_map-append}
use Rattle.std.proofs.lemmas.List.Elements.{All-push, All-nil, filter-append}
use Rattle.hub_devices.specs.declared.link_error.LinkError.TheVariants as Link
use Rattle.hub_link.specs.Links.{Exchange}
use Rattle.idle_culler.specs.declared.rules.Cull.{Cull}
use Rattle.idle_culler.specs.declared.rules.CullOptions.{CullOptions}
use Rattle.idle_culler.specs.declared.views.UserView.{UserView}
use Rattle.idle_culler.specs.declared.pages.Page.{Page}
use Rattle.idle_culler.specs.declared.pages.CullFault.{CullFault}
use Rattle.idle_culler.specs.declared.pages.CullFault.TheVariants.{LinkFault, BadReply, Memory}
use Rattle.idle_culler.specs.Culled.{culled, culled_of}
use Rattle.idle_culler.specs.Deletions.{Deletes, DeletesAll, IsLinkFault, culled_count, refused_count}
use Rattle.idle_culler.specs.Pages.{AnswersPage, IsPageFault}
use Rattle.idle_culler.specs.Rounds.{GivesPages, HasNext, LeadsOn, ReadsUsers, BeginsReading, IsReadingBroken}

-- ---- pages

pub gives_more : (token : List ℕ) (from : ℕ) (asks : List Exchange) (pages : List Page) (ask : Exchange) (page : Page) → GivesPages token from asks pages
    → AnswersPage token (length pages * 50 + from) ask (Ok page) → GivesPages token from (asks ++ ask ∷ []) (pages ++ page ∷ [])
gives_more token from [] [] ask page given one = (subst (λ (at : ℕ). AnswersPage token at ask (Ok page)) (omega arith) one, tt {0})
gives_more token from (a ∷ asks) (p ∷ pages) ask page (first, more) one = (
  first,
  gives_more token (from + 50) asks pages ask page more
      (subst (λ (at : ℕ). AnswersPage token at ask (Ok page)) (omega arith) one),
)
gives_more token from [] (p ∷ pages) ask page given one = absurd given
gives_more token from (a ∷ asks) [] ask page given one = absurd given

at_start : (token : List ℕ) (pages : List Page) (ask : Exchange) (page : Page) → AnswersPage token (length pages * 50) ask (Ok page)
    → AnswersPage token (length pages * 50 + 0) ask (Ok page)
at_start token pages ask page one = subst (λ (at : ℕ). AnswersPage token at ask (Ok page)) (omega arith) one

pub none_yet : (token : List ℕ) → LeadsOn token [] []
none_yet token = record { given = tt {0}; next = All-nil HasNext }

pub leads_more : (token : List ℕ) (asks : List Exchange) (pages : List Page) (ask : Exchange) (page : Page) → LeadsOn token asks pages
    → AnswersPage token (length pages * 50) ask (Ok page) → page.more ≡ true → LeadsOn token (asks ++ ask ∷ []) (pages ++ page ∷ [])
leads_more token asks pages ask page leads one more = record {
  given = gives_more token 0 asks pages ask page leads.given (at_start token pages ask page one);
  next = All-push HasNext pages page leads.next more;
}

abbrev pub shown : List Page → List UserView
shown pages = flat_map (λ (page : Page). page.users) pages

pub shown_more : (pages : List Page) (page : Page) → shown (pages ++ page ∷ []) ≡ shown pages ++ page.users
shown_more pages page =
    flat_map-append (λ (p : Page). p.users) pages (page ∷ []) ∙ ap (λ us. shown pages ++ us) (append-nil page.users)

pub reads_all : (token : List ℕ) (asks : List Exchange) (pages : List Page) (ask : Exchange) (page : Page) → LeadsOn token asks pages
    → AnswersPage token (length pages * 50) ask (Ok page) → page.more ≡ false → ReadsUsers token (asks ++ ask ∷ []) (shown (pages ++ page ∷ []))
reads_all token asks pages ask page leads one ends = record {
  front = pages;
  last = page;
  given = gives_more token 0 asks pages ask page leads.given (at_start token pages ask page one);
  next = leads.next;
  ends = ends;
  shown = refl;
}

pub culled_more : (options : CullOptions) (now : ℕ) (pages : List Page) (page : Page)
    → culled options now (shown pages) ++ culled options now page.users ≡ culled options now (shown (pages ++ page ∷ []))
culled_more options now pages page =
    sym (flat_map-append (culled_of options now) (shown pages) page.users) ∙ ap (culled options now) (sym (shown_more pages page))

pub count_more : (pages : List Page) (page : Page) → length (shown (pages ++ page ∷ [])) ≡ length (shown pages) + length page.users
count_more pages page = ap length (shown_more pages page) ∙ length-append (shown pages) page.users

-- a fault at a page behind those that were given
pub broken_at : (token : List ℕ) (whole asks : List Exchange) (pages : List Page) (fault : CullFault) → LeadsOn token whole pages
    → IsPageFault token (length pages * 50) asks fault → IsReadingBroken token (whole ++ asks) fault
broken_at token whole asks pages LinkFault leads is = (
  record {
    pages = pages;
    whole = whole;
    last = asks;
    leads = leads;
    begins = inr (Err Link.Failed, is);
    asked = refl;
  },
  (whole, _, ap (λ (xs : List Exchange). whole ++ xs) is),
)
broken_at token whole asks pages (BadReply status) leads (ask, one, bad) = record {
  pages = pages;
  whole = whole;
  last = ask;
  leads = leads;
  bad = bad;
  asked = ap (λ (xs : List Exchange). whole ++ xs) one;
}
broken_at token whole asks pages Memory leads is = record {
  pages = pages;
  whole = whole;
  last = asks;
  leads = leads;
  begins = is;
  asked = refl;
}

-- want of memory behind a page
pub wanting_at : (token : List ℕ) (whole : List Exchange) (pages : List Page) (ask : Exchange) (page : Page) → LeadsOn token whole pages
    → AnswersPage token (length pages * 50) ask (Ok page) → BeginsReading token (whole ++ ask ∷ [])
wanting_at token whole pages ask page leads one = record {
  pages = pages;
  whole = whole;
  last = ask ∷ [];
  leads = leads;
  begins = inr (Ok one.bytes, ap (λ (x : Exchange). x ∷ []) one.asked);
  asked = refl;
}

-- ---- deletions

pub deletes_more : (token : List ℕ) (remove : Bool) (culls : List Cull) (asks : List Exchange) (outcomes : List Bool) (cull : Cull) (here : List Exchange) (done : Bool)
    → DeletesAll token remove culls asks outcomes → Deletes token remove cull here done
    → DeletesAll token remove (culls ++ cull ∷ []) (asks ++ here) (outcomes ++ done ∷ [])
deletes_more token remove [] asks outcomes cull here done (no_asks, no_outcomes) one = (
  here,
  [],
  done,
  [],
  ap (λ (xs : List Exchange). xs ++ here) no_asks ∙ sym (append-nil here),
  ap (λ (os : List Bool). os ++ done ∷ []) no_outcomes,
  one,
  (refl, refl),
)
deletes_more token remove (c ∷ culls) asks outcomes cull here done (first, rest, was, others, asked, told, each, more) one = (
  first,
  rest ++ here,
  was,
  others ++ done ∷ [],
  ap (λ (xs : List Exchange). xs ++ here) asked ∙ append_assoc first rest here,
  ap (λ (os : List Bool). os ++ done ∷ []) told,
  each,
  deletes_more token remove culls rest others cull here done more one,
)

pub culled_one : (outcomes : List Bool) (done : Bool) → culled_count (outcomes ++ done ∷ []) ≡ (if done then culled_count outcomes + 1 else culled_count outcomes)
culled_one outcomes true = ap length (filter-append (λ (b : Bool). b) outcomes (true ∷ [])) ∙ length-append (filter (λ (b : Bool). b) outcomes) (true ∷ [])
culled_one outcomes false = ap length (filter-append (λ (b : Bool). b) outcomes (false ∷ []) ∙ append-nil (filter (λ (b : Bool). b) outcomes))

pub refused_one : (outcomes : List Bool) (done : Bool) → refused_count (outcomes ++ done ∷ []) ≡ (if done then refused_count outcomes else refused_count outcomes + 1)
refused_one outcomes true = ap length (filter-append not outcomes (true ∷ []) ∙ append-nil (filter not outcomes))
refused_one outcomes false = ap length (filter-append not outcomes (false ∷ [])) ∙ length-append (filter not outcomes) (false ∷ [])

-- a fault that comes behind other asks
pub fault_behind : (front asks : List Exchange) (fault : CullFault) → IsLinkFault asks fault → IsLinkFault (front ++ asks) fault
fault_behind front asks LinkFault (before, request, is) =
    (front ++ before, request, ap (λ (xs : List Exchange). front ++ xs) is ∙ sym (append_assoc front before ((request, Err Link.Failed) ∷ [])))
fault_behind front asks (BadReply status) is = absurd is
fault_behind front asks Memory is = is
