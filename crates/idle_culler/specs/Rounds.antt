-- One round: pages of users, and then deletions.
use Rattle.std.specs.Prelude.{◌≡◌, ◌⊎◌, ℕ, ◌*◌, ◌+◌, Bool, true, false, List, [], ◌∷◌, ◌++◌, length, All, Ok, Err}
use Rattle.std.specs.List.{flat_map}
use Rattle.hub_link.specs.Links.{Exchange}
use Rattle.idle_culler.specs.Culled.{culled}
use Rattle.idle_culler.specs.Deletions.{DeletesAll, BeginsDeletions, EndsInFault, culled_count, refused_count}
use Rattle.idle_culler.specs.Pages.{AnswersPage, IsAtMostPage}
use Rattle.idle_culler.specs.declared.rules.CullOptions.{CullOptions}
use Rattle.idle_culler.specs.declared.views.UserView.{UserView}
use Rattle.idle_culler.specs.declared.pages.Page.{Page}
use Rattle.idle_culler.specs.declared.pages.CullFault.{CullFault}
use Rattle.idle_culler.specs.declared.pages.CullFault.TheVariants.{LinkFault, BadReply, Memory}
use Rattle.idle_culler.specs.declared.rounds.Round.{Round}

-- ---- the pages

-- these pages were asked for, one every 50 users from an offset on, and given
abbrev pub GivesPages : List ℕ → ℕ → List Exchange → List Page → Type 0
GivesPages token offset [] [] = Unit {0}
GivesPages token offset (ask ∷ asks) (page ∷ pages) =
    AnswersPage token offset ask (Ok page) × GivesPages token (offset + 50) asks pages
GivesPages token offset [] (page ∷ pages) = ⊥
GivesPages token offset (ask ∷ asks) [] = ⊥

abbrev pub HasNext : Page → Type 0
HasNext page = page.more ≡ true

-- pages from the first on, each of which has a next one
pub record LeadsOn (token : List ℕ) (asks : List Exchange) (pages : List Page) : Type 0 where
  pub given : GivesPages token 0 asks pages
  pub next : All HasNext pages

-- the pages from the first to the one without a next one, which have these users
pub record ReadsUsers (token : List ℕ) (asks : List Exchange) (users : List UserView) : Type 0 where
  pub front : List Page
  pub last : Page
  pub given : GivesPages token 0 asks (front ++ last ∷ [])
  pub next : All HasNext front
  pub ends : last.more ≡ false
  pub shown : users ≡ flat_map (λ page. page.users) (front ++ last ∷ [])

-- pages that lead on, and at most one page more was asked for
pub record BeginsReading (token : List ℕ) (asks : List Exchange) : Type 0 where
  pub pages : List Page
  pub whole : List Exchange
  pub last : List Exchange
  pub leads : LeadsOn token whole pages
  pub begins : IsAtMostPage token (length pages * 50) last
  pub asked : asks ≡ whole ++ last

-- pages that lead on to a reply that is no page
pub record EndsInBadPage (token : List ℕ) (asks : List Exchange) (status : ℕ) : Type 0 where
  pub pages : List Page
  pub whole : List Exchange
  pub last : Exchange
  pub leads : LeadsOn token whole pages
  pub bad : AnswersPage token (length pages * 50) last (Err status)
  pub asked : asks ≡ whole ++ last ∷ []

-- why the reading broke off
abbrev pub IsReadingBroken : List ℕ → List Exchange → CullFault → Type 0
IsReadingBroken token asks LinkFault = BeginsReading token asks × EndsInFault asks
IsReadingBroken token asks (BadReply status) = EndsInBadPage token asks status
IsReadingBroken token asks Memory = BeginsReading token asks

-- ---- the round

-- all pages, and then exactly the deletions of what is culled
pub record IsRound (token : List ℕ) (options : CullOptions) (now : ℕ) (asks : List Exchange) (round : Round) : Type 0 where
  pub reading : List Exchange
  pub deletions : List Exchange
  pub users : List UserView
  pub outcomes : List Bool
  pub asked : asks ≡ reading ++ deletions
  pub reads : ReadsUsers token reading users
  pub deletes : DeletesAll token options.remove_named (culled options now users) deletions outcomes
  pub counts : round ≡ record { users = length users; culled = culled_count outcomes; refused = refused_count outcomes }

-- all pages, and then a beginning of the deletions
pub record BeginsCulling (token : List ℕ) (options : CullOptions) (now : ℕ) (asks : List Exchange) : Type 0 where
  pub reading : List Exchange
  pub deletions : List Exchange
  pub users : List UserView
  pub asked : asks ≡ reading ++ deletions
  pub reads : ReadsUsers token reading users
  pub begins : BeginsDeletions token options.remove_named (culled options now users) deletions

-- a beginning of a round
abbrev pub BeginsRound : List ℕ → CullOptions → ℕ → List Exchange → Type 0
BeginsRound token options now asks = BeginsReading token asks ⊎ BeginsCulling token options now asks

-- why a round broke off
abbrev pub IsBroken : List ℕ → CullOptions → ℕ → List Exchange → CullFault → Type 0
IsBroken token options now asks LinkFault = BeginsRound token options now asks × EndsInFault asks
IsBroken token options now asks (BadReply status) = EndsInBadPage token asks status
IsBroken token options now asks Memory = BeginsRound token options now asks
