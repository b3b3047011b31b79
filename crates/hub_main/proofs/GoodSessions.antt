-- A good session is served.
use Rattle.std.proofs.Common.{◌≡◌, ◌≤◌, ◌∙◌, inl, inr, ℕ, Bool, true, not, List, Option, Some, is_some, Result, Ok, Err, refl, sym, subst, arith}
use Rattle.std.specs.Prelude.{⊤}
use Rattle.http_wire.specs.declared.error.SessionFault.{SessionFault}
use Rattle.http_wire.specs.declared.error.SessionFault.TheVariants.{ReadFault, WriteFault}
use Rattle.hub_devices.specs.Faults.{Rises}
use Rattle.keeper.specs.Rows.{Rows}
use Rattle.hub_core.specs.declared.start.Start.{Start}
use Rattle.hub_opening.specs.declared.config.HubConfig.{HubConfig}
use Rattle.hub_opening.specs.declared.open_error.OpenError.{OpenError}
use Rattle.hub_opening.specs.declared.open_error.OpenError.TheVariants as opening
use Rattle.hub_run.specs.Connections.{ConnectionEnds, Known}
use Rattle.hub_run.specs.Turns.{View}
use Rattle.hub_run.specs.declared.served.Served.{Served}
use Rattle.hub_run.specs.declared.served.Served.TheVariants.{Ended, Cut, Closed}
use Rattle.hub_words.specs.declared.session.SessionWords.{SessionWords}
use Rattle.hub_main.specs.Told.{FilesTold, Sides}
use Rattle.hub_main.specs.Ends.{End, cause_status, open_status, served_status, status_of}
use Rattle.hub_main.specs.Configured.{IsConfig, IsUnfound}
use Rattle.hub_main.specs.Opened.{IsNotOpened, IsUnchosen, IsUnknown, IsUnopened}
use Rattle.hub_main.specs.Served.{SessionEndsOver, PassEnds, known_at}
use Rattle.hub_main.specs.Sessions.{EndsChosen, EndsConfigured, EndsUnchosen, EndsUnconfigured, EndsUnopened, RunEnds, SessionEnds}
use Rattle.hub_main.specs.Known.{are_known, unknown_name}
use Rattle.hub_main.specs.Good.{Fits, IsGood, IsGoodStatus, NoneRose, Stands}
use Rattle.hub_main.specs.declared.cause.Cause.{Cause}
use Rattle.hub_main.specs.declared.cause.Cause.TheVariants.{Words, Memory, NoFile, NoConfig, UnknownName, NoStore, NotOpened}
use Rattle.hub_main.specs.declared.known_names.AnyName.{AnyName}
use Rattle.hub_main.proofs.Unknown.{unknown_where}
use Rattle.hub_main.proofs.Moved.{bad_before, full_before, lost_before}

pub never : (before after : ℕ) → Stands before after → Rises before after → ⊥
never before after stands rises = let risen = rises stands.0 in let low = stands.1 in omega (arith, risen, low)

seven : IsGoodStatus 7
seven = inr (inr refl)

-- ---- the connection

served_good : (start : Start) (x y : Known) (end : Result Served SessionFault) → Stands x.input.faults y.input.faults → Stands x.output.faults y.output.faults
    → ConnectionEnds start x y end → IsGoodStatus (served_status end)
served_good start x y (Ok (Ended n)) input output ends = inl refl
served_good start x y (Ok (Closed n)) input output ends = inl refl
served_good start x y (Ok (Cut n)) input output ends = inr (inl refl)
served_good start x y (Err (ReadFault n)) input output ends = absurd (never x.input.faults y.input.faults input ends.6)
served_good start x y (Err (WriteFault n)) input output ends = absurd (never x.output.faults y.output.faults output ends.11)

pass_good : (start : Start) (x y : View) (s s' : Sides) (end : End) → Stands s.input.faults s'.input.faults → Stands s.output.faults s'.output.faults
    → PassEnds start x y s s' end → IsGoodStatus (status_of end)
pass_good start x y s s' (Ok end) input output ends = served_good start (known_at ends.ready s) (known_at y s') end input output ends.connection
pass_good start x y s s' (Err Memory) input output ends = seven
pass_good start x y s s' (Err Words) input output ends = absurd ends
pass_good start x y s s' (Err NoFile) input output ends = absurd ends
pass_good start x y s s' (Err (NoConfig bytes)) input output ends = absurd ends
pass_good start x y s s' (Err (UnknownName name)) input output ends = absurd ends
pass_good start x y s s' (Err NoStore) input output ends = absurd ends
pass_good start x y s s' (Err (NotOpened e)) input output ends = absurd ends

-- ---- the configuration

found_good : (files files' : FilesTold) (words : SessionWords) (cause : Cause) → Stands files.faults files'.faults
    → ((bytes : List ℕ) → IsUnfound files files' words.config (NoConfig bytes) → ⊥) → IsUnfound files files' words.config cause → IsGoodStatus (cause_status cause)
found_good files files' words NoFile stands reads unfound = absurd (never files.faults files'.faults stands unfound)
found_good files files' words (NoConfig bytes) stands reads unfound = absurd (reads bytes unfound)
found_good files files' words Memory stands reads unfound = seven
found_good files files' words Words stands reads unfound = absurd unfound
found_good files files' words (UnknownName name) stands reads unfound = absurd unfound
found_good files files' words NoStore stands reads unfound = absurd unfound
found_good files files' words (NotOpened e) stands reads unfound = absurd unfound

pub chosen_good : (before after : ℕ) (cause : Cause) → Stands before after → IsUnchosen before after cause → cause_status cause ≡ 7
chosen_good before after NoStore stands unchosen = absurd (never before after stands unchosen)
chosen_good before after Memory stands unchosen = refl
chosen_good before after Words stands unchosen = absurd unchosen
chosen_good before after NoFile stands unchosen = absurd unchosen
chosen_good before after (NoConfig bytes) stands unchosen = absurd unchosen
chosen_good before after (UnknownName name) stands unchosen = absurd unchosen
chosen_good before after (NotOpened e) stands unchosen = absurd unchosen

-- ---- the book

none_unknown : (all : Bool) (unknown : Option AnyName) (name : AnyName) → is_some unknown ≡ not all → all ≡ true → unknown ≡ Some name → ⊥
none_unknown all unknown name some known is = absurd cc

names_good : (config : HubConfig) (now : ℕ) (has : Rows) (Tells : Type 0) (name : AnyName) → Tells → Fits config now has → IsUnknown config Tells has name → ⊥
names_good config now has Tells name told fits (kept, lists, is) =
    none_unknown (are_known config kept) (unknown_name config kept) name (unknown_where config kept) (fits.names kept (lists told)) is

module _ {K : Type 0} (Tells : K → Type 0) (rows : K → Rows) (faults : K → ℕ) where
  not_opened_good : (config : HubConfig) (now : ℕ) (k k' : K) (e : OpenError) → Tells k' → Stands (faults k) (faults k') → Fits config now (rows k)
      → IsNotOpened Tells rows faults config now k k' e → open_status e ≡ 7
  not_opened_good config now k k' opening.KeeperFault told stands fits why = absurd (never (faults k) (faults k') stands why)
  not_opened_good config now k k' (opening.BadRow kind key) told stands fits why =
      absurd (fits.sound kind key (bad_before ⊤ (Tells k') (rows k) (rows k) (λ t. (told, λ kind key. refl)) config.limits config.custom_scopes kind key why.0))
  not_opened_good config now k k' (opening.LostTarget target) told stands fits why =
      absurd (fits.pooled target (lost_before ⊤ (Tells k') (rows k) (rows k) (λ t. (told, λ kind key. refl)) config target why.0))
  not_opened_good config now k k' (opening.Full kind limit) told stands fits why =
      absurd (fits.few kind limit (full_before ⊤ (Tells k') (rows k) (rows k) (λ t. (told, λ kind key. refl)) config now kind limit why.0))
  not_opened_good config now k k' opening.Memory told stands fits why = refl

  pub unopened_good : (config : HubConfig) (now : ℕ) (k k' : K) (cause : Cause) → Tells k' → Stands (faults k) (faults k') → Fits config now (rows k)
      → IsUnopened Tells rows faults config now k k' cause → cause_status cause ≡ 7
  unopened_good config now k k' (UnknownName name) told stands fits why = absurd (names_good config now (rows k) (Tells k') name told fits why)
  unopened_good config now k k' (NotOpened e) told stands fits why = not_opened_good config now k k' e told stands fits why
  unopened_good config now k k' Memory told stands fits why = refl
  unopened_good config now k k' Words told stands fits why = absurd why
  unopened_good config now k k' NoFile told stands fits why = absurd why
  unopened_good config now k k' (NoConfig bytes) told stands fits why = absurd why
  unopened_good config now k k' NoStore told stands fits why = absurd why

  over_good : (start : Start) (counted now : ℕ) (s s' : Sides) (k' : K) (end : End) → Stands s.input.faults s'.input.faults → Stands s.output.faults s'.output.faults
      → SessionEndsOver Tells rows faults start counted now s s' k' end → IsGoodStatus (status_of end)
  over_good start counted now s s' k' end input output (inl wanting) = subst (λ (e : End). IsGoodStatus (status_of e)) (sym wanting.0) seven
  over_good start counted now s s' k' end input output (inr over) = pass_good start _ over.1.last s s' end input output over.1.ends

  opened_good : (config : HubConfig) (now : ℕ) (s s' : Sides) (k k' : K) (end : End) → Tells k' → Stands (faults k) (faults k') → Fits config now (rows k)
      → Stands s.input.faults s'.input.faults → Stands s.output.faults s'.output.faults
      → EndsChosen Tells rows faults config now s s' k k' end → IsGoodStatus (status_of end)
  opened_good config now s s' k k' (Ok end) told stands fits input output (inl ends) = absurd ends
  opened_good config now s s' k k' (Err cause) told stands fits input output (inl ends) =
      inr (inr (unopened_good config now k k' cause told stands fits ends.0))
  opened_good config now s s' k k' end told stands fits input output (inr ends) = over_good ends.0 ends.1 now s s' k' end input output ends.3

-- ---- the whole

module _ {K : Type 0} (Tells : K → Type 0) (rows : K → Rows) (faults : K → ℕ) (Chooses : K → Option (List ℕ) → K → Type 0) where
  configured_good : (words : SessionWords) (files : FilesTold) (config : HubConfig) (s s' : Sides) (k k' : K) (end : End)
      → IsGood rows Chooses words files k → Tells k' → IsConfig files words config → Stands (faults k) (faults k')
      → Stands s.input.faults s'.input.faults → Stands s.output.faults s'.output.faults
      → EndsConfigured Tells rows faults Chooses words.db config words.now s s' k k' end → IsGoodStatus (status_of end)
  configured_good words files config s s' k k' (Ok end) good told is stands input output (inl ends) = absurd ends
  configured_good words files config s s' k k' (Err cause) good told is stands input output (inl ends) =
      inr (inr (chosen_good (faults k) (faults k') cause stands ends.0))
  configured_good words files config s s' k k' end good told is stands input output (inr ends) =
      let less = ends.1.counted in let more = ends.2 in let below = stands.0 in let low = stands.1 in
      opened_good Tells rows faults config words.now s s' ends.0 k' end told (omega (arith, less, more, below, low), omega (arith, less, more, below, low))
      (good.fits config ends.0 is ends.1.chooses) input output ends.3

  session_good : (words : SessionWords) (files files' : FilesTold) (s s' : Sides) (k k' : K) (end : End)
      → IsGood rows Chooses words files k → Tells k' → NoneRose faults files files' s s' k k'
      → SessionEnds Tells rows faults Chooses words files files' s s' k k' end → IsGoodStatus (status_of end)
  session_good words files files' s s' k k' (Ok end) good told none (inl ends) = absurd ends
  session_good words files files' s s' k k' (Err cause) good told none (inl ends) = found_good files files' words cause none.files_stand good.file ends.0
  session_good words files files' s s' k k' end good told none (inr ends) =
      configured_good words files ends.0 s s' k k' end good told ends.1 none.store none.input none.output ends.2

  pub run_good : (words : SessionWords) (files files' : FilesTold) (s s' : Sides) (k k' : K) (end : Option End) (status : ℕ)
      → IsGood rows Chooses words files k → Tells k' → NoneRose faults files files' s s' k k'
      → RunEnds Tells rows faults Chooses (Some words) files files' s s' k k' end status → IsGoodStatus status
  run_good words files files' s s' k k' end status good told none ends =
      subst IsGoodStatus (sym ends.3) (session_good words files files' s s' k k' ends.0 good told none ends.2)
