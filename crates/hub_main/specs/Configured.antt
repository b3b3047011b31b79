-- With what the hub of a session is set up: what its file says, and its words on top.
use Rattle.std.specs.Prelude.{◌≡◌, ℕ, false, List, [], ◌∷◌, ◌++◌, Option, Some, None, Ok, ⊤}
use Rattle.hub_devices.specs.Faults.{Rises}
use Rattle.hub_devices.specs.NamedFiles.{Reads}
use Rattle.scope_filters.specs.declared.holder.Owner.TheVariants as Own
use Rattle.scope_filters.specs.declared.scope.RawScope.TheVariants.{Inherit}
use Rattle.hub_opening.specs.Opening.{greatest_limits}
use Rattle.hub_opening.specs.declared.config.ConfigToken.{ConfigToken}
use Rattle.hub_opening.specs.declared.config.HubConfig.{HubConfig}
use Rattle.hub_config.specs.Config.{config_in, IsSound}
use Rattle.hub_config.specs.declared.config.FileConfig.{FileConfig}
use Rattle.hub_words.specs.declared.session.SessionWords.{SessionWords}
use Rattle.hub_main.specs.Told.{FilesTold}
use Rattle.hub_main.specs.declared.cause.Cause.{Cause}
use Rattle.hub_main.specs.declared.cause.Cause.TheVariants.{Words, Memory, NoFile, NoConfig, UnknownName, NoStore, NotOpened}

-- ---- the file

-- a hub without a file: an empty pool, the greatest limits, and nobody
abbrev pub bare : HubConfig
bare = record {
  pool = [];
  hub_url = None;
  limits = greatest_limits;
  no_trail = false;
  users = [];
  groups = [];
  services = [];
  roles = [];
  tokens = [];
  custom_scopes = [];
}

-- a file is read up to this many bytes and one more
abbrev pub most : ℕ
most = 1048576

-- these bytes are a configuration, and this is what it says
pub record IsSaid (bytes : List ℕ) (file : FileConfig) : Type 0 where
  pub says : config_in bytes ≡ Ok file
  pub sound : IsSound file

-- the file of this name is a configuration, and this is what it says
pub record IsFile (files : FilesTold) (name : List ℕ) (file : FileConfig) : Type 0 where
  pub bytes : List ℕ
  pub reads : Reads files.files name most bytes
  pub said : IsSaid bytes file

-- These bytes are no configuration
abbrev pub AreNone : List ℕ → Type 0
AreNone bytes = (file : FileConfig) → config_in bytes ≡ Ok file → ¬ (IsSound file)

-- Why these bytes say nothing: they are no configuration, which the cause hands back as they were read, or memory was wanting. No other
-- cause comes here
abbrev pub SaysNothing : List ℕ → Cause → Type 0
SaysNothing bytes (NoConfig read) = (read ≡ bytes) × AreNone bytes
SaysNothing bytes Memory = ⊤
SaysNothing bytes Words = ⊥
SaysNothing bytes NoFile = ⊥
SaysNothing bytes (UnknownName unknown) = ⊥
SaysNothing bytes NoStore = ⊥
SaysNothing bytes (NotOpened e) = ⊥

-- What is said of the hub by the file of this name, or where no file is named
abbrev pub IsFound : FilesTold → (name : Option (List ℕ)) → HubConfig → Type 0
IsFound files None hub = hub ≡ bare
IsFound files (Some name) hub = (file : FileConfig) × IsFile files name file × (hub ≡ file.hub)

-- These bytes were read of the named file, and are no configuration
abbrev pub IsNoConfig : FilesTold → (name : Option (List ℕ)) → List ℕ → Type 0
IsNoConfig files None bytes = ⊥
IsNoConfig files (Some name) bytes = Reads files.files name most bytes × AreNone bytes

-- Why no configuration was found under this name: the count of the files' faults rose from `files` to `files'`, what was read is no
-- configuration, or memory was wanting. No other cause comes here
abbrev pub IsUnfound : (files files' : FilesTold) → (name : Option (List ℕ)) → Cause → Type 0
IsUnfound files files' name NoFile = Rises files.faults files'.faults
IsUnfound files files' name (NoConfig bytes) = IsNoConfig files name bytes
IsUnfound files files' name Memory = ⊤
IsUnfound files files' name Words = ⊥
IsUnfound files files' name (UnknownName unknown) = ⊥
IsUnfound files files' name NoStore = ⊥
IsUnfound files files' name (NotOpened e) = ⊥

-- ---- the words

-- a token of the user that holds all that the user holds
abbrev pub token_of : SessionWords → ConfigToken
token_of words = record { text = words.token; owner = Own.User words.user; scopes = Inherit ∷ [] }

-- the user of the words and this token come last
abbrev pub with_words : SessionWords → HubConfig → HubConfig
with_words words hub = record hub {
  no_trail = words.no_trail;
  users = hub.users ++ record { name = words.user; admin = words.admin } ∷ [];
  tokens = hub.tokens ++ token_of words ∷ [];
}

-- The configuration of a session with these words: what their file says, or that of a hub without a file, with the user of the words and
-- its token last
pub record IsConfig (files : FilesTold) (words : SessionWords) (config : HubConfig) : Type 0 where
  pub hub : HubConfig
  pub found : IsFound files words.config hub
  pub is : config ≡ with_words words hub
