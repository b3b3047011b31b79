-- Codes of the grant: what one is made as, and which are over.
use Rattle.std.specs.Prelude.{ℕ, ◌+◌, Bool, List, map, Some, None}
use Rattle.std.specs.List.{filter}
use Rattle.std.specs.FinMap.{values}
use Rattle.hub_kit.specs.Hashes.{hash_text}
use Rattle.hub_kit.specs.Moments.{capped}
use Rattle.hub_rows.specs.declared.records.OAuthClient.{OAuthClient}
use Rattle.hub_rows.specs.declared.records.OAuthCode.{OAuthCode}
use Rattle.hub_tables.specs.Ends.{is_over}
use Rattle.hub_tables.specs.State.{State}

-- five minutes
abbrev pub life_of_code : ℕ
life_of_code = 300

-- the unused code of a text, for a client at its own URI
abbrev pub made_code : OAuthClient → (owner text : List ℕ) → (now : ℕ) → OAuthCode
made_code client owner text now = record {
  hash = hash_text text;
  client = client.id;
  expires_at = capped (now + life_of_code);
  owner = owner;
  redirect_uri = client.redirect_uri;
  token = None;
}

-- The code has expired by the moment `now`
abbrev pub is_expired_code : (now : ℕ) → OAuthCode → Bool
is_expired_code now code = is_over now (Some code.expires_at)

-- the hashes of those among codes that are over
abbrev pub expired_among : (now : ℕ) → List OAuthCode → List (List ℕ)
expired_among now codes = map (λ (c : OAuthCode). c.hash) (filter (is_expired_code now) codes)

-- the hashes of all codes that are over, in order
abbrev pub expired_codes : State → (now : ℕ) → List (List ℕ)
expired_codes t now = expired_among now (values t.grant_codes)
