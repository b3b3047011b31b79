-- The objects of tokens, share codes, and the clients and codes of OAuth.
use Rattle.std.specs.Prelude.{map, codes, IsTrue, refl}
use Rattle.std.specs.List.{AllByRecursion}
use Rattle.std.proofs.Common.{arith}
use Rattle.hub_kit.specs.Names.{IsName}
use Rattle.scope_filters.specs.Scopes.{scope_text}
use Rattle.serde_json.specs.Data.{Data, string, object, member, no_members}
use Rattle.hub_rows.specs.ClientIds.{is_client_id}
use Rattle.hub_rows.specs.declared.records.OAuthClient.{OAuthClient}
use Rattle.hub_rows.specs.declared.records.OAuthCode.{OAuthCode}
use Rattle.hub_rows.specs.declared.records.ShareCode.{ShareCode}
use Rattle.hub_rows.specs.declared.records.Token.{Token}
use Rattle.record_texts.specs.Fields.{whole, maybe, lines, IfThere, IsMoment, IsWord, moment_fits, moment_plain, word_plain, whole_flat}
use Rattle.record_texts.specs.Fields.{text_plain, text_flat, strings_plain, strings_flat}
use Rattle.key_texts.specs.KeyTexts.{server_text, owner_text, IsServer, IsOwner, IsScope}
use Rattle.record_texts.specs.Plain.{IsRecordData}

abbrev pub token_object : Token → Data
token_object t = object
    (member (codes "client") (maybe (λ text. string text) t.client)
    (member (codes "created") (whole t.created)
    (member (codes "expires_at") (maybe whole t.expires_at)
    (member (codes "hash") (string t.hash)
    (member (codes "issued_for") (maybe (λ key. string (server_text key)) t.issued_for)
    (member (codes "note") (string t.note)
    (member (codes "owner") (string (owner_text t.owner))
    (member (codes "scopes") (lines scope_text t.scopes) no_members))))))))

abbrev pub code_object : ShareCode → Data
code_object c = object
    (member (codes "created") (whole c.created)
    (member (codes "expires_at") (whole c.expires_at)
    (member (codes "hash") (string c.hash)
    (member (codes "scopes") (lines scope_text c.scopes)
    (member (codes "server") (string (server_text c.server)) no_members)))))

abbrev pub client_object : OAuthClient → Data
client_object c = object
    (member (codes "hash") (string c.hash)
    (member (codes "redirect_uri") (string c.redirect_uri) no_members))

abbrev pub grant_code_object : OAuthCode → Data
grant_code_object c = object
    (member (codes "client") (string c.client)
    (member (codes "expires_at") (whole c.expires_at)
    (member (codes "owner") (string c.owner)
    (member (codes "redirect_uri") (string c.redirect_uri)
    (member (codes "token") (maybe whole c.token) no_members)))))

-- ---- what is true of each record, and that its object reads back

pub record IsToken (t : Token) : Type 0 where
  pub id : IsWord t.id
  pub created : IsMoment t.created
  pub expires_at : IfThere IsMoment t.expires_at
  pub issued_for : IfThere IsServer t.issued_for
  pub owner : IsOwner t.owner
  pub scopes : AllByRecursion IsScope t.scopes

pub record IsCode (c : ShareCode) : Type 0 where
  pub id : IsWord c.id
  pub created : IsMoment c.created
  pub expires_at : IsMoment c.expires_at
  pub scopes : AllByRecursion IsScope c.scopes
  pub server : IsServer c.server

pub record IsClient (c : OAuthClient) : Type 0 where
  pub id : IsTrue (is_client_id c.id)

pub record IsGrantCode (c : OAuthCode) : Type 0 where
  pub expires_at : IsMoment c.expires_at
  pub owner : IsName c.owner
  pub token : IfThere IsWord c.token

pub token_plain : (t : Token) → IsToken t → IsRecordData (token_object t)
token_plain t h = (
  (
    refl,
    (
      text_plain (λ text. text) t.client,
      (
        moment_fits t.created h.created,
        (moment_plain t.expires_at h.expires_at, (tt, (text_plain server_text t.issued_for, (tt, (tt, (strings_plain _, tt)))))),
      ),
    ),
  ),
  omega (
    arith,
    text_flat (λ text. text) t.client,
    whole_flat t.expires_at,
    text_flat server_text t.issued_for,
    strings_flat
        (map scope_text t.scopes),
  ),
)

pub code_plain : (c : ShareCode) → IsCode c → IsRecordData (code_object c)
code_plain c h = (
  (refl, (moment_fits c.created h.created, (moment_fits c.expires_at h.expires_at, (tt, (strings_plain _, (tt, tt)))))),
  omega (arith, strings_flat (map scope_text c.scopes)),
)

pub client_plain : (c : OAuthClient) → IsClient c → IsRecordData (client_object c)
client_plain c h = ((refl, (tt, (tt, tt))), omega arith)

pub grant_code_plain : (c : OAuthCode) → IsGrantCode c → IsRecordData (grant_code_object c)
grant_code_plain c h = (
  (refl, (tt, (moment_fits c.expires_at h.expires_at, (tt, (tt, (word_plain c.token h.token, tt)))))),
  omega
      (arith, whole_flat c.token),
)
