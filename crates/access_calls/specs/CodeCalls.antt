-- The calls on share codes.
use Rattle.std.specs.Prelude.{ℕ, ◌+◌, ◌-◌, ◌^◌, Bool, ◌||◌, nat_le, List, [], ◌∷◌, ◌++◌, map, length, codes, Option, Some, None, is_some}
use Rattle.std.specs.FinMap.{get, len}
use Rattle.hub_kit.specs.Hashes.{draw_text}
use Rattle.hub_kit.specs.declared.names.ServerKey.{ServerKey}
use Rattle.scope_filters.specs.declared.scope.RawScope.{RawScope}
use Rattle.hub_rows.specs.declared.changes.RowChange.{RowChange}
use Rattle.hub_rows.specs.declared.changes.RowChange.TheVariants.{Put, Remove}
use Rattle.hub_rows.specs.declared.records.ShareCode.{ShareCode}
use Rattle.hub_rows.specs.declared.rows.Row.TheVariants as Row
use Rattle.hub_rows.specs.declared.rows.RowKey.TheVariants as RowKey
use Rattle.hub_tables.specs.Lookups.{code_of_hash, next_of}
use Rattle.hub_tables.specs.State.{State}
use Rattle.shares.specs.Codes as shares
use Rattle.shares.specs.Codes.{expired_codes, make_code}
use Rattle.shares.specs.Lists.{codes_of}
use Rattle.shares.specs.declared.lists.CodesOf.{CodesOf}
use Rattle.shares.specs.declared.lists.CodesOf.TheVariants.{Owner, Server}
use Rattle.hub_view.specs.Json.{Json}
use Rattle.hub_view.specs.Pages.{paged_list}
use Rattle.hub_view.specs.Records.{code_body, new_code_body}
use Rattle.hub_view.specs.declared.pages.Page.{Page}
use Rattle.hub_machine.specs.State.{Hub}
use Rattle.hub_machine.specs.Replies.{Answer, refuses, gives, rows_then, good, rules, if_so}
use Rattle.hub_machine.specs.declared.refusal.Refusal.{Refusal}
use Rattle.hub_machine.specs.declared.refusal.Refusal.TheVariants.{Exists, Full, NoDraw}
use Rattle.access_calls.specs.ShareCalls.{by_rules, put_share}

-- ---- lists

-- The body of a share code; nothing stands for one that isn't kept
abbrev pub body_of_code : Option ShareCode → Json
body_of_code None = []
body_of_code (Some code) = code_body code

-- The body of the code with this id
abbrev pub code_at : Hub → (id : ℕ) → Json
code_at s id = body_of_code (get s.tables.codes id)

-- the path of their list, behind `/hub/api`
abbrev pub codes_path : CodesOf → List ℕ
codes_path (Owner owner) = codes "/share-codes/" ++ owner
codes_path (Server server) = codes "/share-codes/" ++ (server.user ++ codes "/" ++ server.server)

-- GET /share-codes/{owner}, GET /share-codes/{owner}/{server}: in the order of their ids
abbrev pub get_codes : Hub → CodesOf → Page → Answer
get_codes s whose page = gives (good 200 (paged_list (codes_path whose) page (map (code_at s) (codes_of s.tables whose))))

-- ---- POST /users/{user}/shared

-- The user brings the text of a code, and gets its share
abbrev pub accept_code : Hub → (now : ℕ) → (user text : List ℕ) → Answer
accept_code s now user text = by_rules (shares.accept_code s.tables user text now) (put_share s)

-- ---- POST /share-codes/{owner}/{server}

-- there is no room for a code more once those that are over have gone, or no number is left for it
abbrev pub is_without_room : State → (over : List ℕ) → Bool
is_without_room t over = nat_le t.limits.codes (len t.codes - length over) || nat_le (2 ^ 64 - 1) (next_of t (codes "code"))

-- What refuses a new code, in this order, where those in `over` go with it: its hash is kept, or there is no room for it
abbrev pub code_rules : State → (over : List ℕ) → ShareCode → List (Option Refusal)
code_rules t over code =
    if_so (is_some (code_of_hash t code.hash)) (Exists (codes "code"))
    ∷ if_so (is_without_room t over) (Full 9 t.limits.codes)
    ∷ []

-- The codes with these ids go
abbrev pub removals : (ids : List ℕ) → List RowChange
removals ids = map (λ id. Remove (RowKey.ShareCode id)) ids

-- it is put, its number is used up, and the codes that are over go
abbrev pub code_rows : ShareCode → (over : List ℕ) → List RowChange
code_rows code over =
    Put (Row.ShareCode code)
    ∷ Put (Row.Next (record { name = codes "code"; next = code.id + 1 }))
    ∷ removals over

-- the one reply that tells the text of a code
abbrev pub made : ShareCode → (over : List ℕ) → (text : List ℕ) → Answer
made code over text = rows_then (code_rows code over) (good 201 (new_code_body code text))

-- The answer for a new code of this text, where those in `over` go with it
abbrev pub put_code : Hub → (over : List ℕ) → (text : List ℕ) → ShareCode → Answer
put_code s over text code = rules (code_rules s.tables over code) (made code over text)

-- the code is of the next number. The server's codes that are over go with the same change
abbrev pub offer : Hub → (now : ℕ) → (text : List ℕ) → ServerKey → List RawScope → (life : ℕ) → Answer
offer s now text server scopes life =
    by_rules (make_code server scopes life text (next_of s.tables (codes "code")) now) (put_code s (expired_codes s.tables now server) text)

-- its text is that of the draw
abbrev pub post_code : Hub → (now : ℕ) → (draw : Option (List ℕ)) → ServerKey → List RawScope → (life : ℕ) → Answer
post_code s now None server scopes life = refuses NoDraw
post_code s now (Some draw) server scopes life = offer s now (draw_text draw) server scopes life

-- ---- DELETE /share-codes/{owner}/{server}

-- the one code that is named, or all of the server
abbrev pub named_codes : State → ServerKey → Option ℕ → List ℕ
named_codes t server None = codes_of t (Server server)
named_codes t server (Some id) = id ∷ []

-- The code of the server that is named goes, or all of them where none is
abbrev pub delete_codes : Hub → ServerKey → Option ℕ → Answer
delete_codes s server id = rows_then (removals (named_codes s.tables server id)) (good 204 [])
