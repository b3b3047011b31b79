-- The queries of the calls.
use Rattle.std.specs.Prelude.{ℕ, ◌==◌, Bool, List, codes, Option, Some, None, option_map, Result, Ok, Err, ok_or, if◌then◌else◌}
use Rattle.std.specs.Result.{result_ok}
use Rattle.hub_kit.specs.ServerKeys.{key_read}
use Rattle.hub_kit.specs.declared.names.ServerKey.{ServerKey}
use Rattle.http_wire.specs.declared.request.Request.{Request}
use Rattle.request_parts.specs.Steps.{◌>>=◌}
use Rattle.request_parts.specs.Queries.{decimal_of, query_value, query_number}
use Rattle.hub_view.specs.declared.pages.Page.{Page}
use Rattle.hub_api.specs.declared.refusal.ApiRefusal.{ApiRefusal}
use Rattle.hub_api.specs.declared.refusal.ApiRefusal.TheVariants.{BadQuery}

-- a page has one object at least
abbrev pub page_from : ℕ → ℕ → Bool → Result Page ApiRefusal
page_from offset limit paged = if limit == 0 then Err BadQuery else Ok (record { offset = offset; limit = limit; paged = paged })

-- a number of the query, or a default where its key is absent
unfoldable pub number_of : List ℕ → ℕ → Request → Result ℕ ApiRefusal
number_of key default q = ok_or (query_number key default q.query) BadQuery

-- the part of a list that is asked, and whether it is told as a page: `offset` is 0 where it is absent, and `limit` 50
unfoldable pub page_of : Request → Result Page ApiRefusal
page_of q = do
  offset ← number_of (codes "offset") 0 q
  limit ← number_of (codes "limit") 50 q
  page_from offset limit q.paged

abbrev pub server_in : Option (List ℕ) → Result (Option ServerKey) ApiRefusal
server_in None = Ok None
server_in (Some text) = ok_or (option_map (λ key. Some key) (result_ok (key_read text))) BadQuery

-- the server that `for` names, as USER/SERVER
unfoldable pub server_of : Request → Result (Option ServerKey) ApiRefusal
server_of q = server_in (query_value (codes "for") q.query)

abbrev pub id_in : Option (List ℕ) → Result (Option ℕ) ApiRefusal
id_in None = Ok None
id_in (Some text) = ok_or (option_map Some (decimal_of text)) BadQuery

-- the number that `id` is, where it is given
unfoldable pub id_of : Request → Result (Option ℕ) ApiRefusal
id_of q = id_in (query_value (codes "id") q.query)
