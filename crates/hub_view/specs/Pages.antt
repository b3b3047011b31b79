-- Lists in pages.
use Rattle.std.specs.Prelude.{ℕ, ◌+◌, Bool, nat_le, min, filter, if◌then◌else◌, List, [], ◌∷◌, ◌++◌, length, take, drop, decimal, codes}
use Rattle.std.specs.Prelude.{Option, Some, None}
use Rattle.std.specs.FinMap.{FinMap, keys}
use Rattle.std.specs.declared.cmp.Ordering.{Ordering}
use Rattle.hub_view.specs.Json.{Json, line, whole, maybe, items, pairs}
use Rattle.hub_view.specs.declared.pages.Page.{Page}

-- at most 200 objects stand in a page
abbrev pub most : Page → ℕ
most p = min p.limit 200

-- where the next page begins, if objects are left
abbrev pub next_offset : Page → ℕ → Option ℕ
next_offset p total = if nat_le total (p.offset + most p) then None else Some (p.offset + most p)

abbrev pub page_url : List ℕ → ℕ → ℕ → List ℕ
page_url path limit offset = codes "/hub/api" ++ path ++ codes "?limit=" ++ decimal limit ++ codes "&offset=" ++ decimal offset

-- another page of the list
abbrev pub page_at : List ℕ → Page → ℕ → Json
page_at path p offset = pairs (
    (codes "limit", whole (most p))
    ∷ (codes "offset", whole offset)
    ∷ (codes "url", line (page_url path (most p) offset))
    ∷ [])

abbrev pub pagination : List ℕ → Page → ℕ → Json
pagination path p total = pairs (
    (codes "limit", whole (most p))
    ∷ (codes "next", maybe (page_at path p) (next_offset p total))
    ∷ (codes "offset", whole p.offset)
    ∷ (codes "total", whole total)
    ∷ [])

-- the objects of a page, with the page's place where the request asks for it
abbrev pub page_body : List ℕ → Page → ℕ → List Json → Json
page_body path p total part = if p.paged then pairs (
    (codes "_pagination", pagination path p total)
    ∷ (codes "items", items part)
    ∷ []) else items part

-- the keys of the rows that pass a test, in order
abbrev pub kept : {K X : Type 0} {R : K → K → Ordering} → (K → Bool) → FinMap R X → List K
kept passes rows = filter passes (keys rows)

-- those of a list that stand in the page
abbrev pub in_page : {A : Type 0} → Page → List A → List A
in_page p all = take (most p) (drop p.offset all)

-- a list of shown objects in a page. The path begins behind `/hub/api`
abbrev pub paged_list : List ℕ → Page → List Json → Json
paged_list path p shown = page_body path p (length shown) (in_page p shown)
