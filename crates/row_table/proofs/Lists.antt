-- What the SELECT gives.
use Rattle.std.proofs.Common.{◌≡◌, List, [], ◌∷◌, map, flat_map, codes, refl, sym, ap, subst, ◌∙◌}
use Rattle.std.proofs.Math.Path.{subst₂}
use Rattle.std.proofs.lemmas.List.Sorted.{IsPermutation-map}
use Rattle.std.specs.List.Sorted.{IsPermutation}
use Rattle.sqlite.specs.declared.types.Value.TheVariants.{Null}
use Rattle.sqlite.specs.Order.{Row}
use Rattle.sqlite.specs.Term.{Env}
use Rattle.sqlite.specs.Query.{IsAnswer, Output, output}
use Rattle.sqlite.specs.Program.{overlay}
use Rattle.sqlite.specs.Command.TheVariants.{Select}
use Rattle.sqlite.specs.Tree.{Trees}
use Rattle.sqlite.specs.State.{State, Shown}
use Rattle.sqlite.proofs.Callers.{reads_as}
use Rattle.row_table.specs.Ours.{AreOurs}
use Rattle.row_table.specs.Stored.{whole, IsRowStore}
use Rattle.row_table.specs.Tables.{store_schema}
use Rattle.row_table.specs.Texts.{select_text, all_text}
use Rattle.row_table.proofs.Ordered.{by_id, listed_ours}
use Rattle.row_table.proofs.Words.{listed, in_list, IsListing}
use Rattle.row_table.proofs.Upsert.{select_is, select_unlisted, select_plain, by_rowid, all_is, all_unlisted, all_plain}

abbrev pub alone : Row → List Env
alone r = ([] ∷ r ∷ []) ∷ []

pub all_rows : (rs : List Row) → map (output listed) (flat_map alone rs) ≡ map in_list rs
all_rows [] = refl
all_rows (r ∷ rs) = ap (λ os. in_list r ∷ os) (all_rows rs)

answers : (db : Trees) (rows : List Row) → IsAnswer listed (overlay db []) [] rows → IsListing (db 0) rows
answers db rows a =
    let kept : a.kept ≡ map in_list (db 0) = a.distinct ∙ ap (map (output listed)) a.grouped ∙ all_rows (db 0) in
    record { ordered = a.ordered; same = subst (λ os. IsPermutation os a.ordered) kept a.same; sorted = a.sorted; shown = a.shown }

pub lists : (old new : State) (rows : List Row) → old.now.schema ≡ store_schema → Shown select_text [] old new rows → IsListing (old.now.trees 0) rows
lists old new rows has h =
    answers old.now.trees rows ((reads_as select_text [] old new store_schema has (Select (record { lets = []; body = listed }) (codes "kind" ∷ codes "key" ∷ codes "text" ∷ [])) select_is select_plain select_unlisted rows h).answer Null)

-- ---- with the rowids

all_by_id : (rs : List Row) → map (output by_rowid) (flat_map alone rs) ≡ map by_id rs
all_by_id [] = refl
all_by_id (r ∷ rs) = ap (λ os. by_id r ∷ os) (all_by_id rs)

shown_whole : (rs : List Row) → map (λ (o : Output). o.1) (map by_id rs) ≡ map whole rs
shown_whole [] = refl
shown_whole (r ∷ rs) = ap (λ xs. whole r ∷ xs) (shown_whole rs)

all_answered : (db : Trees) (rows : List Row) → IsAnswer by_rowid (overlay db []) [] rows → IsPermutation (map whole (db 0)) rows
all_answered db rows a =
    let kept : a.kept ≡ map by_id (db 0) = a.distinct ∙ ap (map (output by_rowid)) a.grouped ∙ all_by_id (db 0) in
    subst₂ (λ xs ys. IsPermutation xs ys) (ap (map (λ (o : Output). o.1)) kept ∙ shown_whole (db 0)) (sym a.shown) (IsPermutation-map (λ (o : Output). o.1) a.kept a.ordered a.same)

all_read : (old new : State) (rows : List Row) → old.now.schema ≡ store_schema → Shown all_text [] old new rows → IsAnswer by_rowid (overlay old.now.trees []) [] rows
all_read old new rows has h =
    (reads_as all_text [] old new store_schema has (Select (record { lets = []; body = by_rowid }) (codes "rowid" ∷ codes "kind" ∷ codes "key" ∷ codes "text" ∷ [])) all_is all_plain all_unlisted rows h).answer Null

pub all_shown : (old new : State) (rows : List Row) → old.now.schema ≡ store_schema → Shown all_text [] old new rows → IsPermutation (map whole (old.now.trees 0)) rows
all_shown old new rows has h = all_answered old.now.trees rows (all_read old new rows has h)

-- of a store of the hub
pub all_ours : (old new : State) (rows : List Row) → IsRowStore old.now → Shown all_text [] old new rows → AreOurs rows
all_ours old new rows store h =
    let a = all_read old new rows store.0 h in
    let tree = old.now.trees 0 in
    let kept : a.kept ≡ map by_id tree = a.distinct ∙ ap (map (output by_rowid)) a.grouped ∙ all_by_id tree in
    subst AreOurs (sym a.shown) (listed_ours tree a.ordered store.1 (subst (λ os. IsPermutation os a.ordered) kept a.same) (subst (IsPermutation (map whole tree)) a.shown (all_answered old.now.trees rows a)) a.sorted)
