use Rattle.std.proofs.Common.{◌≡◌, ◌<◌, ◌≤◌, ◌+◌, List, ℕ, suc, ◌++◌, ◌∷◌, [], take, drop, length, get_or, Some, None, sym, ap, ◌∙◌, subst, arith}
use Rattle.std.proofs.lemmas.Grind.{common_steps}
use Rattle.percent_encoding.specs.Percent.{percent_decode}
use Rattle.route_table.specs.Path.{decoded_parts, slash_escape, IsKey, HasNoSlashFrom}
use Rattle.route_table.specs.Rows.{rows_of}
use Rattle.route_table.specs.Table.{listed}
use Rattle.route_table.specs.Search.{IsBestPlace}
use Rattle.route_table.proofs.BestLemmas.{best_found, best_none, best_shorter}
use Rattle.route_table.proofs.ShorterLemmas.{decoded_more, clear_front, key_front, key_no_slash}
use Rattle.route_table.proofs.search.best.Goals as goal

pub returns-in-Some : goal.returns-in-Some
returns-in-Some c = c.prefixes.invariant.whole (Some c.in-Some.at) (best_found c.args.rows.now _ c.in-Some.at c.in-Some.ensures)

pub prefixes-preserved : goal.prefixes-preserved
prefixes-preserved c =
    let prefix = take c.prefixes.end c.args.path.now in
    let at = c.in-Some-last_slash.at in
    let found = c.in-Some-last_slash.ensures in
    let lt : at < length prefix = found.0 in
    let is : get_or prefix at 0 ≡ 47 = found.1 in
    let none : HasNoSlashFrom prefix (at + 1) = found.2 in
    let short : length prefix ≤ c.prefixes.end = grind (arith, common_steps) in
    let front : take at prefix ≡ take at c.args.path.now = grind (arith, common_steps) in
    let more : decoded_parts prefix ≡ decoded_parts (take at prefix) ++ percent_decode (drop (suc at) prefix) ∷ [] = decoded_more prefix at lt is none in
    let rows = rows_of c.args.rows.now in
    let nothing : listed rows (decoded_parts prefix) ≡ None = c.in-None.ensures in
    record {
      within = omega (arith, lt, short, c.prefixes.invariant.within);
      key = subst IsKey front (key_front prefix at c.prefixes.invariant.key);
      clear = ap slash_escape (sym front) ∙ clear_front prefix at lt is c.prefixes.invariant.clear;
      whole = λ r best. c.prefixes.invariant.whole r
          (subst (λ (s : List (List ℕ)). IsBestPlace c.args.rows.now s r) (sym more)
          (best_shorter c.args.rows.now (decoded_parts (take at prefix)) (percent_decode (drop (suc at) prefix)) r (ap (listed rows) (sym more) ∙ nothing)
          (subst (λ (p : List ℕ). IsBestPlace c.args.rows.now (decoded_parts p) r) (sym front) best)));
    }

pub returns-in-None-last_slash : goal.returns-in-None-last_slash
returns-in-None-last_slash c =
    let prefix = take c.prefixes.end c.args.path.now in
    let empty : prefix ≡ [] = key_no_slash prefix c.prefixes.invariant.key c.in-None-last_slash.ensures in
    let rows = rows_of c.args.rows.now in
    c.prefixes.invariant.whole None
    (subst (λ (p : List ℕ). IsBestPlace c.args.rows.now (decoded_parts p) None) (sym empty)
    (best_none c.args.rows.now (ap (λ p. listed rows (decoded_parts p)) (sym empty) ∙ c.in-None.ensures)))
