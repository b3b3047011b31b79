use Rattle.std.proofs.Common.{length, sym, ap, ◌∙◌}
use Rattle.std.specs.FinMap.{contains_key}
use Rattle.std.specs.List.{filter}
use Rattle.keyed_rows.specs.Rows.{map_of}
use Rattle.scope_meet.specs.Admitted.{is_admitted}
use Rattle.hub_view.specs.Pages.{in_page, kept}
use Rattle.hub_view.proofs.KeptNames.{keys_kept, len_kept, kept_these}
use Rattle.hub_view.proofs.page_part.part_of.Goals as goal

pub returns-in_ok-rows_in_page-in-Every-clause-names : goal.returns-in_ok-rows_in_page-in-Every-clause-names
returns-in_ok-rows_in_page-in-Every-clause-names g c =
    let rows = map_of g.K.Ord.cmp c.args.rows.now in
    c.in_ok-rows_in_page-in-Every.ensures.names
    ∙ ap (in_page c.args.page) (keys_kept g.met.K.Ord.total c.args.rows.now c.in_ok-rows_in_page-in-Every.ensures.ordered)
    ∙ ap (λ who. in_page c.args.page (kept (is_admitted g.K.Ord.cmp who) rows)) (sym c.in-Every.is)

pub returns-in_ok-rows_in_page-in-Every-clause-total : goal.returns-in_ok-rows_in_page-in-Every-clause-total
returns-in_ok-rows_in_page-in-Every-clause-total g c =
    let rows = map_of g.K.Ord.cmp c.args.rows.now in
    c.count.ensures ∙ len_kept rows ∙ ap (λ who. length (kept (is_admitted g.K.Ord.cmp who) rows)) (sym c.in-Every.is)

pub returns-in_ok-names_in_page-in-These-clause-names : goal.returns-in_ok-names_in_page-in-These-clause-names
returns-in_ok-names_in_page-in-These-clause-names g c =
    let rows = map_of g.K.Ord.cmp c.args.rows.now in
    c.in_ok-names_in_page-in-These.ensures
    ∙ ap (in_page c.args.page) (c.as_slice-in-These.ensures.value ∙ c.in_ok-kept-in-These.ensures ∙ ap (filter (contains_key rows)) c.as_slice.ensures.keys
    ∙ kept_these g.met.K.Ord.total g.met.K.Key.exact rows _ c.as_slice.ensures.ordered)
    ∙ ap (λ who. in_page c.args.page (kept (is_admitted g.K.Ord.cmp who) rows)) (sym c.in-These.is)

pub returns-in_ok-names_in_page-in-These-clause-total : goal.returns-in_ok-names_in_page-in-These-clause-total
returns-in_ok-names_in_page-in-These-clause-total g c =
    let rows = map_of g.K.Ord.cmp c.args.rows.now in
    c.len.ensures ∙ c.in_ok-kept-in-These.kept.ok.0
    ∙ ap length (c.in_ok-kept-in-These.ensures ∙ ap (filter (contains_key rows)) c.as_slice.ensures.keys
    ∙ kept_these g.met.K.Ord.total g.met.K.Key.exact rows _ c.as_slice.ensures.ordered)
    ∙ ap (λ who. length (kept (is_admitted g.K.Ord.cmp who) rows)) (sym c.in-These.is)
