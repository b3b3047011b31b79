use Rattle.std.proofs.Common.{◌≡◌, Some, None, Err, sym, ap, ◌∙◌, subst, rules}
use Rattle.keeper.specs.declared.keeper.Row.{Row}
use Rattle.serde_json.specs.Read.{read}
use Rattle.key_texts.specs.Finds.{Finds}
use Rattle.record_texts.specs.Rows.{row_with, Reads}
use Rattle.record_texts.proofs.Texts.{row_reads}
use Rattle.key_texts.proofs.Results.{same_some, not_none}
use Rattle.record_texts.proofs.record.of_row.Goals as goal

pub returns-in-Err-clause-only : goal.returns-in-Err-clause-only
returns-in-Err-clause-only g c r valid same =
    let reads : read c.args.row.now.text ≡ Some (g.R.Record.shape_of r) = row_reads _ _ _ _ (g.met.R.Record.plain r valid) same in
    let none : read c.as_str.result.now ≡ None = c.in-Err.ensures.err (λ memory. search rules) in
    absurd (not_none (g.R.Record.shape_of r) (sym none ∙ ap read c.as_str.ensures ∙ reads))

pub returns-in-Ok-found-clause-only : goal.returns-in-Ok-found-clause-only
returns-in-Ok-found-clause-only g c r valid same =
    let reads : read c.args.row.now.text ≡ Some (g.R.Record.shape_of r) = row_reads _ _ _ _ (g.met.R.Record.plain r valid) same in
    let got = c.in-Ok.ensures.ok in
    let shape = same_some _ _ (sym reads ∙ sym (ap read c.as_str.ensures) ∙ got) in
    let key = sym (ap (λ (x : Row). x.key) same) ∙ sym c.as_str-2.ensures in
    let found : c.in-Ok-found.found ≡ r = c.in-Ok-found.ensures r valid key shape in
    subst (λ x. g.R.Record.valid x → c.args.row.now ≡ row_with g.R.Record.KIND (g.R.Record.key_of x) (g.R.Record.shape_of x) → Reads c.checked.result x) found c.checked.ensures.only valid same

pub returns-in-Bad-clause-only : goal.returns-in-Bad-clause-only
returns-in-Bad-clause-only g c r valid same =
    let reads : read c.args.row.now.text ≡ Some (g.R.Record.shape_of r) = row_reads _ _ _ _ (g.met.R.Record.plain r valid) same in
    let got = c.in-Ok.ensures.ok in
    let shape = same_some _ _ (sym reads ∙ sym (ap read c.as_str.ensures) ∙ got) in
    let key = sym (ap (λ (x : Row). x.key) same) ∙ sym c.as_str-2.ensures in
    absurd (subst (λ e. Finds (Err e) r) c.in-Bad.is (c.in-Err-found.ensures r valid key shape))
