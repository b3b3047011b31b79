use Rattle.std.proofs.Common.{◌≡◌, Vec, map, rules, sym, subst, ◌∙◌}
use Rattle.std.proofs.lemmas.Option.{IfSome_then}
use Rattle.std.specs.List.Sorted.{IsPermutation}
use Rattle.std.specs.declared.alloc.Global.{Global}
use Rattle.sqlite.specs.Given.{IsPlain}
use Rattle.sqlite.specs.Held.{state}
use Rattle.sqlite.specs.Listing.{understood}
use Rattle.sqlite.specs.Order.{Row}
use Rattle.row_table.specs.Stored.{whole, IsRowStore}
use Rattle.row_table.specs.Tables.{store_schema}
use Rattle.row_table.specs.Texts.{all_text}
use Rattle.row_table.proofs.Found.{known_store}
use Rattle.row_table.proofs.Open.{still_open}
use Rattle.row_table.proofs.Upsert.{all_plain}
use Rattle.row_table.proofs.known.own_rows.Goals as goal

pub returns-in_err-all-clause-stands : goal.returns-in_err-all-clause-stands
returns-in_err-all-clause-stands g c clean open_now =
    let old = state g.S.Store c.args.conn.now in
    let schema : old.now.schema ≡ store_schema = sym c.schema.ensures.value ∙ c.is_store_schema.ensures.is c.if-not-is_store_schema.false in
    let left = c.select_all.ensures.left clean open_now in
    (left.0, (left.1 (subst (λ s. IsPlain (understood s all_text)) (sym schema) all_plain) (c.is_autocommit.ensures.settled c.if-not-is_autocommit.false left.0)).0)

pub returns-clause-stands : goal.returns-clause-stands
returns-clause-stands g c clean open_now =
    let old = state g.S.Store c.args.conn.now in
    let schema : old.now.schema ≡ store_schema = sym c.schema.ensures.value ∙ c.is_store_schema.ensures.is c.if-not-is_store_schema.false in
    let left = c.select_all.ensures.left clean open_now in
    (left.0, (left.1 (subst (λ s. IsPlain (understood s all_text)) (sym schema) all_plain) (c.is_autocommit.ensures.settled c.if-not-is_autocommit.false left.0)).0)

pub returns-clause-known : goal.returns-clause-known
returns-clause-known g c clean open_now is =
    let old = state g.S.Store c.args.conn.now in
    let schema : old.now.schema ≡ store_schema = sym c.schema.ensures.value ∙ c.is_store_schema.ensures.is c.if-not-is_store_schema.false in
    let left = c.select_all.ensures.left clean open_now in
    let same = left.1 (subst (λ s. IsPlain (understood s all_text)) (sym schema) all_plain) (c.is_autocommit.ensures.settled c.if-not-is_autocommit.false left.0) in
    subst IsRowStore (sym same.0)
    (known_store old.now schema (c.schema.ensures.live left.0).0 c.in_ok-all.all.items (c.in_ok-all.ensures.whole clean schema) (c.if_ours.ensures.ours is))

pub returns-clause-only : goal.returns-clause-only
returns-clause-only g c clean apart store = c.if_ours.ensures.only (c.in_ok-all.ensures.ours clean store)

pub returns-clause-whole : goal.returns-clause-whole
returns-clause-whole g c clean =
    let old = state g.S.Store c.args.conn.now in
    let schema : old.now.schema ≡ store_schema = sym c.schema.ensures.value ∙ c.is_store_schema.ensures.is c.if-not-is_store_schema.false in
    IfSome_then c.if_ours.result c.if_ours.ensures.same
    (λ rows same. subst (λ (v : Vec Row Global). IsPermutation (map whole (old.now.trees 0)) v.items) (sym same) (c.in_ok-all.ensures.whole clean schema))

pub returns-in_err-all-clause-unread : goal.returns-in_err-all-clause-unread
returns-in_err-all-clause-unread g c clean =
    let unread = c.in_err-all.ensures.unread clean (sym c.schema.ensures.value ∙ c.is_store_schema.ensures.is c.if-not-is_store_schema.false) in
    search rules

pub returns-clause-open : goal.returns-clause-open
returns-clause-open g c clean was_open = c.in_ok-all.ensures.open clean
