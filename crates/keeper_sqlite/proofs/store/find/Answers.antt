use Rattle.std.proofs.Common.{inl, inr, IsSome, sym, ◌∙◌}
use Rattle.std.proofs.lemmas.Bool.{both_ways}
use Rattle.keeper_sqlite.proofs.Told.{read_all}
use Rattle.keeper_sqlite.proofs.store.find.Goals as goal

pub returns-clause-own : goal.returns-clause-own
returns-clause-own g c own =
    let some : IsSome c.in_ok-rows.rows = sym c.is_some.ensures ∙ own in
    record { autocommit = c.own_rows.ensures.mode (c.in_ok-rows.ensures.apart some); store = λ clean open_now. inr (c.in_ok-rows.ensures.known clean open_now some) }

pub returns-clause-only : goal.returns-clause-only
returns-clause-only g c clean apart own =
    elim own [
      | inl empty ↦ absurd (both_ways c.is_fresh.result c.if-is_fresh.false (c.is_fresh.ensures.only apart empty))
      | inr store ↦ c.is_some.ensures ∙ c.in_ok-rows.ensures.only clean apart store
    ]

pub returns-clause-read : goal.returns-clause-read
returns-clause-read g c =
    read_all g.S.Store (λ rows. rows.items) (λ all. all.items) c.args.conn.now c.own_rows.new.conn c.in_ok-rows.rows c.any_in_order.result c.own_rows.ensures.stands c.in_ok-rows.ensures.known
    c.in_ok-rows.ensures.whole c.any_in_order.ensures
