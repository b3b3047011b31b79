use Rattle.std.proofs.Common.{◌∙◌, sym, ap, subst, arith, ◌<◌, length, T, IsSome}
use Rattle.std.specs.List.{remove}
use Rattle.std.specs.FinMap.Entries.{find, is_sorted}
use Rattle.server_life.specs.Ranks.{rank}
use Rattle.server_life.proofs.Ranks.{where_key-rank, rank_lt}
use Rattle.server_life.proofs.ordered.remove.Goals as goal

pub remove-entry-requires : goal.remove-entry-requires
remove-entry-requires g c =
    let n : rank g.K.Ord.cmp c.args.key.now c.as_slice.result.now < length c.as_slice.result.now = rank_lt g.K.Ord.cmp g.met.K.Ord.total c.args.key.now c.as_slice.result.now
    (subst (λ l. T (is_sorted g.K.Ord.cmp l)) (sym c.as_slice.ensures.value) c.requires.sorted)
    (subst (λ l. IsSome (find g.K.Ord.cmp c.args.key.now l)) (sym c.as_slice.ensures.value) c.requires.known) in
    omega (arith, n)

pub returns-clause-items : goal.returns-clause-items
returns-clause-items g c =
    c.remove-entry.ensures.items
    ∙ (ap (λ i. remove c.args.entries.now.items i) (c.rank-at.ensures ∙ ap (rank g.K.Ord.cmp c.args.key.now) c.as_slice.ensures.value)
    ∙ sym (where_key-rank g.K.Ord.cmp g.met.K.Ord.total c.args.key.now c.args.entries.now.items c.requires.sorted c.requires.known))
