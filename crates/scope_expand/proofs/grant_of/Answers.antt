use Rattle.std.proofs.Common.{◌≡◌, ◌+◌, ◌++◌, ◌∷◌, [], List, sym, ap, ◌∙◌, subst, take, arith}
use Rattle.std.proofs.lemmas.List.{take_all, take_more}
use Rattle.std.specs.FinMap.{empty}
use Rattle.scope_filters.specs.declared.scope.RawScope.{RawScope}
use Rattle.scope_expand.specs.Meaning.{means, plain_scopes}
use Rattle.scope_expand.specs.Covering.{GrantsCovered}
use Rattle.scope_expand.proofs.Meanings.{covers_at_first, covers_next, covers_from_none}
use Rattle.scope_expand.proofs.grant_of.Goals as goal

pub loop-scope-init : goal.loop-scope-init
loop-scope-init c = covers_at_first c.args.table.now c.new-grant.result c.new-grant.ensures

pub loop-scope-preserved : goal.loop-scope-preserved
loop-scope-preserved c =
    let i = c.loop-scope.scope-index in
    let all : List RawScope = c.args.scopes.now in
    let scope : RawScope = c.scope-item.result in
    let more : take (i + 1) all ≡ take i all ++ scope ∷ [] = take_more all i scope (omega arith) ∙ ap (λ (y : RawScope). take i all ++ y ∷ []) (sym c.scope-item.is) in
    covers_next c.args.table.now (λ scope. means scope c.args.holder.now) (take i all) (take (i + 1) all) scope empty c.loop-scope.grant c.add_meaning.new.grant more c.loop-scope.invariant c.in_ok-add_meaning.ensures

pub returns : goal.returns
returns c =
    subst (λ (scopes : List RawScope). GrantsCovered c.args.table.now (plain_scopes scopes c.args.holder.now) c.loop-scope.grant) (take_all c.loop-scope.scope-index c.args.scopes.now c.loop-scope-test.false)
    (covers_from_none c.args.table.now (plain_scopes (take c.loop-scope.scope-index c.args.scopes.now) c.args.holder.now) c.loop-scope.grant c.loop-scope.invariant)
