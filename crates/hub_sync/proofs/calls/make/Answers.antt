use Rattle.std.proofs.Common.{rules, ◌≡◌, ◌+◌, ◌≤◌, ℕ, List, [], ◌∷◌, ◌++◌, length, map, take, drop, Option, refl, sym, ap, add-one, ◌∙◌, subst, append_assoc, arith}
use Rattle.std.proofs.Math.Seq.{take-suc}
use Rattle.std.proofs.lemmas.List.{map-append, take-append-drop}
use Rattle.hub_devices.specs.declared.calls.Routing.{Routing}
use Rattle.hub_devices.specs.declared.calls.Told.{Told}
use Rattle.hub_devices.specs.declared.calls.Told.TheVariants.{Done}
use Rattle.hub_devices.specs.declared.calls.Told.TheVariants as Tell
use Rattle.hub_devices.specs.Calls.{Grows}
use Rattle.hub_devices.proofs.CallLemmas.{Grows_then}
use Rattle.hub_sync.specs.declared.calls.RouteCall.{RouteCall}
use Rattle.hub_sync.specs.Syncing.{asked_of, as_done, added_one, deleted_one, additions, deletions}
use Rattle.hub_sync.proofs.calls.make.Goals as goal

additions_more : (cs : List RouteCall) (c : RouteCall) → additions (cs ++ c ∷ []) ≡ additions cs + added_one c
additions_more [] c = omega arith
additions_more (x ∷ cs) c = omega (arith, additions_more cs c)

deletions_more : (cs : List RouteCall) (c : RouteCall) → deletions (cs ++ c ∷ []) ≡ deletions cs + deleted_one c
deletions_more [] c = omega arith
deletions_more (x ∷ cs) c = omega (arith, deletions_more cs c)

next_taken : (cs : List RouteCall) (i : ℕ) (c : RouteCall) → take (i + 1) cs ≡ take i cs ++ c ∷ [] → cs ≡ take i cs ++ c ∷ drop (i + 1) cs
next_taken cs i c e = sym (take-append-drop (i + 1) cs) ∙ (ap (λ front. front ++ drop (i + 1) cs) e ∙ append_assoc (take i cs) (c ∷ []) (drop (i + 1) cs))

pub loop-one-preserved : goal.loop-one-preserved
loop-one-preserved g c =
    let i = c.loop-one.one-index in
    let cs = c.args.calls.now in
    let one = c.one-item.result in
    let at : take (i + 1) cs ≡ take i cs ++ one ∷ [] =
    ap (λ n. take n cs) (add-one i) ∙ (take-suc cs i one c.loop-one-test.true ∙ ap (λ x. take i cs ++ x ∷ []) (sym c.one-item.is)) in
    let d = c.loop-one.invariant.done in
    record {
      done = record {
        added_is = omega (arith, c.with-synced.ensures.added, d.added_is, ap additions at, additions_more (take i cs) one);
        deleted_is = omega (arith, c.with-synced.ensures.deleted, d.deleted_is, ap deletions at, deletions_more (take i cs) one);
      };
      grows = subst (λ (calls : List (Routing × Told)). Grows (g.P.RouteLink.calls c.args.routes.now) calls (g.P.RouteLink.calls c.call.new.routes))
          (sym (ap (map as_done) at ∙ map-append as_done (take i cs) (one ∷ [])))
          (Grows_then _ _ _ (map as_done (take i cs)) ((asked_of one, Done) ∷ []) c.loop-one.invariant.grows c.in-Ok.ensures.calls);
      few = omega (arith, c.with-synced.ensures.one, c.loop-one.invariant.few);
      counted = omega (arith, c.loop-one.invariant.counted, c.in-Ok.ensures.counted);
    }

pub returns-in-Err-clause-err : goal.returns-in-Err-clause-err
returns-in-Err-clause-err g c =
    let i = c.loop-one.one-index in
    let cs = c.args.calls.now in
    let one = c.one-item.result in
    let at : take (i + 1) cs ≡ take i cs ++ one ∷ [] =
    ap (λ n. take n cs) (add-one i) ∙ (take-suc cs i one c.loop-one-test.true ∙ ap (λ x. take i cs ++ x ∷ []) (sym c.one-item.is)) in (
      map as_done (take i cs) ++ (asked_of one, Tell.Failed) ∷ [],
      record { made = take i cs; last = one; others = drop (i + 1) cs; whole = next_taken cs i one at; told_is = refl },
      Grows_then _ _ _ (map as_done (take i cs)) ((asked_of one, Tell.Failed) ∷ []) c.loop-one.invariant.grows c.in-Err.ensures.calls,
    )
