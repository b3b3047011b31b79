-- The services of a plan live by the law.
use Rattle.std.proofs.Common.{◌≡◌, ◌<◌, ◌^◌, ◌⊎◌, inl, inr, ℕ, List, [], length, map, Option, Some, refl, sym, ◌∙◌, ap, subst, arith}
use Rattle.std.proofs.lemmas.List.{length-map}
use Rattle.std.proofs.Math.Logic.{∥∥₁_map}
use Rattle.services_run.specs.Calls.{PathCall, RunCall}
use Rattle.services_run.specs.Law.{AllOwn, Label, NumbersRise, OnePerService, StartsAlone, labels, may_run, nobody}
use Rattle.services_run.specs.New.{placed}
use Rattle.service_doors.specs.Tending.{Attended, ServicesTold}
use Rattle.service_doors.proofs.Lived.{attended}
use Rattle.hub_config.specs.Managed.{are_distinct}
use Rattle.hub_config.specs.declared.config.ConfigManaged.{ConfigManaged}
use Rattle.hub_serving.specs.Law.{PlannedAreLawful, RunsLawfully}
use Rattle.hub_serving.specs.Services.{service_of}
use Rattle.hub_serving.proofs.Apart.{none_repeated}
use Rattle.hub_serving.proofs.Planned.{plan_apart}

some_same : {A : Type 0} (x y : A) → Some x ≡ Some y → x ≡ y
some_same x y e = cc

-- nothing was called
no_runs : (runs : List RunCall) → Some [] ≡ Some runs → RunsLawfully runs
no_runs runs is = subst (λ (r : List RunCall). RunsLawfully r) (some_same [] runs is) (λ g h name a b. cc, tt, tt)

no_routes : (ls : List Label) (paths : List PathCall) → Some [] ≡ Some paths → AllOwn ls paths
no_routes ls paths is = subst (λ (q : List PathCall). AllOwn ls q) (some_same [] paths is) tt

pub planned : PlannedAreLawful
planned found files plan h h' end is_plan (inl (few, attended_so)) runs routes = ∥∥₁_map attended_so (λ a.
    let ms = map service_of plan.managed in
    let fewer : length ms < 2 ^ 32 = omega (arith, few, length-map plan.managed service_of) in
    let law = attended ms h.services h'.services h.doors.given h'.doors.given fewer (none_repeated plan.managed (plan_apart found files plan is_plan)) runs routes a in
    (λ rs is. let l = law.0 rs is in (l.0, l.1, l.2), law.1))
planned found files plan h h' end is_plan (inr (memory, same)) runs routes = ∣ (
  λ rs is. no_runs rs (sym (ap (λ (t : ServicesTold). t.runs) same ∙ runs) ∙ is),
  λ paths is. no_routes _ paths (sym (ap (λ (t : ServicesTold). t.routes) same ∙ routes) ∙ is),
) ∣₁
