use Rattle.std.proofs.Common.{refl}
use Rattle.server_work.specs.declared.work.Device.TheVariants.{Spawner, Proxy}
use Rattle.hub_run.specs.Turns.{Errand}
use Rattle.hub_run.specs.Works.{errand_of}
use Rattle.hub_run.proofs.AnswerLemmas.{counted_so}
use Rattle.hub_run.proofs.works.work_done.Goals as goal

pub returns-clause-done : goal.returns-clause-done
returns-clause-done g c =
    let ends = c.drive-told.ensures.ends in
    let errand : Errand = record { work = errand_of c.args.path c.args.work; owed = c.args.work.todo; chain = ends.0; tale = c.drive-told.result } in (
      errand,
      refl,
      refl,
      refl,
      record {
        chain = ends.1;
        clock = refl;
        draws = refl;
        random = refl;
        spawner = counted_so Spawner c.drive-told.result _ _ c.drive-told.ensures.spawner_counted c.drive-told.ensures.spawner_cause;
        routes = counted_so Proxy c.drive-told.result _ _ c.drive-told.ensures.routes_counted c.drive-told.ensures.routes_cause;
      },
    )
