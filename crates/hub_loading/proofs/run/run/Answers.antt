use Rattle.hub_loading.proofs.EndLemmas.{said, no_job}
use Rattle.hub_loading.proofs.WordLemmas.{bounded}
use Rattle.hub_core.specs.Visits.{entries_of}
use Rattle.hub_loading.proofs.run.run.Goals as goal

pub load_job-requires-clause-seed : goal.load_job-requires-clause-seed
load_job-requires-clause-seed g c = (bounded c.args.words.now c.in-Ok.words c.in-Ok.ensures).0

pub load_job-requires-clause-users : goal.load_job-requires-clause-users
load_job-requires-clause-users g c = (bounded c.args.words.now c.in-Ok.words c.in-Ok.ensures).1

pub returns-in-Ok-load_job-clause-ends : goal.returns-in-Ok-load_job-clause-ends
returns-in-Ok-load_job-clause-ends g c =
    said _ c.in-Ok.words c.in-Ok-load_job.book.start (entries_of c.in-Ok-load_job.book) c.in-Ok-load_job.loaded _ _ _ _ c.write_lines.result c.in-Ok.ensures
    c.in-Ok-load_job.ensures.hub (c.into_parts-keeper.ensures.had tt) c.in-Ok-load_job.ensures.job c.write_lines.ensures.ends

pub returns-in-Err-clause-ends : goal.returns-in-Err-clause-ends
returns-in-Err-clause-ends g c =
    no_job _ c.in-Ok.words c.in-Err.fault _ _ c.end_of.result c.in-Ok.ensures c.in-Err.ensures.fault c.end_of.ensures
