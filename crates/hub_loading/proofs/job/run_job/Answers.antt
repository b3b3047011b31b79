use Rattle.std.proofs.Common.{ap, ◌∙◌}
use Rattle.desk.specs.Passes.{PassState}
use Rattle.hub_core.specs.Visits.{Entry, entries_of}
use Rattle.hub_core.specs.declared.start.Start.{Start}
use Rattle.hub_loading.proofs.JobLemmas.{job_of, job_began, job_made}
use Rattle.hub_loading.proofs.job.run_job.Goals as goal

pub close-book-requires : goal.close-book-requires
close-book-requires g c =
    job_of c.args.seed c.args.users _ _ c.in-Ok-counts.counts c.in-Ok-counts.ensures ∙ ap (λ (p : PassState Entry Start). p.of) c.in-Ok-open.ensures.opened

pub returns-in-Ok-counts-clause-hub : goal.returns-in-Ok-counts-clause-hub
returns-in-Ok-counts-clause-hub g c =
    job_began c.args.seed c.args.users _ _ c.in-Ok-counts.counts c.in_ok-book.book.start c.close-book.result.start c.in-Ok-counts.ensures
    (ap (λ (p : PassState Entry Start). p.base) c.in-Ok-open.ensures.opened) c.close-book.ensures.base c.in_ok-book.ensures.hub

pub returns-in-Ok-counts-clause-job : goal.returns-in-Ok-counts-clause-job
returns-in-Ok-counts-clause-job g c =
    job_made c.args.seed c.args.users _ _ c.in-Ok-counts.counts c.in_ok-book.book.start c.close-book.result.start (entries_of c.in_ok-book.book)
    (entries_of c.close-book.result) c.length.result c.loaded_of-loaded.result c.in_ok-book.ensures.hub c.requires.users.1 c.in-Ok-counts.ensures
    (ap (λ (p : PassState Entry Start). p.base) c.in-Ok-open.ensures.opened) (ap (λ (p : PassState Entry Start). p.seen) c.in-Ok-open.ensures.opened)
    c.in_ok-book.ensures.entries (ap (λ (p : PassState Entry Start). p.alone) c.in-Ok-open.ensures.opened) c.in-Ok.ensures.clock c.in-Ok.ensures.draws
    c.close-book.ensures.base c.close-book.ensures.whole c.length.ensures.entries c.loaded_of-loaded.ensures
