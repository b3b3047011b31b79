use Rattle.std.proofs.Common.{rules}
use Rattle.table_changes.proofs.staged.log_back.Goals as goal

pub returns-clause-ok : goal.returns-clause-ok
returns-clause-ok c =
    record {
      step = c.in_ok-back.back;
      logged = search rules;
      free = record {
        fits = c.in_ok-back.ensures.fits c.requires.put c.requires.fits;
        there = λ p. c.in_ok-back.ensures.kept c.requires.put p;
      };
      back = c.in_ok-back.ensures.undoes;
    }
