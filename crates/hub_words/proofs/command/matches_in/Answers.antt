use Rattle.std.proofs.Common.{rules, inl, inr, subst, ◌≡◌}
use Rattle.clap.specs.Kinds.{IsAmong}
use Rattle.clap.specs.Values.{kind_of}
use Rattle.clap.specs.declared.error.kind.ErrorKind.TheVariants as kind
use Rattle.hub_words.proofs.command.matches_in.Goals as goal

pub returns-in-Ok-clause-taken : goal.returns-in-Ok-clause-taken
returns-in-Ok-clause-taken c = c.in-Ok.ensures.kinds c.requires.free

pub returns-in-Ok-clause-rows : goal.returns-in-Ok-clause-rows
returns-in-Ok-clause-rows c = (c.in-Ok.ensures.matches c.requires.simple).0

pub returns-clause-err : goal.returns-clause-err
returns-clause-err c =
    let known = c.in-Err.ensures.kinds c.requires.free in
    let other : ¬ (kind_of c.in-Err.error ≡ kind.OutOfMemory) = search rules in
    λ refused none. elim known [
      | inl memory ↦ other memory
      | inr among ↦ subst (IsAmong (kind_of c.in-Err.error)) none among
    ]
