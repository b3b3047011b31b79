use Rattle.std.proofs.Common.{Some, ◌∙◌, ap, sym}
use Rattle.hub_words.specs.Backup.{backup_with}
use Rattle.hub_words.proofs.Both.{mapped, unmapped}
use Rattle.hub_words.proofs.backup.BackupWordsCommandWords.of.Goals as goal

pub returns-in-Ok : goal.returns-in-Ok
returns-in-Ok c =
    mapped backup_with _ _ _ (c.both-values.ensures _ _ c.needed.ensures c.needed-2.ensures) c.in-Ok.is ∙ ap Some (sym c.backup_with.ensures)

pub returns-in-Err : goal.returns-in-Err
returns-in-Err c =
    unmapped backup_with _ _ _ (c.both-values.ensures _ _ c.needed.ensures c.needed-2.ensures) c.in-Err.is
