use Rattle.hub_words.specs.Backup.{backup_app}
use Rattle.hub_words.proofs.backup.BackupWordsCommandWords.command.Goals as goal

pub returns : goal.returns
unfolding backup_app
returns c =
    let s0 = c.begun-command.ensures in
    let s1 = c.needed_choice-command.ensures _ s0 in
    c.positional.ensures _ s1
