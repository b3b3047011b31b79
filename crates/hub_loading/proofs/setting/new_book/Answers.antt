use Rattle.hub_loading.proofs.SettingLemmas.{job_hub, read_is}
use Rattle.hub_loading.proofs.setting.new_book.Goals as goal

pub returns-in-Ok-book-clause-hub : goal.returns-in-Ok-book-clause-hub
returns-in-Ok-book-clause-hub c =
    job_hub c.in-Ok-config.config c.in-Ok.root c.up_to-now.result _ _ c.new.result.items _ c.in-Ok-book.book c.in-Ok-book.ensures.ok c.in-Ok-config.ensures.config
    (read_is c.in-Ok.root c.in-Ok.ensures) c.up_to-now.ensures c.in-Ok-new.ensures.rows c.new.ensures.items
