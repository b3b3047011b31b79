use Rattle.std.proofs.Common.{◌∙◌, sym, ap}
use Rattle.std.specs.Option.{option_copied}
use Rattle.hub_tables.proofs.GroupNames.{member_of}
use Rattle.hub_tables.proofs.tables.members.TablesMembers.is_member.Goals as goal

pub returns-in-Some : goal.returns-in-Some
returns-in-Some c = c.contains.ensures ∙ member_of _ _ _ _ (sym c.group.ensures.value ∙ ap option_copied c.in-Some.is)
