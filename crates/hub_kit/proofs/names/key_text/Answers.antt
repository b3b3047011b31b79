use Rattle.std.proofs.Common.{◌≡◌, ◌++◌, codes, rules, ap, ◌∙◌}
use Rattle.hub_kit.specs.ServerKeys.{key_read}
use Rattle.hub_kit.proofs.NameTexts.{key_reads}
use Rattle.hub_kit.proofs.names.key_text.Goals as goal

pub returns-clause-reads : goal.returns-clause-reads
returns-clause-reads c =
    let key = c.args.key.now in
    let text : c.push_str-2.new.self ≡ key.user ++ codes "/" ++ key.server = search rules in
    ap key_read text ∙ key_reads key.user key.server c.as_str.ensures.name c.as_str-2.ensures.name
