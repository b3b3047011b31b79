use Rattle.std.proofs.Common.{sym, ap, ◌∙◌, subst}
use Rattle.route_table.specs.Path.{parts, IsKey}
use Rattle.route_table.proofs.PartLemmas.{parts_decode, key_decode}
use Rattle.route_table.proofs.path.decoded.Goals as goal

pub returns-clause-key : goal.returns-clause-key
returns-clause-key c = subst IsKey (sym c.in_ok-bytes.ensures) (key_decode c.args.path.now c.requires.key)

pub returns-clause-parts : goal.returns-clause-parts
returns-clause-parts c = ap parts c.in_ok-bytes.ensures ∙ parts_decode c.args.path.now c.requires.clear c.requires.key
