use Rattle.std.proofs.Common.{◌∙◌, sym}
use Rattle.roles.specs.Looks.{kept_now}
use Rattle.roles.proofs.Looked.{hit_brings, hit_right, miss_brings, miss_right, renewed_brings, renewed_right}
use Rattle.roles.proofs.cache.RightsCache.bring.Goals as goal

pub returns-then-has-clause-ok : goal.returns-then-has-clause-ok
returns-then-has-clause-ok c = hit_brings c.args.self.now c.hit.new.self c.args.token.now.id c.args.stamp (sym c.has.ensures ∙ c.if-has.true) c.hit.ensures

pub returns-then-has-clause-right : goal.returns-then-has-clause-right
returns-then-has-clause-right c = hit_right c.args.self.now c.hit.new.self c.args.t.now c.args.token.now c.args.stamp c.hit.ensures c.requires.right

pub returns-then-has_since-clause-ok : goal.returns-then-has_since-clause-ok
returns-then-has_since-clause-ok c = renewed_brings c.args.self.now c.renew.new.self c.args.t.now c.args.token.now c.args.since c.args.stamp (sym c.has.ensures ∙ c.if-has.false) (c.has_since.ensures c.if-has_since.true) c.requires.since c.renew.ensures

pub returns-then-has_since-clause-right : goal.returns-then-has_since-clause-right
returns-then-has_since-clause-right c = renewed_right c.args.self.now c.renew.new.self c.args.t.now c.args.token.now c.args.since c.args.stamp (c.has_since.ensures c.if-has_since.true) c.requires.since c.renew.ensures

pub returns-clause-ok : goal.returns-clause-ok
returns-clause-ok c = miss_brings c.args.self.now c.keep.new.self c.args.token.now.id (kept_now c.args.stamp c.in_ok-grant.grant) (sym c.has.ensures ∙ c.if-has.false) c.keep.ensures

pub returns-clause-right : goal.returns-clause-right
returns-clause-right c = miss_right c.args.self.now c.keep.new.self c.args.t.now c.args.token.now (kept_now c.args.stamp c.in_ok-grant.grant) c.in_ok-grant.ensures.admits c.keep.ensures
