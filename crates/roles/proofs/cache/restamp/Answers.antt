use Rattle.std.proofs.Common.{◌≡◌, ◌∙◌, ap, nat_eq}
use Rattle.std.specs.Prelude.{Some}
use Rattle.lru.specs.LruCache.{LruCache, lru_cache, put_entries}
use Rattle.roles.specs.declared.cache.KeptGrant.{KeptGrant}
use Rattle.roles.specs.Looks.{kept_now}
use Rattle.roles.proofs.Looked.{restamped, same_kept}
use Rattle.roles.proofs.cache.restamp.Goals as goal

pub returns-in-Some : goal.returns-in-Some
returns-in-Some c = λ kept is.
    let same : c.in-Some.kept.now ≡ kept = same_kept c.in-Some.kept.now kept (c.in-Some.ensures.value ∙ is) in
    restamped c.args.listed.now c.args.id kept (record { stamp = c.args.stamp; grant = c.in-Some.kept.now.grant }) is
    ∙ ap (λ (k : KeptGrant). lru_cache (put_entries nat_eq c.args.listed.now c.args.id (kept_now c.args.stamp k.grant)) c.args.listed.now.cap) same
