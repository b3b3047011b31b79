use Rattle.std.proofs.Common.{◌≡◌, ℕ, ap, inl, subst, nat_eq}
use Rattle.std.specs.Prelude.{Some, None}
use Rattle.std.specs.Map.{lookup}
use Rattle.lru.specs.LruCache.{LruCache}
use Rattle.roles.specs.declared.cache.KeptGrant.{KeptGrant}
use Rattle.roles.specs.Looks.{Cache, Entry, IsAfterMiss, kept_now}
use Rattle.roles.proofs.cache.RightsCache.renew.Goals as goal

pub returns : goal.returns
returns c = λ kept.
    let seen : LruCache ℕ KeptGrant → Cache = (λ l. record { entries = l.entries; capacity = l.cap; held = None; hits = c.self.inside.hits }) in
    let P : Cache → Type 0 = (λ x. lookup (nat_eq c.args.id) x.entries ≡ Some kept → IsAfterMiss x c.args.id (kept_now c.args.stamp kept.grant) (seen c.restamp.new.listed)) in
    subst P c.self.view_is (λ is. inl (ap seen (c.restamp.ensures kept is)))
