-- The keys of servers stand together by their users.
use Rattle.std.specs.Prelude.{◌≡◌, false}
use Rattle.std.proofs.Common.{refl}
use Rattle.std.specs.declared.cmp.Ordering.TheVariants.{Less, Equal, Greater}
use Rattle.std.specs.Ordering.{ordering_then, is_gt}
use Rattle.hub_kit.specs.KeyOrder.{name_cmp, key_cmp}
use Rattle.hub_kit.specs.declared.names.ServerKey.{ServerKey}

-- The proof of a law on the order of keys, which stands here since a source cites only what stands in specs/
pub users_together : (a b : ServerKey) → key_cmp a b ≡ Less → is_gt (name_cmp a.user b.user) ≡ false
users_together a b h = elim (name_cmp a.user b.user) as (λ r. ordering_then r (name_cmp a.server b.server) ≡ Less → is_gt r ≡ false) [
  | Less ↦ λ h. refl
  | Equal ↦ λ h. refl
  | Greater ↦ λ h. cc
] h
