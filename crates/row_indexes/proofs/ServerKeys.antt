-- No server of a user comes before the default one.
use Rattle.std.proofs.Common.{◌≡◌, ℕ, false, List, [], ◌∷◌, refl, ap, ◌∙◌}
use Rattle.std.specs.Ordering.{ordering_then, is_gt}
use Rattle.std.specs.Cmp.{tied_itself}
use Rattle.std.specs.Cmp.Lexicographic.{nat_list_cmp_total}
use Rattle.hub_kit.specs.KeyOrder.{name_cmp}
use Rattle.hub_kit.specs.declared.names.ServerKey.{ServerKey}

nothing_first : (name : List ℕ) → is_gt (name_cmp [] name) ≡ false
nothing_first [] = refl
nothing_first (b ∷ bs) = refl

pub default_first : (user server : List ℕ) → server ≡ [] → (key : ServerKey) → key.user ≡ user → is_gt (ordering_then (name_cmp user key.user) (name_cmp server key.server)) ≡ false
default_first user server e key h =
    ap (λ r. is_gt (ordering_then r (name_cmp server key.server))) (ap (name_cmp user) h ∙ tied_itself nat_list_cmp_total user) ∙ ap (λ s. is_gt (name_cmp s key.server)) e ∙ nothing_first key.server
