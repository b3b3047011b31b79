-- The pass stays what it was.
use Rattle.std.proofs.Common.{◌≡◌, List, [], ◌∷◌, ap, ◌∙◌}
use Rattle.hub_link.specs.Links.{Exchange, Chain}
use Rattle.hub_run.specs.Turns.{View}
use Rattle.direct_link.specs.Direct.{Direct, IsSame}

pub same_here : (x y : View) → y ≡ x → IsSame x y
same_here x y is = record { of = ap (λ (v : View). v.pass.of) is; base = ap (λ (v : View). v.pass.base) is; alone = ap (λ (v : View). v.pass.alone) is }

pub same_then : (x z y : View) → IsSame x z → IsSame z y → IsSame x y
same_then x z y one two = record { of = two.of ∙ one.of; base = two.base ∙ one.base; alone = two.alone ∙ one.alone }

pub chain_same : (asks : List Exchange) (x y : View) → Chain Direct x asks y → IsSame x y
chain_same [] x y is = same_here x y is
chain_same ((request, given) ∷ asks) x y (z, direct, more) = same_then x z y direct.same (chain_same asks z y more)
