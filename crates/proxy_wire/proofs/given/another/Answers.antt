use Rattle.std.proofs.Common.{[], ◌∷◌, ◌++◌, refl}
use Rattle.proxy_wire.proofs.given.another.Goals as goal

pub returns-in-One : goal.returns-in-One
returns-in-One c = λ values is.
    let one = rw c.in-One.is at is in (c.in-One.field-0.now, c.args.value.now, [], rw one refl)

pub returns-in-Several : goal.returns-in-Several
returns-in-Several c = λ values is.
    let many = rw c.in-Several.is at is in (many.0, many.1, many.2 ++ c.args.value.now ∷ [], rw many.3 refl)
