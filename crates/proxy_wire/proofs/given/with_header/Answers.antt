use Rattle.std.proofs.Common.{◌≡◌, true, subst, sym, ◌++◌, List, ℕ}
use Rattle.http_wire.specs.declared.head.Header.{Header}
use Rattle.http_wire.specs.Fields.{is_named}
use Rattle.proxy_wire.specs.Framing.{IsGiven}
use Rattle.proxy_wire.proofs.NameLemmas.{value_named}
use Rattle.proxy_wire.proofs.given.with_header.Goals as goal

pub returns-then-is_same : goal.returns-then-is_same
returns-then-is_same c = λ values is.
    let header : Header = record { name = c.args.name.now; value = c.args.value.now } in
    let named : is_named c.args.wanted.now header ≡ true = sym c.if-is_same.ensures in
    subst (λ (x : List (List ℕ)). IsGiven (values ++ x) c.another.result) (sym (value_named c.args.wanted.now header named)) (c.another.ensures values is)
