use Rattle.std.proofs.Common.{List, ℕ, [], ◌∷◌, ◌++◌, take, sym, subst}
use Rattle.http_wire.specs.declared.head.Header.{Header}
use Rattle.http_wire.specs.Fields.{values_of}
use Rattle.proxy_wire.specs.Framing.{IsGiven}
use Rattle.proxy_wire.proofs.NameLemmas.{values_more, same_header}
use Rattle.proxy_wire.proofs.given.given_in.Goals as goal

pub all-preserved : goal.all-preserved
all-preserved c =
    subst (λ (x : List (List ℕ)). IsGiven x c.with_header-found.result)
    (sym (values_more c.args.name.now c.args.headers.now c.all.header-index c.header-item.result c.all-test.true))
    (rw (sym c.header-item.is)
    (subst (λ (h : Header). IsGiven (values_of c.args.name.now (take c.all.header-index c.args.headers.now) ++ values_of c.args.name.now (h ∷ [])) c.with_header-found.result)
    (same_header c.as_bytes.ensures c.as_slice.ensures) (c.with_header-found.ensures _ c.all.invariant)))
