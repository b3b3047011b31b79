use Rattle.std.proofs.Common.{List, ℕ, [], ◌∷◌, ◌++◌, map, take, sym, subst}
use Rattle.http_wire.specs.declared.head.Header.{Header}
use Rattle.http_wire.specs.Fields.{values_of}
use Rattle.http_wire.specs.Head.{header_at}
use Rattle.proxy_wire.specs.Framing.{IsGiven}
use Rattle.proxy_wire.proofs.NameLemmas.{values_at, same_header}
use Rattle.proxy_wire.proofs.given.given_at.Goals as goal

pub all-preserved : goal.all-preserved
all-preserved c =
    subst (λ (x : List (List ℕ)). IsGiven x c.with_header-found.result)
    (sym (values_at c.args.name.now c.args.bytes.now c.args.spans.now c.all.span-index _ c.all-test.true))
    (subst (λ (h : Header). IsGiven (values_of c.args.name.now (map (header_at c.args.bytes.now) (take c.all.span-index c.args.spans.now)) ++ values_of c.args.name.now (h ∷ []))
    c.with_header-found.result)
    (same_header c.of.ensures c.of-in-all.ensures) (c.with_header-found.ensures _ c.all.invariant))
