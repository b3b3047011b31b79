use Rattle.std.proofs.Common.{◌≡◌, List, [], ◌∷◌, ◌++◌, map, take, sym, subst}
use Rattle.http_wire.specs.declared.head.Header.{Header}
use Rattle.http_wire.specs.Head.{header_at}
use Rattle.hub_link.specs.Chunked as spec
use Rattle.hub_link.proofs.ReplyLemmas.{headers_more, same_header}
use Rattle.hub_link.proofs.codings.coding_said.Goals as goal

pub all-preserved : goal.all-preserved
all-preserved c =
    let before = map (header_at c.args.bytes.now) (take c.all.span-index c.args.spans.now) in
    subst (λ (hs : List Header). c.with_header-said.result ≡ spec.coding_said hs) (sym (headers_more c.args.bytes.now c.args.spans.now c.all.span-index _ c.all-test.true))
    (subst (λ (h : Header). c.with_header-said.result ≡ spec.coding_said (before ++ h ∷ [])) (same_header c.of.ensures c.of-in-all.ensures)
    (c.with_header-said.ensures before c.all.invariant))
