use Rattle.std.proofs.Common.{List, ℕ, Err, ap, ◌∙◌, subst, inr}
use Rattle.http_wire.specs.Target.{path_of}
use Rattle.proxy_core.proofs.forward.choose.Goals as goal

pub returns-in-Err-look-clause-err : goal.returns-in-Err-look-clause-err
returns-in-Err-look-clause-err g c =
    inr (
      c.in-Err-look.e,
      subst (λ (path : List ℕ). g.L.Lookup.found c.args.routes.now path c.args.now (Err c.in-Err-look.e) c.look.new.self)
          (c.path_of.ensures ∙ ap path_of c.as_slice.ensures) c.in-Err-look.ensures.found,
      c.route_refusal.ensures,
    )
