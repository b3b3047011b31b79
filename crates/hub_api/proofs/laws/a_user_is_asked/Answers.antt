use Rattle.std.proofs.Common.{ap, ◌∙◌, codes, Option, List, ℕ, Ok}
use Rattle.hub_machine.specs.declared.call.Call.TheVariants.{GetIdentity}
use Rattle.request_parts.proofs.OnLiterals.{no_query}
use Rattle.request_parts.specs.Queries.{query_value}
use Rattle.request_parts.specs.Steps.{◌>>=◌}
use Rattle.hub_api.specs.Calls.{asked, at_path, call_of, call_read, method_of}
use Rattle.hub_paths.specs.Paths.{path_of}
use Rattle.hub_api.specs.Queries.{server_in, server_of}
use Rattle.hub_api.specs.Readings.{get_identity}
use Rattle.hub_paths.specs.declared.paths.Path.{Path}
use Rattle.hub_paths.specs.declared.paths.Path.TheVariants.{Identity}
use Rattle.hub_paths.proofs.PathsOf.{identity_path}
use Rattle.hub_api.proofs.laws.a_user_is_asked.Goals as goal

pub returns : goal.returns
unfolding call_read method_of get_identity server_of
returns c =
    let q = c.args.request.now in
    ap (λ (path : Option Path). call_of path q >>= (λ call. Ok (asked q call))) (ap path_of c.requires.path ∙ identity_path)
    ∙ (ap (λ (m : List ℕ). at_path Identity (method_of m) q >>= (λ call. Ok (asked q call))) c.requires.method
    ∙ ap (λ (v : Option (List ℕ)). (server_in v >>= (λ server. Ok (GetIdentity server))) >>= (λ call. Ok (asked q call)))
    (ap (λ (s : List ℕ). query_value (codes "for") s) c.requires.query ∙ no_query (codes "for")))
