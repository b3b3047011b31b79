use Rattle.std.proofs.Common.{ap, ◌∙◌, Option, List, ℕ, Ok}
use Rattle.request_parts.specs.Steps.{◌>>=◌}
use Rattle.hub_api.specs.Calls.{asked, at_path, call_of, call_read, method_of}
use Rattle.hub_paths.specs.Paths.{path_of}
use Rattle.hub_paths.specs.declared.paths.Path.{Path}
use Rattle.hub_paths.specs.declared.paths.Path.TheVariants.{Version}
use Rattle.hub_paths.proofs.PathsOf.{version_path}
use Rattle.hub_api.proofs.laws.a_version_is_asked.Goals as goal

pub returns : goal.returns
unfolding call_read method_of
returns c =
    let q = c.args.request.now in
    ap (λ (path : Option Path). call_of path q >>= (λ call. Ok (asked q call))) (ap path_of c.requires.path ∙ version_path)
    ∙ ap (λ (m : List ℕ). at_path Version (method_of m) q >>= (λ call. Ok (asked q call))) c.requires.method
