use Rattle.std.proofs.Common.{ap, ◌∙◌, Option, Ok}
use Rattle.request_parts.specs.Steps.{◌>>=◌}
use Rattle.hub_api.specs.Calls.{asked, call_of, call_read}
use Rattle.hub_paths.specs.Paths.{path_of}
use Rattle.hub_paths.specs.declared.paths.Path.{Path}
use Rattle.hub_paths.proofs.PathsOf.{no_name_path}
use Rattle.hub_api.proofs.laws.no_name_is_no_path.Goals as goal

pub returns : goal.returns
unfolding call_read
returns c =
    let q = c.args.request.now in
    ap (λ (path : Option Path). call_of path q >>= (λ call. Ok (asked q call))) (ap path_of c.requires ∙ no_name_path)
