use Rattle.std.proofs.Common.{ap, ◌∙◌, codes, Option, List, ℕ, Ok, ok_or}
use Rattle.hub_machine.specs.declared.call.Call.TheVariants.{PostUsers}
use Rattle.request_parts.specs.Bodies.{body_object, list_at}
use Rattle.request_parts.specs.Steps.{◌>>=◌}
use Rattle.hub_api.specs.Bodies.{body_of, distinct_names, list, some_names, truth}
use Rattle.hub_api.specs.Calls.{asked, at_path, call_of, call_read, method_of}
use Rattle.hub_paths.specs.Paths.{path_of}
use Rattle.hub_api.specs.Readings.{post_users}
use Rattle.hub_api.specs.declared.refusal.ApiRefusal.TheVariants.{BadBody}
use Rattle.hub_paths.specs.declared.paths.Path.{Path}
use Rattle.hub_paths.specs.declared.paths.Path.TheVariants.{Users}
use Rattle.hub_paths.proofs.PathsOf.{users_path}
use Rattle.hub_api.proofs.laws.users_are_needed.Goals as goal

pub returns : goal.returns
unfolding call_read method_of post_users body_of body_object distinct_names some_names list list_at
returns c =
    let q = c.args.request.now in
    ap (λ (path : Option Path). call_of path q >>= (λ call. Ok (asked q call))) (ap path_of c.requires.path ∙ users_path)
    ∙ (ap (λ (m : List ℕ). at_path Users (method_of m) q >>= (λ call. Ok (asked q call))) c.requires.method
    ∙ ap
    (λ (b : List ℕ). (ok_or (body_object b) BadBody >>= (λ body. distinct_names (codes "usernames") body >>= (λ usernames. truth (codes "admin") body >>= (λ admin. Ok (PostUsers usernames admin))))) >>= (λ call. Ok (asked q call)))
    c.requires.body)
