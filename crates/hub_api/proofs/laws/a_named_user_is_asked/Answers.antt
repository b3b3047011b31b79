use Rattle.std.proofs.Common.{ap, ◌∙◌, ◌≡◌, codes, refl, Option, List, ℕ, Ok, ok_or}
use Rattle.hub_machine.specs.declared.call.Call.TheVariants.{GetUser}
use Rattle.request_parts.specs.Names.{name_of}
use Rattle.request_parts.specs.Paths.{read_in_path, segment_number}
use Rattle.request_parts.proofs.OnLiterals.{ann_is_read}
use Rattle.request_parts.specs.Steps.{◌>>=◌}
use Rattle.hub_api.specs.Calls.{asked, at_path, call_of, call_read, method_of}
use Rattle.hub_api.specs.Names.{read_at}
use Rattle.hub_paths.specs.Paths.{path_of, text_of}
use Rattle.hub_api.specs.declared.refusal.ApiRefusal.TheVariants.{BadName}
use Rattle.hub_paths.specs.declared.paths.Path.{Path}
use Rattle.hub_paths.specs.declared.paths.Path.TheVariants.{User}
use Rattle.hub_paths.proofs.PathsOf.{user_path}
use Rattle.hub_api.proofs.laws.a_named_user_is_asked.Goals as goal

pub returns : goal.returns
unfolding call_read method_of read_at
returns c =
    let q = c.args.request.now in
    let number : segment_number (codes "{user}") (text_of User) ≡ 4 = refl in
    ap (λ (path : Option Path). call_of path q >>= (λ call. Ok (asked q call))) (ap path_of c.requires.path ∙ user_path)
    ∙ (ap (λ (m : List ℕ). at_path User (method_of m) q >>= (λ call. Ok (asked q call))) c.requires.method
    ∙ ap (λ (n : ℕ). (ok_or (read_in_path name_of n q.path) (BadName n) >>= (λ u. Ok (GetUser u))) >>= (λ call. Ok (asked q call))) number
    ∙ ap (λ (user : Option (List ℕ)). (ok_or user (BadName 4) >>= (λ u. Ok (GetUser u))) >>= (λ call. Ok (asked q call)))
    (ap (λ (p : List ℕ). read_in_path name_of 4 p) c.requires.path ∙ ann_is_read))
