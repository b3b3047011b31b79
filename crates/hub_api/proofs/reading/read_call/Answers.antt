use Rattle.std.proofs.Common.{ap, sym, ◌∙◌, Option, Result, Ok}
use Rattle.hub_machine.specs.declared.call.Call.{Call}
use Rattle.request_parts.specs.Steps.{◌>>=◌}
use Rattle.hub_api.specs.Calls.{asked, call_of, call_read}
use Rattle.hub_paths.specs.Paths.{path_of}
use Rattle.hub_paths.specs.declared.paths.Path.{Path}
use Rattle.hub_api.specs.declared.refusal.ApiRefusal.{ApiRefusal}
use Rattle.hub_api.proofs.reading.read_call.Goals as goal

pub returns-in-Ok : goal.returns-in-Ok
unfolding call_read
returns-in-Ok c =
    let q = c.args.request in
    ap (λ (path : Option Path). call_of path q >>= (λ call. Ok (asked q call))) (sym (c.path_of-path.ensures ∙ ap path_of c.as_str.ensures))
    ∙ ap (λ (call : Result Call ApiRefusal). call >>= (λ call. Ok (asked q call))) c.in-Ok.ensures

pub returns-in-Err : goal.returns-in-Err
unfolding call_read
returns-in-Err c = λ other.
    let q = c.args.request in
    ap (λ (path : Option Path). call_of path q >>= (λ call. Ok (asked q call))) (sym (c.path_of-path.ensures ∙ ap path_of c.as_str.ensures))
    ∙ ap (λ (call : Result Call ApiRefusal). call >>= (λ call. Ok (asked q call))) (c.in-Err.ensures other)
