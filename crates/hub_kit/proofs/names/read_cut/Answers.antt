use Rattle.std.proofs.Common.{◌≤◌, ◌-◌, ◌+◌, ◌^◌, length, take, drop, arith, sym, length-take}
use Rattle.hub_kit.proofs.Places.{server_in, further}
use Rattle.hub_kit.proofs.names.read_cut.Goals as goal

pub later-requires : goal.later-requires
later-requires c =
    let bytes = c.args.bytes.now in
    let after = take (length bytes - (c.args.at + 1)) (drop (c.args.at + 1) bytes) in
    let short : length after ≤ length bytes - (c.args.at + 1) = omega (arith, length-take (length bytes - (c.args.at + 1)) (drop (c.args.at + 1) bytes)) in
    let fits : length after ≤ 2 ^ 64 - (c.args.at + 1) = omega arith in
    further _ _ _ fits (server_in after _ (sym c.in-Err-read_server.ensures))
