use Rattle.std.proofs.Common.{◌≡◌, length}
use Rattle.serde_json.specs.Data.{Members}
use Rattle.request_parts.proofs.Truths.{MembersGoOn, truth_among}
use Rattle.request_parts.proofs.truth.truth_of_members.Given as goal

abbrev pub invariant-members : goal.invariant-members
invariant-members l = (found : Members) × MembersGoOn 126 l.initial.reader found l.reader × (l.found ≡ truth_among l.fn.key found)

abbrev pub decreases-members : goal.decreases-members
decreases-members l = length l.reader
