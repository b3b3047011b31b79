use Rattle.std.proofs.Common.{refl}
use Rattle.std.specs.Fmt.{digits}
use Rattle.proxy_api.proofs.texts.ok_line.Goals as goal

pub returns : goal.returns
unfolding digits
returns c = refl
