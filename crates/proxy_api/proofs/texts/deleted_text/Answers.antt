use Rattle.std.proofs.Common.{refl}
use Rattle.std.specs.Fmt.{digits}
use Rattle.proxy_api.proofs.texts.deleted_text.Goals as goal

pub returns : goal.returns
unfolding digits
returns c = refl
