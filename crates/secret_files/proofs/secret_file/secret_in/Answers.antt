use Rattle.std.proofs.Common.{rules, ◌≡◌, true}
use Rattle.secret_files.specs.SecretFiles.{is_secret}
use Rattle.secret_files.proofs.SecretLemmas.{secret_is_text}
use Rattle.secret_files.proofs.secret_file.secret_in.Goals as goal

pub returns-in_default : goal.returns-in_default
returns-in_default c =
    let is : is_secret c.without_end-bytes.result.now ≡ true = search rules in
    absurd (c.in_default.ensures.cases.0 (secret_is_text c.without_end-bytes.result.now is))
