-- What is written in a turn.
use Rattle.std.specs.Prelude.{ℕ, List}
use Rattle.reply_texts.specs.ReplyText.{no_memory}
use Rattle.hub_run.specs.declared.written.Written.{Written}
use Rattle.hub_run.specs.declared.written.Written.TheVariants.{Text, NoMemory}

-- the bytes of a reply, or of the one that stands for want of memory
abbrev pub written_bytes : Written → List ℕ
written_bytes (Text text) = text
written_bytes NoMemory = no_memory
