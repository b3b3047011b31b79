-- Why a request asks no call, and what is answered then.
use Rattle.std.specs.Prelude.{◌≡◌, ◌≢◌, codes, Option, Some, None, Result, Ok, Err}
use Rattle.serde_json.specs.Data.{Data}
use Rattle.serde_json.specs.View.{view}
use Rattle.serde_json.specs.declared.value.Value.{Value}
use Rattle.http_wire.specs.declared.error.WireError.{WireError}
use Rattle.http_wire.specs.declared.error.WireError.TheVariants as wire
use Rattle.hub_machine.specs.Replies.{Reply}
use Rattle.reply_texts.specs.ReplyText.{refused, without_memory}
use Rattle.hub_api.specs.declared.refusal.ApiRefusal.{ApiRefusal}
use Rattle.hub_api.specs.declared.refusal.ApiRefusal.TheVariants.{NoPath, NoMethod, BadName, BadQuery, BadBody, BadScope, Memory}

abbrev pub memory : ApiRefusal
memory = Memory

-- the result is what is said of it, or want of memory
abbrev pub Gives : {T : Type 0} → Result T ApiRefusal → Result T ApiRefusal → Type 0
Gives (Ok value) said = said ≡ Ok value
Gives (Err refusal) said = refusal ≢ Memory → said ≡ Err refusal

-- the same of a JSON value, which is seen as its data
abbrev pub GivesView : Result Value ApiRefusal → Result Data ApiRefusal → Type 0
GivesView (Ok value) said = said ≡ Ok (view value)
GivesView (Err refusal) said = refusal ≢ Memory → said ≡ Err refusal

-- the reply to a request that asks no call
abbrev pub api_refusal : ApiRefusal → Reply
api_refusal NoPath = refused 404 (codes "no such path")
api_refusal NoMethod = refused 405 (codes "method not allowed")
api_refusal (BadName n) = refused 400 (codes "bad name")
api_refusal BadQuery = refused 400 (codes "bad query")
api_refusal BadBody = refused 400 (codes "bad body")
api_refusal (BadScope index error) = refused 400 (codes "bad scope")
api_refusal Memory = without_memory

-- the reply where no draw came for a call that draws
abbrev pub no_draw : Reply
no_draw = refused 503 (codes "random")

-- the reply to bytes that are no request. An end, a fault of the source and want of memory have none of this kind
abbrev pub wire_refusal : WireError → Option Reply
wire_refusal wire.BadHead = Some (refused 400 (codes "bad head"))
wire_refusal (wire.TooLarge n) = Some (refused 413 (codes "too large"))
wire_refusal wire.Coding = Some (refused 501 (codes "coding not supported"))
wire_refusal wire.Ended = None
wire_refusal wire.Cut = None
wire_refusal wire.ReadFault = None
wire_refusal wire.Memory = None
