-- The ask of a guard is one GET.
use Rattle.std.proofs.Common.{◌≡◌, ◌≤◌, ◌+◌, arith, ℕ, List, length, Some, length-append, refl, sym, subst}
use Rattle.httparse.specs.Grammar.{RequestHead, IsRequestHead}
use Rattle.guard.specs.Access.{access_request}
use Rattle.http_wire.specs.Head.{head_of}
use Rattle.http_wire.specs.Request.{IsRequestText}
use Rattle.http_wire.specs.Token.{token_of}
use Rattle.http_wire.specs.Wire.{head_limit}
use Rattle.hub_kit.specs.Names.{IsName, IsServerName}
use Rattle.hub_kit.specs.declared.names.ServerKey.{ServerKey}
use Rattle.access_laws.specs.Asks.{OnlyReads, get_text, get_of, access_target, ask_size}
use Rattle.access_laws.proofs.Names.{target_is}
use Rattle.access_laws.proofs.Reading.{gets_read, gets_are_texts}
use Rattle.access_laws.proofs.Words.{token_is_word}

same_text : (key : ServerKey) (token : List ℕ) → get_text (access_target key) token ≡ access_request key token
unfolding access_request
same_text key token = refl

pub access_is_asked : (key : ServerKey) (head : RequestHead) (token : List ℕ) → IsName key.user → IsServerName key.server → IsRequestHead head
    → token_of (head_of head).headers ≡ Some token → OnlyReads (access_request key token) (get_of (access_target key) token)
access_is_asked key head token user server valid is =
    subst (λ (t : List ℕ). OnlyReads t (get_of (access_target key) token)) (same_text key token)
    (gets_read (access_target key) token (target_is key user server) (token_is_word head token valid is))

-- ---- its length

ask_long : (key : ServerKey) (token : List ℕ)
    → length (access_request key token) ≡ ask_size + length key.user + length key.server + length token
unfolding access_request
ask_long key token = simp length-append (omega arith)

pub access_is_text : (key : ServerKey) (head : RequestHead) (token : List ℕ) → IsName key.user → IsServerName key.server → IsRequestHead head
    → token_of (head_of head).headers ≡ Some token → ask_size + length key.user + length key.server + length token ≤ head_limit
    → IsRequestText (get_of (access_target key) token) (access_request key token)
access_is_text key head token user server valid is short =
    let fits : length (get_text (access_target key) token) ≤ head_limit =
    subst (λ (t : List ℕ). length t ≤ head_limit) (sym (same_text key token))
    (subst (λ (n : ℕ). n ≤ head_limit) (sym (ask_long key token)) short) in
    subst (λ (t : List ℕ). IsRequestText (get_of (access_target key) token) t) (same_text key token)
    (gets_are_texts (access_target key) token (target_is key user server) (token_is_word head token valid is) fits)
