-- Names are ASCII without a slash, so they are text, and the text of a key reads as that key.
use Rattle.std.proofs.Common.{◌≡◌, ℕ, ◌+◌, ◌<◌, true, not, ltb, ◌==◌, List, [], ◌∷◌, ◌++◌, length, take, drop, Some, None, Ok, Err, All, ap, refl, sym, ◌∙◌, arith, ⊎_elim, length-append, append_assoc, take_at, drop_at}
use Rattle.std.specs.Prelude.{Option, IsUtf8, codes, position}
use Rattle.std.proofs.lemmas.Bool.{cases_Bool}
use Rattle.std.proofs.lemmas.Bool.Decides.{nat_tests}
use Rattle.std.proofs.lemmas.List.Elements.{All-nil, All-cons, All-weaker}
use Rattle.std.proofs.lemmas.Str.{IsUtf8-from_ascii}
use Rattle.std.proofs.lemmas.Str.Ascii.{IsAscii-from_all}
use Rattle.url.proofs.InputLemmas.{Passes, prefix_len_at}
use Rattle.hub_kit.specs.Names.{is_letter_or_digit, is_name_byte, bad_from, first_bad, bad_byte, name_read, server_read, IsName, IsServerName}
use Rattle.hub_kit.specs.ServerKeys.{key_of, key_at, key_read}
use Rattle.hub_kit.specs.declared.names.NameError.TheVariants.{TooLong}

abbrev IsNameByte : ℕ → Type 0
IsNameByte b = is_name_byte b ≡ true

bytes_from : (at : ℕ) (bs : List ℕ) → bad_from at bs ≡ None → All IsNameByte bs
bytes_from at [] h = All-nil IsNameByte
bytes_from at (b ∷ bs) h =
    ⊎_elim
    (λ good. All-cons IsNameByte b bs good (bytes_from (at + 1) bs (rw good at h)))
    (λ bad. let here : Some at ≡ None = rw bad at h in cc)
    (cases_Bool (is_name_byte b))

bytes_of_first : (bs : List ℕ) → first_bad bs ≡ None → All IsNameByte bs
bytes_of_first [] h = All-nil IsNameByte
bytes_of_first (b ∷ bs) h =
    ⊎_elim
    (λ good. All-cons IsNameByte b bs (grind (arith, nat_tests)) (bytes_from 1 bs (rw good at h)))
    (λ bad. let here : Some 0 ≡ None = rw bad at h in cc)
    (cases_Bool (is_letter_or_digit b))

bytes_of_read : (bs : List ℕ) (o : Option ℕ) → o ≡ first_bad bs → bad_byte bs o ≡ Ok bs → All IsNameByte bs
bytes_of_read bs None same h = bytes_of_first bs (sym same)
bytes_of_read bs (Some at) same h = cc

-- the bytes of a name
bytes_of : (bs : List ℕ) → IsServerName bs → All IsNameByte bs
bytes_of [] h = All-nil IsNameByte
bytes_of (b ∷ bs) h =
    ⊎_elim
    (λ long. let here : Err TooLong ≡ Ok (b ∷ bs) = rw long at h in cc)
    (λ short. bytes_of_read (b ∷ bs) (first_bad (b ∷ bs)) refl (rw short at h))
    (cases_Bool (ltb 64 (length (b ∷ bs))))

pub server_of_name : (bs : List ℕ) → IsName bs → IsServerName bs
server_of_name [] h = tt
server_of_name (b ∷ bs) h = h

pub name_is_text : (bs : List ℕ) → IsServerName bs → IsUtf8 bs
name_is_text bs h =
    IsUtf8-from_ascii bs (IsAscii-from_all bs (All-weaker IsNameByte (λ b. b < 128) (λ b good. grind (arith, nat_tests)) bs (bytes_of bs h)))

-- bytes of which none is bad
pub good_is_text : (bs : List ℕ) → first_bad bs ≡ None → IsUtf8 bs
good_is_text bs h =
    IsUtf8-from_ascii bs (IsAscii-from_all bs (All-weaker IsNameByte (λ b. b < 128) (λ b good. grind (arith, nat_tests)) bs (bytes_of_first bs h)))

server_reads : (bs : List ℕ) → IsServerName bs → server_read bs ≡ Ok bs
server_reads [] h = refl
server_reads (b ∷ bs) h = h

pub key_reads : (user server : List ℕ) → IsName user → IsServerName server → key_read (user ++ codes "/" ++ server) ≡ Ok (record { user = user; server = server })
key_reads user server is_user is_server =
    let text = user ++ 47 ∷ server in
    let others = All-weaker IsNameByte (Passes (λ b. not (b == 47))) (λ b good. grind (arith, nat_tests)) user (bytes_of user (server_of_name user is_user)) in
    let len = prefix_len_at (λ b. not (b == 47)) user (47 ∷ server) others refl in
    let inside : ltb (length user) (length text) ≡ true = simp length-append (grind (arith, nat_tests)) in
    let slash : position (λ b. b == 47) text ≡ Some (length user) = rw (len, inside) in
    let front : take (length user) text ≡ user = take_at user (47 ∷ server) _ refl in
    let back : drop (length user + 1) text ≡ server = ap (drop (length user + 1)) (sym (append_assoc user (47 ∷ []) server)) ∙ drop_at (user ++ 47 ∷ []) server _ (length-append user (47 ∷ [])) in
    ap key_read (append_assoc user (47 ∷ []) server)
    ∙ ap (key_at text) slash
    ∙ (λ i. key_of (name_read (front i)) (length user + 1) (server_read (back i)))
    ∙ ap (λ r. key_of r (length user + 1) (server_read server)) is_user
    ∙ ap (λ r. key_of (Ok user) (length user + 1) r) (server_reads server is_server)
