-- A text that reads as a name or a key is its text.
use Rattle.std.proofs.Common.{◌≡◌, ℕ, ◌+◌, Bool, true, false, ◌==◌, cond, ltb, List, [], ◌∷◌, ◌++◌, length, take, drop, Option, Some, None, Result, Ok, Err, refl, sym, ap, ◌∙◌, ⊎_elim, append_assoc}
use Rattle.std.specs.Prelude.{codes}
use Rattle.std.specs.List.{position_or_len}
use Rattle.std.proofs.lemmas.Bool.{cases_Bool}
use Rattle.hub_kit.specs.Names.{first_bad, bad_byte, name_read, server_read}
use Rattle.hub_kit.specs.ServerKeys.{key_of, key_at, key_read}
use Rattle.hub_kit.specs.declared.names.NameError.{NameError}
use Rattle.hub_kit.specs.declared.names.NameError.TheVariants.{TooLong}
use Rattle.hub_kit.specs.declared.names.ServerKey.{ServerKey}
use Rattle.scope_filters.proofs.Cuts.{joined, join}

no_bad : (bytes : List ℕ) (o : Option ℕ) (name : List ℕ) → bad_byte bytes o ≡ Ok name → bytes ≡ name
no_bad bytes None name h = cc
no_bad bytes (Some at) name h = cc

pub name_only : (bytes name : List ℕ) → name_read bytes ≡ Ok name → bytes ≡ name
name_only [] name h = cc
name_only (b ∷ bytes) name h =
    ⊎_elim
    (λ long. let here : Err TooLong ≡ Ok name = rw long at h in cc)
    (λ short. no_bad (b ∷ bytes) (first_bad (b ∷ bytes)) name (rw short at h))
    (cases_Bool (ltb 64 (length (b ∷ bytes))))

server_only : (bytes name : List ℕ) → server_read bytes ≡ Ok name → bytes ≡ name
server_only [] name h = cc
server_only (b ∷ bytes) name h = name_only (b ∷ bytes) name h

parts_only : (front back : List ℕ) (by : ℕ) (u s : Result (List ℕ) NameError) (key : ServerKey) → ((n : List ℕ) → u ≡ Ok n → front ≡ n) → ((n : List ℕ) → s ≡ Ok n → back ≡ n)
    → key_of u by s ≡ Ok key → front ++ 47 ∷ back ≡ key.user ++ 47 ∷ key.server
parts_only front back by (Ok user) (Ok server) key first second h =
    let it : record { user = user; server = server } ≡ key = cc in
    (λ i. first user refl i ++ 47 ∷ second server refl i) ∙ ap (λ (k : ServerKey). k.user ++ 47 ∷ k.server) it
parts_only front back by (Ok user) (Err e) key first second h = cc
parts_only front back by (Err e) s key first second h = cc

cut_only : (bytes : List ℕ) (n : ℕ) (found : Bool) (key : ServerKey) → key_at bytes (cond found (Some n) None) ≡ Ok key
    → joined 47 (take n bytes) (cond found (Some (drop (n + 1) bytes)) None) ≡ key.user ++ 47 ∷ key.server
cut_only bytes n true key h = parts_only (take n bytes) (drop (n + 1) bytes) (n + 1) _ _ key (name_only (take n bytes)) (server_only (drop (n + 1) bytes)) h
cut_only bytes n false key h = cc

pub key_only : (bytes : List ℕ) (key : ServerKey) → key_read bytes ≡ Ok key → bytes ≡ key.user ++ codes "/" ++ key.server
key_only bytes key h =
    join 47 bytes ∙ cut_only bytes (position_or_len (λ b. b == 47) bytes) (ltb (position_or_len (λ b. b == 47) bytes) (length bytes)) key h ∙ sym (append_assoc key.user (47 ∷ []) key.server)
