-- The texts of users, servers and tokens, field by field.
use Rattle.std.proofs.Common.{◌≡◌, ℕ, List, [], ◌∷◌, ◌++◌, length, codes, Option, Some, None, refl, ap, subst, sym, ◌∙◌, arith}
use Rattle.std.specs.Option.{IfSome}
use Rattle.json.specs.Print.{escape_byte}
use Rattle.serde_json.specs.Data.{Data, string, object, member, no_members}
use Rattle.serde_json.specs.Written.{compact_text}
use Rattle.record_texts.specs.Fields.{whole, maybe}

-- what is true of a value that is there
pub held : {X : Type 0} (P : X → Type 0) (o : Option X) (x : X) → IfSome o P → o ≡ Some x → P x
held P None x h e = absurd cc
held P (Some y) x h e = let same : y ≡ x = cc in subst P same h

pub nothing : (l : List ℕ) → length l ≡ 0 → l ≡ []
nothing [] h = refl
nothing (x ∷ l) h = absurd (omega arith)

pub user_text : (admin : Data) (created seconds : ℕ) (seen : Data) (t0 t1 t2 t3 t4 t5 t6 t7 : List ℕ) → created ≡ seconds
    → t0 ≡ codes "{\"admin\":" ++ t1 → t1 ≡ compact_text admin ++ t2
    → t2 ≡ codes ",\"created\":" ++ t3 → t3 ≡ compact_text (whole seconds) ++ t4
    → t4 ≡ codes ",\"last_activity\":" ++ t5 → t5 ≡ compact_text seen ++ t6 → t6 ≡ codes "}" ++ t7 → t7 ≡ []
    → t0 ≡ compact_text (object (member (codes "admin") admin (member (codes "created") (whole created) (member (codes "last_activity") seen no_members))))
unfolding escape_byte
user_text admin created seconds seen t0 t1 t2 t3 t4 t5 t6 t7 same a0 a1 b0 b1 c0 c1 end none =
    (a0 ∙ ap (λ t. codes "{\"admin\":" ++ t) (a1 ∙ ap (λ t. compact_text admin ++ t)
    (b0 ∙ ap (λ t. codes ",\"created\":" ++ t) (b1 ∙ ap (λ t. compact_text (whole seconds) ++ t)
    (c0 ∙ ap (λ t. codes ",\"last_activity\":" ++ t) (c1 ∙ ap (λ t. compact_text seen ++ t) (end ∙ ap (λ t. codes "}" ++ t) none)))))))
    ∙ ap (λ n. compact_text (object (member (codes "admin") admin (member (codes "created") (whole n) (member (codes "last_activity") seen no_members))))) (sym same)

pub server_row_text : (created seconds : ℕ) (seen started : Data) (t0 t1 t2 t3 t4 t5 t6 t7 : List ℕ) → created ≡ seconds
    → t0 ≡ codes "{\"created\":" ++ t1 → t1 ≡ compact_text (whole seconds) ++ t2
    → t2 ≡ codes ",\"last_activity\":" ++ t3 → t3 ≡ compact_text seen ++ t4
    → t4 ≡ codes ",\"started\":" ++ t5 → t5 ≡ compact_text started ++ t6 → t6 ≡ codes "}" ++ t7 → t7 ≡ []
    → t0 ≡ compact_text (object (member (codes "created") (whole created) (member (codes "last_activity") seen (member (codes "started") started no_members))))
unfolding escape_byte
server_row_text created seconds seen started t0 t1 t2 t3 t4 t5 t6 t7 same a0 a1 b0 b1 c0 c1 end none =
    (a0 ∙ ap (λ t. codes "{\"created\":" ++ t) (a1 ∙ ap (λ t. compact_text (whole seconds) ++ t)
    (b0 ∙ ap (λ t. codes ",\"last_activity\":" ++ t) (b1 ∙ ap (λ t. compact_text seen ++ t)
    (c0 ∙ ap (λ t. codes ",\"started\":" ++ t) (c1 ∙ ap (λ t. compact_text started ++ t) (end ∙ ap (λ t. codes "}" ++ t) none)))))))
    ∙ ap (λ n. compact_text (object (member (codes "created") (whole n) (member (codes "last_activity") seen (member (codes "started") started no_members))))) (sym same)

abbrev pub token_data : Data → Data → Data → Data → Data → Data → Data → Data → Data
token_data client created expires hash made_for note owner scopes = object
    (member (codes "client") client
    (member (codes "created") created
    (member (codes "expires_at") expires
    (member (codes "hash") hash
    (member (codes "issued_for") made_for
    (member (codes "note") note
    (member (codes "owner") owner
    (member (codes "scopes") scopes no_members))))))))

-- the three parts that are read one after the other
abbrev pub front_text : Data → Data → Data → List ℕ → List ℕ
front_text client created expires rest =
    codes "{\"client\":" ++ (compact_text client ++ (codes ",\"created\":" ++ (compact_text created ++ (codes ",\"expires_at\":" ++ (compact_text expires ++ rest)))))

abbrev pub middle_text : Data → Data → Data → List ℕ → List ℕ
middle_text hash made_for note rest =
    codes ",\"hash\":" ++ (compact_text hash ++ (codes ",\"issued_for\":" ++ (compact_text made_for ++ (codes ",\"note\":" ++ (compact_text note ++ rest)))))

pub middle_is : (hash made_for note : Data) (t0 t1 t2 t3 t4 t5 rest : List ℕ) → t0 ≡ codes ",\"hash\":" ++ t1 → t1 ≡ compact_text hash ++ t2
    → t2 ≡ codes ",\"issued_for\":" ++ t3 → t3 ≡ compact_text made_for ++ t4 → t4 ≡ codes ",\"note\":" ++ t5 → t5 ≡ compact_text note ++ rest
    → t0 ≡ middle_text hash made_for note rest
middle_is hash made_for note t0 t1 t2 t3 t4 t5 rest a0 a1 b0 b1 c0 c1 =
    a0 ∙ ap (λ t. codes ",\"hash\":" ++ t) (a1 ∙ ap (λ t. compact_text hash ++ t)
    (b0 ∙ ap (λ t. codes ",\"issued_for\":" ++ t) (b1 ∙ ap (λ t. compact_text made_for ++ t) (c0 ∙ ap (λ t. codes ",\"note\":" ++ t) c1))))

-- of copies of the texts that were read
pub token_text : (client client0 : Option (List ℕ)) (created seconds : ℕ) (expires : Data) (hash hash0 : List ℕ) (made_for : Data) (note note0 : List ℕ) (owner scopes : Data)
    (t0 t1 t2 t3 t4 t5 : List ℕ) → client ≡ client0 → created ≡ seconds → hash ≡ hash0 → note ≡ note0
    → t0 ≡ front_text (maybe (λ text. string text) client0) (whole seconds) expires t1 → t1 ≡ middle_text (string hash0) made_for (string note0) t2
    → t2 ≡ codes ",\"owner\":" ++ t3 → t3 ≡ compact_text owner ++ t4 → t4 ≡ codes ",\"scopes\":" ++ t5 → t5 ≡ compact_text scopes ++ codes "}"
    → t0 ≡ compact_text (token_data (maybe (λ text. string text) client) (whole created) expires (string hash) made_for (string note) owner scopes)
unfolding escape_byte
token_text client client0 created seconds expires hash hash0 made_for note note0 owner scopes t0 t1 t2 t3 t4 t5 clients same hashes notes a b c0 c1 d0 d1 =
    (a ∙ ap (front_text (maybe (λ text. string text) client0) (whole seconds) expires)
    (b ∙ ap (middle_text (string hash0) made_for (string note0))
    (c0 ∙ ap (λ t. codes ",\"owner\":" ++ t) (c1 ∙ ap (λ t. compact_text owner ++ t) (d0 ∙ ap (λ t. codes ",\"scopes\":" ++ t) d1)))))
    ∙ (λ i. compact_text (token_data (maybe (λ text. string text) (sym clients i)) (whole (sym same i)) expires (string (sym hashes i)) made_for (string (sym notes i)) owner scopes))
