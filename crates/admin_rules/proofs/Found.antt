-- What the indexes of the tables find is what a purge takes.
use Rattle.std.proofs.Common.{◌≡◌, ℕ, ◌||◌, List, [], ◌∷◌, map, filter, refl, ap, ◌∙◌}
use Rattle.std.specs.FinMap.{values}
use Rattle.scope_filters.specs.Contexts.{same}
use Rattle.scope_filters.specs.declared.holder.Owner.{Owner}
use Rattle.scope_filters.specs.declared.holder.Owner.TheVariants as Of
use Rattle.hub_rows.specs.declared.changes.RowChange.TheVariants.{Remove}
use Rattle.hub_rows.specs.declared.rows.RowKey.TheVariants as RowKey
use Rattle.hub_rows.specs.declared.keys.Recipient.{Recipient}
use Rattle.hub_rows.specs.declared.keys.Recipient.TheVariants as To
use Rattle.hub_rows.specs.declared.records.ServerRow.{ServerRow}
use Rattle.hub_rows.specs.declared.records.Share.{Share}
use Rattle.hub_rows.specs.declared.records.Token.{Token}
use Rattle.hub_tables.specs.Lookups.{same_owner, tokens_of, servers_of, same_recipient, shares_with}
use Rattle.hub_tables.specs.State.{State}
use Rattle.admin_rules.specs.Purges.{changes_of, is_user, is_token_of_user, is_server_of_user, is_to_user, is_share_of_user, is_to_group, is_share_to_group, is_service, is_token_of_service}

map_twice : {X Y Z : Type 0} (f : Y → Z) (g : X → Y) (xs : List X) → map f (map g xs) ≡ map (λ x. f (g x)) xs
map_twice f g [] = refl
map_twice f g (x ∷ xs) = ap (λ zs. f (g x) ∷ zs) (map_twice f g xs)

of_user : (user : List ℕ) (o : Owner) → same_owner o (Of.User user) ≡ is_user user o
of_user user (Of.User name) = refl
of_user user (Of.Service name) = refl

of_service : (service : List ℕ) (o : Owner) → same_owner o (Of.Service service) ≡ is_service service o
of_service service (Of.User name) = refl
of_service service (Of.Service name) = refl

to_user : (user : List ℕ) (o : Recipient) → same_recipient o (To.User user) ≡ is_to_user user o
to_user user (To.User name) = refl
to_user user (To.Group name) = refl

to_group : (group : List ℕ) (o : Recipient) → same_recipient o (To.Group group) ≡ is_to_group group o
to_group group (To.User name) = refl
to_group group (To.Group name) = refl

pub user_tokens : (s : State) (user : List ℕ) → map (λ id. Remove (RowKey.Token id)) (tokens_of s (Of.User user)) ≡ changes_of (is_token_of_user user) (λ token. Remove (RowKey.Token token.id)) (values s.tokens)
user_tokens s user =
    map_twice (λ key. Remove (RowKey.Token key)) (λ (token : Token). token.id) _ ∙ ap (λ p. map (λ (token : Token). Remove (RowKey.Token token.id)) (filter p (values s.tokens))) (λ i token. of_user user token.owner i)

pub service_tokens : (s : State) (service : List ℕ) → map (λ id. Remove (RowKey.Token id)) (tokens_of s (Of.Service service)) ≡ changes_of (is_token_of_service service) (λ token. Remove (RowKey.Token token.id)) (values s.tokens)
service_tokens s service =
    map_twice (λ key. Remove (RowKey.Token key)) (λ (token : Token). token.id) _ ∙ ap (λ p. map (λ (token : Token). Remove (RowKey.Token token.id)) (filter p (values s.tokens))) (λ i token. of_service service token.owner i)

pub user_servers : (s : State) (user : List ℕ) → map (λ key. Remove (RowKey.ServerRow key)) (servers_of s user) ≡ changes_of (is_server_of_user user) (λ row. Remove (RowKey.ServerRow row.key)) (values s.servers)
user_servers s user = map_twice (λ key. Remove (RowKey.ServerRow key)) (λ (row : ServerRow). row.key) _

pub user_shares : (s : State) (user : List ℕ) → map (λ key. Remove (RowKey.Share key)) (shares_with s (To.User user)) ≡ changes_of (is_share_of_user user) (λ share. Remove (RowKey.Share share.key)) (values s.shares)
user_shares s user =
    map_twice (λ key. Remove (RowKey.Share key)) (λ (share : Share). share.key) _
    ∙ ap (λ p. map (λ (share : Share). Remove (RowKey.Share share.key)) (filter p (values s.shares))) (λ i share. same share.key.server.user user || to_user user share.key.to i)

pub group_shares : (s : State) (group : List ℕ) → map (λ key. Remove (RowKey.Share key)) (shares_with s (To.Group group)) ≡ changes_of (is_share_to_group group) (λ share. Remove (RowKey.Share share.key)) (values s.shares)
group_shares s group =
    map_twice (λ key. Remove (RowKey.Share key)) (λ (share : Share). share.key) _ ∙ ap (λ p. map (λ (share : Share). Remove (RowKey.Share share.key)) (filter p (values s.shares))) (λ i share. to_group group share.key.to i)
