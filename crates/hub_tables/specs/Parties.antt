-- Under whom tokens and shares are found.
use Rattle.std.specs.Prelude.{ℕ, Bool, ◌&&◌, ◌||◌}
use Rattle.std.proofs.Common.{ap}
use Rattle.std.specs.declared.cmp.Ordering.{Ordering}
use Rattle.std.specs.Ordering.{nat_cmp, eq_by_cmp}
use Rattle.std.specs.FinMap.{IsAntisymmetric}
use Rattle.scope_filters.specs.declared.holder.Owner.{Owner}
use Rattle.scope_filters.specs.declared.holder.Owner.TheVariants as Of
use Rattle.hub_rows.specs.declared.keys.Recipient.{Recipient}
use Rattle.hub_rows.specs.declared.keys.Recipient.TheVariants as To
use Rattle.hub_rows.specs.declared.keys.ShareKey.{ShareKey}
use Rattle.hub_rows.specs.declared.records.Share.{Share}
use Rattle.hub_rows.specs.declared.records.Token.{Token}
use Rattle.hub_rows.specs.ShareOrder.{names_exact}
use Rattle.row_indexes.specs.Numbers.{number_of}
use Rattle.hub_tables.specs.Ends.{is_over}
use Rattle.hub_tables.specs.declared.parties.Party.{Party}
use Rattle.hub_tables.specs.declared.parties.Party.TheVariants.{User, Group, Service}
use Rattle.hub_tables.specs.contracts.parties.PartyOrd.TheImpl as party

-- The order of parties: users before groups before services, each by name
abbrev pub party_cmp : Party → Party → Ordering
party_cmp = party.ghosts.cmp

-- parties that compare alike are one: the proof of a law of `Key`, which stands here since a source cites only what stands in specs/
pub party_exact : IsAntisymmetric party_cmp
party_exact (User a) (User b) h = ap User (names_exact a b h)
party_exact (Group a) (Group b) h = ap Group (names_exact a b h)
party_exact (Service a) (Service b) h = ap Service (names_exact a b h)
party_exact _ _ h = cc

-- The owner of a token as a party
abbrev pub of_owner : Owner → Party
of_owner (Of.User user) = User user
of_owner (Of.Service service) = Service service

-- The recipient of a share as a party
abbrev pub of_recipient : Recipient → Party
of_recipient (To.User user) = User user
of_recipient (To.Group group) = Group group

-- The user whose server is shared
abbrev pub giver_of : ShareKey → Party
giver_of key = User key.server.user

-- The token is the party's: that is its owner
abbrev pub is_token_of : Party → Token → Bool
is_token_of party token = eq_by_cmp party_cmp party (of_owner token.owner)

-- The token is the party's, and has expired by the moment `now`
abbrev pub is_over_token_of : Party → (now : ℕ) → Token → Bool
is_over_token_of party now token = is_token_of party token && is_over now token.expires_at

-- the number of an owner's name
abbrev pub owner_number : Owner → ℕ
owner_number (Of.User user) = number_of user
owner_number (Of.Service service) = number_of service

-- The token is found under this number, which is its owner's
abbrev pub is_numbered : (number : ℕ) → Token → Bool
is_numbered number token = eq_by_cmp nat_cmp number (owner_number token.owner)

-- The share is the party's: of the user whose server it is, and of its recipient
abbrev pub is_share_of : Party → Share → Bool
is_share_of party share = eq_by_cmp party_cmp party (giver_of share.key) || eq_by_cmp party_cmp party (of_recipient share.key.to)
