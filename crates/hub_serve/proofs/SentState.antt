-- The tables, the live servers, the machine, the cache of rights, and entries of the history.
use denote.RattleType.{RattleType}
use denote.Param.Send.{IsSend, IsSync, struct_send, enum_send, recorded_send, sendable}
use denote.Struct.Declared.{shape}
use denote.Enum.Declared as Enum
use Rattle.std.specs.contracts.alloc.Global as Heap
use Rattle.std.specs.contracts.impls.GlobalAllocator.TheImpl.{ghosts}
use Rattle.std.proofs.Crossing.{crosses, frees}
use Rattle.std.proofs.Crossing.{send as heap_send}
use Rattle.std.proofs.MapsCrossing.{BTreeMap-send, HashMap-send}
use Rattle.hub_serve.proofs.SentNames.{user_send, group_send, service_send, role_send, server_send, text_send, target_send, list_send, leases_send, scopes_send, grant_send}
use Rattle.hub_serve.proofs.SentRows.{client_send, counter_send, share_key_send, user_row_send, group_row_send, service_row_send, role_row_send, token_send, server_row_send, lease_send, share_send, share_code_send, oauth_client_send, oauth_code_send, next_send}
use Rattle.hub_kit.specs.contracts.list.List as List
use Rattle.hub_rows.specs.contracts.limits.Limits as Limits
use Rattle.hub_tables.specs.contracts.boxed.KeptToken as KeptToken
use Rattle.hub_tables.specs.contracts.parties.Party as Party
use Rattle.hub_tables.specs.contracts.memberships.RoleIndexes as RoleIndexes
use Rattle.hub_tables.specs.contracts.trees.Trees as Trees
use Rattle.hub_tables.specs.contracts.tables.Tables as Tables
use Rattle.row_indexes.specs.contracts.owned.OwnedKey as OwnedKey
use Rattle.server_life.specs.contracts.life.Phase as Phase
use Rattle.server_life.specs.contracts.life.Life as Life
use Rattle.server_life.specs.contracts.life.LifeEvent as LifeEvent
use Rattle.hub_lives.specs.contracts.lives.Leased as Leased
use Rattle.hub_lives.specs.contracts.lives.Lives as Lives
use Rattle.hub_machine.specs.contracts.machine.Machine as Machine
use Rattle.hub_machine.specs.contracts.machine.Machine.TheInside as MachineInside
use Rattle.hub_tables.specs.contracts.tables.Tables.TheInside as TablesInside
use Rattle.hub_machine.specs.contracts.change.Change as Change
use Rattle.hub_rows.specs.contracts.rows.Row as Row
use Rattle.hub_rows.specs.contracts.rows.RowKey as RowKey
use Rattle.hub_rows.specs.contracts.changes.RowChange as RowChange
use Rattle.std.specs.declared.cmp.Eq as total
use Rattle.std.specs.declared.cmp.PartialEq as eq
use Rattle.std.specs.declared.hash.Hash as hash
use Rattle.std.specs.declared.hash.Hasher as hasher
use Rattle.std.specs.declared.hash.BuildHasher as builder
use Rattle.lru.specs.contracts.nodes.Nodes as Nodes
use Rattle.lru.specs.contracts.cache.LruCache as LruCache
use Rattle.lru.specs.contracts.entry.Slot as Slot
use Rattle.lru.proofs.entry.Deed.TheSendSync.{the_send as deed_send}
use Rattle.lru.proofs.key_ref.KeyRef.TheSendSync.{the_send as key_ref_send}
use Rattle.lru.proofs.list.List.TheSendSync.{the_send as list_send'}
use Rattle.roles.specs.contracts.cache.KeptGrant as KeptGrant
use Rattle.roles.specs.contracts.cache.RightsCache as RightsCache
use Rattle.roles.specs.contracts.cache.RightsCache.TheInside as RightsInside

pub party_send : IsSend (Party.the_field).row
party_send = search (sendable, user_send, group_send, service_send) depth 12

module _ (O K : RattleType) where
  pub owned_send : IsSend O → IsSend K → IsSend (OwnedKey.the_field O K).row
  owned_send s t = search sendable depth 12

pub kept_token_send : IsSend KeptToken.the_row
kept_token_send = search (sendable, crosses, token_send) depth 10

pub role_indexes_send : IsSend (RoleIndexes.the_field).row
role_indexes_send = search (sendable, BTreeMap-send, owned_send, user_send, group_send, service_send, role_send) depth 16

pub trees_send : IsSend (Trees.the_field).row
trees_send = struct_send (shape Trees.the_type) (
  search (sendable, BTreeMap-send, user_send, user_row_send) depth 8,
  (
    search (sendable, BTreeMap-send, group_send, group_row_send) depth 8,
    (
      search (sendable, BTreeMap-send, owned_send, user_send, group_send) depth 10,
      (
        search (sendable, BTreeMap-send, service_send, service_row_send) depth 8,
        (
          search (sendable, BTreeMap-send, role_send, role_row_send) depth 8,
          (
            role_indexes_send,
            (
              search (sendable, BTreeMap-send, kept_token_send) depth 8,
              (
                search (sendable, BTreeMap-send) depth 8,
                (
                  search (sendable, BTreeMap-send, owned_send) depth 10,
                  (
                    search (sendable, BTreeMap-send, server_send, server_row_send) depth 8,
                    (
                      search (sendable, BTreeMap-send, target_send, lease_send) depth 8,
                      (
                        search (sendable, BTreeMap-send, share_key_send, share_send) depth 8,
                        (
                          search (sendable, BTreeMap-send, owned_send, party_send, share_key_send) depth 10,
                          (
                            search (sendable, BTreeMap-send, share_code_send) depth 8,
                            (
                              search (sendable, BTreeMap-send) depth 8,
                              (
                                search (sendable, BTreeMap-send, text_send, oauth_client_send) depth 8,
                                (
                                  search (sendable, BTreeMap-send, text_send, oauth_code_send) depth 8,
                                  (search (sendable, BTreeMap-send, text_send, next_send) depth 8, tt),
                                ),
                              ),
                            ),
                          ),
                        ),
                      ),
                    ),
                  ),
                ),
              ),
            ),
          ),
        ),
      ),
    ),
  ),
)

pub limits_send : IsSend (Limits.the_field).row
limits_send = search sendable depth 14

tables_fields_send : IsSend (TablesInside.the_field).row
tables_fields_send = struct_send (shape TablesInside.the_type) (trees_send, (limits_send, (scopes_send, (search sendable depth 14, tt))))

pub tables_send : IsSend Tables.the_row
tables_send = search (sendable, tables_fields_send)

pub phase_send : IsSend (Phase.the_field).row
phase_send = search sendable depth 20 fits 10000

pub life_send : IsSend (Life.the_field).row
life_send = search (sendable, phase_send) depth 10

pub event_send : IsSend (LifeEvent.the_field).row
event_send = search sendable depth 30 fits 10000

pub leased_send : IsSend (Leased.the_field).row
leased_send = search (sendable, life_send, server_send, target_send) depth 16

pub lives_send : IsSend Lives.the_row
lives_send = search (sendable, BTreeMap-send, leases_send, leased_send) depth 12

machine_fields_send : IsSend (MachineInside.the_field).row
machine_fields_send = struct_send (shape MachineInside.the_type) (
  tables_send,
  (lives_send, (search sendable, (search sendable, (search (sendable, target_send) depth 8, (search sendable, tt))))),
)

pub machine_send : IsSend Machine.the_row
machine_send = search (sendable, machine_fields_send)

pub kept_grant_send : IsSend (KeptGrant.the_field).row
kept_grant_send = search (sendable, grant_send) depth 12

module _ (K V : RattleType) where
  pub slot_send : IsSend (Slot.the_field K V Heap.the_row ghosts).row
  slot_send = search (sendable, deed_send, heap_send, frees) depth 12

module _ (K V S H : RattleType) (q : total.Ghosts K.Denot) (e : eq.Ghosts K.Denot) (h : hash.Ghosts K.Denot) (b : builder.Ghosts S.Denot H.Denot) (w : hasher.Ghosts H.Denot) where
  pub nodes_send : IsSend K → IsSync K → IsSend V → IsSend S → IsSend (Nodes.the_field K V S Heap.the_row H q e h b w ghosts).row
  nodes_send s y t u = struct_send (shape (Nodes.the_type K V S Heap.the_row H q e h b w ghosts)) (
    search (HashMap-send, key_ref_send, slot_send, recorded_send) depth 6,
    (slot_send K V, (slot_send K V, (list_send' K V s t y, (heap_send, tt)))),
  )

  pub lru_send : IsSend K → IsSync K → IsSend V → IsSend S → IsSend (LruCache.the_field K V S Heap.the_row H q e h b w ghosts).row
  lru_send s y t u = search (sendable, nodes_send) depth 10

cache_fields_send : IsSend (RightsInside.the_field).row
cache_fields_send = struct_send (shape RightsInside.the_type) (
  search (sendable, lru_send, kept_grant_send) depth 10,
  (search (sendable, kept_grant_send) depth 10, (search sendable, tt)),
)

pub cache_send : IsSend RightsCache.the_row
cache_send = search (sendable, cache_fields_send)

pub row_send : IsSend (Row.the_field).row
row_send = search (
  sendable,
  user_row_send,
  group_row_send,
  service_row_send,
  role_row_send,
  token_send,
  server_row_send,
  lease_send,
  share_send,
  share_code_send,
  oauth_client_send,
  oauth_code_send,
  next_send,
) depth 30 fits 10000

pub row_key_send : IsSend (RowKey.the_field).row
row_key_send = search (sendable, user_send, group_send, service_send, role_send, server_send, target_send, share_key_send, text_send) depth 30 fits 10000

pub row_change_send : IsSend (RowChange.the_field).row
row_change_send = search (sendable, row_send, row_key_send) depth 12

pub rows_change_send : IsSend (List.the_row RowChange.the_row)
rows_change_send = search (sendable, list_send, row_change_send) depth 6

pub change_send : IsSend (Change.the_field).row
change_send = enum_send (Enum.shape Change.the_type) (
  (rows_change_send, tt),
  (
    (search sendable, (search (sendable, server_send), (rows_change_send, tt))),
    ((search sendable, (search (sendable, event_send), tt)), tt),
  ),
)
