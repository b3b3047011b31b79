-- Numbers of tokens and of share codes in the tables that a hub begins with, before its configuration.
use Rattle.std.proofs.Common.{◌≡◌, ◌<◌, ◌+◌, ℕ, List, [], ◌∷◌, Option, Some, None, codes, ap, sym, subst, ◌∙◌, refl}
use Rattle.std.specs.Prelude.{fold}
use Rattle.std.specs.Cmp.Lexicographic.{nat_list_cmp_total}
use Rattle.std.specs.FinMap.{get, get-insert}
use Rattle.scope_names.specs.declared.custom.CustomRow.{CustomRow}
use Rattle.hub_rows.specs.declared.limits.Limits.{Limits}
use Rattle.hub_rows.specs.declared.records.Lease.{Lease}
use Rattle.hub_rows.specs.declared.records.Next.{Next}
use Rattle.hub_rows.specs.declared.records.ShareCode.{ShareCode}
use Rattle.hub_rows.specs.declared.records.Token.{Token}
use Rattle.hub_tables.specs.Lookups.{next_of, number_of}
use Rattle.hub_tables.specs.State.{State}
use Rattle.keeper.specs.Rows.{Rows}
use Rattle.row_rules.specs.Across.{kept_tables}
use Rattle.hub_machine.specs.State.{next_generation}
use Rattle.hub_opening.specs.Kept.{AreLoaded, generation_given, of_lease, targets_of, where_none, with_generations}
use Rattle.hub_opening.specs.Opening.{next_token}
use Rattle.hub_opening.proofs.Opened.{fold_keeps}
use Rattle.hub_opening.proofs.Sound.{kept_numbered, kept_codes_numbered}

-- each number was given out: that of a token is below the next of tokens, that of a share code below the next of codes
pub record AreGivenOut (t : State) : Type 0 where
  pub tokens : (id : ℕ) (k : Token) → get t.tokens id ≡ Some k → id < next_token t
  pub codes : (id : ℕ) (c : ShareCode) → get t.codes id ≡ Some c → id < next_of t (codes "code")

-- the row of the number after the generation that a lease is given
abbrev later : State → Next
later t = record { name = codes "generation"; next = next_generation t + 1 }

where_given_out : (l : Lease) (g : Option ℕ) (t : State) → AreGivenOut t → AreGivenOut (where_none l g t)
where_given_out l (Some g) t h = h
where_given_out l None t h = record {
  tokens = λ id k there. subst (λ (n : ℕ). id < n) (sym (ap number_of (get-insert nat_list_cmp_total t.nexts (codes "generation") (later t) (codes "token")))) (h.tokens id k there);
  codes = λ id c there. subst (λ (n : ℕ). id < n) (sym (ap number_of (get-insert nat_list_cmp_total t.nexts (codes "generation") (later t) (codes "code")))) (h.codes id c there);
}

lease_given_out : (o : Option Lease) (t : State) → AreGivenOut t → AreGivenOut (of_lease o t)
lease_given_out None t h = h
lease_given_out (Some l) t h = where_given_out l l.generation t h

kept_given_out : (limits : Limits) (scopes : List CustomRow) (Tells : Type 0) (has : Rows) (t : State) → AreLoaded limits scopes Tells has t → AreGivenOut t
kept_given_out limits scopes Tells has t loaded =
    subst AreGivenOut (sym loaded.tables.tables) (record {
      tokens = kept_numbered limits scopes loaded.tables.rows loaded.tables.sound;
      codes = kept_codes_numbered limits scopes loaded.tables.rows loaded.tables.sound;
    })

-- so are those of the kept tables, once each lease has a generation
pub given_numbered : (limits : Limits) (scopes : List CustomRow) (Tells : Type 0) (has : Rows) (t : State) → AreLoaded limits scopes Tells has t → AreGivenOut (with_generations t)
given_numbered limits scopes Tells has t loaded =
    fold_keeps AreGivenOut generation_given (λ s target h. lease_given_out (get s.leases target) s h) (targets_of t) t
    (kept_given_out limits scopes Tells has t loaded)
