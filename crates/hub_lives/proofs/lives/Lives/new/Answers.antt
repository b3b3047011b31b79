use Rattle.std.proofs.Common.{◌≡◌, subst, sym, ap, ◌∙◌, length}
use Rattle.std.specs.FinMap as map
use Rattle.std.specs.Ordering.{nat_cmp}
use Rattle.keyed_rows.specs.Rows.{map_of}
use Rattle.hub_lives.specs.Lives as spec
use Rattle.server_life.specs.LeaseTable.{LeaseTable}
use Rattle.hub_lives.specs.LiveServers.{AreHolders}
use Rattle.hub_lives.proofs.Holders.{none_held}
use Rattle.hub_lives.proofs.Sums.{none}
use Rattle.hub_lives.proofs.lives.Lives.new.Goals as goal

pub invariant_of-result : goal.invariant_of-result
invariant_of-result c =
    let rows : map_of nat_cmp c.new-2.result ≡ map.empty = ap (map.from_entries {R = nat_cmp}) c.new-2.ensures.empty in (
      subst (λ (m : spec.Lives). AreHolders m c.in_ok-new.field-0) (sym rows) (subst (λ (t : LeaseTable). AreHolders map.empty t) (sym c.in_ok-new.ensures) (none_held c.args.pool (length c.args.pool) c.args.next)),
      sym (ap spec.owed rows ∙ none),
    )
