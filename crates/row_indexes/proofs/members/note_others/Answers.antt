use Rattle.std.proofs.Common.{◌∙◌, ◌+◌, sym, ap, subst}
use Rattle.keyed_rows.specs.Rows.{map_of}
use Rattle.row_indexes.specs.Owned.{owned_cmp}
use Rattle.row_indexes.proofs.MemberKeys.{NotedTo, noted_on, passed_on}
use Rattle.row_indexes.proofs.members.note_others.Goals.{then-not-contains+in_ok-note, else-not-contains}
use Rattle.row_indexes.proofs.members.note_others.Goals as goal

pub loop-member-preserved : goal.loop-member-preserved
loop-member-preserved g c =
    elim c.if-not-contains.branch as (λ _. NotedTo g.M.Ord.cmp g.K.Ord.cmp c.args.members.now c.args.kept.now c.args.key.now (map_of (owned_cmp g.M.Ord.cmp g.K.Ord.cmp) c.args.entries.now)
    (c.loop-member.member-index + 1) (map_of (owned_cmp g.M.Ord.cmp g.K.Ord.cmp) c.if-not-contains.entries)) [
      | then-not-contains+in_ok-note w ↦
          subst (λ entries. NotedTo g.M.Ord.cmp g.K.Ord.cmp c.args.members.now c.args.kept.now c.args.key.now (map_of (owned_cmp g.M.Ord.cmp g.K.Ord.cmp) c.args.entries.now)
          (c.loop-member.member-index + 1) (map_of (owned_cmp g.M.Ord.cmp g.K.Ord.cmp) entries)) (sym w.entries-is)
          (noted_on g.M.Ord.cmp g.K.Ord.cmp c.args.members.now c.args.kept.now c.args.key.now _ g.met.M.Key.exact (map_of (owned_cmp g.M.Ord.cmp g.K.Ord.cmp) c.loop-member.entries) _ c.loop-member.member-index c.member-item.result
          c.loop-member-test.true c.member-item.is c.loop-member.invariant (sym c.contains.ensures ∙ w.if-not-contains.true) w.in_ok-note.ensures.ok)
      | else-not-contains w ↦
          passed_on g.M.Ord.cmp g.K.Ord.cmp c.args.members.now c.args.kept.now c.args.key.now _ g.met.M.Key.exact (map_of (owned_cmp g.M.Ord.cmp g.K.Ord.cmp) c.loop-member.entries) _ c.loop-member.member-index c.member-item.result
          c.loop-member-test.true c.member-item.is c.loop-member.invariant (sym c.contains.ensures ∙ w.if-not-contains.false) (ap (map_of (owned_cmp g.M.Ord.cmp g.K.Ord.cmp)) w.entries-is)
    ]
