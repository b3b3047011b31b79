use Rattle.std.proofs.Common.{◌≡◌, None, sym, subst, ap, ◌∙◌, set}
use Rattle.server_life.specs.Leased.{IsNotLive}
use Rattle.server_life.specs.LeaseTable.{LeaseTable}
use Rattle.server_life.proofs.Back.{lowered, freed_at, gone_at}
use Rattle.server_life.proofs.leases.Leases.take_back.Goals as goal

pub invariant_of-self : goal.invariant_of-self
invariant_of-self c =
    let t : LeaseTable = c.args.self.now in
    let one = c.next_free-next.ensures.one_to_one in
    let now : LeaseTable = record { pool = c.self.inside.pool; leased = c.self.inside.leased.items; next = c.self.inside.next } in
    let left : now ≡ record { pool = t.pool; leased = set t.leased c.args._at None; next = t.next } =
    c.self.view_is ∙ freed_at t c.free-ended.new.self c.args._at c.args.g c.requires.live.0 c.free-ended.result one c.requires.live.1 c.free-ended.ensures in (
      (
        c.self.invariant.0.0,
        c.self.invariant.0.1,
        lowered now c.self.inside.free.items c.self.inside.generations.items c.self.invariant.0.0 c.args.g c.self.invariant.0.2
            (subst (λ (x : LeaseTable). IsNotLive x.leased c.args.g) (sym left) (gone_at t c.args._at c.args.g c.requires.live.0 one c.requires.live.1))
            (c.requires.last ∙ sym (ap (λ (x : LeaseTable). x.next) left)) c.requires.above,
      ),
      c.self.invariant.1,
      c.self.invariant.2,
      c.self.invariant.3,
    )

pub returns : goal.returns
returns c =
    let t : LeaseTable = c.args.self.now in
    let now : LeaseTable = record { pool = c.self.inside.pool; leased = c.self.inside.leased.items; next = c.self.inside.next } in
    let left : now ≡ record { pool = t.pool; leased = set t.leased c.args._at None; next = t.next } =
    c.self.view_is ∙ freed_at t c.free-ended.new.self c.args._at c.args.g c.requires.live.0 c.free-ended.result c.next_free-next.ensures.one_to_one c.requires.live.1 c.free-ended.ensures in
    ap (λ (x : LeaseTable). record { pool = x.pool; leased = x.leased; next = c.args.g }) left
