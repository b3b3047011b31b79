use Rattle.store_thread.specs.Told.{Unread}
use Rattle.store_thread.proofs.Posting.{silent}
use Rattle.store_thread.proofs.Running.{went_stands, at_rest}
use Rattle.store_thread.proofs.laws.what_was_read_is_told.Goals as goal

pub returns : goal.returns
returns g c parcels views i j far near began k mailed at_far at_near asks answers went tells free told =
    let b = g.K.Keeper in
    silent b.Tells b.rows parcels views i j far near mailed at_far at_near asks answers k
    (λ free. went_stands b.Tells b.rows b.is_told b.faults b.Chooses g.met.K.Keeper.decides began k Unread near.talk.seen tt
    (at_rest b.Tells b.rows b.is_told b.faults b.Chooses g.met.K.Keeper.decides began k near.talk free went)) tells free told
