use Rattle.store_thread.specs.Told.{Unread}
use Rattle.store_thread.proofs.Posting.{tied}
use Rattle.store_thread.proofs.Running.{went_stands, at_rest}
use Rattle.store_thread.proofs.laws.rows_are_the_stores.Goals as goal

pub returns : goal.returns
returns g c parcels views i j far near began k rows mailed at_far at_near asks answers went told =
    let b = g.K.Keeper in
    tied b.Tells b.rows parcels views i j far near mailed at_far at_near asks answers k rows
    (λ free. went_stands b.Tells b.rows b.is_told b.faults b.Chooses g.met.K.Keeper.decides began k Unread near.talk.seen tt
    (at_rest b.Tells b.rows b.is_told b.faults b.Chooses g.met.K.Keeper.decides began k near.talk free went)) told
