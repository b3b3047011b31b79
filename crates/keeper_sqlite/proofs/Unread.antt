-- What a store that can't be read is to the hub.
use Rattle.std.proofs.Common.{◌≡◌, inl, inr, refl, ap, ◌∙◌}
use Rattle.keeper.specs.declared.keeper.KeeperError.{KeeperError}
use Rattle.keeper.specs.declared.keeper.KeeperError.TheVariants.{Failed, Memory}
use Rattle.sqlite.specs.State.{State}
use Rattle.sqlite.specs.declared.error.Error.{Error}
use Rattle.row_table.specs.Unread.{IsUnread}
use Rattle.keeper_sqlite.specs.Causes.{cause_of, IsNotRead}

module _ (old new : State) where
  by_cause : (e : Error) (cause : KeeperError) → IsUnread old new e → (cause ≡ cause_of e) → IsNotRead old new cause
  by_cause e Memory why is = tt
  by_cause e Failed (inl none) is = absurd (let f : ◌≡◌ Failed Memory = is ∙ ap cause_of none in cc)
  by_cause e Failed (inr (inl failed)) is = inl failed
  by_cause e Failed (inr (inr (inl shut))) is = inr (inl shut)
  by_cause e Failed (inr (inr (inr limit))) is = inr (inr limit.1)

  pub not_read : (e : Error) → IsUnread old new e → IsNotRead old new (cause_of e)
  not_read e why = by_cause e (cause_of e) why refl
