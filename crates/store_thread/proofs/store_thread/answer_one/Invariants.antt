use Rattle.store_thread.proofs.store_thread.answer_one.Given as goal

abbrev pub ghosts-give : goal.ghosts-give
ghosts-give g a = record { told = g.K.Keeper.is_told a.store.now }
