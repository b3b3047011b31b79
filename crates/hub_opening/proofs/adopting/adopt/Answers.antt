use Rattle.hub_opening.proofs.adopting.adopt.Goals as goal

pub adopt-requires-clause-pooled : goal.adopt-requires-clause-pooled
adopt-requires-clause-pooled c = (c.requires c.in-Some.generation c.in-Some.is).pooled

pub adopt-requires-clause-free : goal.adopt-requires-clause-free
adopt-requires-clause-free c = (c.requires c.in-Some.generation c.in-Some.is).free

pub adopt-requires-clause-rests : goal.adopt-requires-clause-rests
adopt-requires-clause-rests c = (c.requires c.in-Some.generation c.in-Some.is).rests

pub adopt-requires-clause-below : goal.adopt-requires-clause-below
adopt-requires-clause-below c = (c.requires c.in-Some.generation c.in-Some.is).below

pub adopt-requires-clause-room : goal.adopt-requires-clause-room
adopt-requires-clause-room c = (c.requires c.in-Some.generation c.in-Some.is).room
