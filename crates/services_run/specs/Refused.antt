-- Why services can't be kept.
use Rattle.std.specs.Prelude.{List}
use Rattle.services_run.specs.declared.place.Managed.{Managed}
use Rattle.services_run.specs.declared.services.ServicesError.{ServicesError}
use Rattle.services_run.specs.declared.services.ServicesError.TheVariants.{Repeated, Memory}
use Rattle.services_run.specs.New.{IsFirstRepeated}

-- Why these services can't be kept: the first place at which a name or a target comes again, or want of memory
abbrev pub RefusedBy : List Managed → ServicesError → Type 0
RefusedBy ms (Repeated at) = IsFirstRepeated ms at
RefusedBy ms Memory = Unit {0}
