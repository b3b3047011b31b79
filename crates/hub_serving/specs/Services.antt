-- The services of a configuration.
use Rattle.hub_config.specs.declared.config.ConfigManaged.{ConfigManaged}
use Rattle.services_run.specs.declared.place.Managed.{Managed}

-- its name, its target and its secret; its command is the program's
abbrev pub service_of : ConfigManaged → Managed
service_of m = record { name = m.name; target = m.target; secret = m.secret }
