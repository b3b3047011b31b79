-- What is true of each plan, and what follows the words.
use Rattle.std.proofs.Common.{◌≡◌, ◌≤◌, ◌^◌, inl, inr, ℕ, Bool, true, false, ◌&&◌, IsTrue, List, Option, Some, None, Result, Ok, Err, refl, sym, ap, subst}
use Rattle.keeper.specs.Rows.{Rows}
use Rattle.hub_core.specs.Visits.{Standing}
use Rattle.hub_config.specs.Managed.{are_distinct}
use Rattle.hub_config.specs.declared.config.ConfigManaged.{ConfigManaged}
use Rattle.hub_opening.specs.Kept.{MakeTable}
use Rattle.hub_opening.specs.declared.config.HubConfig.{HubConfig}
use Rattle.hub_words.specs.declared.serve.ServeWords.{ServeWords}
use Rattle.hub_devices.specs.NamedFiles.{Reads}
use Rattle.hub_main.specs.Told.{FilesTold}
use Rattle.hub_main.specs.Configured.{most}
use Rattle.hub_main.specs.Opened.{Opens}
use Rattle.hub_main.specs.declared.cause.Cause.TheVariants.{Memory}
use Rattle.hub_main.proofs.Books.{opened_by_end}
use Rattle.hub_main.proofs.Configurations.{file_fits, file_scopes}
use Rattle.hub_serving.specs.Hall.{Hall}
use Rattle.hub_serving.specs.Plans.{HasNoPlan, IsPlanOf}
use Rattle.hub_serving.specs.Ends.{End, status_of}
use Rattle.hub_serving.specs.Served.{EndsOver}
use Rattle.hub_serving.specs.Commands.{EndsChosen, EndsPlanned, RunEnds}
use Rattle.hub_serving.specs.declared.plan.Plan.{Plan}
use Rattle.hub_serving.specs.declared.end.NotServed.TheVariants.{Because}

both_true : (a b : Bool) → (a && b) ≡ true → a ≡ true
both_true true b h = refl
both_true false b h = cc

pub plan_fits : (found : Option ServeWords) (files : FilesTold) (plan : Plan) → IsPlanOf found files plan → plan.hub.limits.trail_bytes ≤ 2 ^ 62
plan_fits None files plan is = absurd is
plan_fits (Some words) files plan is =
    subst (λ (c : HubConfig). c.limits.trail_bytes ≤ 2 ^ 62) (sym is.says.hub) (file_fits files words.config is.file is.found)

pub plan_scopes : (found : Option ServeWords) (files : FilesTold) (plan : Plan) → IsPlanOf found files plan → MakeTable plan.hub.custom_scopes
plan_scopes None files plan is = absurd is
plan_scopes (Some words) files plan is =
    subst (λ (c : HubConfig). MakeTable c.custom_scopes) (sym is.says.hub) (file_scopes files words.config is.file is.found)

pub plan_apart : (found : Option ServeWords) (files : FilesTold) (plan : Plan) → IsPlanOf found files plan → are_distinct plan.managed ≡ true
plan_apart None files plan is = absurd is
plan_apart (Some words) files plan is =
    subst (λ (ms : List ConfigManaged). are_distinct ms ≡ true) (sym is.says.managed) (both_true _ _ is.found.said.sound.apart)

-- a plan is that of the files, however often they failed since
pub still_plan : (found : Option ServeWords) (files files' : FilesTold) (plan : Plan) → files'.files ≡ files.files
    → IsPlanOf found files plan → IsPlanOf found files' plan
still_plan None files files' plan same is = is
still_plan (Some words) files files' plan same is = record {
  file = is.file;
  found = record {
    bytes = is.found.bytes;
    reads = subst (λ told. Reads told words.config most is.found.bytes) (sym same) is.found.reads;
    said = is.found.said;
  };
  says = is.says;
}

-- memory was wanting to read the words
pub wanting_plan : (found : Option ServeWords) (files : FilesTold) → HasNoPlan found files files (Because Memory)
wanting_plan None files = (inr refl, refl)
wanting_plan (Some words) files = tt

same : {K : Type 0} (a b : K) → Some a ≡ Some b → a ≡ b
same a b is = cc

module _ {K : Type 0} (Tells : K → Type 0) (rows : K → Rows) (faults : K → ℕ) (Sides : Option (List ℕ) → Option (List ℕ) → Type 0) where
  -- what follows over the book
  pub ends_over : (plan : Plan) (now : ℕ) (h h' : Hall) (k k' : K) (b : Standing) (end : End)
      → Opens plan.hub now (rows k) (faults k) b → (Tells k' → IsTrue b.start.has_rows)
      → EndsOver Tells rows faults Sides b.start b.faults plan h h' k' end → EndsChosen Tells rows faults Sides plan now h h' k k' end
  ends_over plan now h h' k k' b end opened had over =
      inr (b.start, b.faults, opened_by_end Tells rows faults plan.hub now k k' b opened had, over)

module _ {K : Type 0} (Tells : K → Type 0) (rows : K → Rows) (faults : K → ℕ) (Sides : Option (List ℕ) → Option (List ℕ) → Type 0)
    (Chooses : K → Option (List ℕ) → K → Type 0) where
  -- the store was taken from the outside and put back
  pub run_ends : (plan : Plan) (h h' : Hall) (taken back k k' : K) (end : End) (status : ℕ)
      → EndsPlanned Tells rows faults Sides Chooses plan h h' taken back end → status ≡ status_of end → Some taken ≡ Some k → Some back ≡ Some k'
      → RunEnds Tells rows faults Sides Chooses plan h h' k k' (Some end) status
  run_ends plan h h' taken back k k' end status ends is before after = (
    end,
    refl,
    subst (λ (x : K). EndsPlanned Tells rows faults Sides Chooses plan h h' x k' end) (same taken k before)
        (subst (λ (x : K). EndsPlanned Tells rows faults Sides Chooses plan h h' taken x end) (same back k' after) ends),
    is,
  )
