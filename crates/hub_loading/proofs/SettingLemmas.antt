-- The hub of a job, from its opening.
use Rattle.std.proofs.Common.{◌≡◌, ℕ, IsTrue, List, [], codes, Ok, refl, ap, ◌∙◌, subst}
use Rattle.hub_core.specs.Opened.{HasOpened}
use Rattle.hub_core.specs.Visits.{Standing}
use Rattle.hub_kit.specs.Names.{name_read}
use Rattle.hub_opening.specs.Opening.{IsSetUp}
use Rattle.hub_opening.specs.declared.config.HubConfig.{HubConfig}
use Rattle.keeper.specs.Rows.{Rows, AreSame, rows_of, no_rows}
use Rattle.keeper.specs.declared.keeper.Row.{Row}
use Rattle.hub_loading.specs.Setting.{IsJobHub, config_of}

pub read_is : (root : List ℕ) → Ok root ≡ name_read (codes "root") → root ≡ codes "root"
read_is root is = let plain : name_read (codes "root") ≡ Ok (codes "root") = refl in cc (is, plain)

pub job_hub : (config : HubConfig) (root : List ℕ) (now : ℕ) (Tells : Type 0) (has : Rows) (rows : List Row) (faults : ℕ) (b : Standing)
    → HasOpened config now Tells has faults b → config ≡ config_of root → root ≡ codes "root" → now ≡ 1700000000 → AreSame has (rows_of rows) → rows ≡ []
    → IsJobHub b.start
job_hub config root now Tells has rows faults b opened is named moment none empty =
    let same : has ≡ rows_of rows = λ i kind key. none kind key i in
    let bare : has ≡ no_rows = same ∙ ap rows_of empty in
    let may : Type 0 = IsTrue b.start.has_rows in
    record {
      set_up = subst (λ (c : HubConfig). IsSetUp c 1700000000 may no_rows b.start.machine) (is ∙ ap config_of named)
          (subst (λ (n : ℕ). IsSetUp config n may no_rows b.start.machine) moment
          (subst (λ (r : Rows). IsSetUp config now may r b.start.machine) bare opened.set_up));
    }
