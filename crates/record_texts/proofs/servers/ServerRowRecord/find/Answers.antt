use Rattle.std.proofs.Common.{◌≡◌, sym, ap, codes, ℕ, List}
use Rattle.serde_json.specs.Find.{get}
use Rattle.serde_json.specs.View.{view}
use Rattle.key_texts.proofs.Results.{absent}
use Rattle.record_texts.specs.Servers.{server_object}
use Rattle.record_texts.proofs.servers.ServerRowRecord.find.Goals as goal

pub returns-in_err-number_at : goal.returns-in_err-number_at
returns-in_err-number_at c r valid key shape =
    let at : (name : List ℕ) → get name (view c.args.value.now) ≡ get name (server_object r) = λ name. ap (get name) (sym shape) in
    absent _ _ r.created r c.from_residual-in_err-number_at.ensures.1 (c.in_err-number_at.ensures r.created valid.created (at (codes "created")))

pub returns-in_err-maybe_number_at : goal.returns-in_err-maybe_number_at
returns-in_err-maybe_number_at c r valid key shape =
    let at : (name : List ℕ) → get name (view c.args.value.now) ≡ get name (server_object r) = λ name. ap (get name) (sym shape) in
    absent _ _ r.last_activity r c.from_residual-in_err-maybe_number_at.ensures.1 (c.in_err-maybe_number_at.ensures r.last_activity valid.last_activity (at (codes "last_activity")))

pub returns-in_err-maybe_number_at-2 : goal.returns-in_err-maybe_number_at-2
returns-in_err-maybe_number_at-2 c r valid key shape =
    let at : (name : List ℕ) → get name (view c.args.value.now) ≡ get name (server_object r) = λ name. ap (get name) (sym shape) in
    absent _ _ r.started r c.from_residual-in_err-maybe_number_at-2.ensures.1 (c.in_err-maybe_number_at-2.ensures r.started valid.started (at (codes "started")))

pub returns : goal.returns
returns c r valid key shape =
    let at : (name : List ℕ) → get name (view c.args.value.now) ≡ get name (server_object r) = λ name. ap (get name) (sym shape) in
    λ i. record {
      key = c.in_ok-of_text.ensures r.key valid.key key i;
      created = c.in_ok-number_at.ensures r.created valid.created (at (codes "created")) i;
      last_activity = c.in_ok-maybe_number_at.ensures r.last_activity valid.last_activity (at (codes "last_activity")) i;
      started = c.in_ok-maybe_number_at-2.ensures r.started valid.started (at (codes "started")) i;
    }
