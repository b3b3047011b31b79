use Rattle.std.proofs.Common.{◌≡◌, sym, ap, codes, ℕ, List}
use Rattle.serde_json.specs.Find.{get}
use Rattle.serde_json.specs.View.{view}
use Rattle.key_texts.proofs.Results.{absent}
use Rattle.record_texts.specs.Servers.{share_object}
use Rattle.record_texts.proofs.servers.ShareRecord.find.Goals as goal

pub returns-in_err-number_at : goal.returns-in_err-number_at
returns-in_err-number_at c r valid key shape =
    let at : (name : List ℕ) → get name (view c.args.value.now) ≡ get name (share_object r) = λ name. ap (get name) (sym shape) in
    absent _ _ r.created r c.from_residual-in_err-number_at.ensures.1 (c.in_err-number_at.ensures r.created valid.created (at (codes "created")))

pub returns-in_err-shared_at : goal.returns-in_err-shared_at
returns-in_err-shared_at c r valid key shape =
    let at : (name : List ℕ) → get name (view c.args.value.now) ≡ get name (share_object r) = λ name. ap (get name) (sym shape) in
    absent _ _ r.scopes r c.from_residual-in_err-shared_at.ensures.1 (c.in_err-shared_at.ensures r.scopes valid.scopes valid.in_order (at (codes "scopes")))

pub returns : goal.returns
returns c r valid key shape =
    let at : (name : List ℕ) → get name (view c.args.value.now) ≡ get name (share_object r) = λ name. ap (get name) (sym shape) in
    λ i. record {
      key = c.in_ok-of_text.ensures r.key valid.key key i;
      created = c.in_ok-number_at.ensures r.created valid.created (at (codes "created")) i;
      scopes = c.in_ok-shared_at.ensures r.scopes valid.scopes valid.in_order (at (codes "scopes")) i;
    }
