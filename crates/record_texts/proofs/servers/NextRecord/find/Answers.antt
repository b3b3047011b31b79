use Rattle.std.proofs.Common.{◌≡◌, sym, ap, codes, ℕ, List}
use Rattle.serde_json.specs.Find.{get}
use Rattle.serde_json.specs.View.{view}
use Rattle.key_texts.proofs.Results.{absent}
use Rattle.record_texts.specs.Servers.{next_object}
use Rattle.record_texts.proofs.servers.NextRecord.find.Goals as goal

pub returns-in_err-number_at : goal.returns-in_err-number_at
returns-in_err-number_at c r valid key shape =
    let at : (name : List ℕ) → get name (view c.args.value.now) ≡ get name (next_object r) = λ name. ap (get name) (sym shape) in
    absent _ _ r.next r c.from_residual-in_err-number_at.ensures.1 (c.in_err-number_at.ensures r.next valid.next (at (codes "next")))

pub returns : goal.returns
returns c r valid key shape =
    let at : (name : List ℕ) → get name (view c.args.value.now) ≡ get name (next_object r) = λ name. ap (get name) (sym shape) in
    λ i. record {
      name = c.in_ok-of_text.ensures r.name valid.name key i;
      next = c.in_ok-number_at.ensures r.next valid.next (at (codes "next")) i;
    }

pub returns-in_err-of_text : goal.returns-in_err-of_text
returns-in_err-of_text c r valid key shape = absent _ _ r.name r c.from_residual.ensures.1 (c.in_err-of_text.ensures r.name valid.name key)
