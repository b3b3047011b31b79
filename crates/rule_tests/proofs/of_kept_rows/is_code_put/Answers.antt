use Rattle.std.proofs.Common.{◌≡◌, ℕ, Option, Some, None, sym, ap, ◌∙◌}
use Rattle.std.specs.FinMap.{FinMap, empty, get, get-empty}
use Rattle.std.specs.Ordering.{nat_cmp}
use Rattle.hub_rows.specs.declared.records.ShareCode.{ShareCode}
use Rattle.rule_tests.proofs.of_kept_rows.is_code_put.Goals as goal

none_some : (row : ShareCode) → None ≡ Some row → ⊥
none_some row h = cc

not_there : (rows : FinMap nat_cmp ShareCode) → rows ≡ empty → (id : ℕ) (row : ShareCode) → get rows id ≡ Some row → ⊥
not_there rows none id row there = none_some row (sym (get-empty nat_cmp id) ∙ (ap (λ (r : FinMap nat_cmp ShareCode). get r id) (sym none) ∙ there))

pub put_code-requires : goal.put_code-requires
put_code-requires c = record {
  hash = record {
    no_other = λ id row there same. absurd (not_there c.args.tables.now.codes c.requires id row there);
    same = λ row there. absurd (not_there c.args.tables.now.codes c.requires c.args.code.id row there);
  };
  server = λ row there. absurd (not_there c.args.tables.now.codes c.requires c.args.code.id row there);
}
