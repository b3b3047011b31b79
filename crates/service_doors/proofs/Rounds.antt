-- One round more.
use Rattle.std.proofs.Common.{◌≡◌, ◌+◌, ℕ, zero, suc, Option, Some, refl, sym, ap, ◌∙◌, subst, arith}
use Rattle.std.proofs.Math.Logic.{∥∥₁_map}
use Rattle.std.specs.Option.{option_map}
use Rattle.services_run.specs.Book.{Book}
use Rattle.service_doors.specs.Tending.{ServicesTold, OneRound, Tends}

-- the round before the first connection
pub first_round : (b b' : Book) (s s' : ServicesTold) (given given' : Option ℕ) → given' ≡ given → OneRound b s b' s'
    → ∥ Tends b s given b' s' given' ∥₁
first_round b b' s s' given given' same one = ∣ record {
  connections = zero;
  gave = λ n is. same ∙ is ∙ ap Some (omega arith);
  rounds = (b, s, (refl, refl), one);
} ∣₁

-- a round after a connection
one_more : (b b' b'' : Book) (s s' s'' : ServicesTold) (given given' given'' : Option ℕ) → Tends b s given b' s' given'
    → given'' ≡ option_map (λ n. n + 1) given' → OneRound b' s' b'' s'' → Tends b s given b'' s'' given''
one_more b b' b'' s s' s'' given given' given'' so gave one = record {
  connections = suc so.connections;
  gave = λ n is. gave ∙ (ap (option_map (λ m. m + 1)) (so.gave n is) ∙ ap Some (omega arith));
  rounds = (b', s', so.rounds, one);
}

pub next_round : (b b' b'' : Book) (s s' s'' : ServicesTold) (given given' given'' : Option ℕ) → ∥ Tends b s given b' s' given' ∥₁
    → given'' ≡ option_map (λ n. n + 1) given' → OneRound b' s' b'' s'' → ∥ Tends b s given b'' s'' given'' ∥₁
next_round b b' b'' s s' s'' given given' given'' so gave one =
    ∥∥₁_map so (λ tends. one_more b b' b'' s s' s'' given given' given'' tends gave one)

-- no connection came
pub same_rounds : (b b' : Book) (s s' : ServicesTold) (given given' given'' : Option ℕ) → ∥ Tends b s given b' s' given' ∥₁
    → given'' ≡ given' → ∥ Tends b s given b' s' given'' ∥₁
same_rounds b b' s s' given given' given'' so same =
    subst (λ (g : Option ℕ). ∥ Tends b s given b' s' g ∥₁) (sym same) so
