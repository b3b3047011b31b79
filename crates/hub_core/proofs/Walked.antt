-- Leases that are walked through: the servers of those so far and of those to come, and all of them in order.
use Rattle.std.proofs.Common.{◌≡◌, ℕ, List, ◌∷◌, ◌++◌, Option, refl, sym, ap, subst, ◌∙◌, append_assoc}
use Rattle.std.specs.Prelude.{Some, None, option_to_list}
use Rattle.std.specs.List.{filter_map, cons_option}
use Rattle.std.specs.List.Sorted.{IsPermutation, IsSortedByKey}
use Rattle.hub_kit.specs.KeyOrder.{key_cmp, name_cmp}
use Rattle.hub_lives.specs.Lives.{Lives}
use Rattle.hub_lives.specs.LiveServers.{LiveServers}
use Rattle.hub_core.specs.Live.{AreAdopting, AreReady, adopting_servers, ready_servers}
use Rattle.hub_core.specs.declared.live.LiveServer.{LiveServer}

module _ {X Y : Type 0} (pick : X → Option Y) where
  picked : (o : Option Y) (rest : List Y) → cons_option o rest ≡ option_to_list o ++ rest
  picked None rest = refl
  picked (Some y) rest = refl

  pub one_further : (row : X) (rest rows : List X) (before after whole : List Y) → rows ≡ row ∷ rest → after ≡ before ++ option_to_list (pick row)
      → before ++ filter_map pick rows ≡ whole → after ++ filter_map pick rest ≡ whole
  one_further row rest rows before after whole are e h =
      ap (λ l. l ++ filter_map pick rest) e
      ∙ append_assoc before (option_to_list (pick row)) (filter_map pick rest)
      ∙ ap (λ l. before ++ l) (sym (ap (filter_map pick) are ∙ picked (pick row) (filter_map pick rest)))
      ∙ h

pub ready_sorted : (pool : List (List ℕ)) (lives : Lives) (next : ℕ) (live : LiveServers) (found sorted : List LiveServer) → live ≡ record { pool = pool; lives = lives; next = next }
    → found ≡ ready_servers live.lives → IsPermutation found sorted → IsSortedByKey (λ (s : LiveServer). s.server) key_cmp sorted → AreReady lives sorted
ready_sorted pool lives next live found sorted is all moved order = record {
  same = subst (λ (xs : List LiveServer). IsPermutation xs sorted) (all ∙ ap (λ (l : LiveServers). ready_servers l.lives) is) moved;
  ordered = order;
}

pub adopting_sorted : (pool : List (List ℕ)) (lives : Lives) (next : ℕ) (live : LiveServers) (found sorted : List LiveServer) → live ≡ record { pool = pool; lives = lives; next = next }
    → found ≡ adopting_servers live.lives → IsPermutation found sorted → IsSortedByKey (λ (s : LiveServer). s.target) name_cmp sorted → AreAdopting lives sorted
adopting_sorted pool lives next live found sorted is all moved order = record {
  same = subst (λ (xs : List LiveServer). IsPermutation xs sorted) (all ∙ ap (λ (l : LiveServers). adopting_servers l.lives) is) moved;
  ordered = order;
}
