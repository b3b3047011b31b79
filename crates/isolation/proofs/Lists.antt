-- Lists of what may be listed: the same in two states, in the same order.
use Rattle.std.proofs.Common.{◌≡◌, ℕ, Bool, true, false, cond, List, map, Option, Some, None, is_some, refl, sym, ap, ◌∙◌}
use Rattle.std.specs.List.{filter}
use Rattle.std.specs.Option.{option_map}
use Rattle.std.specs.Cmp.Lexicographic.{nat_list_cmp_total}
use Rattle.std.specs.FinMap.{FinMap, get, values}
use Rattle.hub_kit.specs.KeyOrder.{name_cmp}
use Rattle.keyed_rows.specs.Rows.{OwnKeys}
use Rattle.hub_rows.specs.ShareOrder.{names_exact}
use Rattle.isolation.specs.Sight.{InBoth}
use Rattle.isolation.proofs.Picked.{shown, same_shown, where_so, map_filter}

module _ {X Y : Type 0} (name : X → List ℕ) (p : List ℕ → Bool) where
  -- a row under its own name is shown where its name may be listed
  at_key : (f : X → Y) (q : List ℕ) (a : Option X) → ((x : X) → a ≡ Some x → name x ≡ q)
      → shown (where_so (λ x. p (name x)) f) a ≡ cond (p q) (option_map f a) None
  at_key f q None own = elim (p q) as (λ b. shown (where_so (λ x. p (name x)) f) None ≡ cond b None None) [ true ↦ refl | false ↦ refl ]
  at_key f q (Some x) own = ap (λ n. cond (p n) (Some (f x)) None) (own x refl)

  same_rows : (f g : X → Y) (Same : X → X → Type 0) (a b : Option X)
      → ((x y : X) → a ≡ Some x → b ≡ Some y → Same x y → f x ≡ g y) → InBoth Same a b → option_map f a ≡ option_map g b
  same_rows f g Same None None same both = refl
  same_rows f g Same (Some x) (Some y) same both = ap Some (same x y refl refl both)
  same_rows f g Same None (Some y) same both = absurd both
  same_rows f g Same (Some x) None same both = absurd both

  pub same_list : (f g : X → Y) (Same : List ℕ → X → X → Type 0) (m n : FinMap name_cmp X) → OwnKeys name m → OwnKeys name n
      → ((q : List ℕ) (x y : X) → name x ≡ q → name y ≡ q → Same q x y → f x ≡ g y)
      → ((q : List ℕ) → p q ≡ true → InBoth (Same q) (get m q) (get n q))
      → map f (filter (λ x. p (name x)) (values m)) ≡ map g (filter (λ x. p (name x)) (values n))
  same_list f g Same m n own own' same both =
      map_filter (λ x. p (name x)) f (values m)
      ∙ same_shown nat_list_cmp_total names_exact (where_so (λ x. p (name x)) f) (where_so (λ x. p (name x)) g) m n (λ q.
      at_key f q (get m q) (own q)
      ∙ elim (p q) as (λ b. p q ≡ b → cond b (option_map f (get m q)) None ≡ cond b (option_map g (get n q)) None) [
        | true ↦ λ e. same_rows f g (Same q) (get m q) (get n q) (λ x y here there. same q x y (own q x here) (own' q y there)) (both q e)
        | false ↦ λ e. refl
      ] refl
      ∙ sym (at_key g q (get n q) (own' q)))
      ∙ sym (map_filter (λ x. p (name x)) g (values n))

pub in_both : {X : Type 0} (P : Type 0) (a b : Option X) → is_some a ≡ is_some b → P → InBoth (λ x y. P) a b
in_both P None None e h = tt
in_both P (Some x) (Some y) e h = h
in_both P None (Some y) e h = absurd (cc)
in_both P (Some x) None e h = absurd (cc)
