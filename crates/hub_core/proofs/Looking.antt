-- The cache of rights: a look that may be made, and what is true of the cache after it.
use Rattle.std.proofs.Common.{◌≡◌, ℕ, true, false, ◌≤◌, ◌<◌, [], Contains, Option, refl, sym, ◌∙◌, subst, inl, inr, arith}
use Rattle.std.specs.Prelude.{Some, None, Result, Ok, Err, IfOk}
use Rattle.std.specs.FinMap.{get}
use Rattle.scope_filters.specs.Grants.{Rights}
use Rattle.hub_rows.specs.declared.records.Token.{Token}
use Rattle.std.specs.Borrow.{Bor}
use Rattle.std.specs.declared.alloc.AllocError.{AllocError}
use Rattle.hub_tables.specs.State.{State}
use Rattle.roles.specs.Looks.{Cache, Entry, OfAll, no_entries, IsAfter, IsLooked, IsRight, IsRightSince, found}
use Rattle.roles.specs.Rights.{IsAllowed, IsGrantOf}
use Rattle.roles.proofs.EachEntry.{looked_all, right_of_all, since_of_all}
use Rattle.hub_machine.specs.State.{Hub}
use Rattle.hub_core.specs.Answer.{caller, is_past}
use Rattle.hub_core.specs.Current.{IsRightIn, IsCurrent, AreNumbered, LookedFor, Looked}
use Rattle.hub_core.specs.Judged.{decider}
use Rattle.hub_core.specs.Needs.{needs_token}
use Rattle.hub_machine.specs.declared.call.Asked.{Asked}

same_some : (x y : Token) → Some x ≡ Some y → x ≡ y
same_some x y h = cc

-- ---- a look

right_for : (c : Cache) (t : State) (since stamp : ℕ) (k : Token) → IsCurrent c t since stamp → get t.tokens k.id ≡ Some k → IsRight c t k stamp
right_for c t since stamp k current at = right_of_all (IsRightIn t since stamp) c t k stamp current.each (λ kept r e. r.right (let a : since ≤ stamp = current.settled in let b : kept.stamp ≡ stamp = e in omega (arith, a, b)) k at)

current_looked : (c n : Cache) (t : State) (since stamp : ℕ) (k : Token) (grant : Rights) → IsCurrent c t since stamp → AreNumbered t → get t.tokens k.id ≡ Some k
    → IsGrantOf t (IsAllowed t k) grant → IsAfter c k.id stamp (found c k.id stamp) grant n → IsCurrent n t since stamp
current_looked c n t since stamp k grant current numbered at exact after = record {
  settled = current.settled;
  each = looked_all (IsRightIn t since stamp) c n k.id stamp grant after current.each (record {
    older = let same : stamp ≤ stamp = omega arith in same;
    numbered = numbered.tokens k.id k at;
    right = λ e other there. subst (λ (x : Token). IsGrantOf t (IsAllowed t x) grant) (same_some k other (sym at ∙ there)) exact;
  });
}

pub look_may : (c : Cache) (t t' : State) (since stamp : ℕ) (k : Token) → t' ≡ t → IsCurrent c t since stamp → get t.tokens k.id ≡ Some k → IsRight c t' k stamp
look_may c t t' since stamp k e current at = subst (λ (x : State). IsRight c x k stamp) (sym e) (right_for c t since stamp k current at)

-- what is kept since the sources of rights changed is right
pub look_may_since : (c : Cache) (t t' : State) (since stamp : ℕ) (k : Token) → t' ≡ t → IsCurrent c t since stamp → get t.tokens k.id ≡ Some k → IsRightSince c t' k since stamp
look_may_since c t t' since stamp k e current at =
    subst (λ (x : State). IsRightSince c x k since stamp) (sym e) (since_of_all (IsRightIn t since stamp) c t k since stamp current.each (λ kept r h. r.right h.0 k at))

-- the cache after a look, whatever it answered
pub current_after : (c n : Cache) (t t' : State) (since stamp : ℕ) (k : Token) (r : Result (Bor Rights) AllocError) → t' ≡ t → IsCurrent c t since stamp → AreNumbered t
    → get t.tokens k.id ≡ Some k → IfOk r (λ grant. IsGrantOf t' (IsAllowed t' k) grant.now) → IsLooked c k.id stamp r n → IsCurrent n t since stamp
current_after c n t t' since stamp k (Ok grant) e current numbered at exact looked =
    current_looked c n t since stamp k grant.now current numbered at (subst (λ (x : State). IsGrantOf x (IsAllowed x k) grant.now) e exact) looked
current_after c n t t' since stamp k (Err x) e current numbered at exact looked = subst (λ (y : Cache). IsCurrent y t since stamp) (sym looked.1) current

same_result : (r : Result (Bor Rights) AllocError) (grant : Bor Rights) (c n : Cache) (id stamp : ℕ) → r ≡ Ok grant → IsLooked c id stamp r n → IsAfter c id stamp (found c id stamp) grant.now n
same_result r grant c n id stamp e h = subst (λ (x : Result (Bor Rights) AllocError). IsLooked c id stamp x n) e h

pub looked_after : {A E : Type 0} (c n : Cache) (k : Token) (stamp : ℕ) (r : Result (Bor Rights) AllocError) (grant : Bor Rights) (answer : Result A E) → r ≡ Ok grant
    → IsLooked c k.id stamp r n → Looked c stamp (Some k) answer n
looked_after c n k stamp r grant (Ok a) e h = (grant.now, same_result r grant c n k.id stamp e h)
looked_after c n k stamp r grant (Err x) e h = inr (grant.now, same_result r grant c n k.id stamp e h)

-- ---- whose rights decide

pub decides : (s : Hub) (now : ℕ) (asked : Asked) (k : Option Token) → is_past s.length asked.seen ≡ false → needs_token asked.call ≡ true
    → caller s now asked ≡ k → decider s now asked ≡ k
decides s now asked k h n e = rw (h, n) e

pub past_decides : (s : Hub) (now : ℕ) (asked : Asked) → is_past s.length asked.seen ≡ true → decider s now asked ≡ None
past_decides s now asked h = rw h refl

pub none_decides : (s : Hub) (now : ℕ) (asked : Asked) → is_past s.length asked.seen ≡ false → needs_token asked.call ≡ false → decider s now asked ≡ None
none_decides s now asked h n = rw (h, n) refl

pub none_looked : (c : Cache) (stamp : ℕ) (k : Option Token) → k ≡ None → LookedFor c stamp k c
none_looked c stamp k e = subst (λ (x : Option Token). LookedFor c stamp x c) (sym e) refl

pub not_looked : {A E : Type 0} (c : Cache) (stamp : ℕ) (k : Option Token) (r : Result A E) → k ≡ None → Looked c stamp k r c
not_looked c stamp k (Ok a) e = subst (λ (x : Option Token). LookedFor c stamp x c) (sym e) refl
not_looked c stamp k (Err x) e = inl refl

pub looked_of : {A E : Type 0} (c n : Cache) (stamp : ℕ) (k k' : Option Token) (r : Result A E) → k ≡ k' → Looked c stamp k r n → Looked c stamp k' r n
looked_of c n stamp k k' r e h = subst (λ (x : Option Token). Looked c stamp x r n) e h

-- whatever comes after the look
pub looked_then : {A E : Type 0} (c n : Cache) (stamp : ℕ) (k : Option Token) (r : Result A E) → LookedFor c stamp k n → Looked c stamp k r n
looked_then c n stamp k (Ok a) h = h
looked_then c n stamp k (Err x) h = inr h

-- ---- nothing kept

none_held : (x : Entry) → None ≡ Some x → ⊥
none_held x h = cc

none_there : (x : Entry) → Contains [] x → ⊥
none_there x h = let lt : h.0 < 0 = h.1 in omega (arith, lt)

pub current_empty : (c : Cache) (t : State) (stamp capacity : ℕ) → c ≡ no_entries capacity → IsCurrent c t stamp stamp
current_empty c t stamp capacity e = record {
  settled = let same : stamp ≤ stamp = omega arith in same;
  each = subst (OfAll (IsRightIn t stamp stamp)) (sym e) (λ id kept at. absurd (none_there (id, kept) at), λ id kept at. absurd (none_held (id, kept) at));
}
