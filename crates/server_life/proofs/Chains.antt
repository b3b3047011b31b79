-- What holds along the events of a life.
use Rattle.std.proofs.Common.{ℕ, ◌≡◌, ◌≢◌, ◌≤◌, ◌+◌, Bool, true, false, not, List, [], ◌∷◌, length, refl, ap, subst, arith}
use Rattle.server_life.specs.declared.life.Phase.{Phase}
use Rattle.server_life.specs.declared.life.Phase.TheVariants.{Ready}
use Rattle.server_life.specs.declared.life.Life.{Life}
use Rattle.server_life.specs.declared.life.LifeEvent.{LifeEvent}
use Rattle.server_life.specs.Lives.{LeadsTo, Each, is_outcome, is_begin}
use Rattle.server_life.specs.Owed.{owed}
use Rattle.server_life.proofs.Rows.{fewer_owed, is_fated, stays_fated}

pub covered : (life later : Life) (events : List (ℕ × LifeEvent)) → Each is_outcome events → LeadsTo life events later → length events + owed later.phase ≤ owed life.phase
covered life later [] each leads = let e = ap (λ (l : Life). owed l.phase) leads in omega (arith, e)
covered life later (e ∷ es) each leads =
    let rest = covered leads.0.0 later es each.1 leads.2 in
    let less = fewer_owed life e.0 e.1 leads.0 each.0 leads.1 in
    omega (arith, rest, less)

not_true : (b : Bool) → not b ≡ true → b ≡ false
not_true true h = cc
not_true false h = refl

still_fated : (life later : Life) (events : List (ℕ × LifeEvent)) → is_fated life.phase life.stop_asked ≡ true → Each (λ e. not (is_begin e)) events → LeadsTo life events later → is_fated later.phase later.stop_asked ≡ true
still_fated life later [] fated each leads = subst (λ (l : Life). is_fated l.phase l.stop_asked ≡ true) leads fated
still_fated life later (e ∷ es) fated each leads =
    still_fated leads.0.0 later es (stays_fated life e.0 e.1 leads.0 (not_true _ each.0) fated leads.1) each.1 leads.2

fated_at : (ph : Phase) (asked : Bool) → asked ≡ true → ((h : ℕ) → ph ≢ Ready h) → is_fated ph asked ≡ true
fated_at (Ready h) asked a n = absurd (n h refl)
fated_at ph true a n = refl
fated_at ph false a n = cc

ready_is_not : (ph : Phase) (asked : Bool) (h : ℕ) → is_fated ph asked ≡ true → ph ≢ Ready h
ready_is_not (Ready k) asked h f e = cc
ready_is_not ph asked h f e = cc

pub never_ready : (life later : Life) (events : List (ℕ × LifeEvent)) → life.stop_asked ≡ true → ((h : ℕ) → life.phase ≢ Ready h) → Each (λ e. not (is_begin e)) events → LeadsTo life events later → (h : ℕ) → later.phase ≢ Ready h
never_ready life later events asked apart each leads h = ready_is_not later.phase later.stop_asked h (still_fated life later events (fated_at life.phase life.stop_asked asked apart) each leads)
