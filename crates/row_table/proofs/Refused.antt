-- Why a query of a store of the hub isn't answered.
use Rattle.std.proofs.Common.{◌≡◌, ◌≤◌, inl, inr, ℕ, length, true, false, List, [], ◌∷◌, codes, Option, None, Some, Result, Ok, Err, IfErr, refl, sym, ap, subst, ◌∙◌, arith, true≢false}
use Rattle.sqlite_tied.specs.Compute.{everything}
use Rattle.sqlite.specs.Clock.{timed}
use Rattle.sqlite.specs.Command.TheVariants.{Select}
use Rattle.sqlite.specs.Effect.{RefusesToRead}
use Rattle.sqlite.specs.Given.{IsPlain}
use Rattle.sqlite.specs.Listing.{understood, reads_listing, IsSourceOf}
use Rattle.sqlite.specs.Order.{Row}
use Rattle.sqlite.specs.State.{State, Fails, IsNotRun, IsNoStatement, FailsToShow, FailsToQuery}
use Rattle.sqlite.specs.declared.error.Error.{Error}
use Rattle.sqlite.proofs.Callers.{command_of}
use Rattle.sqlite_resolve.specs.declared.compiled.Compiled.{Compiled}
use Rattle.sqlite_resolve.specs.declared.error.CompileError.{CompileError}
use Rattle.sqlite_schema.specs.declared.command.Returning.{Returning}
use Rattle.sqlite_trees.specs.declared.error.StoreError.TheVariants as store
use Rattle.sqlite_typing.specs.Types.{accepts_program}
use Rattle.row_table.specs.Tables.{store_schema}
use Rattle.row_table.specs.Texts.{all_text}
use Rattle.row_table.specs.Unread.{IsUnread}
use Rattle.row_table.proofs.Upsert.{by_rowid, all_is, all_plain, all_unlisted}

-- it is one statement without parameters
abbrev IsWhole : List ℕ → Result Compiled CompileError → Type 0
IsWhole sql (Ok c) = (length sql ≤ c.tail) × (c.names ≡ [])
IsWhole sql (Err e) = Unit {0}

all_whole : IsWhole all_text (understood store_schema all_text)
unfolding understood everything
all_whole = (omega arith, refl)

all_typed : accepts_program store_schema [] by_rowid [] ≡ true
unfolding everything
all_typed = refl

module _ (old new : State) where
  failed : (e : Error) → Fails old new ⊥ e → IsUnread old new e
  failed e (store.OutOfMemory, is, cause, back, told) = inl is
  failed e (store.Io, is, cause, back, told) = inr (inl cause)
  failed e (store.Corrupt, is, cause, back, told) = inr (inl cause)
  failed e (store.Full, is, cause, back, told) = inr (inl cause)
  failed e (store.Broken, is, cause, back, told) = inr (inr (inl cause))
  failed e (store.Unstorable, is, cause, back, told) = absurd cause

  -- the text is a statement
  never_none : (e : Error) → (r : Result Compiled CompileError) → understood old.now.schema all_text ≡ r → IsPlain r → IsWhole all_text r → IsNoStatement old all_text [] e → ⊥
  never_none e r is plain whole (inl wrong) = subst IsPlain (sym is ∙ wrong.1) plain
  never_none e r is plain whole (inr (c, known, why)) =
      let bare = subst IsPlain (sym is ∙ known) plain in
      let one = subst (IsWhole all_text) (sym is ∙ known) whole in
      elim why [
        | inl cut ↦ cut.0 one.0
        | inr (inl count) ↦ count.0 (sym (ap length one.1))
        | inr (inr timed) ↦ timed.0 bare.1
      ]

  refused : (e : Error) (params : Row) → params ≡ [] → old.now.schema ≡ store_schema → RefusesToRead old.step_limit (Select (record { lets = []; body = by_rowid }) (codes "rowid" ∷ codes "kind" ∷ codes "key" ∷ codes "text" ∷ [])) old.now params e
      → IsUnread old new e
  refused e params none has (inl wrong) =
      absurd (true≢false (sym (subst (λ s. accepts_program s [] by_rowid [] ≡ true) (sym has) all_typed) ∙ subst (λ p. accepts_program old.now.schema [] by_rowid p ≡ false) none wrong.1))
  refused e params none has (inr (inl over)) = absurd (elim over.1 [ inl none ↦ none | inr folds ↦ folds.4 ])
  refused e params none has (inr (inr long)) = inr (inr (inr long))

  shown_by : (e : Error) (params : Row) (c : Compiled) (returning : Option Returning) → returning ≡ None → params ≡ [] → old.now.schema ≡ store_schema
      → c.command ≡ Select (record { lets = []; body = by_rowid }) (codes "rowid" ∷ codes "kind" ∷ codes "key" ∷ codes "text" ∷ []) → FailsToShow old new all_text c params e returning → IsUnread old new e
  shown_by e params c None none empty has is h =
      let db : h.0 ≡ old.now = subst (λ b. IsSourceOf b old.now h.0) (ap (λ s. reads_listing s all_text) has ∙ all_unlisted) h.1 in
      refused e params empty has (subst (λ d. RefusesToRead old.step_limit (Select (record { lets = []; body = by_rowid }) (codes "rowid" ∷ codes "kind" ∷ codes "key" ∷ codes "text" ∷ [])) d params e) db
      (subst (λ k. RefusesToRead old.step_limit k h.0 params e) is h.2))
  shown_by e params c (Some what) none empty has is h = absurd cc

  unread : (e : Error) → old.now.schema ≡ store_schema → FailsToQuery all_text [] old new e → IsUnread old new e
  unfolding FailsToQuery IsNotRun
  unread e has (inl (inl none)) =
      absurd (never_none e (understood old.now.schema all_text) refl (subst (λ s. IsPlain (understood s all_text)) (sym has) all_plain) (subst (λ s. IsWhole all_text (understood s all_text)) (sym has) all_whole) none.0)
  unread e has (inl (inr fails)) = failed e fails
  unread e has (inr h) =
      let known = sym h.1.is ∙ ap (λ s. understood s all_text) has in
      let bare = subst IsPlain (sym known) all_plain in
      shown_by e _ h.0 h.0.returning bare.0 (ap (λ f. timed [] f h.1.now) bare.1) has (ap command_of known ∙ all_is) h.2

  pub unread_if : {V : Type 0} (r : Result V Error) → old.now.schema ≡ store_schema → IfErr r (FailsToQuery all_text [] old new) → IfErr r (IsUnread old new)
  unread_if (Ok v) has h = tt
  unread_if (Err e) has h = unread e has h
