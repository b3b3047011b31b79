use Rattle.std.proofs.Common.{◌≡◌, true, false, [], ◌∷◌, ◌++◌, string_bytes, string_cmp, sym, ap, ◌∙◌, subst, append_assoc}
use Rattle.std.specs.List.Sorted.{IsStrictlySortedBy}
use Rattle.std.specs.Map.{keys_of}
use Rattle.serde_json.specs.View.{members_view}
use Rattle.serde_json.proofs.Views.{Entry, members_view-insert_entry}
use Rattle.proxy_api.specs.Entries.{is_own}
use Rattle.proxy_api.proofs.Members.{others_last, others_same}
use Rattle.proxy_api.proofs.entries.others.Goals as goal

pub loop-key-preserved-then-not-is_own : goal.loop-key-preserved-then-not-is_own
loop-key-preserved-then-not-is_own c =
    let l = c.loop-key in
    let done = l.invariant.0 in
    let e : Entry = (c.in-Some.key.now, c.in-Some.member.now) in
    let left = c.next.new.self in
    let all : c.args.members.now.entries ≡ done ++ e ∷ left = l.invariant.1 ∙ ap (λ es. done ++ es) c.in-Some.ensures.steps in
    let kept : is_own (string_bytes e.0) ≡ false = sym (ap is_own c.as_str.ensures.value) ∙ (sym c.is_own.ensures ∙ c.if-not-is_own.true) in
    let last = others_last done e left (subst (λ es. IsStrictlySortedBy string_cmp (keys_of es)) all c.iter-key-items.ensures.ordered) kept in
    let named : string_bytes c.in_ok-name.name ≡ string_bytes e.0 = c.in_ok-name.ensures.cases in (
      done ++ e ∷ [],
      all ∙ sym (append_assoc done (e ∷ []) left),
      ap members_view c.in_ok-insert.ensures.entries ∙ members_view-insert_entry l.copies.entries c.in_ok-name.name c.in_ok-clone.field-0 ∙ rw (named, c.in_ok-clone.ensures.cases, l.invariant.2) last,
    )

pub loop-key-preserved : goal.loop-key-preserved
loop-key-preserved c =
    let l = c.loop-key in
    let done = l.invariant.0 in
    let e : Entry = (c.in-Some.key.now, c.in-Some.member.now) in
    let left = c.next.new.self in
    let all : c.args.members.now.entries ≡ done ++ e ∷ left = l.invariant.1 ∙ ap (λ es. done ++ es) c.in-Some.ensures.steps in
    let own : is_own (string_bytes e.0) ≡ true = sym (ap is_own c.as_str.ensures.value) ∙ (sym c.is_own.ensures ∙ c.if-not-is_own.false) in (
      done ++ e ∷ [],
      all ∙ sym (append_assoc done (e ∷ []) left),
      l.invariant.2 ∙ sym (others_same done e own),
    )
