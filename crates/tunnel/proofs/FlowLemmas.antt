-- How the turns of one direction follow one another.
use Rattle.std.proofs.Common.{◌≡◌, ℕ, ◌+◌, ◌-◌, ◌<◌, ◌≤◌, List, [], ◌++◌, length, take, drop, Option, Some, sym, ap, ◌∙◌, subst, append_assoc, arith, length-append}
use Rattle.std.proofs.lemmas.List.{append-nil, take-append-le, take-take, length-take-le}
use Rattle.std.proofs.Math.Seq.{take-add, take-length, take-append-add}
use Rattle.hub_devices.specs.Streams.{Takes, Appends}
use Rattle.hub_devices.proofs.StreamLemmas.{Takes_none, Takes_then, Appends_then}
use Rattle.tunnel.specs.declared.ends.Pump.{Pump}
use Rattle.tunnel.specs.declared.ends.PumpEnd.{PumpEnd}
use Rattle.tunnel.specs.declared.ends.PumpEnd.TheVariants.{Ended, Budget, ReadFault, WriteFault}
use Rattle.tunnel.specs.Pumped.{relayed, StoppedAt, Pumped, PumpedOver, EndsOver}

-- n bytes were passed on so far: as many as the budget says, or all that came
pub record Flowed (left held left' held' : Option (List ℕ)) (first : List ℕ) (most n : ℕ) : Type 0 where
  pub given : List ℕ
  pub takes : Takes left given left'
  pub appends : Appends held (relayed first given n) held'
  pub within : n ≤ length (first ++ given)
  pub spare : length given ≤ most - length first
  pub whole : n < most → n ≡ length (first ++ given)
  pub fits : n ≤ most

-- a part that was written, and then the next
pub Appends_part : (a b c : Option (List ℕ)) (bytes : List ℕ) (at n : ℕ) → Appends a (take at bytes) b
    → Appends b (take n (drop at bytes)) c → Appends a (take (at + n) bytes) c
Appends_part a b c bytes at n first second =
    subst (λ (part : List ℕ). Appends a part c) (sym (take-add at n bytes))
    (Appends_then a b c (take at bytes) (take n (drop at bytes)) first second)

-- where all was passed on, the next bytes stand behind
relayed_more : (first given got : List ℕ) (n k : ℕ) → n ≡ length (first ++ given)
    → relayed first given n ++ take k got ≡ relayed first (given ++ got) (n + k)
relayed_more first given got n k whole =
    let xs = first ++ given in
    let here : take (length xs) xs ++ take k got ≡ take (length xs + k) (first ++ (given ++ got)) =
    ap (λ (front : List ℕ). front ++ take k got) (take-length xs)
    ∙ (sym (take-append-add xs got k) ∙ ap (λ (all : List ℕ). take (length xs + k) all) (append_assoc first given got)) in
    subst (λ (m : ℕ). take m xs ++ take k got ≡ take (m + k) (first ++ (given ++ got))) (sym whole) here

-- the bytes given first can't all be written
pub cut_at_first : (left held held' : Option (List ℕ)) (first : List ℕ) (most m k : ℕ) → m ≤ length first → m ≤ most → k < length (take m first)
    → Appends held (take k (take m first)) held'
    → Pumped left held left held' first most (record { bytes = k; end = WriteFault })
cut_at_first left held held' first most m k inside fits part adds =
    let size = length-take-le m first inside in record {
      given = [];
      takes = Takes_none left;
      appends =
          subst (λ (bytes : List ℕ). Appends held bytes held')
          (take-take k m first (omega (arith, part, size)) ∙ ap (λ (all : List ℕ). take k all) (sym (append-nil first))) adds;
      within = omega (arith, part, size, inside, ap length (append-nil first));
      spare = omega arith;
      stopped = (omega (arith, part, size, inside, ap length (append-nil first)), omega (arith, part, size, fits));
    }

-- more came, and some of it was written
pub flowed_more : (left held left' held' left'' held'' : Option (List ℕ)) (first got : List ℕ) (most n : ℕ)
    → Flowed left held left' held' first most n → n < most → length got ≤ most - n → Takes left' got left''
    → Appends held' got held'' → Flowed left held left'' held'' first most (n + length got)
flowed_more left held left' held' left'' held'' first got most n so below room took adds =
    let whole = so.whole below in
    let size : length (first ++ (so.given ++ got)) ≡ n + length got =
    ap length (sym (append_assoc first so.given got)) ∙ (length-append (first ++ so.given) got ∙ ap (λ (m : ℕ). m + length got) (sym whole)) in
    let parts : n ≡ length first + length so.given = whole ∙ length-append first so.given in record {
      given = so.given ++ got;
      takes = Takes_then left left' left'' so.given got so.takes took;
      appends =
          subst (λ (bytes : List ℕ). Appends held bytes held'')
          (ap (λ (rest : List ℕ). relayed first so.given n ++ rest) (sym (take-length got)) ∙ relayed_more first so.given got n (length got) whole)
          (Appends_then held held' held'' (relayed first so.given n) got so.appends adds);
      within = omega (arith, size);
      spare = omega (arith, parts, room, below, length-append so.given got);
      whole = λ less. sym size;
      fits = omega (arith, room, below);
    }

-- more came, and not all of it could be written
pub cut_later : (left held left' held' left'' held'' : Option (List ℕ)) (first got : List ℕ) (most n k : ℕ)
    → Flowed left held left' held' first most n → n < most → length got ≤ most - n → Takes left' got left'' → k < length got
    → Appends held' (take k got) held''
    → Pumped left held left'' held'' first most (record { bytes = n + k; end = WriteFault })
cut_later left held left' held' left'' held'' first got most n k so below room took part adds =
    let whole = so.whole below in
    let size : length (first ++ (so.given ++ got)) ≡ n + length got =
    ap length (sym (append_assoc first so.given got)) ∙ (length-append (first ++ so.given) got ∙ ap (λ (m : ℕ). m + length got) (sym whole)) in
    let parts : n ≡ length first + length so.given = whole ∙ length-append first so.given in record {
      given = so.given ++ got;
      takes = Takes_then left left' left'' so.given got so.takes took;
      appends =
          subst (λ (bytes : List ℕ). Appends held bytes held'') (relayed_more first so.given got n k whole)
          (Appends_then held held' held'' (relayed first so.given n) (take k got) so.appends adds);
      within = omega (arith, size, part);
      spare = omega (arith, parts, room, below, length-append so.given got);
      stopped = (omega (arith, size, part), omega (arith, part, room, below));
    }

-- what was given begins what a source had that tells its bytes
ends_over : (left' : Option (List ℕ)) (first given rest : List ℕ) (most n : ℕ) (end : PumpEnd) → left' ≡ Some rest → n ≤ length (first ++ given)
    → StoppedAt end left' (length (first ++ given)) most n → EndsOver end (length (first ++ (given ++ rest))) most n
ends_over left' first given rest most n Ended told within s =
    let none : rest ≡ [] = s.0.none rest told in
    (s.1 ∙ ap (λ (all : List ℕ). length (first ++ all)) (sym (append-nil given) ∙ ap (λ (more : List ℕ). given ++ more) (sym none)), s.2)
ends_over left' first given rest most n Budget told within s =
    (s, omega (arith, s, within, length-append (first ++ given) rest, ap length (append_assoc first given rest)))
ends_over left' first given rest most n ReadFault told within s =
    (omega (arith, within, length-append (first ++ given) rest, ap length (append_assoc first given rest)), s.1)
ends_over left' first given rest most n WriteFault told within s =
    (omega (arith, s.0, length-append (first ++ given) rest, ap length (append_assoc first given rest)), s.1)

pub pumped_over : (left held left' held' : Option (List ℕ)) (first : List ℕ) (most : ℕ) (p : Pump)
    → Pumped left held left' held' first most p → PumpedOver left held held' first most p
pumped_over left held left' held' first most p done = record {
  over = λ bytes told.
      let rest = done.takes.leaves bytes told in
      let same : relayed first done.given p.bytes ≡ relayed first bytes p.bytes =
      sym (take-append-le p.bytes (first ++ done.given) rest.0 done.within)
      ∙ ap (λ (all : List ℕ). take p.bytes all) (append_assoc first done.given rest.0 ∙ ap (λ (all : List ℕ). first ++ all) (sym rest.1)) in (
        subst (λ (out : List ℕ). Appends held out held') same done.appends,
        subst (λ (all : List ℕ). EndsOver p.end (length (first ++ all)) most p.bytes) (sym rest.1)
            (ends_over left' first done.given rest.0 most p.bytes p.end rest.2 done.within done.stopped),
      );
}
