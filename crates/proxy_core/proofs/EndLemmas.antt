-- How the parts of a passage end it.
use Rattle.std.proofs.Common.{◌≡◌, ℕ, Bool, false, ◌≤◌, ◌⊎◌, List, [], ◌++◌, Option, Result, Ok, Err, refl, sym, ap, ◌∙◌, subst, inl, inr, append_assoc, arith}
use Rattle.std.specs.List.{flat_map}
use Rattle.std.proofs.lemmas.List.{append-nil}
use Rattle.httparse.specs.Grammar.{ResponseHead, print_response, status_code}
use Rattle.hub_devices.specs.Faults.{Rises}
use Rattle.hub_devices.specs.Streams.{Appends}
use Rattle.hub_devices.proofs.CallLemmas.{Rises_later}
use Rattle.http_wire.specs.declared.error.SessionFault.{SessionFault}
use Rattle.http_wire.specs.declared.error.SessionFault.TheVariants.{ReadFault, WriteFault}
use Rattle.http_wire.specs.Took.{Took}
use Rattle.upstreams.specs.Upstream.{Told, Moves}
use Rattle.upstreams.proofs.MoveLemmas.{Moves_more}
use Rattle.proxy_wire.specs.declared.framing.Framing.{Framing}
use Rattle.proxy_wire.specs.declared.framing.Framing.TheVariants.{Length, Chunked, ToEnd}
use Rattle.proxy_wire.specs.declared.replies.ReplyError.{ReplyError}
use Rattle.proxy_wire.specs.declared.replies.ReplyError.TheVariants as reply
use Rattle.proxy_wire.specs.Heads.{reply_passed}
use Rattle.proxy_wire.specs.Replies.{BeginsReply, IsNoReply, IsFinal}
use Rattle.proxy_bodies.specs.declared.sends.BodyEnd.{BodyEnd}
use Rattle.proxy_bodies.specs.declared.sends.BodyEnd.TheVariants as body
use Rattle.proxy_bodies.specs.Bodies.{IsWholeBody, IsBodyFront, StopsRequest}
use Rattle.proxy_bodies.proofs.BackLemmas.{later_end}
use Rattle.proxy_core.specs.declared.refusals.Refusal.{Refusal}
use Rattle.proxy_core.specs.declared.refusals.Refusal.TheVariants as refusal
use Rattle.proxy_core.specs.declared.refusals.Forwarded.{Forwarded}
use Rattle.proxy_core.specs.declared.refusals.Forwarded.TheVariants.{Passed, Refused, Ended, Cut}
use Rattle.proxy_core.specs.Refusals.{refusal_text, IsWritten}
use Rattle.proxy_core.specs.Passes.{Place, Going, Moved, IsSent, IsFront, WentOn, IsRefused, IsStop, IsCutBack, PassEnds, BackEnds, stop_of, refusal_of}

-- the request didn't go on whole
pub stop_sent : (q : Going) (old new : Place) (bytes given : List ℕ) (e : BodyEnd) → StopsRequest new.left new.kept q.text q.framing bytes given e
    → (e ≡ body.ReadFault → Rises old.reads new.reads) → (e ≡ body.SendFault → Rises old.links new.links) → IsStop q new.left new.kept new.told old.reads new.reads old.links new.links bytes given [] (stop_of e)
stop_sent q old new bytes given body.Cut s read send = (record { still = s.1; text = s.0; none = refl }, s.2)
stop_sent q old new bytes given body.ReadFault s read send = (record { still = s.1; text = s.0; none = refl }, read refl)
stop_sent q old new bytes given body.SendFault s read send = (record { more = s.0; front = s.1; of = s.2 }, send refl)
stop_sent q old new bytes given body.Memory s read send = inr (s.0, s.1, refl)
stop_sent q old new bytes given body.Bad s read send = (s.0, s.1, refl)

-- a whole body is a front of one
whole_front : (f : Framing) (bytes : List ℕ) → IsWholeBody f bytes → IsBodyFront f bytes
whole_front (Length n) bytes whole = omega (arith, whole)
whole_front Chunked bytes (b, is, g) = (b, [], is, sym g ∙ sym (append-nil bytes))
whole_front ToEnd bytes whole = absurd whole

-- no reply came
pub refused_reply : (q : Going) (told : Option Told) (links links' : ℕ) (kept bytes given got : List ℕ) (e : ReplyError) → IsSent q bytes given → IsNoReply q.upgrade q.method told got e
    → (e ≡ reply.Fault → Rises links links') → IsRefused q kept told links links' bytes given got (refusal_of e)
refused_reply q told links links' kept bytes given got reply.Bad sent none fault = (sent, none)
refused_reply q told links links' kept bytes given got reply.Fault sent none fault = (
  record {
    more = kept;
    front = sym (append_assoc q.text bytes kept) ∙ ap (λ (x : List ℕ). x ++ kept) (sym sent.text);
    of = inr (bytes, sent.text, whole_front q.framing bytes sent.whole);
  },
  fault refl,
)
refused_reply q told links links' kept bytes given got reply.Memory sent none fault = inl sent

-- a refusal was written
pub ends_refused : (q : Going) (old new : Place) (r : Refusal) (bytes given got : List ℕ) (result : Result Forwarded SessionFault)
    → IsWritten r old.held new.held old.writes new.writes result → Moved old new bytes given got → IsRefused q new.kept new.told old.links new.links bytes given got r → PassEnds q old new result
ends_refused q old new r bytes given got (Ok Passed) written moved refused = absurd written
ends_refused q old new r bytes given got (Ok (Refused s)) written moved refused = (r, bytes, given, got, moved, written.0, written.1, refused)
ends_refused q old new r bytes given got (Ok Ended) written moved refused = absurd written
ends_refused q old new r bytes given got (Ok Cut) written moved refused = absurd written
ends_refused q old new r bytes given got (Err (ReadFault n)) written moved refused = absurd written
ends_refused q old new r bytes given got (Err (WriteFault n)) written moved refused = (
  bytes,
  given,
  got,
  written.0,
  moved,
  written.3,
  written.4,
  record { more = written.1; of = inl (r, written.2, refused) },
  written.5,
)

-- more bytes behind the reply's head
pub begins_more : (up : Bool) (method bytes : List ℕ) (r : ResponseHead) (f : Framing) (rest more : List ℕ) → BeginsReply up method bytes r f rest → BeginsReply up method (bytes ++ more) r f (rest ++ more)
begins_more up method bytes r f rest more b = record {
  interim = b.interim;
  each = b.each;
  head = b.head;
  final = b.final;
  headers = b.headers;
  size = b.size;
  whole =
      ap (λ (x : List ℕ). x ++ more) b.whole
      ∙ (append_assoc (flat_map print_response b.interim) (print_response r ++ rest) more
      ∙ ap (λ (x : List ℕ). flat_map print_response b.interim ++ x) (append_assoc (print_response r) rest more));
  framed = b.framed;
}

moved_left : (old mid new : Place) (bytes : List ℕ) → mid.left ≡ new.left → mid.kept ≡ new.kept → Took old.left old.kept mid.left (bytes ++ mid.kept) → Took old.left old.kept new.left (bytes ++ new.kept)
moved_left old mid new bytes left kept took =
    subst (λ (l : Option (List ℕ)). Took old.left old.kept l (bytes ++ new.kept)) left
    (subst (λ (k : List ℕ). Took old.left old.kept mid.left (bytes ++ k)) kept took)

-- the reply to a request that is no upgrade doesn't switch over
pub no_switch : (s : ℕ) → IsFinal false s → s ≡ 101 → ⊥
no_switch s (inl low) is = omega (arith, is, low)
no_switch s (inr (inl high)) is = omega (arith, is, high)
no_switch s (inr (inr (at, on))) is = absurd (cc)

-- however the count rises later
went_later : (q : Going) (kept kept' body given : List ℕ) (before at after : ℕ) → kept ≡ kept' → at ≤ after → WentOn q kept body given before at
    → WentOn q kept' body given before after
went_later q kept kept' body given before at after same late (inl sent) = inl sent
went_later q kept kept' body given before at after same late (inr (front, rose)) =
    inr (subst (λ (k : List ℕ). IsFront q k body given) same front, Rises_later before at after rose late)

-- the reply was read, and then passed back
pub ends_back : (q : Going) (old mid new : Place) (bytes given got behind : List ℕ) (r : ResponseHead) (f : Framing) (result : Result Forwarded SessionFault)
    → Moved old mid bytes given got → WentOn q mid.kept bytes given old.links mid.links → BeginsReply q.upgrade q.method got r f behind → (status_code r ≡ 101 → ⊥)
    → mid.left ≡ new.left → mid.kept ≡ new.kept → mid.held ≡ old.held → mid.writes ≡ old.writes → old.links ≤ mid.links → mid.links ≤ new.links → mid.writes ≤ new.writes
    → BackEnds (reply_passed r) f behind mid.held new.held mid.told new.told mid.links new.links mid.writes new.writes result → PassEnds q old new result
ends_back q old mid new bytes given got behind r f (Ok Passed) moved sent begins settled left kept held writes early late written back = (
  bytes,
  given,
  got ++ back.1,
  reply_passed r ++ back.0,
  (moved_left old mid new bytes left kept moved.0, Moves_more _ _ _ given got back.1 moved.1 back.4),
  subst (λ (h : Option (List ℕ)). Appends h (reply_passed r ++ back.0) new.held) held back.5,
  record {
    links = mid.links;
    counted = early;
    later = late;
    went = went_later q mid.kept new.kept bytes given old.links mid.links mid.links kept (omega arith) sent;
    back = record {
      reply = r;
      framing = f;
      rest = behind ++ back.1;
      body = back.0;
      tail = back.2;
      begins = begins_more q.upgrade q.method got r f behind back.1 begins;
      settled = settled;
      split = back.3;
      text = refl;
      ends = later_end f new.told back.0 back.2 mid.links mid.links new.links old.writes mid.writes new.writes (omega arith) late (omega (arith, writes)) written back.6;
    };
  },
)
ends_back q old mid new bytes given got behind r f (Ok (Refused s)) moved sent begins settled left kept held writes early late written back = absurd back
ends_back q old mid new bytes given got behind r f (Ok Ended) moved sent begins settled left kept held writes early late written back = absurd back
ends_back q old mid new bytes given got behind r f (Ok Cut) moved sent begins settled left kept held writes early late written back = absurd back
ends_back q old mid new bytes given got behind r f (Err (ReadFault n)) moved sent begins settled left kept held writes early late written back = absurd back
ends_back q old mid new bytes given got behind r f (Err (WriteFault n)) moved sent begins settled left kept held writes early late written back = (
  bytes,
  given,
  got,
  back.0,
  (moved_left old mid new bytes left kept moved.0, subst (λ (t : Option Told). Moves old.told given got t) (sym back.2) moved.1),
  subst (λ (h : Option (List ℕ)). Appends h back.0 new.held) held back.3,
  subst (λ (w : ℕ). Rises w new.writes) writes back.4,
  record {
    more = back.1;
    of = inr (r, f, behind, begins, back.6, went_later q mid.kept new.kept bytes given old.links mid.links new.links kept late sent);
  },
  back.5,
)

-- the same of equal parts
pub ends_as : (up : Bool) (m m' t t' : List ℕ) (framing : Framing) (old : Place) (left : Option (List ℕ)) (kept : List ℕ) (held : Option (List ℕ)) (told : Option Told) (reads l l' writes : ℕ) (result : Result Forwarded SessionFault)
    → m ≡ m' → t ≡ t' → l' ≡ l
    → PassEnds (record { upgrade = up; method = m; text = t; framing = framing }) old (record { left = left; kept = kept; held = held; told = told; reads = reads; links = l; writes = writes }) result
    → PassEnds (record { upgrade = up; method = m'; text = t'; framing = framing }) old (record { left = left; kept = kept; held = held; told = told; reads = reads; links = l'; writes = writes }) result
ends_as up m m' t t' framing old left kept held told reads l l' writes result ms ts ls ends =
    subst (λ (x : List ℕ). PassEnds (record { upgrade = up; method = x; text = t'; framing = framing }) old (record { left = left; kept = kept; held = held; told = told; reads = reads; links = l'; writes = writes }) result) ms
    (subst (λ (x : List ℕ). PassEnds (record { upgrade = up; method = m; text = x; framing = framing }) old (record { left = left; kept = kept; held = held; told = told; reads = reads; links = l'; writes = writes }) result) ts
    (subst (λ (x : ℕ). PassEnds (record { upgrade = up; method = m; text = t; framing = framing }) old (record { left = left; kept = kept; held = held; told = told; reads = reads; links = x; writes = writes }) result) (sym ls) ends))

-- nothing stands before what is kept
pub took_in_front : (before after : Option (List ℕ)) (front kept bytes : List ℕ) → front ≡ [] → Took before (front ++ kept) after bytes → Took before kept after bytes
took_in_front before after front kept bytes none took = subst (λ (x : List ℕ). Took before (x ++ kept) after bytes) none took
