-- What the parser found at the front of the bytes.
use Rattle.std.specs.Prelude.{ℕ, List, length}
use Rattle.httparse.specs.declared.spans.HeaderSpan.{HeaderSpan}
use Rattle.httparse.specs.Spans.{IsRequestWithin, IsRequestOf, RequestExceeds}
use Rattle.http_wire.specs.Wire.{IsOpen, IsBad}
use Rattle.http_wire.specs.declared.front.Front.{Front}
use Rattle.http_wire.specs.declared.front.Front.TheVariants.{Whole, Open, Bad, Crowded}

abbrev pub IsFront : List ℕ → List HeaderSpan → Front → Type 0
IsFront bytes spans (Whole r) = IsRequestWithin bytes spans r × IsRequestOf bytes spans r
IsFront bytes spans Open = IsOpen bytes
IsFront bytes spans Bad = IsBad bytes
IsFront bytes spans Crowded = RequestExceeds (length spans) bytes
