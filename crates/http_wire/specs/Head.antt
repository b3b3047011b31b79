-- A request's head as a value.
use Rattle.std.specs.Prelude.{ℕ, List, map, take}
use Rattle.httparse.specs.declared.spans.HeaderSpan.{HeaderSpan}
use Rattle.httparse.specs.declared.spans.RequestSpans.{RequestSpans}
use Rattle.httparse.specs.Grammar.{Field, RequestHead, field_value}
use Rattle.httparse.specs.Spans.{span_bytes}
use Rattle.http_wire.specs.declared.head.Header.{Header}
use Rattle.http_wire.specs.declared.head.Head.{Head}

-- a header line's name, and its value without the blanks around it
abbrev pub header_of : Field → Header
header_of field = record { name = field.name; value = field_value field }

-- a head of the grammar as a value
abbrev pub head_of : RequestHead → Head
head_of h = record {
  method = h.method;
  target = h.target;
  minor = h.minor;
  headers = map header_of h.fields;
}

-- the header that a header's spans cover
abbrev pub header_at : List ℕ → HeaderSpan → Header
header_at bytes span = record { name = span_bytes bytes span.name; value = span_bytes bytes span.value }

-- the head that the spans cover
abbrev pub head_at : List ℕ → List HeaderSpan → RequestSpans → Head
head_at bytes spans r = record {
  method = span_bytes bytes r.method;
  target = span_bytes bytes r.path;
  minor = r.version;
  headers = map (header_at bytes) (take r.headers spans);
}
