use Rattle.std.proofs.Common.{◌≡◌, true, List, ℕ, arith, sym}
use Rattle.std.specs.Str.{bytes_eq}
use Rattle.std.proofs.lemmas.Slice.Eq.{bytes_eq-Decides}
use Rattle.proxy_wire.proofs.LineLemmas.{line_joined}
use Rattle.proxy_wire.proofs.heads.line_at.Goals as goal

same : (xs ys : List ℕ) → true ≡ bytes_eq xs ys → xs ≡ ys
same xs ys e = (bytes_eq-Decides xs ys).0 (sym e)

pub returns-then-eq-2 : goal.returns-then-eq-2
returns-then-eq-2 c =
    line_joined c.args.bytes.now c.args.span c.requires.0.0 (omega (arith, c.if-span.false)) c.requires.1.0
    (same _ _ c.if-eq.ensures) (same _ _ c.if-eq-2.ensures)
