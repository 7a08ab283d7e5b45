use Rattle.std.proofs.Common.{◌≡◌, ◌+◌, ◌*◌, length, take}
use Rattle.records.proofs.Pairs.{IsReadTo}
use Rattle.records.proofs.written.eight_bytes.Given as goal

abbrev pub invariant-loop-place : goal.invariant-loop-place
invariant-loop-place l = record {
  pairs : 2 * l.place-index + length l.left ≡ length l.digits;
  read : IsReadTo l.digits (take l.place-index l.place-items) l.left;
}
