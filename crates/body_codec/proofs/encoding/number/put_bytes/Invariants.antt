use Rattle.std.proofs.Common.{◌≡◌, ◌≤◌, ◌+◌, ◌<◌, ℕ, length, get_or}
use Rattle.body_codec.proofs.encoding.number.put_bytes.Given as goal

abbrev pub invariant-loop-i : goal.invariant-loop-i
invariant-loop-i l = record {
  count : length l.out ≡ length l.initial.out;
  put : (j : ℕ) → j < l.i → get_or l.out (l.place + j) 0 ≡ get_or l.bytes j 0;
  front : (q : ℕ) → q < l.place → get_or l.out q 0 ≡ get_or l.initial.out q 0;
  back : (q : ℕ) → l.place + l.i ≤ q → get_or l.out q 0 ≡ get_or l.initial.out q 0;
}
