use Rattle.std.proofs.Common.{◌≡◌, ◌++◌, string_bytes}
use Rattle.print_leaves.specs.Page.{line_begin}
use Rattle.print_leaves.proofs.blanks.push_line.Given as goal

abbrev pub invariant-loop-level : goal.invariant-loop-level
invariant-loop-level l = string_bytes l.text ≡ string_bytes l.fn.text ++ line_begin l.ends l.level
