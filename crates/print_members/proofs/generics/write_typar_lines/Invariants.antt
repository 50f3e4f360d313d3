use Rattle.std.proofs.Common.{◌≡◌, suc, drop}
use Rattle.print_members.specs.Rows.{typars_drawn}
use Rattle.print_members.proofs.generics.write_typar_lines.Given as goal

abbrev pub invariant-loop-place : goal.invariant-loop-place
invariant-loop-place l = typars_drawn l.externs l.paper (suc l.place) (drop l.place l.generics) ≡ typars_drawn l.externs l.initial.paper 1 l.generics
