use Rattle.std.proofs.Common.{◌≡◌, ℕ, ◌+◌, ◌-◌, ◌≤◌, Bool, true, false, cond, nat_eq, [], length, slice_index_or, string_bytes, refl, ap, ◌∙◌, length-append, arith}
use Rattle.il_lexer.specs.WordList.{words}
use Rattle.print_leaves.specs.Page.{depth_of_line}
use Rattle.print_leaves.proofs.paper.Paper.push_word.Goals as goal
use Rattle.print_leaves.proofs.paper.Paper.push_word.Goals.{then-number-eq-OPEN_BRACE, else-number-eq-OPEN_BRACE}

brace_length : length (slice_index_or words 399 []) ≡ 1
unfolding words
brace_length = refl

depth_by : (d : ℕ) (t : Bool) → cond t (d - 1) d ≤ d
depth_by d true = omega arith
depth_by d false = omega arith

no_deeper : (d k : ℕ) → depth_of_line d k ≤ d
no_deeper d k = depth_by d (nat_eq k 400)

pub invariant_of-self-2 : goal.invariant_of-self-2
invariant_of-self-2 c =
    let longer : length (string_bytes c.push_str.new.self) ≡ length (string_bytes c.push_lead.new.text) + length c.spelling_of.result.now =
    ap length c.in_ok-push_str.ensures.bytes ∙ length-append (string_bytes c.push_lead.new.text) c.spelling_of.result.now in
    elim c.if-number-eq-OPEN_BRACE.branch [
      | then-number-eq-OPEN_BRACE w ↦
          let one : length c.spelling_of.result.now ≡ 1 =
          ap length c.spelling_of.ensures ∙ (ap (λ k. length (slice_index_or words k [])) w.if-number-eq-OPEN_BRACE.true ∙ brace_length) in
          rw w.self-inside-is (omega (arith, c.self.invariant, c.in_ok-push_lead.ensures.grows))
      | else-number-eq-OPEN_BRACE w ↦
          let less : c.depth_of_line-depth.result ≤ c.self.inside.depth = rw c.depth_of_line-depth.ensures (no_deeper c.self.inside.depth c.args.number) in
          rw w.self-inside-is (omega (arith, c.self.invariant, c.in_ok-push_lead.ensures.grows))
    ]
