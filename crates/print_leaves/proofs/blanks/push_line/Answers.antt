use Rattle.std.proofs.Common.{◌++◌, [], ◌∷◌, ap, sym, ◌∙◌, append_assoc, string_bytes}
use Rattle.print_leaves.specs.Page.{line_begin}
use Rattle.print_leaves.proofs.LineBegins.{line_more}
use Rattle.print_leaves.proofs.blanks.push_line.Goals as goal

pub loop-level-preserved : goal.loop-level-preserved
loop-level-preserved c =
    c.in_ok-push_str.ensures.bytes
    ∙ (ap (λ b. b ++ 32 ∷ 32 ∷ []) c.loop-level.invariant
    ∙ (append_assoc (string_bytes c.args.text.now) (line_begin c.args.ends c.loop-level.level) (32 ∷ 32 ∷ [])
    ∙ ap (λ b. string_bytes c.args.text.now ++ b) (sym (line_more c.args.ends c.loop-level.level))))
