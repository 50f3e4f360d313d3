use Rattle.std.proofs.Common.{ℕ, ◌≡◌, ◌+◌, ◌-◌, ◌≤◌, length, drop, Ok, sym, ap, subst, ◌∙◌, arith}
use Rattle.il_lexer.specs.Tokens.{token_at}
use Rattle.il_lexer.specs.declared.types.Span.{Span}
use Rattle.il_lexer.specs.Lexing.{placed, after_gap, token_of}
use Rattle.il_lexer.proofs.LexLemmas.{nothing-yet, scanned-push, depth-small}
use Rattle.il_lexer.proofs.scan.scan.Goals as goal

pub loop-spans-init : goal.loop-spans-init
loop-spans-init c =
    nothing-yet c.args.source.now c.in_ok-spans.spans c.mark_length-at.result
    c.in_ok-spans.ensures c.mark_length-at.ensures.value c.mark_length-at.ensures.fits

pub depth_within-requires : goal.depth_within-requires
depth_within-requires c = depth-small c.loop-spans.invariant

pub loop-spans-preserved : goal.loop-spans-preserved
loop-spans-preserved c =
    let source = c.args.source.now in
    let l = c.in-Ok.found in
    let start : c.past_gap-start.result ≡ after_gap source c.loop-spans.at = c.past_gap-start.ensures.value in
    let span : Span = record { kind = l.kind; start = c.past_gap-start.result; end = c.past_gap-start.result + l.length } in
    let is : placed source span ≡ token_of source (after_gap source c.loop-spans.at) l = ap (λ (n : ℕ). token_of source n l) start in
    let found : token_at (drop (after_gap source c.loop-spans.at) source) ≡ Ok l =
    ap (λ (n : ℕ). token_at (drop n source)) (sym start) ∙ ap token_at (sym c.behind.ensures.value) ∙ sym c.in-Ok.ensures.value in
    let within : l.length ≤ length source - c.past_gap-start.result = subst (λ n. l.length ≤ n) c.behind.ensures.len c.in-Ok.ensures.fits.1 in
    scanned-push source _ _ c.loop-spans.at c.loop-spans.depth _ span c.loop-spans.invariant l found
    is (omega arith) (omega arith) c.in-Some.ensures.0 c.in-Some.ensures.1 c.in_ok-push_long.ensures.ok
