use Rattle.std.proofs.Common.{◌≡◌, ◌∙◌, sym, subst, ℕ, length, true≢false}
use Rattle.std.proofs.lemmas.Bool.{eqb-true, eq-eqb}
use Rattle.heaps.specs.Heap.{Heap}
use Rattle.image_tokens.specs.TypePaths.{Follows, in_declared}
use Rattle.image_tokens.proofs.PathLemmas.{follows_end, follows_in, follows_first}
use Rattle.image_tokens.proofs.type_paths.+declared_row.Goals as goal

pub returns-in_err-row-in-Some-clause-known : goal.returns-in_err-row-in-Some-clause-known
returns-in_err-row-in-Some-clause-known t c = λ end f.
    let r = follows_first c.args.strings.now c.args.rows.now in_declared c.args.outer end c.in-Some.id.now c.args.path.now c.in-Some.rest.now c.in-Some.ensures.cases.0 f in
    let k = c.declared_in.ensures.known r.0 r.1 in
    let was = c.in_err-row-in-Some.was in
    absurd (cc (k.0, was))

pub returns-then-is_empty-clause-known : goal.returns-then-is_empty-clause-known
returns-then-is_empty-clause-known t c = λ end f.
    let none : length c.in-Some.rest.now ≡ 0 = eqb-true (length c.in-Some.rest.now) 0 (sym c.is_empty.ensures ∙ c.if-is_empty.true) in
    let k = c.declared_in.ensures.known end (follows_end c.args.strings.now c.args.rows.now in_declared c.args.outer end c.in-Some.id.now c.args.path.now c.in-Some.rest.now c.in-Some.ensures.cases.0 none f) in
    (sym c.in_ok-row-in-Some.was ∙ k.0, k.1)

pub returns-else-is_empty-clause-known : goal.returns-else-is_empty-clause-known
returns-else-is_empty-clause-known t c = λ end f.
    let rest = c.in-Some.rest.now in
    let r = follows_in c.args.strings.now c.args.rows.now in_declared c.args.outer end c.in-Some.id.now c.args.path.now rest c.in-Some.ensures.cases.0
    (λ none. true≢false (sym (eq-eqb (length rest) 0 none) ∙ sym c.is_empty.ensures ∙ c.if-is_empty.false)) f in
    let k = c.declared_in.ensures.known r.0 r.1 in
    let was = c.in_ok-row-in-Some.was in
    let same : r.0 ≡ c.in_ok-row-in-Some.row = cc (k.0, was) in
    let back : Follows c.declared_in.new.strings c.args.rows.now in_declared c.in_ok-row-in-Some.row rest end =
    subst (λ (x : ℕ). Follows c.declared_in.new.strings c.args.rows.now in_declared x rest end) same
    (subst (λ (s : Heap). Follows s c.args.rows.now in_declared r.0 rest end) (sym k.1) r.2) in
    let n = c.declared_row.ensures.known end back in
    (n.0, n.1 ∙ k.1)
