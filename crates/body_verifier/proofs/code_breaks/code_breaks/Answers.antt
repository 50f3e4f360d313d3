use Rattle.std.proofs.Common.{◌≡◌, sym, ◌∙◌, ap, subst, refl, Bool, false, List, length, Some, arith}
use Rattle.std.specs.Prelude.{◌↔◌, IsTrue, slice_get}
use Rattle.std.proofs.lemmas.List.{get_or_read, length-map}
use Rattle.std.proofs.lemmas.Option.{slice_get_read}
use Rattle.type_terms.specs.declared.term.SigType.{SigType}
use Rattle.assembly_tree.specs.declared.body.Ins.{Ins}
use Rattle.sig_pool.specs.Terms.{term_of}
use Rattle.code_flow.specs.Marks.{HaveMarks, IsPast}
use Rattle.body_verifier.specs.Verdicts.{TryBegins}
use Rattle.body_verifier.proofs.VerdictLemmas.{unfit_exact}
use Rattle.body_verifier.proofs.code_breaks.code_breaks.Goals as goal

pub returns : goal.returns
returns c = λ f b types.
    let code = c.args.code.now in
    let k = c.args.k in
    let ins = c.index-code-k.result in
    let ns = c.args.w.now.nodes in
    let there : slice_get code k ≡ Some ins = slice_get_read code (length code) k ins refl c.requires.k c.index-code-k.is in
    let here : slice_get f.code k ≡ Some ins = subst (λ (z : List Ins). slice_get z k ≡ Some ins) (sym b.code) there in
    let long : length f.code ≡ length code = ap (λ (z : List Ins). length z) b.code in
    let entered = subst (λ (m : List Bool). HaveMarks f m) (sym c.as_slice-entered.ensures.value) b.marks.entered in
    let past = subst (λ (z : List Ins). IsPast z k c.at-past.result.now) b.code (b.marks.pasts.each k ins c.at-past.result.now here c.at-past.ensures) in
    let tries = c.args.marks.now.tries.items in
    let mark = get_or_read tries k c.index.result.now (omega (arith, c.requires.k, c.requires.many.tries)) c.index.ensures false in
    let locals = sym (ap (λ (z : List SigType). length z) b.variables.locals.terms) ∙ length-map c.args.frame.now.locals (term_of ns) ∙ sym c.len.ensures in
    let arguments = sym (ap (λ (z : List SigType). length z) b.variables.arguments.terms) ∙ length-map c.args.frame.now.arguments (term_of ns) ∙ sym c.len-2.ensures in
    record {
      off = c.runs_off.ensures f here long;
      local = c.lacks_local.ensures f k here c.variable_number-number.ensures locals;
      argument = c.lacks_argument.ensures f k here c.variable_number-number.ensures arguments;
      member = c.in_ok-unfit_member.ensures f k b.image types here;
      inside = c.returns_inside.ensures f here b.clauses;
      branch = c.branches_across.ensures f here b.clauses;
      fall = c.falls_across.ensures f here entered b.clauses;
      enters = subst (λ (x : Bool). IsTrue x ↔ TryBegins f k) (sym mark) (b.marks.tries.are k (omega (arith, long, c.requires.k)));
      place = c.is_misplaced.ensures f here b.clauses;
      prefix = unfit_exact f k c.is_stray.result (c.is_stray.ensures f b.code entered past there);
      never = c.is_unverified.ensures f k here;
      pointer = c.points_to_reference.ensures f k b.variables here;
    }
