use Rattle.std.proofs.Common.{◌≡◌, ◌++◌, ◌∷◌, [], ap, sym, subst, ◌∙◌, arith}
use Rattle.std.specs.Prelude.{IfOk}
use Rattle.il_lexer.specs.declared.types.TokenKind.TheVariants.{Name}
use Rattle.assembly_tree.specs.declared.body.Operand.TheVariants as operand
use Rattle.ilasm_grammar.specs.declared.productions.TheConstants.{INSTRUCTION_LDSTR, INSTRUCTION_OP_BRANCH, INSTRUCTION_SWITCH}
use Rattle.source_model.specs.Instructions.{label_number}
use Rattle.source_nodes.specs.Derived.{FitsBody}
use Rattle.source_nodes.specs.Readers.{IsOf}
use Rattle.source_syntax.proofs.LabelTokens.{targets_are_names}
use Rattle.source_flags.proofs.Gathered.{has_bodies}
use Rattle.lower_bodies.specs.Operands.{instruction_with}
use Rattle.lower_bodies.proofs.FormLemmas.{is_other_at, is_other_else, other_form}
use Rattle.lower_bodies.proofs.References.{branch_named}
use Rattle.lower_bodies.proofs.operands.push_other.Goals as goal

pub returns-in_ok-number-in-318 : goal.returns-in_ok-number-in-318
returns-in_ok-number-in-318 c s a f p x made e h =
    let form = sym c.in-318.is ∙ made in
    let fits = subst (λ q. FitsBody s q p.below) (sym form) h.own.fits in
    let token = c.leaf_at.ensures p.below e in
    let name : IsOf s Name c.leaf_at.result = subst (IsOf s Name) (sym token) (branch_named s p.below fits) in
    subst (λ v. IfOk c.push_target.result (λ _. c.push_target.new.all ≡ c.args.all.now ++ instruction_with c.args.op v ∷ []))
    (ap (λ n. operand.Target n) (c.in_ok-number-in-318.ensures s f x.code name ∙ ap (label_number s f) token)
    ∙ is_other_at s a f p INSTRUCTION_OP_BRANCH form)
    c.push_target.ensures

pub returns-in_ok-numbers-in-322 : goal.returns-in_ok-numbers-in-322
returns-in_ok-numbers-in-322 c s a f p x made e h =
    let form = sym c.in-322.is ∙ made in
    subst (λ v. IfOk c.push_targets.result (λ _. c.push_targets.new.all ≡ c.args.all.now ++ instruction_with c.args.op v ∷ []))
    (ap (λ ns. operand.Targets ns) (c.in_ok-numbers-in-322.ensures s f p x.code (sym made) e (targets_are_names s p h.own.fits (has_bodies s p.below h.each)))
    ∙ is_other_at s a f p INSTRUCTION_SWITCH form)
    c.push_targets.ensures

pub returns-in_ok-units-in-323 : goal.returns-in_ok-units-in-323
returns-in_ok-units-in-323 c s a f p x made e h =
    let form = sym c.in-323.is ∙ made in
    let fits = subst (λ q. FitsBody s q p.below) (sym form) h.own.fits in
    subst (λ v. IfOk c.push_text.result (λ _. c.push_text.new.all ≡ c.args.all.now ++ instruction_with c.args.op v ∷ []))
    (ap (λ us. operand.Text us) (c.in_ok-units-in-323.ensures s p.below x.at.reads fits (has_bodies s p.below h.each) e)
    ∙ is_other_at s a f p INSTRUCTION_LDSTR form)
    c.push_text.ensures

pub returns-in_default : goal.returns-in_default
returns-in_default c s a f p x made e h =
    let no_branch : c.args.production ≡ INSTRUCTION_OP_BRANCH → ⊥ = λ is. omega (arith, is) in
    let no_switch : c.args.production ≡ INSTRUCTION_SWITCH → ⊥ = λ is. omega (arith, is) in
    let no_string : c.args.production ≡ INSTRUCTION_LDSTR → ⊥ = λ is. omega (arith, is) in
    subst (λ v. IfOk c.push_reference.result (λ _. c.push_reference.new.all ≡ c.args.all.now ++ instruction_with c.args.op v ∷ []))
    (is_other_else s a f p (other_form INSTRUCTION_OP_BRANCH made no_branch) (other_form INSTRUCTION_SWITCH made no_switch) (other_form INSTRUCTION_LDSTR made no_string))
    (c.push_reference.ensures s a p x.at made e h.own h.each)
