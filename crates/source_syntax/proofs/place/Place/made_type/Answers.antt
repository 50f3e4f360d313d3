use Rattle.std.proofs.Common.{◌≡◌, ◌<◌, ◌^◌, ap, sym, subst, ◌∙◌, arith, length, false, true}
use Rattle.std.proofs.lemmas.Result.{IfOk-weaker}
use Rattle.type_terms.specs.declared.term.SigType.{SigType, Var, MVar}
use Rattle.ilasm_grammar.specs.declared.productions.TheConstants.{TYPE_BASE_DOUBLE_BANG}
use Rattle.source_model.specs.Types.{named_type, variable_number}
use Rattle.source_syntax.specs.BaseTypes.{made_type}
use Rattle.source_syntax.specs.Places.{IsSound}
use Rattle.source_syntax.proofs.TypeWalks.{has_bodies}
use Rattle.source_syntax.proofs.VariableLemmas.{base_is, class_has_index, method_has_index}
use Rattle.source_syntax.proofs.place.Place.made_type.Goals as goal

pub returns-in_ok-name-in-64 : goal.returns-in_ok-name-in-64
returns-in_ok-name-in-64 c s a x f e head low sound each =
    let made : named_type false c.in_ok-name-in-64.name c.args.args ≡ made_type s a c.args.production f c.args.args =
    ap (λ n. named_type false n c.args.args) (c.in_ok-name-in-64.ensures s a x f e (has_bodies s f each))
    ∙ ap (λ p. made_type s a p f c.args.args) (sym c.in-64.is) in
    IfOk-weaker c.named_type.result (λ (of : SigType). of ≡ named_type false c.in_ok-name-in-64.name c.args.args)
    (λ (of : SigType). of ≡ made_type s a c.args.production f c.args.args) (λ of is. is ∙ made) c.named_type.ensures

pub returns-in_ok-name-in-65 : goal.returns-in_ok-name-in-65
returns-in_ok-name-in-65 c s a x f e head low sound each =
    let made : named_type true c.in_ok-name-in-65.name c.args.args ≡ made_type s a c.args.production f c.args.args =
    ap (λ n. named_type true n c.args.args) (c.in_ok-name-in-65.ensures s a x f e (has_bodies s f each))
    ∙ ap (λ p. made_type s a p f c.args.args) (sym c.in-65.is) in
    IfOk-weaker c.named_type-in-65.result (λ (of : SigType). of ≡ named_type true c.in_ok-name-in-65.name c.args.args)
    (λ (of : SigType). of ≡ made_type s a c.args.production f c.args.args) (λ of is. is ∙ made) c.named_type-in-65.ensures

pub returns-in_ok-number-in-66 : goal.returns-in_ok-number-in-66
returns-in_ok-number-in-66 c s a x f e head low sound each =
    let few = subst (λ ns. length ns < 2 ^ 32) (sym x.class) x.few-class in
    let index = class_has_index s f (subst (λ p. IsSound s p f) c.in-66.is sound) each in
    ap (λ n. Var n) (c.in_ok-number-in-66.ensures s x.reads few f e index ∙ ap (λ ns. variable_number s ns f) x.class)
    ∙ ap (λ p. made_type s a p f c.args.args) (sym c.in-66.is)

pub returns-in_ok-number-in_default : goal.returns-in_ok-number-in_default
returns-in_ok-number-in_default c s a x f e head low sound each =
    let few = subst (λ ns. length ns < 2 ^ 32) (sym x.method) x.few-method in
    let w = base_is c.args.production head in
    let from = low w.0 in
    let is : c.args.production ≡ TYPE_BASE_DOUBLE_BANG = omega (arith, w.1, from, c.in_default) in
    let index = method_has_index s c.args.production f is sound each in
    ap (λ n. MVar n) (c.in_ok-number-in_default.ensures s x.reads few f e index ∙ ap (λ ns. variable_number s ns f) x.method)
    ∙ ap (λ p. made_type s a p f c.args.args) (sym is)
