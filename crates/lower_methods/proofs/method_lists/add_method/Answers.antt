use Rattle.std.proofs.Common.{◌≡◌, ◌++◌, [], ◌∷◌, length, map, append-nil, ap, sym, ◌∙◌, arith}
use Rattle.std.specs.Prelude.{true, false, Bool, if◌then◌else◌}
use Rattle.std.proofs.lemmas.Result.{IfOk-weaker}
use Rattle.ilasm_grammar.specs.declared.productions.TheConstants.{METHOD}
use Rattle.source_model.specs.Forest.{preorder, the}
use Rattle.source_model.specs.Members.{is_method_part, method, methods}
use Rattle.source_syntax.proofs.SizeLemmas.{the_smaller}
use Rattle.lower_methods.proofs.MethodLemmas.{picked_one}
use Rattle.lower_methods.proofs.WholeLemmas.{part_sound}
use Rattle.lower_methods.proofs.method_lists.add_method.Goals as goal

pub push_method-requires-clause-few : goal.push_method-requires-clause-few
push_method-requires-clause-few c =
    let f = c.requires.forest in
    let below : length c.the.result.now ≡ length (preorder (the METHOD f.0)) = ap length (c.the.ensures f.0 f.1) in
    omega (arith, below, the_smaller METHOD f.0, ap length f.1, c.requires.few)

pub returns-then-is_method : goal.returns-then-is_method
returns-then-is_method c s a x p e below whole =
    let is : is_method_part p ≡ true = sym (c.is_method.ensures p e) ∙ c.if-is_method.true in
    let h = part_sound s p whole is in
    IfOk-weaker c.push_method.result _ (λ _. c.push_method.new.all ≡ c.args.all.now ++ methods s a (p ∷ []))
    (λ _ pushed. pushed ∙ ap (λ o. c.args.all.now ++ o ∷ []) (ap (method s a) h.below) ∙ ap (λ os. c.args.all.now ++ os) (sym (picked_one s a p is)))
    (c.push_method.ensures s a h.node x (ap preorder h.below ∙ sym (c.the.ensures p.below below)) h.sound)

pub returns-else-is_method : goal.returns-else-is_method
returns-else-is_method c s a x p e below whole =
    let isnt : is_method_part p ≡ false = sym (c.is_method.ensures p e) ∙ c.if-is_method.false in
    sym (ap (λ (b : Bool). c.args.all.now ++ map (method s a) (map (λ q. the METHOD q.below) (if b then p ∷ [] else []))) isnt ∙ append-nil c.args.all.now)
