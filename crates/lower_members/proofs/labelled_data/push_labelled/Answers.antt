use Rattle.std.proofs.Common.{◌≡◌, [], ◌∷◌, ◌++◌, append-nil, ap, sym, ◌∙◌}
use Rattle.std.specs.Prelude.{Bool, false, true, if◌then◌else◌}
use Rattle.std.proofs.lemmas.List.{map-append}
use Rattle.std.proofs.lemmas.Result.{IfOk-weaker}
use Rattle.ilasm_grammar.specs.declared.productions.TheConstants.{DATA_LABEL}
use Rattle.source_model.specs.Data.{data_bytes}
use Rattle.source_model.specs.Forest.{has}
use Rattle.lower_members.specs.Runs.{bytes_of_each, bytes_of_runs}
use Rattle.lower_members.proofs.labelled_data.push_labelled.Goals as goal

pub returns-then-not-has : goal.returns-then-not-has
returns-then-not-has c s f r e h =
    let none : has DATA_LABEL f ≡ false = sym (c.has.ensures f e) ∙ c.if-not-has.true in
    sym (append-nil (bytes_of_each c.args.contents.now)) ∙ ap (λ (b : Bool). bytes_of_each c.args.contents.now ++ (if b then data_bytes s f ∷ [] else [])) (sym none)

pub returns : goal.returns
returns c s f r e h =
    let some : has DATA_LABEL f ≡ true = sym (c.has.ensures f e) ∙ c.if-not-has.false in
    let old = c.args.contents.now in
    IfOk-weaker c.push.result (λ _. c.push.new.self ≡ old ++ c.in_ok-runs.runs ∷ [])
    (λ _. bytes_of_each c.push.new.self ≡ bytes_of_each old ++ (if has DATA_LABEL f then data_bytes s f ∷ [] else []))
    (λ _ same. ap bytes_of_each same ∙ map-append bytes_of_runs old (c.in_ok-runs.runs ∷ [])
    ∙ ap (λ bytes. bytes_of_each old ++ bytes ∷ []) (c.in_ok-runs.ensures s f r e h)
    ∙ ap (λ (b : Bool). bytes_of_each old ++ (if b then data_bytes s f ∷ [] else [])) (sym some))
    c.push.ensures.ok
