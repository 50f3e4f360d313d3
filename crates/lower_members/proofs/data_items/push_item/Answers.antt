use Rattle.std.proofs.Common.{◌≡◌, ◌++◌, ◌∷◌, [], append-nil, ap, sym, ◌∙◌}
use Rattle.std.proofs.lemmas.Result.{IfOk-weaker}
use Rattle.source_model.specs.Data.{item_bytes}
use Rattle.lower_members.specs.Runs.{bytes_of_runs}
use Rattle.lower_members.proofs.RunLemmas.{run_pushed}
use Rattle.lower_members.proofs.data_items.push_item.Goals as goal

pub returns-then-is_empty : goal.returns-then-is_empty
returns-then-is_empty c s p r made below h =
    sym (append-nil (bytes_of_runs c.args.runs.now))
    ∙ ap (λ l. bytes_of_runs c.args.runs.now ++ l) (sym (c.is_empty.ensures c.if-is_empty.true) ∙ c.in_ok-run.ensures s p r made below h)

pub returns : goal.returns
returns c s p r made below h =
    let old = c.args.runs.now in
    IfOk-weaker c.push.result (λ _. c.push.new.self ≡ old ++ c.in_ok-run.run' ∷ []) (λ _. bytes_of_runs c.push.new.self ≡ bytes_of_runs old ++ item_bytes s p)
    (λ _ same. ap bytes_of_runs same ∙ run_pushed old c.in_ok-run.run' ∙ ap (λ l. bytes_of_runs old ++ l) (c.in_ok-run.ensures s p r made below h))
    c.push.ensures.ok
