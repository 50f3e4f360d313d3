use Rattle.std.proofs.Common.{◌≡◌, List, sym, ◌∙◌}
use Rattle.std.specs.Prelude.{ℕ, drop, take, ◌-◌}
use Rattle.source_model.specs.Nodes.{id_of_texts}
use Rattle.source_model.specs.Values.{part_texts}
use Rattle.source_nodes.specs.NameTexts.{IsTextOf, id_with}
use Rattle.source_nodes.proofs.PlainNames.{plain_text}
use Rattle.source_nodes.proofs.values.type_names.plain_id.Goals as goal

both_are : (parts : List (List ℕ)) (text space name : List ℕ) (last : ℕ) → IsTextOf parts text last → space ≡ take (last - 1) text → name ≡ drop last text
    → id_with space name ≡ id_of_texts parts
both_are parts text space name last is s n =
    let one = s ∙ is.space in
    let other = n ∙ is.name in
    λ k. record { space = one k; name = other k }

pub returns-in-Some : goal.returns-in-Some
returns-in-Some c = λ n.
    both_are (part_texts c.args.spelling.now) c.args.spelling.now c.space_in.result.now c.last_in.result.now c.in-Some.last
    (plain_text c.args.spelling.now c.in-Some.last (sym c.plain_last.ensures ∙ c.in-Some.is) n) c.space_in.ensures c.last_in.ensures
