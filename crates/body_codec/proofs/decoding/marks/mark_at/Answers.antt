use Rattle.std.proofs.Common.{refl, sym, ap, ◌∙◌, inl, take, drop, ◌+◌, ◌≡◌, length, List, ℕ, ◌++◌}
use Rattle.std.proofs.lemmas.List.{drop-drop, take_rest}
use Rattle.body_codec.specs.Instruction.{operand_size, kind}
use Rattle.body_codec.proofs.Pieces.{none_where_cut}
use Rattle.body_codec.proofs.Marks.{marked}
use Rattle.body_codec.proofs.decoding.marks.mark_at.Goals as goal

pub returns-in_default-operand_length-clause-fault :
    goal.returns-in_default-operand_length-clause-fault
returns-in_default-operand_length-clause-fault c =
    let code = c.args.code.now in
    let after = drop c.in-Some.size (drop c.args.at code) in
    let none : (tail more : List ℕ) → after ≡ tail ++ more → length tail ≡ operand_size (kind c.in-Some.op) tail → ⊥ = λ tail more f g.
    c.in_default-operand_length.ensures.none tail more (take_rest code (c.args.at + c.in-Some.size) ∙ (sym (drop-drop c.in-Some.size c.args.at code) ∙ f)) (g ∙ ap (λ k. operand_size k tail) (sym c.kind.ensures)) in
    let found = simp take_rest at c.in-Some.ensures.found in
    (refl, none_where_cut c.in-Some.op (drop c.args.at code) after found none, inl (c.in-Some.op, after, found))

pub returns-clause-found : goal.returns-clause-found
returns-clause-found c =
    let code = c.args.code.now in
    let n = c.in-Some-operand_length.length in
    marked code c.in-Some.op c.args.at c.in-Some.size n c.requires.within (simp take_rest at c.in-Some.ensures.found) (simp take_rest at c.in-Some.ensures.inside)
    (simp take_rest at c.in-Some-operand_length.ensures.inside) (simp take_rest at c.in-Some-operand_length.ensures.found ∙ ap (λ k. operand_size k (take n (drop (c.args.at + c.in-Some.size) code))) c.kind.ensures)
