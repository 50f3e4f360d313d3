use Rattle.std.proofs.Common.{◌≡◌, ◌∙◌, ap, sym, ◌+◌, ◌∷◌, drop, drop_of_length-le, arith}
use Rattle.std.proofs.lemmas.List.{drop_more}
use Rattle.image_tokens.specs.NamesWeight.{clause_names}
use Rattle.assembly_tree.specs.declared.body.Clause.{Clause}
use Rattle.image_tokens.specs.BodyTokens.{HasClauseToken}
use Rattle.image_tokens.specs.Writable.{IsClauseWritable}
use Rattle.image_tokens.proofs.BodyLemmas.{clause_can, clause_has, clause_fits}
use Rattle.image_tokens.proofs.StepLemmas.{done_begin, done_can, done_fits, done_on, done_end}
use Rattle.image_tokens.proofs.body_tokens.note_clauses.Goals as goal

pub loop-clause-init : goal.loop-clause-init
loop-clause-init c = done_begin clause_names IsClauseWritable HasClauseToken c.args.refs.now c.args.clauses.now c.requires.known c.requires.writable

pub note_handled-requires-clause-known : goal.note_handled-requires-clause-known
note_handled-requires-clause-known c = c.loop-clause.invariant.known

pub note_handled-requires-clause-writable : goal.note_handled-requires-clause-writable
note_handled-requires-clause-writable c =
    let xs = c.args.clauses.now in
    let i = c.loop-clause.clause-index in
    let x = c.clause-item.result in
    let here : drop i xs ≡ x ∷ drop (i + 1) xs = drop_more xs i x (omega arith) ∙ ap (λ (y : Clause). y ∷ drop (i + 1) xs) (sym c.clause-item.is) in
    done_can clause_names IsClauseWritable HasClauseToken c.args.refs.now c.loop-clause.refs xs (drop i xs) (drop (i + 1) xs) x here c.loop-clause.invariant

pub note_handled-requires-clause-room : goal.note_handled-requires-clause-room
note_handled-requires-clause-room c =
    let xs = c.args.clauses.now in
    let i = c.loop-clause.clause-index in
    let x = c.clause-item.result in
    let here : drop i xs ≡ x ∷ drop (i + 1) xs = drop_more xs i x (omega arith) ∙ ap (λ (y : Clause). y ∷ drop (i + 1) xs) (sym c.clause-item.is) in
    let fits = done_fits clause_names IsClauseWritable HasClauseToken c.args.refs.now c.loop-clause.refs xs (drop i xs) (drop (i + 1) xs) x here c.requires.room c.loop-clause.invariant in
    let less = clause_fits x in
    omega arith

pub loop-clause-preserved : goal.loop-clause-preserved
loop-clause-preserved c =
    let xs = c.args.clauses.now in
    let i = c.loop-clause.clause-index in
    let x = c.clause-item.result in
    let here : drop i xs ≡ x ∷ drop (i + 1) xs = drop_more xs i x (omega arith) ∙ ap (λ (y : Clause). y ∷ drop (i + 1) xs) (sym c.clause-item.is) in
    done_on clause_names IsClauseWritable HasClauseToken clause_can clause_has c.args.refs.now c.loop-clause.refs c.note_handled.new.refs xs (drop i xs) (drop (i + 1) xs) x _ here
    c.loop-clause.invariant c.in_ok-note_handled.ensures (clause_fits x)

pub returns : goal.returns
returns c =
    let xs = c.args.clauses.now in
    let i = c.loop-clause.clause-index in
    done_end clause_names IsClauseWritable HasClauseToken c.args.refs.now c.loop-clause.refs xs (drop i xs) (drop_of_length-le xs {i = i} (omega arith)) c.loop-clause.invariant
