use Rattle.std.proofs.Common.{◌≡◌, ◌<◌, ℕ, sym, ◌∙◌, subst, arith}
use Rattle.ilasm_grammar.specs.Choice.{load_of}
use Rattle.ilasm_grammar.specs.Ilasm.{ilasm_sets}
use Rattle.ilasm_grammar.specs.Parsing.{IsExtended}
use Rattle.ilasm_grammar.specs.Stacked.{begin_in, pick_in, symbol_in, symbols_at, IsCellOf}
use Rattle.ilasm_grammar.proofs.PlaceLemmas.{cell_choice, cell_inner, cell_within}
use Rattle.ilasm_grammar.proofs.StepLemmas.{cell_applied, extended_more, unextended}
use Rattle.ilasm_grammar.proofs.leftmost.descend.Goals as goal
use Rattle.ilasm_grammar.proofs.leftmost.descend.Goals.{After-inner_of-inner}

-- a round of the loop
round : (c : After-inner_of-inner) →
    IsExtended c.args.terminal (symbols_at c.loop-next.next c.loop-next.behind) c.loop-next.nodes (symbols_at c.replace_first.new.next c.replace_first.new.behind) c.push_branch.new.nodes ×
    (load_of ilasm_sets (symbols_at c.replace_first.new.next c.replace_first.new.behind) < load_of ilasm_sets (symbols_at c.loop-next.next c.loop-next.behind))
round c =
    cell_applied c.args.terminal c.loop-next.cell c.loop-next.next c.loop-next.behind _ c.loop-next.nodes c.push_branch.new.nodes
    c.choice_in-choice.result.production c.choice_in-choice.result.begin c.loop-next.invariant.here c.requires.terminal c.loop-next.invariant.some
    c.choice_in-choice.ensures.production c.choice_in-choice.ensures.begin c.in_ok-push_branch.ensures c.in_ok-replace_first.ensures.is

-- where it ends up
place : (c : After-inner_of-inner) → c.replace_first.new.next ≡ begin_in (pick_in c.loop-next.cell)
place c = c.in_ok-replace_first.ensures.next ∙ c.choice_in-choice.ensures.begin

low : (c : After-inner_of-inner) → c.replace_first.new.next < 887
low c = subst (λ (x : ℕ). x < 887) (sym (place c)) (cell_choice c.loop-next.invariant.here c.requires.terminal).some

pub loop-next-init : goal.loop-next-init
loop-next-init c = record { some = c.requires.some; here = c.requires.cell; extended = unextended c.args.terminal _ _ }

pub choice_in-choice-requires : goal.choice_in-choice-requires
choice_in-choice-requires c = cell_within c.loop-next.invariant.here c.requires.terminal

pub inner_of-inner-requires : goal.inner_of-inner-requires
inner_of-inner-requires c = cell_within c.loop-next.invariant.here c.requires.terminal

pub returns-then-inner-ge-CELLS : goal.returns-then-inner-ge-CELLS
returns-then-inner-ge-CELLS c =
    let here = (goal.at.returns-then-inner-ge-CELLS c).After-inner_of-inner in let r = round here in record {
      some = low here;
      extended = extended_more c.loop-next.invariant.extended r.0;
      less = omega (arith, r.1, c.loop-next.invariant.extended.lighter);
    }

pub loop-next-smaller : goal.loop-next-smaller
loop-next-smaller c = (round ((goal.at.loop-next-smaller c).After-inner_of-inner)).1

pub loop-next-preserved : goal.loop-next-preserved
loop-next-preserved c =
    let here = (goal.at.loop-next-preserved c).After-inner_of-inner in
    let within = subst (λ (x : ℕ). x < 2856) c.inner_of-inner.ensures c.if-inner-ge-CELLS.false in
    let inner = cell_inner c.loop-next.invariant.here c.requires.terminal within in record {
      some = low here;
      here = subst (λ (x : ℕ). IsCellOf c.args.terminal (symbol_in x) c.inner_of-inner.result) (sym (place here))
          (subst (λ (x : ℕ). IsCellOf c.args.terminal (symbol_in (begin_in (pick_in c.loop-next.cell))) x) (sym c.inner_of-inner.ensures) inner);
      extended = extended_more c.loop-next.invariant.extended (round here).0;
    }
