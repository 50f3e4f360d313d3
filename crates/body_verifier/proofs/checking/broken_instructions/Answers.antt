use Rattle.std.proofs.Common.{◌≡◌, ◌∙◌, sym, ap, subst, ◌+◌, ◌≤◌, List, [], length}
use Rattle.std.proofs.lemmas.Result.{IfOk-weaker}
use Rattle.type_hierarchy.specs.Tables.{hierarchy_in}
use Rattle.type_hierarchy.specs.World.{hierarchy}
use Rattle.body_verifier.specs.declared.report.Broken.{Broken}
use Rattle.body_verifier.specs.Checking.{AreBroken}
use Rattle.code_flow.specs.Frames.{Frame, frame}
use Rattle.code_flow.specs.Methods.{Declared}
use Rattle.body_verifier.specs.Reports.{Lists}
use Rattle.stack_rows.specs.RowMeanings.{MeansFrame}
use Rattle.stack_states.specs.StateMeanings.{typing_of}
use Rattle.body_verifier.specs.StepBound.{step_bound}
use Rattle.body_verifier.proofs.Breaking.{quiet_all}
use Rattle.body_verifier.proofs.Checked.{known_on, rows_still, is_frame_of, forward_all}
use Rattle.stack_rows.proofs.Growing.{stays_on, frame_kept}
use Rattle.body_verifier.proofs.Shallow.{deep_enough, flows_apart}
use Rattle.body_verifier.proofs.checking.broken_instructions.Goals as goal

pub broken_by-requires-clause-known : goal.broken_by-requires-clause-known
broken_by-requires-clause-known g c =
    known_on c.args.a.now c.args.w.now c.states_of.new.w
    (stays_on c.args.w.now c.rows_of.new.w c.states_of.new.w (stays_on c.args.w.now c.frame_of.new.w c.rows_of.new.w c.in_ok-frame.ensures.stays c.in_ok-rows.ensures.stays) c.in_ok-states.ensures.stays)
    c.requires.1.1.1.1

pub broken_by-requires-clause-rows : goal.broken_by-requires-clause-rows
broken_by-requires-clause-rows g c =
    let f = g.at.frame in
    let d : Declared = record { path = c.args.path.now; parameters = c.args.parameters; method = c.args.method.now } in
    let P : Frame → Type 0 = λ (x : Frame). MeansFrame c.frame_of.new.w.nodes c.in_ok-frame.frame x in
    let means : MeansFrame c.frame_of.new.w.nodes c.in_ok-frame.frame f = subst P (sym c.requires.1.1.0) (c.in_ok-frame.ensures.ok c.args.a.now d Rattle.std.proofs.Common.refl Rattle.std.proofs.Common.refl Rattle.std.proofs.Common.refl) in
    let types : f.types ≡ hierarchy c.frame_of.new.w = c.requires.0.types ∙ sym (ap hierarchy_in c.in_ok-frame.ensures.stays.tables) in
    let rows = c.in_ok-rows.ensures.ok f types (c.requires.1.0.code ∙ sym c.as_slice.ensures) means in
    (rows_still c.rows_of.new.w c.states_of.new.w c.in_ok-rows.rows f c.in_ok-states.ensures.stays rows).within

pub returns-clause-ok : goal.returns-clause-ok
returns-clause-ok g c =
    let f = g.at.frame in
    let w = c.states_of.new.w in
    let d : Declared = record { path = c.args.path.now; parameters = c.args.parameters; method = c.args.method.now } in
    let P : Frame → Type 0 = λ (x : Frame). MeansFrame c.frame_of.new.w.nodes c.in_ok-frame.frame x in
    let means : MeansFrame c.frame_of.new.w.nodes c.in_ok-frame.frame f = subst P (sym c.requires.1.1.0) (c.in_ok-frame.ensures.ok c.args.a.now d Rattle.std.proofs.Common.refl Rattle.std.proofs.Common.refl Rattle.std.proofs.Common.refl) in
    let types : f.types ≡ hierarchy c.frame_of.new.w = c.requires.0.types ∙ sym (ap hierarchy_in c.in_ok-frame.ensures.stays.tables) in
    let rows = c.in_ok-rows.ensures.ok f types (c.requires.1.0.code ∙ sym c.as_slice.ensures) means in
    let stay = stays_on c.frame_of.new.w c.rows_of.new.w w c.in_ok-rows.ensures.stays c.in_ok-states.ensures.stays in
    let later = rows_still c.rows_of.new.w w c.in_ok-rows.rows f c.in_ok-states.ensures.stays rows in
    let variables = frame_kept c.frame_of.new.w.nodes w.nodes c.in_ok-frame.frame f stay.nodes means in
    let is = is_frame_of c.args.a.now (hierarchy c.args.w.now) d c.args.body.now f w.nodes c.in_ok-frame.frame c.args.clauses.now c.requires.1.1.0 c.requires.1.0.spans variables in
    let typing = typing_of w.nodes c.in_ok-states.states in
    IfOk-weaker c.broken_by.result (λ (xs : List Broken). Lists f typing 0 xs) (AreBroken f) (λ xs lists. record { typing = typing; least = c.in_ok-states.ensures.ok.least; lists = lists })
    (c.broken_by.ensures.ok f (types ∙ sym (ap hierarchy_in stay.tables)) is later)

pub returns-clause-stays : goal.returns-clause-stays
returns-clause-stays g c =
    stays_on c.args.w.now c.states_of.new.w c.broken_by.new.w
    (stays_on c.args.w.now c.rows_of.new.w c.states_of.new.w (stays_on c.args.w.now c.frame_of.new.w c.rows_of.new.w c.in_ok-frame.ensures.stays c.in_ok-rows.ensures.stays) c.in_ok-states.ensures.stays)
    c.broken_by.ensures.stays

pub returns-clause-shallow : goal.returns-clause-shallow
returns-clause-shallow g c = λ pairs edges.
    let f = g.at.frame in
    let w = c.states_of.new.w in
    let d : Declared = record { path = c.args.path.now; parameters = c.args.parameters; method = c.args.method.now } in
    let P : Frame → Type 0 = λ (x : Frame). MeansFrame c.frame_of.new.w.nodes c.in_ok-frame.frame x in
    let means : MeansFrame c.frame_of.new.w.nodes c.in_ok-frame.frame f = subst P (sym c.requires.1.1.0) (c.in_ok-frame.ensures.ok c.args.a.now d Rattle.std.proofs.Common.refl Rattle.std.proofs.Common.refl Rattle.std.proofs.Common.refl) in
    let types : f.types ≡ hierarchy c.frame_of.new.w = c.requires.0.types ∙ sym (ap hierarchy_in c.in_ok-frame.ensures.stays.tables) in
    let rows = c.in_ok-rows.ensures.ok f types (c.requires.1.0.code ∙ sym c.as_slice.ensures) means in
    let stay = stays_on c.frame_of.new.w c.rows_of.new.w w c.in_ok-rows.ensures.stays c.in_ok-states.ensures.stays in
    let later = rows_still c.rows_of.new.w w c.in_ok-rows.rows f c.in_ok-states.ensures.stays rows in
    let variables = frame_kept c.frame_of.new.w.nodes w.nodes c.in_ok-frame.frame f stay.nodes means in
    let is = is_frame_of c.args.a.now (hierarchy c.args.w.now) d c.args.body.now f w.nodes c.in_ok-frame.frame c.args.clauses.now c.requires.1.1.0 c.requires.1.0.spans variables in
    let typing = typing_of w.nodes c.in_ok-states.states in
    let ready = c.requires.1.0 in
    IfOk-weaker c.broken_by.result (λ (xs : List Broken). Lists f typing 0 xs) (λ (xs : List Broken). xs ≡ [] → c.states_of.new.steps ≤ c.args.steps.now + step_bound (length pairs) f.bound g.at.top) (λ xs lists none.
    let L : List Broken → Type 0 = λ (ys : List Broken). Lists f typing 0 ys in
    let right = quiet_all f typing (subst L none lists) in
    let solves = c.in_ok-states.ensures.ok.least.solves in
    c.in_ok-states.ensures.shallow f.bound pairs (deep_enough f typing solves right)
    (flows_apart f typing solves right ready.formed ready.nest (forward_all (length f.code) f.clauses ready.formed.clauses)) edges)
    (c.broken_by.ensures.ok f (types ∙ sym (ap hierarchy_in stay.tables)) is later)
