-- The check of a method's body.
use Rattle.std.proofs.Common.{◌≡◌, ◌⊎◌, inl, inr, ◌∙◌, refl, sym, ap, subst, ℕ, zero, suc, ◌+◌, ◌*◌, ◌<◌, ◌≤◌, ◌^◌, arith, Bool, true, false, List, [], ◌∷◌, ◌++◌, length, map, Option, None, Some}
use Rattle.std.specs.Prelude.{slice_get, IsTrue}
use Rattle.std.specs.List.{All, list_all}
use Rattle.std.proofs.lemmas.List.{append_assoc, append-nil}
use Rattle.std.proofs.lemmas.List.Elements.{All-get_or, All-weaker}
use Rattle.std.proofs.lemmas.List.Sums.{AllPass-from_list_all, list_all-from_AllPass}
use Rattle.std.proofs.lemmas.Bool.{and_parts}
use Rattle.std.proofs.lemmas.Option.{slice_get_within, get_or_from_slice_get}
use Rattle.type_terms.specs.declared.name.TypeId.{TypeId}
use Rattle.type_terms.specs.declared.term.SigType.{SigType}
use Rattle.assembly_tree.specs.declared.assembly.Assembly.{Assembly}
use Rattle.assembly_tree.specs.declared.body.Body.{Body}
use Rattle.assembly_tree.specs.declared.body.Clause.{Clause}
use Rattle.assembly_tree.specs.declared.body.Ins.{Ins}
use Rattle.assembly_tree.specs.declared.members.Method.{Method}
use Rattle.assembly_tree.specs.declared.typedef.MethodPath.{MethodPath}
use Rattle.assembly_tree.specs.declared.typedef.TypeDef.{TypeDef}
use Rattle.assembly_tree.specs.declared.typedef.TypeDef.TheViews.{out-TypeDef}
use Rattle.assembly_tree.specs.WellFormedBodies.{is_clause, is_forward, is_inside}
use Rattle.sig_pool.specs.declared.node.Node.{Node}
use Rattle.type_hierarchy.specs.Ancestors.{all_declared}
use Rattle.type_hierarchy.specs.Hierarchy.{Hierarchy}
use Rattle.type_hierarchy.specs.Indexed.{KnowsTypes}
use Rattle.type_hierarchy.specs.Laws.{IsGrounded, IsOrder}
use Rattle.type_hierarchy.specs.Scopes.{Sources}
use Rattle.type_order.specs.Staying.{KeepsKeys}
use Rattle.type_hierarchy.specs.Tables.{hierarchy_in}
use Rattle.type_hierarchy.specs.declared.tables.Tables.{Tables}
use Rattle.type_hierarchy.specs.World.{Content, hierarchy, Stays}
use Rattle.type_order.specs.Worlds.{IsFit, IsWorldSince}
use Rattle.code_flow.specs.declared.blocks.Spans.{Spans}
use Rattle.body_verifier.specs.declared.code_marks.CodeMarks.{CodeMarks}
use Rattle.stack_rows.specs.declared.frame.CodeFrame.{CodeFrame}
use Rattle.body_verifier.specs.declared.report.Broken.{Broken}
use Rattle.body_verifier.specs.declared.report.Failure.{Failure}
use Rattle.stack_rows.specs.declared.row.Row.{Row}
use Rattle.stack_states.specs.declared.state.State.{State}
use Rattle.code_flow.specs.BlockTests.{spans_of}
use Rattle.code_flow.specs.Blocks.{ClausesNest}
use Rattle.body_verifier.specs.Checking.{AreBroken, BreaksWhole, HasBody, IsFrameOf, IsReady, IsWhole, above, broken_at, setup, unnested, uninitialised, explicit}
use Rattle.body_verifier.specs.CodeMarks.{AreCodeMarks, IsBody}
use Rattle.body_verifier.specs.Finding.{RisesWithin, method_in, typedef_at, typedef_in}
use Rattle.code_flow.specs.Frames.{Frame, frame}
use Rattle.code_flow.specs.Laws.{AreMonotone, BreaksNothing, HasOneLeast, IsFormed, PathsAreRight}
use Rattle.type_order.specs.Fields.{the_module}
use Rattle.code_flow.specs.Methods.{Declared, Nested, method_at, type_by_place}
use Rattle.code_flow.specs.Paths.{NeverWrong}
use Rattle.body_verifier.specs.Reports as reports
use Rattle.body_verifier.specs.Reports.{Fails, Lists, none_more, next, Reports, reported, is_uninitialised}
use Rattle.stack_rows.specs.RowMeanings.{IsRowWithin, MeansFrame, row_meant}
use Rattle.code_flow.specs.Rows.{row_of}
use Rattle.code_flow.specs.Rules.{BreaksFirst}
use Rattle.stack_states.specs.StateMeanings.{IsStateWithin, state_meant, state_or_none, typing_of}
use Rattle.body_verifier.specs.StepBound.{height, AreEdges, step_bound}
use Rattle.code_flow.specs.Typings.{Typing}
use Rattle.body_verifier.specs.Verdicts.{Judges}
use Rattle.body_verifier.specs.Ways.{AreRows, IsSetUp, Setup}
use Rattle.body_verifier.proofs.Breaking.{skips, lists_next, lists_end, quiet_all, same_body}
use Rattle.body_verifier.proofs.EdgeStart.{within_there}
use Rattle.body_verifier.proofs.FollowLemmas.{state_kept}
use Rattle.stack_rows.proofs.Growing.{frame_kept, row_kept}
use Rattle.body_verifier.proofs.Heights.{grounded_types, height_low, set_up}
use Rattle.body_verifier.proofs.Walking.{IsDeclaredIn, declared_at, found_method, same_place}
use Rattle.body_verifier.proofs.Weighing.{IsLightBody, light_body, few_instructions, few_clauses, few_generics}

-- ---- the types of the image

-- a world goes on knowing them
pub known_on : (a : Assembly) (old new : Content) → Stays old new → KnowsTypes a old.tables → KnowsTypes a new.tables
known_on a old new stays h = subst (λ (t : Tables). KnowsTypes a t) (sym stays.tables) h

pub known_in : (s : Sources) (w : Content) (a : Assembly) → s.image ≡ a → IsWorldSince s w → KnowsTypes a w.tables
known_in s w a e since = subst (λ (z : Assembly). KnowsTypes z w.tables) e (known_on s.image since.first w since.stays since.made.types)

-- ---- the rules of a whole body

pub forward_all : (n : ℕ) (cs : List Clause) → list_all (is_clause n) cs ≡ true → list_all is_forward cs ≡ true
unfolding is_clause
forward_all n [] h = refl
forward_all n (c ∷ cs) h =
    let p = and_parts (is_clause n c) (list_all (is_clause n) cs) h in
    let q = and_parts (is_forward c) (is_inside n c) p.0 in
    Rattle.std.proofs.lemmas.Bool.and_from (is_forward c) (list_all is_forward cs) q.0 (forward_all n cs p.1)

-- the one failure of a body that breaks a rule as a whole
pub whole_fails : (a : Assembly) (w : Hierarchy) (d : Declared) (b : Body) (m : Method) (rule : ℕ) → d.method ≡ m → BreaksWhole m b rule → Fails a w d b (record { at = 0; rule = rule } ∷ [])
whole_fails a w d b m rule e (unnested n) = reports.unnested n
whole_fails a w d b m rule e (uninitialised n u) = reports.uninitialised n u
whole_fails a w d b m rule e (explicit n u x) = reports.explicit n u (ap (λ (y : Method). y.sig.explicit_this) e ∙ x)

-- ---- the instructions of a body

pub one_judged : (f : Frame) (typing : Typing) (k : ℕ) (rule : Option ℕ) (broken more : List Broken) → k < length f.code → Judges f typing k rule
    → ((rest : List Broken) → Lists f typing k rest → Lists f typing 0 (broken ++ rest)) → Lists f typing (k + 1) more → Lists f typing 0 ((broken ++ broken_at k rule) ++ more)
one_judged f typing k None broken more below quiet so_far h =
    let P : List Broken → Type 0 = λ (xs : List Broken). Lists f typing 0 xs in
    subst P (sym (append_assoc broken [] more)) (so_far more (skips f typing k more quiet h))
one_judged f typing k (Some rule) broken more below b so_far h =
    let P : List Broken → Type 0 = λ (xs : List Broken). Lists f typing 0 xs in
    subst P (sym (append_assoc broken (record { at = k; rule = rule } ∷ []) more)) (so_far (record { at = k; rule = rule } ∷ more) (lists_next f typing k rule more below b h))

pub all_judged : (f : Frame) (typing : Typing) (k : ℕ) (broken : List Broken) → length f.code ≤ k → ((rest : List Broken) → Lists f typing k rest → Lists f typing 0 (broken ++ rest)) → Lists f typing 0 broken
all_judged f typing k broken past so_far =
    let P : List Broken → Type 0 = λ (xs : List Broken). Lists f typing 0 xs in
    subst P (append-nil broken) (so_far [] (lists_end f typing k past))

-- ---- in order

rises_from : (code : List Ins) (j k : ℕ) (bs : List Broken) → j ≤ k → RisesWithin code k bs → RisesWithin code j bs
rises_from code j k [] le h = tt
rises_from code j k (b ∷ bs) le h = let low = h.0 in (omega arith, h.1, h.2)

pub rises : (f : Frame) (typing : Typing) (k : ℕ) (bs : List Broken) → Lists f typing k bs → RisesWithin f.code k bs
rises f typing k [] h = tt
rises f typing k (b ∷ bs) (next {at = at} low below breaks first more) = (low, below, rises_from f.code at (at + 1) bs (omega arith) (rises f typing (at + 1) bs more))

-- ---- what a check goes by

pub formed_frame : (a : Assembly) (w : Hierarchy) (d : Declared) (b : Body) → IsLightBody b → IsFormed (frame a w d b)
unfolding frame
formed_frame a w d b h = record { some = h.some; targets = h.instructions; clauses = h.clauses }

pub ready : (a : Assembly) (w : Hierarchy) (d : Declared) (b : Body) (s : Sources) (c : Content) (ranges : List Spans) → IsLightBody b → ClausesNest b.clauses → ranges ≡ map spans_of b.clauses → IsWorldSince s c
    → IsReady (setup s (frame a w d b)) b ranges
unfolding frame
ready a w d b s c ranges h nest spans world = record {
  code = refl;
  clauses = refl;
  spans = spans;
  formed = record { some = h.some; targets = h.instructions; clauses = h.clauses };
  nest = nest;
  short = few_instructions b h;
  few = few_clauses b h;
  low = height_low s c world;
}

pub frame_of_body : (a : Assembly) (w : Hierarchy) (d : Declared) (b : Body) (ns : List Node) (v : CodeFrame) (ranges : List Spans) → ranges ≡ map spans_of b.clauses
    → Rattle.stack_rows.specs.RowMeanings.MeansFrame ns v (frame a w d b) → IsFrameOf (frame a w d b) a ns v b ranges
unfolding frame
frame_of_body a w d b ns v ranges spans means = record { image = refl; variables = means; code = refl; spans = spans; bound = refl }

pub types_of_frame : (a : Assembly) (w : Hierarchy) (d : Declared) (b : Body) → (frame a w d b).types ≡ w
unfolding frame
types_of_frame a w d b = refl

pub code_of_frame : (a : Assembly) (w : Hierarchy) (d : Declared) (b : Body) → (frame a w d b).code ≡ b.code
unfolding frame
code_of_frame a w d b = refl

pub bound_of_frame : (a : Assembly) (w : Hierarchy) (d : Declared) (b : Body) → (frame a w d b).bound ≡ b.bound
unfolding frame
bound_of_frame a w d b = refl

pub clauses_of_frame : (a : Assembly) (w : Hierarchy) (d : Declared) (b : Body) → (frame a w d b).clauses ≡ b.clauses
unfolding frame
clauses_of_frame a w d b = refl

pub set_up_body : (a : Assembly) (d : Declared) (b : Body) (s : Sources) (c : Content) → IsLightBody b → IsWorldSince s c
    → ((x : Hierarchy) (tall : SigType → ℕ) → IsGrounded x tall → IsOrder x) → ((f : Frame) (tall : SigType → ℕ) → IsGrounded f.types tall → AreMonotone f)
    → IsSetUp (hierarchy c) (setup s (frame a (hierarchy c) d b))
unfolding frame
set_up_body a d b s c h world order monotone = set_up s c (frame a (hierarchy c) d b) world refl h.some order monotone

pub typed_fails : (a : Assembly) (w : Hierarchy) (d : Declared) (b : Body) (m : Method) (broken : List Broken) → d.method ≡ m → IsWhole m b → AreBroken (frame a w d b) broken → Fails a w d b broken
typed_fails a w d b m broken e whole are =
    reports.typed whole.nest whole.initialised (ap (λ (y : Method). y.sig.explicit_this) e ∙ whole.implicit) are.least are.lists

-- ---- where nothing is broken

not_first : (xs : List Broken) (x : Broken) → xs ≡ [] → xs ≡ x ∷ [] → ⊥
not_first xs x e f = cc

pub right_paths : (a : Assembly) (w : Hierarchy) (d : Declared) (b : Body) (xs : List Broken) → IsFormed (frame a w d b) → PathsAreRight (frame a w d b) → xs ≡ [] → Fails a w d b xs → NeverWrong (frame a w d b)
right_paths a w d b xs formed right e (reports.unnested n) = absurd (let f : ⊥ = cc in f)
right_paths a w d b xs formed right e (reports.uninitialised n u) = absurd (let f : ⊥ = cc in f)
right_paths a w d b xs formed right e (reports.explicit n u x) = absurd (let f : ⊥ = cc in f)
right_paths a w d b xs formed right e (reports.typed {typing = typing} n u x least lists) =
    let P : List Broken → Type 0 = λ (ys : List Broken). Lists (frame a w d b) typing 0 ys in
    right typing least.solves (quiet_all (frame a w d b) typing (subst P e lists))

none_mapped : {X Y : Type 0} (f : X → Y) (xs : List X) → map f xs ≡ [] → xs ≡ []
none_mapped f [] e = refl
none_mapped f (x ∷ xs) e = absurd (let g : ⊥ = cc in g)

pub none_reported : (path : MethodPath) (b : Body) (xs : List Broken) (r : List Failure) → r ≡ map (reported path b) xs → r ≡ [] → xs ≡ []
none_reported path b xs r e none = none_mapped (reported path b) xs (sym e ∙ none)

pub right_where_none : (a : Assembly) (w : Hierarchy) (path : MethodPath) (d : Declared) (b : Body) (failures : List Failure) → HasBody a path d b → IsFormed (frame a w d b) → PathsAreRight (frame a w d b)
    → Reports a w path failures → failures ≡ [] → NeverWrong (frame a w d b)
right_where_none a w path d b failures h formed right r e =
    let s = same_body a path r.declared d r.body b (record { is = r.is; has = r.has }) h in
    let P : Declared → Type 0 = λ (x : Declared). Fails a w x r.body r.broken in
    let Q : Body → Type 0 = λ (x : Body). Fails a w d x r.broken in
    right_paths a w d b r.broken formed right (none_mapped (reported path r.body) r.broken (sym r.all ∙ e)) (subst Q s.1 (subst P s.0 r.fails))

-- ---- rows and states as the pool grows

pub row_still : (a b : Content) (rows : List Row) (k : ℕ) (r : Row) → All (IsRowWithin (length a.nodes)) rows → Stays a b → slice_get rows k ≡ Some r
    → IsRowWithin (length b.nodes) r × (row_meant b.nodes r ≡ row_meant a.nodes r)
row_still a b rows k r h s at =
    let P : Row → Type 0 = λ (x : Row). IsRowWithin (length a.nodes) x in
    let in_a : IsRowWithin (length a.nodes) r = subst P (get_or_from_slice_get rows k r r at) (All-get_or (IsRowWithin (length a.nodes)) rows k r (slice_get_within rows k r at) h) in
    let kept = row_kept a.nodes b.nodes r (row_meant a.nodes r) s.nodes (record { within = in_a; is = refl }) in
    (kept.within, kept.is)

pub state_still : (a b : Content) (states : List State) (k : ℕ) (x : State) → KeepsKeys a b → All (IsStateWithin (length a.nodes)) states → slice_get states k ≡ Some x
    → IsStateWithin (length b.nodes) x × (state_meant b.nodes x ≡ state_meant a.nodes x)
state_still a b states k x keeps h at = state_kept a b x keeps (within_there (length a.nodes) states k x h at)

pub rows_still : (a b : Content) (rows : List Row) (f : Frame) → Stays a b → AreRows a.nodes rows f → AreRows b.nodes rows f
rows_still a b rows f s h = record {
  long = h.long;
  within = All-weaker (IsRowWithin (length a.nodes)) (IsRowWithin (length b.nodes)) (λ r in_a. (row_kept a.nodes b.nodes r (row_meant a.nodes r) s.nodes (record { within = in_a; is = refl })).within) rows h.within;
  are = λ k r i at here. (row_still a b rows k r h.within s at).1 ∙ h.are k r i at here;
}

ins_at : (xs : List Ins) (k : ℕ) → k < length xs → (i : Ins) × (slice_get xs k ≡ Some i)
ins_at [] k below = absurd (omega arith)
ins_at (x ∷ xs) zero below = (x, refl)
ins_at (x ∷ xs) (suc k) below = ins_at xs k (omega arith)

-- an instruction is judged by what a pool meant before
pub judged_at : (a b : Content) (f : Frame) (image : Assembly) (v : CodeFrame) (body : Body) (code : List Ins) (ranges : List Spans) (m : CodeMarks) (rows : List Row) (states : List State) (k : ℕ) (r : Row) (s : State)
    (rule : Option ℕ) → KeepsKeys a b → Stays a b → f.types ≡ hierarchy a → IsFrameOf f image a.nodes v body ranges → AreRows a.nodes rows f → All (IsRowWithin (length a.nodes)) rows
    → All (IsStateWithin (length a.nodes)) states → code ≡ body.code → k < length body.code → slice_get rows k ≡ Some r → slice_get states k ≡ Some s
    → ((g : Frame) → g.code ≡ code → ranges ≡ map spans_of g.clauses → AreCodeMarks g m)
    → ((g : Frame) (typing : Typing) (i : Ins) → IsBody g image b.nodes v code ranges m → g.types ≡ hierarchy b → g.bound ≡ body.bound → slice_get g.code k ≡ Some i → row_meant b.nodes r ≡ row_of g k i
    → typing k ≡ state_meant b.nodes s → Judges g typing k rule)
    → Judges f (typing_of a.nodes states) k rule
judged_at a b f image v body code ranges m rows states k r s rule keeps stay types is are in_rows in_states same below at_row at_state marks judges =
    let here : f.code ≡ code = is.code ∙ sym same in
    let ins = ins_at f.code k (omega (arith, below, ap length is.code)) in
    judges f (typing_of a.nodes states) ins.0
    (record { image = is.image; variables = frame_kept a.nodes b.nodes v f stay.nodes is.variables; code = here; clauses = is.spans; marks = marks f here is.spans })
    (types ∙ sym (ap hierarchy_in stay.tables)) is.bound ins.1 ((row_still a b rows k r in_rows stay at_row).1 ∙ are.are k r ins.0 at_row ins.1)
    (ap (state_or_none a.nodes) at_state ∙ sym (state_still a b states k s keeps in_states at_state).1)

pub is_frame_of : (a : Assembly) (w : Hierarchy) (d : Declared) (b : Body) (f : Frame) (ns : List Node) (v : CodeFrame) (ranges : List Spans) → f ≡ frame a w d b → ranges ≡ map spans_of b.clauses
    → MeansFrame ns v f → IsFrameOf f a ns v b ranges
is_frame_of a w d b f ns v ranges e spans means =
    let P : Frame → Type 0 = λ (x : Frame). MeansFrame ns v x in
    let Q : Frame → Type 0 = λ (x : Frame). IsFrameOf x a ns v b ranges in
    subst Q (sym e) (frame_of_body a w d b ns v ranges spans (subst P e means))

-- ---- what is known of the method

pub fit_in : (s : Sources) (w : Content) (a : Assembly) → IsWorldSince s w → s.image ≡ a → IsFit a
fit_in s w a h e = let P : Assembly → Type 0 = λ (x : Assembly). IsFit x in subst P e h.image

pub light_in : (s : Sources) (w : Content) (a : Assembly) (path : MethodPath) (d : Declared) (b : Body) → IsWorldSince s w → s.image ≡ a → HasBody a path d b → IsLightBody b
light_in s w a path d b h e has = let fit = fit_in s w a h e in light_body a path d b fit.0 fit.1 has

typed_place : (o : Option Nested) (t : TypeDef) → typedef_in o ≡ Some t → (n : Nested) × (o ≡ Some n) × (n.typedef ≡ t)
typed_place None t e = absurd (let f : ⊥ = cc in f)
typed_place (Some n) t e = (n, refl, cc)

pub few_in : (s : Sources) (w : Content) (a : Assembly) (ks : List ℕ) → IsWorldSince s w → s.image ≡ a → (t : TypeDef) → typedef_at a ks ≡ Some t → length (out-TypeDef t).generics < 2 ^ 32
few_in s w a ks h e t at =
    let fit = fit_in s w a h e in
    let n = typed_place (type_by_place a ks) t (same_place a ks ∙ at) in
    let low = few_generics a ks n.0 fit.0 n.1 in
    let same : length (out-TypeDef n.0.typedef).generics ≡ length (out-TypeDef t).generics = ap (λ (x : TypeDef). length (out-TypeDef x).generics) n.2 in
    omega arith

pub same_method : (a : Assembly) (path : MethodPath) (d e : Declared) (b : Body) (m : Method) → HasBody a path d b → HasBody a path e b → e.method ≡ m → d.method ≡ m
same_method a path d e b m h i is = ap (λ (x : Declared). x.method) (same_body a path d e b b h i).0 ∙ is

declared_from : (path : List TypeId) (n : ℕ) (m : Method) (d : Declared) → path ≡ d.path → n ≡ d.parameters → m ≡ d.method → record { path = path; parameters = n; method = m } ≡ d
declared_from path n m d p q r = λ i. record { path = p i; parameters = q i; method = r i }

empty_or : (ks : List ℕ) → (ks ≡ []) ⊎ (ks ≡ [] → ⊥)
empty_or [] = inl refl
empty_or (k ∷ ks) = inr (λ e. let f : ⊥ = cc in f)

same_by_cases : (a : Assembly) (d : Declared) (m : Method) (ks : List ℕ) (path : List TypeId) (n : ℕ) → d.method ≡ m
    → ((t : Nested) → type_by_place a ks ≡ Some t → path ≡ t.path) → (ks ≡ [] → path ≡ the_module)
    → ((t : TypeDef) → typedef_at a ks ≡ Some t → n ≡ length (out-TypeDef t).generics) → (typedef_at a ks ≡ None → n ≡ 0)
    → IsDeclaredIn a ks d → (ks ≡ []) ⊎ (ks ≡ [] → ⊥) → record { path = path; parameters = n; method = m } ≡ d
same_by_cases a d m ks path n of inner outer some none h (inl e) =
    let bare = h.bare e in
    let nowhere : typedef_at a ks ≡ None = ap (typedef_at a) e in
    declared_from path n m d (outer e ∙ sym bare.0) (none nowhere ∙ sym bare.1) (sym of)
same_by_cases a d m ks path n of inner outer some none h (inr ne) =
    let t = h.either ne in
    let typed = h.typed t.0 t.1 in
    let there : typedef_at a ks ≡ Some t.0.typedef = sym (same_place a ks) ∙ ap typedef_in t.1 in
    declared_from path n m d (inner t.0 t.1 ∙ sym typed.0) (some t.0.typedef there ∙ sym typed.1) (sym of)

-- the type's path and its parameters are those of the method that is found
pub same_declared : (a : Assembly) (at : MethodPath) (d : Declared) (m : Method) (ks : List ℕ) (path : List TypeId) (n : ℕ) → method_at a at ≡ Some d → d.method ≡ m → ks ≡ at.types
    → ((t : Nested) → type_by_place a ks ≡ Some t → path ≡ t.path) → (ks ≡ [] → path ≡ the_module)
    → ((t : TypeDef) → typedef_at a ks ≡ Some t → n ≡ length (out-TypeDef t).generics) → (typedef_at a ks ≡ None → n ≡ 0)
    → record { path = path; parameters = n; method = m } ≡ d
same_declared a at d m ks path n is of same inner outer some none =
    let D = declared_at a at d is in
    let P : List ℕ → Type 0 = λ (xs : List ℕ). IsDeclaredIn a xs d in
    let E = subst P (sym same) D in
    same_by_cases a d m ks path n of inner outer some none E (empty_or ks)

-- ---- what is answered

pub fails_all : (a : Assembly) (w : Hierarchy) (d e : Declared) (b : Body) (m : Method) (broken : List Broken) → e ≡ d → d.method ≡ m → IsWhole m b → AreBroken (frame a w e b) broken → Fails a w d b broken
fails_all a w d e b m broken same of whole are =
    let P : Declared → Type 0 = λ (x : Declared). AreBroken (frame a w x b) broken in
    typed_fails a w d b m broken of whole (subst P same are)

pub rises_all : (a : Assembly) (w : Hierarchy) (e : Declared) (b : Body) (broken : List Broken) → AreBroken (frame a w e b) broken → RisesWithin b.code 0 broken
unfolding frame
rises_all a w e b broken are = rises (frame a w e b) are.typing 0 broken are.lists

pub same_edges : (a : Assembly) (w : Hierarchy) (d e : Declared) (b : Body) (pairs : List (ℕ × ℕ)) → e ≡ d → AreEdges (frame a w d b) pairs → AreEdges (frame a w e b) pairs
same_edges a w d e b pairs same h = let P : Declared → Type 0 = λ (x : Declared). AreEdges (frame a w x b) pairs in subst P (sym same) h

pub found_body : (a : Assembly) (path : MethodPath) (m : Method) (b : Body) → Some m ≡ method_in (method_at a path) → m.body ≡ Some b → (d : Declared) × HasBody a path d b × (d.method ≡ m)
found_body a path m b h e =
    let d = found_method a path (method_at a path) m refl h in
    (d.0, record { is = d.1; has = ap (λ (x : Method). x.body) d.2 ∙ e }, d.2)

pub reports_all : (a : Assembly) (w : Hierarchy) (path : MethodPath) (d : Declared) (b : Body) (broken : List Broken) (failures : List Failure) → HasBody a path d b → Fails a w d b broken
    → failures ≡ map (reported path b) broken → Reports a w path failures
reports_all a w path d b broken failures h fails all = record { declared = d; body = b; broken = broken; is = h.is; has = h.has; fails = fails; all = all }

pub formed_in : (s : Sources) (w : Content) (a : Assembly) (path : MethodPath) (d : Declared) (b : Body) → IsWorldSince s w → s.image ≡ a → HasBody a path d b → IsFormed (frame a (hierarchy w) d b)
formed_in s w a path d b h e has = formed_frame a (hierarchy w) d b (light_in s w a path d b h e has)

pub one_least_in : (s : Sources) (w : Content) (a : Assembly) → IsWorldSince s w → ((f : Frame) (tall : SigType → ℕ) → IsGrounded f.types tall → HasOneLeast f)
    → (d : Declared) (b : Body) → HasOneLeast (frame a (hierarchy w) d b)
one_least_in s w a h one d b =
    let f = frame a (hierarchy w) d b in
    one f (above f.types (length (all_declared s) + 4)) (grounded_types s w f.types h (types_of_frame a (hierarchy w) d b))

pub paths_in : (s : Sources) (w : Content) (a : Assembly) (path : MethodPath) (d : Declared) (b : Body) → IsWorldSince s w → s.image ≡ a → HasBody a path d b
    → ((f : Frame) (tall : SigType → ℕ) → IsGrounded f.types tall → IsFormed f → PathsAreRight f) → PathsAreRight (frame a (hierarchy w) d b)
paths_in s w a path d b h e has right =
    let f = frame a (hierarchy w) d b in
    right f (above f.types (length (all_declared s) + 4)) (grounded_types s w f.types h (types_of_frame a (hierarchy w) d b)) (formed_in s w a path d b h e has)
