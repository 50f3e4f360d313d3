use Rattle.std.proofs.Common.{◌≡◌, ◌∙◌, ◌∷◌, ◌++◌, ◌+◌, ◌<◌, [], get_or, refl, sym, ap, subst, List, length, take, arith, rules}
use Rattle.std.specs.List.{Contains}
use Rattle.std.proofs.lemmas.List.{append-nil, take_all, take_more}
use Rattle.std.proofs.lemmas.List.Elements.{Contains-get_or}
use Rattle.assembly_tree.specs.declared.body.Body.{Body}
use Rattle.assembly_tree.specs.declared.typedef.MethodPath.{MethodPath}
use Rattle.type_hierarchy.specs.Hierarchy.{Hierarchy}
use Rattle.type_hierarchy.specs.Tables.{hierarchy_in}
use Rattle.type_hierarchy.specs.World.{hierarchy}
use Rattle.code_flow.specs.Frames.{frame}
use Rattle.code_flow.specs.Methods.{Declared, all_methods}
use Rattle.code_flow.specs.Paths.{NeverWrong}
use Rattle.body_verifier.specs.Checking.{HasBody}
use Rattle.body_verifier.specs.Reports.{Reports, ReportsEach}
use Rattle.body_verifier.specs.declared.report.Failure.{Failure}
use Rattle.all_bodies.specs.Reporting.{AreFailures}
use Rattle.all_bodies.proofs.Listed.{has_listed}
use Rattle.all_bodies.proofs.ReportLemmas.{no_failures, one_more}
use Rattle.all_bodies.proofs.checking.check_all.Goals as goal

pub loop-at-init : goal.loop-at-init
loop-at-init g c = let a = c.args.a.now in let w = hierarchy c.args.w.now in
    let P : List Failure → Type 0 = λ (l : List Failure). AreFailures a w [] l in record {
      stays = record { tables = refl; nodes = record { more = []; nodes = sym (append-nil c.args.w.now.nodes); terms = λ k h. refl } };
      found = subst P (sym c.new-report.ensures) (no_failures a w);
    }

pub check_method-requires : goal.check_method-requires
check_method-requires g c =
    let ps = c.in_ok-paths.paths in
    let k = c.loop-at.at-index in
    let path = c.at-item.result in
    let low : k < length c.as_slice-at-items.result.now = search rules in
    let within : k < length ps = omega (arith, low, ap length c.as_slice-at-items.ensures) in
    let is : path ≡ get_or ps k path = c.at-item.is ∙ ap (λ (l : List MethodPath). get_or l k path) c.as_slice-at-items.ensures in
    let P : MethodPath → Type 0 = λ (x : MethodPath). Contains ps x in
    let there : Contains ps path = subst P (sym is) (Contains-get_or ps k path within) in
    let zero = c.new-steps.ensures in (
      c.requires.0,
      (
        c.worlds_go_on.ensures.onward g.sources c.args.w.now c.loop-at.w c.requires.1 c.loop-at.invariant.stays,
        (has_listed c.args.a.now path (subst (λ (l : List MethodPath). Contains l path) c.in_ok-paths.ensures there), omega (arith, zero)),
      ),
    )

pub loop-at-preserved : goal.loop-at-preserved
loop-at-preserved g c =
    let a = c.args.a.now in
    let before = c.loop-at.invariant in
    let w = hierarchy c.args.w.now in
    let same : hierarchy c.loop-at.w ≡ w = ap hierarchy_in before.stays.tables in
    let ps = c.as_slice-at-items.result.now in
    let k = c.loop-at.at-index in
    let path = c.at-item.result in
    let within : k < length ps = search rules in
    let is : path ≡ get_or ps k path = c.at-item.is in
    let found = c.in_ok-found.found in
    let R : Hierarchy → Type 0 = λ (x : Hierarchy). Reports a x path found in
    let A : Hierarchy → Type 0 = λ (x : Hierarchy). (others : List Failure) → Reports a x path others → found ≡ others in
    let N : Hierarchy → Type 0 = λ (x : Hierarchy). (d : Declared) (b : Body) → HasBody a path d b → found ≡ [] → NeverWrong (frame a x d b) in
    let more = one_more a w (take k ps) path c.loop-at.report found before.found (subst R same c.in_ok-found.ensures.report) (subst A same c.in_ok-found.ensures.alone)
    (subst N same c.in_ok-found.ensures.paths) in
    let next : take k ps ++ path ∷ [] ≡ take (k + 1) ps = sym (take_more ps k path within ∙ ap (λ (x : MethodPath). take k ps ++ x ∷ []) (sym is)) in
    let P : List MethodPath → Type 0 = λ (l : List MethodPath). AreFailures a w l (c.loop-at.report ++ found) in
    let Q : List Failure → Type 0 = λ (l : List Failure). AreFailures a w (take (k + 1) ps) l in
    record {
      stays = c.keys_keep_their_types.ensures.onward c.args.w.now c.loop-at.w c.check_method.new.w before.stays c.in_ok-found.ensures.stays;
      found = subst Q (sym c.in_ok-append.ensures.ok) (subst P next more);
    }

pub returns-clause-report : goal.returns-clause-report
returns-clause-report g c =
    let ps = c.as_slice-at-items.result.now in
    let all : take c.loop-at.at-index ps ≡ all_methods c.args.a.now = take_all c.loop-at.at-index ps (omega arith) ∙ c.as_slice-at-items.ensures ∙ c.in_ok-paths.ensures in
    let P : List MethodPath → Type 0 = λ (l : List MethodPath). ReportsEach c.args.a.now (hierarchy c.args.w.now) l c.loop-at.report in
    subst P all c.loop-at.invariant.found.each

pub returns-clause-alone : goal.returns-clause-alone
returns-clause-alone g c = λ failures h.
    let ps = c.as_slice-at-items.result.now in
    let all : take c.loop-at.at-index ps ≡ all_methods c.args.a.now = take_all c.loop-at.at-index ps (omega arith) ∙ c.as_slice-at-items.ensures ∙ c.in_ok-paths.ensures in
    let P : List MethodPath → Type 0 = λ (l : List MethodPath). ReportsEach c.args.a.now (hierarchy c.args.w.now) l failures in
    c.loop-at.invariant.found.alone failures (subst P (sym all) h)

pub returns-clause-right : goal.returns-clause-right
returns-clause-right g c = λ none path d b has.
    let ps = c.as_slice-at-items.result.now in
    let all : take c.loop-at.at-index ps ≡ all_methods c.args.a.now = take_all c.loop-at.at-index ps (omega arith) ∙ c.as_slice-at-items.ensures ∙ c.in_ok-paths.ensures in
    let P : List MethodPath → Type 0 = λ (l : List MethodPath). Contains l path in
    c.loop-at.invariant.found.right none path d b (subst P (sym all) (c.each_body_is_listed.ensures c.args.a.now path d b has)) has
