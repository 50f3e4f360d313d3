use Rattle.std.proofs.Common.{◌≡◌, ◌∙◌, subst, IfOk}
use Rattle.type_terms.specs.declared.term.SigType.{SigType}
use Rattle.sig_pool.specs.Pool.{Has}
use Rattle.sig_pool.specs.Replaced.{replaced, terms_at}
use Rattle.sig_pool.specs.Terms.{term_of}
use Rattle.type_order.specs.Keys.{reading_of}
use Rattle.type_hierarchy.specs.Normal.{normal}
use Rattle.type_hierarchy.specs.Tables.{hierarchy_in}
use Rattle.type_hierarchy.proofs.GrowLemmas.{kept_ids}
use Rattle.type_order.proofs.written.replaced_id.Goals as goal

pub returns-clause-ok : goal.returns-clause-ok
returns-clause-ok c =
    let ns = c.args.pool.now in
    let ms = c.normal_id.new.pool in
    let x = c.normal_id.ensures.extends in
    let classes : terms_at ms c.in_ok-class_ids.class_ids ≡ terms_at ns c.args.class_args.now =
    kept_ids ns ms c.args.class_args.now c.in_ok-class_ids.class_ids x c.requires.class_args (c.in_ok-class_ids.ensures ∙ c.as_slice.ensures) in
    let methods : terms_at ms c.in_ok-method_ids.method_ids ≡ terms_at ns c.args.method_args.now =
    kept_ids ns ms c.args.method_args.now c.in_ok-method_ids.method_ids x c.requires.method_args (c.in_ok-method_ids.ensures ∙ c.as_slice-2.ensures) in
    let is : term_of ms c.in_ok-id.id ≡ normal (reading_of (hierarchy_in c.args.tables.now)) c.args.t.now = c.in_ok-id.ensures.ok.term in
    subst (λ (t : SigType). IfOk c.substitute.result (λ id. Has c.substitute.new.self id t)) (λ i. replaced (classes i) (methods i) (is i)) c.substitute.ensures.ok
