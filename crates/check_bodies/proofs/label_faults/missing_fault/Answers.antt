use Rattle.std.proofs.Common.{◌≡◌, ℕ, List, map, ap, sym, subst, ◌∙◌}
use Rattle.std.specs.Prelude.{Bool, not, filter, bytes_eq, is_some, position, IfOk}
use Rattle.source_model.specs.BodyFaults.{label_names}
use Rattle.source_model.specs.Forest.{Forest}
use Rattle.source_model.specs.Instructions.{is_label, labels}
use Rattle.source_model.specs.Source.{Source}
use Rattle.source_model.specs.Values.{name_text}
use Rattle.source_nodes.specs.Least.{least}
use Rattle.source_syntax.specs.Methods.{AreNames}
use Rattle.source_syntax.proofs.LabelLemmas.{filter_same, is_label_named}
use Rattle.source_syntax.proofs.LabelTokens.{label_names_are_names}
use Rattle.check_bodies.proofs.label_faults.missing_fault.Goals as goal

missing_are : (s : Source) (f : Forest) (names : List (List ℕ)) (tokens : List ℕ) → names ≡ map (name_text s) (labels f) → tokens ≡ label_names f
    → filter (λ k. not (is_some (position (bytes_eq (name_text s k)) names))) tokens ≡ filter (λ k. not (is_label s f k)) (label_names f)
missing_are s f names tokens known named =
    let isn't : ℕ → Bool = λ k. not (is_some (position (bytes_eq (name_text s k)) names)) in
    ap (filter isn't) named
    ∙ filter_same isn't (λ k. not (is_label s f k)) (label_names f)
    (λ k. ap not (ap (λ ns. is_some (position (bytes_eq (name_text s k)) ns)) known ∙ sym (is_label_named s f k)))

pub returns-then-plain : goal.returns-then-plain
returns-then-plain c s n r m e are tokens known plain =
    let f = n.below in
    let named = tokens ∙ sym (plain c.if-plain.true) in
    subst (λ all. IfOk c.first_missing.result (λ k. k ≡ least all)) (missing_are s f c.args.labels.now.names c.args.tokens.now known.names-are named)
    (c.first_missing.ensures s r (subst (AreNames s) (sym named) (label_names_are_names s f m.bodies)))

pub returns-then-are_all_in_code : goal.returns-then-are_all_in_code
returns-then-are_all_in_code c s n r m e are tokens known plain =
    let f = n.below in
    let named = tokens ∙ sym (c.are_all_in_code.ensures f e are c.if-are_all_in_code.true) in
    subst (λ all. IfOk c.first_missing-then-are_all_in_code.result (λ k. k ≡ least all)) (missing_are s f c.args.labels.now.names c.args.tokens.now known.names-are named)
    (c.first_missing-then-are_all_in_code.ensures s r (subst (AreNames s) (sym named) (label_names_are_names s f m.bodies)))

pub returns : goal.returns
returns c s n r m e are tokens known plain =
    let f = n.below in
    let named = c.as_slice.ensures ∙ c.in_ok-named.ensures f e in
    subst (λ all. IfOk c.first_missing-2.result (λ k. k ≡ least all)) (missing_are s f c.args.labels.now.names c.as_slice.result.now known.names-are named)
    (c.first_missing-2.ensures s r (subst (AreNames s) (sym named) (label_names_are_names s f m.bodies)))
