use Rattle.std.proofs.Common.{◌∙◌, ◌<◌, ◌≤◌, ◌^◌, length, ap, refl, arith}
use Rattle.std.proofs.lemmas.List.{length-map}
use Rattle.source_model.specs.Forest.{Forest, leaf_at, preorder}
use Rattle.source_model.specs.Nodes.{typars}
use Rattle.source_model.specs.Values.{name_text}
use Rattle.check_members.specs.declared.member_kinds.Kind.TheVariants.{Method}
use Rattle.check_members.proofs.ReadLemmas.{around_method, few_typars, many_typars, names_of_method, never, none_is}
use Rattle.check_members.proofs.member_reading.Signatures.method.Goals as goal

pub returns-then-len-gt-MOST_TYPARS : goal.returns-then-len-gt-MOST_TYPARS
returns-then-len-gt-MOST_TYPARS g c s a f v r p h e bodies =
    let names = ap length (c.in_ok-typars.ensures s f r e bodies) ∙ length-map (typars f) (λ (t : Forest). name_text s (leaf_at 0 t)) in
    none_is s a Method f (never _ _ (many_typars f (omega (arith, names, c.len.ensures, c.if-len-gt-MOST_TYPARS.true))))

pub returns : goal.returns
returns g c s a f v r p h e bodies =
    let texts = c.in_ok-typars.ensures s f r e bodies in
    let names = ap length texts ∙ length-map (typars f) (λ (t : Forest). name_text s (leaf_at 0 t)) in
    let few : length (typars f) ≤ 65535 = omega (arith, names, c.len.ensures, c.if-len-gt-MOST_TYPARS.false) in
    let long = ap length e in
    let short : length (preorder f) < 2 ^ 32 = omega (arith, long, c.requires.few) in
    c.method_inside.ensures s a f v r (around_method a f c.args.place.now _ p refl refl e)
    (names_of_method s a f c.args.place.now _ h refl texts (c.count_parameters-parameters.ensures f e) short) e bodies (few_typars f few)
