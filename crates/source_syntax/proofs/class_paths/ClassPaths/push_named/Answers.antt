use Rattle.std.proofs.Common.{rules, ◌≡◌, ◌∙◌, ℕ, [], ◌∷◌, ◌++◌, None, Some, cond, length, take, ap, refl, subst, sym}
use Rattle.std.specs.Prelude.{Result, Ok, Err, OnErr, nat_eq, slice_set}
use Rattle.std.proofs.lemmas.List.{take_at}
use Rattle.hash_places.specs.Slots.{place_of}
use Rattle.source_syntax.specs.ClassNumbers.{IsNumber, class_hash, class_in, class_of}
use Rattle.source_syntax.specs.ClassTexts.{classes_in}
use Rattle.source_nodes.specs.NameTexts.{id_with}
use Rattle.source_syntax.specs.declared.class_paths.KeptClass.{KeptClass}
use Rattle.source_nodes.proofs.ChainLemmas.{set_last}
use Rattle.source_syntax.proofs.KeptClasses.{classes_more, classes_push, kept_more, kept_push}
use Rattle.source_syntax.proofs.class_paths.ClassPaths.push_named.Goals as goal

on_err : {T E : Type 0} {P : Type 0} (r : Result T E) → P → OnErr r P
on_err (Ok value) p = tt
on_err (Err error) p = p

pub invariant_of-self-in_err-push : goal.invariant_of-self-in_err-push
invariant_of-self-in_err-push c =
    let old = c.self.inside in
    let texts : c.push_both.new.texts ≡ old.texts ++ (c.args.space.now ++ c.args.name.now) = search rules in
    let classes : c.push.new.self ≡ old.classes = search rules in
    rw classes (kept_more (place_of old.newest) (place_of old.newest) old.texts (c.args.space.now ++ c.args.name.now) c.push_both.new.texts old.classes c.self.invariant (λ q. refl) texts)

pub returns-in_err-push-clause-err : goal.returns-in_err-push-clause-err
returns-in_err-push-clause-err c =
    let old = c.self.inside in
    let texts : c.push_both.new.texts ≡ old.texts ++ (c.args.space.now ++ c.args.name.now) = search rules in
    let classes : c.push.new.self ≡ old.classes = search rules in
    let shown : classes_in c.push_both.new.texts c.push.new.self ≡ classes_in old.texts old.classes =
    rw (texts, classes) (classes_more old.texts (c.args.space.now ++ c.args.name.now) old.classes c.self.invariant.within) in
    on_err c.from_residual-in_err-push.result (shown ∙ c.self.view_is)

pub invariant_of-self-in-Ok : goal.invariant_of-self-in-Ok
invariant_of-self-in-Ok c =
    let old = c.self.inside in
    let place = length c.as_slice-place.result.now in
    let space = c.args.space.now in
    let name = c.args.name.now in
    let id = id_with space name in
    let class : KeptClass = record { outer = c.args.outer; start = c.len.result; space = length space; name = length name; next = c.in-Ok.next } in
    let texts : c.push_both.new.texts ≡ old.texts ++ (space ++ name) = search rules in
    let at : place ≡ length old.classes = search rules in
    let start : c.len.result ≡ length old.texts = search rules in
    let newest : (q : ℕ) → place_of c.insert.new.self q ≡ cond (nat_eq (class_hash (class_of c.args.outer id)) q) (Some place) (place_of old.newest q) = search rules in
    let next : c.in-Ok.next ≡ place_of old.newest (class_hash (class_of c.args.outer id)) = search rules in
    let pushed : c.push.new.self ≡ old.classes ++ record { outer = c.args.outer; start = c.len.result; space = length space; name = length name; next = None } ∷ [] = search rules in
    let last : slice_set c.push.new.self place class ≡ old.classes ++ class ∷ [] = rw pushed (set_last old.classes _ class place at) in
    let classes : c.set.new.self ≡ old.classes ++ class ∷ [] = c.set.ensures ∙ last in
    rw (texts, classes) (kept_push old.texts space name class start refl refl (place_of old.newest) (place_of c.insert.new.self) old.classes place c.self.invariant
    (subst (λ cs. IsNumber cs c.args.outer) (sym c.self.view_is) c.requires.within) (ap (λ cs. class_in cs id c.args.outer) c.self.view_is ∙ c.requires.fresh) at next newest)

pub invariant_of-self-in-Err : goal.invariant_of-self-in-Err
invariant_of-self-in-Err c =
    let old = c.self.inside in
    let added = c.args.space.now ++ c.args.name.now in
    let texts : c.push_both.new.texts ≡ old.texts ++ added = search rules in
    let kept : (q : ℕ) → place_of c.insert.new.self q ≡ place_of old.newest q = search rules in
    let at : length c.as_slice-place.result.now ≡ length old.classes = search rules in
    let pushed : c.push.new.self ≡ old.classes ++ record { outer = c.args.outer; start = c.len.result; space = length c.args.space.now; name = length c.args.name.now; next = None } ∷ [] = search rules in
    let back : take (length c.as_slice-place.result.now) c.push.new.self ≡ old.classes = rw pushed (take_at old.classes _ (length c.as_slice-place.result.now) (sym at)) in
    let classes : c.truncate.new.self ≡ old.classes = c.truncate.ensures ∙ back in
    rw classes (kept_more (place_of old.newest) (place_of c.insert.new.self) old.texts added c.push_both.new.texts old.classes c.self.invariant kept texts)

pub returns-in-Ok-clause-ok : goal.returns-in-Ok-clause-ok
returns-in-Ok-clause-ok c =
    let old = c.self.inside in
    let place = length c.as_slice-place.result.now in
    let space = c.args.space.now in
    let name = c.args.name.now in
    let id = id_with space name in
    let class : KeptClass = record { outer = c.args.outer; start = c.len.result; space = length space; name = length name; next = c.in-Ok.next } in
    let texts : c.push_both.new.texts ≡ old.texts ++ (space ++ name) = search rules in
    let at : place ≡ length old.classes = search rules in
    let start : c.len.result ≡ length old.texts = search rules in
    let pushed : c.push.new.self ≡ old.classes ++ record { outer = c.args.outer; start = c.len.result; space = length space; name = length name; next = None } ∷ [] = search rules in
    let last : slice_set c.push.new.self place class ≡ old.classes ++ class ∷ [] = rw pushed (set_last old.classes _ class place at) in
    let classes : c.set.new.self ≡ old.classes ++ class ∷ [] = c.set.ensures ∙ last in
    let shown : classes_in c.push_both.new.texts c.set.new.self ≡ classes_in old.texts old.classes ++ class_of c.args.outer id ∷ [] =
    rw (texts, classes) (classes_push old.texts space name class start refl refl old.classes c.self.invariant.within) in
    shown ∙ ap (λ cs. cs ++ class_of c.args.outer id ∷ []) c.self.view_is

pub returns-in-Err-clause-err : goal.returns-in-Err-clause-err
returns-in-Err-clause-err c =
    let old = c.self.inside in
    let added = c.args.space.now ++ c.args.name.now in
    let texts : c.push_both.new.texts ≡ old.texts ++ added = search rules in
    let at : length c.as_slice-place.result.now ≡ length old.classes = search rules in
    let pushed : c.push.new.self ≡ old.classes ++ record { outer = c.args.outer; start = c.len.result; space = length c.args.space.now; name = length c.args.name.now; next = None } ∷ [] = search rules in
    let back : take (length c.as_slice-place.result.now) c.push.new.self ≡ old.classes = rw pushed (take_at old.classes _ (length c.as_slice-place.result.now) (sym at)) in
    let classes : c.truncate.new.self ≡ old.classes = c.truncate.ensures ∙ back in
    let shown : classes_in c.push_both.new.texts c.truncate.new.self ≡ classes_in old.texts old.classes =
    rw (texts, classes) (classes_more old.texts added old.classes c.self.invariant.within) in
    shown ∙ c.self.view_is
