use Rattle.std.proofs.Common.{rules, ◌≡◌, ◌∙◌, ℕ, [], ◌∷◌, ◌++◌, None, Some, cond, length, take, reverse, ap, sym, refl}
use Rattle.std.specs.Prelude.{nat_eq, slice_set}
use Rattle.std.proofs.lemmas.List.{take_at}
use Rattle.std.specs.Prelude.{OnErr, Result, Ok, Err}
use Rattle.hash_places.specs.Slots.{place_of}
use Rattle.source_nodes.specs.ChainedTexts.{texts_in}
use Rattle.source_nodes.specs.TextHash.{text_hash}
use Rattle.source_nodes.specs.declared.chained_names.ChainedName.{ChainedName}
use Rattle.source_nodes.proofs.ChainLemmas.{set_last}
use Rattle.source_nodes.proofs.TextLemmas.{chained_more, chained_push, shown_push, texts_more}
use Rattle.source_nodes.proofs.chained_names.ChainedNames.push_text.Goals as goal

on_err : {T E : Type 0} {P : Type 0} (r : Result T E) → P → OnErr r P
on_err (Ok value) p = tt
on_err (Err error) p = p

pub invariant_of-self-in_err-push : goal.invariant_of-self-in_err-push
invariant_of-self-in_err-push c =
    let old = c.self.inside in
    let texts : c.extend.new.self ≡ old.texts ++ c.args.text.now = search rules in
    let names : c.push.new.self ≡ old.names = search rules in
    rw names (chained_more (place_of old.newest) (place_of old.newest) old.texts c.args.text.now c.extend.new.self old.names c.self.invariant (λ q. refl) texts)

pub returns-in_err-push-clause-err : goal.returns-in_err-push-clause-err
returns-in_err-push-clause-err c =
    let old = c.self.inside in
    let texts : c.extend.new.self ≡ old.texts ++ c.args.text.now = search rules in
    let names : c.push.new.self ≡ old.names = search rules in
    let shown : reverse (texts_in c.extend.new.self c.push.new.self) ≡ reverse (texts_in old.texts old.names) =
    rw (texts, names) (ap reverse (texts_more old.texts c.args.text.now old.names c.self.invariant.within)) in
    on_err c.from_residual-in_err-push.result (shown ∙ c.self.view_is)

pub invariant_of-self-in-Ok : goal.invariant_of-self-in-Ok
invariant_of-self-in-Ok c =
    let old = c.self.inside in
    let place = length c.as_slice-place.result.now in
    let text = c.args.text.now in
    let name : ChainedName = record { start = c.len-start.result; len = length text; next = c.in-Ok.next } in
    let texts : c.extend.new.self ≡ old.texts ++ text = search rules in
    let at : place ≡ length old.names = search rules in
    let start : c.len-start.result ≡ length old.texts = search rules in
    let newest : (q : ℕ) → place_of c.insert.new.self q ≡ cond (nat_eq (text_hash text) q) (Some place) (place_of old.newest q) = search rules in
    let next : c.in-Ok.next ≡ place_of old.newest (text_hash text) = search rules in
    let pushed : c.push.new.self ≡ old.names ++ record { start = c.len-start.result; len = length text; next = None } ∷ [] = search rules in
    let last : slice_set c.push.new.self place name ≡ old.names ++ name ∷ [] = rw pushed (set_last old.names _ name place at) in
    let names : c.set.new.self ≡ old.names ++ name ∷ [] = c.set.ensures ∙ last in
    rw (texts, names) (chained_push (place_of old.newest) (place_of c.insert.new.self) old.texts text old.names name place c.self.invariant start refl at next newest)

pub invariant_of-self-in-Err : goal.invariant_of-self-in-Err
invariant_of-self-in-Err c =
    let old = c.self.inside in
    let texts : c.extend.new.self ≡ old.texts ++ c.args.text.now = search rules in
    let kept : (q : ℕ) → place_of c.insert.new.self q ≡ place_of old.newest q = search rules in
    let at : length c.as_slice-place.result.now ≡ length old.names = search rules in
    let pushed : c.push.new.self ≡ old.names ++ record { start = c.len-start.result; len = length c.args.text.now; next = None } ∷ [] = search rules in
    let back : take (length c.as_slice-place.result.now) c.push.new.self ≡ old.names = rw pushed (take_at old.names _ (length c.as_slice-place.result.now) (sym at)) in
    let names : c.truncate.new.self ≡ old.names = c.truncate.ensures ∙ back in
    rw names (chained_more (place_of old.newest) (place_of c.insert.new.self) old.texts c.args.text.now c.extend.new.self old.names c.self.invariant kept texts)

pub returns-in-Ok-clause-ok : goal.returns-in-Ok-clause-ok
returns-in-Ok-clause-ok c =
    let old = c.self.inside in
    let place = length c.as_slice-place.result.now in
    let text = c.args.text.now in
    let name : ChainedName = record { start = c.len-start.result; len = length text; next = c.in-Ok.next } in
    let texts : c.extend.new.self ≡ old.texts ++ text = search rules in
    let at : place ≡ length old.names = search rules in
    let start : c.len-start.result ≡ length old.texts = search rules in
    let pushed : c.push.new.self ≡ old.names ++ record { start = c.len-start.result; len = length text; next = None } ∷ [] = search rules in
    let last : slice_set c.push.new.self place name ≡ old.names ++ name ∷ [] = rw pushed (set_last old.names _ name place at) in
    let names : c.set.new.self ≡ old.names ++ name ∷ [] = c.set.ensures ∙ last in
    let shown : reverse (texts_in c.extend.new.self c.set.new.self) ≡ text ∷ reverse (texts_in old.texts old.names) =
    rw (texts, names) (shown_push old.texts text old.names name c.self.invariant.within start refl) in
    shown ∙ ap (λ ns. text ∷ ns) c.self.view_is

pub returns-in-Err-clause-err : goal.returns-in-Err-clause-err
returns-in-Err-clause-err c =
    let old = c.self.inside in
    let texts : c.extend.new.self ≡ old.texts ++ c.args.text.now = search rules in
    let at : length c.as_slice-place.result.now ≡ length old.names = search rules in
    let pushed : c.push.new.self ≡ old.names ++ record { start = c.len-start.result; len = length c.args.text.now; next = None } ∷ [] = search rules in
    let back : take (length c.as_slice-place.result.now) c.push.new.self ≡ old.names = rw pushed (take_at old.names _ (length c.as_slice-place.result.now) (sym at)) in
    let names : c.truncate.new.self ≡ old.names = c.truncate.ensures ∙ back in
    let shown : reverse (texts_in c.extend.new.self c.truncate.new.self) ≡ reverse (texts_in old.texts old.names) =
    rw (texts, names) (ap reverse (texts_more old.texts c.args.text.now old.names c.self.invariant.within)) in
    shown ∙ c.self.view_is
