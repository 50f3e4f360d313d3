use Rattle.std.proofs.Common.{rules, ◌≡◌, ◌∙◌, ap, sym, subst, ℕ, List, length, arith}
use Rattle.std.specs.Prelude.{IfOk}
use Rattle.heaps.specs.Content.{HasUnits}
use Rattle.image_tokens.specs.Loaded.{AreUnits}
use Rattle.image_tokens.specs.Units.{HoldsUnits, bytes_of_units}
use Rattle.image_tokens.proofs.LoadedLemmas.{two_each, found_is}
use Rattle.image_tokens.proofs.LoadsLemmas.{loads_one}
use Rattle.image_tokens.proofs.user_texts.add_units.Goals as goal

pub add-requires-clause-whole : goal.add-requires-clause-whole
add-requires-clause-whole c =
    let two = two_each c.args.units.now in
    let same = ap (length {A = ℕ}) (c.as_slice-2.ensures ∙ c.in_ok-bytes.ensures) in
    omega arith

pub add-requires-clause-room : goal.add-requires-clause-room
add-requires-clause-room c =
    let two = two_each c.args.units.now in
    let same = ap (length {A = ℕ}) (c.as_slice-2.ensures ∙ c.in_ok-bytes.ensures) in
    let room = c.requires in
    omega arith

pub returns-clause-same : goal.returns-clause-same
returns-clause-same c =
    let content : c.as_slice-2.result.now ≡ bytes_of_units c.args.units.now = c.as_slice-2.ensures ∙ c.in_ok-bytes.ensures in
    λ index h. (c.add.ensures.known index h.used (subst (λ (xs : List ℕ). HasUnits c.args.user.now.bytes index xs) (sym content) h.there)).1

pub returns-clause-known : goal.returns-clause-known
returns-clause-known c =
    let content : c.as_slice-2.result.now ≡ bytes_of_units c.args.units.now = c.as_slice-2.ensures ∙ c.in_ok-bytes.ensures in
    found_is (HoldsUnits c.args.user.now (bytes_of_units c.args.units.now)) c.add.result
    (λ index h. (c.add.ensures.known index h.used (subst (λ (xs : List ℕ). HasUnits c.args.user.now.bytes index xs) (sym content) h.there)).0)

pub returns-clause-loads : goal.returns-clause-loads
returns-clause-loads c =
    let u = c.args.units.now in
    let content : c.as_slice-2.result.now ≡ bytes_of_units u = c.as_slice-2.ensures ∙ c.in_ok-bytes.ensures in
    let holds : IfOk c.add.result (HoldsUnits c.add.new.self (bytes_of_units u)) = search rules in
    loads_one c.args.user.now c.add.new.self u c.add.result c.one_content_at_an_index.ensures.units (subst AreUnits c.as_slice.ensures c.units_fit.ensures) holds
    (λ index h. (c.add.ensures.known index h.used (subst (λ (xs : List ℕ). HasUnits c.args.user.now.bytes index xs) (sym content) h.there)).1)
    c.add.ensures.stays c.as_slice-2.result.now content c.add.ensures.grows
