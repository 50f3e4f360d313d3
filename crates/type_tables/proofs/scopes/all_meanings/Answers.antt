use Rattle.std.proofs.Common.{◌∙◌, ◌∷◌, [], ◌+◌, ap, length, get_or}
use Rattle.std.specs.Prelude.{nat_eq}
use Rattle.std.proofs.lemmas.List.{length-append}
use Rattle.std.proofs.lemmas.Option.{slice_get-get_or}
use Rattle.type_terms.specs.declared.name.Scope.{Scope}
use Rattle.type_tables.specs.Members.{IsMeaning, member, scope_seen}
use Rattle.type_hierarchy.specs.Scopes.{sources}
use Rattle.type_tables.proofs.NamingLemmas.{seen_is, meaning_more}
use Rattle.type_tables.proofs.scopes.all_meanings.Goals as goal

pub loop-number-preserved : goal.loop-number-preserved
loop-number-preserved c =
    let s = sources c.args.image.now c.args.references.now in
    let i = c.loop-number.number-index in
    let now = c.loop-number.all in
    let n = get_or c.args.numbers.now i 0 in
    let x = c.in_ok-means.means in
    let more = c.in_ok-push.ensures.ok in
    let meant : IsMeaning s (member s n) x = λ (scope : Scope).
    c.in_ok-means.ensures s c.requires.naming scope
    ∙ ap (λ a. scope_seen s (nat_eq n 0) a scope) c.assembly_of-of.ensures
    ∙ seen_is s n scope in
    record {
      count = ap length more ∙ length-append now (x ∷ []) ∙ ap (λ k. k + 1) c.loop-number.invariant.count;
      each = meaning_more s c.args.numbers.now now c.push.new.self i n x c.loop-number.invariant.count c.loop-number.invariant.each
          (slice_get-get_or c.args.numbers.now i 0 c.loop-number-test.true) meant more;
    }
