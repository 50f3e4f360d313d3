use Rattle.std.proofs.Common.{◌≡◌, ◌∙◌, ap, arith, length, ◌∷◌, [], ◌+◌, ◌<◌, get_or, rules}
use Rattle.std.proofs.lemmas.List.{length-append}
use Rattle.type_terms.specs.declared.name.Scope.TheVariants.{Extern}
use Rattle.type_hierarchy.specs.Scopes.{scope_of_name}
use Rattle.type_tables.proofs.NamingLemmas.{meant_more, meant_all, seen_at}
use Rattle.type_tables.proofs.naming.meanings.Goals as goal

pub loop-number-preserved : goal.loop-number-preserved
loop-number-preserved c =
    let within : c.loop-number.number < length c.args.of.now.externs = search rules in
    let item : c.other-item.result ≡ get_or c.args.of.now.externs c.loop-number.number c.other-item.result = search rules in
    let x = c.scope_of.result in
    let now = c.loop-number.externs in
    let count = c.loop-number.invariant.count in
    let more = c.in_ok-push.ensures.ok in
    record {
      count = ap length more ∙ length-append now (x ∷ []) ∙ ap (λ n. n + 1) count;
      each = λ s ok k low.
          let is = c.scope_of.ensures s ok ∙ ap (scope_of_name s c.args.is_image (Extern c.loop-number.number)) c.as_bytes.ensures
          ∙ seen_at s c.args.is_image c.args.of.now c.loop-number.number c.other-item.result within item in
          meant_more s c.args.is_image c.args.of.now now c.loop-number.number x c.push.new.self count (c.loop-number.invariant.each s ok) is more k low;
    }

pub returns : goal.returns
returns c = λ s ok scope.
    let inside = c.loop-number.invariant in
    let whole : c.loop-number.number ≡ length c.args.of.now.externs = search rules in
    meant_all s c.args.is_image c.args.of.now _ (c.own_scope-own.ensures s ok) (inside.count ∙ whole)
    (λ k low. inside.each s ok k (omega (arith, whole))) scope
