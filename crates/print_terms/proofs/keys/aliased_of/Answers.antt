use Rattle.std.proofs.Common.{◌≡◌, ◌+◌, suc, [], ◌∷◌, ◌++◌, take, map, ap, sym, ◌∙◌, arith}
use Rattle.listing_model.specs.Types.{has_alias}
use Rattle.print_terms.proofs.Twins.{map_more}
use Rattle.print_terms.proofs.keys.aliased_of.Goals as goal

pub loop-k-preserved : goal.loop-k-preserved
loop-k-preserved c =
    let f = has_alias c.args.externs.now in
    c.in_ok-push.ensures.ok
    ∙ (ap (λ xs. xs ++ c.has_alias-own.result ∷ []) c.loop-k.invariant
    ∙ (sym (map_more f c.args.externs.now c.loop-k.k c.has_alias-own.result c.has_alias-own.ensures)
    ∙ ap (λ n. map f (take n c.args.externs.now)) {x = suc c.loop-k.k} {y = c.loop-k.k + 1} (omega arith)))
