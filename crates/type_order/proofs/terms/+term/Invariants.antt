use Rattle.std.proofs.Common.{◌≡◌, ◌+◌, ◌*◌, map, take}
use Rattle.type_terms.specs.Depth.{largest}
use Rattle.sig_pool.specs.Terms.{owner_children}
use Rattle.sig_pool.specs.Replaced.{terms_at}
use Rattle.type_order.proofs.terms.+term.Given as goal

abbrev pub decreases-term_at : goal.decreases-term_at
decreases-term_at l = 2 * l.id + 1

abbrev pub decreases-boxed_term_at : goal.decreases-boxed_term_at
decreases-boxed_term_at l = 2 * l.id + 2

abbrev pub decreases-boxed_owner_at : goal.decreases-boxed_owner_at
decreases-boxed_owner_at l = 2 * largest (map (λ k. k + 1) (owner_children l.owner.now))

abbrev pub decreases-all_terms_at : goal.decreases-all_terms_at
decreases-all_terms_at l = 2 * largest (map (λ k. k + 1) l.ids.now)

abbrev pub invariant-all_terms_at-loop-id : goal.invariant-all_terms_at-loop-id
invariant-all_terms_at-loop-id l = l.all ≡ terms_at l.pool (take l.id-index l.ids)
