use Rattle.std.proofs.Common.{◌≡◌, ◌∙◌, sym, ap, subst, ℕ, ◌+◌, ◌*◌, ◌<◌, ◌≤◌, None, IfOk, map, length, nat_eq, arith}
use Rattle.std.specs.Option.{option_copied}
use Rattle.indexmap.specs.IndexMap.{get, index_map_len}
use Rattle.type_terms.specs.Depth.{largest}
use Rattle.sig_pool.specs.Pool.{Has}
use Rattle.sig_pool.specs.Replaced.{replaced, terms_at}
use Rattle.sig_pool.specs.Terms.{AllBelow}
use Rattle.sig_pool.proofs.PoolLaws.{extends_trans, extends_long}
use Rattle.sig_pool.proofs.Replacing.{kids_low, up_from, absent_from, rebuilt_from, node_from, done_ok, all_low, visits_next, is_in, all_step, replaced_kept, bound_of, within_bound}
use Rattle.sig_pool.proofs.pool.SigPool.+replace.Goals as goal

pub replace-returns-in-Some-clause-ok : goal.replace-returns-in-Some-clause-ok
replace-returns-in-Some-clause-ok t c =
    rw c.new.ensures (c.requires.done c.args.id c.in-Some.place.now (sym (rw c.place.ensures at c.in-Some.ensures.value))).1

pub replace-replace_all-requires : goal.replace-replace_all-requires
replace-replace_all-requires t c =
    let ns = c.args.self.now in
    let ids = c.as_slice.result.now in
    let low : AllBelow c.args.id ids = kids_low ns c.args.id ids c.requires.id (c.as_slice.ensures ∙ c.in_ok-kids.ensures) c.requires.pool in
    let falls : 2 * largest (map (λ k. k + 1) ids) < t = omega (arith, bound_of c.args.id ids low, c.decreases) in
    let within : AllBelow (length ns) ids = λ k d h. omega (arith, low k d h, c.requires.id) in
    (falls, (within, (c.requires.classes, (c.requires.methods, (c.requires.pool, c.requires.done)))))

pub replace-returns-in_err-kids-2-clause-visits : goal.replace-returns-in_err-kids-2-clause-visits
replace-returns-in_err-kids-2-clause-visits t c =
    up_from c.args.self.now c.args.id c.as_slice.result.now c.requires.id (c.as_slice.ensures ∙ c.in_ok-kids.ensures) c.replace_all.new.self
    (get nat_eq c.args.done.now) (get nat_eq c.replace_all.new.done) (index_map_len c.args.done.now) (index_map_len c.replace_all.new.done) c.in_err-kids-2.ensures.visits

pub replace-rebuild-requires-clause-absent : goal.replace-rebuild-requires-clause-absent
replace-rebuild-requires-clause-absent t c =
    let lacks : get nat_eq c.args.done.now c.args.id ≡ None = rw c.place.ensures at (sym c.get.ensures.value ∙ ap option_copied c.in_default.is) in
    absent_from c.args.self.now c.args.id c.as_slice.result.now c.requires.id (c.as_slice.ensures ∙ c.in_ok-kids.ensures) c.replace_all.new.self
    (get nat_eq c.args.done.now) (get nat_eq c.replace_all.new.done) (index_map_len c.args.done.now) (index_map_len c.replace_all.new.done) c.requires.pool c.in_ok-kids-2.ensures.visits lacks

pub replace-returns-clause-ok : goal.replace-returns-clause-ok
replace-returns-clause-ok t c =
    let ns = c.args.self.now in
    subst (λ x. IfOk c.rebuild.result (λ r. Has c.rebuild.new.self r x))
    (node_from ns c.args.id c.as_slice.result.now c.requires.id (c.as_slice.ensures ∙ c.in_ok-kids.ensures) c.replace_all.new.self
    (terms_at ns c.args.classes.now) (terms_at ns c.args.methods.now) c.in_ok-kids-2.kids c.requires.pool c.in_ok-kids-2.ensures.extends c.in_default-replaced_leaf.ensures.none c.in_ok-kids-2.ensures.ok)
    c.rebuild.ensures.ok

pub replace-returns-clause-done : goal.replace-returns-clause-done
replace-returns-clause-done t c =
    let ns = c.args.self.now in
    done_ok ns c.replace_all.new.self c.rebuild.new.self c.args.classes.now c.args.methods.now (get nat_eq c.replace_all.new.done) (get nat_eq c.rebuild.new.done) c.args.id c.rebuild.result
    c.in_ok-kids-2.ensures.extends c.rebuild.ensures.extends c.requires.classes c.requires.methods c.requires.id c.in_ok-kids-2.ensures.done c.rebuild.ensures.known
    (subst (λ x. IfOk c.rebuild.result (λ r. Has c.rebuild.new.self r x))
    (node_from ns c.args.id c.as_slice.result.now c.requires.id (c.as_slice.ensures ∙ c.in_ok-kids.ensures) c.replace_all.new.self
    (terms_at ns c.args.classes.now) (terms_at ns c.args.methods.now) c.in_ok-kids-2.kids c.requires.pool c.in_ok-kids-2.ensures.extends c.in_default-replaced_leaf.ensures.none c.in_ok-kids-2.ensures.ok)
    c.rebuild.ensures.ok)

pub replace-returns-clause-visits : goal.replace-returns-clause-visits
replace-returns-clause-visits t c =
    rebuilt_from c.args.self.now c.args.id c.as_slice.result.now c.requires.id (c.as_slice.ensures ∙ c.in_ok-kids.ensures) c.replace_all.new.self c.rebuild.new.self
    (get nat_eq c.args.done.now) (get nat_eq c.replace_all.new.done) (get nat_eq c.rebuild.new.done) (index_map_len c.args.done.now) (index_map_len c.replace_all.new.done) (index_map_len c.rebuild.new.done)
    c.in_ok-kids-2.ensures.visits c.rebuild.ensures.keys c.rebuild.ensures.growth

pub replace_all-replace-requires : goal.replace_all-replace-requires
replace_all-replace-requires t c =
    let ns = c.args.self.now in
    let i = c.loop-id.id-index in
    let x : ℕ = c.id-item.result in
    let ids = c.args.ids.now in
    let low = c.loop-id-test.true in
    let far : length ns ≤ length c.loop-id.self = extends_long ns c.loop-id.self c.loop-id.invariant.extends in
    let falls : 2 * x + 1 < t = omega (arith, within_bound ids i x low, c.id-item.is, c.decreases) in
    let here : x < length c.loop-id.self = omega (arith, c.requires.ids i x low, c.id-item.is, far) in (
      falls,
      (
        here,
        (
          all_low (length ns) (length c.loop-id.self) c.args.classes.now far c.requires.classes,
          (
            all_low (length ns) (length c.loop-id.self) c.args.methods.now far c.requires.methods,
            (c.loop-id.invariant.pool, c.loop-id.invariant.done),
          ),
        ),
      ),
    )

pub replace_all-returns-in_err-id-clause-visits : goal.replace_all-returns-in_err-id-clause-visits
replace_all-returns-in_err-id-clause-visits t c =
    let x : ℕ = c.id-item.result in
    let here : x < length c.args.self.now = omega (arith, c.requires.ids c.loop-id.id-index x c.loop-id-test.true, c.id-item.is) in
    visits_next c.args.self.now c.loop-id.self c.replace.new.self c.args.ids.now x (get nat_eq c.args.done.now) (get nat_eq c.loop-id.done) (get nat_eq c.replace.new.done)
    (index_map_len c.args.done.now) (index_map_len c.loop-id.done) (index_map_len c.replace.new.done) c.requires.pool c.loop-id.invariant.extends here
    (is_in c.args.ids.now c.loop-id.id-index x c.loop-id-test.true c.id-item.is) c.loop-id.invariant.visits c.in_err-id.ensures.visits

pub replace_all-returns-in_err-push-clause-visits : goal.replace_all-returns-in_err-push-clause-visits
replace_all-returns-in_err-push-clause-visits t c =
    let x : ℕ = c.id-item.result in
    let here : x < length c.args.self.now = omega (arith, c.requires.ids c.loop-id.id-index x c.loop-id-test.true, c.id-item.is) in
    visits_next c.args.self.now c.loop-id.self c.replace.new.self c.args.ids.now x (get nat_eq c.args.done.now) (get nat_eq c.loop-id.done) (get nat_eq c.replace.new.done)
    (index_map_len c.args.done.now) (index_map_len c.loop-id.done) (index_map_len c.replace.new.done) c.requires.pool c.loop-id.invariant.extends here
    (is_in c.args.ids.now c.loop-id.id-index x c.loop-id-test.true c.id-item.is) c.loop-id.invariant.visits c.in_ok-id.ensures.visits

pub replace_all-loop-id-preserved : goal.replace_all-loop-id-preserved
replace_all-loop-id-preserved t c =
    let ns = c.args.self.now in
    let ids = c.args.ids.now in
    let i = c.loop-id.id-index in
    let x : ℕ = c.id-item.result in
    let low = c.loop-id-test.true in
    let here : x < length ns = omega (arith, c.requires.ids i x low, c.id-item.is) in
    let same = replaced_kept ns c.loop-id.self c.args.classes.now c.args.methods.now x c.loop-id.invariant.extends c.requires.classes c.requires.methods here in
    record {
      pool = c.in_ok-id.ensures.pool;
      extends = extends_trans ns c.loop-id.self c.replace.new.self c.loop-id.invariant.extends c.in_ok-id.ensures.extends;
      ids = all_step ns c.loop-id.self c.replace.new.self ids c.loop-id.replaced c.push.new.self (replaced (terms_at ns c.args.classes.now) (terms_at ns c.args.methods.now)) i x c.in_ok-id.id
          c.loop-id.invariant.ids c.in_ok-id.ensures.extends (subst (Has c.replace.new.self c.in_ok-id.id) same c.in_ok-id.ensures.ok) low c.id-item.is c.in_ok-push.ensures.ok;
      done = c.in_ok-id.ensures.done;
      visits = visits_next ns c.loop-id.self c.replace.new.self ids x (get nat_eq c.args.done.now) (get nat_eq c.loop-id.done) (get nat_eq c.replace.new.done)
          (index_map_len c.args.done.now) (index_map_len c.loop-id.done) (index_map_len c.replace.new.done) c.requires.pool c.loop-id.invariant.extends here
          (is_in ids i x low c.id-item.is) c.loop-id.invariant.visits c.in_ok-id.ensures.visits;
    }
