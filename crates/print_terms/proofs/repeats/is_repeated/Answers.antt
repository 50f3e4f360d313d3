use Rattle.std.proofs.Common.{◌≡◌, ℕ, ◌<◌, ◌≤◌, Some, length, subst, sym, ◌∙◌, ap, arith}
use Rattle.std.proofs.lemmas.Option.{slice_get_within, same_Some}
use Rattle.assembly_tree.specs.declared.assembly.ExternAssembly.{ExternAssembly}
use Rattle.hash_places.specs.Slots.{place_of}
use Rattle.print_terms.specs.Names.{IsTwin}
use Rattle.print_terms.proofs.Chains.{ahead_of-smaller}
use Rattle.print_terms.proofs.Twins.{repeated_yes, repeated_no, no_twin, ahead_step}
use Rattle.print_terms.proofs.repeats.is_repeated.Goals as goal
use Rattle.print_terms.proofs.repeats.is_repeated.Goals.{else-place-number-via-then-place-number+else-eq, else-place-number-via-else-place-number}

pub returns-then-eq : goal.returns-then-eq
returns-then-eq c =
    let h = c.loop-at.invariant.hashed c.in-Some.place c.in-Some.is in
    let within = slice_get_within c.args.externs.now c.in-Some.place h.0 h.1 in
    repeated_yes c.args.externs.now c.args.number c.in-Some.place c.index-externs-number.result c.index-externs-place.result _ _ c.requires.within
    c.index-externs-number.is within c.index-externs-place.is c.if-place-number.true c.as_bytes.ensures c.as_bytes-then-place-number.ensures
    (sym c.eq.ensures ∙ c.if-eq.true)

pub at-at-requires : goal.at-at-requires
at-at-requires c =
    let h = c.loop-at.invariant.hashed c.in-Some.place c.in-Some.is in
    let within = slice_get_within c.args.externs.now c.in-Some.place h.0 h.1 in
    omega (arith, c.requires.chained.paired, within)

pub loop-at-preserved : goal.loop-at-preserved
loop-at-preserved c =
    let externs = c.args.externs.now in
    let ok = c.requires.chained in
    let place = c.in-Some.place in
    let e = c.index-externs-number.result in
    let h = c.loop-at.invariant.hashed place c.in-Some.is in
    let none : (d : ExternAssembly) → IsTwin externs c.args.number place e d → ⊥ = λ d t. elim c.else-place-number.branch [
      | else-place-number-via-then-place-number+else-eq w ↦
          no_twin externs c.args.number place e w.index-externs-place.result d _ _ w.as_bytes.ensures w.as_bytes-then-place-number.ensures
          (sym w.eq.ensures ∙ w.if-eq.false) t
      | else-place-number-via-else-place-number w ↦ t.apart w.if-place-number.false
    ] in
    record {
      hashed = λ m is. let l = ok.linked place m h.0 h.1 (c.at-at.ensures ∙ ap Some is) in (l.1.0, l.1.1, l.1.2 ∙ h.2);
      ahead = λ j d t.
          let a = c.loop-at.invariant.ahead j d t in
          let same = same_Some a.0 place (sym a.1 ∙ c.in-Some.is) in
          ahead_step externs (place_of c.args.chains.now.newest) c.args.chains.now.nexts ok c.args.number place e h.0 c.at-at.result.now h.1 h.2 c.at-at.ensures none j d t
          (omega (arith, a.2, same));
    }

pub returns : goal.returns
returns c =
    repeated_no c.args.externs.now c.args.number c.index-externs-number.result c.requires.within c.index-externs-number.is
    (λ j d t. let a = c.loop-at.invariant.ahead j d t in let no = sym a.1 ∙ c.in_default.is in absurd cc)
