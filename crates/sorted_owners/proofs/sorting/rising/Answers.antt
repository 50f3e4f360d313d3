use Rattle.std.proofs.Common.{◌≡◌, ◌∙◌, ap, arith, subst, sym}
use Rattle.std.specs.Prelude.{IfOk}
use Rattle.std.specs.BTreeSet.{insert_key}
use Rattle.sorted_owners.specs.Rising.{rising}
use Rattle.sorted_owners.specs.Ranks.{by_order, owners_of}
use Rattle.sorted_owners.proofs.RisingLemmas.{all_rise, few_rise, held, put_all, put_in, put_last}
use Rattle.sorted_owners.proofs.sorting.rising.Goals as goal

pub loop-owner-init : goal.loop-owner-init
loop-owner-init c = ap (λ ks. put_all c.args.owners (owners_of ks)) c.new-ranked.ensures.empty ∙ all_rise c.args.owners

pub loop-owner-preserved : goal.loop-owner-preserved
loop-owner-preserved c =
    let before = c.loop-owner.ranked.keys in
    let left = c.pop.new.self in
    let owner = c.in-Some.owner in
    let keys : c.insert.new.self.keys ≡ insert_key by_order before (record { owner = owner }) =
    held c.insert.result _ (sym c.is_err.ensures.value ∙ c.if-is_err.false) c.insert.ensures.keys in
    ap (λ ks. put_all left (owners_of ks)) keys
    ∙ ap (put_all left) (put_in before (record { owner = owner }))
    ∙ sym (put_last left owner (owners_of before))
    ∙ ap (λ os. put_all os (owners_of before)) (sym c.in-Some.ensures)
    ∙ c.loop-owner.invariant

pub returns : goal.returns
returns c =
    let keys = c.loop-owner.ranked.keys in
    let all : owners_of keys ≡ rising c.args.owners = sym (ap (λ os. put_all os (owners_of keys)) c.in_default.ensures.0) ∙ c.loop-owner.invariant in
    subst (λ os. IfOk c.in_order.result (λ sorted. sorted ≡ os)) all c.in_order.ensures

pub returns-then-len-lt2 : goal.returns-then-len-lt2
returns-then-len-lt2 c = few_rise c.args.owners (omega (arith, c.len.ensures, c.if-len-lt2.true))
