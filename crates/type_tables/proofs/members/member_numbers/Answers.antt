use Rattle.std.proofs.Common.{◌≡◌, ◌∙◌, ◌<◌, sym, false, true, length, get_or, map, rules}
use Rattle.std.specs.List.{list_any}
use Rattle.std.proofs.lemmas.Option.{get_or_from_slice_get}
use Rattle.type_hierarchy.specs.Scopes.{sources, name_of}
use Rattle.type_hierarchy.specs.Names.{same_text}
use Rattle.type_tables.proofs.MemberLemmas.{members_more, members_same, number_name}
use Rattle.type_tables.proofs.members.member_numbers.Goals as goal
use Rattle.type_tables.proofs.members.member_numbers.Goals.{then-not-has_name+in_ok-push-2, else-not-has_name}

pub loop-k-preserved : goal.loop-k-preserved
loop-k-preserved c =
    let s = sources c.args.image.now c.args.references.now in
    let ns = c.loop-k.numbers in
    let k = c.loop-k.k in
    let r = c.at.result.now in
    let low : k < length s.references = search rules in
    let is : r ≡ get_or s.references k r = sym (get_or_from_slice_get s.references k r r c.at.ensures) in
    let among : c.has_name.result ≡ list_any (same_text (name_of r)) (map (number_name s) ns) =
    c.has_name.ensures ∙ (λ i. list_any (same_text (c.as_bytes-name.ensures i)) (map (number_name s) (c.as_slice.ensures i))) in
    elim c.if-not-has_name.branch [
      | then-not-has_name+in_ok-push-2 w ↦
          let new : c.has_name.result ≡ false = search rules in
          members_more s ns k r low is c.if-not-has_name.numbers (sym among ∙ new) (w.numbers-is ∙ w.in_ok-push-2.ensures.ok) c.loop-k.invariant
      | else-not-has_name w ↦
          let old : c.has_name.result ≡ true = search rules in
          rw w.numbers-is (members_same s ns k r low is (sym among ∙ old) c.loop-k.invariant)
    ]
