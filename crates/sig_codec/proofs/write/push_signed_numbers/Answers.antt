use Rattle.std.proofs.Common.{◌≡◌, ◌∷◌, ◌+◌, drop, get_or, pos, arith, rules, SFits, w32, to_z, of_z}
use Rattle.std.proofs.lemmas.Int.{to_z-of_z}
use Rattle.std.proofs.lemmas.List.{drop_more}
use Rattle.il_base.specs.Numbers.{PackedSigned, packed_signed_bytes}
use Rattle.sig_codec.specs.Spelling.{writing}
use Rattle.sig_codec.specs.Spellable.{CanBePackedSigned}
use Rattle.sig_codec.proofs.Written.{number_at_place, all_at_place, numbers_done}
use Rattle.sig_codec.proofs.write.push_signed_numbers.Goals as goal

pub loop-number-preserved : goal.loop-number-preserved
loop-number-preserved c =
    let xs = c.args.numbers.now in
    let i = c.loop-number.number-index in
    let x = get_or xs i (pos 0) in
    let here : drop i xs ≡ x ∷ drop (i + 1) xs = drop_more xs i (pos 0) (omega arith) in
    let fits : SFits w32 x = search rules in
    let is : to_z w32 (of_z w32 x) ≡ x = simp to_z-of_z in
    let added = c.in_ok-push_packed_signed.ensures in
    ((all_at_place PackedSigned CanBePackedSigned xs i x here c.loop-number.invariant.0).1, λ tokens. number_at_place (writing tokens).signed CanBePackedSigned xs i x c.args.out.now c.loop-number.out c.push_packed_signed.new.out (packed_signed_bytes x) here (rw is at added.ok) (rw is at added.spells, rw is at added.shortest) (c.loop-number.invariant.1 tokens))

pub returns : goal.returns
returns c = λ tokens. numbers_done (writing tokens).signed CanBePackedSigned c.args.numbers.now c.loop-number.number-index c.args.out.now c.loop-number.out c.loop-number-test.false (c.loop-number.invariant.1 tokens)
