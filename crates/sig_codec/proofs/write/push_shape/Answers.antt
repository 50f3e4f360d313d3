use Rattle.std.proofs.Common.{◌++◌, length, List, ℕ}
use Rattle.il_base.specs.Numbers.{packed_bytes}
use Rattle.sig_codec.specs.Spelling.{writing, SpellsShape, SpellsEachBy}
use Rattle.sig_codec.proofs.Written.{then_more, two_added, shape_written}
use Rattle.sig_codec.proofs.write.push_shape.Goals as goal

pub returns : goal.returns
returns c = λ tokens.
    let w = writing tokens in
    let old = c.args.out.now in
    let r = packed_bytes c.args.rank in
    let s = packed_bytes (length c.args.sizes.now) in
    let l = packed_bytes (length c.args.lower.now) in
    let ss = c.in_ok-push_numbers.ensures tokens in
    let one = c.in_ok-push_packed.ensures in
    let two = c.in_ok-push_packed-2.ensures in
    let three = c.in_ok-push_packed-3.ensures in
    let front : List ℕ = r ++ (s ++ (ss.0 ++ l)) in
    let last = two_added c.push_packed-2.new.out c.push_numbers.new.out c.push_packed-3.new.out ss.0 l ss.1 three.ok in
    let more = two_added c.push_packed.new.out c.push_packed-2.new.out c.push_packed-3.new.out s (ss.0 ++ l) two.ok last in
    let added = two_added old c.push_packed.new.out c.push_packed-3.new.out r (s ++ (ss.0 ++ l)) one.ok more in
    then_more c.push_signed_numbers.result old c.push_packed-3.new.out c.push_signed_numbers.new.out front (SpellsShape w c.args.rank c.args.sizes.now c.args.lower.now) (SpellsEachBy w.signed c.args.lower.now) added
    (λ ls h. shape_written tokens c.args.rank c.args.sizes.now c.args.lower.now r s ss.0 l ls c.requires (one.spells, one.shortest) (two.spells, two.shortest) ss.2 (three.spells, three.shortest) h)
    (c.push_signed_numbers.ensures tokens)
