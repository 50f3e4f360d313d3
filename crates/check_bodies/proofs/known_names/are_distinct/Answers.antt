use Rattle.std.proofs.Common.{◌+◌, ◌≤◌, get_or, length, map, take, refl, arith, rules}
use Rattle.std.specs.Prelude.{None}
use Rattle.std.proofs.lemmas.Option.{slice_get-get_or}
use Rattle.il_lexer.specs.declared.types.TokenKind.TheVariants.{Name}
use Rattle.source_model.specs.Values.{name_text}
use Rattle.source_nodes.specs.Readers.{IsOf}
use Rattle.source_syntax.proofs.MethodLemmas.{all_at}
use Rattle.source_syntax.proofs.NamingLemmas.{found_all, found_other}
use Rattle.check_bodies.proofs.KnownLemmas.{no_repeat, none_same, slots_next}
use Rattle.check_bodies.proofs.known_names.are_distinct.Goals as goal

pub loop-k-preserved : goal.loop-k-preserved
loop-k-preserved c =
    let labels = c.args.labels.now in
    let i = c.loop-k.k in
    let within = c.loop-k-test.true in
    let token = get_or labels i 0 in
    let stands = slice_get-get_or labels i 0 within in
    let now = c.loop-k.invariant in
    record {
      size = search rules;
      found = λ s r names.
          let free = c.take_slot.ensures.free s r (all_at (IsOf s Name) labels i token names stands) c.if-not-take_slot.false in
          found_other (name_text s) labels (map (name_text s) labels) i None within refl
          (no_repeat s labels i within (none_same s c.loop-k.slots token (take i labels) free (now.taken s r names))) (now.found s r names);
      taken = λ s r names.
          let name = all_at (IsOf s Name) labels i token names stands in
          slots_next s c.loop-k.slots c.take_slot.new.slots labels i token (i + 1) now.size stands
          (c.take_slot.ensures.free s r name c.if-not-take_slot.false) (omega arith) (c.take_slot.ensures.taken s r name c.if-not-take_slot.false) (now.taken s r names);
    }

pub returns : goal.returns
returns c s r names is =
    let over : length c.args.labels.now ≤ c.loop-k.k = omega (arith, c.loop-k-test.false) in
    found_all (name_text s) c.args.labels.now c.loop-k.k None over (c.loop-k.invariant.found s r names)
