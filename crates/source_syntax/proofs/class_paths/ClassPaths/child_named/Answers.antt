use Rattle.std.proofs.Common.{◌≡◌, ◌∙◌, true, false, ◌+◌, suc, length, Some, ap, sym, arith}
use Rattle.std.proofs.lemmas.Option.{same_Some, slice_get_within}
use Rattle.hash_places.specs.Slots.{place_of}
use Rattle.source_nodes.specs.NameTexts.{id_with}
use Rattle.source_syntax.specs.ClassNumbers.{class_hash, class_in, class_of, is_class}
use Rattle.source_syntax.specs.ClassTexts.{class_at, classes_in}
use Rattle.source_nodes.proofs.ChainLemmas.{ahead_next, hashed_next, smaller_next, ahead_of-smaller}
use Rattle.source_syntax.proofs.ClassLemmas.{is_apart, nowhere, place_is}
use Rattle.source_syntax.proofs.KeptClasses.{class_is, classes_long, older_is, read, read_is}
use Rattle.source_syntax.proofs.class_paths.ClassPaths.child_named.Goals as goal

pub overflow_add-result : goal.overflow_add-result
overflow_add-result c =
    let h = c.loop-at.invariant.hashed c.in-Some.place c.in-Some.is in
    let within = slice_get_within (classes_in c.self.inside.texts c.self.inside.classes) c.in-Some.place h.0 h.1 in
    let count = classes_long c.self.inside.texts c.self.inside.classes in
    let long : length c.as_slice-classes.result.now ≡ length c.self.inside.classes = ap length c.as_slice-classes.ensures in
    omega (arith, within, count, long, c.as_slice-classes.type_inv.0)

pub bounds-classes-place : goal.bounds-classes-place
bounds-classes-place c =
    let h = c.loop-at.invariant.hashed c.in-Some.place c.in-Some.is in
    let within = slice_get_within (classes_in c.self.inside.texts c.self.inside.classes) c.in-Some.place h.0 h.1 in
    let count = classes_long c.self.inside.texts c.self.inside.classes in
    let long : length c.as_slice-classes.result.now ≡ length c.self.inside.classes = ap length c.as_slice-classes.ensures in
    omega (arith, within, count, long)

pub is_class-requires : goal.is_class-requires
is_class-requires c =
    let h = c.loop-at.invariant.hashed c.in-Some.place c.in-Some.is in
    let within = slice_get_within (classes_in c.self.inside.texts c.self.inside.classes) c.in-Some.place h.0 h.1 in
    let count = classes_long c.self.inside.texts c.self.inside.classes in
    let at = read_is c.self.inside.classes c.as_slice-classes.result.now c.in-Some.place c.as_slice-classes.ensures (omega (arith, within, count)) in
    rw c.as_slice.ensures (c.self.invariant.within c.in-Some.place _ at)

pub returns-then-is_class-clause-found : goal.returns-then-is_class-clause-found
returns-then-is_class-clause-found c =
    let texts = c.self.inside.texts in
    let kept = c.self.inside.classes in
    let id = id_with c.args.space.now c.args.name.now in
    let class = read c.as_slice-classes.result.now c.in-Some.place in
    let one_more : c.in-Some.place + 1 ≡ suc c.in-Some.place = omega arith in
    let h = c.loop-at.invariant.hashed c.in-Some.place c.in-Some.is in
    let within = slice_get_within (classes_in texts kept) c.in-Some.place h.0 h.1 in
    let count = classes_long texts kept in
    let at = read_is kept c.as_slice-classes.result.now c.in-Some.place c.as_slice-classes.ensures (omega (arith, within, count)) in
    let own : is_class c.args.outer id (class_at texts class) ≡ true =
    ap (λ ts. is_class c.args.outer id (class_at ts class)) (sym c.as_slice.ensures) ∙ sym c.is_class.ensures ∙ c.if-is_class.true in
    ap Some one_more
    ∙ sym (place_is (classes_in texts kept) c.args.outer id c.in-Some.place (class_at texts class) c.self.invariant.found.distinct (class_is texts kept c.in-Some.place class at) own)
    ∙ ap (λ cs. class_in cs id c.args.outer) c.self.view_is

pub returns-clause-found : goal.returns-clause-found
returns-clause-found c =
    sym (nowhere (classes_in c.self.inside.texts c.self.inside.classes) c.args.outer (id_with c.args.space.now c.args.name.now)
    (λ k here. let a = c.loop-at.invariant.ahead k here in let no = sym a.1 ∙ c.in_default.is in absurd cc))
    ∙ ap (λ cs. class_in cs (id_with c.args.space.now c.args.name.now) c.args.outer) c.self.view_is

pub loop-at-smaller : goal.loop-at-smaller
loop-at-smaller c =
    let texts = c.self.inside.texts in
    let kept = c.self.inside.classes in
    let sought = class_of c.args.outer (id_with c.args.space.now c.args.name.now) in
    let class = read c.as_slice-classes.result.now c.in-Some.place in
    let h = c.loop-at.invariant.hashed c.in-Some.place c.in-Some.is in
    let within = slice_get_within (classes_in texts kept) c.in-Some.place h.0 h.1 in
    let count = classes_long texts kept in
    let at = read_is kept c.as_slice-classes.result.now c.in-Some.place c.as_slice-classes.ensures (omega (arith, within, count)) in
    ahead_of-smaller class.next c.loop-at.at c.in-Some.place c.in-Some.is
    (λ j is. smaller_next class_hash (place_of c.self.inside.newest) (classes_in texts kept) _ c.self.invariant.found.chained sought c.in-Some.place j _
    (class_is texts kept c.in-Some.place class at) (older_is kept c.in-Some.place class at ∙ ap Some is))

pub loop-at-preserved : goal.loop-at-preserved
loop-at-preserved c =
    let texts = c.self.inside.texts in
    let kept = c.self.inside.classes in
    let classes = classes_in texts kept in
    let id = id_with c.args.space.now c.args.name.now in
    let sought = class_of c.args.outer id in
    let class = read c.as_slice-classes.result.now c.in-Some.place in
    let found = c.self.invariant.found.chained in
    let h = c.loop-at.invariant.hashed c.in-Some.place c.in-Some.is in
    let within = slice_get_within classes c.in-Some.place h.0 h.1 in
    let count = classes_long texts kept in
    let at = read_is kept c.as_slice-classes.result.now c.in-Some.place c.as_slice-classes.ensures (omega (arith, within, count)) in
    let next = older_is kept c.in-Some.place class at in
    let same : h.0 ≡ class_at texts class = same_Some h.0 (class_at texts class) (sym h.1 ∙ class_is texts kept c.in-Some.place class at) in
    let other : is_class c.args.outer id (class_at texts class) ≡ false =
    ap (λ ts. is_class c.args.outer id (class_at ts class)) (sym c.as_slice.ensures) ∙ sym c.is_class.ensures ∙ c.if-is_class.false in
    let apart = is_apart h.0 c.args.outer id (ap (is_class c.args.outer id) same ∙ other) in
    record {
      hashed = λ m is. hashed_next class_hash _ classes _ found sought c.in-Some.place m h.0 h.1 (next ∙ ap Some is) h.2;
      ahead = λ k here.
          let a = c.loop-at.invariant.ahead k here in
          let last = same_Some a.0 c.in-Some.place (sym a.1 ∙ c.in-Some.is) in
          ahead_next class_hash _ classes _ found sought c.in-Some.place k h.0 class.next h.1 next h.2 apart here (omega (arith, a.2, last));
    }
