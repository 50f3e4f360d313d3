use Rattle.std.proofs.Common.{◌≡◌, ◌∙◌, ◌∷◌, ◌++◌, ◌<◌, ◌≤◌, ◌+◌, ◌-◌, List, [], ap, sym, subst, take, drop, map, length, get_or, rules, arith}
use Rattle.std.specs.List.{flat_map}
use Rattle.std.proofs.lemmas.List.{take_all, length-map, length-drop}
use Rattle.assembly_tree.specs.declared.assembly.ExternAssembly.{ExternAssembly}
use Rattle.type_tables.specs.Entries.{IsEntries, extended}
use Rattle.type_tables.specs.Members.{assembly_of, member}
use Rattle.type_hierarchy.specs.Scopes.{sources, Member, extern_names, given, name_of, names_in}
use Rattle.type_tables.proofs.EntryLemmas.{extended_none, extended_both}
use Rattle.type_tables.proofs.MemberLemmas.{given_numbers}
use Rattle.type_tables.proofs.NamingLemmas.{taken_step, taken_all, given_more, names_more, entries_are, core_is}
use Rattle.type_tables.proofs.naming.read_names.Goals as goal

pub loop-other-preserved : goal.loop-other-preserved
loop-other-preserved c =
    let externs = c.args.image.now.externs in
    let i = c.loop-other.other-index in
    let low : i < length externs = search rules in
    let is : c.other-item.result ≡ get_or externs i c.other-item.result = search rules in
    subst (IsEntries c.push.new.self) (taken_step (λ (e : ExternAssembly). e.name) externs i c.other-item.result low is)
    (c.in_ok-push.ensures (take i (extern_names c.args.image.now)) c.loop-other.invariant)

pub loop-number-init : goal.loop-number-init
loop-number-init c =
    let past : length c.args.image.now.externs ≤ c.loop-other.other-index = search rules in
    record {
      given = c.new-given.ensures;
      entries = subst (IsEntries c.loop-other.entries)
          (taken_all (λ (e : ExternAssembly). e.name) c.args.image.now.externs c.loop-other.other-index past
          ∙ sym (extended_none (name_of c.args.image.now) (extern_names c.args.image.now)))
          c.loop-other.invariant;
    }

pub loop-number-preserved : goal.loop-number-preserved
loop-number-preserved c =
    let image = c.args.image.now in
    let s = sources image c.args.references.now in
    let ns = drop 1 c.args.numbers.now in
    let i = c.loop-number.number-index in
    let x = get_or ns i 0 in
    let low : i < length ns = search rules in
    let is : x ≡ get_or ns i x = search rules in
    let all = given_numbers s c.args.numbers.now c.requires.counted in
    let slice = c.as_slice.result.now in
    let rest : take (length slice - 1) (drop 1 slice) ≡ ns =
    take_all (length slice - 1) (drop 1 slice) (omega (arith, length-drop 1 slice)) ∙ ap (drop 1) c.as_slice.ensures in
    let of : c.assembly_of-reference.result.now ≡ assembly_of s x =
    c.assembly_of-reference.ensures ∙ ap (λ l. assembly_of s (get_or l i 0)) rest in
    record {
      given =
          c.in_ok-push-2.ensures.ok
          ∙ (λ j. (c.loop-number.invariant.given ∙ ap (λ g. map (λ (m : Member). name_of m.assembly) (take i g)) all) j ++ (c.in_ok-name.ensures ∙ ap name_of of) j ∷ [])
          ∙ given_more s ns i x low is ∙ ap (λ g. map (λ (m : Member). name_of m.assembly) (take (i + 1) g)) (sym all);
      entries =
          let so_far = flat_map names_in (take i (given s)) in
          subst (IsEntries c.add_names.new.entries)
          (extended_both (name_of image) (extern_names image) so_far (name_of c.assembly_of-reference.result.now ∷ extern_names c.assembly_of-reference.result.now)
          ∙ (λ j. extended (name_of image) (extern_names image) (flat_map names_in (take i (all j)) ++ (name_of (of j) ∷ extern_names (of j))))
          ∙ ap (extended (name_of image) (extern_names image)) (names_more s ns i x low is ∙ ap (λ g. flat_map names_in (take (i + 1) g)) (sym all)))
          (c.in_ok-add_names.ensures (extended (name_of image) (extern_names image) so_far) c.loop-number.invariant.entries);
    }

pub returns : goal.returns
returns c =
    let image = c.args.image.now in
    let s = sources image c.args.references.now in
    let all = given_numbers s c.args.numbers.now c.requires.counted in
    let past : length (drop 1 c.args.numbers.now) ≤ c.loop-number.number-index = search rules in
    let whole : take c.loop-number.number-index (given s) ≡ given s =
    take_all c.loop-number.number-index (given s) (omega (arith, ap (λ (g : List Member). length g) all, length-map (drop 1 c.args.numbers.now) (member s))) in
    record {
      core = c.core_of-core.ensures ∙ core_is s;
      image = c.in_ok-image.ensures;
      given = c.loop-number.invariant.given ∙ ap (map (λ (m : Member). name_of m.assembly)) whole;
      entries = subst (IsEntries c.loop-number.entries) (ap (λ g. extended (name_of image) (extern_names image) (flat_map names_in g)) whole ∙ entries_are s) c.loop-number.invariant.entries;
    }
