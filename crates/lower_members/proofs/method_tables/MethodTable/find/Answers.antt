use Rattle.std.proofs.Common.{◌≡◌, ◌<◌, ◌≤◌, ◌-◌, ◌∙◌, ℕ, Some, ap, sym, map, reverse, length, refl, arith}
use Rattle.std.specs.Prelude.{nat_eq, position, slice_get}
use Rattle.std.proofs.lemmas.List.{length-map}
use Rattle.std.proofs.lemmas.Option.{same_Some, slice_get_read, slice_get_within}
use Rattle.indexmap.specs.IndexMap.{get}
use Rattle.source_nodes.proofs.ChainLemmas.{ahead_first, ahead_next, hashed_first, hashed_next}
use Rattle.lower_members.specs.MethodHashes.{signed_hash}
use Rattle.lower_members.specs.SignedMethods.{Signed, is_signed, signed}
use Rattle.lower_members.proofs.FirstSigned.{entries, entry, last_is_first, nowhere_first}
use Rattle.lower_members.proofs.SameSignatures.{other_signed, signed_itself, signed_same}
use Rattle.lower_members.proofs.method_tables.MethodTable.find.Goals as goal

pub loop-at-init : goal.loop-at-init
loop-at-init c =
    let newest = get nat_eq c.self.inside.newest in
    let items = reverse (map signed c.self.inside.methods.now) in
    let sought : Signed = record { name = c.args.name.now; sig = c.args.sig.now } in
    let begins : newest (signed_hash sought) ≡ c.copied-at.result = sym (c.copied-at.ensures ∙ c.get.ensures.value ∙ ap newest c.signed_hash.ensures) in
    record {
      hashed = λ m is. hashed_first signed_hash newest items c.self.inside.nexts c.self.invariant sought m (begins ∙ is);
      ahead = λ k here.
          let r = ahead_first signed_hash newest items c.self.inside.nexts c.self.invariant sought k here in (r.0, sym begins ∙ r.1, r.2);
    }

pub overflow_sub-k-in-Some : goal.overflow_sub-k-in-Some
overflow_sub-k-in-Some c =
    let methods = c.self.inside.methods.now in
    let h = c.loop-at.invariant.hashed c.in-Some.place c.in-Some.is in
    let within = slice_get_within (reverse (map signed methods)) c.in-Some.place h.0 h.1 in
    omega (arith, within, entries signed methods)

pub returns-then-is_signed : goal.returns-then-is_signed
returns-then-is_signed c =
    let methods = c.self.inside.methods.now in
    let name = c.args.name.now in
    let sig = c.args.sig.now in
    let sought : Signed = record { name = name; sig = sig } in
    let place = c.in-Some.place in
    let h = c.loop-at.invariant.hashed place c.in-Some.is in
    let within : place < length methods = omega (arith, slice_get_within (reverse (map signed methods)) place h.0 h.1, entries signed methods) in
    let method = c.index-self-k.result in
    let read : slice_get methods (length methods - 1 - place) ≡ Some method =
    slice_get_read methods (length methods) (length methods - 1 - place) method refl (omega (arith, within)) c.index-self-k.is in
    let same : signed method ≡ sought = signed_same name sig (signed method) (ap (λ m. is_signed name sig (signed m)) c.index-self-k.is ∙ sym c.is_signed.ensures ∙ c.if-is_signed.true) in
    let last : (k : ℕ) → slice_get (reverse (map signed methods)) k ≡ Some sought → k ≤ place = λ k here.
    let a = c.loop-at.invariant.ahead k here in
    let at = same_Some a.0 place (sym a.1 ∙ c.in-Some.is) in
    omega (arith, a.2, at) in
    sym (last_is_first (is_signed name sig) sought (signed_same name sig) (signed_itself c.orders_are_total.ensures.terms sought) (map signed methods) place (length methods)
    (sym (length-map methods signed)) (entry signed methods place method within read ∙ ap Some same) last)
    ∙ ap (position (is_signed name sig)) c.self.view_is

pub at-at-requires : goal.at-at-requires
at-at-requires c =
    let h = c.loop-at.invariant.hashed c.in-Some.place c.in-Some.is in
    let within = slice_get_within (reverse (map signed c.self.inside.methods.now)) c.in-Some.place h.0 h.1 in
    omega (arith, within, c.self.invariant.paired)

pub returns : goal.returns
returns c =
    let methods = c.self.inside.methods.now in
    let name = c.args.name.now in
    let sig = c.args.sig.now in
    let sought : Signed = record { name = name; sig = sig } in
    sym (nowhere_first (is_signed name sig) sought (signed_same name sig) (signed_itself c.orders_are_total.ensures.terms sought) (map signed methods)
    (λ k here. let a = c.loop-at.invariant.ahead k here in let no = sym a.1 ∙ c.in_default.is in absurd cc))
    ∙ ap (position (is_signed name sig)) c.self.view_is

pub loop-at-preserved : goal.loop-at-preserved
loop-at-preserved c =
    let methods = c.self.inside.methods.now in
    let items = reverse (map signed methods) in
    let newest = get nat_eq c.self.inside.newest in
    let name = c.args.name.now in
    let sig = c.args.sig.now in
    let sought : Signed = record { name = name; sig = sig } in
    let place = c.in-Some.place in
    let h = c.loop-at.invariant.hashed place c.in-Some.is in
    let within : place < length methods = omega (arith, slice_get_within items place h.0 h.1, entries signed methods) in
    let method = c.index-self-k.result in
    let read : slice_get methods (length methods - 1 - place) ≡ Some method =
    slice_get_read methods (length methods) (length methods - 1 - place) method refl (omega (arith, within)) c.index-self-k.is in
    let same : h.0 ≡ signed method = same_Some h.0 (signed method) (sym h.1 ∙ entry signed methods place method within read) in
    let apart = other_signed c.orders_are_total.ensures.terms name sig h.0 (ap (is_signed name sig) same ∙ ap (λ m. is_signed name sig (signed m)) c.index-self-k.is ∙ sym c.is_signed.ensures ∙ c.if-is_signed.false) in
    record {
      hashed = λ m is. hashed_next signed_hash newest items c.self.inside.nexts c.self.invariant sought place m h.0 h.1 (c.at-at.ensures ∙ ap Some is) h.2;
      ahead = λ k here.
          let a = c.loop-at.invariant.ahead k here in
          let last = same_Some a.0 place (sym a.1 ∙ c.in-Some.is) in
          ahead_next signed_hash newest items c.self.inside.nexts c.self.invariant sought place k h.0 c.at-at.result.now h.1 c.at-at.ensures h.2 apart here (omega (arith, a.2, last));
    }
