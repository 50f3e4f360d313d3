use Rattle.std.proofs.Common.{◌≡◌, ap, ℕ, ◌+◌, ◌-◌, ◌<◌, ◌≤◌, ◌^◌, List, length, subst, sym, arith}
use Rattle.std.specs.Prelude.{sum_by}
use Rattle.heaps.specs.Heap.{Heap}
use Rattle.image_tokens.specs.declared.references.References.{References}
use Rattle.image_writer.specs.Beginning.{DeclaresTypes}
use Rattle.image_writer.proofs.BeginLemmas.{types_begun}
use Rattle.image_writer.proofs.beginning.begin_types.Goals as goal

pub declare_types-requires-clause-plain : goal.declare_types-requires-clause-plain
declare_types-requires-clause-plain c = c.requires.types.plain

pub declare_types-requires-clause-apart : goal.declare_types-requires-clause-apart
declare_types-requires-clause-apart c = c.requires.types.apart

pub declare_types-requires-clause-room : goal.declare_types-requires-clause-room
declare_types-requires-clause-room c = let one = ap (λ (h : Heap). length h.bytes) c.in_ok-strings.ensures in let room = c.requires.room in omega arith

pub declare_types-requires-clause-few : goal.declare_types-requires-clause-few
declare_types-requires-clause-few c = let few = c.requires.few in omega arith

pub returns : goal.returns
returns c =
    subst (λ (r : References). DeclaresTypes c.args.classes.now c.args.externs c.args.user r) (sym c.in_ok-boxed.ensures.ok)
    (types_begun c.args.classes.now c.args.externs c.in_ok-strings.strings c.declare_types.new.strings c.in_ok-blobs.blobs c.args.user c.in_ok-types.types c.new-3.result c.new-4.result c.new-5.result
    c.new-6.result c.in_ok-strings.ensures c.in_ok-blobs.ensures c.in_ok-types.ensures c.new-3.ensures c.new-4.ensures c.new-5.ensures c.new-6.ensures c.requires.few)
