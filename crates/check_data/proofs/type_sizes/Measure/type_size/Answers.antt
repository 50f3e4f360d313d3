use Rattle.std.proofs.Common.{◌≡◌, ◌∙◌, ap, sym, subst}
use Rattle.std.specs.Prelude.{Bool, IfOk, None, if◌then◌else◌}
use Rattle.source_model.specs.OutOfRange.{asked_size, asked_value_size}
use Rattle.source_model.specs.Types.{base_type, type_of, types_in}
use Rattle.source_nodes.proofs.Collecting.{after_is, below_is}
use Rattle.source_syntax.proofs.TypeWalks.{empty_type, other_type}
use Rattle.check_data.proofs.TypeSizeLemmas.{begun, void_size}
use Rattle.check_data.proofs.type_sizes.Measure.type_size.Goals as goal

pub returns-in_default : goal.returns-in_default
returns-in_default c s a f m e h = void_size s a (type_of s a f) (empty_type s a f (e ∙ c.in_default.ensures))

pub returns-in_default-node : goal.returns-in_default-node
returns-in_default-node c s a f m e h =
    void_size s a (type_of s a f) (other_type s a f c.args.nodes.now c.in-Some.x c.in-Some.ensures e (λ p count is. c.in_default-node.not-Branch p count is))

pub keeps_size-requires : goal.keeps_size-requires
keeps_size-requires c = after_is c.args.nodes.now c.in-Some.x c.in-Branch.production _ c.in-Some.ensures c.in-Branch.is c.requires

pub base_size-requires : goal.base_size-requires
base_size-requires c = below_is c.args.nodes.now c.in-Some.x c.in-Branch.production _ c.in-Some.ensures c.in-Branch.is c.requires

pub returns-then-not-keeps_size : goal.returns-then-not-keeps_size
returns-then-not-keeps_size c s a f m e h =
    let b = begun s a f c.args.nodes.now c.in-Some.x c.in-Branch.production _ c.in-Some.ensures c.in-Branch.is e h in
    let t = base_type s a c.in-Branch.production b.base (types_in s a b.base) in
    sym (ap (asked_size s) b.type ∙ c.keeps_size.ensures s a b.suffixes b.suffixes-are (asked_value_size s) t
    ∙ ap (λ (k : Bool). if k then asked_size s t else None) c.if-not-keeps_size.true)

pub returns : goal.returns
returns c s a f m e h =
    let b = begun s a f c.args.nodes.now c.in-Some.x c.in-Branch.production _ c.in-Some.ensures c.in-Branch.is e h in
    let t = base_type s a c.in-Branch.production b.base (types_in s a b.base) in
    let same = ap (asked_size s) b.type ∙ c.keeps_size.ensures s a b.suffixes b.suffixes-are (asked_value_size s) t
    ∙ ap (λ (k : Bool). if k then asked_size s t else None) c.if-not-keeps_size.false in
    subst (λ x. IfOk c.base_size.result (λ n. n ≡ x)) (sym same) (c.base_size.ensures s a b.base m b.base-is b.bodies)
