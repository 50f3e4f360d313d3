use Rattle.std.proofs.Common.{◌≡◌, ap, subst, [], ◌∷◌, List}
use Rattle.type_terms.specs.declared.name.TypeId.{TypeId}
use Rattle.image_members.specs.Declaring.{module_place, Declares}
use Rattle.image_tokens.specs.Texts.{id_size}
use Rattle.image_members.proofs.DeclaringLemmas.{declares_all}
use Rattle.image_members.proofs.declaring.declare_types.Goals as goal

pub returns : goal.returns
returns c =
    let first : Declares (module_place ∷ []) 10 c.make_room.new.self c.declare_type.new.strings c.in_ok-rows.rows c.declare_type.new.rows =
    subst (λ (id : TypeId). Declares (record { encloser = 0; id = id } ∷ []) (id_size id) c.make_room.new.self c.declare_type.new.strings c.in_ok-rows.rows c.declare_type.new.rows)
    c.in_ok-module.ensures c.in_ok-declare_type.ensures in
    declares_all c.args.classes.now c.args.strings.now c.declare_type.new.strings c.declare_classes.new.strings c.in_ok-rows.rows c.declare_type.new.rows c.declare_classes.new.rows
    c.in_ok-rows.ensures c.requires.apart (rw c.make_room.ensures at first) c.in_ok-declare_classes.ensures
