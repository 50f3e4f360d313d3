use Rattle.lower_members.proofs.properties.property.Goals as goal

pub returns : goal.returns
returns c s a x f ms e own each methods few =
    c.with_constant.ensures s a x f ms e own each methods few (c.in_ok-constant.ensures s f x.reads e each)
