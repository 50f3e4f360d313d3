use Rattle.check_members.proofs.member_reading.Signatures.referred.Goals as goal

pub returns : goal.returns
returns g c s a f v r p e fits bodies unbroken =
    let at = c.at-at.ensures s a v r p in
    let sound = c.unbroken_signatures_are_sound.ensures.reference s a f bodies unbroken in
    let generic = c.in_ok-generic.ensures s a f at e sound.generics in
    let sig = c.in_ok-sig.ensures s a at f e sound generic in
    let name = c.in_ok-name.ensures s a f r e fits bodies in
    λ k. record { name = name k; sig = sig k }
