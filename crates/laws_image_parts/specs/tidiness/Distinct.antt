-- What references keep besides, whatever was referred to: no content of a heap and no row of a table stands twice (ECMA-335
-- II.22.25, II.22.29, II.22.36, II.22.38, II.22.39, II.24.2.3, II.24.2.4).
use Rattle.std.specs.Prelude.{◌≡◌}
use Rattle.heaps.specs.Content.{HasText, HasBlob, HasUnits}
use Rattle.heaps.specs.Heap.{HoldsEach, HoldsOnce}
use Rattle.heaps.specs.Written.{HasShortBlob, HasWrittenUnits}
use Rattle.image_tokens.specs.Rows.{AreDistinct, EachRow}
use Rattle.image_tokens.specs.declared.references.References.{References}

-- each index in use has a content, as it is written, and no two have one content
pub record HasDistinctContents (r : References) : Type 0 where
  pub texts : HoldsEach HasText r.heaps.strings
  pub texts_once : HoldsOnce HasText r.heaps.strings
  pub blobs : HoldsEach HasShortBlob r.heaps.blobs
  pub blobs_once : HoldsOnce HasBlob r.heaps.blobs
  pub user : HoldsEach HasWrittenUnits r.heaps.user
  pub user_once : HoldsOnce HasUnits r.heaps.user

-- no two rows of TypeRef, MemberRef, StandAloneSig, TypeSpec or MethodSpec have the same cells
pub record HasDistinctRows (r : References) : Type 0 where
  pub names : AreDistinct r.referred.names
  pub members : AreDistinct r.referred.members
  pub locals : AreDistinct r.referred.locals
  pub specs : AreDistinct r.referred.specs
  pub instances : AreDistinct r.referred.instances

-- a row of MethodSpec has two cells alone (II.22.29)
abbrev pub HasTwoCells : References → Type 0
HasTwoCells r = EachRow (λ c. c.third ≡ 0) r.referred.instances
