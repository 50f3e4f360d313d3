-- Keys keep their types as a world goes on.
use Rattle.std.proofs.Common.{◌∙◌, ◌≤◌, refl, sym, arith, List, [], length}
use Rattle.std.specs.List.{All}
use Rattle.std.proofs.lemmas.List.{append-nil}
use Rattle.assembly_tree.specs.declared.assembly.Assembly.{Assembly}
use Rattle.type_order.specs.Staying.{KeepsKeys}
use Rattle.type_order.specs.Worlds.{IsFit, IsWorldOf, IsWorldSince}
use Rattle.type_hierarchy.specs.Scopes.{sources, Sources}
use Rattle.type_hierarchy.specs.World.{Content, Stays}
use Rattle.type_hierarchy.proofs.GrowLemmas.{extends_long, extends_trans}
use Rattle.type_order.proofs.JoinIds.{within_kept, meant_kept}

pub keeps_keys : (old new : Content) → Stays old new → KeepsKeys old new
keeps_keys old new s = record {
  ids = λ k h. (let l = extends_long old.nodes new.nodes s.nodes in omega arith, s.nodes.terms k h);
  stacks = λ t h. (within_kept old.nodes new.nodes t s.nodes h, meant_kept old.nodes new.nodes t s.nodes h);
}

pub stays_on : (a b c : Content) → Stays a b → Stays b c → Stays a c
stays_on a b c s t = record { tables = t.tables ∙ s.tables; nodes = extends_trans a.nodes b.nodes c.nodes s.nodes t.nodes }

-- ---- worlds

pub since_made : (image : Assembly) (references : List Assembly) (w : Content) → IsFit image → All IsFit references → length references ≤ 8 → IsWorldOf (sources image references) w
    → IsWorldSince (sources image references) w
since_made image references w fit others few made = record {
  image = fit;
  references = others;
  few = few;
  first = w;
  made = made;
  stays = record { tables = refl; nodes = record { more = []; nodes = sym (append-nil w.nodes); terms = λ k h. refl } };
}

pub since_on : (s : Sources) (old new : Content) → IsWorldSince s old → Stays old new → IsWorldSince s new
since_on s old new h stays = record {
  image = h.image;
  references = h.references;
  few = h.few;
  first = h.first;
  made = h.made;
  stays = stays_on h.first old new h.stays stays;
}
