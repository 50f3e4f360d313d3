-- The nodes of the types and of the references so far.
use Rattle.std.proofs.Common.{◌≡◌, ℕ, ◌+◌, ◌<◌, ◌≤◌, ◌⊎◌, inl, inr, List, length, set, refl, sym, ◌∙◌, ap, arith}
use Rattle.std.proofs.lemmas.Bool.{cases_eq}
use Rattle.std.proofs.lemmas.List.{get_or-set_same, get_or-set_other, length-set}
use Rattle.image_model.specs.Rows.{count_of}
use Rattle.name_numbers.specs.Names.{node_at}
use Rattle.name_numbers.specs.declared.numbering.Node.{Node}
use Rattle.type_names.specs.Forest.{type_node, reference_node}

abbrev no_node : Node
no_node = record { parent = 0; space = 0; text = 0 }

-- the nodes from one place up to another are told, and the others as before
pub record AreFilled (start upto end : ℕ) (told : ℕ → Node) (before nodes : List Node) : Type 0 where
  pub long : length nodes ≡ length before
  pub filled : (row : ℕ) → 0 < row → row ≤ upto → node_at nodes (start + row) ≡ told row
  pub others : (k : ℕ) → (k ≤ start) ⊎ (end < k) → node_at nodes k ≡ node_at before k

pub fill_none : (start end : ℕ) (told : ℕ → Node) (nodes : List Node) → AreFilled start 0 end told nodes nodes
fill_none start end told nodes = record {
  long = refl;
  filled = λ row some upto. absurd (omega arith);
  others = λ k away. refl;
}

pub fill_more : (start upto end row : ℕ) (told : ℕ → Node) (before nodes : List Node) (k : ℕ) (node : Node) → upto + 1 ≡ row → start + row ≤ end → k ≡ start + row
    → start + row < length before → node ≡ told row → AreFilled start upto end told before nodes → AreFilled start row end told before (set nodes k node)
fill_more start upto end row told before nodes k node next within at less is so = record {
  long = length-set nodes k node ∙ so.long;
  filled = λ r some upto. elim (cases_eq r row) [
    | inl e ↦
        ap (λ z. node_at (set nodes k node) (start + z)) e ∙ ap (node_at (set nodes k node)) (sym at)
        ∙ get_or-set_same nodes k node no_node (let l = so.long in omega arith) ∙ is ∙ ap told (sym e)
    | inr n ↦ get_or-set_other nodes k (start + r) node no_node (λ e. absurd (omega arith)) ∙ so.filled r some (omega arith)
  ];
  others = λ j away.
      get_or-set_other nodes k j node no_node (λ e. elim away [ inl low ↦ absurd (omega arith) | inr high ↦ absurd (omega arith) ]) ∙ so.others j away;
}

abbrev pub TypesSoFar : List ℕ → ℕ → List Node → List Node → Type 0
TypesSoFar image upto before nodes = AreFilled 0 upto (count_of image 0x02) (type_node image) before nodes

abbrev pub RefsSoFar : List ℕ → ℕ → List Node → List Node → Type 0
RefsSoFar image upto before nodes = AreFilled (count_of image 0x02) upto (count_of image 0x02 + count_of image 0x01) (reference_node image) before nodes
