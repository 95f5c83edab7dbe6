-- Edits of the data of one operation or of one block: what they leave unchanged, and how they are made of their parts.
use Rattle.std.proofs.Common.{◌≡◌, ◌∙◌, ℕ, ap, refl, arith, Option, Some, None}
use Rattle.std.specs.Option.{option_map}
use Rattle.irtext_context.specs.Context.{ContextView, KeepsOlder, EditsOperation, EditsBlock}
use Rattle.irtext_context.specs.declared.base.block.BlockData.{BlockData}
use Rattle.irtext_context.specs.declared.base.operation.OperationData.{OperationData}
use Rattle.irtext_context.proofs.Contexts.{same-paths}
use Rattle.irtext_graph.specs.Data.{with_data, with_block}
use Rattle.irtext_graph.specs.Store.{Store, Edits, get, before, object_of}
use Rattle.irtext_graph.specs.declared.arena.Ptr.{Ptr}
use Rattle.irtext_graph.specs.declared.object.BasicBlock.{BasicBlock}
use Rattle.irtext_graph.specs.declared.object.Operation.{Operation}
use Rattle.irtext_graph.proofs.Once.{gives_on}
use Rattle.irtext_graph.specs.Graph.{GivesOnce}

-- an edit that leaves its object as it was
edits_nothing : {X K : Type 0} (s : Store X) (p : Ptr K) (change : X → X) → get s p ≡ option_map (object_of change) (get s p) → Edits s s p change
edits_nothing s p change e = record { updates = record { changed = e; others = λ q n. refl }; generations = λ i. refl; free = refl; len = refl }

module _ {T A : Type 0} where
  -- all of a context but its operations and blocks is unchanged
  abbrev pub SameRest : ContextView T A → ContextView T A → Type 0
  SameRest a b =
      (b.graph.regions ≡ a.graph.regions) × (b.graph.made ≡ a.graph.made) × (b.graph.values ≡ a.graph.values) × (b.graph.first_place ≡ a.graph.first_place) × (b.paths ≡ a.paths) × (b.dialects ≡ a.dialects)

  pub rest_same : (c : ContextView T A) → SameRest c c
  rest_same c = (refl, refl, refl, refl, refl, refl)

  pub rest_twice : (a b c : ContextView T A) → SameRest a b → SameRest b c → SameRest a c
  rest_twice a b c r s = (s.0 ∙ r.0, s.1 ∙ r.1, s.2 ∙ r.2, s.3 ∙ r.3, s.4 ∙ r.4, s.5 ∙ r.5)

  -- an edit of an operation leaves it unchanged, and so does one of a block
  pub operation_rest : (a b : ContextView T A) (p : Ptr Operation) (f : OperationData A → OperationData A) → EditsOperation a b p f → SameRest a b
  operation_rest a b p f e = (e.graph.regions, e.graph.made, e.graph.values, e.graph.first_place, e.paths, e.dialects)

  pub block_rest : (a b : ContextView T A) (p : Ptr BasicBlock) (f : BlockData A → BlockData A) → EditsBlock a b p f → SameRest a b
  block_rest a b p f e = (e.graph.regions, e.graph.made, e.graph.values, e.graph.first_place, e.paths, e.dialects)

  -- an edit of an operation, and one of a block, of their parts
  pub operation_edit : (a b : ContextView T A) (p : Ptr Operation) (f : OperationData A → OperationData A) → Edits a.graph.operations b.graph.operations p (with_data (option_map f)) → b.graph.blocks ≡ a.graph.blocks → SameRest a b → EditsOperation a b p f
  operation_edit a b p f e same r = record { graph = record { operations = e; blocks = same; regions = r.0; made = r.1; values = r.2; first_place = r.3 }; paths = r.4; dialects = r.5 }

  pub block_edit : (a b : ContextView T A) (p : Ptr BasicBlock) (f : BlockData A → BlockData A) → b.graph.operations ≡ a.graph.operations → Edits a.graph.blocks b.graph.blocks p (with_block f) → SameRest a b → EditsBlock a b p f
  block_edit a b p f same e r = record { graph = record { operations = same; blocks = e; regions = r.0; made = r.1; values = r.2; first_place = r.3 }; paths = r.4; dialects = r.5 }

  -- an edit that leaves its operation, or its block, as it was
  pub operation_unedited : (c : ContextView T A) (p : Ptr Operation) (f : OperationData A → OperationData A) → get c.graph.operations p ≡ option_map (object_of (with_data (option_map f))) (get c.graph.operations p) → EditsOperation c c p f
  operation_unedited c p f e = operation_edit c c p f (edits_nothing c.graph.operations p (with_data (option_map f)) e) refl (rest_same c)

  pub block_unedited : (c : ContextView T A) (p : Ptr BasicBlock) (f : BlockData A → BlockData A) → get c.graph.blocks p ≡ option_map (object_of (with_block f)) (get c.graph.blocks p) → EditsBlock c c p f
  block_unedited c p f e = block_edit c c p f refl (edits_nothing c.graph.blocks p (with_block f) e) (rest_same c)

  -- what is older is kept from before one edit to after another, where it is between them, and their objects are as they were
  pub kept_around : (mark : ℕ) (a b c d : ContextView T A) → SameRest a b → GivesOnce a.graph b.graph → KeepsOlder mark b c → SameRest c d → GivesOnce c.graph d.graph → ((q : Ptr Operation) → before mark d.graph.operations q ≡ before mark a.graph.operations q)
      → ((q : Ptr BasicBlock) → before mark d.graph.blocks q ≡ before mark a.graph.blocks q) → KeepsOlder mark a d
  kept_around mark a b c d r taken kept s returned operations blocks = record {
    graph = record {
      operations = operations;
      blocks = blocks;
      regions = λ q. ap (λ t. before mark t q) s.0 ∙ (kept.graph.regions q ∙ ap (λ t. before mark t q) r.0);
      made = let i = r.1 in let j = kept.graph.made in let k = s.1 in omega (arith, i, j, k);
      values = let i = r.2 in let j = kept.graph.values in let k = s.2 in omega (arith, i, j, k);
      first_place = s.3 ∙ (kept.graph.first_place ∙ r.3);
      pointers = gives_on a.graph b.graph d.graph taken (gives_on b.graph c.graph d.graph kept.graph.pointers returned);
    };
    paths = λ i path f. same-paths s.4 i path (kept.paths i path (same-paths r.4 i path f));
    dialects = s.5 ∙ (kept.dialects ∙ r.5);
  }
