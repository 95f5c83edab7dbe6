-- A region that is created as it is entered: what stays live and what names refer to, and what came.
use Rattle.std.proofs.Common.{◌≤◌, ℕ, [], ◌∷◌, Option, Some, None, IsSome, arith, ap}
use Rattle.std.specs.Prelude.{IfSome}
use Rattle.std.specs.Option.{option_map}
use Rattle.irtext_context.specs.Context.{ContextView, operation, AddsRegion}
use Rattle.irtext_graph.specs.declared.arena.Ptr.{Ptr}
use Rattle.irtext_graph.specs.declared.object.Operation.{Operation}
use Rattle.irtext_graph.specs.declared.object.Region.{Region}
use Rattle.irtext_graph.specs.declared.object.Object.TheVariants.{TheOperation, TheRegion}
use Rattle.irtext_graph.specs.Content.{ARegion}
use Rattle.irtext_graph.specs.Graph.{content_of, IsLive, IsNew}
use Rattle.irtext_names.specs.Items.{KeepsLive}
use Rattle.irtext_names.proofs.Lasting.{data_there}
use Rattle.irtext_grammar.specs.Grows.{RegionCame, OperationGains}
use Rattle.irtext_grammar.specs.Unchanged.{ModifiesOnly}
use Rattle.irtext_grammar.proofs.Edits.{region_added_came, region_added_gains, region_added_spares}
use Rattle.irtext_names.specs.Placing.{CreatesIn}
use Rattle.irtext_parse_nested.proofs.RegionAdded as added
use Rattle.irtext_parse_nested.proofs.RegionAdded.{operation_same, object_same}
use Rattle.irtext_parse_nested.proofs.NamesLeft.{LeavesNames}
use Rattle.irtext_parse_nested.proofs.RegionCreated.{CreatesRegion, created_lasts, created_there, created_new}
use Rattle.irtext_parse_nested.proofs.Unplaced.{alone_creates, alone_leaves, alone_came}

module _ {T A : Type 0} (old new : ContextView T A) (op : Ptr Operation) (r : Ptr Region) (adds : AddsRegion old new op r) where
  added_creates : CreatesRegion old new r
  added_creates = record {
    operations = operation_same old.graph new.graph op r adds.graph;
    objects = object_same old.graph new.graph op r adds.graph;
    blocks = adds.graph.blocks;
    itself = ap (λ z. option_map (λ d. ARegion d.0 d.1) (content_of z)) adds.graph.regions.updates.changed;
    others = λ q n. ap (λ z. option_map (λ d. ARegion d.0 d.1) (content_of z)) (adds.graph.regions.updates.others q n);
    made = let e = adds.graph.made in omega (arith, e);
    dialects = adds.dialects;
  }

  -- what names refer to is left
  added_leaves : IsSome (operation old op) → LeavesNames old.graph new.graph
  added_leaves has = let x = data_there old op has in added.region_leaves old.graph new.graph op r adds.graph x.0 x.1

-- ---- a region that was created, the last of an operation or without a parent
module _ {T A : Type 0} (old new : ContextView T A) (r : Ptr Region) where
  region_creates : (op : Option (Ptr Operation)) → CreatesIn op old new r → CreatesRegion old new r
  region_creates (Some op) adds = added_creates old new op r adds
  region_creates None (makes, with_it) = alone_creates old new r makes with_it

  -- the open objects are still live
  pub region_lasts : (op : Option (Ptr Operation)) → CreatesIn op old new r → KeepsLive old new
  region_lasts op creates = created_lasts (region_creates op creates)

  -- the region is there, and is new
  pub region_there : (op : Option (Ptr Operation)) → CreatesIn op old new r → IsLive new.graph (TheRegion r)
  region_there op creates = created_there (region_creates op creates)

  pub region_new : (op : Option (Ptr Operation)) → CreatesIn op old new r → (m : ℕ) → m ≤ old.graph.made → IsNew m new.graph (TheRegion r)
  region_new op creates = created_new (region_creates op creates)

  -- what names refer to is left
  pub region_leaves : (op : Option (Ptr Operation)) → IfSome op (λ o. IsSome (operation old o)) → CreatesIn op old new r → LeavesNames old.graph new.graph
  region_leaves (Some op) has adds = added_leaves old new op r adds has
  region_leaves None has (makes, with_it) = alone_leaves old.graph new.graph r makes

  -- it came, and all else but its operation is unchanged
  pub region_came : (op : Option (Ptr Operation)) → CreatesIn op old new r → RegionCame old new r
  region_came (Some op) adds = region_added_came old new op r adds
  region_came None (makes, with_it) = alone_came old new r makes with_it

  pub region_gains : (op : Option (Ptr Operation)) → CreatesIn op old new r → IfSome op (λ o. OperationGains old new o r)
  region_gains (Some op) adds = region_added_gains old new op r adds
  region_gains None made = tt

  pub region_spares : (op : Option (Ptr Operation)) → CreatesIn op old new r → IfSome op (λ o. ModifiesOnly (TheRegion r ∷ TheOperation o ∷ []) old new)
  region_spares (Some op) adds = region_added_spares old new op r adds
  region_spares None made = tt
