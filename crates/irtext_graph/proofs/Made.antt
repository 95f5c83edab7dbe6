-- The view of an object that was made; and what is older is unchanged.
use Rattle.std.proofs.Common.{◌≡◌, ◌≤◌, ◌+◌, ℕ, refl, sym, ap, subst, arith, ◌∙◌, Option, None, List, [], map, slice_get, length, Result, Ok, Err, OnErr}
use Rattle.irtext_few.specs.Growing.{listed}
use Rattle.irtext_graph.specs.declared.graph.Counters.{Counters}
use Rattle.irtext_graph.specs.Arena as arena
use Rattle.irtext_graph.specs.declared.arena.Arena.{Arena}
use Rattle.irtext_graph.specs.declared.arena.Entry.{Entry}
use Rattle.irtext_graph.specs.declared.arena.Ptr.{Ptr}
use Rattle.irtext_graph.specs.declared.nest.Nest.{Nest}
use Rattle.irtext_graph.specs.declared.object.Operation.{Operation}
use Rattle.irtext_graph.specs.declared.object.BasicBlock.{BasicBlock}
use Rattle.irtext_graph.specs.declared.object.Region.{Region}
use Rattle.irtext_graph.specs.declared.objects.Objects.{Objects}
use Rattle.irtext_graph.specs.declared.objects.BlockData.{BlockData}
use Rattle.irtext_graph.specs.declared.objects.OperationData.{OperationData}
use Rattle.irtext_graph.specs.declared.objects.RegionData.{RegionData}
use Rattle.irtext_graph.specs.Store.{store_of, before, Inserts}
use Rattle.irtext_graph.specs.Content.{node_of, typed, operation_content, block_content, region_content}
use Rattle.irtext_graph.specs.declared.object.Value.{Value}
use Rattle.irtext_graph.specs.Linking.{IsBlank}
use Rattle.irtext_graph.specs.Graph.{GraphView, graph_of, seen, numbered, MakesRegion, MakesBlock, MakesOperation, KeepsOlder, GivesOnce}
use Rattle.irtext_graph.proofs.Stores.{inserts_seen, inserted-keeps, store_same}
use Rattle.irtext_graph.proofs.Once.{once_same, once_inserted, gives_same}
use Rattle.irtext_graph.proofs.Linkings.{unlinked_defs}
use Rattle.irtext_graph.proofs.Logs.{logged_kept, logged_list}
use Rattle.irtext_graph.proofs.Sounds.{sound_same}
use Rattle.irtext_graph.specs.Arena.{born_in, found}
use Rattle.irtext_graph.specs.declared.object.Object.{Object}
use Rattle.irtext_graph.specs.declared.object.Object.TheVariants.{TheOperation, TheBlock, TheRegion}
use Rattle.irtext_graph.specs.Log.{age}
use Rattle.irtext_graph.specs.Numbers.{AreNumbered}
use Rattle.irtext_graph.specs.Sound.{IsKept}

-- what holds in any case holds of an error
pub on_err : {A E P : Type 0} (r : Result A E) → P → OnErr r P
on_err (Ok a) p = tt
on_err (Err e) p = p

-- a number that is the same, or that grew, is no less
pub at_least : {a b : ℕ} → b ≡ a → a ≤ b
at_least e = omega (arith, e)

pub grown : {a b : ℕ} (n : ℕ) → b ≡ a + n → a ≤ b
grown n e = omega (arith, e)

-- arenas with the same slots, of which the same is free
pub record SameSlots {X : Type 0} (a b : Arena X) : Type 0 where
  pub items : b.slots.items ≡ a.slots.items
  pub free : b.free ≡ a.free

pub same_slots : {X : Type 0} {a : Arena X} → SameSlots a a
same_slots = record { items = refl; free = refl }

-- an object that was inserted is seen with its parent, without children, and with what its data show
pub node_inserted : {P C D E K : Type 0} (see : D → E) (a after : Arena (Nest P C D)) (p : Ptr K) (e : Entry (Nest P C D)) {m : ℕ} {above : Option (Ptr P)} {content : E} → arena.Inserts a after p e
    → e.born ≡ m → e.content.parent ≡ above → listed e.content.children ≡ [] → see e.content.data ≡ content
    → Inserts (store_of (node_of see) a) (store_of (node_of see) after) p (record { born = m; content = record { parent = above; children = []; content = content } })
node_inserted see a after p e i born above none same =
    subst (λ o. Inserts (store_of (node_of see) a) (store_of (node_of see) after) p o) (rw (born, above, none, same) refl) (inserts_seen (node_of see) a after p e i)

module _ {O B T : Type 0} where
  -- what is older is kept, by the kinds of objects and the counters
  pub older_kept : (m : ℕ) (old new : GraphView O B T) → ((q : Ptr Operation) → before m new.operations q ≡ before m old.operations q) → ((q : Ptr BasicBlock) → before m new.blocks q ≡ before m old.blocks q)
      → ((q : Ptr Region) → before m new.regions q ≡ before m old.regions q) → old.made ≤ new.made → old.values ≤ new.values → new.first_place ≡ old.first_place → GivesOnce old new → KeepsOlder m old new
  older_kept m old new operations blocks regions made values first pointers = record { operations = operations; blocks = blocks; regions = regions; made = made; values = values; first_place = first; pointers = pointers }

  -- objects in the same slots are seen as they were, and all is kept
  pub slots_seen : (m : ℕ) (v : Counters) (x y : Objects O B T) → SameSlots x.operations y.operations → SameSlots x.blocks y.blocks → SameSlots x.regions y.regions → graph_of m v y ≡ graph_of m v x
  slots_seen m v x y o b r =
      rw (store_same (node_of operation_content) x.operations y.operations o.items o.free, store_same (node_of block_content) x.blocks y.blocks b.items b.free, store_same (node_of region_content) x.regions y.regions r.items r.free) refl

  pub slots_kept : (m : ℕ) (v : Counters) (log after : List Object) (x y : Objects O B T) → after ≡ log → SameSlots x.operations y.operations → SameSlots x.blocks y.blocks → SameSlots x.regions y.regions → IsKept m v log x → IsKept m v after y
  slots_kept m v log after x y e o b r i = record {
    sound = sound_same m x y o.items b.items r.items i.sound;
    logged = logged_list m log after y e (logged_kept m log x y i.logged (λ q n f. sym (ages q) ∙ f));
    numbered = subst (λ g. AreNumbered g) (sym (slots_seen m v x y o b r)) i.numbered;
  }
    where
      ages : (q : Object) → age y q ≡ age x q
      ages (TheOperation p) = ap (λ xs. born_in (found (slice_get xs p.index) p.generation)) o.items
      ages (TheBlock p) = ap (λ xs. born_in (found (slice_get xs p.index) p.generation)) b.items
      ages (TheRegion p) = ap (λ xs. born_in (found (slice_get xs p.index) p.generation)) r.items

  pub same_keeps : (m : ℕ) (old new : GraphView O B T) → new ≡ old → KeepsOlder m old new
  same_keeps m old new e = record {
    operations = λ q. ap (λ (g : GraphView O B T). before m g.operations q) e;
    blocks = λ q. ap (λ (g : GraphView O B T). before m g.blocks q) e;
    regions = λ q. ap (λ (g : GraphView O B T). before m g.regions q) e;
    made = let k = ap (λ (g : GraphView O B T). g.made) e in omega (arith, k);
    values = let k = ap (λ (g : GraphView O B T). g.values) e in omega (arith, k);
    first_place = ap (λ (g : GraphView O B T). g.first_place) e;
    pointers = gives_same old new e;
  }

  pub regions_same : (m : ℕ) (v : Counters) (x : Objects O B T) (after : Arena (Nest Operation BasicBlock RegionData)) → after.slots.items ≡ x.regions.slots.items → after.free ≡ x.regions.free → graph_of m v (record x { regions = after }) ≡ graph_of m v x
  regions_same m v x after e f = rw (store_same (node_of region_content) x.regions after e f) refl

  pub region_made : (m : ℕ) (v : Counters) (x : Objects O B T) (after : Arena (Nest Operation BasicBlock RegionData)) (p : Ptr Region) (e : Entry (Nest Operation BasicBlock RegionData)) → arena.Inserts x.regions after p e
      → e.born ≡ m → e.content.parent ≡ None → listed e.content.children ≡ [] → MakesRegion (graph_of m v x) (graph_of (m + 1) v (record x { regions = after })) p
  region_made m v x after p e i born none empty = record {
    operations = refl;
    blocks = refl;
    regions = node_inserted region_content x.regions after p e i born none empty refl;
    made = refl;
    values = refl;
    first_place = refl;
  }

  pub region-keeps : (m : ℕ) (old new : GraphView O B T) (p : Ptr Region) → m ≤ old.made → MakesRegion old new p → KeepsOlder m old new
  region-keeps m old new p up k =
      older_kept m old new (λ q. ap (λ s. before m s q) k.operations) (λ q. ap (λ s. before m s q) k.blocks) (inserted-keeps m old.regions new.regions p _ up k.regions) (grown _ k.made) (at_least k.values) k.first_place
      (record { operations = once_same old.operations new.operations k.operations; blocks = once_same old.blocks new.blocks k.blocks; regions = once_inserted old.regions new.regions p _ k.regions })

  pub block_made : (m : ℕ) (v : Counters) (n : ℕ) (x : Objects O B T) (after : Arena (Nest Region Operation (BlockData B T))) (p : Ptr BasicBlock) (e : Entry (Nest Region Operation (BlockData B T))) (value : B) (types : List T) → arena.Inserts x.blocks after p e
      → e.born ≡ m → e.content.parent ≡ None → listed e.content.children ≡ [] → e.content.data.data ≡ value → map typed e.content.data.arguments ≡ numbered v.values types → n ≡ v.values + length types
      → MakesBlock (graph_of m v x) (graph_of (m + 1) (record v { values = n }) (record x { blocks = after })) p value types
  block_made m v n x after p e value types i born none empty same_value numbers count = record {
    operations = refl;
    blocks = node_inserted block_content x.blocks after p e i born none empty (rw (same_value, numbers) refl);
    regions = refl;
    made = refl;
    values = count;
    first_place = refl;
  }

  pub block-keeps : (m : ℕ) (old new : GraphView O B T) (p : Ptr BasicBlock) (value : B) (types : List T) → m ≤ old.made → MakesBlock old new p value types → KeepsOlder m old new
  block-keeps m old new p value types up k =
      older_kept m old new (λ q. ap (λ s. before m s q) k.operations) (inserted-keeps m old.blocks new.blocks p _ up k.blocks) (λ q. ap (λ s. before m s q) k.regions) (grown _ k.made) (grown _ k.values) k.first_place
      (record { operations = once_same old.operations new.operations k.operations; blocks = once_inserted old.blocks new.blocks p _ k.blocks; regions = once_same old.regions new.regions k.regions })

  pub operation_made : (m : ℕ) (v : Counters) (n : ℕ) (x : Objects O B T) (after : Arena (Nest BasicBlock Region (OperationData O T))) (p : Ptr Operation) (e : Entry (Nest BasicBlock Region (OperationData O T))) (value : O) (types : List T)
      (operands : List Value) (successors : List (Ptr BasicBlock)) → arena.Inserts x.operations after p e → e.born ≡ m → IsBlank e.content value types v.values operands successors → n ≡ v.values + length types
      → MakesOperation (graph_of m v x) (graph_of (m + 1) (record v { values = n }) (record x { operations = after })) p value types operands successors
  operation_made m v n x after p e value types operands successors i born b count = record {
    operations = node_inserted operation_content x.operations after p e i born b.parent b.children (rw (b.value_is, named_operands, named_successors, b.results.values) refl);
    blocks = refl;
    regions = refl;
    made = refl;
    values = count;
    first_place = refl;
  }
    where
      named_operands : map (λ u. u.def) e.content.data.operands ≡ operands
      named_operands = ap (map (λ u. u.def)) b.operand_uses ∙ unlinked_defs operands

      named_successors : map (λ u. u.def) e.content.data.successors ≡ successors
      named_successors = ap (map (λ u. u.def)) b.successor_uses ∙ unlinked_defs successors

  -- the same where only the use lists differ
  pub operation_made_seen : (m : ℕ) (v : Counters) (n : ℕ) (x y z : Objects O B T) (p : Ptr Operation) (value : O) (types : List T) (operands : List Value) (successors : List (Ptr BasicBlock)) → seen z ≡ seen y
      → MakesOperation (graph_of m v x) (graph_of (m + 1) (record v { values = n }) y) p value types operands successors → MakesOperation (graph_of m v x) (graph_of (m + 1) (record v { values = n }) z) p value types operands successors
  operation_made_seen m v n x y z p value types operands successors same k =
      subst (λ g. MakesOperation (graph_of m v x) g p value types operands successors) (ap (λ (g : GraphView O B T). record g { made = m + 1; values = n; first_place = v.first_place }) (sym same)) k

  pub operation-keeps : (m : ℕ) (old new : GraphView O B T) (p : Ptr Operation) (value : O) (types : List T) (operands : List Value) (successors : List (Ptr BasicBlock)) → m ≤ old.made
      → MakesOperation old new p value types operands successors → KeepsOlder m old new
  operation-keeps m old new p value types operands successors up k =
      older_kept m old new (inserted-keeps m old.operations new.operations p _ up k.operations) (λ q. ap (λ s. before m s q) k.blocks) (λ q. ap (λ s. before m s q) k.regions) (grown _ k.made) (grown _ k.values) k.first_place
      (record { operations = once_inserted old.operations new.operations p _ k.operations; blocks = once_same old.blocks new.blocks k.blocks; regions = once_same old.regions new.regions k.regions })
