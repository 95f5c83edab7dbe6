-- The data of one operation or of one block are written: all is sound, and nothing else changed.
use Rattle.std.proofs.Common.{◌≡◌, ◌≢◌, ◌∙◌, ◌⊎◌, inl, inr, ◌==◌, ℕ, refl, sym, ap, subst, Bool, true, false, cond, nat_lt, Option, Some, None, List, [], ◌∷◌, zero, suc, map, set, slice_get}
use Rattle.std.specs.Option.{option_map}
use Rattle.std.proofs.lemmas.Bool.{eqb-true, eq-eqb, ne_eqb}
use Rattle.std.proofs.lemmas.List.{map-set, length-set}
use Rattle.irtext_graph.specs.declared.graph.Counters.{Counters}
use Rattle.irtext_graph.specs.Arena as arena
use Rattle.irtext_graph.specs.Arena.{KeepsPlaces, born_in, filled, older}
use Rattle.irtext_graph.specs.declared.arena.Arena.{Arena}
use Rattle.irtext_graph.specs.declared.arena.Entry.{Entry}
use Rattle.irtext_graph.specs.declared.arena.Ptr.{Ptr}
use Rattle.irtext_graph.specs.declared.arena.Slot.TheVariants.{Full}
use Rattle.irtext_graph.specs.declared.nest.Nest.{Nest}
use Rattle.irtext_graph.specs.declared.object.BasicBlock.{BasicBlock}
use Rattle.irtext_graph.specs.declared.object.Operation.{Operation}
use Rattle.irtext_graph.specs.declared.object.Region.{Region}
use Rattle.irtext_graph.specs.declared.object.Object.{Object}
use Rattle.irtext_graph.specs.declared.object.Object.TheVariants.{TheOperation, TheBlock, TheRegion}
use Rattle.irtext_graph.specs.declared.object.Value.TheVariants.{Result, Argument}
use Rattle.irtext_graph.specs.declared.object.Defined.{Defined}
use Rattle.irtext_graph.specs.declared.object.Defined.TheVariants.{OfValue, OfBlock}
use Rattle.irtext_graph.specs.declared.object.Site.{Site}
use Rattle.irtext_graph.specs.declared.object.Site.TheVariants.{AtOperand, AtSuccessor}
use Rattle.irtext_graph.specs.declared.objects.Objects.{Objects}
use Rattle.irtext_graph.specs.declared.objects.BlockData.{BlockData}
use Rattle.irtext_graph.specs.declared.objects.OperationData.{OperationData}
use Rattle.irtext_graph.specs.Store.{Cell, Store, Edits, store_of, cell_of, object_of, object_in, drawn, get, before}
use Rattle.irtext_graph.specs.Content.{Node, Content, node_of, operation_content, block_content}
use Rattle.irtext_graph.specs.Data.{edited_at, with_object, with_data, with_block, with_operation_data, with_block_data, EditsOperation, EditsBlock}
use Rattle.irtext_graph.specs.Graph.{GraphView, graph_of, content_of, KeepsOlder, GivesOnce}
use Rattle.irtext_graph.specs.Lending.{with_content_at}
use Rattle.irtext_graph.specs.Log.{age}
use Rattle.irtext_graph.specs.Nest.{parent_in, children_in}
use Rattle.irtext_graph.specs.Numbers.{AreNumbered}
use Rattle.irtext_graph.specs.Objects.{up, kids, born_of, is_older}
use Rattle.irtext_graph.specs.Parts.{operation_at, block_at}
use Rattle.irtext_graph.specs.Sound.{IsSound, IsKept}
use Rattle.irtext_graph.specs.Uses.{operand_in, successor_in, result_in, argument_in, preds_in, first_of, use_at, head_at, either}
use Rattle.irtext_graph.proofs.Arenas.{Replaced, replaced, same_view, edited as arena_edited, lent, content_is_live, places_kept}
use Rattle.irtext_graph.proofs.Logs.{logged_kept}
use Rattle.irtext_graph.proofs.Made.{older_kept, at_least}
use Rattle.irtext_graph.proofs.Kept.{keeps_self}
use Rattle.irtext_graph.proofs.Sounds.{sound_alike}
use Rattle.irtext_graph.proofs.Nests.{some_eq}
use Rattle.irtext_graph.proofs.Numbers.{KeepsNumbers, numbers_kept, edited_numbers, edited_block_numbers}
use Rattle.irtext_graph.proofs.PartsSeen.{operation_seen, block_seen}
use Rattle.irtext_graph.proofs.Pointers.{equal_or_not, ptr_same, slice_get-set_same, slice_get-set_other}
use Rattle.irtext_graph.proofs.Stores.{get_seen, edited-keeps as store-keeps}
use Rattle.irtext_graph.proofs.Once.{once_same, once_edited}

-- another content, as it is seen, is written to one cell
pub content_set : {X Y K : Type 0} (see : X → Y) (change : Y → Y) (a : Arena X) (p : Ptr K) (x w : X) → option_map (λ o. o.content) (arena.get a p) ≡ Some x → see w ≡ change (see x)
    → store_of see (with_content_at a p.index w) ≡ edited_at (store_of see a) p change
content_set {X} {Y} see change a p x w e same =
    let s = content_is_live a p x e in
    let o : Entry X = record { born = s.0; content = x } in
    let was : get (store_of see a) p ≡ Some (object_of see o) = get_seen see a p ∙ ap (option_map (object_of see)) s.1 in
    let cells : map (cell_of see) (with_content_at a p.index w).slots.items ≡ set (map (cell_of see) a.slots.items) p.index (record { generation = p.generation; object = Some (record { born = s.0; content = change (see x) }) }) =
    ap (λ (c : Arena X). map (cell_of see) c.slots.items) (lent a p o w s.1) ∙ map-set (cell_of see) a.slots.items p.index (Full p.generation (filled o w))
    ∙ ap (λ y. set (map (cell_of see) a.slots.items) p.index (record { generation = p.generation; object = Some (record { born = s.0; content = y }) })) same in
    both _ _ _ _ cells (arena_edited a p o w s.1).free ∙ sym (ap (λ t. with_object t (store_of see a) p change) was)
  where
    both : (c c' : List (Cell Y)) (f f' : Option ℕ) → c ≡ c' → f ≡ f' → ◌≡◌ {A = Store Y} (record { cells = c; free = f }) (record { cells = c'; free = f' })
    both c c' f f' e g = rw (e, g) refl

module _ {X : Type 0} where
  -- the object under a generation is the one in its cell
  cell_there : (c : Option (Cell X)) (g : ℕ) (o : Entry X) → object_in c g ≡ Some o → c ≡ Some (record { generation = g; object = Some o })
  cell_there None g o e = absurd (cc)
  cell_there (Some c) g o e = go (c.generation == g) refl e
    where
      one : (h k : ℕ) (s t : Option (Entry X)) → h ≡ k → s ≡ t → ◌≡◌ {A = Option (Cell X)} (Some (record { generation = h; object = s })) (Some (record { generation = k; object = t }))
      one h k s t e f = rw (e, f) refl

      go : (t : Bool) → (c.generation == g) ≡ t → cond t c.object None ≡ Some o → Some c ≡ Some (record { generation = g; object = Some o })
      go true f h = one c.generation g c.object (Some o) (eqb-true c.generation g f) h
      go false f h = absurd (cc)

  here_in : (g : ℕ) (o : Option (Entry X)) → object_in (Some (record { generation = g; object = o })) g ≡ o
  here_in g o = ap (λ b. cond b o None) (eq-eqb g g refl)

  elsewhere_in : (h g : ℕ) (o : Option (Entry X)) → h ≢ g → object_in (Some (record { generation = h; object = o })) g ≡ None
  elsewhere_in h g o n = ap (λ b. cond b o None) (ne_eqb h g n)

  -- one cell was written, and nothing else changed
  pub edits_at : {K : Type 0} (s : Store X) (p : Ptr K) (o : Entry X) (change : X → X) → get s p ≡ Some o → Edits s (edited_at s p change) p change
  edits_at {K} s p o change e = subst (λ t. Edits s (with_object t s p change) p change) (sym e) it
    where
      filled_cell : Cell X
      filled_cell = record { generation = p.generation; object = Some (object_of change o) }

      new : Store X
      new = with_object (Some o) s p change

      was : slice_get s.cells p.index ≡ Some (record { generation = p.generation; object = Some o })
      was = cell_there (slice_get s.cells p.index) p.generation o e

      here : slice_get new.cells p.index ≡ Some filled_cell
      here = slice_get-set_same s.cells p.index filled_cell (record { generation = p.generation; object = Some o }) was

      there : (i : ℕ) → i ≢ p.index → slice_get new.cells i ≡ slice_get s.cells i
      there i n = slice_get-set_other s.cells p.index i filled_cell n

      other : (q : Ptr K) → q ≢ p → (q.index ≡ p.index) ⊎ (q.index ≢ p.index) → get new q ≡ get s q
      other q n (inr m) = ap (λ c. object_in c q.generation) (there q.index m)
      other q n (inl f) =
          let apart : p.generation ≢ q.generation = λ g. n (ptr_same q p f (sym g)) in
          let one : slice_get new.cells q.index ≡ Some filled_cell = ap (slice_get new.cells) f ∙ here in
          let two : slice_get s.cells q.index ≡ Some (record { generation = p.generation; object = Some o }) = ap (slice_get s.cells) f ∙ was in
          ap (λ c. object_in c q.generation) one ∙ elsewhere_in p.generation q.generation filled_cell.object apart
          ∙ sym (elsewhere_in p.generation q.generation (Some o) apart) ∙ sym (ap (λ c. object_in c q.generation) two)

      generation : (i : ℕ) → (i ≡ p.index) ⊎ (i ≢ p.index) → drawn (slice_get new.cells i) ≡ drawn (slice_get s.cells i)
      generation i (inl f) = ap (λ j. drawn (slice_get new.cells j)) f ∙ ap drawn here ∙ sym (ap drawn was) ∙ sym (ap (λ j. drawn (slice_get s.cells j)) f)
      generation i (inr m) = ap drawn (there i m)

      it : Edits s new p change
      it = record {
        updates = record {
          changed = ap (λ c. object_in c p.generation) here ∙ here_in p.generation filled_cell.object ∙ sym (ap (option_map (object_of change)) e);
          others = λ q n. other q n (equal_or_not q.index p.index);
        };
        generations = λ i. generation i (equal_or_not i p.index);
        free = refl;
        len = length-set s.cells p.index filled_cell;
      }

  -- the same edit by another change that does the same there
  pub edits_as : {K : Type 0} {s t : Store X} {p : Ptr K} (change other : X → X) → option_map (object_of change) (get s p) ≡ option_map (object_of other) (get s p) → Edits s t p change → Edits s t p other
  edits_as change other same e = record {
    updates = record { changed = e.updates.changed ∙ same; others = e.updates.others };
    generations = e.generations;
    free = e.free;
    len = e.len;
  }

-- an item that is written over itself
set_same : {X : Type 0} (xs : List X) (i : ℕ) (x : X) → slice_get xs i ≡ Some x → set xs i x ≡ xs
set_same [] i x e = absurd (cc)
set_same (y ∷ ys) zero x e = ap (λ z. z ∷ ys) (sym (some_eq e))
set_same (y ∷ ys) (suc i) x e = ap (λ l. y ∷ l) (set_same ys i x e)

-- a content that is written over itself
written_over : {X K : Type 0} (s : Store X) (p : Ptr K) (o : Entry X) (change : X → X) → get s p ≡ Some o → change o.content ≡ o.content → edited_at s p change ≡ s
written_over {X} s p o change e same =
    let was : slice_get s.cells p.index ≡ Some (record { generation = p.generation; object = Some o }) = cell_there (slice_get s.cells p.index) p.generation o e in
    let cell : ◌≡◌ {A = Cell X} (record { generation = p.generation; object = Some (object_of change o) }) (record { generation = p.generation; object = Some o }) =
    ap (λ x. record { generation = p.generation; object = Some (record { born = o.born; content = x }) }) same in
    ap (λ t. with_object t s p change) e
    ∙ ap (λ c. record s { cells = set s.cells p.index c }) cell
    ∙ ap (λ cells. record s { cells = cells }) (set_same s.cells p.index (record { generation = p.generation; object = Some o }) was)

-- what is not there before a mark is new
not_older : {P C E O B T : Type 0} (m : ℕ) (f : ℕ × E → Content O B T) → ((d : ℕ × E) → born_of (f d) ≡ d.0) → (s : Option (Entry (Node P C E))) → older m s ≡ None → is_older m (option_map f (content_of s)) ≡ false
not_older m f same None e = refl
not_older m f same (Some x) e = ap (λ n. nat_lt n m) (same (x.born, x.content.content)) ∙ go (nat_lt x.born m) e
  where
    go : (b : Bool) → cond b (Some x) None ≡ None → b ≡ false
    go true h = absurd (cc)
    go false h = refl

module _ {P C E K D : Type 0} (s : Store (Node P C E)) (p : Ptr K) (value : E → D) where
  -- the data that were read and changed are written back: the data of one object changed
  written_back : (put : (D → D) → Node P C E → Node P C E) (change : D → D) (d : D) → ((n : Node P C E) → put (λ _. change (value n.content)) n ≡ put change n)
      → option_map value (option_map (λ e. e.content.content) (get s p)) ≡ Some d → Edits s (edited_at s p (put (λ _. change d))) p (put change)
  written_back put change d same e = go (get s p) refl e
    where
      go : (t : Option (Entry (Node P C E))) → get s p ≡ t → option_map value (option_map (λ e. e.content.content) t) ≡ Some d → Edits s (edited_at s p (put (λ _. change d))) p (put change)
      go None f h = absurd (cc)
      go (Some o) f h = edits_as (put (λ _. change d)) (put change)
          (ap (option_map (object_of (put (λ _. change d)))) f
          ∙ ap (λ x. Some (record { born = o.born; content = put (λ _. change x) o.content })) (sym (some_eq h))
          ∙ ap (λ n. Some (record { born = o.born; content = n })) (same o.content)
          ∙ sym (ap (option_map (object_of (put change))) f))
          (edits_at s p o (put (λ _. change d)) f)

  -- the data that were read are written back as they are: nothing changed
  not_written : (put : (D → D) → Node P C E → Node P C E) (d : D) → ((n : Node P C E) → put (λ _. value n.content) n ≡ n)
      → option_map value (option_map (λ e. e.content.content) (get s p)) ≡ Some d → edited_at s p (put (λ _. d)) ≡ s
  not_written put d same e = go (get s p) refl e
    where
      go : (t : Option (Entry (Node P C E))) → get s p ≡ t → option_map value (option_map (λ e. e.content.content) t) ≡ Some d → edited_at s p (put (λ _. d)) ≡ s
      go None f h = absurd (cc)
      go (Some o) f h = written_over s p o (put (λ _. d)) f (ap (λ x. put (λ _. x) o.content) (sym (some_eq h)) ∙ same o.content)

module _ {O B T : Type 0} where
  -- the data that were read and changed are written back: the data of one operation changed
  pub edited : (g : GraphView O B T) (p : Ptr Operation) (d : O) (change : O → O) → option_map (λ c. c.data_of) (operation_at g p) ≡ Some d → EditsOperation g (with_operation_data g p (change d)) p change
  edited g p d change e = record {
    operations = written_back g.operations p (λ c. c.data_of) with_data change d (λ n. refl) e;
    blocks = refl;
    regions = refl;
    made = refl;
    values = refl;
    first_place = refl;
  }

  -- the data that were read are written back: nothing changed
  pub unedited : (g : GraphView O B T) (p : Ptr Operation) (d : O) → option_map (λ c. c.data_of) (operation_at g p) ≡ Some d → with_operation_data g p d ≡ g
  unedited g p d e = ap (λ s. record g { operations = s }) (not_written g.operations p (λ c. c.data_of) with_data d (λ n. refl) e)

  -- the same for a block
  pub edited_block : (g : GraphView O B T) (p : Ptr BasicBlock) (d : B) (change : B → B) → option_map (λ c. c.data_of) (block_at g p) ≡ Some d → EditsBlock g (with_block_data g p (change d)) p change
  edited_block g p d change e = record {
    operations = refl;
    blocks = written_back g.blocks p (λ c. c.data_of) with_block change d (λ n. refl) e;
    regions = refl;
    made = refl;
    values = refl;
    first_place = refl;
  }

  pub unedited_block : (g : GraphView O B T) (p : Ptr BasicBlock) (d : B) → option_map (λ c. c.data_of) (block_at g p) ≡ Some d → with_block_data g p d ≡ g
  unedited_block g p d e = ap (λ s. record g { blocks = s }) (not_written g.blocks p (λ c. c.data_of) with_block d (λ n. refl) e)

  -- no pointer is given by that
  pub edited_gives : (old new : GraphView O B T) (p : Ptr Operation) (change : O → O) → EditsOperation old new p change → GivesOnce old new
  edited_gives old new p change e = record {
    operations = once_edited old.operations new.operations p (with_data change) e.operations;
    blocks = once_same old.blocks new.blocks e.blocks;
    regions = once_same old.regions new.regions e.regions;
  }

  pub edited_block_gives : (old new : GraphView O B T) (p : Ptr BasicBlock) (change : B → B) → EditsBlock old new p change → GivesOnce old new
  edited_block_gives old new p change e = record {
    operations = once_same old.operations new.operations e.operations;
    blocks = once_edited old.blocks new.blocks p (with_block change) e.blocks;
    regions = once_same old.regions new.regions e.regions;
  }

  -- what is older than an operation whose data were written is unchanged
  pub edited-keeps : (m : ℕ) (old new : GraphView O B T) (p : Ptr Operation) (change : O → O) → before m old.operations p ≡ None → EditsOperation old new p change → KeepsOlder m old new
  edited-keeps m old new p change none e =
      older_kept m old new (store-keeps m old.operations new.operations p (with_data change) none e.operations) (λ q. ap (λ s. before m s q) e.blocks) (λ q. ap (λ s. before m s q) e.regions) (at_least e.made) (at_least e.values) e.first_place (edited_gives old new p change e)

  -- the same for a block
  pub edited_block-keeps : (m : ℕ) (old new : GraphView O B T) (p : Ptr BasicBlock) (change : B → B) → before m old.blocks p ≡ None → EditsBlock old new p change → KeepsOlder m old new
  edited_block-keeps m old new p change none e =
      older_kept m old new (λ q. ap (λ s. before m s q) e.operations) (store-keeps m old.blocks new.blocks p (with_block change) none e.blocks) (λ q. ap (λ s. before m s q) e.regions) (at_least e.made) (at_least e.values) e.first_place (edited_block_gives old new p change e)

module _ {O B T : Type 0} where
  -- all is kept where the objects are as old, and are seen as a graph that keeps the numbers of values
  kept_as : (made : ℕ) (v : Counters) (log : List Object) (x y : Objects O B T) (g : GraphView O B T) → IsSound made y → ((o : Object) → age y o ≡ age x o) → graph_of made v y ≡ g → KeepsNumbers (graph_of made v x) g → IsKept made v log x → IsKept made v log y
  kept_as made v log x y g sound ages seen keeps i = record {
    sound = sound;
    logged = logged_kept made log x y i.logged (λ o b f. sym (ages o) ∙ f);
    numbered = subst (λ g. AreNumbered g) (sym seen) (numbers_kept (graph_of made v x) g keeps i.numbered);
  }

module _ {O B T : Type 0} (x : Objects O B T) (p : Ptr Operation) (n : Nest BasicBlock Region (OperationData O T)) (e : option_map (λ o. o.content) (arena.get x.operations p) ≡ Some n) (d : O) where
  abbrev with_d : Nest BasicBlock Region (OperationData O T)
  with_d = record n { «data» = record n.data { «data» = d } }

  abbrev after : Objects O B T
  after = record x { operations = with_content_at x.operations p.index with_d }

  r : Replaced x.operations after.operations p n with_d
  r = replaced x.operations p n with_d e

  k : KeepsPlaces x.operations after.operations
  k = places_kept x.operations p n with_d e

  same_up : (q : Object) → up after q ≡ up x q
  same_up (TheOperation q) = same_view (λ s. option_map TheBlock (parent_in s)) r (λ b. refl) q
  same_up (TheBlock q) = refl
  same_up (TheRegion q) = refl

  same_kids : (q : Object) → kids after q ≡ kids x q
  same_kids (TheOperation q) = same_view (λ s. map TheRegion (children_in s)) r (λ b. refl) q
  same_kids (TheBlock q) = refl
  same_kids (TheRegion q) = refl

  same_use : (u : Site) → use_at after u ≡ use_at x u
  same_use (AtOperand q i) = same_view (λ s. option_map (either OfValue) (operand_in s i)) r (λ b. refl) q
  same_use (AtSuccessor q i) = same_view (λ s. option_map (either OfBlock) (successor_in s i)) r (λ b. refl) q

  same_head : (f : Defined) → head_at after f ≡ head_at x f
  same_head (OfValue (Result q i)) = same_view (λ s. first_of (result_in s i)) r (λ b. refl) q
  same_head (OfValue (Argument q i)) = refl
  same_head (OfBlock q) = refl

  same_age : (q : Object) → age after q ≡ age x q
  same_age (TheOperation q) = same_view born_in r (λ b. refl) q
  same_age (TheBlock q) = refl
  same_age (TheRegion q) = refl

  sound_data : (made : ℕ) → IsSound made x → IsSound made after
  sound_data made = sound_alike made x after same_kids same_up same_use same_head (record { operation_places = k; block_places = keeps_self x.blocks; region_places = keeps_self x.regions })

  -- what is seen of it is the graph with these data
  pub data_seen : (made : ℕ) (values : Counters) → graph_of made values after ≡ with_operation_data (graph_of made values x) p d
  data_seen made values =
      ap (λ s. record (graph_of made values x) { operations = s })
      (content_set (node_of operation_content) (with_data (λ _. d)) x.operations p n with_d e refl)

  -- with other data of an operation all is kept
  pub data_kept : (made : ℕ) (v : Counters) (log : List Object) → IsKept made v log x → IsKept made v log after
  data_kept made v log i =
      kept_as made v log x after _ (sound_data made i.sound) same_age (data_seen made v)
      (edited_numbers (graph_of made v x) _ p (λ _. d) (edited (graph_of made v x) p n.data.«data» (λ _. d) (ap (option_map (λ c. c.data_of)) (operation_seen made v x p n e)))) i

  -- the same from a view that is known
  pub data_lent : (made : ℕ) (v : Counters) (g : GraphView O B T) → graph_of made v x ≡ g → graph_of made v after ≡ with_operation_data g p d
  data_lent made v g is = data_seen made v ∙ ap (λ g. with_operation_data g p d) is

module _ {O B T : Type 0} (x : Objects O B T) (p : Ptr BasicBlock) (n : Nest Region Operation (BlockData B T)) (e : option_map (λ o. o.content) (arena.get x.blocks p) ≡ Some n) (d : B) where
  abbrev with_b : Nest Region Operation (BlockData B T)
  with_b = record n { «data» = record n.data { «data» = d } }

  abbrev then : Objects O B T
  then = record x { blocks = with_content_at x.blocks p.index with_b }

  block_use : (u : Site) → use_at then u ≡ use_at x u
  block_use (AtOperand q i) = refl
  block_use (AtSuccessor q i) = refl

  rb : Replaced x.blocks then.blocks p n with_b
  rb = replaced x.blocks p n with_b e

  kb : KeepsPlaces x.blocks then.blocks
  kb = places_kept x.blocks p n with_b e

  block_up : (q : Object) → up then q ≡ up x q
  block_up (TheOperation q) = refl
  block_up (TheBlock q) = same_view (λ s. option_map TheRegion (parent_in s)) rb (λ b. refl) q
  block_up (TheRegion q) = refl

  block_kids : (q : Object) → kids then q ≡ kids x q
  block_kids (TheOperation q) = refl
  block_kids (TheBlock q) = same_view (λ s. map TheOperation (children_in s)) rb (λ b. refl) q
  block_kids (TheRegion q) = refl

  block_head : (f : Defined) → head_at then f ≡ head_at x f
  block_head (OfValue (Result q i)) = refl
  block_head (OfValue (Argument q i)) = same_view (λ s. first_of (argument_in s i)) rb (λ b. refl) q
  block_head (OfBlock q) = same_view preds_in rb (λ b. refl) q

  block_age : (q : Object) → age then q ≡ age x q
  block_age (TheOperation q) = refl
  block_age (TheBlock q) = same_view born_in rb (λ b. refl) q
  block_age (TheRegion q) = refl

  -- what is seen of it is the graph with these data
  pub block_data_seen : (made : ℕ) (values : Counters) → graph_of made values then ≡ with_block_data (graph_of made values x) p d
  block_data_seen made values =
      ap (λ s. record (graph_of made values x) { blocks = s })
      (content_set (node_of block_content) (with_block (λ _. d)) x.blocks p n with_b e refl)

  sound_block_data : (made : ℕ) → IsSound made x → IsSound made then
  sound_block_data made = sound_alike made x then block_kids block_up block_use block_head (record { operation_places = keeps_self x.operations; block_places = kb; region_places = keeps_self x.regions })

  -- the same from a view that is known
  pub block_data_lent : (made : ℕ) (v : Counters) (g : GraphView O B T) → graph_of made v x ≡ g → graph_of made v then ≡ with_block_data g p d
  block_data_lent made v g is = block_data_seen made v ∙ ap (λ g. with_block_data g p d) is

  -- with other data of a block all is kept
  pub block_data_kept : (made : ℕ) (v : Counters) (log : List Object) → IsKept made v log x → IsKept made v log then
  block_data_kept made v log i =
      kept_as made v log x then _ (sound_block_data made i.sound) block_age (block_data_seen made v)
      (edited_block_numbers (graph_of made v x) _ p (λ _. d) (edited_block (graph_of made v x) p n.data.«data» (λ _. d) (ap (option_map (λ c. c.data_of)) (block_seen made v x p n e)))) i
