-- The items that carry marks were created by the parse: they are newer than all objects that were live before it.
use Rattle.std.proofs.Common.{◌≡◌, ◌∙◌, ℕ, Bool, true, false, cond, List, [], ◌∷◌, Option, Some, None, IsSome, option_map, refl, sym, subst, inl, inr}
use Rattle.std.specs.Prelude.{nat_lt, option_and_then}
use Rattle.irtext_base.specs.declared.location.Location.{Location}
use Rattle.irtext_context.specs.Context.{ContextView, KeepsOlder, operation_of, block_of}
use Rattle.irtext_context.specs.declared.base.item.Item.{Item}
use Rattle.irtext_context.specs.declared.base.item.Item.TheVariants as item
use Rattle.irtext_graph.specs.declared.arena.Entry.{Entry}
use Rattle.irtext_graph.specs.declared.arena.Ptr.{Ptr}
use Rattle.irtext_graph.specs.declared.object.Operation.{Operation}
use Rattle.irtext_graph.specs.declared.object.BasicBlock.{BasicBlock}
use Rattle.irtext_graph.specs.declared.object.Object.{Object}
use Rattle.irtext_graph.specs.declared.object.Object.TheVariants.{TheOperation, TheBlock, TheRegion}
use Rattle.irtext_graph.specs.Arena.{older}
use Rattle.irtext_graph.specs.Back.{AllOlder}
use Rattle.irtext_graph.specs.Chained.{Among}
use Rattle.irtext_graph.specs.Graph.{parent_of}
use Rattle.irtext_graph.specs.Store.{get, before}
use Rattle.irtext_grammar.specs.Grammar.Tree.{Tree}
use Rattle.irtext_grammar.specs.Building.{finished}
use Rattle.irtext_grammar.specs.Unchanged.{IsThere}
use Rattle.irtext_grammar.specs.Tracks.{Made, HoldsMade}
use Rattle.irtext_parse_root.specs.Carried.{marks_in, object_of, AreCarried}
use Rattle.irtext_parse_locations.specs.Applied.{IsNewer, AreNewer}
use Rattle.irtext_parse_root.proofs.Marks.{carried_back}

older_is : {X : Type 0} (m : ℕ) (x : Option (Entry X)) (e : Entry X) → older m x ≡ Some e → x ≡ Some e
older_is m None e h = absurd (cc)
older_is {X} m (Some x) e h = go (nat_lt x.born m) h
  where
    go : (b : Bool) → cond b (Some x) None ≡ Some e → Some x ≡ Some e
    go true k = k
    go false k = absurd (cc)

-- an object that is live now, and was not where what is older than m was the same, is newer than m
newer_entry : {X : Type 0} (m : ℕ) (now then : Option (Entry X)) (Live : Option (Entry X) → Type 0) → older m now ≡ older m then → older m then ≡ then → Live now → (Live then → ⊥) → older m now ≡ None
newer_entry {X} m now then Live same all there not = go (older m now) refl
  where
    go : (x : Option (Entry X)) → older m now ≡ x → older m now ≡ None
    go None e = e
    go (Some x) e =
        let then_is : then ≡ Some x = sym all ∙ (sym same ∙ e) in
        absurd (not (subst Live (older_is m now x e ∙ sym then_is) there))

module _ {T A : Type 0} (m : ℕ) (old mid : ContextView T A) (all : AllOlder m old.graph) (kept : KeepsOlder m old mid) where
  -- what was not there is newer
  newer_operation : (p : Ptr Operation) → IsThere mid (TheOperation p) → (IsThere old (TheOperation p) → ⊥) → before m mid.graph.operations p ≡ None
  newer_operation p = newer_entry m (get mid.graph.operations p) (get old.graph.operations p) (λ z. IsSome (option_and_then (operation_of {T = T} {A = A}) z)) (kept.graph.operations p) (all.operations p)

  newer_block : (b : Ptr BasicBlock) → IsThere mid (TheBlock b) → (IsThere old (TheBlock b) → ⊥) → before m mid.graph.blocks b ≡ None
  newer_block b = newer_entry m (get mid.graph.blocks b) (get old.graph.blocks b) (λ z. IsSome (option_map (block_of {T = T} {A = A}) z) × IsSome (option_map TheRegion (parent_of z))) (kept.graph.blocks b) (all.blocks b)

  newer_item : (x : Item) → IsThere mid (object_of x) → (IsThere old (object_of x) → ⊥) → IsNewer m mid x
  newer_item (item.Operation p) there not = newer_operation p there not
  newer_item (item.Block b) there not = newer_block b there not

  module _ (L : ℕ → Location A → Type 0) (items : Made) (whole : List Object) (op : Ptr Operation) (t : Tree ℕ T A) (held : HoldsMade L old mid items whole [] (Some op) (finished t)) (marks : List (ℕ × Item)) (carried : AreCarried items (marks_in t) marks) where
    one_newer : (i : ℕ) (x : Item) → Among (i, x) marks → IsNewer m mid x
    one_newer i x a =
        let b = carried_back items (marks_in t) marks i x carried a in
        let w : Among (object_of x) whole = elim (held.tracks.known b.0 (object_of x) b.2) [ inl w ↦ w | inr o ↦ absurd o ] in
        newer_item x (held.so_far.whole_there (object_of x) w) (held.tracks.came (object_of x) (inl w))

    each_newer : (ns : List (ℕ × Item)) → ((i : ℕ) (x : Item) → Among (i, x) ns → Among (i, x) marks) → AreNewer m mid ns
    each_newer [] h = tt
    each_newer (n ∷ ns) h = (one_newer n.0 n.1 (h n.0 n.1 (inl refl)), each_newer ns (λ i x a. h i x (inr a)))

    pub all_newer : AreNewer m mid marks
    all_newer = each_newer marks (λ i x a. a)
