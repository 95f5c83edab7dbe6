-- A block that was begun, as seen from the open frames: it was appended to its region, with its header, and all else is unchanged.
use Rattle.std.proofs.Common.{◌≡◌, ◌≤◌, ◌∙◌, inl, inr, ℕ, List, [], ◌∷◌, ◌++◌, map, length, Option, Some, None, IsSome, option_map, arith, refl, sym, ap, ap₂, subst}
use Rattle.irtext_base.specs.Text.{Text}
use Rattle.irtext_base.specs.declared.base.attributes.AttrObj.{AttrObj}
use Rattle.irtext_base.specs.declared.location.Location.{Location, SrcPos}
use Rattle.irtext_base.specs.declared.location.Source.{Source}
use Rattle.irtext_stream.specs.declared.position.Place.{Place}
use Rattle.irtext_context.specs.Context.{ContextView, region}
use Rattle.irtext_context.specs.declared.base.block.BlockData.{BlockData}
use Rattle.irtext_graph.specs.declared.arena.Ptr.{Ptr}
use Rattle.irtext_graph.specs.declared.object.BasicBlock.{BasicBlock}
use Rattle.irtext_graph.specs.declared.object.Region.{Region}
use Rattle.irtext_graph.specs.declared.object.Object.{Object}
use Rattle.irtext_graph.specs.declared.object.Object.TheVariants.{TheOperation, TheBlock, TheRegion}
use Rattle.irtext_graph.specs.Content.{Node, Content, Content.{AnOperation, ABlock, ARegion}, RegionContent}
use Rattle.irtext_graph.specs.Erasing.{without_uses}
use Rattle.irtext_graph.specs.Graph.{content, content_of, IsLive, IsNew}
use Rattle.irtext_graph.specs.Objects.{is_older}
use Rattle.irtext_graph.specs.Parts.{results}
use Rattle.irtext_graph.specs.Store.{get}
use Rattle.irtext_graph.proofs.Nests.{same_or_other}
use Rattle.irtext_graph.proofs.Same.{ptr_tells}
use Rattle.irtext_grammar.specs.Grammar.Tree.{Name, Attribute, Head}
use Rattle.irtext_grammar.specs.Graphs.Build.{put_all, read_names, plain_entry}
use Rattle.irtext_grammar.specs.Names.Acts.{entries_if}
use Rattle.irtext_grammar.specs.Grows.{with_last_block, BlockCame, RegionGains}
use Rattle.irtext_grammar.specs.Unchanged.{HasHead, IsThere, ModifiesOnly}
use Rattle.irtext_grammar.proofs.Edits.{spares_then, spares_fewer, made_head, block_was_new, block_came, block_came_last, block_came_spares}
use Rattle.irtext_context.specs.Made.{made_block}
use Rattle.irtext_grammar.specs.declared.parsed.Key.{Key}
use Rattle.irtext_parse_pieces.specs.declared.headers.BlockHead.{BlockHead}
use Rattle.irtext_grammar.specs.Parsed.{IsEntry, Leaves, Each}
use Rattle.irtext_parse_pieces.specs.Headers.{IsHead}
use Rattle.irtext_names.proofs.SameBut.{results_in, results_are}
use Rattle.irtext_names.specs.Gathering.{entries_in, entry_read}
use Rattle.irtext_parse_nested.specs.Blocks.{MakesHead}
use Rattle.irtext_names.specs.LosesPlaceholders.{LosesPlaceholders}
use Rattle.irtext_names.specs.Items.{KeepsLive}
use Rattle.irtext_names.specs.Located.{IsLocated, IsLocatedAt}
use Rattle.irtext_names.specs.Placing.{PlacesBlock}
use Rattle.irtext_names.proofs.BlockKept.{block_new}
use Rattle.irtext_names.proofs.Lasting.{lasts_then, loses_lasts}
use Rattle.irtext_parse_nested.proofs.Faults.{place_is_there, named_each}
use Rattle.irtext_parse_nested.proofs.Headers.{keys_each, arguments_named, arguments_typed}
use Rattle.irtext_parse_nested.proofs.Sparing.{loses_spares, live_region_view}

some_mapped : {X Y : Type 0} (f : X → Y) (o : Option X) → IsSome o → IsSome (option_map f o)
some_mapped f None h = absurd (cc)
some_mapped f (Some x) h = refl

-- ---- what the block has of its header
-- a place that the stream gave is located
pub located : {A : Type 0} (source : Source) (text : Text) (place : Place) (left : ℕ) (loc : Location A) → Leaves text place left → IsLocatedAt source text place loc → IsLocated source text left loc
located source text place left loc l h = let s = place_is_there {at = h.at} l h.positioned in h.is ∙ ap (SrcPos source) (λ i. record { line = s.0 i; column = s.1 i })

entries_same : {A : Type 0} (text : Text) (rs : List (Key × AttrObj A)) (es : List (Name ℕ × Attribute A)) → Each (IsEntry text) rs es → map entry_read rs ≡ map plain_entry es
entries_same text [] [] i = refl
entries_same text [] (e ∷ es) i = absurd i
entries_same text (r ∷ rs) [] i = absurd i
entries_same text (r ∷ rs) (e ∷ es) i = ap₂ ◌∷◌ (λ k. (i.0.0.named k, i.0.1 k)) (entries_same text rs es i.1)

names_same : {T : Type 0} (hs : List (Name ℕ × T)) → map (λ w. w.text) (map (λ a. a.0) hs) ≡ map (λ a. a.0.text) hs
names_same [] = refl
names_same (h ∷ hs) = ap (λ ts. h.0.text ∷ ts) (names_same hs)

module _ {T A : Type 0} (old mid : ContextView T A) (r : Ptr Region) (b : Ptr BasicBlock) (held : BlockData A) (types : List T) (p : PlacesBlock old mid r b held types) where
  -- an object that is not the block is what it was
  content_same : (q : Object) → (q ≡ TheBlock b → ⊥) → content mid.graph q ≡ content old.graph q
  content_same (TheOperation q) n = p.appends.objects.contents (TheOperation q) ∙ ap (λ s. option_map (λ d. AnOperation d.0 d.1) (content_of (get s q))) p.makes.graph.operations
  content_same (TheBlock d) n = p.appends.objects.contents (TheBlock d) ∙ ap (λ e. option_map (λ d. ABlock d.0 d.1) (content_of e)) (p.makes.graph.blocks.updates.others d (λ e. n (ap TheBlock e)))
  content_same (TheRegion q) n = p.appends.objects.contents (TheRegion q) ∙ ap (λ s. option_map (λ d. ARegion d.0 d.1) (content_of (get s q))) p.makes.graph.regions

  -- the block is new
  pub placed_new : (m : ℕ) → m ≤ old.graph.made → IsNew m mid.graph (TheBlock b)
  placed_new m le = ap (is_older m) (p.appends.objects.contents (TheBlock b)) ∙ block_new old p.between mid r b held types p.makes m le

  still_new : (m : ℕ) (q : Object) → m ≤ old.graph.made → IsNew m old.graph q → IsNew m mid.graph q
  still_new m (TheOperation q) le n = ap (is_older m) (content_same (TheOperation q) (λ e. cc)) ∙ n
  still_new m (TheBlock d) le n = elim (same_or_other ptr_tells d b) [
    | inl e ↦ subst (λ z. IsNew m mid.graph (TheBlock z)) (sym e) (placed_new m le)
    | inr ne ↦ ap (is_older m) (content_same (TheBlock d) (λ e. let same : d ≡ b = cc in ne same)) ∙ n
  ]
  still_new m (TheRegion q) le n = ap (is_older m) (content_same (TheRegion q) (λ e. cc)) ∙ n

  placed_spares : ModifiesOnly (TheBlock b ∷ TheRegion r ∷ []) old mid
  placed_spares = block_came_spares (λ n l. Unit {0}) old p.between mid r b held types p.makes p.appends

  -- it was not there
  was_new : IsThere old (TheBlock b) → ⊥
  was_new = block_was_new (λ n l. Unit {0}) old p.between mid r b held types p.makes p.appends

  -- the open objects are still live
  pub placed_lasts : KeepsLive old mid
  placed_lasts = record {
    operations = λ q h. subst IsSome (sym (placed_spares.spared (TheOperation q) h (λ i. elim i [ inl e ↦ cc e | inr j ↦ elim j [ inl f ↦ cc f | inr k ↦ k ] ])).0) h;
    results = λ q h. ap length (results_are mid.graph q ∙ (ap (λ c. results_in (option_map without_uses c)) (content_same (TheOperation q) (λ e. cc)) ∙ sym (results_are old.graph q)));
    blocks = λ d h i. let s = placed_spares.spared (TheBlock d) (h, i) (λ j. elim j [ inl e ↦ was_new (subst (IsThere old) e (h, i)) | inr k ↦ elim k [ inl f ↦ cc f | inr m ↦ m ] ]) in (subst IsSome (sym s.0) h, s.1);
    regions = λ q h. subst IsSome (sym (content_same (TheRegion q) (λ e. cc))) h;
    newer = still_new;
    made = let e = p.makes.graph.made in let f = p.appends.objects.rest.made in omega (arith, e, f);
    dialects = p.dialects;
  }

  -- ---- and then nothing but placeholders is lost
  module _ (new : ContextView T A) (loses : LosesPlaceholders mid.graph new.graph) where
    following : ModifiesOnly [] mid new
    following = loses_spares mid new loses

    pub begun_new : (m : ℕ) → m ≤ old.graph.made → IsNew m new.graph (TheBlock b)
    begun_new m le = loses.newer m (TheBlock b) (placed_new m le)

    pub begun_lasts : new.dialects ≡ mid.dialects → KeepsLive old new
    begun_lasts same = lasts_then _ _ _ placed_lasts (loses_lasts mid new loses same)

    pub begun_spares : ModifiesOnly (TheBlock b ∷ TheRegion r ∷ []) old new
    begun_spares = spares_then old mid new (TheBlock b ∷ TheRegion r ∷ []) placed_spares (spares_fewer mid new (TheBlock b ∷ TheRegion r ∷ []) following)

    pub begun_gains : IsLive old.graph (TheRegion r) → RegionGains old new r b
    begun_gains alive =
        let gains = block_came_last (λ n l. Unit {0}) old p.between mid r b held types p.makes p.appends in
        let there : IsSome (region mid r) = subst IsSome (sym gains.gains) (some_mapped (with_last_block b) (region old r) (live_region_view old r alive)) in
        record { gains = following.spared (TheRegion r) there (λ i. i) ∙ gains.gains }

    pub begun_came : (IsLocation : ℕ → Location A → Type 0) (h : Head ℕ T A) → HasHead IsLocation (made_block held types) h → BlockCame old new IsLocation b h
    begun_came IsLocation h has =
        let came = block_came IsLocation old p.between mid r b held types p.makes p.appends h has in
        let there : IsThere mid (TheBlock b) = (subst IsSome (sym came.is) refl, came.inside) in
        let e = following.spared (TheBlock b) there (λ i. i) in
        record {
          is_new = came.is_new;
          view = came.view;
          is = e.0 ∙ came.is;
          has = came.has;
          operations = came.operations;
          inside = subst IsSome (sym e.1) came.inside;
        }

-- ---- the header
module _ {T A : Type 0} (names : List Text) (source : Source) (text : Text) (read : BlockHead T A) (head : Head ℕ T A) (is : IsHead names text read head) (old mid : ContextView T A) (r : Ptr Region) (b : Ptr BasicBlock)
    (makes : MakesHead names source text read.label read.arguments (entries_in read.attributes) old mid r b) where
  -- the block has the header
  pub has_head : HasHead (IsLocated source text) (made_block makes.held (map (λ a. a.1) read.arguments)) head
  has_head =
      let words = arguments_named names text read.arguments head.arguments is.arguments in
      let stored = makes.stored (map (λ a. a.0) head.arguments) (named_each names text (map (λ a. a.0) read.arguments) (map (λ a. a.0) head.arguments) words) in
      let same = entries_same text (entries_in read.attributes) (entries_if head.attributes) (keys_each text read.attributes head.attributes is.attributes) in
      let given = names_same head.arguments in
      made_head (IsLocated source text) makes.held (map (λ a. a.1) read.arguments) head (sym makes.named ∙ is.label.named) (arguments_typed names text read.arguments head.arguments is.arguments)
      (stored ∙ (λ i. put_all [] (same i ++ read_names (given i)))) (located source text read.label.at head.label.place makes.held.loc is.label.place makes.located)
