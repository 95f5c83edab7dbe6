-- Entries that are applied together: the attributes of all, and then what takes no memory.
use Rattle.std.proofs.Common.{◌≡◌, ◌∙◌, ◌↔◌, ◌<◌, ℕ, Bool, true, false, cond, is_some, List, [], ◌∷◌, ◌++◌, length, Option, Some, None, refl, sym, ap, subst, true≢false, arith}
use Rattle.irtext_base.specs.Text.{Text}
use Rattle.irtext_base.specs.declared.base.attributes.AttrObj.{AttrObj}
use Rattle.irtext_base.specs.declared.location.Location.{Location}
use Rattle.std.specs.Option.{option_map}
use Rattle.irtext_context.specs.Context.{ContextView, KeepsOlder, EditsOperation, EditsBlock, operation, block, with_attributes, with_block_attributes}
use Rattle.irtext_context.specs.declared.base.item.Item.{Item}
use Rattle.irtext_context.specs.declared.base.item.Item.TheVariants as item
use Rattle.irtext_context.proofs.Contexts.{same-keeps}
use Rattle.irtext_context.proofs.Kept.{kept_trans}
use Rattle.irtext_graph.specs.Back.{IsClosedBelow}
use Rattle.irtext_graph.specs.declared.arena.Ptr.{Ptr}
use Rattle.irtext_graph.specs.declared.object.BasicBlock.{BasicBlock}
use Rattle.irtext_graph.specs.declared.object.Operation.{Operation}
use Rattle.irtext_grammar.specs.Contexts.Held.{entries_of}
use Rattle.irtext_grammar.specs.Grammar.Tree.{Attribute}
use Rattle.irtext_grammar.specs.Graphs.Build.{put_all}
use Rattle.irtext_parse_locations.specs.Applied.{all_stored, no_label, label_in, LocatesOperation, StoresOperation, LocatesBlock, StoresBlock, LabelsBlock, Gives, GivesAll, ItemsAreNewer}
use Rattle.irtext_parse_locations.specs.Together.{HasStored, Stores, StoresAll, Finishes, FinishesAll, Takes, TakesAll, PutsBack, IsStepOf, StepsOn, TakenSoFar}
use Rattle.irtext_parse_locations.specs.declared.said.ItemEntry.{ItemEntry}
use Rattle.irtext_parse_locations.specs.declared.together.Step.{Step}
use Rattle.irtext_parse_locations.proofs.FinishedFirst.{finish_passes, gives_both}
use Rattle.irtext_parse_locations.proofs.GivenSteps.{located_closed, stored_closed, located_block_closed, stored_block_closed, labelled_closed, newer_still}
use Rattle.irtext_parse_locations.proofs.TakenBack.{item_back, one_kept, branch_true}

-- what was put into a copy of an item's attributes
pub stored_into : {A : Type 0} (content : List (Text × Attribute A)) (had : Option (List (Text × AttrObj A))) (was next left : List (Text × AttrObj A)) → had ≡ Some was → entries_of next ≡ entries_of was
    → entries_of left ≡ put_all (entries_of next) content → HasStored content had left
stored_into content had was next left e f h = λ now g.
    let same : was ≡ now = cc (sym e ∙ g) in
    h ∙ ap (λ es. put_all es content) (f ∙ ap entries_of same)

-- ---- one step
module _ {T A : Type 0} (content : List (Text × Attribute A)) (a b : ContextView T A) where
  -- an operation got the attributes that were made for it
  pub operation_swapped_in : (p : Ptr Operation) (n : Option Text) (next : List (Text × AttrObj A)) → is_some (operation a p) ≡ true → HasStored content (option_map (λ op. op.attributes) (operation a p)) next
      → EditsOperation a b p (with_attributes next) → Stores content (item.Operation p) n a b
  operation_swapped_in p n next there h e = branch_true _ (is_some (operation a p)) there (record { left = next; edits = e; stored = λ view is. h view.attributes (ap (option_map (λ op. op.attributes)) is) })

  -- so did a block
  pub block_swapped_in : (p : Ptr BasicBlock) (n : Option Text) (next : List (Text × AttrObj A)) → is_some (block a p) ≡ true → HasStored (no_label content) (option_map (λ b. b.attributes) (block a p)) next
      → n ≡ label_in None content → EditsBlock a b p (with_block_attributes next) → Stores content (item.Block p) n a b
  block_swapped_in p n next there h l e = branch_true _ (is_some (block a p)) there (record { left = next; edits = e; stored = λ view is. h view.attributes (ap (option_map (λ b. b.attributes)) is) }, l)

-- a list split after one of its items
joined : {X : Type 0} (xs : List X) (x : X) (left : List X) → xs ++ x ∷ left ≡ (xs ++ x ∷ []) ++ left
joined [] x left = refl
joined (y ∷ xs) x left = ap (λ z. y ∷ z) (joined xs x left)

all_done : {X : Type 0} (xs : List X) → xs ++ [] ≡ xs
all_done [] = refl
all_done (x ∷ xs) = ap (λ z. x ∷ z) (all_done xs)

-- a row of no length
pub none_left : {X : Type 0} (xs : List X) → length xs ≡ 0 → xs ≡ []
none_left [] e = refl
none_left (x ∷ xs) e = absurd (cc)

-- a row of which nothing could be taken
pub none_taken : {X : Type 0} (xs : List X) (n : ℕ) (t : Bool) → n ≡ length xs → (t ≡ true ↔ 0 < n) → t ≡ false → xs ≡ []
none_taken [] n t e h f = refl
none_taken (x ∷ xs) n t e h f = absurd (true≢false (sym (h.1 (omega (arith, e))) ∙ f))

-- ---- steps that are taken back
module _ {T A : Type 0} (mark : ℕ) where
  -- one step more
  pub took_one : (s : Step A) (ss : List (Step A)) (a b c : ContextView T A) → TakesAll mark ss a b → Takes s.item s.before b c → TakesAll mark (ss ++ s ∷ []) a c
  took_one s [] a b c k t = (b, c, k, t, same-keeps mark c c refl)
  took_one s (u ∷ ss) a b c (first, mid, k, t, more) one = (first, mid, k, t, took_one s ss mid b c more one)

  -- the last step is undone
  pub took_back : (s : Step A) (ss : List (Step A)) (a b c : ContextView T A) → TakesAll mark (ss ++ s ∷ []) a b → PutsBack s.item s.before b c → TakesAll mark ss a c
  took_back s [] a b c (first, mid, k, t, kept) back = kept_trans k (item_back mark first mid b c kept s.item s.before t back)
  took_back s (u ∷ ss) a b c (first, mid, k, t, more) back = (first, mid, k, t, took_back s ss mid b c more back)

  -- the same steps, and the same context
  pub took_same : (ss ss' : List (Step A)) (a b c : ContextView T A) → TakesAll mark ss a b → ss' ≡ ss → c ≡ b → TakesAll mark ss' a c
  took_same ss ss' a b c k e f = subst (λ z. TakesAll mark z a c) (sym e) (subst (λ z. TakesAll mark ss a z) (sym f) k)

-- ---- steps that all are taken
module _ {T A : Type 0} (once : List (ℕ × AttrObj A)) where
  -- the attributes of one entry more
  pub stored_one : (e : ItemEntry A) (s : Step A) (es : List (ItemEntry A)) (ss : List (Step A)) (a b c : ContextView T A) → StoresAll once es ss a b → IsStepOf once e s b c → StoresAll once (es ++ e ∷ []) (ss ++ s ∷ []) a c
  stored_one e s [] [] a b c k one = (c, subst (λ z. IsStepOf once e s z c) k one, refl)
  stored_one e s [] (u ∷ ss) a b c k one = absurd k
  stored_one e s (f ∷ es) [] a b c k one = absurd k
  stored_one e s (f ∷ es) (u ∷ ss) a b c (mid, h, more) one = (mid, h, stored_one e s es ss mid b c more one)

  -- what an item is still to get comes before the attributes of all
  all_pass : (y : Item) (l : Option (Location A)) (n : Option Text) (es : List (ItemEntry A)) (ss : List (Step A)) (a b c : ContextView T A) → StoresAll once es ss a b → Finishes y l n b c
      → (m : ContextView T A) × Finishes y l n a m × StoresAll once es ss m c
  all_pass y l n [] [] a b c k f = (c, subst (λ z. Finishes y l n z c) k f, refl)
  all_pass y l n [] (u ∷ ss) a b c k f = absurd k
  all_pass y l n (e ∷ es) [] a b c k f = absurd k
  all_pass y l n (e ∷ es) (s ∷ ss) a b c (mid, one, more) f =
      let later = all_pass y l n es ss mid b c more f in
      let now = finish_passes (all_stored once e.pairs.items) s.label e.item y l n a mid later.0 one.stores later.1 in
      (now.0, now.1, (later.0, record { item = one.item; location = one.location; stores = now.2 }, later.2))

  -- the attributes of all, and then what is still to get, is what the entries give
  pub gives_all : (es : List (ItemEntry A)) (ss : List (Step A)) (a b c : ContextView T A) → StoresAll once es ss a b → FinishesAll ss b c → GivesAll once es a c
  gives_all [] [] a b c k f = f ∙ k
  gives_all [] (s ∷ ss) a b c k f = absurd k
  gives_all (e ∷ es) [] a b c k f = absurd k
  gives_all (e ∷ es) (s ∷ ss) a b c (mid, one, more) (last, f, fs) =
      let now = all_pass s.item s.location s.label es ss mid b last more f in
      let at_item : Finishes e.item s.location s.label mid now.0 = subst (λ x. Finishes x s.location s.label mid now.0) one.item now.1 in
      let finished : Finishes e.item e.location s.label mid now.0 = subst (λ l. Finishes e.item l s.label mid now.0) one.location at_item in
      (now.0, gives_both (all_stored once e.pairs.items) s.label e.item e.location a mid now.0 one.stores finished, gives_all es ss now.0 last c now.2 fs)

  -- ---- the loop over entries
  -- no entry was applied yet
  pub so_far_none : (all left : List (ItemEntry A)) (ss : List (Step A)) (c : ContextView T A) → left ≡ all → ss ≡ [] → TakenSoFar once all left ss c c
  so_far_none all left ss c e f = record {
    done = [];
    are = sym e;
    stores = subst (λ z. StoresAll once [] z c c) (sym f) refl;
    takes = λ mark. subst (λ z. TakesAll mark z c c) (sym f) (same-keeps mark c c refl);
  }

  -- one more was
  pub so_far_more : (all left rest : List (ItemEntry A)) (e : ItemEntry A) (ss more : List (Step A)) (a b c : ContextView T A) → TakenSoFar once all left ss a b → left ≡ e ∷ rest → StepsOn once e ss more b c → TakenSoFar once all rest more a c
  so_far_more all left rest e ss more a b c k steps one = record {
    done = k.done ++ e ∷ [];
    are = k.are ∙ (ap (λ z. k.done ++ z) steps ∙ joined k.done e rest);
    stores = subst (λ z. StoresAll once (k.done ++ e ∷ []) z a c) (sym one.noted) (stored_one e one.step k.done ss a b c k.stores one.made);
    takes = λ mark. subst (λ z. TakesAll mark z a c) (sym one.noted) (took_one mark one.step ss a b c (k.takes mark) one.takes);
  }

  -- all were
  pub so_far_all : (all left : List (ItemEntry A)) (ss : List (Step A)) (a b : ContextView T A) → TakenSoFar once all left ss a b → left ≡ [] → StoresAll once all ss a b
  so_far_all all left ss a b k e = subst (λ z. StoresAll once z ss a b) (sym (k.are ∙ (ap (λ z. k.done ++ z) e ∙ all_done k.done))) k.stores

  module _ (mark : ℕ) where
    -- what is older than the items stays
    pub gives_kept : (es : List (ItemEntry A)) (a c : ContextView T A) → GivesAll once es a c → ItemsAreNewer mark a es → KeepsOlder mark a c
    gives_kept [] a c e n = same-keeps mark a c e
    gives_kept (e ∷ es) a c (mid, one, more) (n, ns) =
        let first = one_kept mark e.item e.location (all_stored once e.pairs.items) a mid n one in
        kept_trans first (gives_kept es mid c more (all_still es mid first ns))
      where
        all_still : (es : List (ItemEntry A)) (b : ContextView T A) → KeepsOlder mark a b → ItemsAreNewer mark a es → ItemsAreNewer mark b es
        all_still [] b k n = tt
        all_still (e ∷ es) b k (n, ns) = (newer_still mark e.item k n, all_still es b k ns)

    one_closed : (x : Item) (l : Option (Location A)) (content : List (Text × Attribute A)) (a c : ContextView T A) → Gives x l content a c → IsClosedBelow mark a.graph → IsClosedBelow mark c.graph
    one_closed (item.Operation p) l content a c r h = go (is_some (operation a p)) r
      where
        go : (t : Bool) → cond t ((mid : ContextView T A) × LocatesOperation p l a mid × StoresOperation p content mid c) (c ≡ a) → IsClosedBelow mark c.graph
        go true (mid, i, k) = stored_closed mark p mid c (record { left = k.left; edits = k.edits }) (located_closed mark p l a mid i h)
        go false e = subst (λ (z : ContextView T A). IsClosedBelow mark z.graph) (sym e) h
    one_closed (item.Block p) l content a c r h = go (is_some (block a p)) r
      where
        go : (t : Bool) → cond t ((mid last : ContextView T A) × LocatesBlock p l a mid × StoresBlock p (no_label content) mid last × LabelsBlock p (label_in None content) last c) (c ≡ a) → IsClosedBelow mark c.graph
        go true (mid, last, i, k, w) = labelled_closed mark p (label_in None content) last c w
            (stored_block_closed mark p mid last (record { left = k.left; edits = k.edits }) (located_block_closed mark p l a mid i h))
        go false e = subst (λ (z : ContextView T A). IsClosedBelow mark z.graph) (sym e) h

    -- and what was closed below the mark is
    pub gives_closed : (es : List (ItemEntry A)) (a c : ContextView T A) → GivesAll once es a c → IsClosedBelow mark a.graph → IsClosedBelow mark c.graph
    gives_closed [] a c e h = subst (λ (z : ContextView T A). IsClosedBelow mark z.graph) (sym e) h
    gives_closed (e ∷ es) a c (mid, one, more) h = gives_closed es mid c more (one_closed e.item e.location (all_stored once e.pairs.items) a mid one h)
