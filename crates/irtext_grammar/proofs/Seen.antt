-- The actions of items on one state, seen on another: the actions of a tree and a whole parse are then seen on the other, too, also a parse
-- that is stuck.
use Rattle.std.proofs.Common.{◌≡◌, ◌∙◌, ℕ, zero, suc, Bool, true, false, cond, List, [], ◌∷◌, ◌++◌, length, Option, Some, None, codes, refl, ap}
use Rattle.std.specs.Prelude.{⊤}
use Rattle.irtext_base.specs.Text.{Text, begins, after_space}
use Rattle.irtext_base.specs.Reading.{the}
use Rattle.irtext_base.specs.Format.{Id}
use Rattle.irtext_base.specs.Answers.{Outcome, Read, Missing, Bad}
use Rattle.irtext_base.specs.Locations.{AttrView}
use Rattle.irtext_context.specs.Dialects.{Table}
use Rattle.irtext_tokens.specs.Infix.{◌▷◌}
use Rattle.irtext_tokens.specs.Tokens.{space_at, word}
use Rattle.irtext_grammar.specs.Contexts.Formats.{isolated}
use Rattle.irtext_grammar.specs.Grammar.Forest.{Regions, no_regions, region, Blocks, no_blocks, block, Operations, no_operations, operation}
use Rattle.irtext_grammar.specs.Grammar.Tree as tree
use Rattle.irtext_grammar.specs.Grammar.Tree.{Name, Mark, Piece, Part, Op, Head, Brace, shown, elided, Tree, parts_of}
use Rattle.irtext_grammar.specs.Readers.Parts.{without_first}
use Rattle.irtext_grammar.specs.declared.parsed.Setting.{Setting}
use Rattle.irtext_grammar.specs.Heads.{Step, one, all, front_steps, region_steps, piece_at, head_at, led_at, mark_if_at, setting}
use Rattle.irtext_grammar.specs.Reached.{Reached, Advanced, Stopped, came, tells, Actions, Reads, begins_operation, begins_region, begins_block, steps_in, regions_by, more_by, operations_by, blocks_by, front_by, steps_by, end_by, body_by, operation_by, block_by, region_by, region_within, region_at, operation_at, front_parts, region_parts, each_of, do_parts, do_operation, do_region, do_regions, do_blocks, do_operations, do_tree}
use Rattle.irtext_grammar.specs.Resume.{Open, to_come, an_operation, a_region, a_block, block_at, rest_of, resume, whole}
use Rattle.irtext_grammar.specs.Both.{seen_as}

-- what items do in the one way, as `see` shows it, is what they do in the other
pub record Shows {T A S U : Type 0} (see : S → U) (d : Actions T A S) (e : Actions T A U) : Type 0 where
  pub uses : (place : ℕ) (id : Id) (parts : List (Part ℕ T A)) (s : S) → see (d.uses place id parts s) ≡ e.uses place id parts (see s)
  pub late : (place : ℕ) (id : Id) (piece : Piece ℕ T A) (s : S) → see (d.late place id piece s) ≡ e.late place id piece (see s)
  pub enters : (iso : Bool) (s : S) → see (d.enters iso s) ≡ e.enters iso (see s)
  pub leaves : (iso : Bool) (place : ℕ) (s : S) → see (d.leaves iso place s) ≡ e.leaves iso place (see s)
  pub closes : (place : ℕ) (names : List (Name ℕ)) (id : Id) (parts : List (Part ℕ T A)) (s : S) → see (d.closes place names id parts s) ≡ e.closes place names id parts (see s)
  pub marks : (mark : Option (Mark ℕ)) (s : S) → see (d.marks mark s) ≡ e.marks mark (see s)
  pub heads : (head : Head ℕ T A) (s : S) → see (d.heads head s) ≡ e.heads head (see s)

-- ---- trees
module _ {T A S U : Type 0} (isolated : Id → Bool) (see : S → U) (d : Actions T A S) (e : Actions T A U) (shows : Shows see d e) where
  -- each of the one, as `see` shows it, is one of the other
  abbrev EachShows : List (S → S) → List (U → U) → Type 0
  EachShows [] [] = ⊤
  EachShows (f ∷ fs) (g ∷ gs) = ((s : S) → see (f s) ≡ g (see s)) × EachShows fs gs
  EachShows _ _ = ⊥

  shows_each : (fs : List (S → S)) (gs : List (U → U)) → EachShows fs gs → (s : S) → see (each_of fs s) ≡ each_of gs (see s)
  shows_each [] [] h s = refl
  shows_each [] (g ∷ gs) h s = absurd h
  shows_each (f ∷ fs) [] h s = absurd h
  shows_each (f ∷ fs) (g ∷ gs) h s = shows_each fs gs h.1 (f s) ∙ ap (each_of gs) (h.0 s)

  shows_parts : (place : ℕ) (id : Id) (ps : List (Part ℕ T A)) (fs : List (S → S)) (gs : List (U → U)) → EachShows fs gs
      → (s : S) → see (do_parts isolated d place id ps fs s) ≡ do_parts isolated e place id ps gs (see s)
  shows_parts place id [] fs gs h s = refl
  shows_parts place id (tree.piece p ∷ ps) fs gs h s = shows_parts place id ps fs gs h (d.late place id p s) ∙ ap (do_parts isolated e place id ps gs) (shows.late place id p s)
  shows_parts place id (tree.region i ∷ ps) [] [] h s = shows_parts place id ps [] [] h s
  shows_parts place id (tree.region i ∷ ps) [] (g ∷ gs) h s = absurd h
  shows_parts place id (tree.region i ∷ ps) (f ∷ fs) [] h s = absurd h
  shows_parts place id (tree.region i ∷ ps) (f ∷ fs) (g ∷ gs) h s = shows_parts place id ps fs gs h.1 (f s) ∙ ap (do_parts isolated e place id ps gs) (h.0 s)
  shows_parts place id (tree.regions ∷ ps) fs gs h s = shows_parts place id ps [] [] tt (each_of fs s) ∙ ap (do_parts isolated e place id ps []) (shows_each fs gs h s)

  shows_operation : (o : Op ℕ T A) (fs : List (S → S)) (gs : List (U → U)) → EachShows fs gs → (s : S) → see (do_operation isolated d o fs s) ≡ do_operation isolated e o gs (see s)
  shows_operation o fs gs h s =
      let ps = parts_of o.body in
      let used = d.uses o.place o.id (front_parts ps) s in
      let parts = do_parts isolated d o.place o.id (region_parts ps) fs used in
      shows.marks o.mark (d.closes o.place o.names o.id ps parts)
      ∙ (ap (e.marks o.mark) (shows.closes o.place o.names o.id ps parts)
      ∙ (ap (λ z. e.marks o.mark (e.closes o.place o.names o.id ps z)) (shows_parts o.place o.id (region_parts ps) fs gs h used)
      ∙ ap (λ z. e.marks o.mark (e.closes o.place o.names o.id ps (do_parts isolated e o.place o.id (region_parts ps) gs z))) (shows.uses o.place o.id (front_parts ps) s)))

  shows_region : (iso : Bool) (brace : Brace ℕ) (f : S → S) (g : U → U) → ((s : S) → see (f s) ≡ g (see s)) → (s : S) → see (do_region isolated d iso brace f s) ≡ do_region isolated e iso brace g (see s)
  shows_region iso elided f g h s = refl
  shows_region iso (shown place) f g h s =
      shows.leaves iso place (f (d.enters iso s)) ∙ (ap (e.leaves iso place) (h (d.enters iso s)) ∙ ap (λ z. e.leaves iso place (g z)) (shows.enters iso s))

  mutual
    shows_regions : (iso : Bool) (rs : Regions (Op ℕ T A) (Head ℕ T A) (Brace ℕ)) → EachShows (do_regions isolated d iso rs) (do_regions isolated e iso rs)
    shows_regions iso no_regions = tt
    shows_regions iso (region brace bs rs) = (shows_region iso brace (do_blocks isolated d bs) (do_blocks isolated e bs) (shows_blocks bs), shows_regions iso rs)

    -- what blocks do
    pub shows_blocks : (bs : Blocks (Op ℕ T A) (Head ℕ T A) (Brace ℕ)) (s : S) → see (do_blocks isolated d bs s) ≡ do_blocks isolated e bs (see s)
    shows_blocks no_blocks s = refl
    shows_blocks (block h os bs) s =
        shows_blocks bs (do_operations isolated d os (d.heads h s))
        ∙ ap (do_blocks isolated e bs) (shows_operations os (d.heads h s) ∙ ap (do_operations isolated e os) (shows.heads h s))

    -- what operations do
    pub shows_operations : (os : Operations (Op ℕ T A) (Head ℕ T A) (Brace ℕ)) (s : S) → see (do_operations isolated d os s) ≡ do_operations isolated e os (see s)
    shows_operations no_operations s = refl
    shows_operations (operation o rs os) s =
        shows_operations os (do_operation isolated d o (do_regions isolated d (isolated o.id) rs) s)
        ∙ ap (do_operations isolated e os) (shows_operation o (do_regions isolated d (isolated o.id) rs) (do_regions isolated e (isolated o.id) rs) (shows_regions (isolated o.id) rs) s)

  -- what a tree does
  pub shows_tree : (x : Tree ℕ T A) (s : S) → see (do_tree isolated d x s) ≡ do_tree isolated e x (see s)
  shows_tree x s = shows_operation x.own (do_regions isolated d (isolated x.own.id) x.regions) (do_regions isolated e (isolated x.own.id) x.regions) (shows_regions (isolated x.own.id) x.regions) s

-- ---- parses
module _ {S U : Type 0} (see : S → U) where
  -- the one parser, as `see` shows it, returns what the other does
  pub record ReadsSeen (f : Reads S) (g : Reads U) : Type 0 where
    pub at : (text : Text) (s : S) → seen_as see (f text s) ≡ g text (see s)

  -- what follows a parse
  pub seen_came : {X Y : Type 0} (o : Reached X S) (p : Reached X U) (next : X → S → Text → Reached Y S) (other : X → U → Text → Reached Y U) → seen_as see o ≡ p
      → ((x : X) (s : S) (rest : Text) → seen_as see (next x s rest) ≡ other x (see s) rest) → seen_as see (came o next) ≡ came p other
  seen_came (Advanced x s rest) p next other k h = h x s rest ∙ ap (λ z. came z other) k
  seen_came (Stopped s cause place) p next other k h = ap (λ z. came z other) k

  -- what follows a required value at a text
  pub seen_tells : {X Y : Type 0} (o : Outcome X) (text : Text) (s : S) (u : U) (next : X → Text → Reached Y S) (other : X → Text → Reached Y U) → see s ≡ u
      → ((x : X) (rest : Text) → seen_as see (next x rest) ≡ other x rest) → seen_as see (tells o text s next) ≡ tells o text u other
  seen_tells (Read x taken rest) text s u next other k h = h x rest
  seen_tells (Missing cause) text s u next other k h = ap (λ z. Stopped z cause (length text)) k
  seen_tells (Bad cause upto) text s u next other k h = ap (λ z. tells (Bad cause upto) text z other) k

  -- a parse that is begun or not
  seen_if : {X : Type 0} (b : Bool) (o p : Reached X S) (q r : Reached X U) → seen_as see o ≡ q → seen_as see p ≡ r → seen_as see (cond b o p) ≡ cond b q r
  seen_if true o p q r h k = h
  seen_if false o p q r h k = k

  module _ (f : Reads S) (g : Reads U) (h : ReadsSeen f g) where
    -- regions one after another
    pub seen_regions : (n : ℕ) (text : Text) (s : S) → seen_as see (regions_by f n text s) ≡ regions_by g n text (see s)
    seen_regions zero text s = refl
    seen_regions (suc n) text s = seen_if (begins_region text) _ _ _ _
        (seen_came (f text s) (g text (see s)) (λ _ t rest. regions_by f n (after_space rest) t) (λ _ t rest. regions_by g n (after_space rest) t) (h.at text s) (λ _ t rest. seen_regions n (after_space rest) t)) refl

    -- operations after `;`
    pub seen_more : (n : ℕ) (text : Text) (s : S) → seen_as see (more_by f n text s) ≡ more_by g n text (see s)
    seen_more zero text s = refl
    seen_more (suc n) text s =
        let following = after_space (without_first text) in
        seen_if (begins (the 59) text) _ _ _ _
        (seen_came (f following s) (g following (see s)) (λ _ t rest. more_by f n (after_space rest) t) (λ _ t rest. more_by g n (after_space rest) t) (h.at following s) (λ _ t rest. seen_more n (after_space rest) t)) refl

    -- the operations of a block
    pub seen_operations : (text : Text) (s : S) → seen_as see (operations_by f text s) ≡ operations_by g text (see s)
    seen_operations text s = seen_if (begins_operation text) _ _ _ _
        (seen_came (f text s) (g text (see s)) (λ _ t rest. more_by f (length rest) (after_space rest) t) (λ _ t rest. more_by g (length rest) (after_space rest) t) (h.at text s)
        (λ _ t rest. seen_more (length rest) (after_space rest) t)) refl

    -- blocks one after another
    pub seen_blocks : (n : ℕ) (text : Text) (s : S) → seen_as see (blocks_by f n text s) ≡ blocks_by g n text (see s)
    seen_blocks zero text s = refl
    seen_blocks (suc n) text s = seen_if (begins_block text) _ _ _ _
        (seen_came (f text s) (g text (see s)) (λ _ t rest. blocks_by f n (after_space rest) t) (λ _ t rest. blocks_by g n (after_space rest) t) (h.at text s) (λ _ t rest. seen_blocks n (after_space rest) t)) refl

module _ {T A S U : Type 0} (dialects : List (Text × Table)) (types_at : Text → Outcome T) (attr : Text → Outcome (AttrView A)) (see : S → U) (d : Actions T A S) (e : Actions T A U) (shows : Shows see d e) (alike : d.any_key ≡ e.any_key) where
  -- parts before the first region
  pub seen_front : (at : Setting) (ss : List Step) (found : List (Part ℕ T A)) (text : Text) (s : S)
      → seen_as see (front_by dialects types_at attr d at ss found text s) ≡ front_by dialects types_at attr e at ss found text (see s)
  seen_front at [] found text s = refl
  seen_front at (step ∷ ss) found text s = seen_tells see ((space_at ▷ piece_at types_at attr at step) text) text s (see s) _ _ refl (λ p rest. seen_front at ss (found ++ tree.piece p ∷ []) rest s)

  module _ (f : Reads S) (g : Reads U) (h : ReadsSeen see f g) where
    -- parts from the first region on
    pub seen_steps : (place : ℕ) (id : Id) (ss : List Step) (found : List (Part ℕ T A)) (text : Text) (s : S)
        → seen_as see (steps_by dialects types_at attr d f place id ss found text s) ≡ steps_by dialects types_at attr e g place id ss found text (see s)
    seen_steps place id [] found text s = refl
    seen_steps place id (one i ∷ ss) found text s =
        seen_came see (f (after_space text) s) (g (after_space text) (see s)) _ _ (h.at (after_space text) s) (λ _ t rest. seen_steps place id ss (found ++ tree.region i ∷ []) rest t)
    seen_steps place id (all ∷ ss) found text s =
        seen_came see (regions_by f (length text) (after_space text) s) (regions_by g (length text) (after_space text) (see s)) _ _ (seen_regions see f g h (length text) (after_space text) s)
        (λ _ t rest. seen_steps place id ss (found ++ tree.regions ∷ []) rest t)
    seen_steps place id (step ∷ ss) found text s =
        let next : Piece ℕ T A → Text → Reached (List (Part ℕ T A)) U = λ p rest. steps_by dialects types_at attr e g place id ss (found ++ tree.piece p ∷ []) rest (e.late place id p (see s)) in
        seen_tells see ((space_at ▷ piece_at types_at attr (setting true d.any_key) step) text) text s (see s) _ next refl (λ p rest.
        seen_steps place id ss (found ++ tree.piece p ∷ []) rest (d.late place id p s)
        ∙ ap (steps_by dialects types_at attr e g place id ss (found ++ tree.piece p ∷ []) rest) (shows.late place id p s))
        ∙ ap (λ k. tells ((space_at ▷ piece_at types_at attr (setting true k) step) text) text (see s) next) alike

    -- the end of an operation
    pub seen_end : (place : ℕ) (names : List (Name ℕ)) (id : Id) (parts : List (Part ℕ T A)) (text : Text) (s : S)
        → seen_as see (end_by dialects types_at attr d place names id parts text s) ≡ end_by dialects types_at attr e place names id parts text (see s)
    seen_end place names id parts text s =
        let closed = shows.closes place names id parts s in
        seen_tells see ((space_at ▷ mark_if_at) text) text (d.closes place names id parts s) (e.closes place names id parts (see s)) _ _ closed
        (λ m rest. ap (λ z. Advanced tt z rest) (shows.marks m (d.closes place names id parts s) ∙ ap (e.marks m) closed))

    -- what follows an operation's id
    pub seen_body : (inside : Bool) (place : ℕ) (names : List (Name ℕ)) (id : Id) (text : Text) (s : S)
        → seen_as see (body_by dialects types_at attr d f inside place names id text s) ≡ body_by dialects types_at attr e g inside place names id text (see s)
    seen_body inside place names id text s =
        let ss = region_steps (steps_in dialects id) in
        seen_came see (front_by dialects types_at attr d (setting inside d.any_key) (front_steps (steps_in dialects id)) [] text s) (front_by dialects types_at attr e (setting inside e.any_key) (front_steps (steps_in dialects id)) [] text (see s)) _ _
        (seen_front (setting inside d.any_key) (front_steps (steps_in dialects id)) [] text s
        ∙ ap (λ k. front_by dialects types_at attr e (setting inside k) (front_steps (steps_in dialects id)) [] text (see s)) alike) (λ found t rest.
        seen_came see (steps_by dialects types_at attr d f place id ss found rest (d.uses place id found t)) (steps_by dialects types_at attr e g place id ss found rest (see (d.uses place id found t)))
        (λ parts u left. end_by dialects types_at attr d place names id parts left u) (λ parts u left. end_by dialects types_at attr e place names id parts left u)
        (seen_steps place id ss found rest (d.uses place id found t)) (λ parts u left. seen_end place names id parts left u)
        ∙ ap (λ z. came (steps_by dialects types_at attr e g place id ss found rest z) (λ parts u left. end_by dialects types_at attr e place names id parts left u)) (shows.uses place id found t))

  -- an operation, where its regions are seen so
  pub seen_operation : (f : Bool → Reads S) (g : Bool → Reads U) → ((iso : Bool) → ReadsSeen see (f iso) (g iso)) → (inside : Bool)
      → ReadsSeen see (operation_by dialects types_at attr d f inside) (operation_by dialects types_at attr e g inside)
  seen_operation f g h inside = record {
    at = λ text s. seen_tells see (led_at dialects text) text s (see s) _ _ refl
        (λ lead rest. seen_body (f (isolated dialects lead.1)) (g (isolated dialects lead.1)) (h (isolated dialects lead.1)) inside (length text) lead.0 lead.1 rest s);
  }

  -- a block, where its operations are seen so
  pub seen_block : (f : Reads S) (g : Reads U) → ReadsSeen see f g → ReadsSeen see (block_by dialects types_at attr d f) (block_by dialects types_at attr e g)
  seen_block f g h = record {
    at = λ text s. seen_tells see (head_at types_at attr text) text s (see s) _ _ refl (λ head rest. h.at (after_space rest) (d.heads head s) ∙ ap (g (after_space rest)) (shows.heads head s));
  }

  -- a region's end
  pub seen_leaving : (iso : Bool) (place : ℕ) (left : Text) (s : S)
      → seen_as {X = Unit} see (tells (word (codes "}") left) left s (λ _ end. Advanced tt (d.leaves iso place s) end)) ≡ tells (word (codes "}") left) left (see s) (λ _ end. Advanced tt (e.leaves iso place (see s)) end)
  seen_leaving iso place left s = seen_tells see (word (codes "}") left) left s (see s) (λ _ end. Advanced tt (d.leaves iso place s) end) (λ _ end. Advanced tt (e.leaves iso place (see s)) end) refl
      (λ _ end. ap (λ z. Advanced tt z end) (shows.leaves iso place s))

  -- a region, where its blocks are seen so
  pub seen_region : (f : Reads S) (g : Reads U) → ReadsSeen see f g → (iso : Bool) → ReadsSeen see (region_by dialects types_at attr d f iso) (region_by dialects types_at attr e g iso)
  seen_region f g h iso = record {
    at = λ text s.
        let entered = shows.enters iso s in
        seen_tells see ((word (codes "{") ▷ space_at) text) text (d.enters iso s) (e.enters iso (see s)) _ _ entered (λ _ rest.
        seen_came see (f rest (d.enters iso s)) (g rest (e.enters iso (see s))) _ _ (h.at rest (d.enters iso s) ∙ ap (g rest) entered) (λ _ u left. seen_leaving iso (length text) left u));
  }

  seen_within : (n : ℕ) (iso : Bool) → ReadsSeen see (region_within dialects types_at attr d n iso) (region_within dialects types_at attr e n iso)
  seen_within zero iso = record { at = λ text s. refl }
  seen_within (suc n) iso =
      let item = seen_operation (region_within dialects types_at attr d n) (region_within dialects types_at attr e n) (seen_within n) true in
      let operations : ReadsSeen see (operations_by (operation_by dialects types_at attr d (region_within dialects types_at attr d n) true)) (operations_by (operation_by dialects types_at attr e (region_within dialects types_at attr e n) true))
      = record { at = seen_operations see _ _ item } in
      let block = seen_block _ _ operations in
      let blocks : ReadsSeen see (λ rest t. blocks_by (block_by dialects types_at attr d (operations_by (operation_by dialects types_at attr d (region_within dialects types_at attr d n) true))) (length rest) rest t)
      (λ rest t. blocks_by (block_by dialects types_at attr e (operations_by (operation_by dialects types_at attr e (region_within dialects types_at attr e n) true))) (length rest) rest t)
      = record { at = λ rest. seen_blocks see _ _ block (length rest) rest } in
      record { at = (seen_region _ _ blocks iso).at }

  -- the parse of a region is seen so
  pub seen_region_at : (iso : Bool) → ReadsSeen see (region_at dialects types_at attr d iso) (region_at dialects types_at attr e iso)
  seen_region_at iso = record { at = λ text. (seen_within (suc (length text)) iso).at text }

  -- and so is an operation's
  pub seen_operation_at : (inside : Bool) → ReadsSeen see (operation_at dialects types_at attr d inside) (operation_at dialects types_at attr e inside)
  seen_operation_at inside = record { at = (seen_operation (region_at dialects types_at attr d) (region_at dialects types_at attr e) seen_region_at inside).at }

  -- ---- the open frames
  seen_item : ReadsSeen see (operations_by (operation_at dialects types_at attr d true)) (operations_by (operation_at dialects types_at attr e true))
  seen_item = record { at = seen_operations see _ _ (seen_operation_at true) }

  -- the rest of an open frame
  pub seen_rest : (o : Open T A) → ReadsSeen see (rest_of dialects types_at attr d o) (rest_of dialects types_at attr e o)
  seen_rest (to_come inside) = seen_operation_at inside
  seen_rest (an_operation o) = record {
    at = λ text s. seen_came see (steps_by dialects types_at attr d (region_at dialects types_at attr d (isolated dialects o.id)) o.place o.id o.steps o.parts text s)
        (steps_by dialects types_at attr e (region_at dialects types_at attr e (isolated dialects o.id)) o.place o.id o.steps o.parts text (see s)) _ _
        (seen_steps (region_at dialects types_at attr d (isolated dialects o.id)) (region_at dialects types_at attr e (isolated dialects o.id)) (seen_region_at (isolated dialects o.id)) o.place o.id o.steps o.parts text s)
        (λ parts u left. seen_end (region_at dialects types_at attr d (isolated dialects o.id)) (region_at dialects types_at attr e (isolated dialects o.id)) (seen_region_at (isolated dialects o.id)) o.place o.names o.id parts left u);
  }
  seen_rest (a_region iso place) = record {
    at = λ text s. seen_came see (blocks_by (block_at dialects types_at attr d) (length text) (after_space text) s) (blocks_by (block_at dialects types_at attr e) (length text) (after_space text) (see s)) _ _
        (seen_blocks see (block_at dialects types_at attr d) (block_at dialects types_at attr e) (seen_block _ _ seen_item) (length text) (after_space text) s)
        (λ _ u left. seen_leaving iso place left u);
  }
  seen_rest (a_block true) = record { at = λ text s. seen_item.at (after_space text) s }
  seen_rest (a_block false) = record { at = λ text s. seen_more see _ _ (seen_operation_at true) (length text) (after_space text) s }

  -- the result of the whole parse, given that of the innermost frame
  pub seen_resume : (frames : List (Open T A)) (o : Reached Unit S) (p : Reached Unit U) → seen_as see o ≡ p → seen_as see (resume dialects types_at attr d frames o) ≡ resume dialects types_at attr e frames p
  seen_resume [] o p h = h
  seen_resume (f ∷ frames) o p h = seen_came see (resume dialects types_at attr d frames o) (resume dialects types_at attr e frames p) _ _ (seen_resume frames o p h) (λ _ s text. (seen_rest f).at text s)

  -- what comes of the whole
  pub seen_whole : (next : Option (Open T A)) (frames : List (Open T A)) (s : S) (text : Text) → seen_as see (whole dialects types_at attr d next frames s text) ≡ whole dialects types_at attr e next frames (see s) text
  seen_whole None frames s text = refl
  seen_whole (Some f) frames s text = seen_resume frames (rest_of dialects types_at attr d f text s) (rest_of dialects types_at attr e f text (see s)) ((seen_rest f).at text s)
