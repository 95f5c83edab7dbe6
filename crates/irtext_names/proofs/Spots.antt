-- Where the names of a scope are defined: a tree's script says the same of this as that of a graph of the same form.
use Rattle.std.proofs.Common.{◌≡◌, ◌∙◌, ℕ, suc, Bool, true, false, cond, ◌&&◌, List, [], ◌∷◌, ◌++◌, map, drop, length, slice_get, Option, Some, None, refl, sym, ap, ap₂, subst, arith}
use Rattle.std.specs.Prelude.{⊤, nat_lt}
use Rattle.irtext_base.specs.Text.{Text}
use Rattle.irtext_base.specs.Format as format
use Rattle.irtext_base.specs.Format.{Format, Directive, Id, same_text, ascend, count, is_regions, operand_places, successor_places, region_places}
use Rattle.irtext_grammar.specs.Grammar.Forest.{Regions, no_regions, region, Blocks, no_blocks, block, Operations, no_operations, operation, MatchRegions, MatchBlocks, MatchOperations, regions_list}
use Rattle.irtext_grammar.specs.Grammar.Tree as tree
use Rattle.irtext_grammar.specs.Grammar.Tree.{Name, Mark, Attribute, Piece, Part, Op, Head, Brace, shown, elided, parts_of}
use Rattle.irtext_grammar.specs.Graphs.Closed.{Thing, same_thing, uses_of_values, uses_of_blocks, defined_results, defined_arguments, use_if, use_block_if, directives_script, body_script, graph_regions, graph_blocks, graph_operations, FitsFormat, FitRegions, FitBlocks, FitOperations}
use Rattle.irtext_grammar.specs.Graphs.Graph.{GraphOp, GraphBlock, Printing}
use Rattle.irtext_grammar.specs.Names.Acts.{Rule, may_hold, block_may_hold, key_act, entries_if, value_uses, label_uses, result_definitions, argument_definitions, mark_acts, piece_acts, parts_script, closing_acts, header_acts, region_scripts, blocks_script, operations_script, singles, single_labels, all_of}
use Rattle.irtext_grammar.specs.Names.Scopes.{Fact, uses, defines, facts}
use Rattle.irtext_grammar.specs.Names.Script.{Path, Place, result, argument, block_at, Act, use_value, use_label, define_value, define_label, mark, entry, claim, Script, does, within, does_all}
use Rattle.irtext_grammar.specs.Spelling.Spellable.{Each, Enough}
use Rattle.irtext_grammar.proofs.Graphs.FitsFormat.{meets, and_left, and_right}
use Rattle.irtext_grammar.proofs.Graphs.WrittenSpellable.{Room, room}
use Rattle.irtext_grammar.proofs.Names.InScripts.{WholeRegions, WholeBlocks, WholeOperations}

-- where the names among the facts are defined, in their order
abbrev pub spots : {N : Type 0} → List (Fact N) → List Place
spots [] = []
spots (uses n u ∷ fs) = spots fs
spots (defines n p ∷ fs) = p ∷ spots fs

spots_both : {N : Type 0} (fs gs : List (Fact N)) → spots (fs ++ gs) ≡ spots fs ++ spots gs
spots_both [] gs = refl
spots_both (uses n u ∷ fs) gs = spots_both fs gs
spots_both (defines n p ∷ fs) gs = ap (λ z. p ∷ z) (spots_both fs gs)

-- a script defines values and blocks at these places, for the scopes around it
pub record Says {N P : Type 0} (eq : N → N → Bool) (x : Script N P) (vs ls : List Place) : Type 0 where
  pub values : spots (facts eq x).values ≡ vs
  pub labels : spots (facts eq x).labels ≡ ls

-- places one after another, and then more
abbrev pub outs : List (List Place) → List Place → List Place
outs [] vs = vs
outs (o ∷ os) vs = o ++ outs os vs

-- the places of results, and of arguments, from a number on
abbrev pub result_spots : {X : Type 0} → Path → ℕ → List X → List Place → List Place
result_spots p k [] vs = vs
result_spots p k (x ∷ xs) vs = result p k ∷ result_spots p (suc k) xs vs

abbrev pub argument_spots : {X : Type 0} → Path → ℕ → List X → List Place → List Place
argument_spots p k [] vs = vs
argument_spots p k (x ∷ xs) vs = argument p k ∷ argument_spots p (suc k) xs vs

less_one : (m n : ℕ) → suc m ≡ suc n → m ≡ n
less_one m n e = omega (arith, e)

none_more : {X : Type 0} (x : X) (xs : List X) → length (x ∷ xs) ≡ 0 → ⊥
none_more x xs e = omega (arith, e)

same_results : {X Y : Type 0} (p : Path) (k : ℕ) (xs : List X) (ys : List Y) (vs : List Place) → length xs ≡ length ys → result_spots p k xs vs ≡ result_spots p k ys vs
same_results p k [] [] vs e = refl
same_results p k [] (y ∷ ys) vs e = absurd (none_more y ys (sym e))
same_results p k (x ∷ xs) [] vs e = absurd (none_more x xs e)
same_results p k (x ∷ xs) (y ∷ ys) vs e = ap (λ z. result p k ∷ z) (same_results p (suc k) xs ys vs (less_one (length xs) (length ys) e))

same_arguments : {X Y : Type 0} (p : Path) (k : ℕ) (xs : List X) (ys : List Y) (vs : List Place) → length xs ≡ length ys → argument_spots p k xs vs ≡ argument_spots p k ys vs
same_arguments p k [] [] vs e = refl
same_arguments p k [] (y ∷ ys) vs e = absurd (none_more y ys (sym e))
same_arguments p k (x ∷ xs) [] vs e = absurd (none_more x xs e)
same_arguments p k (x ∷ xs) (y ∷ ys) vs e = ap (λ z. argument p k ∷ z) (same_arguments p (suc k) xs ys vs (less_one (length xs) (length ys) e))

-- acts joined are done one list after the other
both_done : {N P : Type 0} (xs ys : List (Act N P)) (k : Script N P) → does_all (xs ++ ys) k ≡ does_all xs (does_all ys k)
both_done [] ys k = refl
both_done (x ∷ xs) ys k = ap (does x) (both_done xs ys k)

-- the act defines nothing
abbrev Quiet : {N P : Type 0} → Act N P → Type 0
Quiet (define_value w p) = ⊥
Quiet (define_label w p) = ⊥
Quiet _ = ⊤

module _ {N P : Type 0} (eq : N → N → Bool) where
  says_as : {x y : Script N P} {vs ls : List Place} → x ≡ y → Says eq y vs ls → Says eq x vs ls
  says_as {vs = vs} {ls = ls} e h = subst (λ z. Says eq z vs ls) (sym e) h

  quiet_says : (acts : List (Act N P)) {x : Script N P} {vs ls : List Place} → Each Quiet acts → Says eq x vs ls → Says eq (does_all acts x) vs ls
  quiet_says [] q h = h
  quiet_says (use_value w u ∷ acts) q h = let r = quiet_says acts q.1 h in record { values = r.values; labels = r.labels }
  quiet_says (use_label w u ∷ acts) q h = let r = quiet_says acts q.1 h in record { values = r.values; labels = r.labels }
  quiet_says (define_value w p ∷ acts) q h = absurd q.0
  quiet_says (define_label w p ∷ acts) q h = absurd q.0
  quiet_says (mark i p ∷ acts) q h = let r = quiet_says acts q.1 h in record { values = r.values; labels = r.labels }
  quiet_says (entry i p ∷ acts) q h = let r = quiet_says acts q.1 h in record { values = r.values; labels = r.labels }
  quiet_says (claim b f ∷ acts) q h = let r = quiet_says acts q.1 h in record { values = r.values; labels = r.labels }

  -- a region says its values outward where its operation is not isolated
  within_says : (iso : Bool) (place : P) (body : Script N P) {x : Script N P} {bs cs vs ls : List Place} → Says eq body bs cs → Says eq x vs ls → Says eq (within iso place body x) (cond iso [] bs ++ vs) ls
  within_says true place body b h = record { values = h.values; labels = h.labels }
  within_says false place body {x = x} b h = record { values = spots_both (facts eq body).values (facts eq x).values ∙ ap₂ ◌++◌ b.values h.values; labels = h.labels }

  -- each of these scripts, whatever script follows it, defines these values
  abbrev pub AllSay : List (Script N P → Script N P) → List (List Place) → Type 0
  AllSay [] [] = ⊤
  AllSay (s ∷ ss) (o ∷ os) = ((x : Script N P) (vs ls : List Place) → Says eq x vs ls → Says eq (s x) (o ++ vs) ls) × AllSay ss os
  AllSay _ _ = ⊥

  all_say : (ss : List (Script N P → Script N P)) (os : List (List Place)) {x : Script N P} {vs ls : List Place} → AllSay ss os → Says eq x vs ls → Says eq (all_of ss x) (outs os vs) ls
  all_say [] [] a h = h
  all_say [] (o ∷ os) a h = absurd a
  all_say (s ∷ ss) [] a h = absurd a
  all_say (s ∷ ss) (o ∷ os) a h = a.0 _ _ _ (all_say ss os a.1 h)

-- ---- the places of a graph of this form
module _ {T A : Type 0} (isolated : Id → Bool) where
  abbrev mutual
    -- the values that each region says outward
    pub regions_outs : Path → ℕ → Bool → Regions (GraphOp T A) (GraphBlock T A) ⊤ → List (List Place)
    regions_outs p j iso no_regions = []
    regions_outs p j iso (region r bs rs) = cond iso [] (block_spots (j ∷ p) 0 bs) ∷ regions_outs p (suc j) iso rs

    -- the values that blocks define
    pub block_spots : Path → ℕ → Blocks (GraphOp T A) (GraphBlock T A) ⊤ → List Place
    block_spots p k no_blocks = []
    block_spots p k (block h os bs) = argument_spots (k ∷ p) 0 h.arguments (operation_spots (k ∷ p) 0 os (block_spots p (suc k) bs))

    -- and operations, and then more
    pub operation_spots : Path → ℕ → Operations (GraphOp T A) (GraphBlock T A) ⊤ → List Place → List Place
    operation_spots p i no_operations vs = vs
    operation_spots p i (operation o rs os) vs = outs (regions_outs (i ∷ p) 0 (isolated o.id) rs) (result_spots (i ∷ p) 0 o.results (operation_spots p (suc i) os vs))

  -- the blocks
  abbrev pub label_spots : Path → ℕ → Blocks (GraphOp T A) (GraphBlock T A) ⊤ → List Place
  label_spots p k no_blocks = []
  label_spots p k (block h os bs) = block_at (k ∷ p) ∷ label_spots p (suc k) bs

-- ---- what a graph's script says
abbrev ThingSays : Script Thing ⊤ → List Place → List Place → Type 0
ThingSays x vs ls = Says same_thing x vs ls

quiet_values : (p : Path) (k : ℕ) (vs : List ℕ) → Each Quiet (uses_of_values p k vs)
quiet_values p k [] = tt
quiet_values p k (v ∷ vs) = (tt, quiet_values p (suc k) vs)

quiet_blocks : (p : Path) (k : ℕ) (bs : List (ℕ × ℕ)) → Each Quiet (uses_of_blocks p k bs)
quiet_blocks p k [] = tt
quiet_blocks p k (b ∷ bs) = (tt, quiet_blocks p (suc k) bs)

quiet_value_if : (p : Path) (i : ℕ) (x : Option ℕ) → Each Quiet (use_if p i x)
quiet_value_if p i None = tt
quiet_value_if p i (Some v) = (tt, tt)

quiet_block_if : (p : Path) (i : ℕ) (x : Option (ℕ × ℕ)) → Each Quiet (use_block_if p i x)
quiet_block_if p i None = tt
quiet_block_if p i (Some b) = (tt, tt)

graph_results_say : {T : Type 0} (p : Path) (k : ℕ) (rs : List (ℕ × T)) {x : Script Thing ⊤} {vs ls : List Place} → ThingSays x vs ls → ThingSays (does_all (defined_results p k rs) x) (result_spots p k rs vs) ls
graph_results_say p k [] h = h
graph_results_say p k (r ∷ rs) h = let q = graph_results_say p (suc k) rs h in record { values = ap (λ z. result p k ∷ z) q.values; labels = q.labels }

graph_arguments_say : {T : Type 0} (p : Path) (k : ℕ) (rs : List (ℕ × T)) {x : Script Thing ⊤} {vs ls : List Place} → ThingSays x vs ls → ThingSays (does_all (defined_arguments p k rs) x) (argument_spots p k rs vs) ls
graph_arguments_say p k [] h = h
graph_arguments_say p k (r ∷ rs) h = let q = graph_arguments_say p (suc k) rs h in record { values = ap (λ z. argument p k ∷ z) q.values; labels = q.labels }

no_room : {X : Type 0} (x : X) (xs : List X) → length (x ∷ xs) ≡ 0 → ⊥
no_room x xs e = omega (arith, e)

module _ {T A : Type 0} (C : Printing T A) (isolated : Id → Bool) where
  module _ (ds : List Directive) (p : Path) (o : GraphOp T A) {x : Script Thing ⊤} {vs ls : List Place} (h : ThingSays x vs ls) where
    directives_say : (rest : List Directive) (ss : List (Script Thing ⊤ → Script Thing ⊤)) (os : List (List Place)) → Room rest (length ss) → AllSay same_thing ss os → ThingSays (directives_script ds p o rest ss x) (outs os vs) ls
    directives_say [] [] [] r a = h
    directives_say [] [] (q ∷ os) r a = absurd a
    directives_say [] (s ∷ ss) os r a = absurd (no_room s ss r)
    directives_say (format.operand i ∷ rest) ss os r a = quiet_says same_thing (use_if p i (slice_get o.operands i)) (quiet_value_if p i (slice_get o.operands i)) (directives_say rest ss os r a)
    directives_say (format.operands ∷ rest) ss os r a = quiet_says same_thing (uses_of_values p _ _) (quiet_values p _ (drop (length (operand_places ds)) o.operands)) (directives_say rest ss os r a)
    directives_say (format.successor i ∷ rest) ss os r a = quiet_says same_thing (use_block_if p i (slice_get o.successors i)) (quiet_block_if p i (slice_get o.successors i)) (directives_say rest ss os r a)
    directives_say (format.successors ∷ rest) ss os r a = quiet_says same_thing (uses_of_blocks p _ _) (quiet_blocks p _ (drop (length (successor_places ds)) o.successors)) (directives_say rest ss os r a)
    directives_say (format.region i ∷ rest) [] os r a = absurd r
    directives_say (format.region i ∷ rest) (s ∷ ss) [] r a = absurd a
    directives_say (format.region i ∷ rest) (s ∷ ss) (q ∷ os) r a = a.0 _ _ _ (directives_say rest ss os r a.1)
    directives_say (format.regions ∷ rest) ss os r a = all_say same_thing ss os a (directives_say rest [] [] r tt)
    directives_say (_ ∷ rest) ss os r a = directives_say rest ss os r a

  body_says : (p : Path) (o : GraphOp T A) (n : ℕ) (f : Option Format) → FitsFormat C isolated f o n → (ss : List (Script Thing ⊤ → Script Thing ⊤)) (os : List (List Place)) → length ss ≡ n → AllSay same_thing ss os
      → {x : Script Thing ⊤} {vs ls : List Place} → ThingSays x vs ls → ThingSays (body_script f p o ss x) (outs os vs) ls
  body_says p o n None f ss os e a h = absurd f
  body_says p o n (Some format.canonical) f ss os e a h = quiet_says same_thing (uses_of_values p 0 o.operands) (quiet_values p 0 o.operands) (quiet_says same_thing (uses_of_blocks p 0 o.successors) (quiet_blocks p 0 o.successors) (all_say same_thing ss os a h))
  body_says p o n (Some (format.custom ds)) f ss os e a h =
      let five = (meets ds f.0).fifth in
      let front = and_left (ascend 0 (region_places ds) && nat_lt (count is_regions ds) 2) _ five in
      let few = and_right (ascend 0 (region_places ds)) (nat_lt (count is_regions ds) 2) front in
      let following = and_right (ascend 0 (region_places ds) && nat_lt (count is_regions ds) 2) _ five in
      directives_say ds p o h ds ss os (subst (Room ds) (sym e) (room ds n f.1.regions few following)) a

  scripts_many : (p : Path) (j : ℕ) (iso : Bool) (rs : Regions (GraphOp T A) (GraphBlock T A) ⊤) → length (graph_regions C isolated p j iso rs) ≡ length (regions_list rs)
  scripts_many p j iso no_regions = refl
  scripts_many p j iso (region r bs rs) = ap suc (scripts_many p (suc j) iso rs)

  mutual
    regions_say : (p : Path) (j : ℕ) (iso : Bool) (rs : Regions (GraphOp T A) (GraphBlock T A) ⊤) → FitRegions C isolated rs → AllSay same_thing (graph_regions C isolated p j iso rs) (regions_outs isolated p j iso rs)
    regions_say p j iso no_regions f = tt
    regions_say p j iso (region r bs rs) f = ((λ x vs ls h. within_says same_thing iso tt (graph_blocks C isolated (j ∷ p) 0 bs) (blocks_say (j ∷ p) 0 bs f.0) h), regions_say p (suc j) iso rs f.1)

    -- what the script of a graph's blocks says
    pub blocks_say : (p : Path) (k : ℕ) (bs : Blocks (GraphOp T A) (GraphBlock T A) ⊤) → FitBlocks C isolated bs → ThingSays (graph_blocks C isolated p k bs) (block_spots isolated p k bs) (label_spots isolated p k bs)
    blocks_say p k no_blocks f = record { values = refl; labels = refl }
    blocks_say p k (block b os bs) f =
        let r = operations_say (k ∷ p) 0 os f.0 (blocks_say p (suc k) bs f.1) in
        graph_arguments_say (k ∷ p) 0 b.arguments (record { values = r.values; labels = ap (λ z. block_at (k ∷ p) ∷ z) r.labels })

    operations_say : (p : Path) (i : ℕ) (os : Operations (GraphOp T A) (GraphBlock T A) ⊤) → FitOperations C isolated os → {x : Script Thing ⊤} {vs ls : List Place} → ThingSays x vs ls → ThingSays (graph_operations C isolated p i os x) (operation_spots isolated p i os vs) ls
    operations_say p i no_operations f h = h
    operations_say p i (operation o rs os) f h =
        body_says (i ∷ p) o (length (regions_list rs)) (C.format_of o.id) f.0 (graph_regions C isolated (i ∷ p) 0 (isolated o.id) rs) (regions_outs isolated (i ∷ p) 0 (isolated o.id) rs) (scripts_many (i ∷ p) 0 (isolated o.id) rs)
        (regions_say (i ∷ p) 0 (isolated o.id) rs f.1) (graph_results_say (i ∷ p) 0 o.results (operations_say p (suc i) os f.2 h))

-- ---- what a tree's script says
module _ {P : Type 0} where
  abbrev TextSays : Script Text P → List Place → List Place → Type 0
  TextSays x vs ls = Says same_text x vs ls

  quiet_names : (p : Path) (k : ℕ) (ns : List (Name P)) → Each Quiet (value_uses p k ns)
  quiet_names p k [] = tt
  quiet_names p k (n ∷ ns) = (tt, quiet_names p (suc k) ns)

  quiet_labels : (p : Path) (k : ℕ) (ns : List (Name P)) → Each Quiet (label_uses p k ns)
  quiet_labels p k [] = tt
  quiet_labels p k (n ∷ ns) = (tt, quiet_labels p (suc k) ns)

  quiet_mark : (m : Option (Mark P)) → Each Quiet (mark_acts m)
  quiet_mark None = tt
  quiet_mark (Some m) = (tt, tt)

  tree_results_say : (p : Path) (k : ℕ) (ns : List (Name P)) {x : Script Text P} {vs ls : List Place} → TextSays x vs ls → TextSays (does_all (result_definitions p k ns) x) (result_spots p k ns vs) ls
  tree_results_say p k [] h = h
  tree_results_say p k (n ∷ ns) h = let q = tree_results_say p (suc k) ns h in record { values = ap (λ z. result p k ∷ z) q.values; labels = q.labels }

  tree_arguments_say : {T : Type 0} (p : Path) (k : ℕ) (xs : List (Name P × T)) {x : Script Text P} {vs ls : List Place} → TextSays x vs ls → TextSays (does_all (argument_definitions p k xs) x) (argument_spots p k xs vs) ls
  tree_arguments_say p k [] h = h
  tree_arguments_say p k (a ∷ xs) h = let q = tree_arguments_say p (suc k) xs h in record { values = ap (λ z. argument p k ∷ z) q.values; labels = q.labels }

quiet_keys : {P A : Type 0} (rule : Rule A) (es : List (Name P × Attribute A)) → Each Quiet (map (key_act rule) es)
quiet_keys rule [] = tt
quiet_keys rule (e ∷ es) = (tt, quiet_keys rule es)

module _ {P T A : Type 0} (isolated : Id → Bool) where
  quiet_piece : (p : Path) (k l : ℕ) (x : Piece P T A) → Each Quiet (piece_acts p k l x)
  quiet_piece p k l (tree.operand i n) = (tt, tt)
  quiet_piece p k l (tree.operands ns) = quiet_names p k ns
  quiet_piece p k l (tree.successor i n) = (tt, tt)
  quiet_piece p k l (tree.successors ns) = quiet_labels p l ns
  quiet_piece p k l (tree.dictionary es) = quiet_keys may_hold es
  quiet_piece p k l _ = tt

  -- as many names as results, and one id; as many arguments
  abbrev pub AsManyOp : Op P T A → GraphOp T A → Type 0
  AsManyOp x o = (x.id ≡ o.id) × (length x.names ≡ length o.results)

  abbrev pub AsManyBlock : Head P T A → GraphBlock T A → Type 0
  AsManyBlock h b = length h.arguments ≡ length b.arguments

  parts_say : (p : Path) (k l : ℕ) (ps : List (Part P T A)) (q : Path) (j : ℕ) (iso : Bool) (rs : Regions (Op P T A) (Head P T A) (Brace P)) (os : List (List Place)) {x : Script Text P} {vs ls : List Place} → Enough ps rs → AllSay same_text (region_scripts isolated q j iso rs) os → TextSays x vs ls
      → TextSays (parts_script p k l ps (region_scripts isolated q j iso rs) x) (outs os vs) ls
  parts_say p k l [] q j iso no_regions [] e a h = h
  parts_say p k l [] q j iso no_regions (o ∷ os) e a h = absurd a
  parts_say p k l [] q j iso (region brace bs rs) os e a h = absurd e
  parts_say p k l (tree.piece y ∷ ps) q j iso rs os e a h = quiet_says same_text (piece_acts p k l y) (quiet_piece p k l y) (parts_say p k l ps q j iso rs os e a h)
  parts_say p k l (tree.region i ∷ ps) q j iso no_regions os e a h = absurd e
  parts_say p k l (tree.region i ∷ ps) q j iso (region brace bs rs) [] e a h = absurd a
  parts_say p k l (tree.region i ∷ ps) q j iso (region brace bs rs) (o ∷ os) e a h = a.0 _ _ _ (parts_say p k l ps q (suc j) iso rs os e a.1 h)
  parts_say p k l (tree.regions ∷ ps) q j iso rs os e a h = all_say same_text (region_scripts isolated q j iso rs) os a (parts_say p k l ps q j iso no_regions [] e tt h)

  closing_says : (p : Path) (o : Op P T A) {x : Script Text P} {vs ls : List Place} → TextSays x vs ls → TextSays (does_all (closing_acts p o) x) (result_spots p 0 o.names vs) ls
  closing_says p o {x = x} h =
      let r = says_as same_text (both_done (result_definitions p 0 o.names) (mark_acts o.mark) x) (tree_results_say p 0 o.names (quiet_says same_text (mark_acts o.mark) (quiet_mark o.mark) h)) in
      record { values = r.values; labels = r.labels }

  header_says : (p : Path) (b : Head P T A) {x : Script Text P} {vs ls : List Place} → TextSays x vs ls → TextSays (does_all (header_acts p b) x) (argument_spots p 0 b.arguments vs) (block_at p ∷ ls)
  header_says p b {x = x} h =
      let last = define_label (record { name = b.label.text; at = b.label.place }) (block_at p) ∷ [] in
      let named : TextSays (does_all last x) _ _ = record { values = h.values; labels = ap (λ z. block_at p ∷ z) h.labels } in
      let marked = says_as same_text (both_done (mark_acts b.mark) last x) (quiet_says same_text (mark_acts b.mark) (quiet_mark b.mark) named) in
      let with_arguments = says_as same_text (both_done (argument_definitions p 0 b.arguments) (mark_acts b.mark ++ last) x) (tree_arguments_say p 0 b.arguments marked) in
      says_as same_text (both_done (map (key_act block_may_hold) (entries_if b.attributes)) (argument_definitions p 0 b.arguments ++ (mark_acts b.mark ++ last)) x)
      (quiet_says same_text (map (key_act block_may_hold) (entries_if b.attributes)) (quiet_keys block_may_hold (entries_if b.attributes)) with_arguments)

  mutual
    tree_regions_say : (p : Path) (j : ℕ) (iso : Bool) (rs : Regions (Op P T A) (Head P T A) (Brace P)) (gs : Regions (GraphOp T A) (GraphBlock T A) ⊤) → WholeRegions rs → MatchRegions AsManyOp AsManyBlock (λ r s. ⊤) rs gs
        → AllSay same_text (region_scripts isolated p j iso rs) (regions_outs isolated p j iso gs)
    tree_regions_say p j iso no_regions no_regions w m = tt
    tree_regions_say p j iso no_regions (region s cs gs) w m = absurd m
    tree_regions_say p j iso (region brace bs rs) no_regions w m = absurd m
    tree_regions_say p j iso (region elided bs rs) (region s cs gs) w m = absurd w
    tree_regions_say p j iso (region (shown place) bs rs) (region s cs gs) w m = (
      (λ x vs ls h. within_says same_text iso place (blocks_script isolated (j ∷ p) 0 bs) (tree_blocks_say (j ∷ p) 0 bs cs w.0 m.1) h),
      tree_regions_say p (suc j) iso rs gs w.1 m.2,
    )

    -- what the script of a tree's blocks says is what a graph of the same form has
    pub tree_blocks_say : (p : Path) (k : ℕ) (bs : Blocks (Op P T A) (Head P T A) (Brace P)) (cs : Blocks (GraphOp T A) (GraphBlock T A) ⊤) → WholeBlocks bs → MatchBlocks AsManyOp AsManyBlock (λ r s. ⊤) bs cs
        → TextSays (blocks_script isolated p k bs) (block_spots isolated p k cs) (label_spots isolated p k cs)
    tree_blocks_say p k no_blocks no_blocks w m = record { values = refl; labels = refl }
    tree_blocks_say p k no_blocks (block d ps cs) w m = absurd m
    tree_blocks_say p k (block h os bs) no_blocks w m = absurd m
    tree_blocks_say p k (block h os bs) (block d ps cs) w m =
        let inner = tree_operations_say (k ∷ p) 0 os ps w.0 m.1 (tree_blocks_say p (suc k) bs cs w.1 m.2) in
        subst (λ vs. TextSays (blocks_script isolated p k (block h os bs)) vs (label_spots isolated p k (block d ps cs))) (same_arguments (k ∷ p) 0 h.arguments d.arguments (operation_spots isolated (k ∷ p) 0 ps (block_spots isolated p (suc k) cs)) m.0)
        (header_says (k ∷ p) h inner)

    tree_operations_say : (p : Path) (i : ℕ) (os : Operations (Op P T A) (Head P T A) (Brace P)) (ps : Operations (GraphOp T A) (GraphBlock T A) ⊤) → WholeOperations os → MatchOperations AsManyOp AsManyBlock (λ r s. ⊤) os ps
        → {x : Script Text P} {vs ls : List Place} → TextSays x vs ls → TextSays (operations_script isolated p i os x) (operation_spots isolated p i ps vs) ls
    tree_operations_say p i no_operations no_operations w m h = h
    tree_operations_say p i no_operations (operation o rs ps) w m h = absurd m
    tree_operations_say p i (operation x qs os) no_operations w m h = absurd m
    tree_operations_say p i (operation y qs os) (operation o rs ps) w m {x = x} {vs = vs} {ls = ls} h =
        let later = operation_spots isolated p (suc i) ps vs in
        let inner = tree_regions_say (i ∷ p) 0 (isolated y.id) qs rs w.0.1 m.1 in
        let here = parts_say (i ∷ p) (singles (parts_of y.body)) (single_labels (parts_of y.body)) (parts_of y.body) (i ∷ p) 0 (isolated y.id) qs (regions_outs isolated (i ∷ p) 0 (isolated y.id) rs) w.0.0 inner
        (closing_says (i ∷ p) y (tree_operations_say p (suc i) os ps w.1 m.2 h)) in
        subst (λ (b : Bool). TextSays (operations_script isolated p i (operation y qs os) x) (outs (regions_outs isolated (i ∷ p) 0 b rs) (result_spots (i ∷ p) 0 o.results later)) ls) (ap isolated m.0.0)
        (subst (λ zs. TextSays (operations_script isolated p i (operation y qs os) x) (outs (regions_outs isolated (i ∷ p) 0 (isolated y.id) rs) zs) ls) (same_results (i ∷ p) 0 y.names o.results later m.0.1) here)
