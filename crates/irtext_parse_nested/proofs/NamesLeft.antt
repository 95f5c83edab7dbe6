-- An edit of a graph that leaves what names refer to: what is defined and in place is so afterwards, and what waits still waits. It is
-- shown by what the edit leaves of each operation; blocks are unchanged.
use Rattle.std.proofs.Common.{◌≡◌, ◌∙◌, ℕ, List, [], Option, Some, None, IsSome, map, slice_get, sym, ap, subst}
use Rattle.std.specs.Option.{option_map}
use Rattle.irtext_context.specs.Context.{ContextView}
use Rattle.irtext_graph.specs.declared.arena.Ptr.{Ptr}
use Rattle.irtext_graph.specs.declared.object.Operation.{Operation}
use Rattle.irtext_graph.specs.declared.object.BasicBlock.{BasicBlock}
use Rattle.irtext_graph.specs.declared.object.Object.TheVariants.{TheOperation, TheRegion}
use Rattle.irtext_graph.specs.declared.object.Value.{Value}
use Rattle.irtext_graph.specs.declared.object.Value.TheVariants.{Result, Argument}
use Rattle.irtext_graph.specs.declared.object.Defined.{Defined}
use Rattle.irtext_graph.specs.declared.object.Defined.TheVariants.{OfValue, OfBlock}
use Rattle.irtext_graph.specs.declared.object.Site.{Site}
use Rattle.irtext_graph.specs.declared.object.Site.TheVariants.{AtOperand, AtSuccessor}
use Rattle.irtext_graph.specs.Content.{BlockContent, Content, ABlock}
use Rattle.irtext_graph.specs.Erasing.{owner}
use Rattle.irtext_graph.specs.Graph.{GraphView, content, content_of, parent, parent_of, children, children_of}
use Rattle.irtext_graph.specs.Objects.{is_older}
use Rattle.irtext_graph.specs.Parts.{operation_at, operands_of, successors_of, results, results_of, arguments_of}
use Rattle.irtext_graph.specs.Store.{get}
use Rattle.irtext_graph.specs.Used.{IsDefined}
use Rattle.irtext_parse_state.specs.States.{marks_of}
use Rattle.irtext_parse_state.specs.declared.parsable.state.State as code
use Rattle.irtext_scopes.specs.Scopes.{Scope}
use Rattle.irtext_grammar.specs.Names.History.{Outcome}
use Rattle.irtext_grammar.specs.Names.Script.{Path}
use Rattle.irtext_names.specs.Linked.{IsInPlace}
use Rattle.irtext_names.specs.Placeholders.{IsBlank}
use Rattle.irtext_names.specs.Tied.{MatchesGraph, ArePending}
use Rattle.irtext_names.proofs.Loses.{Loses}
use Rattle.irtext_names.proofs.Ties.{tied_kept, waiting_kept}
use Rattle.irtext_names.specs.LosesPlaceholders.{BlanksHaveResults}
use Rattle.irtext_names.specs.Items.{Made, Names, Pledge, MachineAgrees, IsSound, BlanksDefine}
use Rattle.irtext_parse_nested.proofs.Blanks.{blanks_on}
use Rattle.irtext_parse_nested.proofs.Agreement.{agrees_edited}

module _ {O B T : Type 0} where
  -- the data of an operation, and whether it has any
  abbrev pub data_at : GraphView (Option O) B T → Ptr Operation → Option (Option O)
  data_at g p = option_map (λ c. c.data_of) (operation_at g p)

  -- each operation has the results, operands, successors, parent and age that it had; it has data if it had, and without data the children
  -- that it had
  pub record LeavesNames (g k : GraphView (Option O) B T) : Type 0 where
    pub blocks : k.blocks ≡ g.blocks
    pub results : (p : Ptr Operation) → results k p ≡ results g p
    pub operands : (p : Ptr Operation) → operands_of (operation_at k p) ≡ operands_of (operation_at g p)
    pub successors : (p : Ptr Operation) → successors_of (operation_at k p) ≡ successors_of (operation_at g p)
    pub blank : (p : Ptr Operation) → data_at g p ≡ Some None → data_at k p ≡ Some None
    pub was_blank : (p : Ptr Operation) → data_at k p ≡ Some None → data_at g p ≡ Some None
    pub has : (p : Ptr Operation) (x : O) → data_at g p ≡ Some (Some x) → (y : O) × (data_at k p ≡ Some (Some y))
    pub parents : (p : Ptr Operation) → parent k (TheOperation p) ≡ parent g (TheOperation p)
    pub children : (p : Ptr Operation) → data_at g p ≡ Some None → children k (TheOperation p) ≡ children g (TheOperation p)
    pub ages : (m : ℕ) (p : Ptr Operation) → is_older m (content k (TheOperation p)) ≡ is_older m (content g (TheOperation p))

  -- where each operation is as it was, and has its parent, all this is so
  pub operations_leave : (g k : GraphView (Option O) B T) → k.blocks ≡ g.blocks → ((p : Ptr Operation) → operation_at k p ≡ operation_at g p)
      → ((p : Ptr Operation) → content k (TheOperation p) ≡ content g (TheOperation p)) → ((p : Ptr Operation) → parent k (TheOperation p) ≡ parent g (TheOperation p))
      → ((p : Ptr Operation) → data_at g p ≡ Some None → children k (TheOperation p) ≡ children g (TheOperation p)) → LeavesNames g k
  operations_leave g k blocks same objects parents children = record {
    blocks = blocks;
    results = λ p. ap results_of (same p);
    operands = λ p. ap operands_of (same p);
    successors = λ p. ap successors_of (same p);
    blank = λ p h. ap (option_map (λ c. c.data_of)) (same p) ∙ h;
    was_blank = λ p h. ap (option_map (λ c. c.data_of)) (sym (same p)) ∙ h;
    has = λ p x h. (x, ap (option_map (λ c. c.data_of)) (same p) ∙ h);
    parents = parents;
    children = children;
    ages = λ m p. ap (is_older m) (objects p);
  }

module _ {O B T : Type 0} {g k : GraphView (Option O) B T} (leaves : LeavesNames g k) where
  -- a block, as what an object is
  abbrev a_block : ℕ × BlockContent B T → Content (Option O) B T
  a_block d = ABlock d.0 d.1

  parent_same : (x : Defined) → parent k (owner x) ≡ parent g (owner x)
  parent_same (OfValue (Result p i)) = leaves.parents p
  parent_same (OfValue (Argument b i)) = ap (λ s. option_map TheRegion (parent_of (get s b))) leaves.blocks
  parent_same (OfBlock b) = ap (λ s. option_map TheRegion (parent_of (get s b))) leaves.blocks

  -- what is blank holds what it held
  children_same : (x : Defined) → IsBlank g x → children k (owner x) ≡ children g (owner x)
  children_same (OfValue (Result p i)) b = leaves.children p b
  children_same (OfValue (Argument c i)) b = absurd b
  children_same (OfBlock c) b = ap (λ s. map TheOperation (children_of (get s c))) leaves.blocks

  age_same : (m : ℕ) (x : Defined) → is_older m (content k (owner x)) ≡ is_older m (content g (owner x))
  age_same m (OfValue (Result p i)) = leaves.ages m p
  age_same m (OfValue (Argument b i)) = ap (λ s. is_older m (option_map a_block (content_of (get s b)))) leaves.blocks
  age_same m (OfBlock b) = ap (λ s. is_older m (option_map a_block (content_of (get s b)))) leaves.blocks

  -- what is defined is defined, and nothing else is
  pub still_there : (x : Defined) → IsDefined g x → IsDefined k x
  still_there (OfValue (Result p i)) d = subst (λ c. IsSome (slice_get c i)) (sym (leaves.results p)) d
  still_there (OfValue (Argument b i)) d = subst (λ s. IsSome (slice_get (arguments_of (option_map (λ e. e.content.content) (get s b))) i)) (sym leaves.blocks) d
  still_there (OfBlock b) d = subst (λ s. IsSome (option_map a_block (content_of (get s b)))) (sym leaves.blocks) d

  was_there : (x : Defined) → IsDefined k x → IsDefined g x
  was_there (OfValue (Result p i)) d = subst (λ c. IsSome (slice_get c i)) (leaves.results p) d
  was_there (OfValue (Argument b i)) d = subst (λ s. IsSome (slice_get (arguments_of (option_map (λ e. e.content.content) (get s b))) i)) leaves.blocks d
  was_there (OfBlock b) d = subst (λ s. IsSome (option_map a_block (content_of (get s b)))) leaves.blocks d

  blank_still : (x : Defined) → IsBlank g x → IsBlank k x
  blank_still (OfValue (Result p i)) b = leaves.blank p b
  blank_still (OfValue (Argument c i)) b = b
  blank_still (OfBlock c) b = parent_same (OfBlock c) ∙ b

  blank_was : (x : Defined) → IsBlank k x → IsBlank g x
  blank_was (OfValue (Result p i)) b = leaves.was_blank p b
  blank_was (OfValue (Argument c i)) b = b
  blank_was (OfBlock c) b = sym (parent_same (OfBlock c)) ∙ b

  -- what is in place is in place
  pub in_place_still : (s : Site) (d : Defined) → IsInPlace g d s → IsInPlace k d s
  in_place_still (AtOperand p i) d f = let r = leaves.has p f.1 f.2 in (subst (λ c. option_map OfValue (slice_get c i) ≡ Some d) (sym (leaves.operands p)) f.0, r.0, r.1)
  in_place_still (AtSuccessor p i) d f = let r = leaves.has p f.1 f.2 in (subst (λ c. option_map OfBlock (slice_get c i) ≡ Some d) (sym (leaves.successors p)) f.0, r.0, r.1)

  -- no placeholder is lost
  none_lost : Loses g k None
  none_lost = record {
    there = λ d i n. still_there d i;
    were = was_there;
    lost = λ d i e. cc;
    placeholders = λ d p n. record {
      alive = still_there d p.alive;
      blank = blank_still d p.blank;
      free = parent_same d ∙ p.free;
      empty = children_same d p.blank ∙ p.empty;
      alone = λ y i e. p.alone y (was_there y i) e;
    };
    were_placeholders = λ d p. record {
      alive = was_there d p.alive;
      blank = blank_was d p.blank;
      free = sym (parent_same d) ∙ p.free;
      empty = sym (children_same d (blank_was d p.blank)) ∙ p.empty;
      alone = λ y i e. p.alone y (still_there y i) e;
    };
    blanks = λ d i b. blank_still d b;
    were_blank = λ d i b. blank_was d b;
    ages = λ m d i. age_same m d;
  }

  -- names match the graph
  pub ties_left : (vs : List (Scope Value)) (ls : List (Scope (Ptr BasicBlock))) → MatchesGraph vs ls g → MatchesGraph vs ls k
  ties_left vs ls t = record { value_ties = tied_kept OfValue vs t.value_ties none_lost (λ v i e. cc); label_ties = tied_kept OfBlock ls t.label_ties none_lost (λ v i e. cc) }

  -- and wait for what they waited for
  pub waits_left : (m : ℕ) (own : List (Ptr BasicBlock)) (vs : List (Scope Value)) (ls : List (Scope (Ptr BasicBlock))) → MatchesGraph vs ls g → ArePending m own vs ls g → ArePending m own vs ls k
  waits_left m own vs ls t w = record {
    value_waits = waiting_kept OfValue m [] vs t.value_ties w.value_waits none_lost (λ v i e. cc);
    label_waits = waiting_kept OfBlock m own ls t.label_ties w.label_waits none_lost (λ v i e. cc);
  }

  -- each operation without data has a result, if it had
  pub blanks_left : (m : ℕ) → BlanksHaveResults m g → BlanksHaveResults m k
  blanks_left m h p e n =
      let r = h p (leaves.was_blank p e) (sym (leaves.ages m p) ∙ n) in
      (r.0, subst (λ c. IsSome (slice_get c r.0)) (sym (leaves.results p)) r.1)

-- ---- the state of a parse, of which the graph was edited
module _ {T A U : Type 0} (old new : ContextView T A) (leaves : LeavesNames old.graph new.graph) (names : Names) (s z : code.State T A U) (e : s.ctx.now ≡ old) (f : z.ctx.now ≡ new) where
  -- names match the graph and wait as before
  pub sound_left : (m : ℕ) → IsSound m names s → IsSound m names z
  sound_left m h =
      let tied = subst (λ c. MatchesGraph names.values names.labels c.graph) e h.tied in
      record {
        tied = subst (λ c. MatchesGraph names.values names.labels c.graph) (sym f) (ties_left leaves names.values names.labels tied);
        waiting = subst (λ c. ArePending m [] names.values names.labels c.graph) (sym f) (waits_left leaves m [] names.values names.labels tied
            (subst (λ c. ArePending m [] names.values names.labels c.graph) e h.waiting));
        blanks = subst (BlanksDefine m) (sym f) (blanks_on old new (blanks_left leaves) m (subst (BlanksDefine m) e h.blanks));
      }

  -- names, graph and marks agree with the state of the machine
  pub agrees_left : {path : ℕ → Path} {items : Made} {pledges : List Pledge} {o : Outcome} → marks_of z ≡ marks_of s → MatchesGraph names.values names.labels old.graph
      → MachineAgrees path items pledges names s o → MachineAgrees path items pledges names z o
  agrees_left same tied h = agrees_edited names s z
      (λ d i. subst (λ c. IsDefined c.graph d) (sym f) (still_there leaves d (subst (λ c. IsDefined c.graph d) e i)))
      (λ u d i. subst (λ c. IsInPlace c.graph d u) (sym f) (in_place_still leaves u d (subst (λ c. IsInPlace c.graph d u) e i)))
      (subst (λ c. MatchesGraph names.values names.labels c.graph) (sym f) (ties_left leaves names.values names.labels tied)) same h
