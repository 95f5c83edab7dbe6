-- What else a parser does to the graph leaves names and graph in agreement with the state of the machine: edits, and the making of
-- operations and of blocks.
use Rattle.std.proofs.Common.{◌≡◌, ◌∙◌, inl, inr, sym, ap, subst, List, [], ◌∷◌, ◌++◌, Option, Some}
use Rattle.std.specs.Option.{option_map}
use Rattle.irtext_base.specs.Text.{Text}
use Rattle.irtext_graph.specs.declared.arena.Ptr.{Ptr}
use Rattle.irtext_graph.specs.declared.object.BasicBlock.{BasicBlock}
use Rattle.irtext_graph.specs.declared.object.Operation.{Operation}
use Rattle.irtext_graph.specs.declared.object.Object.TheVariants.{TheOperation, TheBlock}
use Rattle.irtext_graph.specs.declared.object.Value.{Value}
use Rattle.irtext_graph.specs.declared.object.Defined.{Defined}
use Rattle.irtext_graph.specs.declared.object.Defined.TheVariants.{OfValue, OfBlock}
use Rattle.irtext_graph.specs.declared.object.Site.{Site}
use Rattle.irtext_graph.specs.Chained.{Among}
use Rattle.irtext_graph.specs.Erasing.{owner}
use Rattle.irtext_graph.specs.Graph.{GraphView, MakesOperation, MakesBlock}
use Rattle.irtext_graph.specs.Parts.{operation_at}
use Rattle.irtext_graph.specs.Used.{IsDefined, IsUse, user}
use Rattle.irtext_graph.proofs.Preorders.{among_left, among_right}
use Rattle.irtext_scopes.specs.declared.tracker.NameTracker.{NameTracker}
use Rattle.irtext_scopes.specs.Scopes.{Scope, value_of}
use Rattle.irtext_grammar.specs.Names.Script.{Place, User}
use Rattle.irtext_grammar.specs.Names.TextScopes.{Fact}
use Rattle.irtext_grammar.specs.Names.History.{State}
use Rattle.irtext_names.specs.Linked.{Known, Became, Holds, IsInPlace, AreLinked, AreMade, NamesAgree}
use Rattle.irtext_names.specs.Tied.{MatchesGraph, IsNoPlaceholder}
use Rattle.irtext_names.proofs.Added.{added_ties, made_none}
use Rattle.irtext_names.proofs.Gained.{operation_added, block_added}
use Rattle.irtext_names.proofs.SameBut.{SameBut, was_defined}
use Rattle.irtext_names.proofs.Linked.InPlace.{in_place_operation, in_place_block}
use Rattle.irtext_names.proofs.Linked.Moving.{among_split}
use Rattle.irtext_names.proofs.Linked.Scopes.{means_grown}

module _ {O B T : Type 0} (g k : GraphView (Option O) B T) where
  -- scopes stay linked where all that a user holds it holds still, and no less is made
  links_hold : {V : Type 0} (of : V → Defined) (names : List Text) (made made' : List (Place × V)) (sites sites' : List (User × Site)) (held held' : List (User × Defined))
      → ((p : Place) (v : V) → Among (p, v) made → Among (p, v) made') → ((u : User) (d : Defined) → Holds sites held g u d → Holds sites' held' k u d)
      → (fss : List (List Fact)) (ss : List (Scope V)) → AreLinked names of made sites held g fss ss → AreLinked names of made' sites' held' k fss ss
  links_hold of names made made' sites sites' held held' more holds [] [] l = tt
  links_hold of names made made' sites sites' held held' more holds [] (s ∷ ss) l = l
  links_hold of names made made' sites sites' held held' more holds (fs ∷ rest) [] l = l
  links_hold of names made made' sites sites' held held' more holds (fs ∷ rest) (s ∷ ss) l = (
    means_grown names made made' fs s more l.0,
    λ n t u is among. let r = l.1 n t u is among in (r.0, r.1, holds u (of (value_of r.0)) r.2),
    links_hold of names made made' sites sites' held held' more holds rest ss l.2,
  )

  -- names and graph agree with the state of the machine after more is made, if all that users refer to they still refer to
  agrees_grown : (names : NameTracker Value (Ptr BasicBlock)) (known known' : Known) (held held' : List (User × Defined)) (st : State)
      → ((p : Place) (v : Value) → Among (p, v) known.values → Among (p, v) known'.values) → ((p : Place) (b : Ptr BasicBlock) → Among (p, b) known.blocks → Among (p, b) known'.blocks)
      → ((u : User) (d : Defined) → Holds known.sites held g u d → Holds known'.sites held' k u d) → MatchesGraph names.values names.labels k
      → AreMade OfValue known'.values names.values k → AreMade OfBlock known'.blocks names.labels k → NamesAgree names g known held st → NamesAgree names k known' held' st
  agrees_grown names known known' held held' st more_values more_blocks holds tied values blocks s = record {
    distinct = s.distinct;
    tied = tied;
    value_links = links_hold OfValue names.names known.values known'.values known.sites known'.sites held held' more_values holds st.values names.values s.value_links;
    label_links = links_hold OfBlock names.names known.blocks known'.blocks known.sites known'.sites held held' more_blocks holds st.labels names.labels s.label_links;
    values_made = values;
    blocks_made = blocks;
    bound = λ u p among. let r = s.bound u p among in (r.0, became p r.0 r.1, holds u r.0 r.2);
  }
    where
      became : (p : Place) (d : Defined) → Became known p d → Became known' p d
      became p (OfValue v) b = more_values p v b
      became p (OfBlock c) b = more_blocks p c b

  -- ---- an edit
  -- what is defined and what is in place stays so
  pub agrees_kept : (names : NameTracker Value (Ptr BasicBlock)) (known : Known) (held : List (User × Defined)) (st : State) → ((d : Defined) → IsDefined g d → IsDefined k d) → ((s : Site) (d : Defined) → IsInPlace g d s → IsInPlace k d s)
      → MatchesGraph names.values names.labels k → NamesAgree names g known held st → NamesAgree names k known held st
  agrees_kept names known held st there in_place tied s = agrees_grown names known known held held st (λ p v a. a) (λ p b a. a) holds tied
      (λ p v a. let r = s.values_made p v a in (there (OfValue v) r.0, r.1)) (λ p b a. let r = s.blocks_made p b a in (there (OfBlock b) r.0, r.1)) s
    where
      holds : (u : User) (d : Defined) → Holds known.sites held g u d → Holds known.sites held k u d
      holds u d (inl h) = inl (h.0, h.1, in_place h.0 d h.2)
      holds u d (inr h) = inr h

  -- ---- what was made
  -- what was made before, and what was made just now
  made_more : {V : Type 0} (of : V → Defined) (ss : List (Scope V)) (made more : List (Place × V)) → ((d : Defined) → IsDefined g d → IsDefined k d) → AreMade of made ss g
      → ((p : Place) (v : V) → Among (p, v) more → IsDefined k (of v) × IsNoPlaceholder ss v) → AreMade of (made ++ more) ss k
  made_more of ss made more there old new = λ p v among. elim (among_split (p, v) made more among) [
    | inl a ↦ let r = old p v a in (there (of v) r.0, r.1)
    | inr a ↦ new p v a
  ]

  -- an operation with data was made, which uses all that was in hand, and these of its results are at places of the text
  pub operation_made : (names : NameTracker Value (Ptr BasicBlock)) (known : Known) (held : List (User × Defined)) (st : State) (p : Ptr Operation) (x : O) (types : List T) (operands : List Value) (successors : List (Ptr BasicBlock))
      (more_values : List (Place × Value)) (more : List (User × Site)) → MakesOperation g k p (Some x) types operands successors
      → ((u : User) (d : Defined) → Among (u, d) held → (s : Site) × Among (u, s) more × (user s ≡ p) × IsUse k d s)
      → ((q : Place) (v : Value) → Among (q, v) more_values → (owner (OfValue v) ≡ TheOperation p) × IsDefined k (OfValue v))
      → NamesAgree names g known held st → NamesAgree names k (record { values = known.values ++ more_values; blocks = known.blocks; sites = known.sites ++ more }) [] st
  operation_made names known held st p x types operands successors more_values more make placed results s =
      agrees_grown names known (record { values = known.values ++ more_values; blocks = known.blocks; sites = known.sites ++ more }) held [] st
      (λ q v a. among_left (q, v) known.values more_values a) (λ q b a. a) holds (added_ties (operation_added p make) names.values names.labels s.tied)
      (made_more OfValue names.values known.values more_values there s.values_made new_values) (λ q b a. let r = s.blocks_made q b a in (there (OfBlock b) r.0, r.1)) s
    where
      there : (d : Defined) → IsDefined g d → IsDefined k d
      there d e = was_defined (operation_added p make) d e

      data_here : (q : Ptr Operation) → q ≡ p → option_map (λ c. c.data_of) (operation_at k q) ≡ Some (Some x)
      data_here q e = ap (λ r. option_map (λ c. c.data_of) (operation_at k r)) e ∙ ap (λ c. option_map (λ c. c.data_of) (option_map (λ e. e.content.content) c)) make.operations.updates.changed

      holds : (u : User) (d : Defined) → Holds known.sites held g u d → Holds (known.sites ++ more) [] k u d
      holds u d (inl h) = inl (h.0, among_left (u, h.0) known.sites more h.1, in_place_operation p make h.0 d h.2)
      holds u d (inr h) = let r = placed u d h in inl (r.0, among_right (u, r.0) known.sites more r.1, (r.3, x, data_here (user r.0) r.2))

      new_values : (q : Place) (v : Value) → Among (q, v) more_values → IsDefined k (OfValue v) × IsNoPlaceholder names.values v
      new_values q v a = let r = results q v a in (r.1, made_none OfValue names.values v s.tied.value_ties (subst (λ z. SameBut k g (Some z)) (sym r.0) (operation_added p make)))

  -- a block was made, which with these of its arguments is at places of the text
  pub block_made : (names : NameTracker Value (Ptr BasicBlock)) (known : Known) (held : List (User × Defined)) (st : State) (b : Ptr BasicBlock) (x : B) (types : List T)
      (more_values : List (Place × Value)) (more_blocks : List (Place × Ptr BasicBlock)) → MakesBlock g k b x types
      → ((q : Place) (v : Value) → Among (q, v) more_values → (owner (OfValue v) ≡ TheBlock b) × IsDefined k (OfValue v))
      → ((q : Place) (c : Ptr BasicBlock) → Among (q, c) more_blocks → (c ≡ b) × IsDefined k (OfBlock c))
      → NamesAgree names g known held st → NamesAgree names k (record { values = known.values ++ more_values; blocks = known.blocks ++ more_blocks; sites = known.sites }) held st
  block_made names known held st b x types more_values more_blocks make arguments blocks s =
      agrees_grown names known (record { values = known.values ++ more_values; blocks = known.blocks ++ more_blocks; sites = known.sites }) held held st
      (λ q v a. among_left (q, v) known.values more_values a) (λ q c a. among_left (q, c) known.blocks more_blocks a) holds (added_ties (block_added b make) names.values names.labels s.tied)
      (made_more OfValue names.values known.values more_values there s.values_made new_values) (made_more OfBlock names.labels known.blocks more_blocks there s.blocks_made new_blocks) s
    where
      there : (d : Defined) → IsDefined g d → IsDefined k d
      there d e = was_defined (block_added b make) d e

      holds : (u : User) (d : Defined) → Holds known.sites held g u d → Holds known.sites held k u d
      holds u d (inl h) = inl (h.0, h.1, in_place_block b make h.0 d h.2)
      holds u d (inr h) = inr h

      new_values : (q : Place) (v : Value) → Among (q, v) more_values → IsDefined k (OfValue v) × IsNoPlaceholder names.values v
      new_values q v a = let r = arguments q v a in (r.1, made_none OfValue names.values v s.tied.value_ties (subst (λ z. SameBut k g (Some z)) (sym r.0) (block_added b make)))

      new_blocks : (q : Place) (c : Ptr BasicBlock) → Among (q, c) more_blocks → IsDefined k (OfBlock c) × IsNoPlaceholder names.labels c
      new_blocks q c a = let r = blocks q c a in (r.1, made_none OfBlock names.labels c s.tied.label_ties (subst (λ z. SameBut k g (Some (TheBlock z))) (sym r.0) (block_added b make)))
