-- Where no scope is open, a use and a definition fail.
use Rattle.std.proofs.Common.{◌≡◌, ap, false, Option, Some}
use Rattle.irtext_graph.specs.declared.arena.Ptr.{Ptr}
use Rattle.irtext_graph.specs.declared.object.BasicBlock.{BasicBlock}
use Rattle.irtext_graph.specs.declared.object.Value.{Value}
use Rattle.irtext_graph.specs.declared.object.Defined.TheVariants.{OfValue, OfBlock}
use Rattle.irtext_graph.specs.Graph.{GraphView}
use Rattle.irtext_scopes.specs.declared.tracker.NameTracker.{NameTracker}
use Rattle.irtext_scopes.specs.Scopes.{is_open}
use Rattle.irtext_grammar.specs.Names.Script.{Place, User, use_value, use_label, define_value, NoActiveScope}
use Rattle.irtext_grammar.specs.Names.Scopes.{fact_of, outside}
use Rattle.irtext_grammar.specs.Names.TextScopes.{Word, defined_before}
use Rattle.irtext_grammar.specs.Names.History.{act, after, outcome}
use Rattle.irtext_names.specs.Linked.{FailsBy}
use Rattle.irtext_names.proofs.Linked.Kept.{none_open}

module _ {O B T : Type 0} (names : NameTracker Value (Ptr BasicBlock)) (g : GraphView (Option O) B T) (w : Word) where
  -- ---- values
  pub value_use_outside : (u : User) → is_open names.values ≡ false → FailsBy (act (use_value w u)) names g (record { cause = NoActiveScope w.name; at = Some w.at })
  value_use_outside u shut = record {
    so = λ known held st s.
        ap (λ o. outcome (outside o w) (after st (fact_of (use_value w u)))) (none_open OfValue names.names known.values known.sites held g st.values names.values shut s.value_links);
  }

  pub value_definition_outside : (p : Place) → is_open names.values ≡ false → FailsBy (act (define_value w p)) names g (record { cause = NoActiveScope w.name; at = Some w.at })
  value_definition_outside p shut = record {
    so = λ known held st s.
        ap (λ o. outcome (defined_before o w) (after st (fact_of (define_value w p)))) (none_open OfValue names.names known.values known.sites held g st.values names.values shut s.value_links);
  }

  -- ---- labels
  pub label_use_outside : (u : User) → is_open names.labels ≡ false → FailsBy (act (use_label w u)) names g (record { cause = NoActiveScope w.name; at = Some w.at })
  label_use_outside u shut = record {
    so = λ known held st s.
        ap (λ o. outcome (outside o w) (after st (fact_of (use_label w u)))) (none_open OfBlock names.names known.blocks known.sites held g st.labels names.labels shut s.label_links);
  }
