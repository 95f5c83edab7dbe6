-- One more name is defined after those of a list.
use Rattle.std.proofs.Common.{◌≡◌, ◌+◌, ◌∙◌, inl, inr, ℕ, suc, List, [], ◌∷◌, ◌++◌, length, map, Option, Some, refl, sym, ap, subst, arith, true, slice_get}
use Rattle.std.specs.Option.{option_map}
use Rattle.irtext_graph.specs.declared.arena.Ptr.{Ptr}
use Rattle.irtext_graph.specs.declared.object.BasicBlock.{BasicBlock}
use Rattle.irtext_graph.specs.declared.object.Value.{Value}
use Rattle.irtext_graph.specs.declared.object.Defined.TheVariants.{OfValue, OfBlock}
use Rattle.irtext_graph.specs.Chained.{Among}
use Rattle.irtext_graph.specs.Graph.{GraphView}
use Rattle.irtext_graph.specs.Used.{IsDefined}
use Rattle.irtext_graph.proofs.Closed.{older_on, closed_kept}
use Rattle.irtext_scopes.specs.declared.tracker.NameTracker.{NameTracker}
use Rattle.irtext_scopes.specs.Scopes.{Scope, find, innermost, in_innermost, is_open, defined, placeholder_of}
use Rattle.irtext_grammar.specs.Grammar.Tree.{Name}
use Rattle.irtext_grammar.specs.Names.Acts.{word_of}
use Rattle.irtext_grammar.specs.Names.Script.{Place, result, define_value, MultipleDefinitions}
use Rattle.irtext_grammar.specs.Names.TextScopes.{Word, Failure}
use Rattle.irtext_grammar.specs.Names.History.{act, State, going, failed, next, run, after}
use Rattle.irtext_grammar.specs.Names.Scopes.{fact_of}
use Rattle.irtext_names.specs.Kinds.{NamesOf.{values}}
use Rattle.irtext_names.specs.Linked.{Known, NamesAgree, TakesDefinition, FailsBy}
use Rattle.irtext_names.specs.Placeholders.{Defines}
use Rattle.irtext_names.specs.Rows.{AreNamed, definitions_from, AreMadeAs, DefinesRow, FailsRow}
use Rattle.irtext_names.specs.Tied.{MatchesGraph, IsNoPlaceholder, SettlesTies}
use Rattle.irtext_names.proofs.ByKind.{one_of, apart_of}
use Rattle.irtext_names.proofs.Loses.{Loses}
use Rattle.irtext_names.proofs.Pairs.{lost}
use Rattle.irtext_names.proofs.Ties.{waited}
use Rattle.irtext_names.proofs.Linked.Kept.{made_defined}
use Rattle.irtext_names.proofs.NamesInRow.{run_through, map-through, split, none_follows, rest_fails}

-- the definitions of a list's names, of one of them, and of those after it
definitions_through : (place : ℕ → Place) (i : ℕ) (ws : List (Name ℕ)) (w : Name ℕ) (xs : List (Name ℕ))
    → definitions_from place i (ws ++ w ∷ xs) ≡ definitions_from place i ws ++ define_value (word_of w) (place (i + length ws)) ∷ definitions_from place (suc (i + length ws)) xs
definitions_through place i [] w xs = ap (λ j. define_value (word_of w) (place j) ∷ definitions_from place (suc j) xs) (omega arith)
definitions_through place i (x ∷ ws) w xs = ap (λ acts. define_value (word_of x) (place i) ∷ acts) (definitions_through place (suc i) ws w xs
    ∙ ap (λ j. definitions_from place (suc i) ws ++ define_value (word_of w) (place j) ∷ definitions_from place (suc j) xs) (omega arith))

definitions_first : (place : ℕ → Place) (ws : List (Name ℕ)) (w : Name ℕ) (xs : List (Name ℕ))
    → definitions_from place 0 (ws ++ w ∷ xs) ≡ definitions_from place 0 ws ++ define_value (word_of w) (place (length ws)) ∷ definitions_from place (suc (length ws)) xs
definitions_first place ws w xs = definitions_through place 0 ws w xs ∙ ap (λ j. definitions_from place 0 ws ++ define_value (word_of w) (place j) ∷ definitions_from place (suc j) xs) (omega arith)

-- the outcome of the machine over them
run_definitions : (place : ℕ → Place) (st : State) (ws : List (Name ℕ)) (w : Name ℕ) (xs : List (Name ℕ)) → run (going st) (map act (definitions_from place 0 (ws ++ w ∷ xs)))
    ≡ run (next (run (going st) (map act (definitions_from place 0 ws))) (act (define_value (word_of w) (place (length ws))))) (map act (definitions_from place (suc (length ws)) xs))
run_definitions place st ws w xs = ap (λ acts. run (going st) (map act acts)) (definitions_first place ws w xs)
    ∙ (ap (run (going st)) (map-through act (definitions_from place 0 ws) (define_value (word_of w) (place (length ws))) (definitions_from place (suc (length ws)) xs))
    ∙ run_through (going st) (map act (definitions_from place 0 ws)) (act (define_value (word_of w) (place (length ws)))) (map act (definitions_from place (suc (length ws)) xs)))

-- how many elements there are with one after others
length_through : {X : Type 0} (xs : List X) (x : X) (ys : List X) → length (xs ++ x ∷ ys) ≡ suc (length xs + length ys)
length_through [] x ys = omega arith
length_through (y ∷ xs) x ys = let e = length_through xs x ys in omega (arith, e)

-- what is made of more names is made of fewer, and of the last
made_front : (place : ℕ → Place) (value : ℕ → Value) (ns : List ℕ) (n : ℕ) (ms : List ℕ) (known : Known) → AreMadeAs place value (ns ++ n ∷ ms) known → AreMadeAs place value ns known
made_front place value ns n ms known a = λ i l. a i (let e = length_through ns n ms in omega (arith, e, l))

made_here : (place : ℕ → Place) (value : ℕ → Value) (ns : List ℕ) (n : ℕ) (ms : List ℕ) (known : Known) → AreMadeAs place value (ns ++ n ∷ ms) known → Among (place (length ns), value (length ns)) known.values
made_here place value ns n ms known a = a (length ns) (let e = length_through ns n ms in omega (arith, e))

-- as many scopes are open
as_many : {V : Type 0} (f : Scope V → Scope V) (ss : List (Scope V)) → length (in_innermost f ss) ≡ length ss
as_many f [] = refl
as_many f (s ∷ ss) = refl

module _ {O B T : Type 0} where
  -- one call that defines names and then another
  pub settles_both : {old mid new : NameTracker Value (Ptr BasicBlock)} {g h k : GraphView (Option O) B T} → SettlesTies old mid g h → SettlesTies mid new h k → SettlesTies old new g k
  settles_both {g} {h} {k} s t = record {
    tied = t.tied;
    waiting = λ m own w. t.waiting m own (s.waiting m own w);
    kept = λ m own closed w. let so_far = s.kept m own closed w in older_on m g h k so_far (t.kept m own (closed_kept m g h so_far closed) (s.waiting m own w));
  }

module _ {O B T : Type 0} where
  -- a definition removes no other value, and no name begins to wait with one
  pub still_ready : (n : ℕ) (v x : Value) (vs vs' : List (Scope Value)) (ls : List (Scope (Ptr BasicBlock))) (g k : GraphView (Option O) B T) → MatchesGraph vs ls g → Defines OfValue vs vs' g k n v
      → IsDefined g (OfValue x) × IsNoPlaceholder vs x → IsDefined k (OfValue x) × IsNoPlaceholder vs' x
  still_ready n v x vs vs' ls g k t d ready =
      let o = option_map OfValue (placeholder_of (find n (innermost vs))) in
      let l : Loses g k o = lost OfValue OfBlock (one_of values) (apart_of values) vs ls t.value_ties t.label_ties vs' n v d in
      let place : Place = result [] 0 in
      let r = made_defined OfValue ((place, x) ∷ []) g k n v vs l (λ y e. (0, n, waited OfValue (one_of values) n v vs o refl l y e)) (λ q y a. elim a [ inl e ↦ subst (λ z. IsDefined g (OfValue z) × IsNoPlaceholder vs z) (sym (ap (λ z. z.1) e)) ready | inr none ↦ absurd none ]) place x (inl refl) in
      (r.0, rw d.scopes_are r.1)

  -- a scope stays open
  pub define_open : (n : ℕ) (v : Value) (vs vs' : List (Scope Value)) (g k : GraphView (Option O) B T) → Defines OfValue vs vs' g k n v → is_open vs ≡ true → is_open vs' ≡ true
  define_open n v [] vs' g k d o = absurd (cc)
  define_open n v (s ∷ ss) vs' g k d o = rw d.scopes_are refl

module _ {O B T : Type 0} (value : ℕ → Value) where
  -- as many scopes are open after a definition
  pub define_length : (n : ℕ) (v : Value) (vs vs' : List (Scope Value)) (g k : GraphView (Option O) B T) → Defines OfValue vs vs' g k n v → length vs' ≡ length vs
  define_length n v vs vs' g k d = ap length d.scopes_are ∙ as_many (defined n v) vs

  -- one name more
  pub define_more : (ns : List ℕ) (n : ℕ) (old mid new : NameTracker Value (Ptr BasicBlock)) (g h k : GraphView (Option O) B T) → mid.names ≡ old.names → DefinesRow value ns old mid g h
      → ((w : Word) (q : Place) → slice_get mid.names n ≡ Some w.name → TakesDefinition (define_value w q) mid new h k q (OfValue (value (length ns)))) → DefinesRow value (ns ++ n ∷ []) old new g k
  define_more ns n old mid new g h k same s takes = record { so = so }
    where
      so : (ws : List (Name ℕ)) → AreNamed old.names (ns ++ n ∷ []) ws → (place : ℕ → Place) (known : Known) (st : State) → AreMadeAs place value (ns ++ n ∷ []) known → NamesAgree old g known [] st
          → (next : State) × (run (going st) (map act (definitions_from place 0 ws)) ≡ going next) × NamesAgree new k known [] next
      so ws a place known st made agreed =
          let t = split old.names ns n [] ws a in
          let w = word_of t.here in
          let last : ws ≡ t.front ++ t.here ∷ [] = t.whole ∙ ap (λ xs. t.front ++ t.here ∷ xs) (none_follows old.names ns n ws a) in
          let q = place (length t.front) in
          let r = s.so t.front t.are place known st (made_front place value ns n [] known made) agreed in
          let became : Among (q, value (length ns)) known.values = subst (λ j. Among (place j, value (length ns)) known.values) (sym t.count) (made_here place value ns n [] known made) in
          let z = (takes w q (ap (λ names. slice_get names n) same ∙ t.is)).so known r.0 became r.2 in (
            after r.0 (fact_of (define_value w q)),
            ap (λ xs. run (going st) (map act (definitions_from place 0 xs))) last ∙ (run_definitions place st t.front t.here [] ∙ (ap (λ o. next o (act (define_value w q))) r.1 ∙ z.0)),
            z.1,
          )

  -- the name is defined already
  pub define_fails : (ns : List ℕ) (n : ℕ) (ms : List ℕ) (old mid : NameTracker Value (Ptr BasicBlock)) (g h : GraphView (Option O) B T) → mid.names ≡ old.names → DefinesRow value ns old mid g h
      → ((w : Word) (q : Place) → slice_get mid.names n ≡ Some w.name → FailsBy (act (define_value w q)) mid h (record { cause = MultipleDefinitions w.name; at = Some w.at })) → FailsRow value (ns ++ n ∷ ms) (length ns) old g
  define_fails ns n ms old mid g h same s fails = record { so = so }
    where
      at_front : {X : Type 0} (xs : List X) (x : X) (ys : List X) → slice_get (xs ++ x ∷ ys) (length xs) ≡ Some x
      at_front [] x ys = refl
      at_front (y ∷ xs) x ys = at_front xs x ys

      so : (ws : List (Name ℕ)) → AreNamed old.names (ns ++ n ∷ ms) ws → (place : ℕ → Place) (known : Known) (st : State) → AreMadeAs place value (ns ++ n ∷ ms) known → NamesAgree old g known [] st
          → (w : Name ℕ) × (slice_get ws (length ns) ≡ Some w) × (run (going st) (map act (definitions_from place 0 ws)) ≡ failed (record { cause = MultipleDefinitions w.text; at = Some w.place }))
      so ws a place known st made agreed =
          let t = split old.names ns n ms ws a in
          let w = word_of t.here in
          let q = place (length t.front) in
          let x : Failure = record { cause = MultipleDefinitions t.here.text; at = Some t.here.place } in
          let r = s.so t.front t.are place known st (made_front place value ns n ms known made) agreed in
          let z : next (going r.0) (act (define_value w q)) ≡ failed x = (fails w q (ap (λ names. slice_get names n) same ∙ t.is)).so known [] r.0 r.2 in (
            t.here,
            ap (λ xs. slice_get xs (length ns)) t.whole ∙ (ap (λ j. slice_get (t.front ++ t.here ∷ t.following) j) (sym t.count) ∙ at_front t.front t.here t.following),
            ap (λ xs. run (going st) (map act (definitions_from place 0 xs))) t.whole ∙ (run_definitions place st t.front t.here t.following
                ∙ (ap (λ o. run (next o (act (define_value w q))) (map act (definitions_from place (suc (length t.front)) t.following))) r.1
                ∙ (ap (λ o. run o (map act (definitions_from place (suc (length t.front)) t.following))) z ∙ rest_fails x (map act (definitions_from place (suc (length t.front)) t.following))))),
          )
