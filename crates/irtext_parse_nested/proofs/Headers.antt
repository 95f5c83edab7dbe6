-- What the header of a block does with names: its keys, its arguments, its mark and its label, and where that fails.
use Rattle.std.proofs.Common.{◌≡◌, ◌<◌, ◌+◌, ◌∙◌, inl, inr, ℕ, zero, suc, true, false, cond, List, [], ◌∷◌, ◌++◌, length, map, Option, Some, None, refl, sym, ap, ap₂, subst, arith}
use Rattle.std.specs.Map.{lookup}
use Rattle.std.specs.Prelude.{Vec}
use Rattle.std.specs.Global.{Global}
use Rattle.irtext_base.specs.Text.{Text}
use Rattle.irtext_base.specs.Faults as causes
use Rattle.irtext_base.specs.declared.base.attributes.AttrObj.{AttrObj}
use Rattle.irtext_graph.specs.declared.arena.Ptr.{Ptr}
use Rattle.irtext_graph.specs.declared.object.BasicBlock.{BasicBlock}
use Rattle.irtext_graph.specs.declared.object.Value.TheVariants.{Argument}
use Rattle.irtext_graph.specs.Chained.{Among}
use Rattle.irtext_graph.specs.Graph.{GraphView}
use Rattle.irtext_graph.proofs.Preorders.{among_right}
use Rattle.irtext_context.specs.declared.base.item.Item.TheVariants as item
use Rattle.irtext_parse_state.specs.States.{same_index}
use Rattle.irtext_parse_state.specs.declared.parsable.state.State as code
use Rattle.irtext_grammar.specs.Contexts.Held.{attribute_of}
use Rattle.irtext_grammar.specs.Grammar.Tree.{Name, Mark, Attribute}
use Rattle.irtext_grammar.specs.Names.Acts.{Rule, key_act, argument_definitions, mark_acts, entries_if, word_of}
use Rattle.irtext_grammar.specs.Names.History.{act, State, Outcome, going, failed, next, run, after, outcome}
use Rattle.irtext_grammar.specs.Names.Scopes.{fact_of, is_among}
use Rattle.irtext_grammar.specs.Names.Script as script
use Rattle.irtext_grammar.specs.Names.Script.{Path, argument, claim, define_value, mark}
use Rattle.irtext_grammar.specs.Names.TextScopes.{Act, Failure}
use Rattle.irtext_names.specs.Linked.{Known, NamesAgree}
use Rattle.irtext_grammar.specs.Promises.Section.{indices_of}
use Rattle.irtext_names.proofs.NamesInRow.{rest_fails, map-through}
use Rattle.irtext_grammar.specs.declared.parsed.Key.{Key}
use Rattle.irtext_grammar.specs.declared.parsed.ReadMark.{ReadMark}
use Rattle.irtext_grammar.specs.declared.parsed.ReadName.{ReadName}
use Rattle.irtext_parse_pieces.specs.Arguments.{IsArgument}
use Rattle.irtext_grammar.specs.Parsed.{IsKey, IsEntry, AreEntries, IsMarkIf, Represents, Each, Optional}
use Rattle.irtext_names.specs.Gathering.{entries_in, AreAllowed, IsFirstForbidden}
use Rattle.irtext_names.specs.Rows.{definitions_from, AreMadeAs}
use Rattle.irtext_parse_nested.specs.Ends.{NotesMark}
use Rattle.irtext_names.specs.Items.{Names}
use Rattle.irtext_parse_nested.proofs.BlockPlaced.{arguments_made, with_block}
use Rattle.irtext_names.proofs.Gathers.{after_nothing}
use Rattle.irtext_parse_nested.proofs.Marking.{mark_agrees, not_noted}

-- ---- the machine over acts in a row
pub run_both : (o : Outcome) (xs ys : List Act) → run o (map act (xs ++ ys)) ≡ run (run o (map act xs)) (map act ys)
run_both o [] ys = refl
run_both o (x ∷ xs) ys = run_both (next o (act x)) xs ys

-- ---- keys
module _ {A : Type 0} (rule : Rule A) (text : Text) where
  -- the rule says the same of the entry that was parsed
  same_rule : (r : Key × AttrObj A) (e : Name ℕ × Attribute A) → IsEntry text r e → rule e.0.text e.1 ≡ rule r.0.name (attribute_of r.1)
  same_rule r e i = ap₂ rule (sym i.0.named) (sym i.1)

  -- keys that are allowed leave the state of the machine unchanged
  pub keys_pass : (rs : List (Key × AttrObj A)) (es : List (Name ℕ × Attribute A)) → Each (IsEntry text) rs es → AreAllowed rule rs → (st : State) → run (going st) (map act (map (key_act rule) es)) ≡ going st
  keys_pass [] [] i a st = refl
  keys_pass [] (e ∷ es) i a st = absurd i
  keys_pass (r ∷ rs) [] i a st = absurd i
  keys_pass (r ∷ rs) (e ∷ es) i a st =
      ap (λ b. run (next (going st) (act (claim b (record { cause = script.ReservedKey e.0.text; at = Some e.0.place })))) (map act (map (key_act rule) es))) (same_rule r e i.0 ∙ a.0)
      ∙ (ap (λ z. run (going z) (map act (map (key_act rule) es))) (after_nothing st) ∙ keys_pass rs es i.1 a.1 st)

  -- the first that is forbidden fails
  pub record KeyFails (key : Key) (es : List (Name ℕ × Attribute A)) : Type 0 where
    pub name : Name ℕ
    pub is : IsKey text key name
    pub fails : (st : State) → run (going st) (map act (map (key_act rule) es)) ≡ failed (record { cause = script.ReservedKey name.text; at = Some name.place })

  pub keys_fail : (rs : List (Key × AttrObj A)) (es : List (Name ℕ × Attribute A)) (key : Key) → Each (IsEntry text) rs es → IsFirstForbidden rule rs key → KeyFails key es
  keys_fail [] es key i f = absurd f
  keys_fail (r ∷ rs) [] key i f = absurd i
  keys_fail (r ∷ rs) (e ∷ es) key i (inl (bad, is)) =
      let x : Failure = record { cause = script.ReservedKey e.0.text; at = Some e.0.place } in
      record {
        name = e.0;
        is = subst (λ k. IsKey text k e.0) (sym is) i.0.0;
        fails = λ st. ap (λ b. run (next (going st) (act (claim b x))) (map act (map (key_act rule) es))) (same_rule r e i.0 ∙ bad) ∙ rest_fails x (map act (map (key_act rule) es));
      }
  keys_fail (r ∷ rs) (e ∷ es) key i (inr (good, f)) =
      let k = keys_fail rs es key i.1 f in
      record {
        name = k.name;
        is = k.is;
        fails = λ st. ap (λ b. run (next (going st) (act (claim b (record { cause = script.ReservedKey e.0.text; at = Some e.0.place })))) (map act (map (key_act rule) es))) (same_rule r e i.0 ∙ good)
            ∙ (ap (λ z. run (going z) (map act (map (key_act rule) es))) (after_nothing st) ∙ k.fails st);
      }

-- the entries of a dictionary that may be missing
pub keys_each : {A : Type 0} (text : Text) (rs : Option (Vec (Key × AttrObj A) Global)) (es : Option (List (Name ℕ × Attribute A))) → Optional (AreEntries text) rs es → Each (IsEntry text) (entries_in rs) (entries_if es)
keys_each text None None o = tt
keys_each text None (Some es) o = absurd o
keys_each text (Some rs) None o = absurd o
keys_each text (Some rs) (Some es) o = o

-- ---- arguments
module _ {T : Type 0} where
  pub arguments_are : (p : Path) (i : ℕ) (hs : List (Name ℕ × T)) → argument_definitions p i hs ≡ definitions_from (argument p) i (map (λ a. a.0) hs)
  arguments_are p i [] = refl
  arguments_are p i (h ∷ hs) = ap (λ acts. define_value (word_of h.0) (argument p i) ∷ acts) (arguments_are p (suc i) hs)

  pub arguments_named : (names : List Text) (text : Text) (rs : List (ReadName × T)) (hs : List (Name ℕ × T)) → Each (IsArgument names text) rs hs → Each (Represents names text) (map (λ a. a.0) rs) (map (λ a. a.0) hs)
  arguments_named names text [] [] i = tt
  arguments_named names text [] (h ∷ hs) i = absurd i
  arguments_named names text (r ∷ rs) [] i = absurd i
  arguments_named names text (r ∷ rs) (h ∷ hs) i = (i.0.0, arguments_named names text rs hs i.1)

  pub arguments_typed : (names : List Text) (text : Text) (rs : List (ReadName × T)) (hs : List (Name ℕ × T)) → Each (IsArgument names text) rs hs → map (λ a. a.1) rs ≡ map (λ a. a.1) hs
  arguments_typed names text [] [] i = refl
  arguments_typed names text [] (h ∷ hs) i = absurd i
  arguments_typed names text (r ∷ rs) [] i = absurd i
  arguments_typed names text (r ∷ rs) (h ∷ hs) i = ap₂ ◌∷◌ i.0.1 (arguments_typed names text rs hs i.1)

-- the arguments of the block were made into its arguments
made_at : {X : Type 0} (p : Path) (b : Ptr BasicBlock) (k i : ℕ) (xs : List X) → i < length xs → Among (argument p (k + i), Argument b (k + i)) (arguments_made p b k xs)
made_at p b k i [] l = absurd (omega (arith, l))
made_at p b k zero (x ∷ xs) l = let e : k + 0 ≡ k = omega arith in inl (ap (λ j. (argument p j, Argument b j)) e)
made_at p b k (suc i) (x ∷ xs) l =
    let e : suc k + i ≡ k + suc i = omega arith in
    inr (subst (λ j. Among (argument p j, Argument b j) (arguments_made p b (suc k) xs)) e (made_at p b (suc k) i xs (omega (arith, l))))

pub made_in : {X Y : Type 0} (p : Path) (b : Ptr BasicBlock) (xs : List X) (ys : List Y) (made : Known) → length ys ≡ length xs → AreMadeAs (argument p) (Argument b) ys (with_block p b xs made)
made_in p b xs ys made e = λ i l. among_right (argument p i, Argument b i) made.values (arguments_made p b 0 xs)
    (let z : 0 + i ≡ i = omega arith in subst (λ j. Among (argument p j, Argument b j) (arguments_made p b 0 xs)) z (made_at p b 0 i xs (subst (λ n. i < n) e l)))

-- ---- a mark
module _ {O B T : Type 0} (names : Names) (g : GraphView (Option O) B T) (made : Known) (text : Text) where
  -- the state of the machine after a mark
  pub record MarkOn (st : State) (m : Option (Mark ℕ)) (later : List ℕ) : Type 0 where
    pub state : State
    pub goes : run (going st) (map act (mark_acts m)) ≡ going state
    pub agreed : NamesAgree names g made [] state
    pub marks : state.marks ≡ later

  pub mark_on : {X : Type 0} (x : X) (read : Option ReadMark) (m : Option (Mark ℕ)) (old new : List (ℕ × X)) (st : State) → IsMarkIf text read m → NotesMark read x old new → st.marks ≡ indices_of old → NamesAgree names g made [] st → MarkOn st m (indices_of new)
  mark_on x None None old new st i n e s = record { state = st; goes = refl; agreed = s; marks = e ∙ ap indices_of (sym n) }
  mark_on x None (Some m) old new st i n e s = absurd i
  mark_on x (Some r) None old new st i n e s = absurd i
  mark_on x (Some r) (Some m) old new st i n e s =
      let k : (lookup (same_index m.index) old ≡ None) × (new ≡ old ++ (m.index, x) ∷ []) = subst (λ j. (lookup (same_index j) old ≡ None) × (new ≡ old ++ (j, x) ∷ [])) i.indexed n in
      let fresh : is_among m.index st.marks ≡ false = ap (is_among m.index) e ∙ not_noted m.index old k.0 in
      let f : Failure = record { cause = script.DuplicateIndex m.index; at = Some m.place } in
      record {
        state = after st (fact_of (mark m.index m.place));
        goes = ap (λ b. outcome (cond b (f ∷ []) []) (after st (fact_of (mark m.index m.place)))) fresh;
        agreed = mark_agrees names g made [] st m.index m.place s;
        marks = ap (λ ms. ms ++ m.index ∷ []) e ∙ (sym (map-through (λ z. z.0) old (m.index, x) []) ∙ ap indices_of (sym k.1));
      }

-- a mark whose index is recorded already fails
pub mark_taken : (m : Option (Mark ℕ)) (k : Mark ℕ) (st : State) → m ≡ Some k → is_among k.index st.marks ≡ true → run (going st) (map act (mark_acts m)) ≡ failed (record { cause = script.DuplicateIndex k.index; at = Some k.place })
mark_taken m k st e there =
    let f : Failure = record { cause = script.DuplicateIndex k.index; at = Some k.place } in
    ap (λ z. run (going st) (map act (mark_acts z))) e ∙ ap (λ b. outcome (cond b (f ∷ []) []) (after st (fact_of (mark k.index k.place)))) there
