-- A block that was begun: after the acts of its header names, graph and marks agree with the state of the machine, or the machine fails
-- where the header is an error.
use Rattle.std.proofs.Common.{◌≡◌, ◌∙◌, ◌⊎◌, inl, inr, ℕ, suc, true, List, [], ◌∷◌, ◌++◌, length, map, Option, Some, None, refl, sym, ap, subst, append-nil, slice_get}
use Rattle.std.specs.Map.{lookup}
use Rattle.std.proofs.lemmas.List.{length-map}
use Rattle.irtext_base.specs.Text.{Text}
use Rattle.irtext_base.specs.Faults as causes
use Rattle.irtext_base.specs.declared.location.Source.{Source}
use Rattle.irtext_base.specs.declared.parsable.fault.ParseFault.{ParseFault}
use Rattle.irtext_graph.specs.declared.arena.Ptr.{Ptr}
use Rattle.irtext_graph.specs.declared.object.BasicBlock.{BasicBlock}
use Rattle.irtext_graph.specs.declared.object.Region.{Region}
use Rattle.irtext_graph.specs.declared.object.Value.{Value}
use Rattle.irtext_graph.specs.declared.object.Value.TheVariants.{Argument, Result}
use Rattle.irtext_graph.specs.declared.object.Object.TheVariants.{TheBlock}
use Rattle.irtext_graph.specs.Chained.{Among}
use Rattle.irtext_graph.specs.Graph.{GraphView}
use Rattle.irtext_graph.proofs.Preorders.{among_left, among_right}
use Rattle.irtext_context.specs.Context.{known}
use Rattle.irtext_context.specs.declared.base.block.BlockData.{BlockData}
use Rattle.irtext_context.specs.declared.base.item.Item.TheVariants as item
use Rattle.irtext_context.specs.declared.base.operation.OperationData.{OperationData}
use Rattle.irtext_parse_state.specs.States.{marks_of, same_index}
use Rattle.irtext_parse_state.specs.declared.parsable.state.State as code
use Rattle.irtext_scopes.specs.Names.{AreDistinct}
use Rattle.irtext_grammar.specs.Grammar.Tree.{Name, Mark, Head}
use Rattle.irtext_grammar.specs.Names.Acts.{key_act, block_may_hold, argument_definitions, mark_acts, entries_if, word_of}
use Rattle.irtext_grammar.specs.Names.History.{act, State, Outcome, going, failed, run, after}
use Rattle.irtext_grammar.specs.Names.Scopes.{fact_of, is_among}
use Rattle.irtext_grammar.specs.Names.Script as script
use Rattle.irtext_grammar.specs.Names.Script.{Path, Place, argument, result, block_at, define_label}
use Rattle.irtext_grammar.specs.Names.TextScopes.{Act, Failure}
use Rattle.irtext_names.specs.Linked.{Known, NamesAgree}
use Rattle.irtext_names.proofs.Linked.Interned.{interned}
use Rattle.irtext_grammar.specs.Promises.Section.{indices_of}
use Rattle.irtext_names.specs.Rows.{AreNamed}
use Rattle.irtext_names.proofs.NamesInRow.{rest_fails}
use Rattle.irtext_parse_pieces.specs.declared.headers.BlockHead.{BlockHead}
use Rattle.irtext_grammar.specs.declared.parsed.ReadMark.{ReadMark}
use Rattle.irtext_grammar.specs.declared.parsed.ReadName.{ReadName}
use Rattle.irtext_parse_pieces.specs.Headers.{IsHead}
use Rattle.irtext_grammar.specs.Parsed.{IsMarkIf, Represents, Each}
use Rattle.irtext_parse_pieces.specs.Named.{NamesRead}
use Rattle.irtext_names.specs.Gathering.{entries_in}
use Rattle.irtext_parse_nested.specs.Blocks.{RefusesKeys, MakesHead, RefusesArguments, DefinesArguments, NamesHead, RefusesHead, same_argument, same_mark, same_label}
use Rattle.irtext_names.specs.Definitions.{IsFaultOf, numbers_of}
use Rattle.irtext_parse_nested.specs.Ends.{NotesMark, RefusesMark}
use Rattle.irtext_names.specs.Items.{Made, Names, Pledge, MachineAgrees, ActsWith, ActFails, doing}
use Rattle.irtext_names.specs.Labels.{RefusesLabel}
use Rattle.irtext_parse_nested.proofs.BlockPlaced.{arguments_made, with_block, placed_agrees}
use Rattle.irtext_parse_nested.proofs.Ends.{definitions_unmarked}
use Rattle.irtext_parse_nested.proofs.Faults.{place_is_there, named_each, each_there, some_same, name_failure}
use Rattle.irtext_parse_nested.proofs.Headers.{run_both, keys_pass, keys_fail, keys_each, arguments_are, arguments_named, made_in, MarkOn, mark_on, mark_taken}
use Rattle.irtext_parse_nested.proofs.Marking.{noted_before}
use Rattle.irtext_parse_nested.proofs.OfItems.{of_block}

-- what is made besides is at places of the block
among_both : {X : Type 0} (x : X) (xs ys : List X) → Among x (xs ++ ys) → Among x xs ⊎ Among x ys
among_both x [] ys a = inr a
among_both x (y ∷ xs) ys (inl e) = inl (inl e)
among_both x (y ∷ xs) ys (inr a) = elim (among_both x xs ys a) [ inl i ↦ inl (inr i) | inr j ↦ inr j ]

arguments_after : {X : Type 0} (p : Path) (b : Ptr BasicBlock) (xs : List X) (known : List (Place × Value)) (q : Place) (v : Value) → Among (q, v) (known ++ arguments_made p b 0 xs) → Among (q, v) known ⊎ ((i : ℕ) × (q ≡ argument p i) × (v ≡ Argument b i))
arguments_after p b xs known q v a = elim (among_both (q, v) known (arguments_made p b 0 xs) a) [ inl i ↦ inl i | inr j ↦ inr (go 0 xs j) ]
  where
    go : {X : Type 0} (k : ℕ) (xs : List X) → Among (q, v) (arguments_made p b k xs) → (i : ℕ) × (q ≡ argument p i) × (v ≡ Argument b i)
    go k [] a = absurd a
    go k (x ∷ xs) (inl e) = (k, ap (λ z. z.0) e, ap (λ z. z.1) e)
    go k (x ∷ xs) (inr a) = go (suc k) xs a

block_after : (p : Path) (b : Ptr BasicBlock) (known : List (Place × Ptr BasicBlock)) (q : Place) (d : Ptr BasicBlock) → Among (q, d) (known ++ (block_at p, b) ∷ []) → Among (q, d) known ⊎ ((q ≡ block_at p) × (d ≡ b))
block_after p b known q d a = elim (among_both (q, d) known ((block_at p, b) ∷ []) a) [
  | inl i ↦ inl i
  | inr j ↦ elim j [ inl e ↦ inr (ap (λ z. z.0) e, ap (λ z. z.1) e) | inr k ↦ absurd k ]
]

-- a mark that was parsed represents one of the text
mark_there : (text : Text) (read : Option ReadMark) (m : Option (Mark ℕ)) (r : ReadMark) → IsMarkIf text read m → read ≡ Some r → (k : Mark ℕ) × (m ≡ Some k) × IsMarkIf text (Some r) (Some k)
mark_there text None m r i e = absurd (cc)
mark_there text (Some s) None r i e = absurd i
mark_there text (Some s) (Some k) r i e = (k, refl, subst (λ z. IsMarkIf text (Some z) (Some k)) (some_same e) i)

module _ {T A U : Type 0} (before names : Names) (text : Text) (source : Source) (s m : code.State T A U) (read : BlockHead T A) (head : Head ℕ T A) (reads : NamesRead before names) (distinct : AreDistinct names.names) (is : IsHead names.names text read head)
  where
    -- what the header does
    abbrev heads : (ℕ → Path) → Outcome → Outcome
    heads path = (doing {T = T} {A = A} s.ctx.now.dialects path).heads head

    abbrev keys : List Act
    keys = map (key_act block_may_hold) (entries_if head.attributes)

    -- the names of the arguments
    abbrev arguments : List ReadName
    arguments = map (λ a. a.0) read.arguments

    abbrev words : List (Name ℕ)
    words = map (λ a. a.0) head.arguments

    words_are : Each (Represents names.names text) arguments words
    words_are = arguments_named names.names text read.arguments head.arguments is.arguments

    words_named : AreNamed names.names (numbers_of arguments) words
    words_named = named_each names.names text arguments words words_are

    -- the acts after the keys
    abbrev rest : Path → List Act
    rest p = argument_definitions p 0 head.arguments ++ (mark_acts head.mark ++ define_label (word_of head.label) (block_at p) ∷ [])

    -- a key is forbidden
    pub key_fails : (fault : ParseFault A) → RefusesKeys text (entries_in read.attributes) fault → ActFails text heads before s [] fault
    key_fails fault r =
        let k = keys_fail block_may_hold text (entries_in read.attributes) (entries_if head.attributes) r.key (keys_each text read.attributes head.attributes is.attributes) r.first in
        let x : Failure = record { cause = script.ReservedKey k.name.text; at = Some k.name.place } in
        record {
          failure = x;
          is = record { cause = r.says.because ∙ ap causes.ReservedKey k.is.named; place = place_is_there k.is.place r.says.place; committed = r.says.flag };
          so = λ path items more o h. let p = path head.label.place in
              ap (heads path) h.going ∙ (run_both (going h.state) keys (rest p) ∙ (ap (λ z. run z (map act (rest p))) (k.fails h.state) ∙ rest_fails x (map act (rest p))));
        }

    module _ (r : Ptr Region) (b : Ptr BasicBlock) (makes : MakesHead names.names source text read.label read.arguments (entries_in read.attributes) s.ctx.now m.ctx.now r b) (same : marks_of m ≡ marks_of s) where
      abbrev types : List (Option T)
      types = known (map (λ a. a.1) read.arguments)

      as_many : length (numbers_of arguments) ≡ length types
      as_many = length-map arguments (λ n. n.name) ∙ (length-map read.arguments (λ a. a.0) ∙ (sym (length-map read.arguments (λ a. a.1)) ∙ sym (length-map (map (λ a. a.1) read.arguments) (λ t. Some t))))

      -- the state of the machine after the keys, with the block made
      pub record Placed (path : ℕ → Path) (items : Made) (pledges : List Pledge) (o : Outcome) : Type 0 where
        pub was : MachineAgrees path items pledges before s o
        pub made : Known
        pub is_made : made ≡ with_block (path head.label.place) b types was.known
        pub agreed : NamesAgree names m.ctx.now.graph made [] was.state
        pub goes : heads path o ≡ run (going was.state) (map act (rest (path head.label.place)))

      placed : (path : ℕ → Path) (items : Made) (pledges : List Pledge) (o : Outcome) → MachineAgrees path items pledges before s o → Placed path items pledges o
      placed path items pledges o h =
          let p = path head.label.place in
          let read_on = interned s.ctx.now.graph before names reads.kept distinct (reads.values, reads.labels) h.known [] h.state h.agreed in
          record {
            was = h;
            made = with_block p b types h.known;
            is_made = refl;
            agreed = placed_agrees r b makes.held types makes.places.makes.graph makes.places.appends names h.known p [] h.state read_on;
            goes = ap (heads path) h.going ∙ (run_both (going h.state) keys (rest p)
                ∙ ap (λ z. run z (map act (rest p))) (keys_pass block_may_hold text (entries_in read.attributes) (entries_if head.attributes) (keys_each text read.attributes head.attributes is.attributes) makes.allowed h.state));
          }

      -- and after the arguments
      pub record Defined (path : ℕ → Path) (items : Made) (pledges : List Pledge) (o : Outcome) (mid : Names) (g : GraphView (Option (OperationData A)) (BlockData A) (Option T)) : Type 0 where
        pub front : Placed path items pledges o
        pub state : State
        pub agreed : NamesAgree mid g front.made [] state
        pub marks : state.marks ≡ indices_of (marks_of m)
        pub goes : heads path o ≡ run (going state) (map act (mark_acts head.mark ++ define_label (word_of head.label) (block_at (path head.label.place)) ∷ []))

      module _ (mid : Names) (g : GraphView (Option (OperationData A)) (BlockData A) (Option T)) (defines : DefinesArguments b arguments names m mid g) where
        defined : (path : ℕ → Path) (items : Made) (pledges : List Pledge) (o : Outcome) → MachineAgrees path items pledges before s o → Defined path items pledges o mid g
        unfolding placed
        defined path items pledges o h =
            let p = path head.label.place in
            let f = placed path items pledges o h in
            let made = with_block p b types h.known in
            let d = defines.row.so words words_named (argument p) made h.state (made_in p b types (numbers_of arguments) h.known as_many) f.agreed in
            let last = mark_acts head.mark ++ define_label (word_of head.label) (block_at p) ∷ [] in
            record {
              front = f;
              state = d.0;
              agreed = d.2;
              marks = definitions_unmarked (argument p) 0 words h.state d.0 d.1 ∙ (h.marks ∙ ap indices_of (sym same));
              goes = f.goes ∙ (run_both (going h.state) (argument_definitions p 0 head.arguments) last
                  ∙ ap (λ z. run z (map act last)) (ap (λ acts. run (going h.state) (map act acts)) (arguments_are p 0 head.arguments) ∙ d.1));
            }

        -- after the mark
        marked : (path : ℕ → Path) (items : Made) (pledges : List Pledge) (o : Outcome) {X : Type 0} (x : X) (old later : List (ℕ × X)) → NotesMark read.mark x old later → indices_of (marks_of m) ≡ indices_of old → (d : Defined path items pledges o mid g)
            → MarkOn mid g d.front.made text d.state head.mark (indices_of later)
        marked path items pledges o x old later notes are d = mark_on mid g d.front.made text x read.mark head.mark old later d.state is.mark notes (d.marks ∙ are) d.agreed

        -- the mark's index is recorded already
        pub mark_refused : (fault : ParseFault A) → RefusesMark text read.mark (marks_of m) fault → ActFails text heads before s [] fault
        mark_refused fault q =
            let k = mark_there text read.mark head.mark q.read is.mark q.is in
            let x : Failure = record { cause = script.DuplicateIndex k.0.index; at = Some k.0.place } in
            record {
              failure = x;
              is = record { cause = q.because ∙ ap causes.DuplicateIndex k.2.indexed; place = place_is_there k.2.place q.place; committed = q.flag };
              so = λ path items more o h.
                  let d = defined path items (more ++ []) o h in
                  let label = define_label (word_of head.label) (block_at (path head.label.place)) ∷ [] in
                  let there : is_among k.0.index d.state.marks ≡ true = ap (is_among k.0.index) d.marks ∙ noted_before k.0.index (marks_of m) (λ e. q.noted (subst (λ j. lookup (same_index j) (marks_of m) ≡ None) (sym k.2.indexed) e)) in
                  d.goes ∙ (run_both (going d.state) (mark_acts head.mark) label ∙ (ap (λ z. run z (map act label)) (mark_taken head.mark k.0 d.state k.1 there) ∙ rest_fails x (map act label)));
            }

        -- the label is defined already
        pub label_refused : (fault : ParseFault A) {X : Type 0} (x : X) (old later : List (ℕ × X)) → NotesMark read.mark x old later → indices_of (marks_of m) ≡ indices_of old → RefusesLabel mid g text read.label fault → ActFails text heads before s [] fault
        label_refused fault y old later notes are q =
            let x : Failure = record { cause = script.MultipleDefinitions head.label.text; at = Some head.label.place } in
            record {
              failure = x;
              is = name_failure causes.MultipleDefinitions script.MultipleDefinitions (λ t c e. e) is.label (subst (λ ns. IsFaultOf ns text causes.MultipleDefinitions read.label fault) defines.same q.says);
              so = λ path items more o h.
                  let d = defined path items (more ++ []) o h in
                  let k = marked path items (more ++ []) o y old later notes are d in
                  let p = block_at (path head.label.place) in
                  let label = define_label (word_of head.label) p ∷ [] in
                  d.goes ∙ (run_both (going d.state) (mark_acts head.mark) label ∙ (ap (λ z. run z (map act label)) k.goes
                  ∙ (q.fails (word_of head.label) p (ap (λ ns. slice_get ns read.label.name) defines.same ∙ is.label.named)).so d.front.made [] k.state k.agreed));
            }

      -- an argument is defined already
      pub argument_refused : (fault : ParseFault A) → RefusesArguments b arguments names m.ctx.now.graph text fault → ActFails text heads before s [] fault
      unfolding placed
      argument_refused fault q =
          let t = each_there (Represents names.names text) arguments words q.index q.read words_are q.is in
          let x : Failure = record { cause = script.MultipleDefinitions t.0.text; at = Some t.0.place } in
          record {
            failure = x;
            is = name_failure causes.MultipleDefinitions script.MultipleDefinitions (λ t c e. e) t.2 q.says;
            so = λ path items more o h.
                let p = path head.label.place in
                let f = placed path items (more ++ []) o h in
                let made = with_block p b types h.known in
                let e = q.fails.so words words_named (argument p) made h.state (made_in p b types (numbers_of arguments) h.known as_many) f.agreed in
                let last = mark_acts head.mark ++ define_label (word_of head.label) (block_at p) ∷ [] in
                f.goes ∙ (run_both (going h.state) (argument_definitions p 0 head.arguments) last
                ∙ (ap (λ z. run z (map act last)) (ap (λ acts. run (going h.state) (map act acts)) (arguments_are p 0 head.arguments) ∙ (e.2 ∙ ap (λ w. failed (record { cause = script.MultipleDefinitions w.text; at = Some w.place })) (some_same (sym e.1 ∙ t.1))))
                ∙ rest_fails x (map act last)));
          }

      -- what the header does fails
      pub head_fails : (fault : ParseFault A) → RefusesHead b read.label arguments read.mark names m text fault → ActFails text heads before s [] fault
      head_fails fault (same_argument q) = argument_refused fault q
      head_fails fault (same_mark mid g defines q) = mark_refused mid g defines fault q
      head_fails fault (same_label mid g later defines notes q) = label_refused mid g defines fault (item.Block b) (marks_of m) later notes refl q

      -- it is done
      pub head_acts : (new : Names) (z : code.State T A U) → NamesHead b read.label arguments read.mark names m new z → ActsWith ((head.label.place, TheBlock b) ∷ []) heads before s [] new z []
      unfolding placed defined
      head_acts new z n = record {
        so = λ path items more o h.
            let d = defined n.mid n.between n.defines path items (more ++ []) o h in
            let k = marked n.mid n.between n.defines path items (more ++ []) o (item.Block b) (marks_of m) (marks_of z) n.notes refl d in
            let p = path head.label.place in
            let w = word_of head.label in
            let label = define_label w (block_at p) ∷ [] in
            let made = with_block p b types h.known in
            let l = (n.labels w (block_at p) (ap (λ ns. slice_get ns read.label.name) n.defines.same ∙ is.label.named)).so made k.state
            (among_right (block_at p, b) h.known.blocks ((block_at p, b) ∷ []) (inl refl)) k.agreed in
            record {
              known = made;
              of_items = of_block path items head.label.place b h.known made h.of_items (arguments_after p b types h.known.values) (block_after p b h.known.blocks) refl;
              state = after k.state (fact_of (define_label w (block_at p)));
              going = d.goes ∙ (run_both (going d.state) (mark_acts head.mark) label ∙ (ap (λ y. run y (map act label)) k.goes ∙ l.0));
              agreed = l.1;
              marks = append-nil k.state.marks ∙ k.marks;
              results = λ q a i j. among_left (result (path q.place) i, Result q.op i) h.known.values (arguments_made p b 0 types) (h.results q a i j);
            };
      }
