-- Between functions: what each action of the parser of nested text parses and does, and how it fails.
use Rattle.std.specs.Prelude.{◌≡◌, ◌⊎◌, ℕ, ◌-◌, Bool, true, ◌||◌, List, [], ◌∷◌, codes, length, Option, false}
use Rattle.irtext_base.specs.Text.{Text}
use Rattle.irtext_base.specs.Format.{Id}
use Rattle.irtext_base.specs.Faults.{Fault}
use Rattle.irtext_base.specs.Answers.{Outcome, Read, Bad, demanded}
use Rattle.irtext_base.specs.Locations.{AttrView}
use Rattle.irtext_base.specs.declared.parsable.fault.ParseFault.{ParseFault}
use Rattle.irtext_tokens.specs.Infix.{Reader, ◌▷◌}
use Rattle.irtext_tokens.specs.Tokens.{space_at, word}
use Rattle.irtext_parse_state.specs.declared.parsable.state.StateStream.{StateStream}
use Rattle.irtext_graph.specs.declared.object.Object.TheVariants.{TheOperation, TheBlock}
use Rattle.irtext_grammar.specs.Contexts.Held.{whole}
use Rattle.irtext_grammar.specs.Grammar.Tree.{Name, Mark, Piece, Part, Head}
use Rattle.irtext_grammar.specs.Names.History.{Outcome as Machine}
use Rattle.irtext_grammar.specs.Names.Script.{Path}
use Rattle.irtext_grammar.specs.Promises.Root.{UnlessMemory}
use Rattle.irtext_grammar.specs.Promises.Section.{Moves}
use Rattle.irtext_grammar.specs.Promises.Supported.{is_committed}
use Rattle.irtext_grammar.specs.Heads.{Step, front_steps, piece_at, head_at, led_at, mark_if_at, setting}
use Rattle.irtext_grammar.specs.Reached.{steps_in}
use Rattle.irtext_grammar.specs.Resume.{OpenOperation, begun, front_at}
use Rattle.irtext_parse_nested.specs.declared.frame.BegunOperation.{BegunOperation}
use Rattle.irtext_parse_nested.specs.declared.frame.BegunRegion.{BegunRegion}
use Rattle.irtext_parse_nested.specs.declared.frame.BegunBlock.{BegunBlock}
use Rattle.irtext_parse_nested.specs.OpenOperation.{IsBegun, IsRegion, IsBlock, pledge_of}
use Rattle.irtext_names.specs.Items.{Names, doing, Acts, ActsWith, ActFails, IsTextFault}

-- the fault of a parser that starts at `rest`, which is the end of the whole text, if what it parses is required
pub record Demands {X A : Type 0} (text : Text) (o : Outcome X) (rest : Text) (fault : ParseFault A) : Type 0 where
  pub cause : Fault
  pub upto : Text
  pub bad : demanded o ≡ Bad cause upto
  pub fault_is : IsTextFault text cause (length rest - length upto) fault

module _ {T A U : Type 0} (types_at : Reader T) (attr : Reader (AttrView A)) where
  -- ---- an operation begins

  -- Names of results, an id and the pieces before the first region come next, inside of a region or outside of every region.
  pub record ReadsFront (inside : Bool) (old : StateStream T A U) (rest : Text) : Type 0 where
    pub names : List (Name ℕ)
    pub id : Id
    pub lead : Text
    pub middle : Text
    pub led : led_at old.state.ctx.now.dialects old.stream.rest ≡ Read (names, id) lead middle
    pub parts : List (Part ℕ T A)
    pub taken : Text
    pub front : front_at types_at attr (setting inside false) (front_steps (steps_in old.state.ctx.now.dialects id)) [] middle ≡ Read parts taken rest

  -- what is begun when these were parsed
  abbrev pub begun_by : (inside : Bool) (old : StateStream T A U) (rest : Text) → ReadsFront inside old rest → OpenOperation T A
  begun_by inside old rest r = begun old.state.ctx.now.dialects (length old.stream.rest) r.names r.id r.parts

  -- what is done with these
  abbrev pub uses_of : (inside : Bool) (old : StateStream T A U) (rest : Text) → ReadsFront inside old rest → (ℕ → Path) → Machine → Machine
  uses_of inside old rest r path = (doing old.state.ctx.now.dialects path).uses (length old.stream.rest) r.id r.parts

  -- the operation was begun: what precedes its first region was parsed and done
  pub record BeginsOperation (inside : Bool) (before : Names) (old : StateStream T A U) (b : BegunOperation) (names : Names) (new : StateStream T A U) : Type 0 where
    pub read : ReadsFront inside old new.stream.rest
    pub moves : Moves old.stream new.stream
    pub begun : IsBegun names.names (whole old.stream) new.state.ctx.now b (begun_by inside old new.stream.rest read)
    pub acts : ActsWith ((length old.stream.rest, TheOperation b.op) ∷ []) (uses_of inside old new.stream.rest read) before old.state [] names new.state (pledge_of b (length old.stream.rest) ∷ [])

  -- no operation was begun: because of its lead, with a committed fault inside of a region, where an operation is required; because of a
  -- piece before its first region; or because of what these do
  pub data RefusesOperation (inside : Bool) (before : Names) (old : StateStream T A U) (fault : ParseFault A) : Type 0 where
    no_lead : Demands (whole old.stream) (led_at old.state.ctx.now.dialects old.stream.rest) old.stream.rest fault
        → fault.committed ≡ (inside || is_committed (led_at old.state.ctx.now.dialects old.stream.rest)) → RefusesOperation inside before old fault
    no_front : (names : List (Name ℕ)) (id : Id) (lead middle : Text) → led_at old.state.ctx.now.dialects old.stream.rest ≡ Read (names, id) lead middle
        → Demands (whole old.stream) (front_at types_at attr (setting inside false) (front_steps (steps_in old.state.ctx.now.dialects id)) [] middle) middle fault → fault.committed ≡ true → RefusesOperation inside before old fault
    no_uses : (rest : Text) (r : ReadsFront inside old rest) → ActFails (whole old.stream) (uses_of inside old rest r) before old.state [] fault → RefusesOperation inside before old fault

  -- ---- a piece after a region

  -- the piece of the operation's next step was parsed and done
  pub record ReadsPiece (o : OpenOperation T A) (step : Step) (b : BegunOperation) (before : Names) (old : StateStream T A U) (names : Names) (new : StateStream T A U) : Type 0 where
    pub piece : Piece ℕ T A
    pub taken : Text
    pub read : (space_at ▷ piece_at types_at attr (setting true false) step) old.stream.rest ≡ Read piece taken new.stream.rest
    pub moves : Moves old.stream new.stream
    pub acts : Acts (λ path. (doing old.state.ctx.now.dialects path).late o.place o.id piece) before old.state [] names new.state []

  -- no such piece comes next, or what it does fails
  abbrev pub RefusesPiece : OpenOperation T A → Step → Names → StateStream T A U → ParseFault A → Type 0
  RefusesPiece o step before old fault = Demands (whole old.stream) ((space_at ▷ piece_at types_at attr (setting true false) step) old.stream.rest) old.stream.rest fault
      ⊎ ((piece : Piece ℕ T A) × (taken : Text) × (rest : Text) × ((space_at ▷ piece_at types_at attr (setting true false) step) old.stream.rest ≡ Read piece taken rest)
      × ActFails (whole old.stream) (λ path. (doing {T = T} {A = A} old.state.ctx.now.dialects path).late o.place o.id piece) before old.state [] fault)

  -- the same of each operation that is open as this, and of its next step
  abbrev pub RefusesNext : BegunOperation → Names → StateStream T A U → ParseFault A → Type 0
  RefusesNext b before old fault = (o : OpenOperation T A) (step : Step) (ss : List Step) → IsBegun before.names (whole old.stream) old.state.ctx.now b o → o.steps ≡ step ∷ ss → UnlessMemory (RefusesPiece o step before old) fault

  -- ---- an operation ends

  -- what the end of the operation does, before its mark
  abbrev pub closes_of : OpenOperation T A → StateStream T A U → (ℕ → Path) → Machine → Machine
  closes_of o old path = (doing {T = T} {A = A} old.state.ctx.now.dialects path).closes o.place o.names o.id o.parts

  -- its mark was parsed, if one came next, and the operation was closed and marked
  pub record EndsOperation (o : OpenOperation T A) (b : BegunOperation) (before : Names) (old : StateStream T A U) (names : Names) (new : StateStream T A U) : Type 0 where
    pub mark : Option (Mark ℕ)
    pub taken : Text
    pub read : (space_at ▷ mark_if_at) old.stream.rest ≡ Read mark taken new.stream.rest
    pub moves : Moves old.stream new.stream
    pub acts : Acts (λ path z. (doing {T = T} {A = A} old.state.ctx.now.dialects path).marks mark (closes_of o old path z)) before old.state (pledge_of b o.place ∷ []) names new.state []

  -- what its end does fails; or it was closed, but its mark has an error, or what the mark does fails
  pub data RefusesEnd (o : OpenOperation T A) (b : BegunOperation) (before : Names) (old : StateStream T A U) (fault : ParseFault A) : Type 0 where
    no_results : ActFails (whole old.stream) (closes_of o old) before old.state (pledge_of b o.place ∷ []) fault → RefusesEnd o b before old fault
    no_mark : (names : Names) (mid : StateStream T A U) → Acts (closes_of o old) before old.state (pledge_of b o.place ∷ []) names mid.state [] → Demands (whole old.stream) ((space_at ▷ mark_if_at) old.stream.rest) old.stream.rest fault → RefusesEnd o b before old fault
    same_mark : (mark : Option (Mark ℕ)) (taken rest : Text) → (space_at ▷ mark_if_at) old.stream.rest ≡ Read mark taken rest
        → ActFails (whole old.stream) (λ path z. (doing {T = T} {A = A} old.state.ctx.now.dialects path).marks mark (closes_of o old path z)) before old.state (pledge_of b o.place ∷ []) fault → RefusesEnd o b before old fault

  -- the same of each operation that is open as this
  abbrev pub RefusesItsEnd : BegunOperation → Names → StateStream T A U → ParseFault A → Type 0
  RefusesItsEnd b before old fault = (o : OpenOperation T A) → IsBegun before.names (whole old.stream) old.state.ctx.now b o → UnlessMemory (RefusesEnd o b before old) fault

  -- ---- a region begins and ends

  -- what the beginning and the end of a region do
  abbrev pub enters_of : Bool → StateStream T A U → (ℕ → Path) → Machine → Machine
  enters_of iso old path = (doing {T = T} {A = A} old.state.ctx.now.dialects path).enters iso

  abbrev pub leaves_of : Bool → ℕ → StateStream T A U → (ℕ → Path) → Machine → Machine
  leaves_of iso place old path = (doing {T = T} {A = A} old.state.ctx.now.dialects path).leaves iso place

  -- the scopes of the region were opened, and its `{` was parsed, with the white space after it
  pub record BeginsRegion (iso : Bool) (r : BegunRegion) (before : Names) (old : StateStream T A U) (names : Names) (new : StateStream T A U) : Type 0 where
    pub taken : Text
    pub read : (word (codes "{") ▷ space_at) old.stream.rest ≡ Read tt taken new.stream.rest
    pub moves : Moves old.stream new.stream
    pub region : IsRegion names.names (whole old.stream) new.state.ctx.now r iso (length old.stream.rest)
    pub acts : Acts (enters_of iso old) before old.state [] names new.state []

  -- its scopes cannot be opened; or they were opened, but `{` does not come next
  pub data RefusesRegion (iso : Bool) (before : Names) (old : StateStream T A U) (fault : ParseFault A) : Type 0 where
    not_isolated : ActFails (whole old.stream) (enters_of iso old) before old.state [] fault → RefusesRegion iso before old fault
    no_brace : (names : Names) (mid : StateStream T A U) → Acts (enters_of iso old) before old.state [] names mid.state [] → Demands (whole old.stream) ((word (codes "{") ▷ space_at) old.stream.rest) old.stream.rest fault → RefusesRegion iso before old fault

  -- its `}` was parsed, and its scopes were closed
  pub record EndsRegion (iso : Bool) (place : ℕ) (before : Names) (old : StateStream T A U) (names : Names) (new : StateStream T A U) : Type 0 where
    pub taken : Text
    pub read : word (codes "}") old.stream.rest ≡ Read tt taken new.stream.rest
    pub moves : Moves old.stream new.stream
    pub acts : Acts (leaves_of iso place old) before old.state [] names new.state []

  -- `}` does not come next, or a name has no definition
  abbrev pub RefusesRegionEnd : Bool → ℕ → Names → StateStream T A U → ParseFault A → Type 0
  RefusesRegionEnd iso place before old fault = Demands (whole old.stream) (word (codes "}") old.stream.rest) old.stream.rest fault
      ⊎ ((taken rest : Text) × (word (codes "}") old.stream.rest ≡ Read tt taken rest) × ActFails (whole old.stream) (leaves_of iso place old) before old.state [] fault)

  -- the same of a region that was begun, wherever it begins
  abbrev pub RefusesToLeave : BegunRegion → Names → StateStream T A U → ParseFault A → Type 0
  RefusesToLeave r before old fault = (place : ℕ) → IsRegion before.names (whole old.stream) old.state.ctx.now r r.isolated place → UnlessMemory (RefusesRegionEnd r.isolated place before old) fault

  -- ---- a block begins

  -- what the header of a block does
  abbrev pub heads_of : Head ℕ T A → StateStream T A U → (ℕ → Path) → Machine → Machine
  heads_of h old path = (doing old.state.ctx.now.dialects path).heads h

  -- its header was parsed and done
  pub record BeginsBlock (b : BegunBlock) (before : Names) (old : StateStream T A U) (names : Names) (new : StateStream T A U) : Type 0 where
    pub head : Head ℕ T A
    pub taken : Text
    pub read : head_at types_at attr old.stream.rest ≡ Read head taken new.stream.rest
    pub moves : Moves old.stream new.stream
    pub block : IsBlock names.names (whole old.stream) new.state.ctx.now b true
    pub acts : ActsWith ((head.label.place, TheBlock b.block) ∷ []) (heads_of head old) before old.state [] names new.state []

  -- its header has an error, or what it does fails
  abbrev pub RefusesBlock : Names → StateStream T A U → ParseFault A → Type 0
  RefusesBlock before old fault = Demands (whole old.stream) (head_at types_at attr old.stream.rest) old.stream.rest fault
      ⊎ ((head : Head ℕ T A) × (taken rest : Text) × (head_at types_at attr old.stream.rest ≡ Read head taken rest) × ActFails (whole old.stream) (heads_of head old) before old.state [] fault)
