-- What each turn says is put together for the loop.
use Rattle.std.proofs.Common.{◌≡◌, ◌≤◌, ℕ, Bool, true, [], ◌∷◌, length, Option, is_some, Result, Ok, Err, IfOk, OnOk, OnErr, ◌++◌, sym, ap, subst}
use Rattle.irtext_base.specs.Text.{Text}
use Rattle.irtext_base.specs.Answers.{Read}
use Rattle.irtext_base.specs.Locations.{AttrView}
use Rattle.irtext_base.specs.declared.parsable.fault.ParseFault.{ParseFault}
use Rattle.irtext_context.specs.Context.{KeepsOlder}
use Rattle.irtext_context.specs.declared.base.item.Item.TheVariants as item
use Rattle.irtext_graph.specs.Back.{IsClosedBelow}
use Rattle.irtext_graph.specs.declared.arena.Ptr.{Ptr}
use Rattle.irtext_graph.specs.declared.object.BasicBlock.{BasicBlock}
use Rattle.irtext_graph.specs.declared.object.Operation.{Operation}
use Rattle.irtext_graph.specs.declared.object.Region.{Region}
use Rattle.irtext_graph.specs.declared.object.Object.TheVariants.{TheOperation, TheBlock, TheRegion}
use Rattle.irtext_graph.specs.Graph.{IsNew}
use Rattle.irtext_tokens.specs.Infix.{Reader, ◌▷◌}
use Rattle.irtext_tokens.specs.Tokens.{space_at}
use Rattle.irtext_scopes.specs.Names.{KeepsNames}
use Rattle.irtext_scopes.specs.Scopes.{is_open, outer}
use Rattle.irtext_scopes.specs.Tracker.{entered, left}
use Rattle.irtext_parse_state.specs.States.{KeepsRest, marks_of}
use Rattle.irtext_parse_state.specs.declared.parsable.state.StateStream.{StateStream}
use Rattle.irtext_grammar.specs.Contexts.Formats.{format_of}
use Rattle.irtext_grammar.specs.Contexts.Held.{whole}
use Rattle.irtext_grammar.specs.Grammar.Tree.{Mark, Head}
use Rattle.irtext_grammar.specs.Promises.Section.{Moves}
use Rattle.irtext_grammar.specs.Heads.{head_at, mark_if_at}
use Rattle.irtext_grammar.specs.Resume.{OpenOperation}
use Rattle.irtext_grammar.specs.Grows.{RegionCame, OperationGains, RegionGains, BlockCame}
use Rattle.irtext_grammar.specs.Unchanged.{OwnSoFar, ModifiesOnly}
use Rattle.irtext_parse_nested.specs.declared.frame.BegunOperation.{BegunOperation}
use Rattle.irtext_parse_nested.specs.declared.frame.BegunRegion.{BegunRegion}
use Rattle.irtext_parse_nested.specs.declared.frame.BegunBlock.{BegunBlock}
use Rattle.irtext_parse_nested.specs.Beginning.{HasBegun, ComesInto}
use Rattle.irtext_parse_nested.specs.OpenOperation.{IsBegun, IsRegion}
use Rattle.irtext_names.specs.Carriers.{noted_as}
use Rattle.irtext_parse_nested.specs.Ends.{GainsMarks, BecomesNamed}
use Rattle.irtext_names.specs.Items.{Names, IsSound, KeepsLive}
use Rattle.irtext_parse_nested.specs.Later.{GoesOn}
use Rattle.irtext_parse_nested.proofs.Marking.{gains_nothing, on_err, always_err}
use Rattle.irtext_names.specs.Located.{IsLocated}
use Rattle.irtext_parse_nested.specs.Read.{ReadsFront, begun_by, BeginsOperation, EndsOperation, BeginsRegion, EndsRegion, BeginsBlock}
use Rattle.irtext_parse_root.specs.Turned.{Spares}
use Rattle.irtext_parse_root.specs.Turns.{Begins, Continues, Ends, Enters, Leaves, Heads}

module _ {T A U : Type 0} (types_at : Reader T) (attr : Reader (AttrView A)) (before : Names) (old : StateStream T A U) (names : Names) (new : StateStream T A U) (rest : KeepsRest old.state new.state) where
  -- the claims of all turns
  abbrev Lasting : Type 0
  Lasting = KeepsLive old.state.ctx.now new.state.ctx.now

  abbrev Sounding : Type 0
  Sounding = (m : ℕ) → m ≤ old.state.ctx.now.graph.made → IsSound m before old.state → IsSound m names new.state

  module _ {E : Type 0} where
    pub begins_given : (block : Option (Ptr BasicBlock)) (r : Result BegunOperation E) → KeepsNames before.names names.names → length names.values ≡ length before.values → length names.labels ≡ length before.labels → marks_of new.state ≡ marks_of old.state
        → IfOk r (λ b. BeginsOperation types_at attr (is_some block) before old b names new)
        → IfOk r (λ b. (read : ReadsFront types_at attr (is_some block) old new.stream.rest) → (own : OwnSoFar T A) × HasBegun (format_of old.state.ctx.now.dialects) (begun_by types_at attr (is_some block) old new.stream.rest read) own
        × ComesInto (IsLocated old.state.src (whole old.stream)) old.state.ctx.now new.state.ctx.now b.op own block)
        → OnOk r Lasting → OnOk r Sounding → IfOk r (λ b. (m : ℕ) → m ≤ old.state.ctx.now.graph.made → IsNew m new.state.ctx.now.graph (TheOperation b.op)) → IfOk r (λ b. Begins types_at attr before old block b names new)
    begins_given block (Ok b) keeps values labels same begins came lasts sound fresh =
        let w = came begins.read in
        record {
          begins = begins;
          own = w.0;
          has = w.1;
          comes = w.2;
          marks = same;
          carries = record { rest = rest; moves = begins.moves; keeps = keeps; lasts = lasts; sound = sound; gains = gains_nothing same };
          depth = record { values = values; labels = labels };
          fresh = fresh;
        }
    begins_given block (Err f) keeps values labels same begins came lasts sound fresh = tt

    pub enters_given : (op : Ptr Operation) (iso : Bool) (r : Result BegunRegion E) → names.names ≡ before.names → marks_of new.state ≡ marks_of old.state → OnOk r (names.values ≡ entered iso before.values) → OnOk r (names.labels ≡ [] ∷ before.labels)
        → IfOk r (λ b. BeginsRegion types_at attr iso b before old names new) → IfOk r (λ b. RegionCame old.state.ctx.now new.state.ctx.now b.region) → IfOk r (λ b. OperationGains old.state.ctx.now new.state.ctx.now op b.region)
        → IfOk r (λ b. ModifiesOnly (TheRegion b.region ∷ TheOperation op ∷ []) old.state.ctx.now new.state.ctx.now) → OnOk r Lasting → OnOk r Sounding → OnOk r (is_open names.values ≡ true)
        → IfOk r (λ b. (m : ℕ) → m ≤ old.state.ctx.now.graph.made → IsNew m new.state.ctx.now.graph (TheRegion b.region)) → IfOk r (λ b. Enters types_at attr before old op iso b names new)
    enters_given op iso (Ok b) same marked values labels begins came gains spares lasts sound is_in fresh = record {
      begins = begins;
      came = came;
      gains = gains;
      spares = spares;
      carries = record { rest = rest; moves = begins.moves; keeps = λ i text e. rw same e; lasts = lasts; sound = sound; gains = gains_nothing marked };
      marks = marked;
      values = values;
      labels = labels;
      is_in = is_in;
      fresh = fresh;
    }
    enters_given op iso (Err f) same marked values labels begins came gains spares lasts sound is_in fresh = tt

    pub heads_given : (region : Ptr Region) (r : Result BegunBlock E) → KeepsNames before.names names.names → length names.values ≡ length before.values → length names.labels ≡ length before.labels
        → IfOk r (λ b. BeginsBlock types_at attr b before old names new)
        → IfOk r (λ b. (h : Head ℕ T A) (taken : Text) → head_at types_at attr old.stream.rest ≡ Read h taken new.stream.rest → BlockCame old.state.ctx.now new.state.ctx.now (IsLocated old.state.src (whole old.stream)) b.block h)
        → IfOk r (λ b. RegionGains old.state.ctx.now new.state.ctx.now region b.block) → IfOk r (λ b. ModifiesOnly (TheBlock b.block ∷ TheRegion region ∷ []) old.state.ctx.now new.state.ctx.now) → OnOk r Lasting → OnOk r Sounding
        → IfOk r (λ b. (m : ℕ) → m ≤ old.state.ctx.now.graph.made → IsNew m new.state.ctx.now.graph (TheBlock b.block))
        → IfOk r (λ b. (h : Head ℕ T A) (taken : Text) → head_at types_at attr old.stream.rest ≡ Read h taken new.stream.rest → marks_of new.state ≡ marks_of old.state ++ noted_as h.mark (item.Block b.block)) → IfOk r (λ b. Heads types_at attr before old region b names new)
    heads_given region (Ok b) keeps values labels begins came gains spares lasts sound fresh note = record {
      begins = begins;
      came = came begins.head begins.taken begins.read;
      gains = gains;
      spares = spares;
      noted = note begins.head begins.taken begins.read;
      carries = record { rest = rest; moves = begins.moves; keeps = keeps; lasts = lasts; sound = sound; gains = (noted_as begins.head.mark (item.Block b.block), note begins.head begins.taken begins.read) };
      depth = record { values = values; labels = labels };
      fresh = fresh;
    }
    heads_given region (Err f) keeps values labels begins came gains spares lasts sound fresh note = tt

    -- the block that was begun has none of its operations so far
    pub first_given : (r : Result BegunBlock E) → IfOk r (λ b. BeginsBlock types_at attr b before old names new) → IfOk r (λ b. b.first ≡ true)
    first_given (Ok b) begins = begins.block.is_first
    first_given (Err f) begins = tt

    pub leaves_given : (g : BegunRegion) (r : Result (Unit {0}) E) → (at : (place : ℕ) × IsRegion before.names (whole old.stream) old.state.ctx.now g g.isolated place) → new.state ≡ old.state → names.names ≡ before.names
        → OnOk r ((place : ℕ) → IsRegion before.names (whole old.stream) old.state.ctx.now g g.isolated place → EndsRegion types_at attr g.isolated place before old names new)
        → OnOk r (names.values ≡ left g.isolated before.values) → OnOk r (names.labels ≡ outer before.labels) → OnOk r ((m : ℕ) → IsSound m before old.state → IsSound m names new.state)
        → KeepsLive old.state.ctx.now old.state.ctx.now → OnOk r (Leaves types_at attr before old g names new)
    leaves_given g (Ok u) at same names_same ends values labels sound still = record {
      ends = ends;
      state = same;
      carries = record {
        rest = rest;
        moves = (ends at.0 at.1).moves;
        keeps = λ i text e. rw names_same e;
        lasts = subst (λ s. KeepsLive old.state.ctx.now s.ctx.now) (sym same) still;
        sound = λ m le h. sound m h;
        gains = gains_nothing (ap marks_of same);
      };
      values = values;
      labels = labels;
    }
    leaves_given g (Err f) at same names_same ends values labels sound still = tt

    pub ends_given : (b : BegunOperation) (r : Result (Unit {0}) E) → (o : OpenOperation T A) × IsBegun before.names (whole old.stream) old.state.ctx.now b o → KeepsNames before.names names.names → length names.values ≡ length before.values → length names.labels ≡ length before.labels
        → OnOk r ((o : OpenOperation T A) → IsBegun before.names (whole old.stream) old.state.ctx.now b o → EndsOperation types_at attr o b before old names new)
        → OnOk r (BecomesNamed (IsLocated old.state.src (whole old.stream)) before.names (whole old.stream) b.names old.state.ctx.now new.state.ctx.now b.op) → OnOk r (ModifiesOnly (TheOperation b.op ∷ []) old.state.ctx.now new.state.ctx.now)
        → OnOk r ((mark : Option (Mark ℕ)) (taken : Text) → (space_at ▷ mark_if_at) old.stream.rest ≡ Read mark taken new.stream.rest → marks_of new.state ≡ marks_of old.state ++ noted_as mark (item.Operation b.op))
        → OnOk r Lasting → OnOk r Sounding → OnOk r (Ends types_at attr before old b names new)
    ends_given b (Ok u) at keeps values labels ends own spares note lasts sound =
        let first = ends at.0 at.1 in
        record {
          ends = λ o begun. (ends o begun, λ mine view is has uses. own.so mine view is has uses o.names begun.names_are);
          spares = spares;
          noted = note;
          carries = record { rest = rest; moves = first.moves; keeps = keeps; lasts = lasts; sound = sound; gains = (noted_as first.mark (item.Operation b.op), note first.mark first.taken first.read) };
          depth = record { values = values; labels = labels };
        }
    ends_given b (Err f) at keeps values labels ends own spares note lasts sound = tt

    pub goes_given : (b next : BegunOperation) (r : Result (Unit {0}) E) → KeepsNames before.names names.names → length names.values ≡ length before.values → length names.labels ≡ length before.labels → marks_of new.state ≡ marks_of old.state
        → OnOk r (Moves old.stream new.stream) → OnOk r (GoesOn types_at attr before old b next names new) → OnOk r (ModifiesOnly (TheOperation b.op ∷ []) old.state.ctx.now new.state.ctx.now) → OnOk r Lasting → OnOk r Sounding
        → OnOk r (Continues types_at attr before old b next names new)
    goes_given b next (Ok u) keeps values labels same moves goes spares lasts sound = record {
      goes = goes;
      spares = spares;
      marks = same;
      carries = record { rest = rest; moves = moves; keeps = keeps; lasts = lasts; sound = sound; gains = gains_nothing same };
      depth = record { values = values; labels = labels };
    }
    goes_given b next (Err f) keeps values labels same moves goes spares lasts sound = tt

  module _ {X : Type 0} {P : ℕ → Type 0} (r : Result X (ParseFault A)) (keeps : KeepsNames before.names names.names) where
    -- what is left, where no mark was recorded
    pub spares_same : marks_of new.state ≡ marks_of old.state → ((m : ℕ) → m ≤ old.state.ctx.now.graph.made → P m → KeepsOlder m old.state.ctx.now new.state.ctx.now) → Spares P before old.state r names new.state
    spares_same same kept = record { remains = always_err r (record { rest = rest; gains = gains_nothing same }); names = keeps; kept = λ m le closed sound all. kept m le all }

    -- and where some were
    pub spares_more : OnErr r (GainsMarks (marks_of old.state) (marks_of new.state))
        → ((m : ℕ) → m ≤ old.state.ctx.now.graph.made → IsClosedBelow m old.state.ctx.now.graph → IsSound m before old.state → P m → KeepsOlder m old.state.ctx.now new.state.ctx.now) → Spares P before old.state r names new.state
    spares_more gains kept = record { remains = on_err r (λ g. record { rest = rest; gains = g }) gains; names = keeps; kept = kept }
