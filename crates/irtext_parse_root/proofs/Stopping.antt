-- A turn was an error: whatever frames are open, the text is at fault or an action fails.
use Rattle.std.proofs.Common.{◌≡◌, ◌∙◌, ◌+◌, ◌<◌, ℕ, zero, suc, Bool, true, false, List, [], ◌∷◌, drop, length, slice_get, Some, refl, sym, ap, subst, arith, inl, inr}
use Rattle.irtext_base.specs.Text.{Text, after_space}
use Rattle.irtext_base.specs.Faults.{id_of}
use Rattle.irtext_base.specs.Stream.{StreamView}
use Rattle.irtext_base.specs.Locations.{AttrView}
use Rattle.irtext_base.specs.declared.parsable.fault.ParseFault.{ParseFault}
use Rattle.irtext_context.specs.Context.{ContextView}
use Rattle.irtext_tokens.specs.AttrTexts.{attr_at}
use Rattle.irtext_tokens.specs.Infix.{Reader}
use Rattle.irtext_parse_state.specs.declared.parsable.state.StateStream.{StateStream}
use Rattle.irtext_grammar.specs.Contexts.Formats.{isolated}
use Rattle.irtext_grammar.specs.Contexts.Held.{whole}
use Rattle.irtext_grammar.specs.Grammar.Tree.{Name}
use Rattle.irtext_grammar.specs.Promises.Root.{UnlessMemory}
use Rattle.irtext_grammar.proofs.Joins.Answers.{Splits}
use Rattle.irtext_grammar.specs.Heads.{Step, one, all}
use Rattle.irtext_grammar.specs.Reached.{begins_region, begins_block, steps_in}
use Rattle.irtext_grammar.specs.Resume.{OpenOperation}
use Rattle.irtext_grammar.proofs.Resume.Front.{splits_piece}
use Rattle.irtext_grammar.specs.Unchanged.{OwnSoFar}
use Rattle.irtext_names.specs.Rows.{AreKnown}
use Rattle.irtext_grammar.specs.declared.parsed.ReadName.{ReadName}
use Rattle.irtext_grammar.specs.Parsed.{Leaves, Represents, Each}
use Rattle.irtext_parse_nested.specs.declared.frame.BegunOperation.{BegunOperation}
use Rattle.irtext_parse_nested.specs.declared.frame.BegunRegion.{BegunRegion}
use Rattle.irtext_parse_nested.specs.declared.frame.BegunBlock.{BegunBlock}
use Rattle.irtext_parse_nested.specs.OpenOperation.{IsBegun, IsRegion}
use Rattle.irtext_names.specs.Definitions.{numbers_of}
use Rattle.irtext_names.specs.Items.{Names, doing}
use Rattle.irtext_parse_nested.specs.Read as read
use Rattle.irtext_parse_nested.specs.Read.{RefusesOperation, RefusesPiece, RefusesEnd, RefusesRegion, RefusesRegionEnd, RefusesBlock}
use Rattle.irtext_parse_pieces.specs.declared.coming.Coming.TheVariants as comes
use Rattle.irtext_parse_root.specs.declared.frames.Frame.{Frame}
use Rattle.irtext_parse_root.specs.declared.frames.Frame.TheVariants as framed
use Rattle.irtext_parse_root.specs.Here.{Base, IsHere, AreHere}
use Rattle.irtext_parse_root.specs.Levels.{Level, at_operation}
use Rattle.irtext_parse_root.specs.OperationFollows.{operation_follows, text_there, PassesTo}
use Rattle.irtext_parse_root.specs.Recorded.{recorder}
use Rattle.irtext_parse_root.specs.Turned.{Faulted, Stops}
use Rattle.irtext_parse_root.specs.Turns.{IsNext}
use Rattle.irtext_parse_root.proofs.Chains.{moved_whole}
use Rattle.irtext_parse_root.proofs.Faulting.{no_operation_begins, no_piece_comes, no_end_comes, no_region_begins, no_other_begins, no_block_begins, no_brace_comes}
use Rattle.irtext_parse_root.proofs.Owns.{piece_comes, region_comes, regions_come, end_comes, steps_here, no_steps_here}
use Rattle.irtext_parse_root.proofs.Proceeding.{loops, operation_first, region_first, block_first}
use Rattle.irtext_parse_root.proofs.Turning.{with_stream}

-- ---- names that were parsed are known
number_within : (names : List Text) (n : ℕ) (x : Text) → slice_get names n ≡ Some x → n < length names
number_within [] zero x e = absurd (cc e)
number_within [] (suc n) x e = absurd (cc e)
number_within (y ∷ names) zero x e = omega arith
number_within (y ∷ names) (suc n) x e = let k = number_within names n x e in omega (arith, k)

pub names_known : (names : List Text) (text : Text) (ns : List ReadName) (xs : List (Name ℕ)) → Each (Represents names text) ns xs → AreKnown (length names) (numbers_of ns)
names_known names text [] xs h = tt
names_known names text (n ∷ ns) [] h = absurd h
names_known names text (n ∷ ns) (x ∷ xs) h = (number_within names n.name x.text h.0.named, names_known names text ns xs h.1)

-- those of an operation that is open
pub operation_known : {T A : Type 0} (text : Text) (ctx : ContextView T A) (names : Names) (b : BegunOperation) (frames : List Frame) → AreHere T A text ctx names (Some (framed.Operation b)) frames → AreKnown (length names.names) (numbers_of b.names)
operation_known {T} {A} text ctx names b frames s =
    let q = operation_first b s.ls s.here.next_is in
    let here = subst (λ z. IsHere s.base s.v s.l z names text ctx (Some (framed.Operation b)) frames) q.3 s.here in
    names_known names.names text b.names q.0.names here.levels.0.0.names_are

module _ {T A U : Type 0} (types_at : Reader T) (reading : Reader A) (h : Splits types_at) (k : Splits reading) (before : Names) (old : StateStream T A U) (frames : List Frame) (fault : ParseFault A) where
  abbrev attr : Reader (AttrView A)
  attr = attr_at reading

  abbrev ctx : ContextView T A
  ctx = old.state.ctx.now

  -- there is no turn
  abbrev NoTurn : List (Level T A) → Type 0
  NoTurn ls = UnlessMemory (Faulted types_at attr ctx.dialects ls before old) fault

  module _ (b : BegunOperation) (committed : fault.committed ≡ true) where
    -- wherever the operation is open
    operation_stops : ((base : Base) (v l : ℕ) (o : OpenOperation T A) (own : OwnSoFar T A) (more : List (Level T A)) → IsHere base v l (at_operation b o own ∷ more) before (whole old.stream) ctx (Some (framed.Operation b)) frames → NoTurn (at_operation b o own ∷ more))
        → Stops types_at attr (framed.Operation b) frames before old fault
    operation_stops stops = record {
      committed = committed;
      stops = λ base v l ls here.
          let q = operation_first b ls here.next_is in
          subst NoTurn (sym q.3) (stops base v l q.0 q.1 q.2 (subst (λ z. IsHere base v l z before (whole old.stream) ctx (Some (framed.Operation b)) frames) q.3 here));
    }

    pub piece_stops : IsNext ctx.dialects b comes.Piece → ((o : OpenOperation T A) (step : Step) (ss : List Step) → IsBegun before.names (whole old.stream) ctx b o → o.steps ≡ step ∷ ss → UnlessMemory (RefusesPiece types_at attr o step before old) fault)
        → Stops types_at attr (framed.Operation b) frames before old fault
    piece_stops is refused = operation_stops (λ base v l o own more here.
        let s = piece_comes (slice_get (steps_in ctx.dialects (id_of b.id)) b.step) is in
        let e = steps_here before.names (whole old.stream) ctx b o here.levels.0.0 s.0 s.1 in
        no_piece_comes types_at attr before old fault b o own more s.0 (drop (b.step + 1) (steps_in ctx.dialects (id_of b.id))) e s.2 (refused o s.0 (drop (b.step + 1) (steps_in ctx.dialects (id_of b.id))) here.levels.0.0 e))

    pub end_stops : IsNext ctx.dialects b comes.End → ((o : OpenOperation T A) → IsBegun before.names (whole old.stream) ctx b o → UnlessMemory (RefusesEnd types_at attr o b before old) fault) → Stops types_at attr (framed.Operation b) frames before old fault
    end_stops is refused = operation_stops (λ base v l o own more here.
        no_end_comes types_at attr before old fault b o own more (no_steps_here before.names (whole old.stream) ctx b o here.levels.0.0 (end_comes (slice_get (steps_in ctx.dialects (id_of b.id)) b.step) is)) (refused o here.levels.0.0))

    module _ (v : StreamView) (passes : PassesTo (after_space old.stream.rest) old.stream v) (iso : Bool) (iso_is : iso ≡ isolated ctx.dialects (id_of b.id)) (refused : UnlessMemory (RefusesRegion types_at attr iso before (with_stream old v)) fault) where
      pub region_stops : IsNext ctx.dialects b comes.Region → Stops types_at attr (framed.Operation b) frames before old fault
      region_stops is = operation_stops (λ base u l o own more here.
          let s = region_comes (slice_get (steps_in ctx.dialects (id_of b.id)) b.step) is in
          let e = steps_here before.names (whole old.stream) ctx b o here.levels.0.0 (one s.0) s.1 in
          no_region_begins types_at attr before old fault b o own more v passes.rest (moved_whole old.stream v passes.moves) iso (iso_is ∙ ap (isolated ctx.dialects) here.levels.0.0.id) s.0 (drop (b.step + 1) (steps_in ctx.dialects (id_of b.id)))
          (loops types_at reading h k before old recorder) (λ path. loops types_at reading h k before old (doing ctx.dialects path)) e refused)

      pub another_stops : IsNext ctx.dialects b comes.Regions → begins_region (after_space old.stream.rest) ≡ true → Stops types_at attr (framed.Operation b) frames before old fault
      another_stops is follows_on = operation_stops (λ base u l o own more here.
          let e = steps_here before.names (whole old.stream) ctx b o here.levels.0.0 all (regions_come (slice_get (steps_in ctx.dialects (id_of b.id)) b.step) is) in
          no_other_begins types_at attr before old fault b o own more v passes.rest (moved_whole old.stream v passes.moves) iso (iso_is ∙ ap (isolated ctx.dialects) here.levels.0.0.id) (drop (b.step + 1) (steps_in ctx.dialects (id_of b.id)))
          (λ path. loops types_at reading h k before old (doing ctx.dialects path)) e follows_on refused)

  module _ (r : BegunRegion) (committed : fault.committed ≡ true) (v : StreamView) (passes : PassesTo (after_space old.stream.rest) old.stream v) where
    pub block_stops : begins_block (after_space old.stream.rest) ≡ true → UnlessMemory (RefusesBlock types_at attr before (with_stream old v)) fault → Stops types_at attr (framed.Region r) frames before old fault
    block_stops follows_on refused = record {
      committed = committed;
      stops = λ base u l ls here.
          let q = region_first r ls here.next_is in
          subst NoTurn (sym q.4) (no_block_begins types_at attr before old fault (loops types_at reading h k before old recorder) r q.0 q.1 q.2 q.3 v passes.rest (moved_whole old.stream v passes.moves) follows_on refused);
    }

    pub left_stops : begins_block (after_space old.stream.rest) ≡ false → ((place : ℕ) → IsRegion before.names (whole v) ctx r r.isolated place → UnlessMemory (RefusesRegionEnd types_at attr r.isolated place before (with_stream old v)) fault)
        → Stops types_at attr (framed.Region r) frames before old fault
    left_stops none refused = record {
      committed = committed;
      stops = λ base u l ls here.
          let q = region_first r ls here.next_is in
          let there = subst (λ z. IsHere base u l z before (whole old.stream) ctx (Some (framed.Region r)) frames) q.4 here in
          let same = moved_whole old.stream v passes.moves in
          subst NoTurn (sym q.4) (no_brace_comes types_at attr before old fault (loops types_at reading h k before old recorder) r q.0 q.1 q.2 q.3 v passes.rest same none
          (subst (λ i. UnlessMemory (RefusesRegionEnd types_at attr i q.1 before (with_stream old v)) fault) there.levels.0.is_isolated
          (refused q.1 (record { is_isolated = refl; placed = subst (λ t. Leaves t r.at q.1) (sym same) there.levels.0.placed; alive = there.levels.0.alive }))));
    }

  -- each fault of an operation in a block is committed
  operation_commits : (v : StreamView) → UnlessMemory (RefusesOperation types_at attr true before (with_stream old v)) fault → fault.committed ≡ true
  operation_commits v (inl ran_out) = ran_out.flag
  operation_commits v (inr (read.no_lead d flag)) = flag
  operation_commits v (inr (read.no_front names id lead middle e d flag)) = flag
  operation_commits v (inr (read.no_uses rest q f)) = f.is.committed

  pub begin_stops : (kb : BegunBlock) (v : StreamView) → PassesTo (text_there kb.first old.stream.rest) old.stream v → operation_follows kb.first old.stream.rest ≡ true
      → UnlessMemory (RefusesOperation types_at attr true before (with_stream old v)) fault → Stops types_at attr (framed.Block kb) frames before old fault
  begin_stops kb v passes follows_on refused = record {
    committed = operation_commits v refused;
    stops = λ base u l ls here.
        let q = block_first base ctx.dialects u kb ls here.next_is here.nest in
        subst NoTurn (sym q.5) (elim refused [
          | inl ran_out ↦ inl ran_out
          | inr f ↦ inr (no_operation_begins types_at attr before old fault (loops types_at reading h k before old recorder) (splits_piece types_at reading h k true) base kb q.0 q.1 q.2 q.3 q.4 v follows_on passes.rest (moved_whole old.stream v passes.moves) f)
        ]);
  }

-- ---- what is required of the turns of the open frames
module _ {T A : Type 0} (text : Text) (ctx : ContextView T A) (names : Names) (frames : List Frame) where
  pub operation_there : (b : BegunOperation) → AreHere T A text ctx names (Some (framed.Operation b)) frames → (o : OpenOperation T A) × IsBegun names.names text ctx b o
  operation_there b s =
      let q = operation_first b s.ls s.here.next_is in
      let here = subst (λ z. IsHere s.base s.v s.l z names text ctx (Some (framed.Operation b)) frames) q.3 s.here in
      (q.0, here.levels.0.0)

  pub piece_there : (b : BegunOperation) → IsNext ctx.dialects b comes.Piece → AreHere T A text ctx names (Some (framed.Operation b)) frames
      → (o : OpenOperation T A) × (step : Step) × (ss : List Step) × IsBegun names.names text ctx b o × (o.steps ≡ step ∷ ss)
  piece_there b is s =
      let at = operation_there b s in
      let p = piece_comes (slice_get (steps_in ctx.dialects (id_of b.id)) b.step) is in
      (at.0, p.0, drop (b.step + 1) (steps_in ctx.dialects (id_of b.id)), at.1, steps_here names.names text ctx b at.0 at.1 p.0 p.1)

  pub region_there : (r : BegunRegion) (other : Text) → other ≡ text → AreHere T A text ctx names (Some (framed.Region r)) frames → (place : ℕ) × IsRegion names.names other ctx r r.isolated place
  region_there r other same s =
      let q = region_first r s.ls s.here.next_is in
      let here = subst (λ z. IsHere s.base s.v s.l z names text ctx (Some (framed.Region r)) frames) q.4 s.here in
      (q.1, record { is_isolated = refl; placed = subst (λ t. Leaves t r.at q.1) (sym same) here.levels.0.placed; alive = here.levels.0.alive })
