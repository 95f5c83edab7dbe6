-- What is noted of a name stands in the text at its place, however far the text is parsed.
use Rattle.std.proofs.Common.{◌≡◌, ℕ, zero, suc, Bool, true, false, cond, List, [], ◌∷◌, ◌++◌, flat_map, length, codes, refl, subst}
use Rattle.std.specs.Cmp.Lexicographic.{bytes_decides}
use Rattle.std.specs.Prelude.{⊤}
use Rattle.std.specs.Str.{bytes_eq}
use Rattle.irtext_base.specs.Text.{Text, after_space}
use Rattle.irtext_base.specs.Answers.{Outcome, Read, Missing, Bad}
use Rattle.irtext_base.specs.Format.{Id}
use Rattle.irtext_base.specs.Locations.{AttrView}
use Rattle.irtext_base.specs.Own.{texts_of}
use Rattle.irtext_context.specs.Dialects.{Table}
use Rattle.irtext_tokens.specs.AttrTexts.{attr_at}
use Rattle.irtext_tokens.specs.Infix.{◌▷◌}
use Rattle.irtext_tokens.specs.Tokens.{space_at, word}
use Rattle.irtext_grammar.specs.Contexts.Formats.{format_of, isolated}
use Rattle.irtext_grammar.specs.Grammar.Tree as tree
use Rattle.irtext_grammar.specs.Grammar.Tree.{Name, Piece, Part}
use Rattle.irtext_grammar.specs.Heads.{Step, flat, types, one, all, front_steps, region_steps, piece_at, head_at, led_at, mark_if_at, setting}
use Rattle.irtext_grammar.specs.Reached.{Reached, Advanced, Stopped, came, tells, Actions, Reads, begins_operation, steps_in, regions_by, more_by, operations_by, blocks_by, front_by, steps_by, end_by, body_by, operation_by, block_by, region_by, region_within, region_at, operation_at}
use Rattle.irtext_grammar.specs.Readers.Parts.{without_first}
use Rattle.irtext_grammar.specs.Spelling.Spellable.{Each}
use Rattle.irtext_grammar.proofs.Exact.Head.{exact_head}
use Rattle.irtext_grammar.proofs.Exact.Lead.{exact_led}
use Rattle.irtext_grammar.proofs.Exact.Names.{exact_mark_if}
use Rattle.irtext_grammar.proofs.Exact.Pieces.{piece_read}
use Rattle.irtext_grammar.proofs.Joins.Answers.{Splits, followed_read}
use Rattle.irtext_grammar.proofs.Joins.Tokens.{splits_space, splits_text}
use Rattle.irtext_grammar.proofs.Knot.Alike.{IsLoop}
use Rattle.irtext_grammar.proofs.Knot.Bound.{regions_loop, more_loop, blocks_loop}
use Rattle.irtext_grammar.proofs.Lists.Each.{each_both}
use Rattle.irtext_survey.specs.Mentioned.{spelled, HasAt}
use Rattle.irtext_survey.specs.Notes.{Noted, nothing_noted, noter, noted_in, state_of, notes_of, mentioned, piece_uses, part_uses, head_names}
use Rattle.irtext_survey.specs.declared.notes.Mention.{Mention}
use Rattle.irtext_survey.specs.declared.notes.Mention.TheVariants.{DefinesValue}
use Rattle.irtext_survey.specs.declared.notes.Note.{Note}
use Rattle.irtext_survey.specs.declared.notes.Note.TheVariants.{Mentions, Enters, Leaves}
use Rattle.irtext_survey.proofs.Spelled.{IsEnd, end_later, end_spaced, IsSpelled, IsThere, results_spelled, piece_spelled, head_spelled, lead_spelled}

module _ (whole name : Text) where
  -- a mention that was noted stands at its place
  abbrev pub IsThereNoted : Note ℕ → Type 0
  IsThereNoted (Mentions m k) = HasAt whole (spelled m name) k
  IsThereNoted (Enters iso) = ⊤
  IsThereNoted (Leaves iso k) = ⊤

  -- so does each that was noted of these names
  notes_there : (ms : List (Mention × Name ℕ)) → Each (IsSpelled whole) ms → Each IsThereNoted (notes_of name ms)
  notes_there [] e = tt
  notes_there (m ∷ ms) e = go (bytes_eq m.1.text name) refl (notes_there ms e.1)
    where
      go : (b : Bool) → bytes_eq m.1.text name ≡ b → Each IsThereNoted (notes_of name ms) → Each IsThereNoted (cond b (Mentions m.0 m.1.place ∷ notes_of name ms) (notes_of name ms))
      go true q h = (subst (λ t. HasAt whole (spelled m.0 t) m.1.place) ((bytes_decides m.1.text name).0 q) e.0, h)
      go false q h = h

  -- all that was noted
  abbrev pub AllThere : Noted → Type 0
  AllThere s = Each IsThereNoted s.notes

  more_there : (s : Noted) (more : List (Note ℕ)) → AllThere s → Each IsThereNoted more → Each IsThereNoted (s.notes ++ more)
  more_there s more h k = each_both IsThereNoted s.notes more h k

  -- ---- a parse
  -- what a parse comes to, or is stuck with
  abbrev Fine : {X : Type 0} → (X → Type 0) → Reached X Noted → Type 0
  Fine Q (Advanced x s rest) = Q x × AllThere s × IsEnd whole rest
  Fine Q (Stopped s cause place) = AllThere s

  -- the same, as a record
  record Keeps {X : Type 0} (Q : X → Type 0) (o : Reached X Noted) : Type 0 where
    pub says : Fine Q o

  module _ {X : Type 0} {Q : X → Type 0} where
    keeps_came : (x : X) (s : Noted) (rest : Text) → Q x → AllThere s → IsEnd whole rest → Keeps Q (Advanced x s rest)
    keeps_came x s rest q h e = record { says = (q, h, e) }

    keeps_if : (b : Bool) (o p : Reached X Noted) → Keeps Q o → Keeps Q p → Keeps Q (cond b o p)
    keeps_if true o p h k = h
    keeps_if false o p h k = k

    -- what follows a parse
    keeps_next : {Y : Type 0} {R : Y → Type 0} (o : Reached Y Noted) (next : Y → Noted → Text → Reached X Noted) → Keeps R o → ((y : Y) (s : Noted) (rest : Text) → R y → AllThere s → IsEnd whole rest → Keeps Q (next y s rest)) → Keeps Q (came o next)
    keeps_next (Advanced y s rest) next h k = k y s rest h.says.0 h.says.1 h.says.2
    keeps_next (Stopped s cause place) next h k = record { says = h.says }

    -- what follows something that is required
    keeps_tells : {Y : Type 0} (o : Outcome Y) (text : Text) (s : Noted) (next : Y → Text → Reached X Noted) → AllThere s → ((y : Y) (taken rest : Text) → o ≡ Read y taken rest → Keeps Q (next y rest)) → Keeps Q (tells o text s next)
    keeps_tells (Read y taken rest) text s next h k = k y taken rest refl
    keeps_tells (Missing cause) text s next h k = record { says = h }
    keeps_tells (Bad cause upto) text s next h k = record { says = h }

  abbrev Any : Unit {0} → Type 0
  Any u = ⊤

  -- each parse of an end of the text
  record AllKeep (f : Reads Noted) : Type 0 where
    pub at : (text : Text) (s : Noted) → IsEnd whole text → AllThere s → Keeps Any (f text s)

  -- items as long as the text passes a test
  loop_keeps : {test : Text → Bool} {item : Reads Noted} {loop : ℕ → Reads Noted} → IsLoop test item loop → AllKeep item → (n : ℕ) → AllKeep (loop n)
  loop_keeps i h zero = record { at = λ text s e k. rw (i.none text s) (keeps_came tt s text tt k e) }
  loop_keeps {test} {item} {loop} i h (suc n) = record {
    at = λ text s e k. rw (i.more n text s) (keeps_if (test text) _ _
        (keeps_next (item text s) (λ _ t rest. loop n (after_space rest) t) (h.at text s e k) (λ _ t rest q l f. (loop_keeps i h n).at (after_space rest) t (end_spaced f) l))
        (keeps_came tt s text tt k e));
  }

  -- what follows a `;`
  semicolon_keeps : (item : Reads Noted) → AllKeep item → AllKeep (λ text s. item (after_space (without_first text)) s)
  semicolon_keeps item h = record { at = go }
    where
      go : (text : Text) (s : Noted) → IsEnd whole text → AllThere s → Keeps Any (item (after_space (without_first text)) s)
      go [] s e k = h.at [] s e k
      go (c ∷ text) s e k = h.at (after_space text) s (end_spaced (end_later (c ∷ []) text refl e)) k

  operations_keep : (item : Reads Noted) → AllKeep item → AllKeep (operations_by item)
  operations_keep item h = record {
    at = λ text s e k. keeps_if (begins_operation text) _ _
        (keeps_next (item text s) (λ _ t rest. more_by item (length rest) (after_space rest) t) (h.at text s e k) (λ _ t rest q l f.
        (loop_keeps (more_loop item) (semicolon_keeps item h) (length rest)).at (after_space rest) t (end_spaced f) l))
        (keeps_came tt s text tt k e);
  }

  module _ {T A : Type 0} (types_at : Text → Outcome T) (types_written : T → Text) (reading : Text → Outcome A) (written : A → Text) (dialects : List (Text × Table)) (types_split : Splits types_at) (splits : Splits reading) where
    abbrev attr : Text → Outcome (AttrView A)
    attr = attr_at reading

    abbrev does : Actions T A Noted
    does = noter name

    -- the names that a part uses
    abbrev PartThere : Part ℕ T A → Type 0
    PartThere p = Each (IsSpelled whole) (part_uses p)

    parts_there : (ps : List (Part ℕ T A)) → Each PartThere ps → Each (IsSpelled whole) (flat_map part_uses ps)
    parts_there [] e = tt
    parts_there (p ∷ ps) e = each_both (IsSpelled whole) (part_uses p) (flat_map part_uses ps) e.0 (parts_there ps e.1)

    -- a piece after white space
    record PieceThere (p : Piece ℕ T A) (rest : Text) : Type 0 where
      pub spelled_so : Each (IsSpelled whole) (piece_uses p)
      pub ends : IsEnd whole rest

    piece_there : (step : Step) (text : Text) (p : Piece ℕ T A) (taken rest : Text) → IsEnd whole text → (space_at ▷ piece_at types_at attr (setting true true) step) text ≡ Read p taken rest → PieceThere p rest
    piece_there step text p taken rest h e =
        let a = followed_read (space_at text) (λ _ t. piece_at types_at attr (setting true true) step t) p taken rest e in
        let r = piece_read types_at types_written reading written (format_of dialects) types_split splits step a.middle p a.more rest a.second in
        let f = end_later a.front a.middle (splits_space text a.value a.front a.middle a.first) h in
        record { spelled_so = piece_spelled whole types_at types_written reading written dialects types_split p a.middle rest f r.0.1; ends = end_later a.more rest r.1 f }

    front_keeps : (ss : List Step) (ps : List (Part ℕ T A)) (text : Text) (s : Noted) → IsEnd whole text → AllThere s → Each PartThere ps → Keeps (Each PartThere) (front_by dialects types_at attr does (setting true true) ss ps text s)
    front_keeps [] ps text s e h k = keeps_came ps s text k h e
    front_keeps (step ∷ ss) ps text s e h k = keeps_tells _ text s _ h (λ p taken rest r.
        let w = piece_there step text p taken rest e r in
        front_keeps ss (ps ++ tree.piece p ∷ []) rest s w.ends h (each_both PartThere ps (tree.piece p ∷ []) k (w.spelled_so, tt)))

    end_keeps : (place : ℕ) (names : List (Name ℕ)) (id : Id) (parts : List (Part ℕ T A)) (text : Text) (s : Noted) → Each (IsThere whole) names → IsEnd whole text → AllThere s → Keeps Any (end_by dialects types_at attr does place names id parts text s)
    end_keeps place names id parts text s n e h =
        let l : Each IsThereNoted (s.notes ++ notes_of name (mentioned DefinesValue names)) = more_there s (notes_of name (mentioned DefinesValue names)) h (notes_there (mentioned DefinesValue names) (results_spelled whole names n)) in
        keeps_tells ((space_at ▷ mark_if_at) text) text (does.closes place names id parts s) _ l (λ m taken rest r.
        let a = followed_read (space_at text) (λ _ t. mark_if_at t) m taken rest r in
        let f = end_later a.front a.middle (splits_space text a.value a.front a.middle a.first) e in
        let k = (exact_mark_if (texts_of types_at types_written) (texts_of reading written) (format_of dialects)).read a.middle m a.more rest a.second in
        keeps_came tt (does.marks m (does.closes place names id parts s)) rest tt l (end_later a.more rest k.1 f))

    -- ---- given the parsers of regions
    module _ (inner : Bool → Reads Noted) (inner_keeps : (iso : Bool) → AllKeep (inner iso)) where
      piece_next : (iso : Bool) (place : ℕ) (id : Id) (p : Piece ℕ T A) (s : Noted) → Each (IsSpelled whole) (piece_uses p) → AllThere s → AllThere (does.late place id p s)
      piece_next iso place id p s k h = more_there s (notes_of name (piece_uses p)) h (notes_there (piece_uses p) k)

      steps_keep : (iso : Bool) (place : ℕ) (id : Id) (ss : List Step) (ps : List (Part ℕ T A)) (text : Text) (s : Noted) → IsEnd whole text → AllThere s → Keeps (λ (qs : List (Part ℕ T A)). ⊤) (steps_by dialects types_at attr does (inner iso) place id ss ps text s)
      steps_keep iso place id [] ps text s e h = keeps_came ps s text tt h e
      steps_keep iso place id (one i ∷ ss) ps text s e h =
          keeps_next (inner iso (after_space text) s) _ ((inner_keeps iso).at (after_space text) s (end_spaced e) h) (λ _ t rest q l f. steps_keep iso place id ss (ps ++ tree.region i ∷ []) rest t f l)
      steps_keep iso place id (all ∷ ss) ps text s e h =
          keeps_next (regions_by (inner iso) (length text) (after_space text) s) _ ((loop_keeps (regions_loop (inner iso)) (inner_keeps iso) (length text)).at (after_space text) s (end_spaced e) h)
          (λ _ t rest q l f. steps_keep iso place id ss (ps ++ tree.regions ∷ []) rest t f l)
      steps_keep iso place id (flat d ∷ ss) ps text s e h = keeps_tells _ text s _ h (λ p taken rest r.
          let w = piece_there (flat d) text p taken rest e r in
          steps_keep iso place id ss (ps ++ tree.piece p ∷ []) rest (does.late place id p s) w.ends (piece_next iso place id p s w.spelled_so h))
      steps_keep iso place id (types ∷ ss) ps text s e h = keeps_tells _ text s _ h (λ p taken rest r.
          let w = piece_there types text p taken rest e r in
          steps_keep iso place id ss (ps ++ tree.piece p ∷ []) rest (does.late place id p s) w.ends (piece_next iso place id p s w.spelled_so h))

      body_keeps : (iso : Bool) (place : ℕ) (names : List (Name ℕ)) (id : Id) (text : Text) (s : Noted) → Each (IsThere whole) names → IsEnd whole text → AllThere s → Keeps Any (body_by dialects types_at attr does (inner iso) true place names id text s)
      body_keeps iso place names id text s n e h =
          keeps_next _ _ (front_keeps (front_steps (steps_in dialects id)) [] text s e h tt) (λ ps t rest k l f.
          keeps_next _ _ (steps_keep iso place id (region_steps (steps_in dialects id)) ps rest (does.uses place id ps t) f (more_there t (notes_of name (flat_map part_uses ps)) l (notes_there (flat_map part_uses ps) (parts_there ps k)))) (λ parts u left q m g.
          end_keeps place names id parts left u n g m))

      operation_keeps : AllKeep (operation_by dialects types_at attr does inner true)
      operation_keeps = record {
        at = λ text s e h. keeps_tells (led_at dialects text) text s _ h (λ lead taken rest r.
            let k = (exact_led dialects (texts_of types_at types_written) (texts_of reading written)).read text lead taken rest r in
            body_keeps (isolated dialects lead.1) (length text) lead.0 lead.1 rest s (lead_spelled whole types_at types_written reading written dialects types_split lead text rest e k.0.1) (end_later taken rest k.1 e) h);
      }

      block_keeps : AllKeep (block_by dialects types_at attr does (operations_by (operation_by dialects types_at attr does inner true)))
      block_keeps = record {
        at = λ text s e h. keeps_tells (head_at types_at attr text) text s _ h (λ b taken rest r.
            let k = (exact_head types_at types_written reading written (format_of dialects) types_split splits).read text b taken rest r in
            (operations_keep _ operation_keeps).at (after_space rest) (does.heads b s) (end_spaced (end_later taken rest k.1 e))
            (more_there s (notes_of name (head_names b)) h (notes_there (head_names b) (head_spelled whole types_at types_written reading written dialects types_split b text rest e k.0))));
      }

      region_keeps : (iso : Bool) → AllKeep (region_by dialects types_at attr does (λ rest t. blocks_by (block_by dialects types_at attr does (operations_by (operation_by dialects types_at attr does inner true))) (length rest) rest t) iso)
      region_keeps iso = record {
        at = λ text s e h.
            let l : Each IsThereNoted (s.notes ++ Enters iso ∷ []) = more_there s (Enters iso ∷ []) h (tt, tt) in
            keeps_tells ((word (codes "{") ▷ space_at) text) text (does.enters iso s) _ l (λ u taken rest r.
            let a = followed_read (word (codes "{") text) (λ _ t. space_at t) u taken rest r in
            let f = end_later a.more rest (splits_space a.middle u a.more rest a.second) (end_later a.front a.middle (splits_text (codes "{") text a.value a.front a.middle a.first) e) in
            keeps_next _ _ ((loop_keeps (blocks_loop _) block_keeps (length rest)).at rest (does.enters iso s) f l) (λ _ t left q m g.
            keeps_tells (word (codes "}") left) left t _ m (λ v took end z.
            keeps_came tt (does.leaves iso (length text) t) end tt (more_there t (Leaves iso (length text) ∷ []) m (tt, tt)) (end_later took end (splits_text (codes "}") left v took end z) g))));
      }

    within_keeps : (n : ℕ) (iso : Bool) → AllKeep (region_within dialects types_at attr does n iso)
    within_keeps zero iso = record { at = λ text s e h. record { says = h } }
    within_keeps (suc n) iso = record { at = λ text s e h. (region_keeps (region_within dialects types_at attr does n) (within_keeps n) iso).at text s e h }

    region_at_keeps : (iso : Bool) → AllKeep (region_at dialects types_at attr does iso)
    region_at_keeps iso = record { at = λ text s e h. (within_keeps (suc (length text)) iso).at text s e h }

    state_there : (o : Reached Unit Noted) → Keeps Any o → AllThere (state_of o)
    state_there (Advanced u s rest) k = k.says.1
    state_there (Stopped s cause place) k = k.says

    -- all that is noted of the name in an operation
    pub noted_stands : (text : Text) → IsEnd whole text → AllThere (noted_in dialects types_at attr name text)
    noted_stands text e = state_there (operation_at dialects types_at attr does true text nothing_noted) ((operation_keeps (region_at dialects types_at attr does) region_at_keeps).at text nothing_noted e tt)
